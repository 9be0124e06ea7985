-- Laws of choices and of rows of tests that proofs cite.
use Rattle.std.specs.Prelude.{◌≡◌, refl, Bool, true, false, not, ◌&&◌, ◌||◌, ℕ, ◌≤◌, if◌then◌else◌}
use Rattle.std.proofs.Common.{arith}

-- what both arms have, the choice has
pub by_choice : {A : Type 0} (P : A → Type 0) (b : Bool) {x y : A} → P x → P y → P (if b then x else y)
by_choice P true p q = p
by_choice P false p q = q

-- of two numbers within a bound the chosen one is within it
pub choice_le : (b : Bool) {x y m : ℕ} → x ≤ m → y ≤ m → (if b then x else y) ≤ m
choice_le true p q = p
choice_le false p q = q

-- what each arm has with the outcome of the test at hand, the choice has
pub by-test : {A : Type 0} (P : A → Type 0) (b : Bool) {x y : A} → (b ≡ true → P x) → (b ≡ false → P y) → P (if b then x else y)
by-test P true p q = p refl
by-test P false p q = q refl

-- no test has both outcomes
pub never : {A : Type 0} → false ≡ true → A
never h = absurd (let z : ◌≡◌ {A = ℕ} 0 1 = cc in omega arith)

-- where both hold, each does
pub both : (a b : Bool) → a && b ≡ true → (a ≡ true) × (b ≡ true)
both true b h = (refl, h)
both false b h = never h

-- where not even one of two holds, neither does
pub neither : (a b : Bool) → a || b ≡ false → (a ≡ false) × (b ≡ false)
neither true b h = (h, cc)
neither false b h = (refl, h)

-- where not both hold and the first does, the second does not
pub under_and : (a b : Bool) → (a && b) ≡ false → a ≡ true → b ≡ false
under_and true b h e = h
under_and false b h e = cc

-- what a denied test says
pub not_not : (t : Bool) → not t ≡ false → t ≡ true
not_not true h = refl
not_not false h = cc

pub not_true : (t : Bool) → not t ≡ true → t ≡ false
not_true true h = cc
not_true false h = refl
