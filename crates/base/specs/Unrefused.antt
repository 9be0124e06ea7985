-- Laws of a row of checks: nothing refuses where no check holds, and only there.
use Rattle.std.specs.Prelude.{◌≡◌, refl, Bool, true, false, List, [], ◌∷◌, ℕ, ◌≤◌, if◌then◌else◌}
use Rattle.std.proofs.Common.{arith}
use Rattle.base.specs.Checks.{Check, refusal}

-- no check of the row holds
abbrev pub NoneHold : List Check → Type 0
NoneHold [] = Unit {0}
NoneHold (c ∷ cs) = (c.holds ≡ false) × NoneHold cs

-- no check of the row has the number 0
abbrev pub NoneZero : List Check → Type 0
NoneZero [] = Unit {0}
NoneZero (c ∷ cs) = (1 ≤ c.number) × NoneZero cs

-- where a row does not refuse, its first check does not hold, and the rest does not refuse
pub passes : (t : Bool) (n : ℕ) (cs : List Check) → 1 ≤ n → (if t then n else refusal cs) ≡ 0 → (t ≡ false) × (refusal cs ≡ 0)
passes true n cs p h = absurd (omega arith)
passes false n cs p h = (refl, h)

-- nor does any other
pub none_hold : (cs : List Check) → NoneZero cs → refusal cs ≡ 0 → NoneHold cs
none_hold [] n h = tt
none_hold (c ∷ cs) n h = let e = passes c.holds c.number cs n.0 h in (e.0, none_hold cs n.1 e.1)

-- where none of its checks holds, a row does not refuse
pub none-refuses : (cs : List Check) → NoneHold cs → refusal cs ≡ 0
none-refuses [] w = refl
none-refuses (c ∷ cs) w = rw w.0 (none-refuses cs w.1)
