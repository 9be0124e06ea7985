-- A flag that a record keeps as a number: 1 where it is set, 0 where it is clear. A host can lend a record with any other number there; such a
-- flag reads as clear, and no working record has one. What a host gives as a parameter is judged otherwise: 0 is no, any other number yes.
use Rattle.std.specs.Prelude.{◌≡◌, refl, Bool, true, false, not, ℕ, zero, suc, ◌≤◌, eqb}
use Rattle.std.proofs.Common.{arith}

-- whether the flag is set
abbrev pub on : ℕ → Bool
on n = eqb n 1

-- the flag that says so
abbrev pub flag : Bool → ℕ
flag true = 1
flag false = 0

pub on-flag : (b : Bool) → on (flag b) ≡ b
on-flag true = refl
on-flag false = refl

pub flag-le : (b : Bool) → flag b ≤ 1
flag-le true = omega arith
flag-le false = omega arith

-- a working record's flag is what it says
pub flag-on : (n : ℕ) → n ≤ 1 → flag (on n) ≡ n
flag-on zero h = refl
flag-on (suc zero) h = refl
flag-on (suc (suc n)) h = absurd (omega arith)

-- whether a number that a host gives means yes
abbrev pub nonzero : ℕ → Bool
nonzero n = not (eqb n 0)

-- both agree on a flag
pub nonzero-on : (n : ℕ) → n ≤ 1 → nonzero n ≡ on n
nonzero-on zero h = refl
nonzero-on (suc zero) h = refl
nonzero-on (suc (suc n)) h = absurd (omega arith)
