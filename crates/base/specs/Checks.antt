-- Refusals as a row of checks, each a test and the number that it refuses by: the first that holds is the answer.
use Rattle.std.specs.Prelude.{Bool, List, [], ◌∷◌, ℕ, Result, Ok, Err, if◌then◌else◌}
use Rattle.base.specs.declared.Refusal.{Refusal}

pub record Check : Type 0 where
  pub holds : Bool
  pub number : ℕ

-- the check refuses by the number where the test holds
infix 80 ◌refuses◌
abbrev pub ◌refuses◌ : Bool → ℕ → Check
t refuses n = record { holds = t; number = n }

-- the number of the first check that holds; 0 where none does
abbrev pub refusal : List Check → ℕ
refusal [] = 0
refusal (c ∷ cs) = if c.holds then c.number else refusal cs

-- the refusal of this number, as an error
abbrev pub refused_by : ℕ → Refusal
refused_by n = record { number = n }

-- what comes of the checks: the refusal by the first that holds, if any
abbrev pub checked : List Check → Result (Unit {0}) Refusal
checked [] = Ok tt
checked (c ∷ cs) = if c.holds then Err (refused_by c.number) else checked cs
