-- What the paper's words say of the collector's answers, by cases: the number of a refusal (0 where there is none; specs/Numbers.antt says
-- which), the samples handed over, the gap, the end of a start. (The specification, "The collector" and "Refusal numbers".)
use Rattle.std.specs.Prelude.{ℕ, ◌≡◌, refl, Bool, true, false, ◌&&◌, ◌||◌, List, [], ◌∷◌, Result, Ok, Err, eqb, if◌then◌else◌}
use Rattle.base.specs.declared.Refusal.{Refusal}
use Rattle.samples.specs.declared.Sample.{Sample}
use Rattle.collector_phases.specs.declared.Collector.{Collector}
use Rattle.collector_phases.specs.declared.Access.{Access}
use Rattle.collector_phases.specs.declared.Access.TheVariants.{WriteByte, ReadByte, ReadWord}
use Rattle.collector_steps.specs.declared.Handed.{Handed}
use Rattle.collector_steps.specs.declared.Handed.TheVariants.{Nothing, StartEnd, OneSample, LastSample, Refused}

-- the refusal of a start
abbrev pub start_number : Result Collector Refusal → ℕ
start_number (Ok c) = 0
start_number (Err e) = e.number

-- the refusal of a question for the access
abbrev pub access_number : Result Access Refusal → ℕ
access_number (Ok (WriteByte o v)) = 0
access_number (Ok (ReadByte o)) = 0
access_number (Ok (ReadWord o)) = 0
access_number (Err e) = e.number

-- the refusal of an answer
abbrev pub handed_refusal : Handed → ℕ
handed_refusal Nothing = 0
handed_refusal StartEnd = 0
handed_refusal (OneSample y) = 0
handed_refusal (LastSample y) = 0
handed_refusal (Refused n) = n

-- the samples handed over
abbrev pub samples_of : Handed → List Sample
samples_of Nothing = []
samples_of StartEnd = []
samples_of (OneSample y) = y ∷ []
samples_of (LastSample y) = y ∷ []
samples_of (Refused n) = []

-- whether a gap is marked
abbrev pub gap_marked : Handed → Bool
gap_marked Nothing = false
gap_marked StartEnd = false
gap_marked (OneSample y) = false
gap_marked (LastSample y) = true
gap_marked (Refused n) = false

-- whether a start ends
abbrev pub start_ends : Handed → Bool
start_ends Nothing = false
start_ends StartEnd = true
start_ends (OneSample y) = false
start_ends (LastSample y) = false
start_ends (Refused n) = false

-- "a start ends with its last write, 9←02 or 03"
abbrev pub is_go : Result Access Refusal → Bool
is_go (Ok (WriteByte o v)) = eqb o 9 && (eqb v 2 || eqb v 3)
is_go (Ok (ReadByte o)) = false
is_go (Ok (ReadWord o)) = false
is_go (Err e) = false

-- the byte of the last write, 02 for the external clock and 03 for the internal one, is one of the two
pub is-go : (external : Bool) → (eqb (if external then 2 else 3) 2 || eqb (if external then 2 else 3) 3) ≡ true
is-go true = refl
is-go false = refl
