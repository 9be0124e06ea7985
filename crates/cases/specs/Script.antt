-- The line language of the programs that run named cases: `name: c14 w003 k0 o`, one case a line.
use Rattle.std.specs.Prelude.{ℕ, ◌+◌, ◌*◌, ◌%◌, Bool, true, false, not, ◌&&◌, ◌||◌, eqb, leb, if◌then◌else◌, Option, Some, None}
use Rattle.cases.specs.declared.script.Operation.{Operation}
use Rattle.cases.specs.declared.script.Script.{Script}
use Rattle.cases.specs.declared.script.Step.{Step}

abbrev pub fresh_script : Script
fresh_script = record { naming = true; operation = None }

-- '0' to '9', 'A' to 'F'
abbrev pub is_digit : ℕ → Bool
is_digit b = leb 48 b && leb b 57 || leb 65 b && leb b 70

abbrev pub digit_value : ℕ → ℕ
digit_value b = if leb b 57 then b % 16 else b % 16 + 9

-- a byte of the name is shown; the colon (58) ends the name, a line feed (10) the line
abbrev pub named : Script → ℕ → Step
named s b = record {
  script = record { naming = not (eqb b 58); operation = s.operation };
  operation = None;
  shown = true;
  ended = eqb b 10;
}

-- a lower-case letter begins an operation; a line feed begins a name
abbrev pub opened : ℕ → Script
opened b =
    if leb 97 b && leb b 122 then record { naming = false; operation = Some (record { letter = b; value = 0 }) }
    else record { naming = eqb b 10; operation = None }

-- an operation with one digit more: its value keeps 32 bits
abbrev pub longer : Operation → ℕ → Operation
longer o digit = record { letter = o.letter; value = o.value % 268435456 * 16 + digit % 16 }

-- the operation that has begun, if one has
abbrev pub lengthened : Option Operation → ℕ → Option Operation
lengthened (Some o) digit = Some (longer o digit)
lengthened None digit = None

-- a digit goes into the value, 32 bits of it; any other byte completes the operation
abbrev pub operated : Script → ℕ → Step
operated s b =
    if is_digit b then record {
      script = record { naming = s.naming; operation = lengthened s.operation (digit_value b) };
      operation = None;
      shown = false;
      ended = false;
    }
    else record { script = opened b; operation = s.operation; shown = eqb b 10; ended = eqb b 10 }

unfoldable pub stepped : Script → ℕ → Step
stepped s b = if s.naming then named s b else operated s b
