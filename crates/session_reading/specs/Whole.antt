-- The parts of a line that are read by functions of their own.
use Rattle.std.specs.Prelude.{ℕ, Bool, true, false, List, eqb, if◌then◌else◌}
use Rattle.session_reading.specs.Found.{Scanned}
use Rattle.session_reading.specs.declared.whole.Numeral.{Numeral}
use Rattle.session_reading.specs.declared.Number.{Number}
use Rattle.session_reading.specs.declared.Number.TheVariants.{WriteOffset, ReadOffset, Code}
use Rattle.session_reading.specs.declared.Reading.{Reading}
use Rattle.session_reading.specs.declared.Reading.TheVariants.{Blank, Letter, Begun, Zero, Digits, Offset, HalfValue, Whole, Single, Spoiled}

-- no byte of the line is read
unfoldable pub is_blank : Reading → Bool
is_blank Blank = true
is_blank (Letter number) = false
is_blank (Begun number) = false
is_blank (Zero number) = false
is_blank (Digits number n) = false
is_blank (Offset offset) = false
is_blank (HalfValue offset high) = false
is_blank (Whole offset v) = false
is_blank Single = false
is_blank Spoiled = false

-- the number that follows the letter W (87), R (82) or else C
unfoldable pub number_after : ℕ → Number
number_after letter = if eqb letter 87 then WriteOffset else if eqb letter 82 then ReadOffset else Code

-- a line whose number so far is n
unfoldable pub so_far : Number → ℕ → Reading
so_far number n = if eqb n 0 then Zero number else Digits number n

-- ---- what `more_digits` gives: the digits after the first one are read, whatever the number is of
pub record DigitsRead (first : ℕ) (piece : List ℕ) (from : ℕ) (r : Numeral) : Type 0 where
  pub digits : (number : Number) → Scanned (so_far number first) piece from (so_far number r.n) r.at
