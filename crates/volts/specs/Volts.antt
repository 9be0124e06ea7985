-- What an A/D code stands for, in volts (manual, chapter 9.3; the specification, "Volts").
use Rattle.std.specs.Prelude.{◌≡◌, Bool, true, false, ℕ, ◌*◌, ◌/◌, ◌^◌, ℤ, pos, negsuc, nat_abs, ◌+ℤ◌, ◌*ℤ◌, Float, Option, Some, None}
use Rattle.std.specs.Float.{binary64}
use Rattle.std.specs.Float.Ieee.{round}
use Rattle.std.specs.Float.Ieee.Exact.{HasValue}
use Rattle.volts.specs.declared.Voltage.{Voltage}
use Rattle.volts.specs.declared.Voltage.TheVariants.{Volts, Refused}
use Rattle.volts.specs.declared.Scale.{Scale}
use Rattle.volts.specs.declared.Scale.TheVariants.{Bipolar, Unipolar}
use Rattle.volts.specs.Table.{RangeRow, valid, invalid, absent, bipolar, unipolar, row_of}

-- The full-scale voltage FS is the range over the gain.
abbrev pub full_scale : ℕ → ℕ → Float
full_scale range gain = round binary64 false range gain

abbrev pub scale_of : RangeRow → Option Scale
scale_of (valid bipolar range gain) = Some (Bipolar (full_scale range gain))
scale_of (valid unipolar range gain) = Some (Unipolar (full_scale range gain))
scale_of (invalid p range gain) = None
scale_of absent = None

-- So many times 2 ^ -18 volts, or no volts at all.
pub data InputVoltage : Type 0 where
  whole : ℤ → InputVoltage
  none : InputVoltage

-- "Input voltage = (A/D code / 32768) × FS" is code * (8 * FS) over 2 ^ 18; "((A/D code + 32768) / 65536) × FS" is
-- (code + 32768) * (4 * FS) over 2 ^ 18. Both 8 * FS and 4 * FS are whole numbers in the rows that have them.
abbrev pub input_voltage_at : RangeRow → ℤ → InputVoltage
input_voltage_at (valid bipolar range gain) code = whole (code *ℤ pos (range * 8 / gain))
input_voltage_at (valid unipolar range gain) code = whole ((code +ℤ pos 32768) *ℤ pos (range * 4 / gain))
input_voltage_at (invalid p range gain) code = none
input_voltage_at absent code = none

abbrev pub input_voltage_of : ℤ → ℕ → InputVoltage
input_voltage_of code range = input_voltage_at (row_of range) code

abbrev pub negative : ℤ → Bool
negative (pos n) = false
negative (negsuc n) = true

-- The f64 of a whole number over 2 ^ 18: of 0 it is +0.0.
abbrev pub over_two_to18 : ℤ → Float
over_two_to18 n = round binary64 (negative n) (nat_abs n) (2 ^ 18)

-- The answer to an input voltage: its f64, or refusal 13.
abbrev pub voltage : InputVoltage → Voltage
voltage (whole n) = Volts (over_two_to18 n)
voltage none = Refused 13

-- The f64 is exactly n over 2 ^ 18: finite, of n's sign, and of that size.
abbrev pub Exactly : Voltage → InputVoltage → Type 0
Exactly (Volts x) (whole n) = HasValue x (negative n) (nat_abs n) (2 ^ 18)
Exactly (Volts x) none = ⊥
Exactly (Refused m) (whole n) = ⊥
Exactly (Refused m) none = m ≡ 13

-- What `volts` answers: the one f64, bit by bit, and nothing was rounded in it.
pub record AnswersVolts (r : Voltage) (input : InputVoltage) : Type 0 where
  pub is : r ≡ voltage input
  pub exact : Exactly r input
