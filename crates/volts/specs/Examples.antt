-- Single codes and range codes of the specification's "Volts" and the manual's table 9.4; marked case 6 is in the table of the crate marked.
use Rattle.std.specs.Prelude.{◌≡◌, refl, true, false, ℤ, pos, neg_ℤ}
use Rattle.std.specs.Float.{fin}
use Rattle.std.specs.Float.Ieee.{round}
use Rattle.volts.specs.declared.Voltage.TheVariants.{Volts, Refused}
use Rattle.volts.specs.Volts.{whole, input_voltage_of, voltage}

-- The code -15008 at ±5 V, range code 0, is -600320 over 2 ^ 18.
pub example_whole : input_voltage_of (neg_ℤ (pos 15008)) 0 ≡ whole (neg_ℤ (pos 600320))
example_whole = refl

-- Code 0 of a bipolar range and code -32768 of a unipolar one are +0.0.
pub zero_bipolar : voltage (input_voltage_of (pos 0) 0) ≡ Volts (fin false 0 (pos 0))
unfolding round
zero_bipolar = refl

pub zero_unipolar : voltage (input_voltage_of (neg_ℤ (pos 32768)) 12) ≡ Volts (fin false 0 (pos 0))
unfolding round
zero_unipolar = refl

-- The lowest code of ±5 V, -32768, is -5 V.
pub lowest-bipolar : voltage (input_voltage_of (neg_ℤ (pos 32768)) 0) ≡ Volts (fin true 5 (pos 0))
unfolding round
lowest-bipolar = refl

-- Range codes 4 to 7 and 16 are refused 13, whatever the code.
pub refused_13 : (code : ℤ) → (voltage (input_voltage_of code 4) ≡ Refused 13) × (voltage (input_voltage_of code 5) ≡ Refused 13)
    × (voltage (input_voltage_of code 6) ≡ Refused 13) × (voltage (input_voltage_of code 7) ≡ Refused 13) × (voltage (input_voltage_of code 16) ≡ Refused 13)
refused_13 code = (refl, refl, refl, refl, refl)

-- "Range codes 9 - 11 are equivalent to range codes 0 - 2."
pub equivalent_ranges : (code : ℤ)
    → (input_voltage_of code 9 ≡ input_voltage_of code 0) × (input_voltage_of code 10 ≡ input_voltage_of code 1)
    × (input_voltage_of code 11 ≡ input_voltage_of code 2)
equivalent_ranges code = (refl, refl, refl)
