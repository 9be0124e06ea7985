-- The worked examples of the manual's chapter 14, and what is unknown; marked cases 7 and 8 are in the table of the crate marked.
use Rattle.std.specs.Prelude.{◌≡◌, refl, ℤ, pos, neg_ℤ}
use Rattle.codes.specs.Output.{given, refused, output_of, bytes_of, lsb, msb}

-- 14.1: 2.168 V at 0-5 V is 1776, and -2.168 V at ±5 V is 1160. 14.2: of 1776 the LSB is 240 and the MSB 6.
pub example_unipolar : output_of (pos 2168000) 2 ≡ given 1776
example_unipolar = refl

pub example_bipolar : output_of (neg_ℤ (pos 2168000)) 0 ≡ given 1160
example_bipolar = refl

pub example_bytes : (lsb 1776 ≡ 240) × (msb 1776 0 ≡ 6)
example_bytes = (refl, refl)

-- An unknown range or channel is 19, also where the voltage is below every range.
pub unknown-range : (microvolts : ℤ) → output_of microvolts 4 ≡ refused 19
unknown-range microvolts = refl

pub unknown-channel : (microvolts : ℤ) → bytes_of microvolts 0 4 ≡ refused 19
unknown-channel microvolts = refl
