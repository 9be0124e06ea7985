-- `volts::volts` meets its contract: the row of the range code picks the formula, the constants are 2 ^ -15 and 2 ^ -16, and no operation rounds.
-- Assumes nothing.
use Rattle.std.proofs.Common.{◌≡◌, suc, ◌<◌, arith, ℤ, pos, negsuc, ◌+ℤ◌, to_z, of_z, w16, w32, FitsSigned}
use Rattle.std.proofs.Math.Facts.{to_z-of_z, sfits_widen, Fits-nat_abs}
use Rattle.std.proofs.Math.IntN.{nat_abs}
use Rattle.std.proofs.lemmas.Bool.{le-ltb}
use Rattle.std.specs.Int.Signed.{mag}
use Rattle.std.specs.Prelude.{Float, Some}
use Rattle.std.specs.Float.Ieee.{of_bits, round}
use Rattle.volts.specs.declared.Voltage.TheVariants.{Volts}
use Rattle.volts.specs.declared.Scale.TheVariants.{Bipolar, Unipolar}
use Rattle.volts.specs.Table.{RangeRow, valid, invalid, absent, bipolar, unipolar, row_of}
use Rattle.volts.specs.Volts.{scale_of, full_scale, input_voltage_at, AnswersVolts}
use Rattle.volts.specs.Exact.{RowExact, computed}
use Rattle.volts.proofs.Exact.{row-exact, bipolar_volts, unipolar_volts}
use Rattle.volts.proofs.volts.Goals as goal

by-bipolar : (r : RangeRow) (x : Float) (n : ℤ) → nat_abs n < 65536 → RowExact r → scale_of r ≡ Some (Bipolar x)
    → AnswersVolts (Volts (computed n x 15)) (input_voltage_at r n)
by-bipolar (valid bipolar range gain) x n N f e =
    let same : x ≡ full_scale range gain = cc in
    rw same (bipolar_volts n range gain N f).0
by-bipolar (valid unipolar range gain) x n N f e = absurd (cc)
by-bipolar (invalid p range gain) x n N f e = absurd (cc)
by-bipolar absent x n N f e = absurd (cc)

by-unipolar : (r : RangeRow) (x : Float) (code : ℤ) → nat_abs (code +ℤ pos 32768) < 65536 → RowExact r → scale_of r ≡ Some (Unipolar x)
    → AnswersVolts (Volts (computed (code +ℤ pos 32768) x 16)) (input_voltage_at r code)
by-unipolar (valid bipolar range gain) x code N f e = absurd (cc)
by-unipolar (valid unipolar range gain) x code N f e =
    let same : x ≡ full_scale range gain = cc in
    rw same (unipolar_volts (code +ℤ pos 32768) range gain N f).0
by-unipolar (invalid p range gain) x code N f e = absurd (cc)
by-unipolar absent x code N f e = absurd (cc)

-- code + 32768 is below 65536, so the machine reads it back as it is
lifted : (z : ℤ) → mag z < 32768 → nat_abs (z +ℤ pos 32768) < 65536
lifted (pos a) h = omega arith
lifted (negsuc a) h = rw (le-ltb 32768 (suc a) h) (omega arith)

fits : (z : ℤ) → nat_abs z < 65536 → FitsSigned w32 z
fits (pos n) h = record { sfits = omega arith }
fits (negsuc n) h = record { sfits = omega arith }

widened : (z : ℤ) → FitsSigned w16 z → to_z w32 (of_z w32 (to_z w16 (of_z w16 z))) ≡ z
widened z h = rw (to_z-of_z {w = w16} h) (to_z-of_z {w = w32} (sfits_widen {w = w16} {w' = w32} tt h))

pub returns-in-Some-Bipolar : goal.returns-in-Some-Bipolar
unfolding of_bits round
returns-in-Some-Bipolar c =
    rw (to_z-of_z c.ranges.code)
    (by-bipolar (row_of c.args.range) c.in-Some-Bipolar.full_scale c.args.code (Fits-nat_abs {w = w16} {w' = w16} tt c.ranges.code).fits
    (row-exact c.args.range) (rw (c.full_scale_of.ensures, c.in-Some-Bipolar.field-0-is) at c.in-Some-Bipolar.is))

pub returns-in-Some-Unipolar : goal.returns-in-Some-Unipolar
unfolding of_bits round
returns-in-Some-Unipolar c =
    let l = lifted c.args.code c.ranges.code.sfits in
    rw (widened c.args.code c.ranges.code, to_z-of_z (fits (c.args.code +ℤ pos 32768) l))
    (by-unipolar (row_of c.args.range) c.in-Some-Unipolar.full_scale c.args.code l
    (row-exact c.args.range) (rw (c.full_scale_of.ensures, c.in-Some-Unipolar.field-0-is) at c.in-Some-Unipolar.is))
