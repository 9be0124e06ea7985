-- No operation of `volts` rounds: each gives exactly a whole number over a power of two (the specification, "The f64 is exactly a whole number
-- over 2^18"). The scaling by a power of two is a multiplication by its reciprocal, and stands behind one law, `scaled`.
use Rattle.std.specs.Prelude.{Bool, true, false, List, [], ◌∷◌, ℕ, ◌+◌, ◌*◌, ◌/◌, ◌^◌, ◌≤◌, ◌<◌, eqb, ltb, leb, ℤ, pos}
use Rattle.std.specs.Prelude.{nat_abs, ◌+ℤ◌, Float}
use Rattle.std.specs.Float.{binary64}
use Rattle.std.specs.Float.Ieee.{round, mul, of_int}
use Rattle.std.specs.Float.Ieee.Exact.{HasValue}
use Rattle.base.specs.Tests.{all}
use Rattle.volts.specs.Table.{RangeRow, valid, invalid, absent, bipolar, unipolar}
use Rattle.volts.specs.Volts.{full_scale, negative}

-- The f64 x is exactly b / 2 ^ j, with b from 1 to 80.
pub record FullScaleIs (x : Float) (b j : ℕ) : Type 0 where
  pub exact : HasValue x false b (2 ^ j)
  pub above : 0 < b
  pub most : b ≤ 80

-- A row's full scale is exact: 8 * FS is whole where the row is bipolar, 4 * FS where it is unipolar.
abbrev pub RowExact : RangeRow → Type 0
RowExact (valid bipolar range gain) = FullScaleIs (full_scale range gain) (range * 8 / gain) 3
RowExact (valid unipolar range gain) = FullScaleIs (full_scale range gain) (range * 4 / gain) 2
RowExact (invalid p range gain) = Unit
RowExact absent = Unit

-- A row passes where its gain divides 2 ^ j times its range, j being 3 or 2, and the quotient is from 1 to 80.
abbrev pub quotient_tests : ℕ → ℕ → ℕ → List Bool
quotient_tests j range gain =
    ltb 0 gain ∷ eqb (range * 2 ^ j) (range * 2 ^ j / gain * gain) ∷ ltb 0 (range * 2 ^ j / gain) ∷ leb (range * 2 ^ j / gain) 80 ∷ []

abbrev pub row_test : RangeRow → Bool
row_test (valid bipolar range gain) = all (quotient_tests 3 range gain)
row_test (valid unipolar range gain) = all (quotient_tests 2 range gain)
row_test (invalid p range gain) = true
row_test absent = true

-- The f64 of 1 / 2 ^ k.
abbrev pub reciprocal : ℕ → Float
reciprocal k = round binary64 false 1 (2 ^ k)

-- What `volts` computes of a whole number n and a full scale x: n * x * 2 ^ -k.
abbrev pub computed : ℤ → Float → ℕ → Float
computed n x k = mul binary64 (mul binary64 (of_int binary64 n) x) (reciprocal k)

-- The three operations on a whole number n and a full scale x, which is b / 2 ^ j: the cast, the product, and its scaling by the constant 2 ^ -k.
pub record OperationsExact (n : ℤ) (x : Float) (b j k : ℕ) : Type 0 where
  pub cast : HasValue (of_int binary64 n) (negative n) (nat_abs n) 1
  pub product : HasValue (mul binary64 (of_int binary64 n) x) (negative n) (nat_abs n * b) (2 ^ j)
  pub constant : HasValue (reciprocal k) false 1 (2 ^ k)
  pub scaling : HasValue (computed n x k) (negative n) (nat_abs n * b) (2 ^ (j + k))

-- The operations that a row and a code call for.
abbrev pub OperationsAt : RangeRow → ℤ → Type 0
OperationsAt (valid bipolar range gain) code =
    let fs = full_scale range gain in OperationsExact code fs (range * 8 / gain) 3 15
OperationsAt (valid unipolar range gain) code =
    let fs = full_scale range gain in let n = code +ℤ pos 32768 in OperationsExact n fs (range * 4 / gain) 2 16
OperationsAt (invalid p range gain) code = Unit
OperationsAt absent code = Unit
