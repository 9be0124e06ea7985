-- Theorems that rest on theorems of specs/Exact.antt, and promise as those do. What specs/Exact.antt says of itself:
-- No operation of `volts` rounds: each gives exactly a whole number over a power of two (the specification, "The f64 is exactly a whole number
-- over 2^18"). The scaling by a power of two is a multiplication by its reciprocal, and stands behind one law, `scaled`.
use Rattle.std.specs.Prelude.{◌≡◌, refl, Bool, true, false, List, [], ◌∷◌, map, ℕ, zero, suc, ◌+◌, ◌*◌, ◌/◌, ◌^◌, ◌≤◌, ◌<◌, get_or, ℤ, pos}
use Rattle.std.specs.Prelude.{negsuc, nat_abs, neg_ℤ, ◌+ℤ◌, ◌*ℤ◌, Float}
use Rattle.std.proofs.Common.{ap, ◌∙◌, mul-pos, mul-one, one-mul, mul-le-mul, zero-lt-suc, lt_irrefl, lt_of_lt_of_le, lt_of_le_of_lt, le_of_lt, arith}
use Rattle.std.proofs.Common.{eqb-true, leb-true, ltb-true, lit<, lit≤, pow-add, pow_pos}
use Rattle.std.specs.Float.{binary64}
use Rattle.std.specs.Float.Ieee.{unlike, round, mul, of_int}
use Rattle.std.specs.Float.Ieee.Exact.{HasValue}
use Rattle.std.specs.Float.Ieee.Scale.{round_same}
use Rattle.base.specs.Tests.{all, Each, each}
use Rattle.volts.specs.declared.Voltage.TheVariants.{Volts}
use Rattle.volts.specs.Table.{RangeRow, valid, invalid, absent, bipolar, unipolar, input_ranges, row_of}
use Rattle.volts.specs.Rounding.{mul_round, exactly, cast-exact}
use Rattle.volts.specs.Volts.{full_scale, negative, over_two_to18, whole, AnswersVolts}
use Rattle.volts.specs.Exact.{FullScaleIs, OperationsAt, OperationsExact, RowExact, computed, quotient_tests, reciprocal, row_test}

quotient-exact : (j range gain : ℕ) → j ≤ 1074 → all (quotient_tests j range gain) ≡ true → FullScaleIs (full_scale range gain) (range * 2 ^ j / gain) j
quotient-exact j range gain J t =
    let h = each (quotient_tests j range gain) t in
    let b = range * 2 ^ j / gain in
    let most = leb-true b 80 h.1.1.1.0 in
    record {
      exact = rw (round_same binary64 false range gain b (2 ^ j) (ltb-true 0 gain h.0) (pow_pos j) (eqb-true _ _ h.1.0))
          (exactly false b j (lt_of_le_of_lt most (lit< tt)) J);
      above = ltb-true 0 b h.1.1.0;
      most = most;
    }

row-passes : (r : RangeRow) → row_test r ≡ true → RowExact r
row-passes (valid bipolar range gain) t = quotient-exact 3 range gain (lit≤ tt) t
row-passes (valid unipolar range gain) t = quotient-exact 2 range gain (lit≤ tt) t
row-passes (invalid p range gain) t = tt
row-passes absent t = tt

row_at : (rows : List RangeRow) → Each (map row_test rows) → (k : ℕ) → row_test (get_or rows k absent) ≡ true
row_at [] e k = refl
row_at (r ∷ rs) e zero = e.0
row_at (r ∷ rs) e (suc k) = row_at rs e.1 k

-- The full scale of every row is exact.
pub row-exact : (range : ℕ) → RowExact (row_of range)
row-exact range = row-passes (row_of range) (row_at input_ranges (each (map row_test input_ranges) refl) range)

-- The sign and the size of a product.
negated : (m : ℕ) → 0 < m → (negative (neg_ℤ (pos m)) ≡ true) × (nat_abs (neg_ℤ (pos m)) ≡ m)
negated zero h = absurd (lt_irrefl 0 h)
negated (suc m) h = (refl, refl)

times : (n : ℤ) (b : ℕ) → 0 < b → (negative (n *ℤ pos b) ≡ negative n) × (nat_abs (n *ℤ pos b) ≡ nat_abs n * b)
times (pos n) b h = (refl, refl)
times (negsuc n) b h = negated (suc n * b) (mul-pos (zero-lt-suc n) h)

same_sign : (s : Bool) → unlike s false ≡ s
same_sign false = refl
same_sign true = refl

module _ (n : ℤ) (b j k : ℕ) (x : Float) (N : nat_abs n < 65536) (F : FullScaleIs x b j) (J : j ≤ 1074) (K : j + k ≡ 18) where
  small : nat_abs n * b < 2 ^ 53
  small = lt_of_le_of_lt (mul-le-mul (le_of_lt N) F.most) (lit< tt)

  whole-cast : HasValue (of_int binary64 n) (negative n) (nat_abs n) 1
  whole-cast = cast-exact n (lt_of_lt_of_le N (lit≤ tt))

  product-exact : HasValue (mul binary64 (of_int binary64 n) x) (negative n) (nat_abs n * b) (2 ^ j)
  product-exact =
      rw (mul_round binary64 (negative n) false (nat_abs n) 1 b (2 ^ j) (lit< tt) (pow_pos j) (of_int binary64 n) x whole-cast F.exact, same_sign, one-mul)
      (exactly (negative n) (nat_abs n * b) j small J)

  reciprocal-exact : HasValue (reciprocal k) false 1 (2 ^ k)
  reciprocal-exact = exactly false 1 k (lit< tt) (omega (arith, K))

  rounded_once : computed n x k ≡ round binary64 (negative n) (nat_abs n * b) (2 ^ (j + k))
  rounded_once =
      mul_round binary64 (negative n) false (nat_abs n * b) (2 ^ j) 1 (2 ^ k) (pow_pos j) (pow_pos k) (mul binary64 (of_int binary64 n) x) (reciprocal k)
      product-exact reciprocal-exact ∙ rw (same_sign, mul-one, ← pow-add)

  -- the product times 2 ^ -k gives the answer exactly
  pub scaled : AnswersVolts (Volts (computed n x k)) (whole (n *ℤ pos b)) × OperationsExact n x b j k
  scaled =
      let t = times n b F.above in
      let is : computed n x k ≡ over_two_to18 (n *ℤ pos b) = rounded_once ∙ rw (K, t.0, t.1) in (
        record { is = ap Volts is; exact = rw is (exactly (negative (n *ℤ pos b)) (nat_abs (n *ℤ pos b)) 18 (rw t.1 small) (lit≤ tt)) },
        record {
          cast = whole-cast;
          product = product-exact;
          constant = reciprocal-exact;
          scaling = rw (rounded_once, K) (exactly (negative n) (nat_abs n * b) 18 small (lit≤ tt));
        },
      )

pub bipolar_volts : (n : ℤ) (range gain : ℕ) → nat_abs n < 65536 → RowExact (valid bipolar range gain) →
    let fs = full_scale range gain in
    AnswersVolts (Volts (computed n fs 15)) (whole (n *ℤ pos (range * 8 / gain))) × OperationsExact n fs (range * 8 / gain) 3 15
bipolar_volts n range gain N f = scaled n (range * 8 / gain) 3 15 (full_scale range gain) N f (lit≤ tt) refl

pub unipolar_volts : (n : ℤ) (range gain : ℕ) → nat_abs n < 65536 → RowExact (valid unipolar range gain) →
    let fs = full_scale range gain in
    AnswersVolts (Volts (computed n fs 16)) (whole (n *ℤ pos (range * 4 / gain))) × OperationsExact n fs (range * 4 / gain) 2 16
unipolar_volts n range gain N f = scaled n (range * 4 / gain) 2 16 (full_scale range gain) N f (lit≤ tt) refl

at_row : (r : RangeRow) (code : ℤ) → nat_abs code < 65536 → nat_abs (code +ℤ pos 32768) < 65536 → RowExact r → OperationsAt r code
at_row (valid bipolar range gain) code N M f = (bipolar_volts code range gain N f).1
at_row (valid unipolar range gain) code N M f = (unipolar_volts (code +ℤ pos 32768) range gain M f).1
at_row (invalid p range gain) code N M f = tt
at_row absent code N M f = tt

-- At every range code and every code of sixteen bits no operation rounds.
pub operations_exact : (range : ℕ) (code : ℤ) → nat_abs code < 65536 → nat_abs (code +ℤ pos 32768) < 65536 → OperationsAt (row_of range) code
operations_exact range code N M = at_row (row_of range) code N M (row-exact range)
