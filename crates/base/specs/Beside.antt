-- Numbers side by side in one number, each in a place of its own, the first in the lowest bits. The code tests several fields of a record at
-- once: it puts them side by side, and none of the bits that no number within its range has may be set in what comes out.
use Rattle.std.specs.Prelude.{◌≡◌, refl, Bool, true, false, ◌&&◌, List, [], ◌∷◌, ℕ, zero, suc, ◌+◌, ◌*◌, ◌-◌, ◌^◌, ◌/◌, ◌<◌, eqb, leb}
use Rattle.std.proofs.Common.{◌∙◌, mod-eq_of_lt, div-lt_iff_lt-mul, suc-mul, zero-mul, zero-add, div-add-mod', mod-lt, pow_pos, pow-add, arith, ne_eqb}
use Rattle.std.proofs.Common.{leb-true, leb-false}
use Rattle.std.proofs.Math.Nat.{div-eq_of_lt}
use Rattle.std.specs.Int.Bits.{bit_and}
use Rattle.std.proofs.lemmas.Nat.{and_block}
use Rattle.std.proofs.lemmas.Nat.Bits.{and_high}
use Rattle.base.specs.Tests.{all, row_first}

-- a number that is to be one of `bits` bits, in a place that has `spare` bits more
pub record Field : Type 0 where
  pub spare : ℕ
  pub bits : ℕ
  pub number : ℕ

abbrev pub width : Field → ℕ
width f = f.spare + f.bits

-- a number that is to be one of so many bits, in a byte and in 16 bits
abbrev pub in_byte : ℕ → ℕ → Field
in_byte bits n = record { spare = 8 - bits; bits = bits; number = n }

abbrev pub in_word : ℕ → ℕ → Field
in_word bits n = record { spare = 16 - bits; bits = bits; number = n }

-- the numbers side by side
abbrev pub side_by_side : List Field → ℕ
side_by_side [] = 0
side_by_side (f ∷ fs) = side_by_side fs * 2 ^ width f + f.number

-- their spare bits
abbrev pub spares : List Field → ℕ
spares [] = 0
spares (f ∷ fs) = spares fs * 2 ^ width f + (2 ^ width f - 2 ^ f.bits)

-- every number fits its place
abbrev pub Fit : List Field → Type 0
Fit [] = Unit {0}
Fit (f ∷ fs) = (f.number < 2 ^ width f) × Fit fs

-- whether each is within its range
abbrev pub in_range : List Field → List Bool
in_range [] = []
in_range (f ∷ fs) = leb f.number (2 ^ f.bits - 1) ∷ in_range fs

-- two parts are both 0 where the whole is
parts_zero : (high low p : ℕ) → 0 < p → eqb (high * p + low) 0 ≡ eqb low 0 && eqb high 0
parts_zero zero low p h = rw (zero-mul p, zero-add low) (last (eqb low 0))
  where
    last : (b : Bool) → b ≡ b && true
    last true = refl
    last false = refl
parts_zero (suc high) low p h =
    ne_eqb (suc high * p + low) 0 (λ e. omega (arith, suc-mul high p)) ∙ rw (ne_eqb (suc high) 0 (λ e. omega arith)) (last (eqb low 0))
  where
    last : (b : Bool) → false ≡ b && false
    last true = refl
    last false = refl

-- no spare bit is set where the number is within its range
spare_zero : (j n x : ℕ) → x < 2 ^ (j + n) → eqb (bit_and x (2 ^ (j + n) - 2 ^ n)) 0 ≡ leb x (2 ^ n - 1)
spare_zero j n x h =
    rw (and_high x j n, mod-eq_of_lt over) (quotient (leb x (2 ^ n - 1)) refl)
  where
    over : x / 2 ^ n < 2 ^ j
    over = (div-lt_iff_lt-mul (pow_pos n)).1 (rw (pow-add 2 j n) at h)

    quotient : (b : Bool) → leb x (2 ^ n - 1) ≡ b → eqb (x / 2 ^ n * 2 ^ n) 0 ≡ b
    quotient true e =
        let l : x < 2 ^ n = omega (arith, pow_pos n, leb-true x (2 ^ n - 1) e) in
        rw (div-eq_of_lt l, zero-mul (2 ^ n))
    quotient false e =
        ne_eqb (x / 2 ^ n * 2 ^ n) 0 (λ z. omega (arith, pow_pos n, leb-false x (2 ^ n - 1) e, div-add-mod' x (2 ^ n), mod-lt x (pow_pos n)))

spares_zero : (fs : List Field) → Fit fs → eqb (bit_and (side_by_side fs) (spares fs)) 0 ≡ all (in_range fs)
spares_zero [] w = refl
spares_zero (f ∷ fs) w =
    rw (and_block (width f) (side_by_side fs) (spares fs) f.number (2 ^ width f - 2 ^ f.bits) w.0 (omega (arith, pow_pos f.bits, pow_pos (width f))))
    (parts_zero (bit_and (side_by_side fs) (spares fs)) (bit_and f.number (2 ^ width f - 2 ^ f.bits)) (2 ^ width f) (pow_pos (width f))
    ∙ rw (spares_zero fs w.1, spare_zero f.spare f.bits f.number w.0) (row_first (leb f.number (2 ^ f.bits - 1)) (in_range fs)))

-- where n is the numbers side by side and m their spare bits, each number is within its range where n has no bit of m
pub within : (fs : List Field) {n m : ℕ} → Fit fs → n ≡ side_by_side fs → m ≡ spares fs → eqb (bit_and n m) 0 ≡ all (in_range fs)
within fs w e d = rw (e, d) (spares_zero fs w)
