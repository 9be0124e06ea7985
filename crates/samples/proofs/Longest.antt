-- Theorems that rest on theorems of specs/Longest.antt, and promise as those do. What specs/Longest.antt says of itself:
-- The part is made of whole scans, it leads the samples, and no longer part would do.
use Rattle.std.specs.Prelude.{ℕ, ◌+◌, ◌-◌, ◌*◌, ◌/◌, ◌%◌, ◌≤◌, ◌≡◌, false, List, ℤ, length}
use Rattle.std.proofs.Common.{◌∙◌, arith, div-add-mod', div-mul-le_self, le-div_iff_mul-le, mul-le-mul_right, length-take}
use Rattle.std.proofs.Math.Nat.{min-eq_left}
use Rattle.samples.specs.Refused.{bad_range}
use Rattle.samples.specs.Scans.{scan_width, whole_length, whole_scans, WholePart}

minus : (q r n : ℕ) → q + r ≡ n → n - r ≡ q
minus q r n e = omega arith

-- the length is that of as many whole scans as the samples hold
whole : (n w : ℕ) → whole_length n w ≡ n / w * w
whole n w = minus (n / w * w) (n % w) n (div-add-mod' n w)

module _ (l : List ℤ) (low high : ℕ) (good : bad_range low high ≡ false) where
  -- the part is made of whole scans: as many as the samples hold
  pub whole_scans_lem : length (whole_scans l low high) ≡ length l / scan_width low high * scan_width low high
  whole_scans_lem = rw (good, whole (length l) (scan_width low high)) (length-take _ l ∙ min-eq_left (div-mul-le_self (length l) (scan_width low high)))

  -- it is the longest: any number of scans that the samples hold, the part holds
  pub longest : (k : ℕ) → k * scan_width low high ≤ length l → k * scan_width low high ≤ length (whole_scans l low high)
  longest k h =
      rw whole_scans_lem (mul-le-mul_right (scan_width low high) ((le-div_iff_mul-le {k = scan_width low high} (omega arith)).1 h))

-- the part keeps the promise
pub whole_part : (l : List ℤ) (low high : ℕ) (part : List ℤ) → part ≡ whole_scans l low high → WholePart l low high part
whole_part l low high part e = record { is = e; longest = λ good k h. rw e (longest l low high good k h) }
