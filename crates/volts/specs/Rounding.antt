-- Floats that are exactly a fraction: what the operations of the IEEE format make of them.
use Rattle.std.specs.Prelude.{◌≡◌, Bool, true, false, ℕ, suc, ◌+◌, ◌-◌, ◌*◌, ◌^◌, ◌≤◌, ◌<◌, ℤ, pos, negsuc, nat_abs, Float}
use Rattle.std.proofs.Common.{◌∙◌, zero-le, mul-pos, mul_assoc, lt_of_lt_of_le, arith, pow-add, pow_mono, pow_pos, shl_lt}
use Rattle.std.proofs.Math.Nat.{mul-mul-mul_comm}
use Rattle.std.specs.Float.{fin, inf, nan, Format, binary64}
use Rattle.std.specs.Float.Ieee.{unlike, up, down, round, mul, of_int}
use Rattle.std.specs.Float.Ieee.Exact.{HasValue, round_exact}
use Rattle.std.specs.Float.Ieee.Fits.{down_pos}
use Rattle.std.specs.Float.Ieee.Scale.{round_same}
use Rattle.volts.specs.Volts.{negative}

-- ±a / c times ±b / d is rounded once.
pub mul_round : (f : Format) (s t : Bool) (a c b d : ℕ) → 0 < c → 0 < d → (x y : Float) → HasValue x s a c → HasValue y t b d
    → mul f x y ≡ round f (unlike s t) (a * b) (c * d)
unfolding mul
mul_round f s t a c b d C D nan y v w = elim v [ ]
mul_round f s t a c b d C D (inf _) y v w = elim v [ ]
mul_round f s t a c b d C D (fin s' m e) nan v w = elim w [ ]
mul_round f s t a c b d C D (fin s' m e) (inf _) v w = elim w [ ]
mul_round f s t a c b d C D (fin s' m e) (fin t' n g) v w =
    rw (v.0, w.0)
    (round_same f (unlike s t) (m * up e * (n * up g)) (down e * down g) (a * b) (c * d) (mul-pos (down_pos e) (down_pos g)) (mul-pos C D)
    (mul-mul-mul_comm (m * up e) (n * up g) c d ∙ rw (v.1, w.1) (mul-mul-mul_comm a (down e) b (down g))))

-- A whole number below 2 ^ 53, over 2 ^ k, is a value of the format.
pub exactly : (s : Bool) (n k : ℕ) → n < 2 ^ 53 → k ≤ 1074 → HasValue (round binary64 s n (2 ^ k)) s n (2 ^ k)
exactly s n k h l =
    let j = 1074 - k in
    let e : j + k ≡ 1074 = omega arith in
    let room : 53 + j ≤ 2098 = omega arith in
    round_exact binary64 s n (2 ^ k) n j (pow_pos k) h (lt_of_lt_of_le (shl_lt 53 j h) (pow_mono room)) (rw (mul_assoc, ← pow-add, e))

-- A whole number below 2 ^ 53 is cast exactly.
pub cast-exact : (n : ℤ) → nat_abs n < 2 ^ 53 → HasValue (of_int binary64 n) (negative n) (nat_abs n) 1
unfolding of_int
cast-exact (pos n) h = exactly false n 0 h zero-le
cast-exact (negsuc n) h = exactly true (suc n) 0 h zero-le
