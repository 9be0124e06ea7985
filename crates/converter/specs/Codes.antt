-- Signed codes and the 16-bit samples that stand for them, two's complement (manual, Base + 0 and 1).
use Rattle.std.specs.Prelude.{◌≡◌, refl, Bool, true, false, ℕ, ◌-◌, ◌<◌, ◌^◌, ℤ, pos, negsuc, ltb, if◌then◌else◌}
use Rattle.std.proofs.Common.{ap, arith, SFits, lt-ltb, le-ltb}
use Rattle.std.specs.Int.{w16}

-- the sample of a code; `negsuc n` is the integer -(n + 1)
abbrev pub sample_of : ℤ → ℕ
sample_of (pos n) = n
sample_of (negsuc n) = 65535 - n

-- the code of a sample
abbrev pub code_of : ℕ → ℤ
code_of n = if ltb n 32768 then pos n else negsuc (65535 - n)

-- a code is that of its sample
pub code_of-sample : (z : ℤ) → SFits w16 z → code_of (sample_of z) ≡ z
code_of-sample (pos n) h = let f : n < 2 ^ 15 = h.sfits in rw (lt-ltb n 32768 (omega arith))
code_of-sample (negsuc n) h =
    let f : n < 2 ^ 15 = h.sfits in
    let e : 65535 - (65535 - n) ≡ n = omega arith in
    rw (le-ltb (65535 - n) 32768 (omega arith)) (ap negsuc e)

-- a sample is that of its code
pub sample_of-code : (n : ℕ) → n < 65536 → sample_of (code_of n) ≡ n
sample_of-code n h = by (ltb n 32768) refl
  where
    by : (b : Bool) → ltb n 32768 ≡ b → sample_of (if b then pos n else negsuc (65535 - n)) ≡ n
    by true t = refl
    by false t = omega arith
