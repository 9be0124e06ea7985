-- `codes::code_in` meets its contract. The height fits an `i64`, so the machine reads it back as it is; its sign and then the code pick the case.
-- Assumes nothing.
use Rattle.std.proofs.Common.{◌≡◌, refl, Bool, true, false, ℕ, suc, ◌-◌, ◌^◌, ◌≤◌, ◌<◌, arith, ℤ, pos, negsuc, ◌+ℤ◌, to_z, of_z, w32, w64, FitsSigned, le-leb}
use Rattle.std.proofs.lemmas.Bool.{lt-leb}
use Rattle.std.proofs.Math.Facts.{to_z-of_z, to_z_pos, sfits_widen}
use Rattle.std.proofs.Math.IntN.{nat_abs}
use Rattle.std.proofs.Math.Dec.{ltb}
use Rattle.std.proofs.Math.Bool.{cond}
use Rattle.std.specs.Int.Signed.{mag, lt_z}
use Rattle.codes.specs.Output.{above, in_twelve_bits, nearest}
use Rattle.codes.specs.Nearest.{answers-nearest}
use Rattle.codes.proofs.code_in.Goals as goal

-- the height, of either sign, is below 2 ^ 32
either : (t : Bool) (x y n : ℕ) → suc x < n → y < n → nat_abs (cond t (negsuc x) (pos y)) < n
either true x y n h k = h
either false x y n h k = k

bounded : (z : ℤ) (b : ℕ) → mag z < 2 ^ 31 → b ≤ 10000000 → nat_abs (z +ℤ pos b) < 2 ^ 32
bounded (pos a) b h k = omega arith
bounded (negsuc a) b h k = either (ltb b (suc a)) (suc a - suc b) (b - suc a) (2 ^ 32) (omega arith) (omega arith)

fits : (d : ℤ) → nat_abs d < 2 ^ 32 → FitsSigned w64 d
fits (pos n) h = record { sfits = omega arith }
fits (negsuc n) h = record { sfits = omega arith }

-- what the test of its sign tells
whole : (d : ℤ) (swing : ℕ) → lt_z d (pos 0) ≡ false → above d swing ≡ in_twelve_bits (nearest (nat_abs d) swing)
whole (pos n) swing t = refl
whole (negsuc n) swing t = absurd (cc)

-- the height in the code, as the machine has it
added : (z : ℤ) (b : ℕ) → FitsSigned w32 z → b ≤ 10000000 → to_z w64 (of_z w64 (to_z w64 (of_z w64 (to_z w32 (of_z w32 z))) +ℤ to_z w64 b)) ≡ z +ℤ pos b
added z b f h =
    let l : b < 2 ^ 63 = omega arith in
    rw (to_z-of_z {w = w32} f, to_z-of_z {w = w64} (sfits_widen {w = w32} {w' = w64} tt f), to_z_pos w64 l)
    (to_z-of_z {w = w64} (fits (z +ℤ pos b) (bounded z b f.sfits h)))

pub returns-then-code-le4095 : goal.returns-then-code-le4095
returns-then-code-le4095 c =
    let a = added c.args.microvolts c.args.below c.ranges.microvolts c.requires.0 in
    let d = c.args.microvolts +ℤ pos c.args.below in
    let n = nearest (nat_abs d) c.args.swing in
    rw a
    (answers-nearest n c.args.below c.args.swing c.args.microvolts c.requires.1
    (rw (whole d c.args.swing (rw a at c.if-height-lt0.false), le-leb n 4095 (rw a at c.if-code-le4095.true))))

pub returns-else-code-le4095 : goal.returns-else-code-le4095
returns-else-code-le4095 c =
    let a = added c.args.microvolts c.args.below c.ranges.microvolts c.requires.0 in
    let d = c.args.microvolts +ℤ pos c.args.below in
    answers-nearest 65554 c.args.below c.args.swing c.args.microvolts c.requires.1
    (rw (whole d c.args.swing (rw a at c.if-height-lt0.false), lt-leb (nearest (nat_abs d) c.args.swing) 4095 (rw a at c.if-code-le4095.false)))
