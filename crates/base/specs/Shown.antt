-- The bits of a byte that is a sum of weights (manual, chapter 6: the read map): laws for what a read shows.
use Rattle.std.specs.Prelude.{ℕ, ◌+◌, ◌*◌, ◌/◌, ◌%◌, ◌^◌, ◌<◌, Bool, true, false, ◌≡◌, refl, eqb}
use Rattle.std.proofs.Common.{ap, ◌∙◌, arith, eq-eqb, ne_eqb}
use Rattle.std.proofs.Math.Nat.{add-mul-div_right, div-eq_of_lt}
use Rattle.base.specs.Fields.{bit}
use Rattle.base.specs.Weights.{weight_of}

-- a bit of weight w, with any bits above it and n below it
bit_of : (q w n : ℕ) (t : Bool) → n < w → eqb ((q * 2 * w + (weight_of t w + n)) / w % 2) 1 ≡ t
bit_of q w n true h =
    let e : q * 2 * w + (w + n) ≡ n + (q * 2 + 1) * w = omega arith in
    let d : (q * 2 * w + (w + n)) / w ≡ n / w + (q * 2 + 1) =
    ap (λ (k : ℕ). k / w) e ∙ add-mul-div_right n (q * 2 + 1) (omega arith) in
    let z : n / w ≡ 0 = div-eq_of_lt h in
    eq-eqb ((q * 2 * w + (w + n)) / w % 2) 1 (rw (d, z) (omega arith))
bit_of q w n false h =
    let e : q * 2 * w + (0 + n) ≡ n + q * 2 * w = omega arith in
    let d : (q * 2 * w + (0 + n)) / w ≡ n / w + q * 2 = ap (λ (k : ℕ). k / w) e ∙ add-mul-div_right n (q * 2) (omega arith) in
    let z : n / w ≡ 0 = div-eq_of_lt h in
    ne_eqb ((q * 2 * w + (0 + n)) / w % 2) 1 (rw (d, z) (λ k. omega arith))

-- a weight that is k times another
pub scaled : (t : Bool) (w k : ℕ) → weight_of t (w * k) ≡ weight_of t w * k
scaled true w k = refl
scaled false w k = omega arith

-- a byte that is such a sum shows the bit
pub shows : (byte q k n : ℕ) (t : Bool) → byte ≡ q * 2 * 2 ^ k + (weight_of t (2 ^ k) + n) → n < 2 ^ k → bit byte k ≡ t
shows byte q k n t e h = ap (λ (x : ℕ). bit x k) e ∙ bit_of q (2 ^ k) n t h
