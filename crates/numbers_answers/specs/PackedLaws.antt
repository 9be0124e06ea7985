-- What a host reads off an answer's number is what was put in, where the value has 16 bits and the refusal is below 32.
use Rattle.std.specs.Prelude.{ℕ, ◌/◌, ◌%◌, ◌<◌, ◌≡◌}
use Rattle.std.proofs.Common.{arith}
use Rattle.numbers_answers.specs.Packed.{packed, kind_bits, refusal_in, value_in}

pub kind_in_lem : (kind refusal value : ℕ) → value < 65536 → kind_bits (packed kind refusal value) ≡ kind
kind_in_lem kind refusal value h = omega arith

pub refusal_in_lem : (kind refusal value : ℕ) → value < 65536 → refusal_in (packed kind refusal value) ≡ refusal % 32
refusal_in_lem kind refusal value h = omega arith

pub value_in_lem : (kind refusal value : ℕ) → value < 65536 → value_in (packed kind refusal value) ≡ value
value_in_lem kind refusal value h = omega arith

pub free_in : (kind refusal value : ℕ) → value < 65536 → packed kind refusal value / 65536 % 256 ≡ 0
free_in kind refusal value h = omega arith
