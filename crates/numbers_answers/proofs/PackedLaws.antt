-- Theorems that rest on theorems of specs/PackedLaws.antt, and promise as those do. What specs/PackedLaws.antt says of itself:
-- What a host reads off an answer's number is what was put in, where the value has 16 bits and the refusal is below 32.
use Rattle.std.specs.Prelude.{◌<◌, ◌≡◌, refl}
use Rattle.std.proofs.Common.{ap, arith}
use Rattle.board_events.specs.Answers.{refusal_number, value_read}
use Rattle.board_events.specs.declared.Answer.{Answer}
use Rattle.board_events.specs.declared.Answer.TheVariants.{Done, Byte, Word, Nothing, Refused}
use Rattle.numbers_answers.specs.Packed.{answer_number, decoded}
use Rattle.numbers_answers.specs.PackedLaws.{kind_in_lem, refusal_in_lem, value_in_lem}

-- of any answer whose refusal is below 32 and whose value has 16 bits
pub decoded-answer : (a : Answer) → refusal_number a < 32 → value_read a < 65536 → decoded (answer_number a) ≡ a
decoded-answer Done r v = refl
decoded-answer (Byte x) r v = rw (kind_in_lem 1 0 x v, value_in_lem 1 0 x v)
decoded-answer (Word x) r v = rw (kind_in_lem 2 0 x v, value_in_lem 2 0 x v)
decoded-answer Nothing r v = refl
decoded-answer (Refused n) r v = rw (kind_in_lem 3 n 0 v, refusal_in_lem 3 n 0 v) (ap Refused (omega (arith, r)))
