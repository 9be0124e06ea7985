-- An answer to a C host: one number of 32 bits, which holds the specification's refusal number and value ("Refusal numbers", "Registers").
--     bits 31-29   the kind         bits 28-24   the refusal         bits 23-16   0         bits 15-0   the byte or the word
-- The kinds: 0 done, 1 a byte, 2 a word, 3 refused, 4 nothing, of a word read that found no sample (request M-100: "a sample, or nothing there"). Bits 15-0 of
-- nothing are what a guest is shown, FFFF; its kind tells it from the sample FFFF.
use Rattle.std.specs.Prelude.{ℕ, ◌+◌, ◌*◌, ◌/◌, ◌%◌, eqb, if◌then◌else◌}
use Rattle.base.specs.Fields.{lowest}
use Rattle.board_events.specs.Answers.{refusal_number, value_read}
use Rattle.board_events.specs.declared.Answer.{Answer}
use Rattle.board_events.specs.declared.Answer.TheVariants.{Done, Byte, Word, Nothing, Refused}

abbrev pub packed : ℕ → ℕ → ℕ → ℕ
packed kind refusal value = kind * 0x20000000 + lowest 5 refusal * 0x1000000 + value

abbrev pub kind_of : Answer → ℕ
kind_of Done = 0
kind_of (Byte value) = 1
kind_of (Word value) = 2
kind_of Nothing = 4
kind_of (Refused number) = 3

abbrev pub answer_number : Answer → ℕ
answer_number a = packed (kind_of a) (refusal_number a) (value_read a)

-- ---- what a host reads off it, by the macros of include/cowriestep.h
-- the kind, bits 31-29; the refusal, bits 28-24; the byte or the word, bits 15-0
abbrev pub kind_bits : ℕ → ℕ
kind_bits n = n / 0x20000000

abbrev pub refusal_in : ℕ → ℕ
refusal_in n = n / 0x1000000 % 32

abbrev pub value_in : ℕ → ℕ
value_in n = n % 65536

-- the answer of that kind
abbrev pub decoded : ℕ → Answer
decoded n =
    if eqb (kind_bits n) 0 then Done
    else if eqb (kind_bits n) 1 then Byte (value_in n)
    else if eqb (kind_bits n) 2 then Word (value_in n)
    else if eqb (kind_bits n) 4 then Nothing
    else Refused (refusal_in n)
