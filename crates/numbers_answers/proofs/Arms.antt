-- An answer's number by its kind. Assumes nothing.
use Prim.Native.Nat.{ℕ, ◌+◌, ◌*◌, ◌%◌, ◌<◌}
use mathlib.Core.Path.{◌≡◌, refl, ap, ◌∙◌}
use native.Mathlib.Omega.{arith}
use Rattle.board_events.specs.Answers.{refusal_number}
use Rattle.board_events.specs.declared.Answer.{Answer}
use Rattle.board_events.specs.declared.Answer.TheVariants.{Done, Byte, Word, Nothing, Refused}
use Rattle.numbers_answers.specs.Packed.{answer_number, decoded}
use Rattle.numbers_answers.proofs.PackedLaws.{decoded-answer}

-- n is the number, and is read as the answer
abbrev Told : Answer → ℕ → Type 0
Told a n = (n ≡ answer_number a) × (refusal_number a < 32 → decoded n ≡ a)

told : (a : Answer) (n : ℕ) → n ≡ answer_number a → (refusal_number a < 32 → decoded (answer_number a) ≡ a) → Told a n
told a n e f = (e, λ h. ap decoded e ∙ f h)

pub done-told : {a : Answer} → a ≡ Done → Told a 0
done-told e = rw e (told Done 0 refl (λ h. refl))

pub byte-told : {a : Answer} {v : ℕ} → a ≡ Byte v → v < 65536 → Told a (0x20000000 + v)
byte-told {v = v} e l = rw e (told (Byte v) (0x20000000 + v) refl (λ h. decoded-answer (Byte v) h l))

pub word-told : {a : Answer} {v : ℕ} → a ≡ Word v → v < 65536 → Told a (0x40000000 + v)
word-told {v = v} e l = rw e (told (Word v) (0x40000000 + v) refl (λ h. decoded-answer (Word v) h l))

pub nothing-told : {a : Answer} → a ≡ Nothing → Told a 0x8000FFFF
nothing-told e = rw e (told Nothing 0x8000FFFF refl (λ h. refl))

pub refusal-told : {a : Answer} {n : ℕ} → a ≡ Refused n → Told a (0x60000000 + n % 32 * 0x1000000)
refusal-told {n = n} e = rw e (told (Refused n) (0x60000000 + n % 32 * 0x1000000) (omega arith) (λ h. decoded-answer (Refused n) h (omega arith)))
