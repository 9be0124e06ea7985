-- What is printed for a line. The specification, "The session program": "It prints line number and `ok`, the answer in two or four hex capitals, or
-- `refused n`; ` irq` follows when the flags go from none to some. Another line prints its number and `bad`." Request M-100: the session
-- prints `empty` for a word read that found nothing. Letters are given by their codes.
use Rattle.std.specs.Prelude.{ℕ, Bool, true, false, List, [], ◌∷◌, ◌++◌}
use Rattle.board_events.specs.declared.Answer.{Answer}
use Rattle.board_events.specs.declared.Answer.TheVariants.{Done, Byte, Word, Nothing, Refused}
use Rattle.session_text.specs.Text.{byte_text, word_text, decimal_text}

-- " ok", " empty", " refused ", " irq", " bad", newline
abbrev pub ok_text : List ℕ
ok_text = 32 ∷ 111 ∷ 107 ∷ []

abbrev pub empty_text : List ℕ
empty_text = 32 ∷ 101 ∷ 109 ∷ 112 ∷ 116 ∷ 121 ∷ []

abbrev pub refused_text : List ℕ
refused_text = 32 ∷ 114 ∷ 101 ∷ 102 ∷ 117 ∷ 115 ∷ 101 ∷ 100 ∷ 32 ∷ []

abbrev pub irq_text : Bool → List ℕ
irq_text true = 32 ∷ 105 ∷ 114 ∷ 113 ∷ []
irq_text false = []

abbrev pub newline : List ℕ
newline = 10 ∷ []

abbrev pub byte_answer : ℕ → List ℕ
byte_answer v = (32 ∷ []) ++ byte_text v

abbrev pub word_answer : ℕ → List ℕ
word_answer v = (32 ∷ []) ++ word_text v

abbrev pub refusal_answer : ℕ → List ℕ
refusal_answer n = refused_text ++ decimal_text n

unfoldable pub answer_text : Answer → List ℕ
answer_text Done = ok_text
answer_text (Byte v) = byte_answer v
answer_text (Word v) = word_answer v
answer_text Nothing = empty_text
answer_text (Refused n) = refusal_answer n

unfoldable pub event_text : ℕ → Answer → Bool → List ℕ
event_text number answer irq = decimal_text number ++ (answer_text answer ++ (irq_text irq ++ newline))

unfoldable pub bad_text : ℕ → List ℕ
bad_text number = decimal_text number ++ (32 ∷ 98 ∷ 97 ∷ 100 ∷ 10 ∷ [])
