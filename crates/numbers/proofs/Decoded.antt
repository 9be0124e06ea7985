-- Theorems that rest on theorems of specs/Decoded.antt, and promise as those do. What specs/Decoded.antt says of itself:
-- What a host reads off an answer's number (COWRIESTEP_KIND, COWRIESTEP_REFUSAL, COWRIESTEP_NUMBER of include/cowriestep.h) is the answer that the step
-- gave: no answer of a step is taken for another. Of the board it is asked only that its record and its sample memory are values of their types,
-- `Recorded` and `Sixteen`, which all are that a host lends or passes; they bound the value. The refusals of a step are 1 to 10, whatever the board. The code's
-- own promise (`number_of`) asks nothing of values: there the types bound them.
use Rattle.std.specs.Prelude.{ℕ, ◌≡◌, List}
use Rattle.std.proofs.Common.{sym, ap, ◌∙◌}
use Rattle.machine_record.specs.declared.Board.{Board}
use Rattle.board_events.specs.declared.Event.{Event}
use Rattle.board_step.specs.Step.{step_of}
use Rattle.board_step.specs.Lent.{Stepped}
use Rattle.numbers_answers.specs.Packed.{answer_number, decoded}
use Rattle.numbers_answers.proofs.PackedLaws.{decoded-answer}
use Rattle.numbers.specs.Typed.{Recorded, Sixteen}
use Rattle.numbers.proofs.TypedLaws.{value-below}
use Rattle.numbers.specs.Decoded.{step-refusal}

-- ---- the answers of steps
-- the number of any step's answer is read as that answer
pub step-decoded : (b : Board) (memory eeprom : List ℕ) (ev : Event) → Recorded b → Sixteen memory
    → decoded (answer_number (step_of b memory eeprom ev).answer) ≡ (step_of b memory eeprom ev).answer
step-decoded b memory eeprom ev r s =
    decoded-answer (step_of b memory eeprom ev).answer (step-refusal b memory eeprom ev) (value-below b memory eeprom ev r s)

-- so is the number that a function over a lent board answers (`dmm32_read_byte` and the others promise `Stepped answer_number`)
pub lent-decoded : (b b' : Board) (m m' e e' : List ℕ) (ev : Event) (r : ℕ) → Stepped answer_number b m e ev r b' m' e' → Recorded b → Sixteen m
    → decoded r ≡ (step_of b m e ev).answer
lent-decoded b b' m m' e e' ev r k w s = ap decoded k.answer ∙ step-decoded b m e ev w s

-- "no answer can be taken for another": steps whose answers have one number, of whatever boards and events, have one answer
pub answers-apart : (b b' : Board) (m m' e e' : List ℕ) (ev ev' : Event) → Recorded b → Recorded b' → Sixteen m → Sixteen m'
    → answer_number (step_of b m e ev).answer ≡ answer_number (step_of b' m' e' ev').answer → (step_of b m e ev).answer ≡ (step_of b' m' e' ev').answer
answers-apart b b' m m' e e' ev ev' w w' s s' h = sym (step-decoded b m e ev w s) ∙ ap decoded h ∙ step-decoded b' m' e' ev' w' s'
