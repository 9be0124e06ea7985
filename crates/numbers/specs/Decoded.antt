-- What a host reads off an answer's number (COWRIESTEP_KIND, COWRIESTEP_REFUSAL, COWRIESTEP_NUMBER of include/cowriestep.h) is the answer that the step
-- gave: no answer of a step is taken for another. Of the board it is asked only that its record and its sample memory are values of their types,
-- `Recorded` and `Sixteen`, which all are that a host lends or passes; they bound the value. The refusals of a step are 1 to 10, whatever the board. The code's
-- own promise (`number_of`) asks nothing of values: there the types bound them.
use Rattle.std.specs.Prelude.{ℕ, zero, suc, ◌<◌, ◌≡◌, refl, Bool, true, false, List, eqb, if◌then◌else◌}
use Rattle.std.proofs.Common.{arith}
use Rattle.machine_record.specs.declared.Board.{Board}
use Rattle.board_events.specs.Answers.{refusal_number, value_read}
use Rattle.board_events.specs.declared.Answer.TheVariants.{Refused}
use Rattle.board_events.specs.declared.Event.{Event}
use Rattle.board_events.specs.declared.Event.TheVariants.{Tick}
use Rattle.board_step.specs.Step.{refusal_of, step_of, memory_after, eeprom_after}
use Rattle.board_step.specs.News.{news}
use Rattle.board_advance.specs.Advance.{advanced_from, advanced_of}
use Rattle.board_advance.specs.declared.Advanced.{Advanced}
use Rattle.board_laws.specs.Answers.{answer-number, value_brought, answer-value}
use Rattle.board_laws.specs.Order.{refusal_bound}
use Rattle.numbers_answers.specs.Packed.{answer_number, decoded}
use Rattle.numbers_answers.proofs.PackedLaws.{decoded-answer}

-- ---- the answers of steps
pub step-refusal : (b : Board) (memory eeprom : List ℕ) (ev : Event) → refusal_number (step_of b memory eeprom ev).answer < 32
step-refusal b memory eeprom ev = omega (arith, answer-number b memory eeprom ev, refusal_bound b memory eeprom ev)

-- ---- many ticks: their answer is read as it was given too, whatever the record. No tick brings a value
tick-value : (b : Board) (m e : List ℕ) → value_read (step_of b m e Tick).answer < 65536
unfolding value_brought
tick-value b m e = rw (answer-value b m e Tick) (by (eqb (refusal_of b m e Tick) 0))
  where
    by : (t : Bool) → (if◌then◌else◌ {A = ℕ} t 0 0) < 65536
    by true = omega arith
    by false = omega arith

abbrev pub ReadBack : Advanced → Type 0
ReadBack a = decoded (answer_number a.progress.answer) ≡ a.progress.answer

either_way : (t : Bool) (x y : Advanced) → ReadBack x → ReadBack y → ReadBack (if t then x else y)
either_way true x y h k = h
either_way false x y h k = k

ticks_decoded : (n d : ℕ) (b : Board) (m e : List ℕ) → ReadBack (advanced_from n d b m e)
ticks_decoded zero d b m e = refl
ticks_decoded (suc n) d b m e =
    either_way (news b (step_of b m e Tick).board) _ _ (decoded-answer (step_of b m e Tick).answer (step-refusal b m e Tick) (tick-value b m e))
    (ticks_decoded n (suc d) (step_of b m e Tick).board (memory_after b m e Tick) (eeprom_after b m e Tick))

pub advance_decoded : (b : Board) (memory eeprom : List ℕ) (ticks : ℕ) → ReadBack (advanced_of b memory eeprom ticks)
unfolding advanced_of
advance_decoded b m e ticks =
    either_way (eqb (refusal_of b m e Tick) 0) _ _ (ticks_decoded ticks 0 b m e)
    (decoded-answer (Refused (refusal_of b m e Tick)) (omega (arith, refusal_bound b m e Tick)) (omega arith))
