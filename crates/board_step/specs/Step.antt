-- One event, over the record, the samples held and the EEPROM; then over the memories. The specification, "What is delivered", and condition 1
-- of acceptance: each event gets an answer, and what is refused leaves board record, sample memory and EEPROM as they were.
use Rattle.std.specs.Prelude.{ℕ, ◌≡◌, List, [], eqb, if◌then◌else◌}
use Rattle.base.specs.Checks.{refusal}
use Rattle.fifo.specs.Samples.{oldest_of, pushed, popped}
use Rattle.fifo.specs.Queue.{queue, layout, empty_fifo, pushed_to, popped_from}
use Rattle.fifo.specs.declared.Fifo.{Fifo}
use Rattle.machine_record.specs.Parts.{with_fifo}
use Rattle.machine_record.specs.declared.Board.{Board}
use Rattle.bus.specs.Effects.{Effect, Keep, Take, Store, Empty}
use Rattle.board_step.specs.Act.{acted, eeprom_acted}
use Rattle.board_refusal.specs.Refusals.{checks}
use Rattle.board_step.specs.Acted.{Acted}
use Rattle.board_events.specs.declared.Answer.{Answer}
use Rattle.board_events.specs.declared.Answer.TheVariants.{Refused}
use Rattle.board_step.specs.declared.Outcome.{Outcome}
use Rattle.board_events.specs.declared.Event.{Event}

-- ---- what an effect makes of the samples held, oldest first, and of the memory's record
abbrev pub samples_after : Effect → List ℕ → List ℕ
samples_after Keep samples = samples
samples_after Take samples = popped samples
samples_after (Store sample) samples = pushed samples sample
samples_after Empty samples = []

abbrev pub fifo_after : Effect → Fifo → Fifo
fifo_after Keep f = f
fifo_after Take f = popped_from f
fifo_after (Store sample) f = pushed_to f
fifo_after Empty f = empty_fifo

-- ---- an event that is not refused
pub record Ran : Type 0 where
  pub board : Board
  pub samples : List ℕ
  pub eeprom : List ℕ
  pub answer : Answer

-- with what it made of the record
abbrev pub finished : Fifo → List ℕ → List ℕ → Acted → Ran
finished f samples eeprom a = record {
  board = with_fifo a.board (fifo_after a.effect f);
  samples = samples_after a.effect samples;
  eeprom = eeprom;
  answer = a.answer;
}

unfoldable pub ran : Board → List ℕ → List ℕ → Event → Ran
ran b samples eeprom event = finished b.fifo samples (eeprom_acted b eeprom event) (acted b (oldest_of samples) eeprom event)

-- what is left in the memories and comes back
pub record Did (r : Ran) (o : Outcome) (m e : List ℕ) : Type 0 where
  pub outcome : o ≡ record { board = r.board; answer = r.answer }
  pub memory : m ≡ layout r.board.fifo r.samples
  pub eeprom : e ≡ r.eeprom

-- ---- any event
abbrev pub refused_by : Board → ℕ → Outcome
refused_by b number = record { board = b; answer = Refused number }

abbrev pub ran_from : Board → List ℕ → List ℕ → Event → Ran
ran_from b memory eeprom event = ran b (queue b.fifo memory) eeprom event

-- the number that it is refused by; 0: not refused
abbrev pub refusal_of : Board → List ℕ → List ℕ → Event → ℕ
refusal_of b memory eeprom event = refusal (checks b memory eeprom event)

unfoldable pub step_of : Board → List ℕ → List ℕ → Event → Outcome
step_of b memory eeprom event =
    if eqb (refusal_of b memory eeprom event) 0
    then record { board = (ran_from b memory eeprom event).board; answer = (ran_from b memory eeprom event).answer }
    else refused_by b (refusal_of b memory eeprom event)

unfoldable pub memory_after : Board → List ℕ → List ℕ → Event → List ℕ
memory_after b memory eeprom event =
    if eqb (refusal_of b memory eeprom event) 0
    then layout (ran_from b memory eeprom event).board.fifo (ran_from b memory eeprom event).samples
    else memory

unfoldable pub eeprom_after : Board → List ℕ → List ℕ → Event → List ℕ
eeprom_after b memory eeprom event =
    if eqb (refusal_of b memory eeprom event) 0 then (ran_from b memory eeprom event).eeprom else eeprom
