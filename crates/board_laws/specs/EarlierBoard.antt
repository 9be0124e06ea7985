-- A board that keeps its samples in the earlier layout (fifo/specs/Earlier.antt): the rules of one event, where all but the layout is as now. It
-- serves the theorem of Same alone.
use Rattle.std.specs.Prelude.{ℕ, Bool, not, List, [], ◌∷◌, eqb, if◌then◌else◌}
use Rattle.base.specs.Tests.{all}
use Rattle.base.specs.Checks.{◌refuses◌, refusal}
use Rattle.fifo.specs.Samples.{oldest_of}
use Rattle.fifo.specs.Earlier.{earlier_queue, earlier_layout, earlier_empty, earlier_pushed_to, earlier_popped_from, is_earlier_fifo}
use Rattle.fifo.specs.declared.Fifo.{Fifo}
use Rattle.machine_record.specs.Parts.{with_fifo}
use Rattle.machine_record.specs.Working.{is_working_machine}
use Rattle.machine_record.specs.declared.Board.{Board}
use Rattle.bus.specs.Effects.{Effect, Keep, Take, Store, Empty}
use Rattle.board_stores.specs.Stores.{wrong_lengths}
use Rattle.board_refusal.specs.Refusals.{event_checks}
use Rattle.board_step.specs.Act.{acted, eeprom_acted}
use Rattle.board_step.specs.Acted.{Acted}
use Rattle.board_step.specs.Step.{samples_after}
use Rattle.board_step.specs.States.{State}
use Rattle.board_events.specs.declared.Answer.{Answer}
use Rattle.board_events.specs.declared.Answer.TheVariants.{Refused}
use Rattle.board_events.specs.declared.Event.{Event}

-- ---- the samples that it holds, and whether it works
abbrev pub earlier_held : State → List ℕ
earlier_held s = earlier_queue s.board.fifo s.memory

abbrev pub is_earlier_board : Board → List ℕ → Bool
is_earlier_board b memory = all (is_working_machine b ∷ is_earlier_fifo b.fifo memory ∷ [])

-- ---- an event: the number that it is refused by (0: it is not), in the order 2, 1 and the event's own
unfoldable pub earlier_refusal : State → Event → ℕ
earlier_refusal s event =
    refusal (
    wrong_lengths s.memory s.eeprom refuses 2
    ∷ not (is_earlier_board s.board s.memory) refuses 1
    ∷ event_checks s.board event
    )

-- what it makes of the record, its sample memory apart, answers, and does to the samples
abbrev pub earlier_acted : State → Event → Acted
earlier_acted s event = acted s.board (oldest_of (earlier_held s)) s.eeprom event

abbrev pub earlier_fifo_after : Effect → Fifo → Fifo
earlier_fifo_after Keep f = f
earlier_fifo_after Take f = earlier_popped_from f
earlier_fifo_after (Store sample) f = earlier_pushed_to f
earlier_fifo_after Empty f = earlier_empty f

abbrev pub earlier_ran : State → Event → State
earlier_ran s event = record {
  board = with_fifo (earlier_acted s event).board (earlier_fifo_after (earlier_acted s event).effect s.board.fifo);
  memory = earlier_layout (samples_after (earlier_acted s event).effect (earlier_held s));
  eeprom = eeprom_acted s.board s.eeprom event;
}

-- its answer, and what it leaves: what is refused leaves everything as it was
unfoldable pub earlier_answer : State → Event → Answer
earlier_answer s event = if eqb (earlier_refusal s event) 0 then (earlier_acted s event).answer else Refused (earlier_refusal s event)

unfoldable pub earlier_after : State → Event → State
earlier_after s event = if eqb (earlier_refusal s event) 0 then earlier_ran s event else s

-- ---- a row of events, the first first: what it leaves, and its answers
abbrev pub earlier_after_events : State → List Event → State
earlier_after_events s [] = s
earlier_after_events s (event ∷ events) = earlier_after_events (earlier_after s event) events

abbrev pub earlier_answers : State → List Event → List Answer
earlier_answers s [] = []
earlier_answers s (event ∷ events) = earlier_answer s event ∷ earlier_answers (earlier_after s event) events
