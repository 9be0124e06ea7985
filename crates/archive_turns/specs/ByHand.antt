-- A turn is what a host may do by hand (the specification, "The collector": its record names an access; the host makes that access and brings the answer
-- back): the access that is named, made as an event of the board, and then the collector told what came of it, a number, nothing or a refusal.
use Rattle.std.specs.Prelude.{ℕ, ◌≡◌, List, Ok}
use Rattle.machine_record.specs.declared.Board.{Board}
use Rattle.board_step.specs.Step.{step_of}
use Rattle.board_events.specs.declared.Event.{Event}
use Rattle.collector_phases.specs.declared.Collector.{Collector}
use Rattle.collector_phases.specs.Accesses.{access_of}
use Rattle.collector_replies.specs.Reply.{replied}
use Rattle.archive_turns.specs.Turn.{event_of, brought_by, taken_by}
use Rattle.archive_turns.specs.Real.{lent, real, lent_turn}

pub by_hand : (c : Collector) (b : Board) (memory eeprom : List ℕ) (ev : Event) → event_of (access_of c) ≡ Ok ev
    → lent_turn c b memory eeprom ≡ taken_by (replied c (brought_by (step_of b memory eeprom ev).answer)) (real.stepped (lent b memory eeprom) ev)
by_hand c b memory eeprom ev h = rw h
