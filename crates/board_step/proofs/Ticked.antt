-- Theorems that rest on theorems of specs/Ticked.antt, and promise as those do. What specs/Ticked.antt says of itself:
-- A tick of a working board that is not refused: what it leaves.
use Rattle.std.specs.Prelude.{refl, List, ℕ}
use Rattle.machine_record.specs.declared.Board.{Board}
use Rattle.machine_tick.specs.InPlace.{tick_of}
use Rattle.board_refusal.specs.Refusals.{event_checks}
use Rattle.board_step.specs.Act.{acted, eeprom_acted}
use Rattle.board_step.specs.Step.{ran}
use Rattle.board_step.specs.Ways.{Promised, Opened, laid, done}
use Rattle.board_events.specs.declared.Answer.TheVariants.{Done}
use Rattle.board_events.specs.declared.Event.TheVariants.{Tick}
use Rattle.board_step.specs.Ticked.{ticked_board}

pub tick-step : (b : Board) (m e : List ℕ) → Opened b m e → Promised b m e Tick (record { board = ticked_board b; answer = Done }) m e
unfolding event_checks ran acted eeprom_acted
tick-step b m e o = done b m e Tick o refl (record { outcome = rw (tick_of b); memory = laid o; eeprom = refl })
