-- A tick of a working board that is not refused: what it leaves.
use Rattle.std.specs.Prelude.{List, ℕ}
use Rattle.std.proofs.Common.{subst}
use Rattle.machine_record.specs.declared.Board.{Board}
use Rattle.machine_clock.specs.Clock.{gates}
use Rattle.machine_tick.specs.InPlace.{clocks_ticked, ticked_to, tick_of}
use Rattle.machine_tick.specs.Kept.{ticked-works}
use Rattle.machine_record.specs.Working.{WorkingMachine}
use Rattle.board_refusal.specs.Working.{WorkingBoard, board-to}
use Rattle.board_step.specs.Ways.{Opened, working}

-- the record, its parts changed in place
abbrev pub ticked_board : Board → Board
ticked_board b = ticked_to b (clocks_ticked b.registers.counting (gates b) b.clocks)

-- and it is a working board's
pub tick-works : (b : Board) (m : List ℕ) → WorkingBoard b m → WorkingBoard (ticked_board b) m
tick-works b m w = record { machine = subst WorkingMachine (tick_of b) (ticked-works b w.machine); fifo = w.fifo }

pub tick-opens : (b : Board) (m e : List ℕ) → Opened b m e → Opened (ticked_board b) m e
tick-opens b m e o = record { long = o.long; working = board-to (ticked_board b) m (tick-works b m (working o)) }
