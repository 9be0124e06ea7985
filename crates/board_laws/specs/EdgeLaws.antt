-- Writes of 9 and 10 and resets, part by part: laws for the theorem that they are no edge.
use Rattle.std.specs.Prelude.{ℕ, ◌≡◌}
use Rattle.base.specs.Fields.{bit}
use Rattle.fifo.specs.declared.Fifo.{Fifo}
use Rattle.counter_one.specs.Counter.{gate_moved}
use Rattle.timer.specs.Timer.{counter_of, gate_of}
use Rattle.timer.specs.declared.Select.{Select}
use Rattle.machine_record.specs.Parts.{with_fifo}
use Rattle.machine_record.specs.declared.Board.{Board}
use Rattle.machine_clock.specs.Clock.{gates, counting_written}
use Rattle.machine_reset.specs.Reset.{board_reset}
use Rattle.bus.specs.Bytes.{operation_written}

-- ---- the record after each
module _ (b : Board) (v : ℕ) (f : Fifo) where
  -- from the gates of the record before to those of the record after
  abbrev pub Gated : Board → Type 0
  Gated c = (i : Select) → counter_of c.clocks.timer i ≡ gate_moved (counter_of b.clocks.timer i) (gate_of (gates b) i) (gate_of (gates c) i)

  abbrev pub nine : Board
  nine = with_fifo (operation_written b v) f

  abbrev pub ten : Board
  ten = with_fifo (counting_written b v) f

  abbrev pub anew : Board
  anew = with_fifo (board_reset b (bit v 5)) f
