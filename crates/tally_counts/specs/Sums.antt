-- The sums of request M-112: "Show, over any events from a fresh board, that conversions ended equal samples read, held, lost at a full memory, and cleared by
-- a FIFO or board reset; and conversions begun equal those ended, abandoned by a reset, and in progress (none or one)."
use Rattle.std.specs.Prelude.{◌≤◌}
use Rattle.base.specs.Flags.{on, flag-le}
use Rattle.board_step.specs.States.{State}
use Rattle.tally_counts.specs.Counts.{in_progress}

-- ---- from any board, working or not, with what it holds and has in progress added
-- none or one
pub none_or_one : (s : State) → in_progress s.board ≤ 1
none_or_one s = flag-le (on s.board.converter.converting)
