-- `cases_board_host::spoil_flags::damage_clocks` meets its contract. Assumes nothing.
use Rattle.cases_board_host.specs.SpoiledFlags.{damaged_clocks}
use Rattle.cases_board_host.proofs.spoil_flags.damage_clocks.Goals as goal

pub returns : goal.returns
unfolding damaged_clocks
returns c = simp (c.put_timer.ensures, c.damage_timer.ensures)
