-- `cases_board_host::spoil_flags::damage_counter` meets its contract. Assumes nothing.
use Rattle.cases_board_host.proofs.Flags.{flagged}
use Rattle.cases_board_host.specs.SpoiledFlags.{damaged_counter}
use Rattle.cases_board_host.proofs.spoil_flags.damage_counter.Goals as goal

pub returns : goal.returns
unfolding damaged_counter
returns c = simp (c.damage_bus.ensures, c.damage_count.ensures, flagged c.damage_flag.ensures.damaged c.damage_flag.ensures.kept)
