-- `cases_board_host::spoil_flags::damage_outputs` meets its contract. Assumes nothing.
use Rattle.cases_board_host.specs.SpoiledFlags.{damaged_outputs}
use Rattle.cases_board_host.proofs.spoil_flags.damage_outputs.Goals as goal

pub returns : goal.returns
unfolding damaged_outputs
returns c = simp c.damage_load.ensures
