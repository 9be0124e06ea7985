-- `cases_board_host::spoil_flags::damage_load` meets its contract. Assumes nothing.
use Rattle.cases_board_host.proofs.Flags.{flagged}
use Rattle.cases_board_host.proofs.spoil_flags.damage_load.Goals as goal

pub returns : goal.returns
returns c = simp (flagged c.damage_flag.ensures.damaged c.damage_flag.ensures.kept)
