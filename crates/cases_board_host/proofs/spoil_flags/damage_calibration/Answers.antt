-- `cases_board_host::spoil_flags::damage_calibration` meets its contract. Assumes nothing.
use Rattle.cases_board_host.proofs.Flags.{flagged}
use Rattle.cases_board_host.specs.SpoiledFlags.{damaged_calibration}
use Rattle.cases_board_host.proofs.spoil_flags.damage_calibration.Goals as goal

pub returns : goal.returns
unfolding damaged_calibration
returns c = simp (flagged c.damage_flag-2.ensures.damaged c.damage_flag-2.ensures.kept, flagged c.damage_flag.ensures.damaged c.damage_flag.ensures.kept)
