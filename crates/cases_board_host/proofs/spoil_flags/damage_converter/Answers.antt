-- `cases_board_host::spoil_flags::damage_converter` meets its contract. Assumes nothing.
use Rattle.cases_board_host.proofs.Flags.{flagged}
use Rattle.cases_board_host.specs.SpoiledFlags.{damaged_converter}
use Rattle.cases_board_host.proofs.spoil_flags.damage_converter.Goals as goal

pub returns : goal.returns
unfolding damaged_converter
returns c =
    simp (
      flagged c.damage_flag-3.ensures.damaged c.damage_flag-3.ensures.kept,
      flagged c.damage_flag-2.ensures.damaged c.damage_flag-2.ensures.kept,
      flagged c.damage_flag.ensures.damaged c.damage_flag.ensures.kept,
    )
