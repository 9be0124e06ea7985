-- `cases_board_host::spoil_flags::damage_fifo` meets its contract. Assumes nothing.
use borrow.Author.Tests.{ne_eqb}
use Rattle.cases_board_host.proofs.Flags.{flagged}
use Rattle.cases_board_host.specs.SpoiledFlags.{damaged_fifo}
use Rattle.cases_board_host.proofs.spoil_flags.damage_fifo.Goals as goal

pub returns-in-74 : goal.returns-in-74
unfolding damaged_fifo
returns-in-74 c = simp (c.in-74.is, flagged c.damage_flag-ovf.ensures.damaged c.damage_flag-ovf.ensures.kept)

pub returns-in-75 : goal.returns-in-75
unfolding damaged_fifo
returns-in-75 c = simp (c.in-75.is, flagged c.damage_flag-ovf.ensures.damaged c.damage_flag-ovf.ensures.kept)

pub returns-in_default : goal.returns-in_default
unfolding damaged_fifo
returns-in_default c =
    simp (
      ne_eqb _ _ c.in_default.in_default-own.rest.1,
      ne_eqb _ _ c.in_default.in_default-own.rest.0.1,
      flagged c.damage_flag-ovf.ensures.damaged c.damage_flag-ovf.ensures.kept,
    )
