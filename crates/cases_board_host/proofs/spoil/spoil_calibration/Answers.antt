-- `cases_board_host::spoil::spoil_calibration` meets its contract. Assumes nothing.
use borrow.Author.Tests.{ne_eqb}
use Rattle.cases_board_host.specs.Spoils.{spoiled_calibration}
use Rattle.cases_board_host.proofs.spoil.spoil_calibration.Goals as goal

pub returns-in-23 : goal.returns-in-23
unfolding spoiled_calibration
returns-in-23 c = simp c.in-23.is

pub returns-in-24 : goal.returns-in-24
unfolding spoiled_calibration
returns-in-24 c = simp c.in-24.is

pub returns-in_default : goal.returns-in_default
unfolding spoiled_calibration
returns-in_default c = simp (ne_eqb _ _ c.in_default.in_default-own.rest.1, ne_eqb _ _ c.in_default.in_default-own.rest.0.1)
