-- `cases_board_host::spoil::spoil_channels` meets its contract. Assumes nothing.
use borrow.Author.Tests.{ne_eqb}
use Rattle.cases_board_host.specs.Spoils.{spoiled_converter}
use Rattle.cases_board_host.proofs.spoil.spoil_channels.Goals as goal

pub returns-in-7 : goal.returns-in-7
unfolding spoiled_converter
returns-in-7 c = simp c.in-7.is

pub returns-in-8 : goal.returns-in-8
unfolding spoiled_converter
returns-in-8 c = simp c.in-8.is

pub returns-in-9 : goal.returns-in-9
unfolding spoiled_converter
returns-in-9 c = simp c.in-9.is

pub returns-in-10 : goal.returns-in-10
unfolding spoiled_converter
returns-in-10 c = simp c.in-10.is

pub returns-in_default : goal.returns-in_default
unfolding spoiled_converter
returns-in_default c =
    simp (
      ne_eqb _ _ c.in_default.in_default-own.rest.1,
      ne_eqb _ _ c.in_default.in_default-own.rest.0.1,
      ne_eqb _ _ c.in_default.in_default-own.rest.0.0.1,
      ne_eqb _ _ c.in_default.in_default-own.rest.0.0.0.1,
    )
