-- `cases_board_host::spoil::spoil_outputs` meets its contract. Assumes nothing.
use borrow.Author.Tests.{ne_eqb}
use Rattle.cases_board_host.specs.Spoils.{spoiled_outputs}
use Rattle.cases_board_host.proofs.spoil.spoil_outputs.Goals as goal

pub returns-in-11 : goal.returns-in-11
unfolding spoiled_outputs
returns-in-11 c = simp c.in-11.is

pub returns-in-18 : goal.returns-in-18
unfolding spoiled_outputs
returns-in-18 c = simp c.in-18.is

pub returns-in-19 : goal.returns-in-19
unfolding spoiled_outputs
returns-in-19 c = simp c.in-19.is

pub returns-in-20 : goal.returns-in-20
unfolding spoiled_outputs
returns-in-20 c = simp c.in-20.is

pub returns-in-28 : goal.returns-in-28
unfolding spoiled_outputs
returns-in-28 c = simp c.in-28.is

pub returns-in_default : goal.returns-in_default
unfolding spoiled_outputs
returns-in_default c =
    simp (
      ne_eqb _ _ c.in_default.in_default-own.rest.1,
      ne_eqb _ _ c.in_default.in_default-own.rest.0.1,
      ne_eqb _ _ c.in_default.in_default-own.rest.0.0.1,
      ne_eqb _ _ c.in_default.in_default-own.rest.0.0.0.1,
      ne_eqb _ _ c.in_default.in_default-own.rest.0.0.0.0.1,
    )
