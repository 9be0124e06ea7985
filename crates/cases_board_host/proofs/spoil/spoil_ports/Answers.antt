-- `cases_board_host::spoil::spoil_ports` meets its contract. Assumes nothing.
use borrow.Author.Tests.{ne_eqb}
use Rattle.cases_board_host.specs.Spoils.{spoiled_ports}
use Rattle.cases_board_host.proofs.spoil.spoil_ports.Goals as goal

pub returns-in-21 : goal.returns-in-21
unfolding spoiled_ports
returns-in-21 c = simp c.in-21.is

pub returns-in-22 : goal.returns-in-22
unfolding spoiled_ports
returns-in-22 c = simp c.in-22.is

pub returns-in-34 : goal.returns-in-34
unfolding spoiled_ports
returns-in-34 c = simp c.in-34.is

pub returns-in-35 : goal.returns-in-35
unfolding spoiled_ports
returns-in-35 c = simp c.in-35.is

pub returns-in_default : goal.returns-in_default
unfolding spoiled_ports
returns-in_default c =
    simp (
      ne_eqb _ _ c.in_default.in_default-own.rest.1,
      ne_eqb _ _ c.in_default.in_default-own.rest.0.1,
      ne_eqb _ _ c.in_default.in_default-own.rest.0.0.1,
      ne_eqb _ _ c.in_default.in_default-own.rest.0.0.0.1,
    )
