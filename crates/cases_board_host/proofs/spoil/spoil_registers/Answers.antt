-- `cases_board_host::spoil::spoil_registers` meets its contract. Assumes nothing.
use borrow.Author.Tests.{ne_eqb}
use Rattle.cases_board_host.specs.Spoils.{spoiled_registers}
use Rattle.cases_board_host.proofs.spoil.spoil_registers.Goals as goal

pub returns-in-17 : goal.returns-in-17
unfolding spoiled_registers
returns-in-17 c = simp c.in-17.is

pub returns-in-26 : goal.returns-in-26
unfolding spoiled_registers
returns-in-26 c = simp c.in-26.is

pub returns-in_default : goal.returns-in_default
unfolding spoiled_registers
returns-in_default c = simp (ne_eqb _ _ c.in_default.in_default-own.rest.1, ne_eqb _ _ c.in_default.in_default-own.rest.0.1)
