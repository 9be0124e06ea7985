-- `cases_board_host::spoil::spoil_fifo` meets its contract. Assumes nothing.
use borrow.Author.Tests.{ne_eqb}
use Rattle.cases_board_host.specs.Spoils.{spoiled_fifo}
use Rattle.cases_board_host.proofs.spoil.spoil_fifo.Goals as goal

pub returns-in-5 : goal.returns-in-5
unfolding spoiled_fifo
returns-in-5 c = simp c.in-5.is

pub returns-in-6 : goal.returns-in-6
unfolding spoiled_fifo
returns-in-6 c = simp c.in-6.is

pub returns-in-33 : goal.returns-in-33
unfolding spoiled_fifo
returns-in-33 c = simp c.in-33.is

pub returns-in_default : goal.returns-in_default
unfolding spoiled_fifo
returns-in_default c =
    simp (ne_eqb _ _ c.in_default.in_default-own.rest.1, ne_eqb _ _ c.in_default.in_default-own.rest.0.1, ne_eqb _ _ c.in_default.in_default-own.rest.0.0.1)
