-- `cases_board_host::spoil::spoil_clocks` meets its contract. Assumes nothing.
use borrow.Author.Tests.{ne_eqb}
use Rattle.cases_board_host.specs.Spoils.{spoiled_clocks}
use Rattle.cases_board_host.proofs.spoil.spoil_clocks.Goals as goal

pub returns-in-12 : goal.returns-in-12
unfolding spoiled_clocks
returns-in-12 c = simp (c.put_timer-l.ensures, c.spoil_timer.ensures, c.in-12.is)

pub returns-in-13 : goal.returns-in-13
unfolding spoiled_clocks
returns-in-13 c = simp (c.put_timer-l.ensures, c.spoil_timer.ensures, c.in-13.is)

pub returns-in_default : goal.returns-in_default
unfolding spoiled_clocks
returns-in_default c =
    simp (c.put_timer-l.ensures, c.spoil_timer.ensures, ne_eqb _ _ c.in_default.in_default-own.rest.1, ne_eqb _ _ c.in_default.in_default-own.rest.0.1)
