-- `cases_board_host::spoil_counters::spoil_counter_0` meets its contract. Assumes nothing.
use borrow.Author.Tests.{eq-eqb, ne_eqb}
use Rattle.cases_board_host.specs.Spoils.{spoiled_counter0}
use Rattle.cases_board_host.proofs.spoil_counters.spoil_counter_0.Goals as goal

pub returns-then-n-eq27 : goal.returns-then-n-eq27
unfolding spoiled_counter0
returns-then-n-eq27 c = simp (c.mode_1.ensures, eq-eqb _ _ c.if-n-eq27.true)

pub returns-else-n-eq27 : goal.returns-else-n-eq27
unfolding spoiled_counter0
returns-else-n-eq27 c = simp (c.spoil_counter.ensures, ne_eqb _ _ c.if-n-eq27.false)
