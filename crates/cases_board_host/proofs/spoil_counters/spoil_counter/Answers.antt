-- `cases_board_host::spoil_counters::spoil_counter` meets its contract. Assumes nothing.
use borrow.Author.Tests.{eq-eqb, ne_eqb}
use Rattle.cases_board_host.specs.Spoils.{spoiled_counter}
use Rattle.cases_board_host.proofs.spoil_counters.spoil_counter.Goals as goal

pub returns-then-n-one : goal.returns-then-n-one
unfolding spoiled_counter
returns-then-n-one c = simp (c.one_to_load.ensures, eq-eqb _ _ c.if-n-one.true)

pub returns-then-n-low : goal.returns-then-n-low
unfolding spoiled_counter
returns-then-n-low c = simp (c.out_low.ensures, eq-eqb _ _ c.if-n-low.true, ne_eqb _ _ c.if-n-one.false)

pub returns-else-n-low : goal.returns-else-n-low
unfolding spoiled_counter
returns-else-n-low c = simp (ne_eqb _ _ c.if-n-low.false, ne_eqb _ _ c.if-n-one.false)
