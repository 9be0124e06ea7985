-- `cases_board_host::spoil::spoil_wiring` meets its contract. Assumes nothing.
use borrow.Author.Tests.{eq-eqb, ne_eqb}
use Rattle.cases_board_host.specs.Spoils.{spoiled_wiring}
use Rattle.cases_board_host.proofs.spoil.spoil_wiring.Goals as goal

pub returns-then-n-eq25 : goal.returns-then-n-eq25
unfolding spoiled_wiring
returns-then-n-eq25 c = simp (eq-eqb _ _ c.if-n-eq25.true)

pub returns-else-n-eq25 : goal.returns-else-n-eq25
unfolding spoiled_wiring
returns-else-n-eq25 c = simp (ne_eqb _ _ c.if-n-eq25.false)
