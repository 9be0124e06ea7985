-- `cases_board_host::spoil::spoil_pins` meets its contract. Assumes nothing.
use borrow.Author.Tests.{eq-eqb, ne_eqb}
use Rattle.cases_board_host.specs.Spoils.{spoiled_pins}
use Rattle.cases_board_host.proofs.spoil.spoil_pins.Goals as goal

pub returns-then-n-eq16 : goal.returns-then-n-eq16
unfolding spoiled_pins
returns-then-n-eq16 c = simp (eq-eqb _ _ c.if-n-eq16.true)

pub returns-else-n-eq16 : goal.returns-else-n-eq16
unfolding spoiled_pins
returns-else-n-eq16 c = simp (ne_eqb _ _ c.if-n-eq16.false)
