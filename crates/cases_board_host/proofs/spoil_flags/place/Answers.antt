-- `cases_board_host::spoil_flags::place` meets its contract. Assumes nothing.
use borrow.Author.Tests.{le-ltb, lt-ltb}
use Rattle.cases_board_host.specs.SpoiledFlags.{place_from}
use Rattle.cases_board_host.proofs.spoil_flags.place.Goals as goal

pub returns-then-n-first : goal.returns-then-n-first
unfolding place_from
returns-then-n-first c = simp (lt-ltb _ _ c.if-n-first.true)

pub returns-else-n-first : goal.returns-else-n-first
unfolding place_from
returns-else-n-first c = simp (le-ltb _ _ c.if-n-first.false)
