-- `cases_board_host::spoil::spoil_board` meets its contract. Assumes nothing.
use borrow.Author.Rules.{rules}
use borrow.Author.Tests.{le-ltb, lt-ltb}
use Rattle.cases_board_host.specs.Spoils.{spoiled}
use Rattle.cases_board_host.proofs.spoil.spoil_board.Goals as goal

pub spoil_ranges-requires : goal.spoil_ranges-requires
unfolding spoiled
spoil_ranges-requires c = search rules

pub damage_board-requires : goal.damage_board-requires
unfolding spoiled
damage_board-requires c = search rules

pub returns-then-n-lt36 : goal.returns-then-n-lt36
unfolding spoiled
returns-then-n-lt36 c = simp (c.spoil_ranges.ensures, lt-ltb _ _ c.if-n-lt36.true)

pub returns-else-n-lt36 : goal.returns-else-n-lt36
unfolding spoiled
returns-else-n-lt36 c = simp (c.damage_board.ensures, le-ltb _ _ c.if-n-lt36.false)
