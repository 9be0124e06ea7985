-- `numbers_events::step` meets its contract. Assumes nothing.
use mathlib.Core.Path.{sym}
use borrow.Author.Rules.{rules}
use Rattle.board.proofs.Arms.{as_kind}
use Rattle.numbers.proofs.Arms.{in_numbers}
use Rattle.numbers_events.proofs.step.Goals as goal

pub returns : goal.returns
returns c =
    in_numbers c.in_numbers.ensures
    (as_kind _ _ _ (sym c.event_of.ensures) c.step.ensures)
