-- `converter::channels::next_channel` meets its contract. Assumes nothing.
use borrow.Author.Rules.{rules}
use borrow.Author.Tests.{eq-eqb, le-leb, lt-leb, ne_eqb}
use Rattle.converter.specs.Channels.{next_channel}
use Rattle.converter.proofs.channels.next_channel.Goals as goal

pub overflow_add-result : goal.overflow_add-result
unfolding next_channel
overflow_add-result c = search rules

pub returns-then-selected-high : goal.returns-then-selected-high
unfolding next_channel
returns-then-selected-high c = simp (eq-eqb _ _ c.if-selected-high.true)

pub returns-then-selected-ge31 : goal.returns-then-selected-ge31
unfolding next_channel
returns-then-selected-ge31 c = simp (le-leb _ _ c.if-selected-ge31.true, ne_eqb _ _ c.if-selected-high.false)

pub returns-else-selected-ge31 : goal.returns-else-selected-ge31
unfolding next_channel
returns-else-selected-ge31 c = simp (lt-leb _ _ c.if-selected-ge31.false, ne_eqb _ _ c.if-selected-high.false)
