-- `samples::whole_scans` meets its contract. Assumes nothing.
use mathlib.Core.Path.{sym, ◌∙◌}
use native.Mathlib.Nat.{mod-le, min-eq_left}
use native.Mathlib.Omega.{arith}
use borrow.Author.Tests.{ltb-false}
use lib.ListN.{length-take}
use Rattle.base.specs.Laws.{neither}
use Rattle.samples.proofs.Longest.{whole_part}
use Rattle.samples.proofs.whole_scans.Goals as goal

pub overflow_sub-width : goal.overflow_sub-width
overflow_sub-width c = ltb-false _ _ (neither _ _ (rw c.is_bad_range.ensures at c.if-is_bad_range.false)).0

pub overflow_sub-end : goal.overflow_sub-end
overflow_sub-end c = mod-le _ _

pub slice_bounds-result-end-else-is_bad_range : goal.slice_bounds-result-end-else-is_bad_range
slice_bounds-result-end-else-is_bad_range c = sym (length-take _ c.args.samples.now ∙ min-eq_left (omega arith))

pub returns-then-is_bad_range : goal.returns-then-is_bad_range
returns-then-is_bad_range c = whole_part _ _ _ _ (simp (rw c.is_bad_range.ensures at c.if-is_bad_range.true))

pub returns-else-is_bad_range : goal.returns-else-is_bad_range
returns-else-is_bad_range c = whole_part _ _ _ _ (simp (rw c.is_bad_range.ensures at c.if-is_bad_range.false))
