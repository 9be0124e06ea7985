-- `fifo::is_working` meets its contract. Assumes nothing.
use mathlib.Core.Path.{◌≡◌, ◌∙◌}
use borrow.Author.Tests.{eqb-true, leb-true}
use native.Mathlib.Omega.{arith}
use lib.ListN.{length}
use Rattle.base.specs.Laws.{both}
use Rattle.fifo.specs.Queue.Tested.{none_tested, some_tested, unfit}
use Rattle.fifo.proofs.is_working.Goals as goal

pub bits_of-requires : goal.bits_of-requires
bits_of-requires c =
    let t = both _ _ (both _ _ c.if-memory-f.true).0 in
    let long : length c.args.memory.now ≡ 512 = eqb-true _ _ t.0 in
    omega arith

pub free_are_zero-requires : goal.free_are_zero-requires
free_are_zero-requires c =
    let t = both _ _ (both _ _ c.if-memory-f.true).0 in
    (eqb-true _ _ t.0, leb-true _ _ t.1)

pub returns-then-f-eq0 : goal.returns-then-f-eq0
returns-then-f-eq0 c =
    none_tested c.args.f c.args.memory.now c.bits_of.result c.if-memory-f.true c.if-f-eq0.true
    c.bits_of.ensures

pub returns-else-f-eq0 : goal.returns-else-f-eq0
returns-else-f-eq0 c =
    c.free_are_zero.ensures
    ∙ some_tested c.args.f c.args.memory.now c.if-memory-f.true c.if-f-eq0.false

pub returns-else-memory-f : goal.returns-else-memory-f
returns-else-memory-f c = unfit c.args.f c.args.memory.now c.if-memory-f.false
