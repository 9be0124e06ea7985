-- `fifo::pop` meets its contract. Assumes nothing.
use Rattle.fifo.specs.Queue.Steps.{pop_none, pop_some}
use Rattle.fifo.proofs.pop.Goals as goal

pub returns-then-f-eq0 : goal.returns-then-f-eq0
returns-then-f-eq0 c = pop_none _ _ c.requires c.if-f-eq0.true

pub returns : goal.returns
returns c =
    let s = pop_some _ _ c.requires c.if-f-eq0.false in
    record { fifo = rw c.place_after.ensures s.fifo; laid = s.laid }
