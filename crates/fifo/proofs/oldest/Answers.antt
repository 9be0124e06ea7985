-- `fifo::oldest` meets its contract. Assumes nothing.
use Rattle.fifo.specs.Queue.Steps.{oldest-none, oldest-some}
use Rattle.fifo.proofs.oldest.Goals as goal

pub returns-then-f-eq0 : goal.returns-then-f-eq0
returns-then-f-eq0 c = oldest-none _ _ c.if-f-eq0.true

pub returns : goal.returns
returns c = oldest-some _ _ c.requires c.if-f-eq0.false
