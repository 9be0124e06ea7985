-- `fifo::push` meets its contract. Assumes nothing.
use Rattle.fifo.specs.Queue.Steps.{push_kept, push_lost}
use Rattle.fifo.proofs.push.Goals as goal

pub returns-then-f-lt512 : goal.returns-then-f-lt512
returns-then-f-lt512 c = push_kept _ _ _ c.requires c.if-f-lt512.true

pub returns-else-f-lt512 : goal.returns-else-f-lt512
returns-else-f-lt512 c = push_lost _ _ _ c.requires c.if-f-lt512.false
