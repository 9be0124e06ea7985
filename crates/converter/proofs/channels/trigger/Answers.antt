-- `converter::channels::trigger` meets its contract. Assumes nothing.
use Rattle.converter.proofs.channels.trigger.Goals as goal

pub returns-then-triggers-c : goal.returns-then-triggers-c
returns-then-triggers-c c = simp (c.start.ensures, c.if-triggers-c.true)

pub returns-else-triggers-c : goal.returns-else-triggers-c
returns-else-triggers-c c = simp c.if-triggers-c.false
