-- `fifo::are_zero` meets its contract. Assumes nothing.
use Rattle.fifo.proofs.are_zero.Goals as goal

pub returns-then-count-gt256 : goal.returns-then-count-gt256
returns-then-count-gt256 c = c.ends_are_zero.ensures

pub returns-then-count-gt128 : goal.returns-then-count-gt128
returns-then-count-gt128 c = c.ends_are_zero-then-count-gt128.ensures

pub returns-else-count-gt128 : goal.returns-else-count-gt128
returns-else-count-gt128 c = c.ends_are_zero-else-count-gt128.ensures

pub returns-then-count-gt32 : goal.returns-then-count-gt32
returns-then-count-gt32 c = c.ends_are_zero-then-count-gt32.ensures

pub returns-then-count-gt16 : goal.returns-then-count-gt16
returns-then-count-gt16 c = c.ends_are_zero-then-count-gt16.ensures

pub returns-else-count-gt16 : goal.returns-else-count-gt16
returns-else-count-gt16 c = c.ends_are_zero-else-count-gt16.ensures

pub returns-else-count-gt8 : goal.returns-else-count-gt8
returns-else-count-gt8 c = c.bits_of.ensures
