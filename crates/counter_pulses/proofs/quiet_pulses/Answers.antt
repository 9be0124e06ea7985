-- `counter_pulses::quiet_pulses` meets its contract: Parts has the pulses of each way through the tests. Assumes nothing.
use Rattle.base.specs.Flags.{on}
use Rattle.counter_pulses.proofs.Parts.{off-quiet, pending, idle, spares_terminal, spares-none, spares-rate, some_left}
use Rattle.counter_pulses.proofs.quiet_pulses.Goals as goal

pub returns-then-k-eq0 : goal.returns-then-k-eq0
returns-then-k-eq0 c = off-quiet _ _ c.if-k-eq0.true

pub overflow_sub-result : goal.overflow_sub-result
overflow_sub-result c = some_left (on c.args.k.count.out) _ c.if-k-left.false

pub returns-then-not-is_settled : goal.returns-then-not-is_settled
returns-then-not-is_settled c = pending _ _ c.requires c.if-k-eq0.false c.if-not-is_settled.ensures

pub returns-then-not-does_count : goal.returns-then-not-does_count
returns-then-not-does_count c = idle _ _ c.requires c.if-k-eq0.false c.if-not-is_settled.ensures c.if-not-does_count.ensures

pub returns-then-not-is_rate : goal.returns-then-not-is_rate
returns-then-not-is_rate c =
    spares_terminal _ _ c.requires c.if-k-eq0.false c.if-not-is_settled.ensures c.if-not-does_count.ensures c.if-not-is_rate.ensures

pub returns-then-k-left : goal.returns-then-k-left
returns-then-k-left c =
    spares-none _ _ c.requires c.if-k-eq0.false c.if-not-is_settled.ensures c.if-not-does_count.ensures c.if-not-is_rate.ensures c.if-k-left.true

pub returns-else-k-left : goal.returns-else-k-left
returns-else-k-left c =
    spares-rate _ _ c.requires c.if-k-eq0.false c.if-not-is_settled.ensures c.if-not-does_count.ensures c.if-not-is_rate.ensures c.if-k-left.false
