-- `counter_pulses::period_of` meets its contract: Parts has both outcomes of its test. Assumes nothing.
use Rattle.counter_pulses.proofs.Parts.{in_period, no_period}
use Rattle.counter_pulses.proofs.period_of.Goals as goal

pub returns-then-is_rate-is_settled : goal.returns-then-is_rate-is_settled
returns-then-is_rate-is_settled c = in_period _ _ c.requires (rw (c.is_rate.ensures, c.is_settled.ensures) at c.if-is_rate-is_settled.true) c.lap.ensures

pub returns-else-is_rate-is_settled : goal.returns-else-is_rate-is_settled
returns-else-is_rate-is_settled c = no_period _ _ (rw (c.is_rate.ensures, c.is_settled.ensures) at c.if-is_rate-is_settled.false)
