-- `counter_one::pulse_working` meets its contract: Pulses has the counter after each way through the tests. Assumes nothing.
use Rattle.std.proofs.Common.{eq-eqb, ne_eqb, ap, not}
use Rattle.counter_one.proofs.Pulses.{unprogrammed, after-load, after-rest, after_reload, after-rate, after-half, after_terminal}
use Rattle.counter_one.proofs.pulse_working.Goals as goal

pub returns-then-c-eq0 : goal.returns-then-c-eq0
returns-then-c-eq0 c = unprogrammed _ _ c.if-c-eq0.true

pub returns-then-c-rate : goal.returns-then-c-rate
returns-then-c-rate c =
    after-load _ _ c.requires
    c.if-c-eq0.false c.if-c-rate.true

pub returns-then-not-c-gate : goal.returns-then-not-c-gate
returns-then-not-c-gate c =
    after-rest _ _ c.requires
    c.if-c-eq0.false c.if-c-rate.false (ap not c.if-not-c-gate.true)

pub returns-then-c-eq1 : goal.returns-then-c-eq1
returns-then-c-eq1 c =
    after_reload _ _ c.requires
    c.if-c-eq0.false
    (eq-eqb _ _ c.if-rate.true) c.if-c-rate.false
    (ap not c.if-not-c-gate.false) c.if-c-eq1.true

pub returns-else-c-eq1 : goal.returns-else-c-eq1
returns-else-c-eq1 c =
    after-rate _ _ c.requires
    c.if-c-eq0.false
    (eq-eqb _ _ c.if-rate.true) c.if-c-rate.false
    (ap not c.if-not-c-gate.false) c.if-c-eq1.false

pub returns-then-c-eq1-2 : goal.returns-then-c-eq1-2
returns-then-c-eq1-2 c =
    after-half _ _ c.requires
    c.if-c-eq0.false (ne_eqb _ _ c.if-rate.false)
    c.if-c-rate.false c.if-c-eq1-2.true

pub returns-else-c-eq1-2 : goal.returns-else-c-eq1-2
returns-else-c-eq1-2 c =
    after_terminal _ _ c.requires
    c.if-c-eq0.false
    (ne_eqb _ _ c.if-rate.false) c.if-c-rate.false
    (ap not c.if-not-c-gate.false) c.if-c-eq1-2.false
