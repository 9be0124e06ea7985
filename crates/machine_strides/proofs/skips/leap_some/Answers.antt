-- `machine_strides::skips::leap_some` meets its contract, by a law for each way out. Assumes nothing.
use Rattle.machine_strides.proofs.Parts as parts
use Rattle.machine_strides.proofs.skips.leap_some.Goals as goal

pub quiet_pulses-q0-requires : goal.quiet_pulses-q0-requires
quiet_pulses-q0-requires c = c.requires.timer.counter0

pub quiet_pulses-q1-requires : goal.quiet_pulses-q1-requires
quiet_pulses-q1-requires c = c.requires.timer.counter1

pub reach_0-requires : goal.reach_0-requires
reach_0-requires c = c.requires.thousand

pub reach_1-requires : goal.reach_1-requires
reach_1-requires c = c.requires.hundred

pub returns-then-ticks-eq0 : goal.returns-then-ticks-eq0
returns-then-ticks-eq0 c =
    parts.none c.args.by.counting c.args.by.gates
    c.args.l c.args.left _
    c.if-ticks-eq0.true

pub leap-requires : goal.leap-requires
leap-requires c = c.requires

pub returns : goal.returns
returns c =
    parts.leaps c.args.by.counting
    c.args.by.gates c.args.l
    c.requires c.args.left
    c.quiet_pulses-q0.ensures c.reach_0.ensures
    (parts.at_most c.at_most-near.ensures) c.quiet_pulses-q1.ensures
    c.reach_1.ensures (parts.at_most c.at_most-ticks.ensures) c.leap.ensures
