-- `machine_strides::skips::cycle_some` meets its contract, by a law for each way out. Assumes nothing.
use Rattle.machine_strides.proofs.Parts as parts
use mathlib.Core.Path.{refl}
use native.Mathlib.Omega.{arith}
use Rattle.machine_strides.proofs.skips.cycle_some.Goals as goal

pub quiet_pulses-q2-requires : goal.quiet_pulses-q2-requires
quiet_pulses-q2-requires c = c.requires.timer.counter2

pub period_of-p-requires : goal.period_of-p-requires
period_of-p-requires c = c.requires.timer.counter1

pub stretch-s-requires : goal.stretch-s-requires
stretch-s-requires c = c.period_of-p.ensures.small

pub returns-then-q2-s : goal.returns-then-q2-s
returns-then-q2-s c =
    parts.none c.args.by.counting c.args.by.gates c.args.l
    c.args.left 0 refl

pub quiet_pulses-q0-requires : goal.quiet_pulses-q0-requires
quiet_pulses-q0-requires c = c.requires.timer.counter0

pub reach_0-requires : goal.reach_0-requires
reach_0-requires c = c.requires.thousand

pub nonzero_div-near : goal.nonzero_div-near
nonzero_div-near c =
    omega (
      arith,
      parts.some c.quiet_pulses-q2.result c.stretch-s.result
          c.args.left c.if-q2-s.false,
    )

pub overflow_mul-ticks : goal.overflow_mul-ticks
overflow_mul-ticks c =
    omega (
      arith,
      parts.in_left c.args.by.counting
          c.args.by.gates
          c.args.l c.requires
          c.args.left c.quiet_pulses-q0.ensures
          c.reach_0.ensures (parts.at_most c.at_most-near.ensures)
          c.quiet_pulses-q2.ensures
          c.period_of-p.ensures c.stretch-s.ensures
          c.if-q2-s.false (parts.at_most c.at_most-n.ensures),
      c.ranges.left,
    )

pub cycle-requires : goal.cycle-requires
cycle-requires c = c.requires

pub returns : goal.returns
returns c =
    parts.cycles c.args.by.counting
    c.args.by.gates
    c.args.l
    c.requires
    c.args.left c.quiet_pulses-q0.ensures
    c.reach_0.ensures (parts.at_most c.at_most-near.ensures)
    c.quiet_pulses-q2.ensures
    c.period_of-p.ensures c.stretch-s.ensures
    c.if-q2-s.false (parts.at_most c.at_most-n.ensures) c.cycle.ensures
