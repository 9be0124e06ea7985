-- `machine_strides::skips::cycle` meets its contract, by a law for each way out. Assumes nothing.
use Rattle.machine_strides.proofs.Parts as parts
use Rattle.machine_strides.proofs.skips.cycle.Goals as goal

pub leap_counter-t-requires : goal.leap_counter-t-requires
leap_counter-t-requires c = c.requires.timer.counter0

pub leap_counter-t-requires-2 : goal.leap_counter-t-requires-2
leap_counter-t-requires-2 c = c.requires.timer.counter2

pub returns : goal.returns
returns c =
    parts.cycled_of c.args.by.counting c.args.by.gates
    c.args.l c.args.ticks
    c.pulses_0-p0.ensures c.leap_counter-t.ensures c.divider_after.ensures
    c.divider_after-2.ensures c.args.n c.leap_counter-t-2.ensures
