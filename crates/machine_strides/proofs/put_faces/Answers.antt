-- `machine_strides::put_faces` meets its contract, by a law for each way out. Assumes nothing.
use Rattle.machine_strides.proofs.Parts as parts
use Rattle.machine_strides.proofs.put_faces.Goals as goal

pub leap_counter-t-requires : goal.leap_counter-t-requires
leap_counter-t-requires c = c.requires.timer.counter0

pub returns : goal.returns
returns c =
    parts.faced_of c.args.by.counting
    c.args.by.gates c.args.l
    c.args.ticks c.pulses_0-p0.ensures
    c.leap_counter-t.ensures c.divider_after.ensures c.divider_after-2.ensures
    c.args.f1 c.args.f2
    c.put_face-t.ensures c.put_face-t-2.ensures
