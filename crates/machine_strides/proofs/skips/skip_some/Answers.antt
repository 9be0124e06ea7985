-- `machine_strides::skips::skip_some` meets its contract, by a law for each way out. Assumes nothing.
use Rattle.machine_strides.proofs.Parts as parts
use Rattle.machine_strides.proofs.skips.skip_some.Goals as goal

pub cycle_some-a-requires : goal.cycle_some-a-requires
cycle_some-a-requires c = c.requires

pub leap_some-b-requires : goal.leap_some-b-requires
leap_some-b-requires c =
    parts.still-works c.args.by.counting c.args.by.gates c.args.l
    c.args.left _ _ c.cycle_some-a.ensures c.requires

pub returns : goal.returns
returns c =
    parts.both c.args.by.counting c.args.by.gates
    c.args.l c.args.left _ _
    c.cycle_some-a.ensures _ _ c.leap_some-b.ensures
