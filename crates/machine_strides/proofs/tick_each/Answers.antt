-- `machine_strides::tick_each` meets its contract, by a law for each way out. Assumes nothing.
use Rattle.machine_strides.proofs.Loops as loops
use Rattle.machine_strides.proofs.tick_each.Goals as goal

pub loop-done-init : goal.loop-done-init
loop-done-init c = loops.begins c.args.by.counting c.args.by.gates c.args.heard0 c.args.heard2 c.args.ticks c.args.l c.requires

pub returns-then-heard0-fell0 : goal.returns-then-heard0-fell0
returns-then-heard0-fell0 c =
    loops.stops c.args.by.counting
    c.args.by.gates
    c.args.heard0
    c.args.heard2
    c.args.ticks
    c.args.l
    c.loop-done.done
    c.loop-done.c
    c.loop-done.invariant
    c.loop-done-test.true c.tick_clocks-c.ensures
    c.has_fallen-fell0.ensures c.has_fallen-fell2.ensures c.if-heard0-fell0.true

pub loop-done-preserved : goal.loop-done-preserved
loop-done-preserved c =
    loops.goes c.args.by.counting
    c.args.by.gates
    c.args.heard0
    c.args.heard2
    c.args.ticks
    c.args.l
    c.loop-done.done
    c.loop-done.c
    c.loop-done.invariant
    c.loop-done-test.true c.tick_clocks-c.ensures
    c.has_fallen-fell0.ensures c.has_fallen-fell2.ensures c.if-heard0-fell0.false
