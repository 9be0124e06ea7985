-- `machine_strides::tick_faces` meets its contract, by a law for each way out. Assumes nothing.
use native.Mathlib.Omega.{arith}
use Rattle.machine_strides.proofs.Loops as loops
use Rattle.machine_strides.proofs.tick_faces.Goals as goal

pub pace_of-p1-requires : goal.pace_of-p1-requires
pace_of-p1-requires c = c.requires.works.timer.counter1

pub pace_of-p2-requires : goal.pace_of-p2-requires
pace_of-p2-requires c = c.requires.works.timer.counter2

pub loop-done-init : goal.loop-done-init
loop-done-init c =
    loops.faces_begin c.args.by.counting c.args.by.gates
    c.args.heard2 c.args.ticks c.args.l
    c.requires c.face_of-f1.ensures c.face_of-f2.ensures

pub overflow_add-done : goal.overflow_add-done
overflow_add-done c =
    omega (
      arith,
      c.loop-done-test.true,
      c.ranges.ticks,
    )

pub put_faces-requires : goal.put_faces-requires
put_faces-requires c = c.requires.works

pub returns-then-heard2-fell2 : goal.returns-then-heard2-fell2
returns-then-heard2-fell2 c =
    loops.faces_stop
    c.args.by.counting
    c.args.by.gates
    c.args.heard2
    c.args.ticks
    c.args.l
    c.requires
    c.loop-done.done
    c.loop-done.f1
    c.loop-done.f2
    c.loop-done.invariant
    c.loop-done-test.true
    c.pace_of-p1.ensures
    c.pace_of-p2.ensures
    c.count_on-f1.ensures c.has_fallen.ensures
    c.count_if-f2.ensures c.has_fallen-fell2.ensures c.if-heard2-fell2.true c.put_faces.ensures

pub loop-done-smaller : goal.loop-done-smaller
loop-done-smaller c = omega (arith, c.loop-done-test.true)

pub loop-done-preserved : goal.loop-done-preserved
loop-done-preserved c =
    loops.faces_go c.args.by.counting
    c.args.by.gates
    c.args.heard2
    c.args.ticks
    c.args.l
    c.requires
    c.loop-done.done
    c.loop-done.f1
    c.loop-done.f2
    c.loop-done.invariant
    c.loop-done-test.true
    c.pace_of-p1.ensures
    c.pace_of-p2.ensures
    c.count_on-f1.ensures c.has_fallen.ensures
    c.count_if-f2.ensures c.has_fallen-fell2.ensures c.if-heard2-fell2.false

pub put_faces-requires-2 : goal.put_faces-requires-2
put_faces-requires-2 c = c.requires.works

pub returns : goal.returns
returns c =
    loops.faces_end c.args.by.counting
    c.args.by.gates c.args.heard2
    c.args.ticks c.args.l
    c.requires c.loop-done.done c.loop-done.f1 c.loop-done.f2
    c.loop-done.invariant c.loop-done-test.false c.put_faces-2.ensures
