-- `machine_strides::run` meets its contract, by a law for each way out. Assumes nothing.
use native.Mathlib.Omega.{arith}
use Rattle.machine_strides.proofs.Parts as parts
use Rattle.machine_strides.proofs.Loops as loops
use Rattle.machine_strides.proofs.run.Goals as goal

pub loop-done-init : goal.loop-done-init
loop-done-init c = loops.begins c.args.by.counting c.args.by.gates c.args.heard0 c.args.heard2 c.args.ticks c.args.l c.requires

pub skip_some-s-requires : goal.skip_some-s-requires
skip_some-s-requires c = c.loop-done.invariant.works

pub overflow_add-done : goal.overflow_add-done
overflow_add-done c =
    omega (
      arith,
      c.loop-done.invariant.within,
      c.skip_some-s.ensures.within,
      c.ranges.ticks,
    )

pub overflow_sub-ticks-in-loop-done : goal.overflow_sub-ticks-in-loop-done
overflow_sub-ticks-in-loop-done c = omega (arith, c.loop-done.invariant.within, c.skip_some-s.ensures.within)

pub tick_on-t-requires : goal.tick_on-t-requires
tick_on-t-requires c =
    (loops.skipped_at c.args.by.counting
    c.args.by.gates c.args.heard0
    c.args.heard2 c.args.ticks
    c.args.l c.loop-done.done
    c.loop-done.c c.loop-done.invariant _ _
    c.skip_some-s.ensures).works

pub overflow_add-done-in-loop-done : goal.overflow_add-done-in-loop-done
overflow_add-done-in-loop-done c =
    omega (
      arith,
      loops.ticks_fit c.args.by.counting
          c.args.by.gates
          c.args.heard0
          c.args.heard2
          c.args.ticks
          c.args.l _ _
          (loops.skipped_at c.args.by.counting
          c.args.by.gates
          c.args.heard0
          c.args.heard2
          c.args.ticks
          c.args.l
          c.loop-done.done
          c.loop-done.c
          c.loop-done.invariant _ _
          c.skip_some-s.ensures) (parts.at_most c.at_most-most.ensures).1
          c.tick_on-t.ensures,
      c.ranges.ticks,
    )

pub returns-then-t : goal.returns-then-t
returns-then-t c =
    loops.heard_then c.args.by.counting
    c.args.by.gates
    c.args.heard0
    c.args.heard2
    c.args.ticks
    c.args.l _ _
    (loops.skipped_at c.args.by.counting
    c.args.by.gates
    c.args.heard0
    c.args.heard2
    c.args.ticks
    c.args.l
    c.loop-done.done
    c.loop-done.c
    c.loop-done.invariant _ _
    c.skip_some-s.ensures)
    (parts.at_most c.at_most-most.ensures).1 c.tick_on-t.ensures c.if-t.true

pub loop-done-smaller : goal.loop-done-smaller
loop-done-smaller c =
    loops.nearer c.args.by.counting
    c.args.by.gates
    c.args.heard0
    c.args.heard2
    c.args.ticks
    c.args.l _ _
    (loops.skipped_at c.args.by.counting
    c.args.by.gates
    c.args.heard0
    c.args.heard2
    c.args.ticks
    c.args.l
    c.loop-done.done
    c.loop-done.c
    c.loop-done.invariant _ _
    c.skip_some-s.ensures)
    (parts.at_most c.at_most-most.ensures).1 c.tick_on-t.ensures
    c.loop-done.burst
    c.skip_some-s.result.ticks
    c.loop-done-test.true (omega arith)
    c.burst_after-burst.ensures c.at_most-most.ensures c.if-t.false

pub loop-done-preserved : goal.loop-done-preserved
loop-done-preserved c =
    loops.then_on c.args.by.counting
    c.args.by.gates
    c.args.heard0
    c.args.heard2
    c.args.ticks
    c.args.l _ _
    (loops.skipped_at c.args.by.counting
    c.args.by.gates
    c.args.heard0
    c.args.heard2
    c.args.ticks
    c.args.l
    c.loop-done.done
    c.loop-done.c
    c.loop-done.invariant _ _
    c.skip_some-s.ensures)
    (parts.at_most c.at_most-most.ensures).1 c.tick_on-t.ensures c.if-t.false

pub returns : goal.returns
returns c =
    loops.ends c.args.by.counting c.args.by.gates c.args.heard0 c.args.heard2
    c.args.ticks c.args.l c.loop-done.done c.loop-done.c c.loop-done.invariant c.loop-done-test.false
