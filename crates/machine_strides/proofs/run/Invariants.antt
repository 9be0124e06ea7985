use Prim.Native.Nat.{◌-◌}
use Rattle.machine_strides.proofs.Loops as loops
use Rattle.machine_strides.proofs.run.Given as goal

abbrev pub invariant-loop-done : goal.invariant-loop-done
invariant-loop-done l =
    loops.At l.by.counting l.by.gates l.heard0 l.heard2 l.ticks l.initial.c l.done l.c

abbrev pub decreases-loop-done : goal.decreases-loop-done
decreases-loop-done l =
    l.ticks - l.done
