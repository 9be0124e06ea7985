use Prim.Native.Nat.{◌-◌}
use Rattle.machine_strides.proofs.Loops as loops
use Rattle.machine_strides.proofs.tick_faces.Given as goal

abbrev pub invariant-loop-done : goal.invariant-loop-done
invariant-loop-done l =
    loops.FacesAt l.by.counting l.by.gates l.heard2 l.ticks l.l l.done l.f1 l.f2

abbrev pub decreases-loop-done : goal.decreases-loop-done
decreases-loop-done l =
    l.ticks - l.done
