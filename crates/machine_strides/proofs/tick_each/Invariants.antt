use Rattle.machine_strides.proofs.Loops as loops
use Rattle.machine_strides.proofs.tick_each.Given as goal

abbrev pub invariant-loop-done : goal.invariant-loop-done
invariant-loop-done l =
    loops.At l.by.counting l.by.gates l.heard0 l.heard2 l.ticks l.initial.c l.done l.c
