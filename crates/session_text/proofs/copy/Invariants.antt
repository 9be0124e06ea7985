-- The loop of `copy`: the first i bytes of the text stand in `out`.
use Rattle.session_text.proofs.Writing.{Copied}
use Rattle.session_text.proofs.copy.Given as goal

abbrev pub invariant-loop-i : goal.invariant-loop-i
invariant-loop-i l = Copied l.text l.initial.out l.at l.out l.i
