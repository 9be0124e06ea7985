-- The loop of `spell`: what is left of the number has still to stand at `from` and before it.
use Rattle.session_text.proofs.Writing.{Spelled}
use Rattle.session_text.proofs.spell.Given as goal

abbrev pub invariant-loop-left : goal.invariant-loop-left
invariant-loop-left l = Spelled l.n l.digits l.from l.left

abbrev pub decreases-loop-left : goal.decreases-loop-left
decreases-loop-left l = l.left
