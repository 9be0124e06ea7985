-- The loop of `more_digits`: the digits so far are read, and the number they make is not 0 and fits 16 bits.
use Rattle.session_reading.proofs.Usual.{Growing}
use Rattle.session_reading.proofs.whole.more_digits.Given as goal

abbrev pub invariant-loop-i : goal.invariant-loop-i
invariant-loop-i l = Growing l.first l.piece l.from l.n l.i
