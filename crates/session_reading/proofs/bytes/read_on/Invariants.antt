-- The loop of `read_on`: the bytes so far are read, and none is a newline.
use Rattle.session_reading.specs.Found.{Scanned}
use Rattle.session_reading.proofs.bytes.read_on.Given as goal

abbrev pub invariant-loop-i : goal.invariant-loop-i
invariant-loop-i l = Scanned l.initial.reading l.piece l.from l.reading l.i
