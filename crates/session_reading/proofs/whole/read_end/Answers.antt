-- `session_reading::whole::read_end` meets its contract. Assumes nothing.
use native.Mathlib.Omega.{arith}
use lib.ListN.{get_or}
use Rattle.session_reading.proofs.Scanning.{found_as}
use Rattle.session_reading.proofs.Usual.{end-found, offset_small, offset_found}
use Rattle.session_reading.proofs.whole.read_end.Goals as goal

pub returns-then-byte-eq10 : goal.returns-then-byte-eq10
returns-then-byte-eq10 c = end-found c.reading_of.ensures c.if-from-piece.true c.if-byte-eq10.true

pub overflow_cast-n : goal.overflow_cast-n
overflow_cast-n c =
    let p =
    offset_small (get_or c.args.piece.now c.args.from 0)
    c.args.n c.args.letter c.if-byte-n.true in omega (arith, p.1)

pub returns-then-byte-n : goal.returns-then-byte-n
returns-then-byte-n c =
    offset_found c.args.letter c.read_value.ensures
    c.if-from-piece.true c.if-byte-n.true

pub returns : goal.returns
returns c = found_as c.reading_of-2.ensures c.read_on.ensures
