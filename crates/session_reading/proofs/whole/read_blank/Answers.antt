-- `session_reading::whole::read_blank` meets its contract. Assumes nothing.
use Rattle.session_reading.proofs.Usual.{letter_found}
use Rattle.session_reading.proofs.whole.read_blank.Goals as goal

pub returns-then-byte : goal.returns-then-byte
returns-then-byte c = letter_found c.read_letter.ensures c.if-from-piece.true c.if-byte.true
