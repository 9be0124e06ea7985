-- `session_reading::read_line` meets its contract. Assumes nothing.
use Rattle.session_reading.proofs.Usual.{blank-found}
use Rattle.session_reading.proofs.read_line.Goals as goal

pub returns-then-is_blank : goal.returns-then-is_blank
returns-then-is_blank c = blank-found c.is_blank.ensures c.if-is_blank.true c.read_blank.ensures
