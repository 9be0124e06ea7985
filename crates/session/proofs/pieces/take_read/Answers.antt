use Rattle.session.proofs.Parts.{took-none}
use Rattle.session.proofs.pieces.take_read.Goals as goal

pub returns-then-n-eq0 : goal.returns-then-n-eq0
returns-then-n-eq0 g c = took-none _ _ _ _ _
