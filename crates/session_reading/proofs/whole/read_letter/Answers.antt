-- `session_reading::whole::read_letter` meets its contract. Assumes nothing.
use mathlib.Core.Path.{ap}
use Rattle.session_reading.specs.declared.Reading.TheVariants.{Letter}
use Rattle.session_reading.proofs.Scanning.{found_as}
use Rattle.session_reading.proofs.Usual.{space_found}
use Rattle.session_reading.proofs.whole.read_letter.Goals as goal

pub returns-then-piece-from-eq32 : goal.returns-then-piece-from-eq32
returns-then-piece-from-eq32 c = space_found c.read_begun.ensures c.if-from-piece.true c.if-piece-from-eq32.true

pub returns-else-from-piece : goal.returns-else-from-piece
returns-else-from-piece c = found_as (ap Letter c.number_of.ensures) c.read_on.ensures
