-- `tally::read_if` meets its contract. Assumes nothing.
use Rattle.tally.proofs.read_if.Goals as goal

pub returns : goal.returns
returns c = simp c.none-c.ensures
