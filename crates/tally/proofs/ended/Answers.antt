-- `tally::ended` meets its contract. Assumes nothing.
use Rattle.tally.proofs.ended.Goals as goal

pub returns : goal.returns
returns c = simp c.by_end-begins.ensures
