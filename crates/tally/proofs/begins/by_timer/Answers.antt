-- `tally::begins::by_timer` meets its contract. Assumes nothing.
use Rattle.tally.proofs.begins.by_timer.Goals as goal

pub returns : goal.returns
returns c = simp c.has_fallen-fell.ensures
