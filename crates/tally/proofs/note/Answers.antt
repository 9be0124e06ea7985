-- `tally::note` meets its contract. Assumes nothing.
use Rattle.tally.proofs.note.Goals as goal

pub returns : goal.returns
returns c = simp (c.add_all.ensures, c.counts.ensures)
