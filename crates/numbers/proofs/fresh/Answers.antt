-- `numbers::fresh` meets its contract. Assumes nothing.
use Rattle.numbers.proofs.fresh.Goals as goal

pub returns : goal.returns
returns c = simp (c.fresh-b.ensures, c.byte_of-inputs.ensures)
