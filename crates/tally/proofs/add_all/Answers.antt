-- `tally::add_all` meets its contract. Assumes nothing.
use Rattle.tally.proofs.add_all.Goals as goal

pub returns : goal.returns
returns c =
    simp (
      c.add-6.ensures,
      c.add-5.ensures,
      c.add-4.ensures,
      c.add-3.ensures,
      c.add-2.ensures,
      c.add.ensures,
    )
