-- `tally::begins::by_written` meets its contract. Assumes nothing.
use Rattle.tally.proofs.begins.by_written.Goals as goal

pub returns-in-Ok : goal.returns-in-Ok
returns-in-Ok c = simp (c.by_timer.ensures, c.in-Ok.is)
