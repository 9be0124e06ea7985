-- `converter::channels::internal_trigger` meets its contract. Assumes nothing.
use Rattle.converter.proofs.channels.internal_trigger.Goals as goal

pub returns : goal.returns
returns c = simp c.trigger.ensures
