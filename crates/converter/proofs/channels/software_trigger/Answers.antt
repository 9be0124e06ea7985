-- `converter::channels::software_trigger` meets its contract. Assumes nothing.
use Rattle.converter.proofs.channels.software_trigger.Goals as goal

pub returns : goal.returns
returns c = simp c.trigger.ensures
