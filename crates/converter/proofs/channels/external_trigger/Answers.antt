-- `converter::channels::external_trigger` meets its contract. Assumes nothing.
use Rattle.converter.proofs.channels.external_trigger.Goals as goal

pub returns : goal.returns
returns c = simp c.trigger.ensures
