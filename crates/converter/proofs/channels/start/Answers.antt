-- `converter::channels::start` meets its contract. Assumes nothing.
use Rattle.converter.proofs.channels.start.Goals as goal

pub returns : goal.returns
returns c = simp c.next_channel.ensures
