-- `numbers::stepping::transfer_end` meets its contract. Assumes nothing.
use Rattle.numbers.proofs.Arms.{in_numbers}
use Rattle.numbers.proofs.stepping.transfer_end.Goals as goal

pub returns : goal.returns
returns c = in_numbers c.in_numbers.ensures c.transfer_end.ensures
