-- `numbers::time::advance` meets its contract. Assumes nothing.
use Rattle.numbers.proofs.Arms.{time_in_numbers}
use Rattle.numbers.proofs.time.advance.Goals as goal

pub returns : goal.returns
returns c = time_in_numbers c.in_numbers.ensures c.advance.ensures
