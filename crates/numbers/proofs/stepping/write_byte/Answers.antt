-- `numbers::stepping::write_byte` meets its contract. Assumes nothing.
use Rattle.numbers.proofs.Arms.{in_numbers}
use Rattle.numbers.proofs.stepping.write_byte.Goals as goal

pub returns : goal.returns
returns c = in_numbers c.in_numbers.ensures c.write_byte.ensures
