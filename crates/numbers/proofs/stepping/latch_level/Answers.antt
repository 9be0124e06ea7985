-- `numbers::stepping::latch_level` meets its contract. Assumes nothing.
use Rattle.numbers.proofs.Arms.{in_numbers}
use Rattle.numbers.proofs.stepping.latch_level.Goals as goal

pub returns : goal.returns
returns c = in_numbers c.in_numbers.ensures c.latch_level.ensures
