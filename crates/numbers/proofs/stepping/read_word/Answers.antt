-- `numbers::stepping::read_word` meets its contract. Assumes nothing.
use Rattle.numbers.proofs.Arms.{word_in_numbers}
use Rattle.numbers.proofs.stepping.read_word.Goals as goal

pub returns : goal.returns
returns c = word_in_numbers c.word_in_numbers.ensures c.read_word.ensures
