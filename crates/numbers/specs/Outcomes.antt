-- What a step or many ticks leave, with the answer as a number. The specification, "What is delivered".
use Rattle.board_step.specs.declared.Outcome.{Outcome}
use Rattle.board_advance.specs.declared.Progress.{Progress}
use Rattle.board_advance.specs.declared.Advanced.{Advanced}
use Rattle.numbers_answers.specs.Packed.{answer_number}
use Rattle.numbers.specs.declared.Numbered.{Numbered}
use Rattle.numbers.specs.declared.WordNumbered.{WordNumbered}
use Rattle.numbers.specs.declared.ProgressNumbered.{ProgressNumbered}
use Rattle.numbers.specs.declared.AdvancedNumbered.{AdvancedNumbered}

abbrev pub numbered_of : Outcome → Numbered
numbered_of o = record { board = o.board; number = answer_number o.answer }

-- a word read: of the record the sample memory's part, which alone changes (board_step/specs/Sampled.antt)
abbrev pub word_numbered : Outcome → WordNumbered
word_numbered o = record { fifo = o.board.fifo; number = answer_number o.answer }

-- many ticks: the answer beside the number of those that were done
abbrev pub progress_numbered : Progress → ProgressNumbered
progress_numbered p = record { answer = answer_number p.answer; done = p.done }

abbrev pub advanced_numbered : Advanced → AdvancedNumbered
advanced_numbered a = record { board = a.board; progress = progress_numbered a.progress }
