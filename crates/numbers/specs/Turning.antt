-- A turn of the collector on a board, in numbers: the board's record, and what the collector answers (the specification, "The collector").
use Rattle.archive_turns.specs.declared.Turned.{Turned}
use Rattle.archive_turns.specs.Real.{taken_in}
use Rattle.numbers_collector.specs.Collecting.{taken_answer}
use Rattle.numbers.specs.declared.TurnNumbered.{TurnNumbered}

abbrev pub turn_numbered : Turned → TurnNumbered
turn_numbered t = record { board = t.board; taken = taken_answer (taken_in t) }
