-- Read and cleared are told apart by the answer: a sample that an event counts as read is shown, so no event that is answered by done counts one; and what an
-- event clears is not, so none that shows something, or is refused, counts any as cleared.
use Rattle.std.specs.Prelude.{Bool, ℕ, Option}
use Rattle.std.proofs.Math.Bool.{true, false}
use Rattle.fifo.specs.Samples.{oldest_of}
use Rattle.fifo.specs.Queue.{queue}
use Rattle.board_step.specs.States.{State}
use Rattle.board_events.specs.declared.Answer.{Answer}
use Rattle.board_events.specs.declared.Answer.TheVariants.{Done, Byte, Word, Nothing, Refused}
use Rattle.board_events.specs.declared.Event.{Event}

abbrev pub is_done : Answer → Bool
is_done Done = true
is_done (Byte value) = false
is_done (Word value) = false
is_done (Refused number) = false
is_done Nothing = false

-- ---- any event of any board
module _ (s : State) (ev : Event) where
  abbrev pub oldest : Option ℕ
  oldest = oldest_of (queue s.board.fifo s.memory)
