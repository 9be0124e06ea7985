-- The answer in the specification's numbers: the number that an event is refused by, and the value that comes back.
use Rattle.std.specs.Prelude.{ℕ}
use Rattle.board_events.specs.declared.Answer.{Answer}
use Rattle.board_events.specs.declared.Answer.TheVariants.{Done, Byte, Word, Nothing, Refused}

-- 0 where the event is not refused
abbrev pub refusal_number : Answer → ℕ
refusal_number Done = 0
refusal_number (Byte value) = 0
refusal_number (Word value) = 0
refusal_number Nothing = 0
refusal_number (Refused number) = number

-- what a read shows a guest on the bus: where nothing is there, FF in both bytes as the two byte reads show; 0 where nothing comes back
abbrev pub value_read : Answer → ℕ
value_read Done = 0
value_read (Byte value) = value
value_read (Word value) = value
value_read Nothing = 0xFFFF
value_read (Refused number) = 0
