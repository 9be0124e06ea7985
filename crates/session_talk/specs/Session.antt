-- A session. The specification, "The session program": lines for a fresh board (jumpers A, mid-scale), each answered in its turn.
use Rattle.std.specs.Prelude.{ℕ, ◌+◌, ◌%◌, ◌^◌, Bool, false, List}
use Rattle.machine_record.specs.Fresh.{fresh_board}
use Rattle.machine_record.specs.declared.Board.{Board}
use Rattle.machine_record.specs.declared.Jumpers.TheVariants.{A}
use Rattle.session_reading.specs.declared.Reading.{Reading}
use Rattle.session_reading.specs.declared.Reading.TheVariants.{Blank}
use Rattle.session_commands.specs.Ends.{is_begun}
use Rattle.session_talk.specs.declared.Session.{Session}

-- all that a session keeps: the board with its memories, the number of the last line answered, and what the line so far is
pub record Talk : Type 0 where
  pub board : Board
  pub memory : List ℕ
  pub eeprom : List ℕ
  pub number : ℕ
  pub reading : Reading

abbrev pub talk_of : Session → List ℕ → List ℕ → Talk
talk_of s memory eeprom = record { board = s.board; memory = memory; eeprom = eeprom; number = s.number; reading = s.reading }

abbrev pub fresh_session : Session
fresh_session = record { board = fresh_board A false; reading = Blank; number = 0 }

abbrev pub line_begun : Session → Bool
line_begun s = is_begun s.reading

-- line numbers count from 1, modulo 2^64
abbrev pub next_number : ℕ → ℕ
next_number number = (number + 1) % 2 ^ 64
