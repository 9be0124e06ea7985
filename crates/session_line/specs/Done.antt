-- One line that was read: the session after it, and what is printed.
use Rattle.std.specs.Prelude.{◌≡◌, ℕ, Bool, not, ◌&&◌, List, Option, None, Some}
use Rattle.machine_record.specs.declared.Board.{Board}
use Rattle.board_step.specs.Step.{step_of, memory_after, eeprom_after}
use Rattle.board_events.specs.declared.Event.{Event}
use Rattle.session_reading.specs.declared.Reading.TheVariants.{Blank}
use Rattle.session_text.specs.Text.{Wrote}
use Rattle.session_commands.specs.Ends.{command_read}
use Rattle.requests.specs.Requests.{asking}
use Rattle.session_answers.specs.Answers.{event_text, bad_text}
use Rattle.session_talk.specs.Wanted.{wanted_by}
use Rattle.session_talk.specs.Session.{Talk, talk_of, next_number}
use Rattle.session_line.specs.declared.Answered.{Answered}

-- the flags go from none to some
abbrev pub raised : Board → Board → Bool
raised before after = not (asking before.requests.flags) && asking after.requests.flags

abbrev pub done_by : Talk → Option Event → Talk
done_by t None = record { board = t.board; memory = t.memory; eeprom = t.eeprom; number = next_number t.number; reading = Blank }
done_by t (Some event) = record {
  board = (step_of t.board t.memory t.eeprom event).board;
  memory = memory_after t.board t.memory t.eeprom event;
  eeprom = eeprom_after t.board t.memory t.eeprom event;
  number = next_number t.number;
  reading = Blank;
}

abbrev pub said_by : Talk → Option Event → List ℕ
said_by t None = bad_text (next_number t.number)
said_by t (Some event) =
    event_text (next_number t.number) (step_of t.board t.memory t.eeprom event).answer
    (raised t.board (step_of t.board t.memory t.eeprom event).board)

-- the line that was read is answered
unfoldable pub line_done : Talk → Talk
line_done t = done_by t (wanted_by (command_read t.reading))

unfoldable pub line_said : Talk → List ℕ
line_said t = said_by t (wanted_by (command_read t.reading))

-- what answering leaves: the session, both memories, and the text at `at` of `out`
pub record AnswersLine (t : Talk) (text out : List ℕ) (at : ℕ) (memory eeprom out' : List ℕ) (r : Answered) : Type 0 where
  pub talk : talk_of r.session memory eeprom ≡ t
  pub wrote : Wrote text out at out' r.at

abbrev pub Happened : Board → ℕ → Event → List ℕ → List ℕ → List ℕ → ℕ → List ℕ → List ℕ → List ℕ → Answered → Type 0
Happened board number event memory₀ eeprom₀ out at memory eeprom out' r =
    AnswersLine
    (record {
      board = (step_of board memory₀ eeprom₀ event).board;
      memory = memory_after board memory₀ eeprom₀ event;
      eeprom = eeprom_after board memory₀ eeprom₀ event;
      number = number;
      reading = Blank;
    })
    (event_text number (step_of board memory₀ eeprom₀ event).answer (raised board (step_of board memory₀ eeprom₀ event).board))
    out at memory eeprom out' r

-- a line that is no command: the board and its memories stay
pub record NotCommanded (board : Board) (number : ℕ) (out : List ℕ) (at : ℕ) (out' : List ℕ) (r : Answered) : Type 0 where
  pub session : r.session ≡ record { board = board; reading = Blank; number = number }
  pub wrote : Wrote (bad_text number) out at out' r.at

abbrev pub Done : Talk → List ℕ → ℕ → List ℕ → List ℕ → List ℕ → Answered → Type 0
Done t out at memory eeprom out' r = AnswersLine (line_done t) (line_said t) out at memory eeprom out' r
