-- The product's own board: the definitions that `board::step` promises; and a turn of the collector on it.
use Rattle.std.specs.Prelude.{ℕ, ◌≡◌, Bool, ◌&&◌, List, eqb, if◌then◌else◌}
use Rattle.std.proofs.Math.Option.{none}
use Rattle.fifo.specs.Queue.{queue}
use Rattle.machine_record.specs.declared.Board.{Board}
use Rattle.board_step.specs.States.{State, refusal_at, answer_at, after_event}
use Rattle.board_laws.specs.Begins as conversions
use Rattle.board_events.specs.declared.Event.{Event}
use Rattle.collector_phases.specs.declared.Collector.{Collector}
use Rattle.collector_steps.specs.declared.Taken.{Taken}
use Rattle.archive_turns.specs.declared.Turned.{Turned}
use Rattle.archive_turns.specs.Machine.{Machine}
use Rattle.archive_turns.specs.Hosts.{words}
use Rattle.archive_turns.specs.Turn.{Turning, turn_of}

-- the board's record with the memories that are lent
abbrev pub lent : Board → List ℕ → List ℕ → State
lent b m e = record { board = b; memory = m; eeprom = e }

-- an event of it is not refused
abbrev pub takes : State → Event → Bool
takes l ev = eqb (refusal_at l ev) 0

-- the board of `board::step`; what it refuses begins and ends nothing
abbrev pub real : Machine
real =
    record {
      Board = State;
      stepped = after_event;
      answered = answer_at;
      view = λ l. record { converter = l.board.converter; held = queue l.board.fifo l.memory };
      begins = λ l ev. takes l ev && conversions.begins l.board ev;
      ends = λ l ev. if takes l ev then conversions.code_in ev else none;
    }

-- ---- what `turn` leaves and answers
abbrev pub as_struct : Turning Board → Turned
as_struct t = record { collector = t.collector; board = t.board; polls = t.polls; handed = t.handed }

abbrev pub lent_turn : Collector → Board → List ℕ → List ℕ → Turning State
lent_turn c b m e = turn_of real words c (lent b m e)

-- the record of the board alone
abbrev pub turned_in : Turning State → Turned
turned_in t = record { collector = t.collector; board = t.board.board; polls = t.polls; handed = t.handed }

-- what the collector answers
abbrev pub taken_in : Turned → Taken
taken_in t = record { collector = t.collector; polls = t.polls; handed = t.handed }

pub record Left (t : Turning State) (r : Turned) (m e : List ℕ) : Type 0 where
  pub turned : r ≡ turned_in t
  pub memory : m ≡ t.board.memory
  pub eeprom : e ≡ t.board.eeprom
