-- One turn: the access that the collector names is made as an event of the board, and the board's answer is handed to the collector (the
-- specification, "The collector").
use Rattle.std.specs.Prelude.{ℕ, Result, Ok, Err}
use Rattle.base.specs.declared.Refusal.{Refusal}
use Rattle.board_events.specs.declared.Event.{Event}
use Rattle.board_events.specs.declared.Answer.{Answer}
use Rattle.board_events.specs.declared.Answer.TheVariants.{Done, Byte, Word, Nothing, Refused}
use Rattle.board_events.specs.declared.Event.TheVariants as event
use Rattle.collector_phases.specs.declared.Access.{Access}
use Rattle.collector_phases.specs.declared.Access.TheVariants.{WriteByte, ReadByte, ReadWord}
use Rattle.collector_phases.specs.declared.Collector.{Collector}
use Rattle.collector_steps.specs.declared.Handed.{Handed}
use Rattle.collector_steps.specs.declared.Handed.TheVariants as handed
use Rattle.collector_steps.specs.declared.Taken.{Taken}
use Rattle.collector_answers.specs.declared.BusAnswer.{BusAnswer}
use Rattle.collector_answers.specs.declared.BusAnswer.TheVariants as bus
use Rattle.archive_turns.specs.Machine.{Machine, Host}

-- the event of an access
abbrev pub event_of : Result Access Refusal → Result Event Refusal
event_of (Ok (WriteByte offset value)) = Ok (event.WriteByte offset value)
event_of (Ok (ReadByte offset)) = Ok (event.ReadByte offset)
event_of (Ok (ReadWord offset)) = Ok (event.ReadWord offset)
event_of (Err e) = Err e

-- what the board's answer is to the collector: a number, nothing where a word read found none, or a refusal; the answer to a write isn't looked at, and 0
-- stands for it
abbrev pub brought_by : Answer → BusAnswer
brought_by Done = bus.Number 0
brought_by (Byte byte) = bus.Number byte
brought_by (Word word) = bus.Number word
brought_by Nothing = bus.Nothing
brought_by (Refused number) = bus.Refused number

-- after a turn: the collector, the board, the polls reported, and what is handed over
pub record Turning (B : Type 0) : Type 0 where
  pub collector : Collector
  pub board : B
  pub polls : ℕ
  pub handed : Handed

-- no access is named: the collector stays, and the number says why
abbrev pub unturned : {B : Type 0} → Collector → B → ℕ → Turning B
unturned c b number = record { collector = c; board = b; polls = c.polls; handed = handed.Refused number }

-- the collector has taken what was brought
abbrev pub taken_by : {B : Type 0} → Taken → B → Turning B
taken_by taken b = record { collector = taken.collector; board = b; polls = taken.polls; handed = taken.handed }

abbrev pub turn_by : (M : Machine) (H : Host) → Result Event Refusal → Collector → M.Board → Turning M.Board
turn_by M H (Ok ev) c b = taken_by (H.reply c (brought_by (M.answered b ev))) (M.stepped b ev)
turn_by M H (Err e) c b = unturned c b e.number

abbrev pub turn_of : (M : Machine) (H : Host) → Collector → M.Board → Turning M.Board
turn_of M H c b = turn_by M H (event_of (H.access c)) c b
