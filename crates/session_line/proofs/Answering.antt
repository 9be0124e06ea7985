-- The ways of `happen`, `refuse` and `answer_line`, over plain values. Assumes nothing.
use Rattle.std.proofs.Common.{◌≡◌, ℕ, ◌≤◌, Bool, not, ◌&&◌, List, Option, None, Some, length, ap}
use Rattle.machine_record.specs.declared.Board.{Board}
use Rattle.board_step.specs.Step.{step_of, memory_after, eeprom_after}
use Rattle.board_events.specs.declared.Event.{Event}
use Rattle.board_step.specs.declared.Outcome.{Outcome}
use Rattle.session_commands.specs.Ends.{command_read}
use Rattle.session_text.specs.Text.{Wrote}
use Rattle.session_reading.specs.declared.Reading.TheVariants.{Blank}
use Rattle.session_text.proofs.Writing.{wrote_as}
use Rattle.requests.specs.Requests.{asking}
use Rattle.session_answers.specs.Answers.{event_text}
use Rattle.session_answers.proofs.Lengths.{event_length, bad_length}
use Rattle.session_talk.specs.Session.{Talk, talk_of, next_number}
use Rattle.session_talk.specs.Wanted.{wanted_by}
use Rattle.session_line.specs.Done.{raised, said_by, line_done, line_said, Happened, NotCommanded, Done}
use Rattle.session_line.specs.declared.Answered.{Answered}

-- an event happened: its outcome, both memories, and the line
pub happened : (b : Board) (number : ℕ) (event : Event) (memory₀ eeprom₀ : List ℕ) {memory eeprom out out' : List ℕ} {at place : ℕ} {o : Outcome}
    {asked asks : Bool}
    → o ≡ step_of b memory₀ eeprom₀ event → memory ≡ memory_after b memory₀ eeprom₀ event → eeprom ≡ eeprom_after b memory₀ eeprom₀ event
    → asked ≡ asking b.requests.flags → asks ≡ asking o.board.requests.flags
    → Wrote (event_text number o.answer (not asked && asks)) out at out' place
    → Happened b number event memory₀ eeprom₀ out at memory eeprom out'
    (record { session = record { board = o.board; reading = Blank; number = number }; at = place })
happened b number event memory₀ eeprom₀ {o = o} oe me ee was is w =
    record {
      talk =
          rw (me, ee)
          (ap (λ (p : Outcome).
          record {
            board = p.board;
            memory = memory_after b memory₀ eeprom₀ event;
            eeprom = eeprom_after b memory₀ eeprom₀ event;
            number = number;
            reading = Blank;
          }) oe);
      wrote = wrote_as (rw (was, is) (ap (λ (p : Outcome). event_text number p.answer (raised b p.board)) oe)) w;
    }

-- a line that asks for an event
pub line_event : (t : Talk) {event : Event} {number : ℕ} {out out' memory eeprom : List ℕ} {at : ℕ} {r : Answered}
    → number ≡ next_number t.number → wanted_by (command_read t.reading) ≡ Some event
    → Happened t.board number event t.memory t.eeprom out at memory eeprom out' r → Done t out at memory eeprom out' r
unfolding line_done line_said
line_event t {event} {out = out} {out'} {memory} {eeprom} {at} {r} n asked h = rw (asked, ← n) h

-- a line that asks for nothing
pub line_bad : (t : Talk) {number : ℕ} {out out' : List ℕ} {at : ℕ} {r : Answered}
    → number ≡ next_number t.number → wanted_by (command_read t.reading) ≡ None
    → NotCommanded t.board number out at out' r → Done t out at t.memory t.eeprom out' r
unfolding line_done line_said
line_bad t {out = out} {out'} {at} {r} n asked h =
    rw (asked, ← n) (record { talk = ap (λ s. talk_of s t.memory t.eeprom) h.session; wrote = h.wrote })

said_length : (t : Talk) (a : Option Event) → length (said_by t a) ≤ 64
said_length t None = bad_length _
said_length t (Some event) = event_length _ _ _

pub line_length : (t : Talk) → length (line_said t) ≤ 64
unfolding line_said
line_length t = said_length t (wanted_by (command_read t.reading))
