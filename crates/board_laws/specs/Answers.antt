-- The answer of a step in the specification's numbers: the number that it is refused by, and the value that a guest is shown.
use Rattle.std.specs.Prelude.{ℕ, ◌≡◌, refl, Bool, true, false, List, eqb, if◌then◌else◌, Option, Some, None}
use Rattle.std.proofs.Common.{sym, ◌∙◌, eqb-true}
use Rattle.fifo.specs.Samples.{oldest_of}
use Rattle.fifo.specs.Queue.{queue}
use Rattle.machine_record.specs.declared.Board.{Board}
use Rattle.bus.specs.Place.{place_of}
use Rattle.bus.specs.Registers.{byte_at}
use Rattle.board_step.specs.Acted.{word_read_answer}
use Rattle.board_step.specs.Act.{acted}
use Rattle.board_step.specs.Step.{ran, ran_from, refusal_of, refused_by, step_of}
use Rattle.board_events.specs.Answers.{refusal_number, value_read}
use Rattle.board_events.specs.declared.Event.{Event}
use Rattle.board_events.specs.declared.Event.TheVariants.{WriteByte, ReadByte, ReadWord, ConversionEnd, DinPins, LatchLevel, PortPins, Tick, TransferEnd}

-- what an event that is not refused shows, the samples held being these: a read the byte of its place, a word read the oldest sample, FFFF where none is held
unfoldable pub value_brought : Board → List ℕ → Event → ℕ
value_brought b samples (WriteByte offset value) = 0
value_brought b samples (ReadByte offset) = byte_at b (oldest_of samples) (place_of b.registers.page offset)
value_brought b samples (ReadWord offset) = value_read (word_read_answer (oldest_of samples))
value_brought b samples (ConversionEnd code) = 0
value_brought b samples (DinPins d) = 0
value_brought b samples (LatchLevel level) = 0
value_brought b samples (PortPins q v) = 0
value_brought b samples Tick = 0
value_brought b samples TransferEnd = 0

word-taken : (o : Option ℕ) → refusal_number (word_read_answer o) ≡ 0
word-taken None = refl
word-taken (Some sample) = refl

-- it is answered by no refusal
acted-answer : (b : Board) (samples e : List ℕ) (ev : Event)
    → (refusal_number (acted b (oldest_of samples) e ev).answer ≡ 0) × (value_read (acted b (oldest_of samples) e ev).answer ≡ value_brought b samples ev)
unfolding acted value_brought
acted-answer b samples e (WriteByte n v) = (refl, refl)
acted-answer b samples e (ReadByte n) = (refl, refl)
acted-answer b samples e (ReadWord n) = (word-taken (oldest_of samples), refl)
acted-answer b samples e (ConversionEnd code) = (refl, refl)
acted-answer b samples e (DinPins d) = (refl, refl)
acted-answer b samples e (LatchLevel level) = (refl, refl)
acted-answer b samples e (PortPins q v) = (refl, refl)
acted-answer b samples e Tick = (refl, refl)
acted-answer b samples e TransferEnd = (refl, refl)

-- the number that a step answers is that of the first check that holds, 0 where none does
pub answer-number : (b : Board) (memory eeprom : List ℕ) (ev : Event)
    → refusal_number (step_of b memory eeprom ev).answer ≡ refusal_of b memory eeprom ev
unfolding step_of ran
answer-number b memory eeprom ev = by (eqb (refusal_of b memory eeprom ev) 0) refl
  where
    by : (t : Bool) → eqb (refusal_of b memory eeprom ev) 0 ≡ t
        → refusal_number
        (if t then record { board = (ran_from b memory eeprom ev).board; answer = (ran_from b memory eeprom ev).answer }
        else refused_by b (refusal_of b memory eeprom ev)).answer
        ≡ refusal_of b memory eeprom ev
    by true h = (acted-answer b (queue b.fifo memory) eeprom ev).0 ∙ sym (eqb-true _ _ h)
    by false h = refl

-- the value that a step answers is what the event brings, and 0 where it is refused
pub answer-value : (b : Board) (memory eeprom : List ℕ) (ev : Event)
    → value_read (step_of b memory eeprom ev).answer
    ≡ (if eqb (refusal_of b memory eeprom ev) 0 then value_brought b (queue b.fifo memory) ev else 0)
unfolding step_of ran
answer-value b memory eeprom ev = by (eqb (refusal_of b memory eeprom ev) 0)
  where
    by : (t : Bool)
        → value_read
        (if t then record { board = (ran_from b memory eeprom ev).board; answer = (ran_from b memory eeprom ev).answer }
        else refused_by b (refusal_of b memory eeprom ev)).answer
        ≡ (if t then value_brought b (queue b.fifo memory) ev else 0)
    by true = (acted-answer b (queue b.fifo memory) eeprom ev).1
    by false = refl
