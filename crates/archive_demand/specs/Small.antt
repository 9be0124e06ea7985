-- A small board, which is its own view (specs/SmallLaws.antt: it obeys the laws of a board). Each DIN event is an edge of the external
-- trigger, a conversion's end ends the conversion in progress, and of the bus it has the writes of 2, 3, 7 and 9, the reads of 7 and 8, and
-- the word read. Every other event answers ok and changes nothing; so does a write of 11, since no view shows the range.
use Rattle.std.specs.Prelude.{ℕ, ◌+◌, ◌%◌, Bool, false, not, ◌&&◌, List, [], ◌∷◌, ℤ, eqb, leb, length, if◌then◌else◌}
use Rattle.std.proofs.Math.Option.{Option, none, some}
use Rattle.base.specs.Flags.{on}
use Rattle.base.specs.Fields.{field}
use Rattle.base.specs.Weights.{weight_of}
use Rattle.converter.specs.Channels.{end_starts}
use Rattle.converter.specs.Codes.{sample_of}
use Rattle.converter.specs.Registers.{with_bits, status_bits}
use Rattle.requests.specs.Registers.{FIFORST}
use Rattle.board_events.specs.declared.Answer.{Answer}
use Rattle.board_events.specs.declared.Answer.TheVariants.{Done, Byte, Word, Nothing}
use Rattle.board_events.specs.declared.Event.{Event}
use Rattle.board_events.specs.declared.Event.TheVariants.{WriteByte, ReadByte, ReadWord, ConversionEnd, DinPins, LatchLevel, PortPins, Tick, TransferEnd}
use Rattle.archive_turns.specs.Machine.{View, Machine}
use Rattle.archive_demand.specs.Laws.{starting, ending, clken_written, low_written, high_written, leaving}

-- ---- the bus
-- 7: SCANEN is stored, also beside FIFORST, which empties the memory
abbrev pub scanned : View → ℕ → View
scanned v x =
    record { converter = with_bits v.converter (field x 2 1) v.converter.clken; held = v.held }

abbrev pub emptied : View → View
emptied v = record { converter = v.converter; held = [] }

abbrev pub fifo_controlled : View → ℕ → View
fifo_controlled v x = if FIFORST x then emptied (scanned v x) else scanned v x

-- 2: L4-0; 3: H4-0; 9: CLKEN
abbrev pub written : View → ℕ → ℕ → View
written v n x =
    if eqb n 2 then low_written (x % 32) v
    else if eqb n 3 then high_written (x % 32) v
    else if eqb n 7 then fifo_controlled v x
    else if eqb n 9 then clken_written (field x 1 1) v
    else v

-- 7: EF and FF, and no other bit; 8: STS, single-ended inputs, ADCH4-0
abbrev pub flag_byte : Bool → Bool → ℕ
flag_byte ef ff = weight_of ef 128 + weight_of ff 32

abbrev pub fifo_byte : View → ℕ
fifo_byte v = flag_byte (leb (length v.held) 0) (leb 512 (length v.held))

abbrev pub ad_byte : View → ℕ
ad_byte v = status_bits v.converter + 96

abbrev pub read_answer : View → ℕ → Answer
read_answer v n = if eqb n 7 then Byte (fifo_byte v) else if eqb n 8 then Byte (ad_byte v) else Done

-- the word read takes the oldest sample; with none held it answers so and changes nothing
abbrev pub fetched : View → List ℕ → View
fetched v [] = v
fetched v (c ∷ rest) = leaving rest v

abbrev pub fetched_answer : List ℕ → Answer
fetched_answer [] = Nothing
fetched_answer (c ∷ rest) = Word c

-- ---- any event
-- an edge begins a conversion with CLKEN, unless one runs
abbrev pub edge_begins : View → Bool
edge_begins v = on v.converter.clken && not (on v.converter.converting)

abbrev pub small_step : View → Event → View
small_step v (WriteByte n x) = written v n x
small_step v (ReadByte n) = v
small_step v (ReadWord n) = if eqb n 0 then fetched v v.held else v
small_step v (ConversionEnd code) = if on v.converter.converting then ending (sample_of code) v else v
small_step v (DinPins d) = if edge_begins v then starting v else v
small_step v (LatchLevel level) = v
small_step v (PortPins q x) = v
small_step v Tick = v
small_step v TransferEnd = v

abbrev pub small_answer : View → Event → Answer
small_answer v (WriteByte n x) = Done
small_answer v (ReadByte n) = read_answer v n
small_answer v (ReadWord n) = if eqb n 0 then fetched_answer v.held else Done
small_answer v (ConversionEnd code) = Done
small_answer v (DinPins d) = Done
small_answer v (LatchLevel level) = Done
small_answer v (PortPins q x) = Done
small_answer v Tick = Done
small_answer v TransferEnd = Done

abbrev pub small_begins : View → Event → Bool
small_begins v (WriteByte n x) = false
small_begins v (ReadByte n) = false
small_begins v (ReadWord n) = false
small_begins v (ConversionEnd code) = on v.converter.converting && end_starts v.converter
small_begins v (DinPins d) = edge_begins v
small_begins v (LatchLevel level) = false
small_begins v (PortPins q x) = false
small_begins v Tick = false
small_begins v TransferEnd = false

abbrev pub small_ends : View → Event → Option ℤ
small_ends v (WriteByte n x) = none
small_ends v (ReadByte n) = none
small_ends v (ReadWord n) = none
small_ends v (ConversionEnd code) = if on v.converter.converting then some code else none
small_ends v (DinPins d) = none
small_ends v (LatchLevel level) = none
small_ends v (PortPins q x) = none
small_ends v Tick = none
small_ends v TransferEnd = none

abbrev pub small : Machine
small =
    record { Board = View; stepped = small_step; answered = small_answer; view = λ v. v; begins = small_begins; ends = small_ends }
