-- Where every sample went, and every conversion (request M-112): what one event counts, of the board before it, and what a row of events counts. "Each number
-- is defined by going through the events with the board as it stood before each, not from stored sums. Refused events count nowhere." Which events begin, end
-- and abandon a conversion is said in board_laws/specs/Begins.antt.
use Rattle.std.specs.Prelude.{ℕ, ◌+◌, Bool, true, false, not, ◌&&◌, ◌||◌, List, [], ◌∷◌, eqb, if◌then◌else◌}
use Rattle.base.specs.Flags.{on, flag, nonzero}
use Rattle.requests.specs.Registers.{FIFORST}
use Rattle.machine_record.specs.declared.Board.{Board}
use Rattle.board_step.specs.States.{State, refusal_at, after_event}
use Rattle.board_laws.specs.Begins.{begins, ends, keeps, resets, abandons}
use Rattle.tally_counts.specs.declared.Tally.{Tally}
use Rattle.board_events.specs.declared.Event.{Event}
use Rattle.board_events.specs.declared.Event.TheVariants.{WriteByte, ReadByte, ReadWord, ConversionEnd, DinPins, LatchLevel, PortPins, Tick, TransferEnd}

-- ---- one event that is not refused
-- "1 read: its high byte, and the sample leaves"; "A word read is 0 then 1 as one event", elsewhere than at 0 it is refused
abbrev pub takes : Event → Bool
takes (WriteByte offset value) = false
takes (ReadByte offset) = eqb offset 1
takes (ReadWord offset) = true
takes (ConversionEnd code) = false
takes (DinPins d) = false
takes (LatchLevel level) = false
takes (PortPins q v) = false
takes Tick = false
takes TransferEnd = false

-- a sample is read: one leaves where one is held. "Empty: FF, no change"
unfoldable pub reads : Board → Event → Bool
reads b event = takes event && nonzero b.fifo.held

-- a sample is lost at a full memory: "An end with 512 held loses the new sample"
unfoldable pub loses : Board → Event → Bool
loses b event = ends event && not (keeps b)

-- "7: .. FIFORST bit 1. .. Reset empties memory"; 8: "A reset .. empties memory"
abbrev pub empties : Event → Bool
empties (WriteByte offset value) = eqb offset 7 && FIFORST value || resets (WriteByte offset value)
empties (ReadByte offset) = false
empties (ReadWord offset) = false
empties (ConversionEnd code) = false
empties (DinPins d) = false
empties (LatchLevel level) = false
empties (PortPins q v) = false
empties Tick = false
empties TransferEnd = false

-- the samples that are cleared by a FIFO or board reset: what is held then
unfoldable pub clears : Board → Event → ℕ
clears b event = if empties event then b.fifo.held else 0

-- ---- the counts: of conversions those begun, ended and abandoned by a reset; of samples those read, lost at a full memory and cleared by a FIFO or board
-- reset
abbrev pub no_counts : Tally
no_counts = record { begun = 0; ended = 0; abandoned = 0; read = 0; lost = 0; cleared = 0 }

-- of one event that is not refused: one or none each, but for what is cleared
unfoldable pub counts_of : Board → Event → Tally
counts_of b event = record {
  begun = flag (begins b event);
  ended = flag (ends event);
  abandoned = flag (abandons b event);
  read = flag (reads b event);
  lost = flag (loses b event);
  cleared = clears b event;
}

-- of any event: "Refused events count nowhere"
unfoldable pub counts_at : State → Event → Tally
counts_at s event = if eqb (refusal_at s event) 0 then counts_of s.board event else no_counts

-- of a row of events, the first first
abbrev pub together : Tally → Tally → Tally
together c d = record {
  begun = c.begun + d.begun;
  ended = c.ended + d.ended;
  abandoned = c.abandoned + d.abandoned;
  read = c.read + d.read;
  lost = c.lost + d.lost;
  cleared = c.cleared + d.cleared;
}

abbrev pub counts_in : State → List Event → Tally
counts_in s [] = no_counts
counts_in s (event ∷ events) = together (counts_at s event) (counts_in (after_event s event) events)

-- ---- what a board has: the samples that it holds, and the conversion in progress, none or one
abbrev pub held : Board → ℕ
held b = b.fifo.held

abbrev pub in_progress : Board → ℕ
in_progress b = flag (on b.converter.converting)
