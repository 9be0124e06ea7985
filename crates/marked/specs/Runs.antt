-- Runs of events of a board, and what is looked at after each event: over the record, the sample memory and the EEPROM, by the step of
-- `board::step`, so through every check of it, the lengths (2) and the working record (1) too.
use Rattle.std.specs.Prelude.{ℕ, zero, suc, Bool, false, List, [], ◌∷◌, pos, replicate}
use Rattle.base.specs.Flags.{on}
use Rattle.fifo.specs.Queue.{layout}
use Rattle.fifo.specs.Cases.{full_fifo}
use Rattle.machine_record.specs.Fresh.{fresh_board}
use Rattle.machine_record.specs.Parts.{with_fifo}
use Rattle.machine_record.specs.declared.Board.{Board}
use Rattle.machine_record.specs.declared.Jumpers.TheVariants.{A}
use Rattle.board_step.specs.States.{State, answer_at, after_event}
use Rattle.board_laws.specs.Stretches.{after_events, fresh_state}
use Rattle.board_events.specs.declared.Answer.{Answer}
use Rattle.board_events.specs.declared.Event.{Event}
use Rattle.board_events.specs.declared.Event.TheVariants.{WriteByte, ConversionEnd, Tick}
use Rattle.collector_settings.specs.declared.Settings.{Settings}

-- a fresh board, jumpers A, mid-scale, with fresh stores; `layout` is the memory that holds these samples, here from place 0 on, its free places 0
abbrev pub fresh : State
fresh = fresh_state A false

-- a fresh board that holds these samples, 512 of them
abbrev pub full : List ℕ → State
full samples = record { board = with_fifo (fresh_board A false) full_fifo; memory = layout full_fifo samples; eeprom = replicate 128 0 }

-- ---- the answer to each of some events, one after another
abbrev pub answers : State → List Event → List Answer
answers s [] = []
answers s (e ∷ es) = answer_at s e ∷ answers (after_event s e) es

-- what the record shows after each of some runs, one after another
abbrev pub shown_after : {X : Type 0} → (Board → X) → State → List (List Event) → List X
shown_after look s [] = []
shown_after look s (es ∷ more) = look (after_events s es).board ∷ shown_after look (after_events s es) more

abbrev pub OUT0 : Board → Bool
OUT0 b = on b.clocks.timer.counter0.count.out

-- the channel of the conversion that began last
abbrev pub channel : Board → ℕ
channel b = b.converter.channel

-- ---- something n times
unfoldable pub times : {X : Type 0} → ℕ → X → List X
times zero x = []
times (suc n) x = x ∷ times n x

-- ---- conversions: each begins by a software trigger and ends
abbrev pub start_event : Event
start_event = WriteByte 0 0

abbrev pub end_event : Event
end_event = ConversionEnd (pos 0)

unfoldable pub conversions : ℕ → List Event
conversions zero = []
conversions (suc n) = start_event ∷ end_event ∷ conversions n

-- n of them up to the beginning of each: the first begins; then each time one ends and the next begins
unfoldable pub beginnings : ℕ → List (List Event)
beginnings zero = []
beginnings (suc n) = (start_event ∷ []) ∷ times n (end_event ∷ start_event ∷ [])

-- ---- ticks of the 10 MHz clock, one by one
abbrev pub each_tick : ℕ → List (List Event)
each_tick n = times n (Tick ∷ [])

-- ---- a start of the collector: jumpers C and these channels, range code 0, the internal clock, 1,000 polls
abbrev pub jumpers_c : ℕ → ℕ → Settings
jumpers_c low high = record { low = low; high = high; jumpers = 2; range = 0; clock = 1; limit = 1000 }
