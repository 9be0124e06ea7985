-- Stretches of events: what a row of events, each a step of its own, leaves of a board with its memories. What is refused changes nothing, so a
-- row may hold refused events.
use Rattle.std.specs.Prelude.{ℕ, ◌+◌, ◌≡◌, Bool, false, ◌&&◌, List, [], ◌∷◌, replicate, eqb}
use Rattle.fifo.specs.Queue.{layout, empty_fifo}
use Rattle.machine_record.specs.Fresh.{fresh_board}
use Rattle.machine_record.specs.declared.Jumpers.{Jumpers}
use Rattle.board_step.specs.States.{State, refusal_at, after_event}
use Rattle.board_laws.specs.Begins.{resets}
use Rattle.board_events.specs.declared.Event.{Event}
use Rattle.board_events.specs.declared.Event.TheVariants.{WriteByte, ReadByte, ReadWord, ConversionEnd, DinPins, LatchLevel, PortPins, Tick, TransferEnd}

-- ---- a row of events, the first first
abbrev pub after_events : State → List Event → State
after_events s [] = s
after_events s (event ∷ events) = after_events (after_event s event) events

-- ---- the ticks in a row
abbrev pub ticks_of : Event → ℕ
ticks_of (WriteByte offset value) = 0
ticks_of (ReadByte offset) = 0
ticks_of (ReadWord offset) = 0
ticks_of (ConversionEnd code) = 0
ticks_of (DinPins d) = 0
ticks_of (LatchLevel level) = 0
ticks_of (PortPins q v) = 0
ticks_of Tick = 1
ticks_of TransferEnd = 0

abbrev pub ticks_in : List Event → ℕ
ticks_in [] = 0
ticks_in (event ∷ events) = ticks_of event + ticks_in events

-- ---- rows without a reset, and without a write of 5 that is taken
abbrev pub NoReset : List Event → Type 0
NoReset [] = Unit {0}
NoReset (event ∷ events) = (resets event ≡ false) × NoReset events

-- whether an event is a write of 5
abbrev pub is_load : Event → Bool
is_load (WriteByte offset value) = eqb offset 5
is_load (ReadByte offset) = false
is_load (ReadWord offset) = false
is_load (ConversionEnd code) = false
is_load (DinPins d) = false
is_load (LatchLevel level) = false
is_load (PortPins q v) = false
is_load Tick = false
is_load TransferEnd = false

abbrev pub NoLoad : State → List Event → Type 0
NoLoad s [] = Unit {0}
NoLoad s (event ∷ events) = (is_load event && eqb (refusal_at s event) 0 ≡ false) × NoLoad (after_event s event) events

-- ---- a fresh board with fresh stores
abbrev pub fresh_state : Jumpers → Bool → State
fresh_state j zeroscale = record { board = fresh_board j zeroscale; memory = layout empty_fifo []; eeprom = replicate 128 0 }
