-- Which events begin a conversion, and on which channel; which end one, and how; which abandon one. From the specification's trigger rules ("Conversions, edges
-- and requests"), over the board before the event and an event that it does not refuse. A conversion that begins is of the selected channel.
use Rattle.std.specs.Prelude.{ℕ, Bool, true, false, ◌&&◌, eqb, ltb, ℤ, Result, Ok, Err}
use Rattle.std.proofs.Math.Option.{Option, none, some}
use Rattle.base.specs.Flags.{on}
use Rattle.converter.specs.Channels.{end_starts}
use Rattle.converter.specs.Begins.{software_starts, internal_starts, external_starts, starts_on}
use Rattle.counter_one.specs.Falls.{fell}
use Rattle.timer.specs.Timer.{out, clocked_if}
use Rattle.timer.specs.Bus.{count_written, control_word_written}
use Rattle.timer.specs.declared.Timer.{Timer}
use Rattle.timer.specs.declared.Select.TheVariants.{Counter1, Counter2}
use Rattle.base.specs.declared.Refusal.{Refusal}
use Rattle.machine_clock.specs.Clock.{gates}
use Rattle.machine_tick.specs.Tick.{clock1, dividers_ticked, counter0_ticked}
use Rattle.machine_pins.specs.Pins.{fell_from, din_moved, triggers_stopped}
use Rattle.machine_reset.specs.Reset.{is_reset}
use Rattle.machine_record.specs.declared.Board.{Board}
use Rattle.bus.specs.Place.{place_of}
use Rattle.board_step.specs.Act.{din_levels}
use Rattle.bus.specs.declared.Place.{Place}
use Rattle.bus.specs.declared.Place.TheVariants.{Base0, Base1, Base2, Base3, Base4, Base5, Base6, Base7}
use Rattle.bus.specs.declared.Place.TheVariants.{Base8, Base9, Base10, Base11, Count, ControlWord, PortData, PortControl}
use Rattle.bus.specs.declared.Place.TheVariants.{Reserved, Auxiliary, CalData, CalAddress, CalBase14, CalBase15, Outside}
use Rattle.board_events.specs.declared.Event.{Event}
use Rattle.board_events.specs.declared.Event.TheVariants.{WriteByte, ReadByte, ReadWord, ConversionEnd, DinPins, LatchLevel, PortPins, Tick, TransferEnd}

-- the timer goes to t: with CLKEN and CLKSEL = 1 a falling OUT2 is a trigger
abbrev pub timer_begins : Board → Timer → Bool
timer_begins b t = internal_starts b.converter (on b.requests.clksel) (fell (out b.clocks.timer Counter2) (out t Counter2))

abbrev pub written_begins : Board → Result Timer Refusal → Bool
written_begins b (Ok t) = timer_begins b t
written_begins b (Err r) = false

-- 0 is the software trigger; a write of page 0 may make OUT2 fall; "Writing 9 or 10, or a reset, ... is no clock edge or trigger"
abbrev pub write_begins : Board → Place → ℕ → Bool
write_begins b Base0 v = software_starts b.converter
write_begins b Base1 v = false
write_begins b Base2 v = false
write_begins b Base3 v = false
write_begins b Base4 v = false
write_begins b Base5 v = false
write_begins b Base6 v = false
write_begins b Base7 v = false
write_begins b Base8 v = false
write_begins b Base9 v = false
write_begins b Base10 v = false
write_begins b Base11 v = false
write_begins b (Count s) v = written_begins b (count_written b.clocks.timer s v (gates b))
write_begins b ControlWord v = written_begins b (control_word_written b.clocks.timer v (gates b))
write_begins b (PortData q) v = false
write_begins b PortControl v = false
write_begins b Reserved v = false
write_begins b Auxiliary v = false
write_begins b CalData v = false
write_begins b CalAddress v = false
write_begins b CalBase14 v = false
write_begins b CalBase15 v = false
write_begins b Outside v = false

-- with CLKEN and CLKSEL = 0 a falling DIN3 is a trigger, by DIN2 as it then is
abbrev pub din_begins : Board → ℕ → Bool
din_begins b din = external_starts b.converter (on b.requests.clksel) (fell_from b.pins.din din 3) (triggers_stopped (din_moved b din))

-- a tick clocks counter 1, whose OUT may clock counter 2; counter 0 moves before and moves no OUT2
abbrev pub tick_begins : Board → Bool
tick_begins b =
    let c = counter0_ticked (dividers_ticked b) in
    timer_begins c (clocked_if c.clocks.timer Counter1 (gates c) (clock1 c.registers.counting c.clocks.hundred))

unfoldable pub begins : Board → Event → Bool
begins b (WriteByte offset value) = write_begins b (place_of b.registers.page offset) value
begins b (ReadByte offset) = false
begins b (ReadWord offset) = false
begins b (ConversionEnd code) = end_starts b.converter
begins b (DinPins d) = din_begins b (din_levels d)
begins b (LatchLevel level) = false
begins b (PortPins q v) = false
begins b Tick = tick_begins b
begins b TransferEnd = false

-- the channel of the conversion that begins
abbrev pub begins_on : Board → ℕ
begins_on b = starts_on b.converter

-- the code that a conversion ends with, where the event ends one
abbrev pub code_in : Event → Option ℤ
code_in (WriteByte offset value) = none
code_in (ReadByte offset) = none
code_in (ReadWord offset) = none
code_in (ConversionEnd code) = some code
code_in (DinPins d) = none
code_in (LatchLevel level) = none
code_in (PortPins q v) = none
code_in Tick = none
code_in TransferEnd = none

abbrev there : Option ℤ → Bool
there none = false
there (some code) = true

-- an event that ends a conversion
unfoldable pub ends : Event → Bool
ends ev = there (code_in ev)

-- how it ends: "An end with 512 held loses the new sample"
abbrev pub keeps : Board → Bool
keeps b = ltb b.fifo.held 512

-- "8 write: RESETA bit 5, RESETD bit 4"
unfoldable pub resets : Event → Bool
resets (WriteByte offset value) = eqb offset 8 && is_reset value
resets (ReadByte offset) = false
resets (ReadWord offset) = false
resets (ConversionEnd code) = false
resets (DinPins d) = false
resets (LatchLevel level) = false
resets (PortPins q v) = false
resets Tick = false
resets TransferEnd = false

-- "A reset ... abandons conversion": the one in progress
abbrev pub abandons : Board → Event → Bool
abandons b event = on b.converter.converting && resets event
