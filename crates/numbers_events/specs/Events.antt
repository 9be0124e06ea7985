-- An event as one record of numbers. The specification, "What is delivered": "An event is one of: byte write, byte read, word read, conversion end with a
-- signed code, DIN pins, Latch level, port pins, one 10 MHz tick, calibration transfer end." The kinds are those of include/cowriestep.h.
use Rattle.std.specs.Prelude.{ℕ, Bool, ◌&&◌, eqb, leb, pos, if◌then◌else◌}
use Rattle.ports.specs.declared.Port.TheVariants.{PortA, PortB, PortC}
use Rattle.board_events.specs.declared.Event.{Event}
use Rattle.board_events.specs.declared.Event.TheVariants.{WriteByte, ReadByte, ReadWord, ConversionEnd, DinPins, LatchLevel, PortPins, Tick, TransferEnd}
use Rattle.numbers_events.specs.declared.EventNumbers.{EventNumbers}

-- the kinds that name an event
abbrev pub names_event : ℕ → Bool
names_event kind = leb 1 kind && leb kind 11

-- any other stands for an access outside the board, at the first offset above 15
abbrev pub outside : Event
outside = ReadByte 16

unfoldable pub event_of : EventNumbers → Event
event_of n =
    if eqb n.kind 1 then WriteByte n.offset n.value
    else if eqb n.kind 2 then ReadByte n.offset
    else if eqb n.kind 3 then ReadWord n.offset
    else if eqb n.kind 4 then ConversionEnd n.code
    else if eqb n.kind 5 then DinPins (record { lines = n.levels })
    else if eqb n.kind 6 then LatchLevel n.levels
    else if eqb n.kind 7 then PortPins PortA n.value
    else if eqb n.kind 8 then PortPins PortB n.value
    else if eqb n.kind 9 then PortPins PortC n.value
    else if eqb n.kind 10 then Tick
    else if eqb n.kind 11 then TransferEnd
    else outside

-- the numbers of an event; what its kind does not have is 0
abbrev pub numbers_of : Event → EventNumbers
numbers_of (WriteByte offset value) = record { kind = 1; value = value; code = pos 0; offset = offset; levels = 0 }
numbers_of (ReadByte offset) = record { kind = 2; value = 0; code = pos 0; offset = offset; levels = 0 }
numbers_of (ReadWord offset) = record { kind = 3; value = 0; code = pos 0; offset = offset; levels = 0 }
numbers_of (ConversionEnd code) = record { kind = 4; value = 0; code = code; offset = 0; levels = 0 }
numbers_of (DinPins d) = record { kind = 5; value = 0; code = pos 0; offset = 0; levels = d.lines }
numbers_of (LatchLevel level) = record { kind = 6; value = 0; code = pos 0; offset = 0; levels = level }
numbers_of (PortPins PortA pins) = record { kind = 7; value = pins; code = pos 0; offset = 0; levels = 0 }
numbers_of (PortPins PortB pins) = record { kind = 8; value = pins; code = pos 0; offset = 0; levels = 0 }
numbers_of (PortPins PortC pins) = record { kind = 9; value = pins; code = pos 0; offset = 0; levels = 0 }
numbers_of Tick = record { kind = 10; value = 0; code = pos 0; offset = 0; levels = 0 }
numbers_of TransferEnd = record { kind = 11; value = 0; code = pos 0; offset = 0; levels = 0 }
