-- What is refused, and by which number. The specification, "Refusal numbers": "Check order: 2, 1, then 3 or 5, then 4 or 10, then 6, 9, 8, 7."
-- The checks of a byte write or read, 3 and 6, 9, 8, 7, are those of the place that it names.
use Rattle.std.specs.Prelude.{ℕ, not, List, [], ◌∷◌, eqb, ltb}
use Rattle.base.specs.Flags.{on}
use Rattle.base.specs.Checks.{Check, ◌refuses◌}
use Rattle.calibration_registers.specs.Registers.{nothing_runs}
use Rattle.machine_record.specs.declared.Board.{Board}
use Rattle.bus.specs.Place.{place_of}
use Rattle.bus.specs.Registers.{write_checks, read_checks}
use Rattle.board_stores.specs.Stores.{wrong_lengths}
use Rattle.board_refusal.specs.Working.{is_working_board}
use Rattle.board_events.specs.declared.Event.{Event}
use Rattle.board_events.specs.declared.Event.TheVariants.{WriteByte, ReadByte, ReadWord, ConversionEnd, DinPins, LatchLevel, PortPins, Tick, TransferEnd}

-- of a working board
unfoldable pub event_checks : Board → Event → List Check
event_checks b (WriteByte offset value) = write_checks b (place_of b.registers.page offset) value
event_checks b (ReadByte offset) = read_checks (place_of b.registers.page offset)
event_checks b (ReadWord offset) = not (eqb offset 0) refuses 3 ∷ []
event_checks b (ConversionEnd code) = not (on b.converter.converting) refuses 4 ∷ []
event_checks b (DinPins d) = ltb 15 d.lines refuses 5 ∷ []
event_checks b (LatchLevel level) = []
event_checks b (PortPins q v) = []
event_checks b Tick = []
event_checks b TransferEnd = nothing_runs b.calibration refuses 10 ∷ []

-- what every event is refused by before these
abbrev pub first_checks : Board → List ℕ → List ℕ → List Check
first_checks b memory eeprom =
    wrong_lengths memory eeprom refuses 2
    ∷ not (is_working_board b memory) refuses 1
    ∷ []

-- of any record and memories
unfoldable pub checks : Board → List ℕ → List ℕ → Event → List Check
checks b memory eeprom event =
    wrong_lengths memory eeprom refuses 2
    ∷ not (is_working_board b memory) refuses 1
    ∷ event_checks b event
