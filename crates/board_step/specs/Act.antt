-- What an event that is not refused makes of the record, what it answers, and what it does to the samples held. The specification, "What is
-- delivered": an event is a byte write, byte read, word read, conversion end with a signed code, DIN pins, Latch level, port pins, one 10 MHz
-- tick, or a calibration transfer end; "Registers"; "Conversions, edges and requests".
use Rattle.std.specs.Prelude.{ℕ, ◌%◌, List, Option}
use Rattle.base.specs.Flags.{nonzero}
use Rattle.converter.specs.Codes.{sample_of}
use Rattle.calibration_end.specs.Ends as transfers
use Rattle.machine_record.specs.Parts.{with_calibration}
use Rattle.machine_tick.specs.Tick.{ticked}
use Rattle.machine_pins.specs.Pins.{din_set, latch_set, port_set}
use Rattle.machine_record.specs.declared.Board.{Board}
use Rattle.bus.specs.Place.{place_of}
use Rattle.board_step.specs.Acted.{Acted, write_acted, read_acted, word_acted, end_acted, done_acted}
use Rattle.board_events.specs.declared.Din.{Din}
use Rattle.board_events.specs.declared.Event.{Event}
use Rattle.board_events.specs.declared.Event.TheVariants.{WriteByte, ReadByte, ReadWord, ConversionEnd, DinPins, LatchLevel, PortPins, Tick, TransferEnd}

-- a transfer ends: "Data and address are read when the transfer ends"
abbrev pub transfer_ended : Board → List ℕ → Board
transfer_ended b eeprom = with_calibration b (transfers.calibration_ended b.calibration eeprom)

-- DIN3-0 take the levels of bits 3-0; a number above 15 is refused
abbrev pub din_levels : Din → ℕ
din_levels d = d.lines % 16

unfoldable pub acted : Board → Option ℕ → List ℕ → Event → Acted
acted b oldest eeprom (WriteByte offset value) = write_acted b (place_of b.registers.page offset) value
acted b oldest eeprom (ReadByte offset) = read_acted b oldest (place_of b.registers.page offset)
acted b oldest eeprom (ReadWord offset) = word_acted b oldest
acted b oldest eeprom (ConversionEnd code) = end_acted b (sample_of code)
acted b oldest eeprom (DinPins d) = done_acted (din_set b (din_levels d))
acted b oldest eeprom (LatchLevel level) = done_acted (latch_set b (nonzero level))
acted b oldest eeprom (PortPins q v) = done_acted (port_set b q v)
acted b oldest eeprom Tick = done_acted (ticked b)
acted b oldest eeprom TransferEnd = done_acted (transfer_ended b eeprom)

-- the EEPROM changes by the end of a transfer alone
unfoldable pub eeprom_acted : Board → List ℕ → Event → List ℕ
eeprom_acted b eeprom (WriteByte offset value) = eeprom
eeprom_acted b eeprom (ReadByte offset) = eeprom
eeprom_acted b eeprom (ReadWord offset) = eeprom
eeprom_acted b eeprom (ConversionEnd code) = eeprom
eeprom_acted b eeprom (DinPins d) = eeprom
eeprom_acted b eeprom (LatchLevel level) = eeprom
eeprom_acted b eeprom (PortPins q v) = eeprom
eeprom_acted b eeprom Tick = eeprom
eeprom_acted b eeprom TransferEnd = transfers.eeprom_ended b.calibration eeprom
