-- The end of a transfer to or from EEPROM and TrimDAC (manual, chapter 15; the specification, "Registers", page 3): data and address are
-- those of registers 12 and 13 at that moment.
use Rattle.std.specs.Prelude.{List, ℕ, ◌%◌, get_or, set, take, Option, Some, None}
use Rattle.calibration_transfers.specs.declared.Transfer.{Transfer}
use Rattle.calibration_transfers.specs.declared.Transfer.TheVariants.{EepromRead, EepromWrite, RunCal, TrimDac}
use Rattle.calibration_registers.specs.declared.Calibration.{Calibration}
use Rattle.calibration_transfers.specs.Transfers.{transfer_of}

-- none runs any more; register 12 and the TrimDAC are as given
abbrev pub stopped : Calibration → ℕ → List ℕ → Calibration
stopped c value trim = record { value = value; address = c.address; transfer = 0; key = c.key; cmuxen = c.cmuxen; trim = trim }

-- an EEPROM read puts the byte at the address into register 12; RUNCAL copies EEPROM 0-7 to the TrimDAC; TDACEN puts register 12
-- into the TrimDAC at the three low bits of the address
abbrev pub ended_by : Option Transfer → Calibration → List ℕ → Calibration
ended_by None c eeprom = c
ended_by (Some EepromRead) c eeprom = stopped c (get_or eeprom c.address 0) c.trim
ended_by (Some EepromWrite) c eeprom = stopped c c.value c.trim
ended_by (Some RunCal) c eeprom = stopped c c.value (take 8 eeprom)
ended_by (Some TrimDac) c eeprom = stopped c c.value (set c.trim (c.address % 8) c.value)

-- an EEPROM write puts register 12 into the EEPROM at the address; no other transfer changes the EEPROM
abbrev pub eeprom_ended_by : Option Transfer → Calibration → List ℕ → List ℕ
eeprom_ended_by None c eeprom = eeprom
eeprom_ended_by (Some EepromRead) c eeprom = eeprom
eeprom_ended_by (Some EepromWrite) c eeprom = set eeprom c.address c.value
eeprom_ended_by (Some RunCal) c eeprom = eeprom
eeprom_ended_by (Some TrimDac) c eeprom = eeprom

-- the calibration, and the EEPROM, after the end of the transfer that runs
unfoldable pub calibration_ended : Calibration → List ℕ → Calibration
calibration_ended c eeprom = ended_by (transfer_of c.transfer) c eeprom

unfoldable pub eeprom_ended : Calibration → List ℕ → List ℕ
eeprom_ended c eeprom = eeprom_ended_by (transfer_of c.transfer) c eeprom
