-- The transfers to and from EEPROM and TrimDAC (manual, 8.4, Base+14 write; chapter 15; the specification, "Registers", page 3):
-- what runs, and what is busy meanwhile.
use Rattle.std.specs.Prelude.{Bool, true, false, ℕ, eqb, if◌then◌else◌, Option, Some, None}
use Rattle.calibration_transfers.specs.declared.Transfer.{Transfer}
use Rattle.calibration_transfers.specs.declared.Transfer.TheVariants.{EepromRead, EepromWrite, RunCal, TrimDac}

-- the transfer that a number of the record stands for
abbrev pub transfer_of : ℕ → Option Transfer
transfer_of n =
    if eqb n 1 then Some EepromRead
    else if eqb n 2 then Some EepromWrite
    else if eqb n 3 then Some RunCal
    else if eqb n 4 then Some TrimDac
    else None

-- whether a transfer runs
abbrev pub runs : Option Transfer → Bool
runs None = false
runs (Some EepromRead) = true
runs (Some EepromWrite) = true
runs (Some RunCal) = true
runs (Some TrimDac) = true

-- EEBUSY reads 1 in EE_EN and RUNCAL transfers
abbrev pub eeprom_busy : Option Transfer → Bool
eeprom_busy None = false
eeprom_busy (Some EepromRead) = true
eeprom_busy (Some EepromWrite) = true
eeprom_busy (Some RunCal) = true
eeprom_busy (Some TrimDac) = false

-- TDBUSY reads 1 in TDACEN's
abbrev pub trim_dac_busy : Option Transfer → Bool
trim_dac_busy None = false
trim_dac_busy (Some EepromRead) = false
trim_dac_busy (Some EepromWrite) = false
trim_dac_busy (Some RunCal) = false
trim_dac_busy (Some TrimDac) = true
