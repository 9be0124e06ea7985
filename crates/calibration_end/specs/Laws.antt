-- Laws of the end of a transfer: it keeps a working calibration working, the lengths, and what each does.
use Rattle.std.specs.Prelude.{◌≡◌, refl, List, ℕ, ◌%◌, length, get_or, set, take, Option, Some, None}
use Rattle.std.proofs.Common.{arith, length-set, length-take}
use Rattle.calibration_transfers.specs.declared.Transfer.{Transfer}
use Rattle.calibration_transfers.specs.declared.Transfer.TheVariants.{EepromRead, EepromWrite, RunCal, TrimDac}
use Rattle.calibration_registers.specs.declared.Calibration.{Calibration}
use Rattle.calibration_transfers.specs.Transfers.{transfer_of}
use Rattle.calibration_end.specs.Ends.{ended_by, eeprom_ended_by, calibration_ended, eeprom_ended}
use Rattle.calibration_registers.specs.Registers.{command_written}
use Rattle.calibration_registers.specs.Working.{WorkingCalibration}

pub ended-by_works : (t : Option Transfer) (c : Calibration) (eeprom : List ℕ) → WorkingCalibration c → WorkingCalibration (ended_by t c eeprom)
ended-by_works None c eeprom w = w
ended-by_works (Some EepromRead) c eeprom w = omega arith
ended-by_works (Some EepromWrite) c eeprom w = omega arith
ended-by_works (Some RunCal) c eeprom w = omega arith
ended-by_works (Some TrimDac) c eeprom w = omega arith

pub ended-works : (c : Calibration) (eeprom : List ℕ) → WorkingCalibration c → WorkingCalibration (calibration_ended c eeprom)
unfolding calibration_ended
ended-works c eeprom w = ended-by_works (transfer_of c.transfer) c eeprom w

-- ---- the lengths: a transfer's end leaves the EEPROM as long as it was, and the TrimDAC at eight values
pub eeprom_length : (c : Calibration) (eeprom : List ℕ) → length (eeprom_ended c eeprom) ≡ length eeprom
unfolding eeprom_ended
eeprom_length c eeprom = go (transfer_of c.transfer)
  where
    go : (t : Option Transfer) → length (eeprom_ended_by t c eeprom) ≡ length eeprom
    go None = refl
    go (Some EepromRead) = refl
    go (Some EepromWrite) = simp length-set
    go (Some RunCal) = refl
    go (Some TrimDac) = refl

pub trim_length : (c : Calibration) (eeprom : List ℕ) → length c.trim ≡ 8 → length eeprom ≡ 128 → length (calibration_ended c eeprom).trim ≡ 8
unfolding calibration_ended
trim_length c eeprom h k = go (transfer_of c.transfer)
  where
    go : (t : Option Transfer) → length (ended_by t c eeprom).trim ≡ 8
    go None = h
    go (Some EepromRead) = h
    go (Some EepromWrite) = h
    go (Some RunCal) = simp length-take (omega arith)
    go (Some TrimDac) = simp length-set h

-- ---- from a command to its end
-- an EEPROM write: the byte goes to the address
pub write-ends : (c : Calibration) (eeprom : List ℕ) → eeprom_ended (command_written c 0x80) eeprom ≡ set eeprom c.address c.value
unfolding eeprom_ended
write-ends c eeprom = refl

-- an EEPROM read: register 12 shows the byte at the address
pub read-ends : (c : Calibration) (eeprom : List ℕ) → (calibration_ended (command_written c 0xC0) eeprom).value ≡ get_or eeprom c.address 0
unfolding calibration_ended
read-ends c eeprom = refl

-- RUNCAL: the TrimDAC is EEPROM 0-7
pub runcal_ends : (c : Calibration) (eeprom : List ℕ) → (calibration_ended (command_written c 0x20) eeprom).trim ≡ take 8 eeprom
unfolding calibration_ended
runcal_ends c eeprom = refl

-- TDACEN: the TrimDAC takes the byte at the three low bits of the address
pub trimdac_ends : (c : Calibration) (eeprom : List ℕ) → (calibration_ended (command_written c 0x08) eeprom).trim ≡ set c.trim (c.address % 8) c.value
unfolding calibration_ended
trimdac_ends c eeprom = refl
