-- The calibration registers (manual, 8.4, and page 3 of the register map in chapter 6; the specification, "Registers", page 3, and
-- refusals 6, 8, 9, 10): writes, reads, what is refused, and resets.
use Rattle.std.specs.Prelude.{Bool, not, ◌&&◌, ◌||◌, [], ◌∷◌, ℕ, ◌+◌, ◌%◌, eqb, if◌then◌else◌}
use Rattle.base.specs.Flags.{on, flag}
use Rattle.base.specs.Fields.{bit, field}
use Rattle.base.specs.Weights.{weight_of}
use Rattle.calibration_registers.specs.declared.Calibration.{Calibration}
use Rattle.calibration_transfers.specs.Transfers.{transfer_of, runs, eeprom_busy, trim_dac_busy}

-- ---- what is busy
-- CALBUSY (Base+4 read): a transfer runs; then a write of 12, 13 or 14 is refused, number 6
abbrev pub calbusy : Calibration → Bool
calbusy c = runs (transfer_of c.transfer)

abbrev pub eebusy : Calibration → Bool
eebusy c = eeprom_busy (transfer_of c.transfer)

abbrev pub tdbusy : Calibration → Bool
tdbusy c = trim_dac_busy (transfer_of c.transfer)

-- ---- the command byte of 14: EE_EN EE_RW RUNCAL CMUXEN TDACEN X X X
-- refusal 9: more than one of EE_EN, RUNCAL, TDACEN
abbrev pub several : ℕ → Bool
several v = bit v 7 && bit v 5 || bit v 7 && bit v 3 || bit v 5 && bit v 3

-- refusal 8: EE_EN without the key
abbrev pub locked : Calibration → ℕ → Bool
locked c v = bit v 7 && not (on c.key)

-- the number by which a write of 14 is refused, in the order of the checks; 0 where it is not
abbrev pub control_refusal : Calibration → ℕ → ℕ
control_refusal c v =
    if calbusy c then 6
    else if several v then 9
    else if locked c v then 8
    else 0

-- refusal 10: a transfer end where none runs
abbrev pub nothing_runs : Calibration → Bool
nothing_runs c = not (calbusy c)

-- EE_RW: 1 is read, 0 is write
abbrev pub eeprom_command : ℕ → ℕ
eeprom_command v = if bit v 6 then 1 else 2

-- the number of the transfer that the byte starts (a byte with more than one command is refused)
abbrev pub transfer_commanded : ℕ → ℕ
transfer_commanded v =
    if bit v 7 then eeprom_command v
    else if bit v 5 then 3
    else if bit v 3 then 4
    else 0

-- ---- writes
-- 12: the data register
abbrev pub data_written : Calibration → ℕ → Calibration
data_written c v = record { value = v; address = c.address; transfer = c.transfer; key = c.key; cmuxen = c.cmuxen; trim = c.trim }

-- 13: the address register, A6-A0
abbrev pub address_written : Calibration → ℕ → Calibration
address_written c v = record { value = c.value; address = v % 128; transfer = c.transfer; key = c.key; cmuxen = c.cmuxen; trim = c.trim }

-- 14: the transfer starts, and CMUXEN takes its bit
abbrev pub command_written : Calibration → ℕ → Calibration
command_written c v = record { value = c.value; address = c.address; transfer = transfer_commanded v; key = c.key; cmuxen = field v 4 1; trim = c.trim }

-- 15: the key is A5; another byte forgets it
abbrev pub key_written : Calibration → ℕ → Calibration
key_written c v = record { value = c.value; address = c.address; transfer = c.transfer; key = flag (eqb v 0xA5); cmuxen = c.cmuxen; trim = c.trim }

-- a write of the page, and a reset, forget the key
abbrev pub key_forgotten : Calibration → Calibration
key_forgotten c = record { value = c.value; address = c.address; transfer = c.transfer; key = 0; cmuxen = c.cmuxen; trim = c.trim }

-- ---- reads
abbrev pub data_read : Calibration → ℕ
data_read c = c.value

abbrev pub address_read : Calibration → ℕ
address_read c = c.address

-- 14: 0 TDBUSY EEBUSY CMUXEN TDACEN 0 0 0; TDACEN reads 1 during its transfer
abbrev pub status_read : Calibration → ℕ
status_read c = weight_of (tdbusy c) 64 + weight_of (eebusy c) 32 + weight_of (on c.cmuxen) 16 + weight_of (tdbusy c) 8

-- 15: the FPGA revision code
abbrev pub revision : ℕ
revision = 34

-- ---- a reset zeroes the registers, forgets the key and abandons the transfer; TrimDAC and EEPROM remain
abbrev pub reset_calibration : Calibration → Calibration
reset_calibration c = record { value = 0; address = 0; transfer = 0; key = 0; cmuxen = 0; trim = c.trim }

-- a fresh board's: the TrimDAC is 0 too
abbrev pub fresh_calibration : Calibration
fresh_calibration = record {
  value = 0;
  address = 0;
  transfer = 0;
  key = 0;
  cmuxen = 0;
  trim = 0 ∷ 0 ∷ 0 ∷ 0 ∷ 0 ∷ 0 ∷ 0 ∷ 0 ∷ [];
}
