-- Laws of the calibration: the tests are the facts, each operation keeps them, and what is refused.
use Rattle.std.specs.Prelude.{◌≡◌, refl, true, false, ℕ, ◌≤◌, eqb}
use Rattle.std.proofs.Common.{arith, leb-true, le-leb}
use Rattle.base.specs.Flags.{flag-le}
use Rattle.base.specs.Fields.{bit}
use Rattle.base.specs.Laws.{choice_le}
use Rattle.base.specs.Tests.{each, every}
use Rattle.calibration_registers.specs.declared.Calibration.{Calibration}
use Rattle.calibration_registers.specs.Registers.{calbusy, control_refusal, transfer_commanded, data_written, address_written, command_written}
use Rattle.calibration_registers.specs.Registers.{key_written, key_forgotten, reset_calibration, fresh_calibration}
use Rattle.calibration_registers.specs.Working.{WorkingCalibration, calibration_tests, is_working_calibration}

-- ---- the tests are the facts
pub calibration_of : (c : Calibration) → is_working_calibration c ≡ true → WorkingCalibration c
calibration_of c h = let e = each (calibration_tests c) h in omega (arith, leb-true)

pub calibration-to : (c : Calibration) → WorkingCalibration c → is_working_calibration c ≡ true
calibration-to c w = every (calibration_tests c) (le-leb _ _ w.address, (le-leb _ _ w.transfer, (le-leb _ _ w.key, (le-leb _ _ w.cmuxen, tt))))

-- ---- each operation keeps them
pub value-works : (c : Calibration) (v : ℕ) → WorkingCalibration c → WorkingCalibration (data_written c v)
value-works c v w = omega arith

pub address-works : (c : Calibration) (v : ℕ) → WorkingCalibration c → WorkingCalibration (address_written c v)
address-works c v w = omega arith

-- a command is a known transfer
pub command_known : (v : ℕ) → transfer_commanded v ≤ 4
command_known v =
    choice_le (bit v 7) (choice_le (bit v 6) (omega arith) (omega arith))
    (choice_le (bit v 5) (omega arith) (choice_le (bit v 3) (omega arith) (omega arith)))

pub control-works : (c : Calibration) (v : ℕ) → WorkingCalibration c → WorkingCalibration (command_written c v)
control-works c v w = record { address = w.address; transfer = command_known v; key = w.key; cmuxen = omega arith }

pub key-works : (c : Calibration) (v : ℕ) → WorkingCalibration c → WorkingCalibration (key_written c v)
key-works c v w = record { address = w.address; transfer = w.transfer; key = flag-le (eqb v 0xA5); cmuxen = w.cmuxen }

pub forgotten_works : (c : Calibration) → WorkingCalibration c → WorkingCalibration (key_forgotten c)
forgotten_works c w = omega arith

pub reset-works : (c : Calibration) → WorkingCalibration (reset_calibration c)
reset-works c = omega arith

pub fresh-works : WorkingCalibration fresh_calibration
fresh-works = omega arith

-- ---- a fresh board's calibration is as after a reset
pub fresh-reset : reset_calibration fresh_calibration ≡ fresh_calibration
fresh-reset = refl

-- ---- what is refused at 14
-- A8 has all three commands: refused by 9, with and without the key
pub refused_a8 : (c : Calibration) → calbusy c ≡ false → control_refusal c 0xA8 ≡ 9
refused_a8 c h = simp h

-- while a transfer runs any byte is refused by 6
pub refused-busy : (c : Calibration) (v : ℕ) → calbusy c ≡ true → control_refusal c v ≡ 6
refused-busy c v h = simp h

-- RUNCAL needs no key
pub runcal_without_key : (c : Calibration) → calbusy c ≡ false → control_refusal c 0x20 ≡ 0
runcal_without_key c h = simp h
