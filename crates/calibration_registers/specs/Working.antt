-- A working board's calibration: the address has seven bits, the transfer is a known number, key and CMUXEN are 0 or 1. Register 12 and the TrimDAC's
-- eight values are any bytes. The facts, and the row of tests that the code makes of them.
use Rattle.std.specs.Prelude.{Bool, List, [], ◌∷◌, ◌≤◌, leb}
use Rattle.base.specs.Tests.{all}
use Rattle.calibration_registers.specs.declared.Calibration.{Calibration}

pub record WorkingCalibration (c : Calibration) : Type 0 where
  pub address : c.address ≤ 127
  pub transfer : c.transfer ≤ 4
  pub key : c.key ≤ 1
  pub cmuxen : c.cmuxen ≤ 1

abbrev pub calibration_tests : Calibration → List Bool
calibration_tests c = leb c.address 127 ∷ leb c.transfer 4 ∷ leb c.key 1 ∷ leb c.cmuxen 1 ∷ []

abbrev pub is_working_calibration : Calibration → Bool
is_working_calibration c = all (calibration_tests c)
