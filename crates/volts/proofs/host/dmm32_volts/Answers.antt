-- `volts::host::dmm32_volts` meets its contract: an infinity times 0.0 is a NaN. Assumes nothing.
use Rattle.std.proofs.Common.{ap}
use Rattle.std.proofs.Math.Facts.{to_z-of_z}
use Rattle.std.specs.Float.Ieee.{mul, nan_bits, of_bits}
use Rattle.volts.specs.Host.{plain_volts}
use Rattle.volts.proofs.host.dmm32_volts.Goals as goal

pub float_from_bits-result : goal.float_from_bits-result
unfolding nan_bits
float_from_bits-result c = tt

pub returns-in-Refused : goal.returns-in-Refused
unfolding mul of_bits
returns-in-Refused c = ap plain_volts (rw (to_z-of_z c.ranges.code) at c.in-Refused.ensures)
