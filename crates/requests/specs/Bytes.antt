-- FIFOEN and SCANEN leave room for the other parts of the byte read at 7. Assumes nothing.
use Rattle.std.specs.Prelude.{◌≤◌}
use Rattle.std.proofs.Common.{arith}
use Rattle.base.specs.Flags.{on}
use Rattle.base.specs.Weights.{weight_le}
use Rattle.converter.specs.declared.channels.Converter.{Converter}
use Rattle.requests.specs.declared.Requests.{Requests}
use Rattle.requests.specs.Registers.{mode_bits}

-- FIFOEN and SCANEN: bits 3 and 2
pub mode_fits : (c : Converter) (r : Requests) → mode_bits c r ≤ 12
mode_fits c r = omega (arith, weight_le (on r.fifoen) 8, weight_le (on c.scanen) 4)
