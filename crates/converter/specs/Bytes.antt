-- STS and the selected channel leave room for the other parts of the byte read at 8. Assumes nothing.
use Rattle.std.specs.Prelude.{◌≤◌}
use Rattle.std.proofs.Common.{arith}
use Rattle.base.specs.Flags.{on}
use Rattle.base.specs.Weights.{weight_le}
use Rattle.converter.specs.declared.channels.Converter.{Converter}
use Rattle.converter.specs.Registers.{status_bits}

-- STS and ADCH4-0: bits 7 and 4 to 0
pub status-fits : (c : Converter) → status_bits c ≤ 159
status-fits c = omega (arith, weight_le (on c.converting) 128)
