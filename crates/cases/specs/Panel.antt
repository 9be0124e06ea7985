-- Ports (manual, chapter 16) by number, as the lines of the programs give them. Any other number is the last one.
use Rattle.std.specs.Prelude.{ℕ, eqb, if◌then◌else◌}
use Rattle.ports.specs.declared.Port.{Port}
use Rattle.ports.specs.declared.Port.TheVariants.{PortA, PortB, PortC}

abbrev pub port_of : ℕ → Port
port_of n = if eqb n 0 then PortA else if eqb n 1 then PortB else PortC
