-- A working board's ports: the control byte is one that is accepted. Latches and pins are any bytes. The facts, and the row of
-- tests that the code makes of them.
use Rattle.std.specs.Prelude.{◌≡◌, Bool, true, false, ℕ}
use Rattle.base.specs.Fields.{bit}
use Rattle.ports.specs.declared.Ports.{Ports}
use Rattle.ports.specs.Ports.{control_taken}

-- a control byte that is accepted
pub record WorkingControl (v : ℕ) : Type 0 where
  pub set : bit v 7 ≡ true
  pub mode_c : bit v 6 ≡ false
  pub mode_a : bit v 5 ≡ false
  pub mode_b : bit v 2 ≡ false

pub record WorkingPorts (p : Ports) : Type 0 where
  pub control : WorkingControl p.control

abbrev pub is_working_ports : Ports → Bool
is_working_ports p = control_taken p.control
