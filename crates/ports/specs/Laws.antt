-- Laws of the ports: the tests are the facts, each operation keeps them, and what a port reads and drives.
use Rattle.std.specs.Prelude.{◌≡◌, refl, Bool, true, false, not, ℕ, if◌then◌else◌}
use Rattle.std.proofs.Common.{arith}
use Rattle.base.specs.Fields.{bit}
use Rattle.base.specs.Laws.{not_true}
use Rattle.base.specs.Tests.{each, every}
use Rattle.ports.specs.declared.Port.{Port}
use Rattle.ports.specs.declared.Port.TheVariants.{PortA, PortB, PortC}
use Rattle.ports.specs.declared.Lines.{Lines}
use Rattle.ports.specs.declared.Ports.{Ports}
use Rattle.ports.specs.Ports.{line_of, with_line, no_lines, joined, port_control_tests, control_taken}
use Rattle.ports.specs.Ports.{port_control_written, latch_written, port_read, pins_set, driven, levels, reset_ports, fresh_ports}
use Rattle.ports.specs.Working.{WorkingControl, WorkingPorts, is_working_ports}

-- ---- the tests are the facts
true_not : (b : Bool) → b ≡ false → not b ≡ true
true_not true h = cc
true_not false h = refl

pub control_of : (v : ℕ) → control_taken v ≡ true → WorkingControl v
control_of v h =
    let e = each (port_control_tests v) h in
    record { set = e.0; mode_c = not_true _ e.1.0; mode_a = not_true _ e.1.1.0; mode_b = not_true _ e.1.1.1.0 }

pub control-to : (v : ℕ) → WorkingControl v → control_taken v ≡ true
control-to v w = every (port_control_tests v) (w.set, (true_not _ w.mode_c, (true_not _ w.mode_a, (true_not _ w.mode_b, tt))))

pub ports_of : (p : Ports) → is_working_ports p ≡ true → WorkingPorts p
ports_of p h = record { control = control_of p.control h }

pub ports-to : (p : Ports) → WorkingPorts p → is_working_ports p ≡ true
ports-to p w = control-to p.control w.control

-- ---- each operation keeps them
-- after a write of 15 the control byte is an accepted one, whatever was written
taken-works : (t : Bool) (p q : Ports) → is_working_ports p ≡ true → is_working_ports q ≡ t → is_working_ports (if not t then p else q) ≡ true
taken-works true p q h e = e
taken-works false p q h e = h

pub control-works : (p : Ports) (v : ℕ) → WorkingPorts p → WorkingPorts (port_control_written p v)
control-works p v w =
    ports_of (port_control_written p v)
    (taken-works (control_taken v) p (record { control = v; latches = no_lines; pins = p.pins }) (ports-to p w) refl)

pub latch-works : (p : Ports) (q : Port) (v : ℕ) → WorkingPorts p → WorkingPorts (latch_written p q v)
latch-works p q v w = record { control = w.control }

pub pins_works : (p : Ports) (q : Port) (v : ℕ) → WorkingPorts p → WorkingPorts (pins_set p q v)
pins_works p q v w = record { control = w.control }

pub reset-works : (p : Ports) → WorkingPorts (reset_ports p)
reset-works p = record { control = control_of 0x9B refl }

pub fresh-works : WorkingPorts fresh_ports
fresh-works = reset-works fresh_ports

-- ---- a fresh board's ports are as after a reset
pub fresh-reset : reset_ports fresh_ports ≡ fresh_ports
fresh-reset = refl

-- ---- the byte that was put for a port is there, and those of the other ports stay
pub line_of-put : (l : Lines) (q : Port) (v : ℕ) → line_of (with_line l q v) q ≡ v
line_of-put l PortA v = refl
line_of-put l PortB v = refl
line_of-put l PortC v = refl

-- ---- a write reaches no pin and no direction, and pins reach no latch: neither changes what the other is about
pub write_pins : (p : Ports) (q : Port) (v : ℕ) → (latch_written p q v).pins ≡ p.pins
write_pins p q v = refl

pub pins_latches : (p : Ports) (q : Port) (v : ℕ) → (pins_set p q v).latches ≡ p.latches
pins_latches p q v = refl

-- ---- ports A and B have one direction each, so that they read whole: the pins where input, the latch where output
halves : (t : Bool) (x y : ℕ) → joined (if t then x else y) (if t then x else y) ≡ (if t then x else y)
halves true x y = omega arith
halves false x y = omega arith

pub read_a : (p : Ports) → port_read p PortA ≡ (if bit p.control 4 then p.pins.a else p.latches.a)
read_a p = halves (bit p.control 4) p.pins.a p.latches.a

pub read-b : (p : Ports) → port_read p PortB ≡ (if bit p.control 1 then p.pins.b else p.latches.b)
read-b p = halves (bit p.control 1) p.pins.b p.latches.b

-- ---- port C reads by halves: lines 7-4 by DIRCH, lines 3-0 by DIRCL
pub read-c :
    (p : Ports) →
    port_read p PortC
    ≡ joined
    (if bit p.control 3 then p.pins.c else p.latches.c)
    (if bit p.control 0 then p.pins.c else p.latches.c)
read-c p = refl

-- ---- after a reset every port reads its pins, and drives no line
pub reset-reads : (p : Ports) (q : Port) → port_read (reset_ports p) q ≡ line_of p.pins q
reset-reads p PortA = omega arith
reset-reads p PortB = omega arith
reset-reads p PortC = omega arith

pub reset-drives : (p : Ports) (q : Port) → driven (reset_ports p) q ≡ 0
reset-drives p PortA = refl
reset-drives p PortB = refl
reset-drives p PortC = refl

-- ---- with 80 at 15 every line is an output: a port reads what was last written to it, and drives it
pub output-reads : (p : Ports) (q : Port) (v : ℕ) → port_read (latch_written (port_control_written p 0x80) q v) q ≡ v
output-reads p PortA v = omega arith
output-reads p PortB v = omega arith
output-reads p PortC v = omega arith

pub output-drives : (p : Ports) (q : Port) (v : ℕ) → levels (latch_written (port_control_written p 0x80) q v) q ≡ v
output-drives p PortA v = omega arith
output-drives p PortB v = omega arith
output-drives p PortC v = omega arith
