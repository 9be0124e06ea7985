-- The digital ports, an 82C55 in mode 0 (manual, 8.2 and chapter 16, and page 1 of the register map in chapter 6; the
-- specification, "Registers", page 1): what each access, pin and reset makes of them, and what the board drives.
use Rattle.std.specs.Prelude.{Bool, not, List, [], ◌∷◌, ℕ, ◌+◌, ◌*◌, ◌/◌, ◌%◌, if◌then◌else◌}
use Rattle.base.specs.Fields.{bit}
use Rattle.base.specs.Tests.{all}
use Rattle.ports.specs.declared.Port.{Port}
use Rattle.ports.specs.declared.Port.TheVariants.{PortA, PortB, PortC}
use Rattle.ports.specs.declared.Lines.{Lines}
use Rattle.ports.specs.declared.Ports.{Ports}

-- ---- a byte for each port
abbrev pub line_of : Lines → Port → ℕ
line_of l PortA = l.a
line_of l PortB = l.b
line_of l PortC = l.c

-- the byte of one port is v
abbrev pub with_line : Lines → Port → ℕ → Lines
with_line l PortA v = record { a = v; b = l.b; c = l.c }
with_line l PortB v = record { a = l.a; b = v; c = l.c }
with_line l PortC v = record { a = l.a; b = l.b; c = v }

abbrev pub no_lines : Lines
no_lines = record { a = 0; b = 0; c = 0 }

-- ---- the configuration register (manual, 16.2): 1 ModeC ModeA DIRA DIRCH ModeB DIRB DIRCL; a direction of 1 is input
-- the direction of a port's lines 7-4: DIRA, DIRB, DIRCH
abbrev pub high_input : ℕ → Port → Bool
high_input control PortA = bit control 4
high_input control PortB = bit control 1
high_input control PortC = bit control 3

-- the direction of a port's lines 3-0: DIRA, DIRB, DIRCL
abbrev pub low_input : ℕ → Port → Bool
low_input control PortA = bit control 4
low_input control PortB = bit control 1
low_input control PortC = bit control 0

-- lines 7-4 of one byte, and lines 3-0 of another
abbrev pub joined : ℕ → ℕ → ℕ
joined high low = high / 16 * 16 + low % 16

-- lines from `input` where the port's lines are inputs, and from `output` where they are outputs
abbrev pub by_line : ℕ → Port → ℕ → ℕ → ℕ
by_line control q input output =
    joined (if high_input control q then input else output) (if low_input control q then input else output)

-- ---- the control byte at 15
-- a byte is accepted where bit 7 is set, and ModeC, ModeA and ModeB are clear
abbrev pub port_control_tests : ℕ → List Bool
port_control_tests v = bit v 7 ∷ not (bit v 6) ∷ not (bit v 5) ∷ not (bit v 2) ∷ []

abbrev pub control_taken : ℕ → Bool
control_taken v = all (port_control_tests v)

-- refusal 7: the byte is not accepted
abbrev pub port_control_refused : ℕ → Bool
port_control_refused v = not (control_taken v)

-- a write of 15: an accepted byte clears the output latches; a refused one changes nothing
abbrev pub port_control_written : Ports → ℕ → Ports
port_control_written p v = if port_control_refused v then p else record { control = v; latches = no_lines; pins = p.pins }

-- a read of 15: the control byte (chapter 6 lists its bits in the map of reads, where 16.1 says "write only")
abbrev pub control_read : Ports → ℕ
control_read p = p.control

-- ---- the ports at 12, 13, 14
-- a write: the latch takes the byte, also where the port is an input
abbrev pub latch_written : Ports → Port → ℕ → Ports
latch_written p q v = record { control = p.control; latches = with_line p.latches q v; pins = p.pins }

-- a read: output lines read the latch, input lines the pins
abbrev pub port_read : Ports → Port → ℕ
port_read p q = by_line p.control q (line_of p.pins q) (line_of p.latches q)

-- the host sets the levels of a port's pins
abbrev pub pins_set : Ports → Port → ℕ → Ports
pins_set p q v = record { control = p.control; latches = p.latches; pins = with_line p.pins q v }

-- ---- what a host sees: the lines that the board drives (1 is driven), and their levels (0 at the others)
abbrev pub driven : Ports → Port → ℕ
driven p q = by_line p.control q 0 255

abbrev pub levels : Ports → Port → ℕ
levels p q = by_line p.control q 0 (line_of p.latches q)

-- ---- a reset makes all ports inputs (control 9B) and zeroes the latches; the pins stay
abbrev pub reset_ports : Ports → Ports
reset_ports p = record { control = 0x9B; latches = no_lines; pins = p.pins }

-- a fresh board's ports: the pins are 0
abbrev pub fresh_ports : Ports
fresh_ports = record { control = 0x9B; latches = no_lines; pins = no_lines }
