-- The control word. Data sheet (manual, chapter 19): "Control Word Format", D7 to D0 = SC1 SC0 RW1 RW0 M2 M1 M0 BCD, and "Counter Latch
-- Command". SC, which selects the counter, is read by the three counters together.
use Rattle.std.specs.Prelude.{Bool, true, false, ℕ, ◌%◌, eqb, if◌then◌else◌, Option, Some, None}
use Rattle.base.specs.Fields.{field, bit}
use Rattle.counter_modes.specs.declared.Mode.TheVariants.{TerminalCount, RateGenerator}
use Rattle.counter_modes.specs.declared.Format.{Format}
use Rattle.counter_modes.specs.declared.Format.TheVariants.{LeastByte, MostByte, TwoBytes}
use Rattle.counter_modes.specs.declared.ControlCommand.{ControlCommand}
use Rattle.counter_modes.specs.declared.ControlCommand.TheVariants.{LatchCount, Program, NotModelled}
use Rattle.counter_modes.specs.declared.Mode.{Mode}

-- RW - Read/Write: 01 least significant byte only, 10 most significant byte only, 11 least significant byte first, then most
abbrev pub format_of : ℕ → Format
format_of rw = if eqb rw 1 then LeastByte else if eqb rw 2 then MostByte else TwoBytes

-- M - Mode: 000 is mode 0, X10 is mode 2. The specification's refusal 7 covers modes 1, 3, 4 and 5
abbrev pub mode_chosen : Format → ℕ → ControlCommand
mode_chosen f m =
    if eqb m 0 then Program f TerminalCount
    else if eqb (m % 4) 2 then Program f RateGenerator
    else NotModelled

-- What the six bits below SC ask for. RW = 00 is a latch command, whose other bits are "don't care"; BCD is not modelled
unfoldable pub command : ℕ → ControlCommand
command w =
    if eqb (field w 4 2) 0 then LatchCount
    else if bit w 0 then NotModelled
    else mode_chosen (format_of (field w 4 2)) (field w 1 3)

abbrev pub refuses_command : ControlCommand → Bool
refuses_command LatchCount = false
refuses_command (Program f m) = false
refuses_command NotModelled = true

-- the specification's refusal 7 for a control word: modes 1, 3, 4 and 5, BCD
unfoldable pub word_refused : ℕ → Bool
word_refused w = refuses_command (command w)

-- A counter keeps the six bits of its control word as written, and 0 before the first. What they set up: no control word that programs
-- a counter has RW = 00
abbrev pub setup_by : ControlCommand → Option (Format × Mode)
setup_by LatchCount = None
setup_by (Program f m) = Some (f, m)
setup_by NotModelled = None

unfoldable pub setup_of : ℕ → Option (Format × Mode)
setup_of w = setup_by (command w)
