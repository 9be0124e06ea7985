-- What a host has to act on, of a board before and after what happened to it, as one number: what stands now (an interrupt is asked for, manual 11.1; a
-- conversion is in progress, 11.3; a transfer runs, 8.4), and where the board now puts out something else than before (DOUT, chapter 16.5; the analogue
-- outputs, 13 and 14; the ports, 8.2 and 16).
--     bits 31-24   the transfer that runs      bits 23-16   the channel of the conversion in progress
--     bits 10-8    ports C, B, A differ        bits 7-4     outputs 3 to 0 differ     bit 3   DOUT differs
--     bit 2        a transfer runs             bit 1        a conversion is in progress     bit 0   an interrupt is asked for
use Rattle.std.specs.Prelude.{ℕ, ◌+◌, ◌*◌, Bool, not, ◌||◌, eqb, if◌then◌else◌}
use Rattle.base.specs.Flags.{on}
use Rattle.base.specs.Weights.{weight_of}
use Rattle.converter.specs.declared.channels.Converter.{Converter}
use Rattle.requests.specs.Requests.{asking}
use Rattle.outputs.specs.declared.Codes.{Codes}
use Rattle.ports.specs.Ports.{driven, levels}
use Rattle.ports.specs.declared.Port.{Port}
use Rattle.ports.specs.declared.Port.TheVariants.{PortA, PortB, PortC}
use Rattle.ports.specs.declared.Ports.{Ports}
use Rattle.calibration_registers.specs.Registers.{calbusy}
use Rattle.calibration_registers.specs.declared.Calibration.{Calibration}
use Rattle.machine_record.specs.View.{dout_pins}
use Rattle.machine_record.specs.declared.Board.{Board}

abbrev pub differ : ℕ → ℕ → Bool
differ before after = not (eqb before after)

-- ---- bits 3-0: what stands now, and DOUT on its pins
abbrev pub signs : Board → Board → ℕ
signs before after =
    weight_of (asking after.requests.flags) 1
    + weight_of (on after.converter.converting) 2
    + weight_of (calbusy after.calibration) 4
    + weight_of (differ (dout_pins before) (dout_pins after)) 8

-- ---- bits 7-4: the codes that the outputs put out
abbrev pub outputs_differ : Codes → Codes → ℕ
outputs_differ before after =
    weight_of (differ before.out0 after.out0) 16
    + weight_of (differ before.out1 after.out1) 32
    + weight_of (differ before.out2 after.out2) 64
    + weight_of (differ before.out3 after.out3) 128

-- ---- bits 10-8: which lines of a port the board drives, and their levels. A latch behind an input line is not put out
abbrev pub port_differs : Ports → Ports → Port → Bool
port_differs before after q = differ (driven before q) (driven after q) || differ (levels before q) (levels after q)

abbrev pub ports_differ : Ports → Ports → ℕ
ports_differ before after =
    weight_of (port_differs before after PortA) 1 + weight_of (port_differs before after PortB) 2 + weight_of (port_differs before after PortC) 4

-- ---- bits 23-16 and 31-24: the channel and the transfer, 0 where there is none
abbrev pub channel_in_progress : Converter → ℕ
channel_in_progress c = if on c.converting then c.channel else 0

abbrev pub transfer_that_runs : Calibration → ℕ
transfer_that_runs c = if calbusy c then c.transfer else 0

-- ---- the four bytes, the first lowest
unfoldable pub due_of : Board → Board → ℕ
due_of before after =
    (transfer_that_runs after.calibration * 256 + channel_in_progress after.converter) * 65536
    + (ports_differ before.ports after.ports * 256 + (signs before after + outputs_differ before.outputs.codes after.outputs.codes))
