-- The bytes of the registers that belong to no part alone (manual, chapters 6 and 7; the specification, "Registers"): what is read of several
-- parts of the board, and what a byte written makes of its own registers or of several parts.
use Rattle.std.specs.Prelude.{ℕ, ◌+◌, ◌%◌}
use Rattle.base.specs.Fields.{lowest}
use Rattle.base.specs.Weights.{weight_of}
use Rattle.fifo.specs.Flags.{flag_bits}
use Rattle.fifo.specs.declared.Fifo.{Fifo}
use Rattle.converter.specs.Registers.{status_bits, written_scanen, written_clken}
use Rattle.converter.specs.declared.channels.Converter.{Converter}
use Rattle.requests.specs.Registers.{mode_bits, written_fifoen, written_enables}
use Rattle.requests.specs.declared.Requests.{Requests}
use Rattle.outputs.specs.Outputs.{dacbusy}
use Rattle.outputs.specs.declared.Outputs.{Outputs}
use Rattle.calibration_registers.specs.Registers.{calbusy}
use Rattle.calibration_registers.specs.declared.Calibration.{Calibration}
use Rattle.machine_record.specs.Parts.{with_converter, with_requests}
use Rattle.machine_record.specs.View.{single_ended}
use Rattle.machine_record.specs.declared.Registers.{Registers}
use Rattle.machine_record.specs.declared.Board.{Board}

-- ---- read
-- 4: DACBUSY CALBUSY 0 0 DIN3 DIN2 DIN1 DIN0
abbrev pub input_bits : Outputs → Calibration → ℕ → ℕ
input_bits o k din = weight_of (dacbusy o) 128 + weight_of (calbusy k) 64 + lowest 4 din

-- 7: EF HF FF OVF FIFOEN SCANEN PAGE1 PAGE0
abbrev pub fifo_bits : Fifo → Converter → Requests → ℕ → ℕ
fifo_bits f c q page = flag_bits f + mode_bits c q + lowest 2 page

-- 8: STS S/D1 S/D0 ADCH4-0
abbrev pub ad_bits : Converter → ℕ → ℕ
ad_bits c inputs = status_bits c + single_ended inputs

-- ---- written
-- 1: DOUT2-0
abbrev pub with_dout : Registers → ℕ → Registers
with_dout r v = record { page = r.page; dout = v % 8; counting = r.counting; range = r.range }

-- 11: RANGE ADBU G1 G0; SCINT1-0 is ignored
abbrev pub with_range : Registers → ℕ → Registers
with_range r v = record { page = r.page; dout = r.dout; counting = r.counting; range = v % 16 }

-- 7: FIFOEN and SCANEN are stored, also beside FIFORST
abbrev pub fifo_written : Board → ℕ → Board
fifo_written b v = with_converter (with_requests b (written_fifoen b.requests v)) (written_scanen b.converter v)

-- 9: ADINTE DINTE TINTE, CLKEN CLKSEL
abbrev pub operation_written : Board → ℕ → Board
operation_written b v = with_converter (with_requests b (written_enables b.requests v)) (written_clken b.converter v)
