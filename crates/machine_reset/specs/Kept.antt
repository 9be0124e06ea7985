-- Resets, INTRST and the page keep a working board working.
use Rattle.std.specs.Prelude.{ℕ, refl, Bool}
use Rattle.std.proofs.Common.{arith}
use Rattle.base.specs.Flags.{on}
use Rattle.requests.specs.Working as requests
use Rattle.base.specs.Fields.{bit}
use Rattle.base.specs.Laws.{by_choice}
use Rattle.converter.specs.Working as converter
use Rattle.outputs.specs.Working.{WorkingOutputs}
use Rattle.outputs.specs.Laws as outputs
use Rattle.timer.specs.Kept.{gates-works}
use Rattle.ports.specs.Laws as ports
use Rattle.calibration_registers.specs.Laws as calibration
use Rattle.machine_clock.specs.Clock.{gates, gates_at}
use Rattle.machine_reset.specs.Reset.{board_reset, requests_cleared, page_set, is_reset, misc_written}
use Rattle.machine_record.specs.Working.{WorkingMachine}
use Rattle.machine_record.specs.declared.Board.{Board}
use Rattle.machine_record.specs.Kept.{registers-kept, calibration-kept, same-working}
use Rattle.machine_clock.specs.Kept.{timer-kept}

pub reset-works : (b : Board) (analog : Bool) → WorkingMachine b → WorkingMachine (board_reset b analog)
unfolding board_reset
reset-works b analog w = record {
  converter = converter.fresh-works;
  requests = requests.fresh-works;
  registers = record { page = omega arith; dout = omega arith; range = omega arith };
  outputs = by_choice WorkingOutputs analog (outputs.reset-a_works (on b.wiring.zeroscale)) (outputs.reset-d_works b.outputs w.outputs);
  clocks = timer-kept b.clocks _ w.clocks (gates-works _ (gates b) (gates_at 0 b.pins.din) w.clocks.timer);
  ports = ports.reset-works b.ports;
  calibration = calibration.reset-works b.calibration;
  din = w.din;
  latch = w.latch;
  inputs = w.inputs;
  zeroscale = w.zeroscale;
}

cleared-works : (b : Board) → WorkingMachine b → WorkingMachine (requests_cleared b)
unfolding requests_cleared
cleared-works b w = same-working b _ w (requests.cleared-works b.requests w.requests) w.din w.latch refl refl refl refl refl refl refl

page-works : (b : Board) (v : ℕ) → WorkingMachine b → WorkingMachine (page_set b v)
unfolding page_set
page-works b v w =
    calibration-kept _
    (registers-kept b w _ (record { page = omega arith; dout = w.registers.dout; range = w.registers.range })) _
    (calibration.forgotten_works b.calibration w.calibration)

pub misc_works : (b : Board) (v : ℕ) → WorkingMachine b → WorkingMachine (misc_written b v)
unfolding misc_written
misc_works b v w =
    by_choice WorkingMachine (is_reset v) (reset-works b (bit v 5) w)
    (by_choice WorkingMachine (bit v 3) (cleared-works b w) (page-works b v w))
