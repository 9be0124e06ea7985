-- The gates, a timer that moves and a write of Base+10 keep a working board working.
use Rattle.std.specs.Prelude.{ℕ, Result, Ok, Err}
use Rattle.base.specs.Flags.{on}
use Rattle.requests.specs.Working as requests
use Rattle.converter.proofs.Working as converter
use Rattle.converter.specs.Channels.{internal_trigger}
use Rattle.timer.specs.Working.{WorkingTimer}
use Rattle.timer.specs.Kept.{gates-works}
use Rattle.timer.specs.BusKept.{WorkingWritten}
use Rattle.counter_one.specs.Falls.{fell}
use Rattle.timer.specs.Timer.{out, gates_moved}
use Rattle.timer.specs.declared.Timer.{Timer}
use Rattle.timer.specs.declared.Gates.{Gates}
use Rattle.timer.specs.declared.Select.TheVariants.{Counter0, Counter2}
use Rattle.base.specs.declared.Refusal.{Refusal}
use Rattle.machine_record.specs.Parts.{with_clocks}
use Rattle.machine_clock.specs.Clock.{gates, gates_at, with_timer, timer_moved, timer_moved_by}
use Rattle.machine_clock.specs.Clock.{counting_written}
use Rattle.machine_record.specs.Working.{WorkingClocks, WorkingMachine}
use Rattle.machine_record.specs.declared.Clocks.{Clocks}
use Rattle.machine_record.specs.declared.Board.{Board}
use Rattle.machine_record.specs.Kept.{registers-kept, clocks-kept}

pub timer-kept : (k : Clocks) (t : Timer) → WorkingClocks k → WorkingTimer t → WorkingClocks (with_timer k t)
timer-kept k t w v = record { timer = v; hundred = w.hundred; thousand = w.thousand }

pub gates-kept : (b : Board) (is : Gates) → WorkingMachine b
    → WorkingMachine (with_clocks b (with_timer b.clocks (gates_moved b.clocks.timer (gates b) is)))
gates-kept b is w = clocks-kept b w _ (timer-kept b.clocks _ w.clocks (gates-works _ (gates b) is w.clocks.timer))

pub timer-moved_works : (b : Board) (t : Timer) → WorkingMachine b → WorkingTimer t → WorkingMachine (timer_moved b t)
unfolding timer_moved
timer-moved_works b t w k = record {
  converter =
      converter.triggered-works b.converter
      (internal_trigger b.converter (on b.requests.clksel) (fell (out b.clocks.timer Counter2) (out t Counter2))) w.converter;
  requests = requests.timer-works b.requests (fell (out b.clocks.timer Counter0) (out t Counter0)) w.requests;
  registers = w.registers;
  outputs = w.outputs;
  clocks = timer-kept b.clocks t w.clocks k;
  ports = w.ports;
  calibration = w.calibration;
  din = w.din;
  latch = w.latch;
  inputs = w.inputs;
  zeroscale = w.zeroscale;
}

pub timer-moved_by_works : (b : Board) (r : Result Timer Refusal) → WorkingMachine b → WorkingWritten r → WorkingMachine (timer_moved_by b r)
timer-moved_by_works b (Ok t) w k = timer-moved_works b t w k
timer-moved_by_works b (Err r) w k = w

-- ---- a write of 10
pub counting-works : (b : Board) (v : ℕ) → WorkingMachine b → WorkingMachine (counting_written b v)
unfolding counting_written
counting-works b v w =
    registers-kept _ (gates-kept b (gates_at v b.pins.din) w) _
    (record { page = w.registers.page; dout = w.registers.dout; range = w.registers.range })
