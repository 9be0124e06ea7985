-- Ticks keep a working board's clocks working.
use Rattle.std.specs.Prelude.{ℕ, zero, suc, Bool}
use Rattle.std.proofs.Common.{subst}
use Rattle.base.specs.Flags.{on}
use Rattle.base.specs.Laws.{by_choice}
use Rattle.counter_one.specs.Kept.{pulsed-works}
use Rattle.counter_one.specs.Working.{WorkingCounter}
use Rattle.counter_one.specs.declared.Counter.{Counter}
use Rattle.counter_one.specs.Falls.{fell}
use Rattle.timer.specs.Timer.{out}
use Rattle.timer.specs.declared.Gates.{Gates}
use Rattle.timer.specs.declared.Select.TheVariants.{Counter1}
use Rattle.machine_record.specs.Working.{WorkingClocks}
use Rattle.machine_record.specs.declared.Clocks.{Clocks}
use Rattle.machine_tick.specs.Tick.{clock0, clock1, next_tick}
use Rattle.machine_tick.specs.InPlace.{pulsed_if, counter1_of, clocks_ticked}
use Rattle.machine_strides.specs.Lines.{next_in_range}
use Rattle.machine_strides.specs.Strides.{clocks_after, Skips}

pulsed_if-works : (x : Bool) (k : Counter) (g : Bool) → WorkingCounter k → WorkingCounter (pulsed_if x k g)
pulsed_if-works x k g w = by_choice WorkingCounter x (pulsed-works k g w) w

module _ (c : ℕ) (g : Gates) where
  pub clocks_work : (l : Clocks) → WorkingClocks l → WorkingClocks (clocks_ticked c g l)
  unfolding clocks_ticked
  clocks_work l w = record {
    timer = record {
      counter0 = pulsed_if-works (clock0 c (next_tick l.thousand 999)) l.timer.counter0 g.gate0 w.timer.counter0;
      counter1 = pulsed_if-works (clock1 c (next_tick l.hundred 99)) l.timer.counter1 g.gate12 w.timer.counter1;
      counter2 = pulsed_if-works (fell (out l.timer Counter1) (on (counter1_of c g l).count.out)) l.timer.counter2 g.gate12 w.timer.counter2;
    };
    hundred = next_in_range l.hundred 99;
    thousand = next_in_range l.thousand 999;
  }

  after_work : (n : ℕ) (l : Clocks) → WorkingClocks l → WorkingClocks (clocks_after c g n l)
  after_work zero l w = w
  after_work (suc n) l w = after_work n (clocks_ticked c g l) (clocks_work l w)

  pub skipped_work : (j : ℕ) (l m : Clocks) → WorkingClocks l → Skips c g j l m → WorkingClocks m
  skipped_work j l m w s = subst WorkingClocks s.to (after_work j l w)
