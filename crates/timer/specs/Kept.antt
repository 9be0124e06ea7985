-- Each clock and each move of the gates keeps a working timer working.
use Rattle.std.specs.Prelude.{Bool}
use Rattle.base.specs.Laws.{by_choice}
use Rattle.counter_one.specs.Working.{WorkingCounter}
use Rattle.counter_one.specs.Kept.{unprogrammed-works, pulsed-works, gate-moved_works}
use Rattle.counter_one.specs.declared.Counter.{Counter}
use Rattle.counter_one.specs.Falls.{fell}
use Rattle.timer.specs.Timer.{unprogrammed_timer, counter_of, gate_of, out, put, cascaded, moved, clocked_if, gates_moved}
use Rattle.timer.specs.Working.{WorkingTimer}
use Rattle.timer.specs.declared.Timer.{Timer}
use Rattle.timer.specs.declared.Gates.{Gates}
use Rattle.timer.specs.declared.Select.{Select}
use Rattle.timer.specs.declared.Select.TheVariants.{Counter0, Counter1, Counter2}

pub unprogrammed-timer_works : WorkingTimer unprogrammed_timer
unprogrammed-timer_works =
    record { counter0 = unprogrammed-works; counter1 = unprogrammed-works; counter2 = unprogrammed-works }

pub counter-works : (t : Timer) (s : Select) → WorkingTimer t → WorkingCounter (counter_of t s)
counter-works t Counter0 w = w.counter0
counter-works t Counter1 w = w.counter1
counter-works t Counter2 w = w.counter2

pub put-works : (t : Timer) (s : Select) (d : Counter) → WorkingTimer t → WorkingCounter d → WorkingTimer (put t s d)
put-works t Counter0 d w k = record { counter0 = k; counter1 = w.counter1; counter2 = w.counter2 }
put-works t Counter1 d w k = record { counter0 = w.counter0; counter1 = k; counter2 = w.counter2 }
put-works t Counter2 d w k = record { counter0 = w.counter0; counter1 = w.counter1; counter2 = k }

cascaded-works : (before after : Timer) (g : Gates) → WorkingTimer after → WorkingTimer (cascaded before after g)
cascaded-works before after g w =
    by_choice WorkingTimer (fell (out before Counter1) (out after Counter1))
    (put-works after Counter2 _ w (pulsed-works _ (gate_of g Counter2) w.counter2)) w

pub moved-works : (t : Timer) (s : Select) (d : Counter) (g : Gates) → WorkingTimer t → WorkingCounter d → WorkingTimer (moved t s d g)
unfolding moved
moved-works t s d g w k = cascaded-works t (put t s d) g (put-works t s d w k)

pub clocked-works : (t : Timer) (s : Select) (g : Gates) (pulse : Bool) → WorkingTimer t → WorkingTimer (clocked_if t s g pulse)
unfolding clocked_if
clocked-works t s g pulse w =
    by_choice WorkingTimer pulse (moved-works t s _ g w (pulsed-works _ (gate_of g s) (counter-works t s w))) w

pub gates-works : (t : Timer) (was is : Gates) → WorkingTimer t → WorkingTimer (gates_moved t was is)
unfolding gates_moved
gates-works t was is w =
    record {
      counter0 = gate-moved_works _ was.gate0 is.gate0 w.counter0;
      counter1 = gate-moved_works _ was.gate12 is.gate12 w.counter1;
      counter2 = gate-moved_works _ was.gate12 is.gate12 w.counter2;
    }
