-- A working board's timer: each counter is a working one. The specification, "What is delivered".
use Rattle.std.specs.Prelude.{◌≡◌, Bool, true, ◌&&◌, List, [], ◌∷◌}
use Rattle.base.specs.Laws.{both}
use Rattle.base.specs.Tests.{all, each, every}
use Rattle.counter_one.specs.Working as counting
use Rattle.counter_one.specs.Working.{control_fits, WorkingCounter, counter_of_lem, counter-to}
use Rattle.counter_one.specs.declared.Counter.{Counter}
use Rattle.timer.specs.declared.Timer.{Timer}

pub record WorkingTimer (t : Timer) : Type 0 where
  pub counter0 : WorkingCounter t.counter0
  pub counter1 : WorkingCounter t.counter1
  pub counter2 : WorkingCounter t.counter2

-- the tests: of the flags, then of the control bits
abbrev pub timer_flag_tests : Timer → List Bool
timer_flag_tests t = counting.flags_work t.counter0 ∷ counting.flags_work t.counter1 ∷ counting.flags_work t.counter2 ∷ []

abbrev pub timer_control_tests : Timer → List Bool
timer_control_tests t = control_fits t.counter0 ∷ control_fits t.counter1 ∷ control_fits t.counter2 ∷ []

abbrev pub timer_flags_work : Timer → Bool
timer_flags_work t = all (timer_flag_tests t)

abbrev pub controls_work : Timer → Bool
controls_work t = all (timer_control_tests t)

abbrev pub is_working_timer : Timer → Bool
is_working_timer t = timer_flags_work t && controls_work t

-- ---- the test holds where the facts do, and only there
each_of : (c : Counter) → counting.flags_work c ≡ true → control_fits c ≡ true → WorkingCounter c
each_of c f k = counter_of_lem c (rw f k)

pub timer_of : (t : Timer) → is_working_timer t ≡ true → WorkingTimer t
timer_of t h =
    let w = both (timer_flags_work t) (controls_work t) h in
    let f = each (timer_flag_tests t) w.0 in
    let k = each (timer_control_tests t) w.1 in
    record { counter0 = each_of _ f.0 k.0; counter1 = each_of _ f.1.0 k.1.0; counter2 = each_of _ f.1.1.0 k.1.1.0 }

each_to : (c : Counter) → WorkingCounter c → (counting.flags_work c ≡ true) × (control_fits c ≡ true)
each_to c w = both (counting.flags_work c) (control_fits c) (counter-to c w)

pub timer-to : (t : Timer) → WorkingTimer t → is_working_timer t ≡ true
timer-to t w =
    let a = each_to _ w.counter0 in
    let b = each_to _ w.counter1 in
    let c = each_to _ w.counter2 in
    rw (every (timer_flag_tests t) (a.0, (b.0, (c.0, tt)))) (every (timer_control_tests t) (a.1, (b.1, (c.1, tt))))
