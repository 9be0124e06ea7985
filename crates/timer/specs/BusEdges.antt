-- A read moves no OUT.
use Rattle.std.specs.Prelude.{◌≡◌, refl}
use Rattle.counter_one.specs.Edges.{read-same_out}
use Rattle.timer.specs.Timer.{out}
use Rattle.timer.specs.declared.Timer.{Timer}
use Rattle.timer.specs.declared.Select.{Select}
use Rattle.timer.specs.declared.Select.TheVariants.{Counter0, Counter1, Counter2}
use Rattle.timer.specs.Bus.{timer_read}

pub read_no_edge : (t : Timer) (s x : Select) → out (timer_read t s).timer x ≡ out t x
unfolding timer_read
read_no_edge t Counter0 Counter0 = read-same_out t.counter0
read_no_edge t Counter0 Counter1 = refl
read_no_edge t Counter0 Counter2 = refl
read_no_edge t Counter1 Counter0 = refl
read_no_edge t Counter1 Counter1 = read-same_out t.counter1
read_no_edge t Counter1 Counter2 = refl
read_no_edge t Counter2 Counter0 = refl
read_no_edge t Counter2 Counter1 = refl
read_no_edge t Counter2 Counter2 = read-same_out t.counter2
