-- Three counters. Manual, 17.1: "Counters 1 and 2 are cascaded together ... The output of counter 1 provides the input for counter 2";
-- counter 0 has a gate of its own, counters 1 and 2 share one. The specification: "A falling OUT1 clocks counter 2, whether a tick or a write
-- caused it."
use Rattle.std.specs.Prelude.{Bool, not, ◌&&◌, ◌||◌, if◌then◌else◌}
use Rattle.base.specs.Flags.{on}
use Rattle.counter_one.specs.Falls.{fell}
use Rattle.counter_one.specs.Counter.{unprogrammed, pulsed, gate_moved}
use Rattle.counter_one.specs.declared.Counter.{Counter}
use Rattle.timer.specs.declared.Timer.{Timer}
use Rattle.timer.specs.declared.Gates.{Gates}
use Rattle.timer.specs.declared.Select.{Select}
use Rattle.timer.specs.declared.Select.TheVariants.{Counter0, Counter1, Counter2}

abbrev pub unprogrammed_timer : Timer
unprogrammed_timer = record { counter0 = unprogrammed; counter1 = unprogrammed; counter2 = unprogrammed }

abbrev pub counter_of : Timer → Select → Counter
counter_of t Counter0 = t.counter0
counter_of t Counter1 = t.counter1
counter_of t Counter2 = t.counter2

-- table of 17.1: counter 0 is gated by Gate 0 / Din 1, counters 1 and 2 by Extgate / Din 2
abbrev pub gate_of : Gates → Select → Bool
gate_of g Counter0 = g.gate0
gate_of g Counter1 = g.gate12
gate_of g Counter2 = g.gate12

abbrev pub out : Timer → Select → Bool
out t s = on (counter_of t s).count.out

-- ---- the cascade, which all that changes a counter's OUT goes through
-- the timer with the counter s being d
abbrev pub put : Timer → Select → Counter → Timer
put t Counter0 d = record { counter0 = d; counter1 = t.counter1; counter2 = t.counter2 }
put t Counter1 d = record { counter0 = t.counter0; counter1 = d; counter2 = t.counter2 }
put t Counter2 d = record { counter0 = t.counter0; counter1 = t.counter1; counter2 = d }

-- where OUT1 fell between two states of the timer, counter 2 has one CLK pulse in the second
abbrev pub cascaded : Timer → Timer → Gates → Timer
cascaded before after g =
    if fell (out before Counter1) (out after Counter1)
    then put after Counter2 (pulsed after.counter2 (gate_of g Counter2))
    else after

-- the counter s becomes d
unfoldable pub moved : Timer → Select → Counter → Gates → Timer
moved t s d g = cascaded t (put t s d) g

-- ---- a CLK pulse at the counter s
abbrev pub clocked : Timer → Select → Gates → Timer
clocked t s g = moved t s (pulsed (counter_of t s) (gate_of g s)) g

unfoldable pub clocked_if : Timer → Select → Gates → Bool → Timer
clocked_if t s g pulse = if pulse then clocked t s g else t

-- ---- the gates go from was to is; whether one of them goes to another level
abbrev pub gates_move : Gates → Gates → Bool
gates_move was is =
    was.gate0 && not is.gate0 || not was.gate0 && is.gate0 || was.gate12 && not is.gate12 || not was.gate12 && is.gate12

unfoldable pub gates_moved : Timer → Gates → Gates → Timer
gates_moved t was is = record {
  counter0 = gate_moved t.counter0 was.gate0 is.gate0;
  counter1 = gate_moved t.counter1 was.gate12 is.gate12;
  counter2 = gate_moved t.counter2 was.gate12 is.gate12;
}
