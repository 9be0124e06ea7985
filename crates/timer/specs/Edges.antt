-- What makes no edge. The specification: writing 10, or a reset, "may move a gate but is no clock edge or trigger".
use Rattle.std.specs.Prelude.{◌≡◌, false}
use Rattle.counter_one.specs.Edges.{gate_no_fall}
use Rattle.counter_one.specs.Falls.{fell}
use Rattle.timer.specs.Timer.{out, gates_moved}
use Rattle.timer.specs.declared.Timer.{Timer}
use Rattle.timer.specs.declared.Gates.{Gates}
use Rattle.timer.specs.declared.Select.{Select}
use Rattle.timer.specs.declared.Select.TheVariants.{Counter0, Counter1, Counter2}

-- no OUT falls by a gate, so none clocks counter 2, asks for a request or triggers a conversion
pub gates_no_fall : (t : Timer) (was is : Gates) (s : Select) → fell (out t s) (out (gates_moved t was is) s) ≡ false
unfolding gates_moved
gates_no_fall t was is Counter0 = gate_no_fall t.counter0 was.gate0 is.gate0
gates_no_fall t was is Counter1 = gate_no_fall t.counter1 was.gate12 is.gate12
gates_no_fall t was is Counter2 = gate_no_fall t.counter2 was.gate12 is.gate12
