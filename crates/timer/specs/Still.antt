-- A working board's timer whose gates keep their levels stays as it is.
use Rattle.std.specs.Prelude.{◌≡◌, refl, Bool, true, false, not, ◌&&◌, ◌||◌}
use Rattle.std.proofs.Common.{sym}
use Rattle.base.specs.Laws.{never}
use Rattle.counter_one.specs.Still.{gate-still}
use Rattle.counter_one.specs.Counter.{gate_moved}
use Rattle.counter_one.specs.Working.{WorkingCounter}
use Rattle.counter_one.specs.declared.Counter.{Counter}
use Rattle.timer.specs.Timer.{gates_move, gates_moved}
use Rattle.timer.specs.Working.{WorkingTimer}
use Rattle.timer.specs.declared.Timer.{Timer}
use Rattle.timer.specs.declared.Gates.{Gates}

-- levels of which none moves are the same
same-levels : (a b c d : Bool) → (a && not b || not a && b || c && not d || not c && d) ≡ false → (a ≡ b) × (c ≡ d)
same-levels true true true true h = (refl, refl)
same-levels true true true false h = never (sym h)
same-levels true true false true h = never (sym h)
same-levels true true false false h = (refl, refl)
same-levels true false c d h = never (sym h)
same-levels false true c d h = never (sym h)
same-levels false false true true h = (refl, refl)
same-levels false false true false h = never (sym h)
same-levels false false false true h = never (sym h)
same-levels false false false false h = (refl, refl)

stays : (c : Counter) {was is : Bool} → WorkingCounter c → was ≡ is → gate_moved c was is ≡ c
stays c {was} w h = rw (sym h) (gate-still c was w)

pub gates-still : (t : Timer) (was is : Gates) → WorkingTimer t → gates_move was is ≡ false → gates_moved t was is ≡ t
unfolding gates_moved
gates-still t was is w h =
    let s = same-levels was.gate0 is.gate0 was.gate12 is.gate12 h in
    rw (stays t.counter0 w.counter0 s.0, stays t.counter1 w.counter1 s.1, stays t.counter2 w.counter2 s.1)
