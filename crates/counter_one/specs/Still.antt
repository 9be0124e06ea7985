-- A working counter whose GATE keeps its level stays as it is.
use Rattle.std.specs.Prelude.{◌≡◌, ℕ, ◌≤◌, Bool, true, false, not, ◌&&◌, ◌||◌, refl, Option, Some, None}
use Rattle.base.specs.Flags.{on, flag, flag-on}
use Rattle.counter_modes.specs.Modes.{trigger_loads, gate_raises}
use Rattle.counter_modes.specs.Control.{setup_of}
use Rattle.counter_modes.specs.declared.Format.{Format}
use Rattle.counter_modes.specs.declared.Mode.{Mode}
use Rattle.counter_one.specs.Counter.{gate_moved_as, gate_moved}
use Rattle.counter_one.specs.Working.{Flags, WorkingCounter}
use Rattle.counter_one.specs.declared.Counter.{Counter}

-- neither a rise nor a fall
no_rise : (t g : Bool) → t && (not g && g) ≡ false
no_rise true true = refl
no_rise true false = refl
no_rise false g = refl

no_drop : (t g : Bool) → t && (g && not g) ≡ false
no_drop true true = refl
no_drop true false = refl
no_drop false g = refl

-- a flag that nothing is added to
pub same_flag : (n : ℕ) → n ≤ 1 → flag (on n || false) ≡ n
same_flag n h = by (on n) (flag-on n h)
  where
    by : (t : Bool) → flag t ≡ n → flag (t || false) ≡ n
    by true e = e
    by false e = e

still_as : (s : Option (Format × Mode)) (c : Counter) (g : Bool) → Flags c → gate_moved_as s c g g ≡ c
still_as None c g w = refl
still_as (Some (f, m)) c g w =
    rw (no_rise (trigger_loads m) g, no_drop (gate_raises m) g, same_flag c.trigger w.trigger, same_flag c.count.out w.count.out)

pub gate-still : (c : Counter) (g : Bool) → WorkingCounter c → gate_moved c g g ≡ c
unfolding gate_moved
gate-still c g w = still_as (setup_of c.control) c g w.flags
