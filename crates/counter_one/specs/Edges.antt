-- What makes no edge of OUT: a gate raises it at most, a read leaves it. Data sheet (manual, chapter 19): figure 15.
use Rattle.std.specs.Prelude.{◌≡◌, Bool, true, false, not, ◌&&◌, ◌||◌, refl, Option, Some, None}
use Rattle.base.specs.Flags.{on, on-flag}
use Rattle.counter_modes.specs.Modes.{gate_raises}
use Rattle.counter_modes.specs.Control.{setup_of}
use Rattle.counter_one.specs.Falls.{fell, no_fall}
use Rattle.counter_one.specs.Counter.{gate_moved_as, gate_moved, counter_read_as, counter_read}
use Rattle.counter_modes.specs.declared.Format.{Format}
use Rattle.counter_modes.specs.declared.Mode.{Mode}
use Rattle.counter_one.specs.declared.Counter.{Counter}

rises : (o b : Bool) → fell o (o || b) ≡ false
rises true b = refl
rises false b = refl

pub gate_no_fall : (c : Counter) (was is : Bool) → fell (on c.count.out) (on (gate_moved c was is).count.out) ≡ false
unfolding gate_moved
gate_no_fall c was is = go (setup_of c.control)
  where
    go : (s : Option (Format × Mode)) → fell (on c.count.out) (on (gate_moved_as s c was is).count.out) ≡ false
    go None = no_fall (on c.count.out)
    go (Some (f, m)) = simp on-flag (rises (on c.count.out) (gate_raises m && (was && not is)))

pub read-same_out : (c : Counter) → on (counter_read c).counter.count.out ≡ on c.count.out
unfolding counter_read
read-same_out c = go (setup_of c.control)
  where
    go : (s : Option (Format × Mode)) → on (counter_read_as s c).counter.count.out ≡ on c.count.out
    go None = refl
    go (Some (f, m)) = refl
