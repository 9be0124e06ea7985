-- Theorems that rest on theorems of specs/Begins.antt, and promise as those do. What specs/Begins.antt says of itself:
-- Which triggers and ends begin a conversion, and on which channel (the specification, "Conversions, edges and requests"). The tests are
-- `trigger_starts` and `end_starts` of Channels; these laws say that after an operation a conversion runs as they say. Assumes nothing.
use Rattle.std.specs.Prelude.{◌≡◌, refl, Bool, true, false, ◌&&◌, ◌||◌, not, if◌then◌else◌}
use Rattle.base.specs.Flags.{on}
use Rattle.converter.specs.declared.channels.Converter.{Converter}
use Rattle.converter.specs.Channels.{started, trigger_starts, triggered}

-- a conversion runs after a trigger if one ran or the trigger began it, and after an end if the end began it
runs : (trigger running : Bool) (c : Converter) → on c.converting ≡ running
    → on (if trigger && not running then started c else c).converting ≡ running || trigger && not running
runs true true c e = e
runs true false c e = refl
runs false true c e = e
runs false false c e = e

pub trigger-runs : (c : Converter) (trigger : Bool) → on (triggered c trigger).converting ≡ on c.converting || trigger_starts c trigger
trigger-runs c trigger = runs trigger (on c.converting) c refl
