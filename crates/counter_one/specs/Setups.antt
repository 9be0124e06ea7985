-- What the six control bits of a working counter set up: nothing where they are 0, and else a count in the mode that bit 2 tells.
use Rattle.std.specs.Prelude.{◌≡◌, ℕ, ◌≢◌, refl, Option, Some, None}
use Rattle.std.proofs.Common.{ap}
use Rattle.counter_modes.specs.Bits.{mode_by, rate, mode_bit}
use Rattle.counter_modes.specs.Control.{command, setup_of}
use Rattle.counter_modes.specs.declared.Format.{Format}
use Rattle.counter_modes.specs.declared.Mode.{Mode}
use Rattle.counter_one.specs.Working.{WorkingCounter}
use Rattle.counter_one.specs.declared.Counter.{Counter}

pub sets_nothing : (w : ℕ) → w ≡ 0 → setup_of w ≡ None
unfolding setup_of command
sets_nothing w h = ap setup_of h

-- what holds of every count in that mode holds of what the bits set up
pub sets_mode : (P : Option (Format × Mode) → Type 0) (c : Counter) → WorkingCounter c → (c.control ≢ 0)
    → ((f : Format) → P (Some (f, mode_by (rate c.control)))) → P (setup_of c.control)
sets_mode P c w z h = go (setup_of c.control) refl
  where
    go : (s : Option (Format × Mode)) → setup_of c.control ≡ s → P s
    go None e = absurd (z (rw e at w.facts).0)
    go (Some (f, m)) e = rw (mode_bit c.control f m e) (h f)
