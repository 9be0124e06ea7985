-- A counter is programmed or not: what holds of it in both cases. A law for the theorems and proofs about one counter.
use Rattle.std.specs.Prelude.{◌≡◌, refl, Option, Some, None}
use Rattle.counter_modes.specs.declared.Format.{Format}
use Rattle.counter_modes.specs.declared.Mode.{Mode}

pub by_setup : (P : Option (Format × Mode) → Type 0) (s : Option (Format × Mode)) → (s ≡ None → P None)
    → ((f : Format) (m : Mode) → s ≡ Some (f, m) → P (Some (f, m))) → P s
by_setup P None u p = u refl
by_setup P (Some (f, m)) u p = p f m refl
