-- The law of `adds_up`. Assumes nothing.
use Prim.Native.Nat.{ℕ, ◌+◌}
use mathlib.Core.Path.{◌≡◌}
use mathlib.Core.Bool.{Bool, ◌&&◌}
use native.Mathlib.Omega.{arith}
use lib.Dec.{eqb}
use Rattle.machine_record.specs.declared.Board.{Board}
use Rattle.tally_counts.specs.Counts.{held, in_progress}
use Rattle.tally_counts.specs.declared.Tally.{Tally}
use Rattle.tally.specs.Tally.{adds_up}

-- both sums: the second has nothing in the fourth place
pub both_sums : (t : Tally) (first last : Board) {p q : Bool} {i j : ℕ} → p ≡ eqb (t.ended + held first) (t.read + held last + t.lost + t.cleared)
    → i ≡ in_progress first → j ≡ in_progress last → q ≡ eqb (t.begun + i) (t.ended + t.abandoned + j + 0) → p && q ≡ adds_up t first last
both_sums t first last e h k f =
    let z : t.ended + t.abandoned + in_progress last + 0 ≡ t.ended + t.abandoned + in_progress last = omega arith in
    rw (e, f, h, k, z)
