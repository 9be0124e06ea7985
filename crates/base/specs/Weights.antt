-- A bit of a byte that is read (manual, chapter 6: the read map).
use Rattle.std.specs.Prelude.{Bool, true, false, ℕ, ◌≤◌, if◌then◌else◌}
use Rattle.std.proofs.Common.{arith}

-- the weight w of a bit that is set, else 0
abbrev pub weight_of : Bool → ℕ → ℕ
weight_of set w = if set then w else 0

pub weight_le : (set : Bool) (w : ℕ) → weight_of set w ≤ w
weight_le true w = omega arith
weight_le false w = omega arith
