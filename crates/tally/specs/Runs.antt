-- A tally over any run of events, from any board: each count is the number that the events count, as long as that is at most the largest, and after that it
-- stays at the largest; and both sums hold (request M-112).
use Rattle.std.specs.Prelude.{◌≤◌}
use Rattle.tally_counts.specs.declared.Tally.{Tally}
use Rattle.tally.specs.Tally.{largest}

-- ---- the counts of a run are at most the largest
pub record Small (c : Tally) : Type 0 where
  pub begun : c.begun ≤ largest
  pub ended : c.ended ≤ largest
  pub abandoned : c.abandoned ≤ largest
  pub read : c.read ≤ largest
  pub lost : c.lost ≤ largest
  pub cleared : c.cleared ≤ largest
