-- Theorems that rest on theorems of specs/Runs.antt, and promise as those do. What specs/Runs.antt says of itself:
-- A tally over any run of events, from any board: each count is the number that the events count, as long as that is at most the largest, and after that it
-- stays at the largest; and both sums hold (request M-112).
use Rattle.std.specs.Prelude.{ℕ, ◌≤◌, ◌≡◌, true, List}
use Rattle.std.proofs.Common.{◌∙◌, arith, eq-eqb}
use Rattle.board_step.specs.States.{State}
use Rattle.board_laws.specs.Stretches.{after_events}
use Rattle.tally_counts.specs.Counts.{no_counts, counts_in}
use Rattle.tally_counts.proofs.Sums.{samples_accounted, conversions_accounted}
use Rattle.tally.specs.Tally.{largest, plus_up_to, noted_all, adds_up}
use Rattle.tally.specs.Adding.{Plus, past, within, plus_ways}
use Rattle.tally.proofs.Adding.{noted-all}
use Rattle.board_events.specs.declared.Event.{Event}
use Rattle.tally.specs.Runs.{Small}

-- ---- a count at its largest stays, whatever is added: it does not wrap
pub largest-stays : (more : ℕ) → plus_up_to largest more ≡ largest
largest-stays more = by (plus_ways largest more)
  where
    by : {r : ℕ} → Plus largest more r → r ≡ largest
    by (past l e) = e
    by (within l e) = omega (arith, l, e)

-- ---- the counts of a run are at most the largest
from_zero : (n : ℕ) → n ≤ largest → plus_up_to 0 n ≡ n
from_zero n h = by (plus_ways 0 n)
  where
    by : {r : ℕ} → Plus 0 n r → r ≡ n
    by (past l e) = absurd (omega (arith, h, l))
    by (within l e) = omega (arith, e)

module _ (s : State) (events : List Event) (small : Small (counts_in s events)) where
  -- ---- the tally is the numbers that the events count
  pub tally_is : noted_all no_counts s events ≡ counts_in s events
  tally_is =
      noted-all no_counts s events
      ∙ rw (
        from_zero _ small.begun,
        from_zero _ small.ended,
        from_zero _ small.abandoned,
        from_zero _ small.read,
        from_zero _ small.lost,
        from_zero _ small.cleared,
      )

  -- ---- and both sums hold of it
  pub sums_hold : adds_up (noted_all no_counts s events) s.board (after_events s events).board ≡ true
  sums_hold =
      rw (tally_is, eq-eqb _ _ (samples_accounted s events), eq-eqb _ _ (conversions_accounted s events))
