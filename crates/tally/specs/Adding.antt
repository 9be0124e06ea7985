-- Counts that take more and stay at their largest: laws for the theorems over rows of events.
use Rattle.std.specs.Prelude.{ℕ, ◌+◌, ◌-◌, ◌≤◌, ◌<◌, ◌≡◌, refl, Bool, true, false, ltb, if◌then◌else◌}
use Rattle.std.proofs.Common.{ltb-true, ltb-false}
use Rattle.tally.specs.Tally.{largest, plus_up_to}

-- ---- one count: it goes past its largest, and is that, or it is the sum
pub data Plus (count more : ℕ) (r : ℕ) : Type 0 where
  past : largest - count < more → r ≡ largest → Plus count more r
  within : more ≤ largest - count → r ≡ count + more → Plus count more r

pub plus_ways : (count more : ℕ) → Plus count more (plus_up_to count more)
unfolding plus_up_to
plus_ways count more = by (ltb (largest - count) more) refl
  where
    by : (t : Bool) → ltb (largest - count) more ≡ t → Plus count more (if t then largest else count + more)
    by true h = past (ltb-true (largest - count) more h) refl
    by false h = within (ltb-false (largest - count) more h) refl
