-- Theorems that rest on theorems of specs/Sums.antt, and promise as those do. What specs/Sums.antt says of itself:
-- The sums of request M-112: "Show, over any events from a fresh board, that conversions ended equal samples read, held, lost at a full memory, and cleared by
-- a FIFO or board reset; and conversions begun equal those ended, abandoned by a reset, and in progress (none or one)."
use Rattle.std.specs.Prelude.{◌+◌, ◌≡◌, Bool, List, [], ◌∷◌}
use Rattle.std.proofs.Common.{arith}
use Rattle.machine_record.specs.declared.Jumpers.{Jumpers}
use Rattle.board_step.specs.States.{State, after_event}
use Rattle.board_laws.specs.Stretches.{after_events, fresh_state}
use Rattle.tally_counts.specs.Counts.{counts_in, held, in_progress}
use Rattle.tally_counts.proofs.OneEvent.{event_adds}
use Rattle.board_events.specs.declared.Event.{Event}

-- ---- from any board, working or not, with what it holds and has in progress added
pub samples_accounted : (s : State) (events : List Event)
    → (counts_in s events).ended + held s.board
    ≡ (counts_in s events).read + held (after_events s events).board + (counts_in s events).lost + (counts_in s events).cleared
samples_accounted s [] = omega arith
samples_accounted s (event ∷ events) =
    omega (arith, (event_adds s event).samples, samples_accounted (after_event s event) events)

pub conversions_accounted : (s : State) (events : List Event)
    → (counts_in s events).begun + in_progress s.board
    ≡ (counts_in s events).ended + (counts_in s events).abandoned + in_progress (after_events s events).board
conversions_accounted s [] = omega arith
conversions_accounted s (event ∷ events) =
    omega (arith, (event_adds s event).conversions, conversions_accounted (after_event s event) events)

-- ---- from a fresh board, of any jumpers
module _ (jumpers : Jumpers) (zeroscale : Bool) (events : List Event) where
  pub fresh-samples : (counts_in (fresh_state jumpers zeroscale) events).ended
      ≡ (counts_in (fresh_state jumpers zeroscale) events).read
      + held (after_events (fresh_state jumpers zeroscale) events).board
      + (counts_in (fresh_state jumpers zeroscale) events).lost
      + (counts_in (fresh_state jumpers zeroscale) events).cleared
  fresh-samples = omega (arith, samples_accounted (fresh_state jumpers zeroscale) events)

  pub fresh-conversions : (counts_in (fresh_state jumpers zeroscale) events).begun
      ≡ (counts_in (fresh_state jumpers zeroscale) events).ended
      + (counts_in (fresh_state jumpers zeroscale) events).abandoned
      + in_progress (after_events (fresh_state jumpers zeroscale) events).board
  fresh-conversions = omega (arith, conversions_accounted (fresh_state jumpers zeroscale) events)
