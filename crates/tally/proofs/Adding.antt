-- Theorems that rest on theorems of specs/Adding.antt, and promise as those do. What specs/Adding.antt says of itself:
-- Counts that take more and stay at their largest: laws for the theorems over rows of events.
use Rattle.std.specs.Prelude.{ℕ, ◌+◌, ◌≡◌, true, List, [], ◌∷◌}
use Rattle.std.proofs.Common.{sym, ◌∙◌, arith}
use Rattle.machine_record.specs.declared.Board.{Board}
use Rattle.board_stores.specs.Stores.{wrong_lengths}
use Rattle.board_refusal.specs.Refusals.{checks}
use Rattle.board_step.specs.States.{State, after_event}
use Rattle.tally_counts.specs.Counts.{no_counts, counts_at, together, counts_in}
use Rattle.tally_counts.specs.declared.Tally.{Tally}
use Rattle.tally.specs.Tally.{plus_up_to, added, noted, noted_all}
use Rattle.board_events.specs.declared.Event.{Event}
use Rattle.tally.specs.Adding.{Plus, past, plus_ways, within}

-- ---- one count: it goes past its largest, and is that, or it is the sum
pub plus_none : (count : ℕ) → plus_up_to count 0 ≡ count
plus_none count = by (plus_ways count 0)
  where
    by : {r : ℕ} → Plus count 0 r → r ≡ count
    by (past l e) = absurd (omega (arith, l))
    by (within l e) = omega (arith, e)

-- more and then more again is both at once
pub plus_plus : (count a b : ℕ) → plus_up_to (plus_up_to count a) b ≡ plus_up_to count (a + b)
plus_plus count a b = by (plus_ways count a) (plus_ways (plus_up_to count a) b) (plus_ways count (a + b))
  where
    by : {r s t : ℕ} → Plus count a r → Plus r b s → Plus count (a + b) t → s ≡ t
    by (past l e) (past m f) (past n g) = omega (arith, e, f, g)
    by (past l e) (past m f) (within n g) = absurd (omega (arith, l, n))
    by (past l e) (within m f) (past n g) = omega (arith, e, m, f, g)
    by (past l e) (within m f) (within n g) = absurd (omega (arith, l, n))
    by (within l e) (past m f) (past n g) = omega (arith, f, g)
    by (within l e) (past m f) (within n g) = absurd (omega (arith, l, e, m, n))
    by (within l e) (within m f) (past n g) = absurd (omega (arith, l, e, m, n))
    by (within l e) (within m f) (within n g) = omega (arith, e, f, g)

-- ---- all six
pub added_none : (t : Tally) → added t no_counts ≡ t
added_none t =
    rw (plus_none t.begun, plus_none t.ended, plus_none t.abandoned, plus_none t.read, plus_none t.lost, plus_none t.cleared)

pub added-added : (t c d : Tally) → added (added t c) d ≡ added t (together c d)
added-added t c d =
    rw (
      plus_plus t.begun c.begun d.begun,
      plus_plus t.ended c.ended d.ended,
      plus_plus t.abandoned c.abandoned d.abandoned,
      plus_plus t.read c.read d.read,
      plus_plus t.lost c.lost d.lost,
      plus_plus t.cleared c.cleared d.cleared,
    )

-- ---- a row of events that are noted one by one is noted at once
pub noted-all : (t : Tally) (s : State) (events : List Event) → noted_all t s events ≡ added t (counts_in s events)
noted-all t s [] = sym (added_none t)
noted-all t s (event ∷ events) =
    noted-all (noted t s.board s.memory s.eeprom event) (after_event s event) events
    ∙ added-added t (counts_at s event) (counts_in (after_event s event) events)

-- ---- with memories of the wrong lengths every event is refused, and a tally stays
pub wrong_lengths-noted : (t : Tally) (b : Board) (m e : List ℕ) (event : Event) → wrong_lengths m e ≡ true → t ≡ noted t b m e event
unfolding counts_at checks
wrong_lengths-noted t b m e event h = rw h (sym (added_none t))
