-- The ticks that are done of many count one conversion begun, where the board is converting after them and was not before, and nothing else: a call stops after
-- the first tick that begins one.
use Rattle.std.specs.Prelude.{ℕ, zero, suc, ◌+◌, ◌≡◌, refl, Bool, true, false, not, ◌&&◌, ◌||◌, List, replicate}
use Rattle.std.proofs.Common.{sym, ap, subst, ◌∙◌, arith}
use Rattle.base.specs.Flags.{on, flag}
use Rattle.base.specs.Laws.{by-test, never}
use Rattle.machine_record.specs.declared.Board.{Board}
use Rattle.board_refusal.specs.Refusals.{event_checks, checks}
use Rattle.board_step.specs.News.{rose, news, not_risen}
use Rattle.board_step.specs.Ticked.{ticked_board, tick-opens}
use Rattle.board_step.specs.Ways.{Opened}
use Rattle.board_advance.specs.Advance.{advanced_from, advanced_of}
use Rattle.board_advance.specs.Advances.{tick-state, one-tick}
use Rattle.board_advance.specs.Strided.{begins_in}
use Rattle.board_advance.proofs.Strided.{begun_in}
use Rattle.board_advance.specs.declared.Advanced.{Advanced}
use Rattle.board_laws.specs.Begins.{begins, ends, resets}
use Rattle.tally_counts.specs.Counts.{no_counts, reads, loses, clears, counts_of, counts_at, together, counts_in}
use Rattle.tally_counts.specs.declared.Tally.{Tally}
use Rattle.tally.specs.Tally.{state_of}
use Rattle.tally.specs.Made.{begun_if}
use Rattle.tally.specs.TickLaws.{tick-rose, tick-stays}
use Rattle.board_events.specs.declared.Event.TheVariants.{Tick}

-- ---- one tick
pub no_more : (c : Bool) → flag (c && false) ≡ 0
no_more true = refl
no_more false = refl

pub tick-counts : (b : Board) → counts_of b Tick ≡ begun_if (begins b Tick)
unfolding counts_of ends resets reads loses clears
tick-counts b = rw (no_more (on b.converter.converting))

-- a tick without news begins none
no_news : (a b c d : Bool) → a || b || c || d ≡ false → a ≡ false
no_news true b c d h = never (sym h)
no_news false b c d h = refl

zero_first : (n : ℕ) → 0 + n ≡ n
zero_first n = omega arith

module _ (m e : List ℕ) where
  tick-counted : (b : Board) → Opened b m e → counts_at (state_of b m e) Tick ≡ begun_if (begins b Tick)
  unfolding counts_at checks event_checks
  tick-counted b o = rw (o.long, o.working) (tick-counts b)

  -- ---- the ticks that are done of n, with d done before
  record Counted (n d : ℕ) (b : Board) (a : Advanced) : Type 0 where
    k : ℕ
    done : a.progress.done ≡ d + k
    counts : counts_in (state_of b m e) (replicate k Tick) ≡ begun_if (rose b.converter.converting a.board.converter.converting)

  alone : (x : Bool) → together (begun_if x) no_counts ≡ begun_if x
  alone true = refl
  alone false = refl

  none_first : (t : Tally) → together (begun_if false) t ≡ t
  none_first t =
      rw (zero_first t.begun, zero_first t.ended, zero_first t.abandoned, zero_first t.read, zero_first t.lost, zero_first t.cleared)

  counted-from : (n d : ℕ) (b : Board) → Opened b m e → Counted n d b (advanced_from n d b m e)
  counted-from zero d b o = record { k = 0; done = omega arith; counts = rw (not_risen b.converter.converting) }
  counted-from (suc n) d b o =
      subst (Counted (suc n) d b) (sym (one-tick m e n d b o))
      (by-test (Counted (suc n) d b) (news b (ticked_board b))
      (λ t.
      record {
        k = 1;
        done = omega arith;
        counts = rw (tick-counted b o, tick-rose b) (alone (rose b.converter.converting (ticked_board b).converter.converting));
      })
      (λ t.
      let r : rose b.converter.converting (ticked_board b).converter.converting ≡ false = no_news _ _ _ _ t in
      let c = counted-from n (suc d) (ticked_board b) (tick-opens b m e o) in
      record {
        k = suc c.k;
        done = omega (arith, c.done);
        counts =
            rw (tick-counted b o, tick-state m e b o, tick-rose b, r)
            (none_first _ ∙ c.counts
            ∙ ap (λ (x : Bool). begun_if (not x && on (advanced_from n (suc d) (ticked_board b) m e).board.converter.converting)) (tick-stays b r));
      }))

-- ---- the whole call, of a board that is not refused: the ticks that are done count what the code counts
pub ticks_counted : (b : Board) (m e : List ℕ) (n : ℕ) → Opened b m e
    → counts_in (state_of b m e) (replicate (advanced_of b m e n).progress.done Tick) ≡ begun_if (begins_in b n)
unfolding advanced_of checks event_checks
ticks_counted b m e n o =
    let c = counted-from m e n 0 b o in
    let d : (advanced_from n 0 b m e).progress.done ≡ c.k = omega (arith, c.done) in
    rw (o.long, o.working, d) (c.counts ∙ ap begun_if (begun_in b m e n o))
