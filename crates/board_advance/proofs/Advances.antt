-- Theorems that rest on theorems of specs/Advances.antt, and promise as those do. What specs/Advances.antt says of itself:
-- What `advanced_of` says, in terms of events: k ticks were done and led to this record, none before the k-th brought news, and k is all of them or the k-th
-- did; of a board that is not refused both memories stay as they were, and every tick is answered by done.
use Rattle.std.specs.Prelude.{ℕ, zero, suc, ◌<◌, ◌≡◌, refl, false, List}
use Rattle.std.proofs.Common.{arith, sym, ap, ◌∙◌, subst, eq-eqb}
use Rattle.base.specs.Laws.{by-test}
use Rattle.machine_record.specs.declared.Board.{Board}
use Rattle.board_step.specs.Step.{refusal_of}
use Rattle.board_step.specs.States.{State}
use Rattle.board_step.specs.Ways.{Opened, opens}
use Rattle.board_step.specs.Ticked.{ticked_board, tick-opens}
use Rattle.board_events.specs.declared.Event.TheVariants.{Tick}
use Rattle.board_step.specs.News.{news}
use Rattle.board_advance.specs.Advance.{advanced_from, advanced_of}
use Rattle.board_advance.specs.Advances.{after_tick, after_ticks, acts, Ended, whole, acted, Advances, tick-state, one-tick}
use Rattle.board_advance.specs.Advances.{Advances}

module _ (m e : List ℕ) where
  -- ---- the ticks after the first
  module _ (b : Board) (o : Opened b m e) where
    abbrev here : State
    here = record { board = b; memory = m; eeprom = e }

    abbrev next : State
    next = record { board = ticked_board b; memory = m; eeprom = e }

    acts-at : (j : ℕ) → acts (after_ticks j (after_tick here)) ≡ acts (after_ticks j next)
    acts-at j = ap (λ (s : State). acts (after_ticks j s)) (tick-state m e b o)

    acts-here : acts here ≡ news b (ticked_board b)
    acts-here = ap (λ (s : State). news b s.board) (tick-state m e b o)

    later : {n k : ℕ} → Ended n next k → Ended (suc n) here (suc k)
    later whole = whole
    later (acted {j} h) = acted {j = suc j} (acts-at j ∙ h)

    sooner : (k : ℕ) → news b (ticked_board b) ≡ false → ((j : ℕ) → suc j < k → acts (after_ticks j next) ≡ false)
        → (j : ℕ) → suc j < suc k → acts (after_ticks j here) ≡ false
    sooner k h f zero l = acts-here ∙ h
    sooner k h f (suc j) l = acts-at j ∙ f j (omega arith)

  pub advances-from : (n d : ℕ) (b : Board) → Opened b m e → Advances b m e n d (advanced_from n d b m e)
  advances-from zero d b o =
      record { k = 0; done = omega arith; within = omega arith; answer = refl; steps = refl; before = λ j l. absurd (omega arith); ends = whole }
  advances-from (suc n) d b o =
      subst (Advances b m e (suc n) d) (sym (one-tick m e n d b o))
      (by-test (Advances b m e (suc n) d) (news b (ticked_board b))
      (λ t. record {
        k = 1;
        done = omega arith;
        within = omega arith;
        answer = refl;
        steps = tick-state m e b o;
        before = λ j l. absurd (omega arith);
        ends = acted {j = 0} (acts-here b o ∙ t);
      })
      (λ t.
      let a = advances-from n (suc d) (ticked_board b) (tick-opens b m e o) in
      record {
        k = suc a.k;
        done = omega (arith, a.done);
        within = omega (arith, a.within);
        answer = a.answer;
        steps = ap (after_ticks a.k) (tick-state m e b o) ∙ a.steps;
        before = sooner b o a.k t a.before;
        ends = later b o a.ends;
      }))

-- ---- the whole call
module _ (b : Board) (m e : List ℕ) (n : ℕ) where
  pub advances : refusal_of b m e Tick ≡ 0 → Advances b m e n 0 (advanced_of b m e n)
  unfolding advanced_of
  advances h = rw (eq-eqb (refusal_of b m e Tick) 0 h) (advances-from m e n 0 b (opens b m e Tick h))
