-- Theorems that rest on theorems of specs/EdgeLaws.antt, and promise as those do. What specs/EdgeLaws.antt says of itself:
-- Writes of 9 and 10 and resets, part by part: laws for the theorem that they are no edge.
use Rattle.std.specs.Prelude.{ℕ, ◌≡◌, Bool, true, false, not, ◌&&◌, Option, Some, None}
use Rattle.std.proofs.Math.Path.{refl, subst}
use Rattle.std.proofs.Common.{sym, ◌∙◌, eq-eqb}
use Rattle.base.specs.Checks.{refusal}
use Rattle.base.specs.Flags.{on}
use Rattle.fifo.specs.declared.Fifo.{Fifo}
use Rattle.counter_modes.specs.Control.{setup_of}
use Rattle.counter_modes.specs.declared.Format.{Format}
use Rattle.counter_modes.specs.declared.Mode.{Mode}
use Rattle.counter_one.specs.Counter.{gate_moved_as, gate_moved}
use Rattle.counter_one.specs.Edges.{gate_no_fall}
use Rattle.counter_one.specs.Still.{gate-still}
use Rattle.counter_one.specs.declared.Counter.{Counter}
use Rattle.counter_one.specs.Falls.{fell}
use Rattle.timer.specs.Timer.{counter_of, gate_of, gates_moved}
use Rattle.timer.specs.Working.{WorkingTimer}
use Rattle.timer.specs.declared.Select.{Select}
use Rattle.timer.specs.declared.Select.TheVariants.{Counter0, Counter1, Counter2}
use Rattle.machine_record.specs.Parts.{with_fifo}
use Rattle.machine_record.specs.declared.Board.{Board}
use Rattle.machine_clock.specs.Clock.{gates, counting_written}
use Rattle.machine_reset.specs.Reset.{is_reset, board_reset, misc_written}
use Rattle.bus.specs.Place.{place_of}
use Rattle.bus.specs.Registers.{write_checks, written_at, write_effect}
use Rattle.board_refusal.specs.Refusals.{event_checks}
use Rattle.board_step.specs.Act.{acted}
use Rattle.board_step.specs.Step.{fifo_after, ran, step_of}
use Rattle.board_step.specs.News.{rose, news, not_risen}
use Rattle.board_step.specs.States.{State, Works, after_event}
use Rattle.board_laws.specs.Begins.{begins}
use Rattle.board_laws.specs.Held.{number-working}
use Rattle.board_laws.specs.Edges.{Unclocked, NoEdge}
use Rattle.board_events.specs.declared.Event.TheVariants.{WriteByte}
use Rattle.board_laws.specs.EdgeLaws.{Gated, anew, nine, ten}

-- ---- a gate alone clocks nothing
gate-unclocked : (c : Counter) (was is : Bool) → Unclocked c (gate_moved c was is)
unfolding gate_moved
gate-unclocked c was is = by (setup_of c.control) (gate_no_fall c was is)
  where
    by : (s : Option (Format × Mode)) → fell (on c.count.out) (on (gate_moved_as s c was is).count.out) ≡ false → Unclocked c (gate_moved_as s c was is)
    by None h = record { element = refl; register = refl; waiting = refl; loaded = refl; out = h }
    by (Some (f, m)) h = record { element = refl; register = refl; waiting = refl; loaded = refl; out = h }

-- ---- a flag that is clear has not gone up
cleared_not_risen : (n : ℕ) → rose n 0 ≡ false
cleared_not_risen n = by (on n)
  where
    by : (t : Bool) → not t && false ≡ false
    by true = refl
    by false = refl

-- ---- the record after each
module _ (b : Board) (v : ℕ) (f : Fifo) where
  all-unclocked : (c : Board) → Gated b v f c → (i : Select) → Unclocked (counter_of b.clocks.timer i) (counter_of c.clocks.timer i)
  all-unclocked c g i =
      subst (Unclocked (counter_of b.clocks.timer i)) (sym (g i)) (gate-unclocked (counter_of b.clocks.timer i) (gate_of (gates b) i) (gate_of (gates c) i))

  -- the same flags and converter's state, or none of them set
  same-news : (c : Board) → c.converter.converting ≡ b.converter.converting → c.requests.flags ≡ b.requests.flags → news b c ≡ false
  same-news c k r =
      rw (
        k,
        r,
        not_risen b.converter.converting,
        not_risen b.requests.flags.adint,
        not_risen b.requests.flags.dint,
        not_risen b.requests.flags.tint,
      )

  gated_9 : WorkingTimer b.clocks.timer → Gated b v f (nine b v f)
  gated_9 w Counter0 = sym (gate-still b.clocks.timer.counter0 (gates b).gate0 w.counter0)
  gated_9 w Counter1 = sym (gate-still b.clocks.timer.counter1 (gates b).gate12 w.counter1)
  gated_9 w Counter2 = sym (gate-still b.clocks.timer.counter2 (gates b).gate12 w.counter2)

  edge_9 : WorkingTimer b.clocks.timer → NoEdge b (WriteByte 9 v) (nine b v f)
  unfolding begins place_of
  edge_9 w =
      record { begins-none = refl; no_news = same-news (nine b v f) refl refl; gate-alone = gated_9 w; unclocked = all-unclocked (nine b v f) (gated_9 w) }

  gated_10 : (Gated b v f) (ten b v f)
  unfolding counting_written gates_moved
  gated_10 Counter0 = refl
  gated_10 Counter1 = refl
  gated_10 Counter2 = refl

  edge_10 : NoEdge b (WriteByte 10 v) (ten b v f)
  unfolding begins place_of counting_written
  edge_10 = record { begins-none = refl; no_news = same-news (ten b v f) refl refl; gate-alone = gated_10; unclocked = all-unclocked (ten b v f) gated_10 }

  gated-reset : (Gated b v f) (anew b v f)
  unfolding board_reset gates_moved
  gated-reset Counter0 = refl
  gated-reset Counter1 = refl
  gated-reset Counter2 = refl

  edge-reset : NoEdge b (WriteByte 8 v) (anew b v f)
  unfolding begins place_of board_reset
  edge-reset = record {
    begins-none = refl;
    no_news =
        rw (
          cleared_not_risen b.converter.converting,
          cleared_not_risen b.requests.flags.adint,
          cleared_not_risen b.requests.flags.dint,
          cleared_not_risen b.requests.flags.tint,
        );
    gate-alone = gated-reset;
    unclocked = all-unclocked (anew b v f) gated-reset;
  }

-- ---- and after the event
module _ (s : State) (v : ℕ) (w : Works s) where
  written : (n : ℕ) → refusal (event_checks s.board (WriteByte n v)) ≡ 0
      → with_fifo (written_at s.board (place_of s.board.registers.page n) v)
      (fifo_after (write_effect (place_of s.board.registers.page n) v) s.board.fifo)
      ≡ (after_event s (WriteByte n v)).board
  unfolding step_of ran acted
  written n h = rw (eq-eqb _ _ (number-working s.board s.memory s.eeprom (WriteByte n v) w.working w.long ∙ h))

  pub after_9 : NoEdge s.board (WriteByte 9 v) (after_event s (WriteByte 9 v)).board
  unfolding event_checks place_of write_checks written_at
  after_9 = subst (NoEdge s.board (WriteByte 9 v)) (written 9 refl) (edge_9 s.board v _ w.working.machine.clocks.timer)

  pub after_10 : NoEdge s.board (WriteByte 10 v) (after_event s (WriteByte 10 v)).board
  unfolding event_checks place_of write_checks written_at
  after_10 = subst (NoEdge s.board (WriteByte 10 v)) (written 10 refl) (edge_10 s.board v _)

  pub after-reset : is_reset v ≡ true → NoEdge s.board (WriteByte 8 v) (after_event s (WriteByte 8 v)).board
  unfolding event_checks place_of write_checks written_at misc_written
  after-reset h = subst (NoEdge s.board (WriteByte 8 v)) (written 8 refl) (rw h (edge-reset s.board v _))
