-- A board that works goes on to work, and what one event of a stretch leaves of DACBUSY's count and of the dividers: laws for the theorems over stretches of
-- events.
use Rattle.std.specs.Prelude.{ℕ, ◌-◌, ◌≡◌, refl, Bool, true, false, ◌&&◌, List, [], ◌∷◌}
use Rattle.std.proofs.Common.{sym, ap, ◌∙◌, arith}
use Rattle.std.proofs.Math.Dec.{eqb}
use Rattle.base.specs.Checks.{refusal}
use Rattle.base.specs.Laws.{by-test, never}
use Rattle.fifo.specs.Samples.{oldest_of}
use Rattle.fifo.specs.Queue.{queue}
use Rattle.machine_record.specs.declared.Jumpers.{Jumpers}
use Rattle.machine_record.specs.declared.Board.{Board}
use Rattle.board_refusal.specs.Refusals.{event_checks}
use Rattle.board_step.specs.Passed.{all-passed}
use Rattle.board_step.specs.Step.{ran, ran_from, step_of}
use Rattle.board_step.specs.declared.Outcome.{Outcome}
use Rattle.board_step.specs.States.{State, Works, refusal_at, after_event}
use Rattle.board_laws.specs.Kept.{step_kept, eeprom-kept, fresh-works}
use Rattle.board_laws.specs.Held.{number-working}
use Rattle.board_laws.specs.Begins.{resets}
use Rattle.board_laws.specs.Stretches.{after_events, ticks_of, is_load, fresh_state}
use Rattle.board_laws.specs.StretchLaws.{Moves, dividers_move, busy-moves}
use Rattle.board_events.specs.declared.Event.{Event}
use Rattle.board_events.specs.declared.Event.TheVariants.{WriteByte, ReadByte, ReadWord, ConversionEnd, DinPins, LatchLevel, PortPins, Tick, TransferEnd}

-- ---- a board that works goes on to work
pub taken-works : (s : State) (ev : Event) → refusal_at s ev ≡ 0 → Works s
taken-works s ev h = let p = all-passed s.board s.memory s.eeprom ev h in record { working = p.works; long = p.long }

pub works-on : (s : State) (ev : Event) → Works s → Works (after_event s ev)
works-on s ev w = record {
  working = step_kept s.board s.memory s.eeprom ev w.working;
  long = eeprom-kept s.board s.memory s.eeprom ev ∙ w.long;
}

pub stretch-works : (s : State) → Works s → (events : List Event) → Works (after_events s events)
stretch-works s w [] = w
stretch-works s w (ev ∷ events) = stretch-works (after_event s ev) (works-on s ev w) events

pub fresh-state_works : (j : Jumpers) (zeroscale : Bool) → Works (fresh_state j zeroscale)
fresh-state_works j zeroscale = record { working = fresh-works j zeroscale; long = refl }

-- a tick is not refused
unticked : (b : Board) (ev : Event) → eqb (refusal (event_checks b ev)) 0 ≡ false → ticks_of ev ≡ 0
unfolding event_checks
unticked b (WriteByte n v) h = refl
unticked b (ReadByte n) h = refl
unticked b (ReadWord n) h = refl
unticked b (ConversionEnd code) h = refl
unticked b (DinPins d) h = refl
unticked b (LatchLevel level) h = refl
unticked b (PortPins q v) h = refl
unticked b Tick h = never (sym h)
unticked b TransferEnd h = refl

under_taken : (l t : Bool) → l && t ≡ false → t ≡ true → l ≡ false
under_taken true t h e = never (sym h ∙ e)
under_taken false t h e = refl

module _ (s : State) (ev : Event) (w : Works s) where
  -- ---- the record after an event is what the event makes of it, or, where it is refused, as it was; a tick is not refused
  abbrev made : Board
  made = (ran_from s.board s.memory s.eeprom ev).board

  after_one : (P : Board → Type 0) → (eqb (refusal_at s ev) 0 ≡ true → P made) → (ticks_of ev ≡ 0 → P s.board) → P (after_event s ev).board
  unfolding step_of
  after_one P f g =
      by-test (λ (o : Outcome). P o.board) (eqb (refusal_at s ev) 0) f
      (λ t. g (unticked s.board ev (ap (λ (n : ℕ). eqb n 0) (sym (number-working s.board s.memory s.eeprom ev w.working w.long)) ∙ t)))

  -- ---- DACBUSY's count
  pub busy-step : resets ev ≡ false → is_load ev && eqb (refusal_at s ev) 0 ≡ false → (after_event s ev).board.outputs.busy ≡ s.board.outputs.busy - ticks_of ev
  unfolding ran
  busy-step r l =
      after_one (λ (c : Board). c.outputs.busy ≡ s.board.outputs.busy - ticks_of ev)
      (λ t. busy-moves s.board (oldest_of (queue s.board.fifo s.memory)) s.eeprom ev r (under_taken (is_load ev) (eqb (refusal_at s ev) 0) l t))
      (λ z. omega arith)

  -- ---- the dividers
  pub dividers_step : Moves s.board (after_event s ev).board (ticks_of ev)
  unfolding ran
  dividers_step =
      after_one (λ (c : Board). Moves s.board c (ticks_of ev))
      (λ t. let f = dividers_move s.board (oldest_of (queue s.board.fifo s.memory)) s.eeprom ev in
      record { hundred = f.hundred; thousand = f.thousand })
      (λ z. record { hundred = rw z; thousand = rw z })
