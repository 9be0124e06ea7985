-- The dividers over a row of events: laws for the theorem about them. The two, of 100 and of 1,000 ticks, by one law each.
use Rattle.std.specs.Prelude.{ℕ, zero, suc, ◌+◌, ◌≤◌, ◌%◌, ◌≡◌, refl, List, [], ◌∷◌, length, replicate}
use Rattle.std.proofs.Common.{sym, ◌∙◌, arith, eq-eqb}
use Rattle.std.proofs.Math.Path.{ap}
use Rattle.machine_clock.specs.Clock.{gates}
use Rattle.machine_tick.specs.Tick.{clock0, clock1, next_tick}
use Rattle.machine_tick.specs.InPlace.{pulsed_if, clocks_ticked}
use Rattle.machine_record.specs.declared.Board.{Board}
use Rattle.machine_strides.specs.Lines.{turns, stands, next_in_range}
use Rattle.board_refusal.specs.Working.{board-to}
use Rattle.board_step.specs.Ways.{Opened}
use Rattle.board_step.specs.Ticked.{ticked_board}
use Rattle.board_step.proofs.Ticked.{tick-step}
use Rattle.board_step.specs.declared.Outcome.{Outcome}
use Rattle.board_step.specs.States.{State, Works, after_event}
use Rattle.board_laws.specs.Stretches.{after_events, ticks_of, ticks_in}
use Rattle.board_laws.specs.StretchLaws.{moved_on}
use Rattle.board_laws.specs.StretchSteps.{works-on, dividers_step}
use Rattle.board_events.specs.declared.Event.{Event}
use Rattle.board_events.specs.declared.Event.TheVariants.{Tick}

-- a divider after t ticks and k more
turns-on : (last t h k : ℕ) → h ≤ last → (moved_on t h last + k) % suc last ≡ (h + (t + k)) % suc last
turns-on last zero h k l = let e : k ≡ 0 + k = omega arith in ap (λ (x : ℕ). (h + x) % suc last) e
turns-on last (suc t) h k l =
    let e : suc (t + k) ≡ suc t + k = omega arith in
    turns-on last t (next_tick h last) k (next_in_range h last) ∙ sym (turns last h l (t + k)) ∙ ap (λ (x : ℕ). (h + x) % suc last) e

pub record ClocksRun (s c : State) (ticks : ℕ) : Type 0 where
  pub hundred : c.board.clocks.hundred ≡ (s.board.clocks.hundred + ticks) % 100
  pub thousand : c.board.clocks.thousand ≡ (s.board.clocks.thousand + ticks) % 1000

pub run_free : (s : State) → Works s → (events : List Event) → ClocksRun s (after_events s events) (ticks_in events)
run_free s w [] = record {
  hundred = sym (stands 99 s.board.clocks.hundred w.working.machine.clocks.hundred);
  thousand = sym (stands 999 s.board.clocks.thousand w.working.machine.clocks.thousand);
}
run_free s w (ev ∷ events) =
    let one = dividers_step s ev w in
    let rest = run_free (after_event s ev) (works-on s ev w) events in
    record {
      hundred =
          rest.hundred
          ∙ ap (λ (x : ℕ). (x + ticks_in events) % 100) one.hundred
          ∙ turns-on 99 (ticks_of ev) s.board.clocks.hundred (ticks_in events) w.working.machine.clocks.hundred;
      thousand =
          rest.thousand
          ∙ ap (λ (x : ℕ). (x + ticks_in events) % 1000) one.thousand
          ∙ turns-on 999 (ticks_of ev) s.board.clocks.thousand (ticks_in events) w.working.machine.clocks.thousand;
    }

-- ---- one tick more
module _ (s : State) (w : Works s) where
  abbrev counting : ℕ
  counting = s.board.registers.counting

  opened : Opened s.board s.memory s.eeprom
  opened =
      record {
        long = rw (eq-eqb (length s.memory) 512 w.working.fifo.long, eq-eqb (length s.eeprom) 128 w.long);
        working = board-to s.board s.memory w.working;
      }

  ticked-to : (after_event s Tick).board ≡ ticked_board s.board
  ticked-to = ap (λ (o : Outcome). o.board) (sym (tick-step s.board s.memory s.eeprom opened).value)

  pub counter_1 : (after_event s Tick).board.clocks.timer.counter1
      ≡ pulsed_if (clock1 counting (next_tick s.board.clocks.hundred 99)) s.board.clocks.timer.counter1 (gates s.board).gate12
  unfolding clocks_ticked
  counter_1 = ap (λ (b : Board). b.clocks.timer.counter1) ticked-to

  pub counter_0 : (after_event s Tick).board.clocks.timer.counter0
      ≡ pulsed_if (clock0 counting (next_tick s.board.clocks.thousand 999)) s.board.clocks.timer.counter0 (gates s.board).gate0
  unfolding clocks_ticked
  counter_0 = ap (λ (b : Board). b.clocks.timer.counter0) ticked-to

-- a divider that has come to n after that many ticks stands, one tick on, at what is left of n + 1
pub next_100 : (h n : ℕ) → h ≡ n % 100 → next_tick h 99 ≡ (n + 1) % 100
next_100 h n e =
    let l : h ≤ 99 = omega arith in
    omega (arith, e, turns 99 h l 0, stands 99 (next_tick h 99) (next_in_range h 99))

pub next_1000 : (h n : ℕ) → h ≡ n % 1000 → next_tick h 999 ≡ (n + 1) % 1000
next_1000 h n e =
    let l : h ≤ 999 = omega arith in
    omega (arith, e, turns 999 h l 0, stands 999 (next_tick h 999) (next_in_range h 999))

-- ---- ticks alone
pub ticks_in_lem : (n : ℕ) → ticks_in (replicate n Tick) ≡ n
ticks_in_lem zero = refl
ticks_in_lem (suc n) = let h = ticks_in_lem n in omega arith
