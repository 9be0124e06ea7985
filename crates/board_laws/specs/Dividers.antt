-- The dividers and the clocks that they make, from power-up on (manual, Base+10 and 17.1). The specification, "Conversions, edges and requests": "The Base+10
-- page gives FREQ12 and FREQ0; the 100 kHz and 10 kHz dividers run free from power-up and clock on every 100th and 1,000th tick."
use Rattle.std.specs.Prelude.{ℕ, ◌+◌, ◌%◌, ◌≡◌, Bool, not, ◌&&◌, ◌||◌, List, replicate, eqb, if◌then◌else◌}
use Rattle.std.proofs.Common.{ap, ◌∙◌, zero-add}
use Rattle.base.specs.Fields.{bit}
use Rattle.counter_one.specs.Counter.{pulsed}
use Rattle.machine_clock.specs.Clock.{gates}
use Rattle.machine_tick.specs.Tick.{clock0}
use Rattle.machine_tick.specs.InPlace.{pulsed_if}
use Rattle.machine_record.specs.declared.Jumpers.{Jumpers}
use Rattle.board_step.specs.States.{State, Works, after_event}
use Rattle.board_laws.specs.Stretches.{after_events, ticks_in, fresh_state}
use Rattle.board_laws.specs.StretchSteps.{stretch-works, fresh-state_works}
use Rattle.board_laws.specs.DividerLaws.{run_free, counter_0, next_1000}
use Rattle.board_events.specs.declared.Event.{Event}
use Rattle.board_events.specs.declared.Event.TheVariants.{Tick}

-- any jumpers, and any row of events since power-up: accesses, pins, resets, refused ones; the ticks among them count
module _ (j : Jumpers) (zeroscale : Bool) (events : List Event) where
  abbrev pub now : State
  now = after_events (fresh_state j zeroscale) events

  pub now-works : Works now
  now-works = stretch-works (fresh_state j zeroscale) (fresh-state_works j zeroscale) events

  -- ---- "run free from power-up"
  pub hundred-runs : now.board.clocks.hundred ≡ ticks_in events % 100
  hundred-runs = (run_free (fresh_state j zeroscale) (fresh-state_works j zeroscale) events).hundred ∙ ap (λ (n : ℕ). n % 100) (zero-add (ticks_in events))

  pub thousand-runs : now.board.clocks.thousand ≡ ticks_in events % 1000
  thousand-runs = (run_free (fresh_state j zeroscale) (fresh-state_works j zeroscale) events).thousand ∙ ap (λ (n : ℕ). n % 1000) (zero-add (ticks_in events))

  -- and counter 0, unless SRC0 (bit 1) gives it DIN0, always (10 MHz) or, with FREQ0 (bit 6), exactly where it is a 1,000th (10 kHz)
  pub every_1000th : (after_event now Tick).board.clocks.timer.counter0
      ≡ (if not (bit now.board.registers.counting 1) && (not (bit now.board.registers.counting 6) || eqb ((ticks_in events + 1) % 1000) 0)
      then pulsed now.board.clocks.timer.counter0 (gates now.board).gate0
      else now.board.clocks.timer.counter0)
  every_1000th =
      counter_0 now now-works
      ∙ ap (λ (h : ℕ). pulsed_if (clock0 now.board.registers.counting h) now.board.clocks.timer.counter0 (gates now.board).gate0)
      (next_1000 now.board.clocks.thousand (ticks_in events) thousand-runs)

-- ---- n ticks and nothing else
module _ (j : Jumpers) (zeroscale : Bool) (n : ℕ) where
  abbrev pub ticked : State
  ticked = after_events (fresh_state j zeroscale) (replicate n Tick)
