-- Theorems that rest on theorems of specs/Dividers.antt, and promise as those do. What specs/Dividers.antt says of itself:
-- The dividers and the clocks that they make, from power-up on (manual, Base+10 and 17.1). The specification, "Conversions, edges and requests": "The Base+10
-- page gives FREQ12 and FREQ0; the 100 kHz and 10 kHz dividers run free from power-up and clock on every 100th and 1,000th tick."
use Rattle.std.specs.Prelude.{ℕ, ◌+◌, ◌%◌, ◌≡◌, Bool, not, ◌||◌, List, replicate, eqb, if◌then◌else◌}
use Rattle.std.proofs.Common.{ap, ◌∙◌}
use Rattle.base.specs.Fields.{bit}
use Rattle.counter_one.specs.Counter.{pulsed}
use Rattle.machine_clock.specs.Clock.{gates}
use Rattle.machine_tick.specs.Tick.{clock1}
use Rattle.machine_tick.specs.InPlace.{pulsed_if}
use Rattle.machine_record.specs.declared.Jumpers.{Jumpers}
use Rattle.board_step.specs.States.{after_event}
use Rattle.board_laws.specs.Stretches.{ticks_in}
use Rattle.board_laws.specs.DividerLaws.{counter_1, next_100, ticks_in_lem}
use Rattle.board_events.specs.declared.Event.{Event}
use Rattle.board_events.specs.declared.Event.TheVariants.{Tick}
use Rattle.board_laws.specs.Dividers.{hundred-runs, now, now-works, thousand-runs, ticked}

-- any jumpers, and any row of events since power-up: accesses, pins, resets, refused ones; the ticks among them count
module _ (j : Jumpers) (zeroscale : Bool) (events : List Event) where
  -- ---- "and clock on every 100th and 1,000th tick": the tick that comes next brings counter 1 a CLK pulse, always (10 MHz) or, with FREQ12 (bit 7 of
  -- Base+10), exactly where it is a 100th (100 kHz)
  pub every_100th : (after_event (now j zeroscale events) Tick).board.clocks.timer.counter1
      ≡ (if not (bit (now j zeroscale events).board.registers.counting 7) || eqb ((ticks_in events + 1) % 100) 0
      then pulsed (now j zeroscale events).board.clocks.timer.counter1 (gates (now j zeroscale events).board).gate12
      else (now j zeroscale events).board.clocks.timer.counter1)
  every_100th =
      counter_1 (now j zeroscale events) (now-works j zeroscale events)
      ∙ ap (λ (h : ℕ). pulsed_if (clock1 (now j zeroscale events).board.registers.counting h) (now j zeroscale events).board.clocks.timer.counter1
      (gates (now j zeroscale events).board).gate12)
      (next_100 (now j zeroscale events).board.clocks.hundred (ticks_in events) (hundred-runs j zeroscale events))

-- ---- n ticks and nothing else
module _ (j : Jumpers) (zeroscale : Bool) (n : ℕ) where
  pub after-n_ticks : ((ticked j zeroscale n).board.clocks.hundred ≡ n % 100) × ((ticked j zeroscale n).board.clocks.thousand ≡ n % 1000)
  after-n_ticks = (
    hundred-runs j zeroscale (replicate n Tick) ∙ ap (λ (k : ℕ). k % 100) (ticks_in_lem n),
    thousand-runs j zeroscale (replicate n Tick) ∙ ap (λ (k : ℕ). k % 1000) (ticks_in_lem n),
  )
