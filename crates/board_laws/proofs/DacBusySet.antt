-- Theorems that rest on theorems of specs/DacBusy.antt, and promise as those do. What specs/DacBusy.antt says of itself:
-- DACBUSY over whole stretches of events (manual, 14.4 to 14.6, and Base+4 read; the specification, "Registers", 5 and 8, and refusal 6). After a write of 5
-- that is taken DACBUSY is 1 as long as fewer than 100 ticks have come, so still after the 99th and no longer after the 100th, whatever else happens meanwhile
-- but a reset, which "ends DACBUSY and drops its load".
use Rattle.std.specs.Prelude.{ℕ, ◌<◌, ◌≡◌, true, List}
use Rattle.std.proofs.Common.{◌∙◌, arith, lt-ltb}
use Rattle.base.specs.Fields.{bit}
use Rattle.board_step.specs.States.{State, refusal_at, answer_at}
use Rattle.board_laws.specs.Stretches.{after_events, ticks_in, NoReset}
use Rattle.board_laws.specs.StretchSteps.{stretch-works}
use Rattle.board_laws.specs.BusyLaws.{busy-refuses}
use Rattle.board_events.specs.Answers.{value_read}
use Rattle.board_events.specs.declared.Event.{Event}
use Rattle.board_events.specs.declared.Event.TheVariants.{WriteByte, ReadByte}
use Rattle.board_laws.specs.DacBusy.{loaded, loaded-works, no_load-before, ticks_left}
use Rattle.board_laws.proofs.DacBusy.{dacbusy_for_100_ticks}

-- ---- a write of 5 that is taken; then any row of events without a reset
module _ (s : State) (v : ℕ) (taken : refusal_at s (WriteByte 5 v) ≡ 0) (events : List Event) (calm : NoReset events) where
  pub set-before_the_100th : ticks_in events < 100 → bit (value_read (answer_at (after_events (loaded s v taken events calm) events) (ReadByte 4))) 7 ≡ true
  set-before_the_100th h = dacbusy_for_100_ticks s v taken events calm (no_load-before s v taken events calm h) ∙ lt-ltb (ticks_in events) 100 h

  -- each of them is refused by 6
  pub refused-by_6 : (w : ℕ) → ticks_in events < 100 → refusal_at (after_events (loaded s v taken events calm) events) (WriteByte 5 w) ≡ 6
  refused-by_6 w h =
      busy-refuses (after_events (loaded s v taken events calm) events) w
      (stretch-works (loaded s v taken events calm) (loaded-works s v taken events calm) events)
      (omega (arith, h, ticks_left s v taken events calm (no_load-before s v taken events calm h)))
