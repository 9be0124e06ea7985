-- Theorems that rest on theorems of specs/DacBusy.antt, and promise as those do. What specs/DacBusy.antt says of itself:
-- DACBUSY over whole stretches of events (manual, 14.4 to 14.6, and Base+4 read; the specification, "Registers", 5 and 8, and refusal 6). After a write of 5
-- that is taken DACBUSY is 1 as long as fewer than 100 ticks have come, so still after the 99th and no longer after the 100th, whatever else happens meanwhile
-- but a reset, which "ends DACBUSY and drops its load".
use Rattle.std.specs.Prelude.{ℕ, ◌≡◌, List, ltb}
use Rattle.std.proofs.Common.{◌∙◌}
use Rattle.base.specs.Fields.{bit}
use Rattle.board_step.specs.States.{State, refusal_at, answer_at}
use Rattle.board_laws.specs.Stretches.{after_events, ticks_in, NoReset, NoLoad}
use Rattle.board_laws.specs.StretchSteps.{stretch-works}
use Rattle.board_laws.specs.BusyLaws.{left_of_100, shown-at_4}
use Rattle.board_events.specs.Answers.{value_read}
use Rattle.board_events.specs.declared.Event.{Event}
use Rattle.board_events.specs.declared.Event.TheVariants.{WriteByte, ReadByte}
use Rattle.board_laws.specs.DacBusy.{loaded, loaded-works, ticks_left}

-- ---- a write of 5 that is taken; then any row of events without a reset
module _ (s : State) (v : ℕ) (taken : refusal_at s (WriteByte 5 v) ≡ 0) (events : List Event) (calm : NoReset events) where
  -- DACBUSY, bit 7 of Base+4 read, is 1 exactly as long as fewer than 100 ticks have come
  pub dacbusy_for_100_ticks : NoLoad (loaded s v taken events calm) events
      → bit (value_read (answer_at (after_events (loaded s v taken events calm) events) (ReadByte 4))) 7 ≡ ltb (ticks_in events) 100
  dacbusy_for_100_ticks l =
      shown-at_4 (after_events (loaded s v taken events calm) events) (stretch-works (loaded s v taken events calm) (loaded-works s v taken events calm) events)
      ∙ left_of_100 _ (ticks_in events) (ticks_left s v taken events calm l)
