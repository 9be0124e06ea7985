-- DACBUSY over whole stretches of events (manual, 14.4 to 14.6, and Base+4 read; the specification, "Registers", 5 and 8, and refusal 6). After a write of 5
-- that is taken DACBUSY is 1 as long as fewer than 100 ticks have come, so still after the 99th and no longer after the 100th, whatever else happens meanwhile
-- but a reset, which "ends DACBUSY and drops its load".
use Rattle.std.specs.Prelude.{ℕ, ◌-◌, ◌<◌, ◌≡◌, List}
use Rattle.std.proofs.Common.{arith}
use Rattle.board_step.specs.States.{State, Works, refusal_at, after_event}
use Rattle.board_laws.specs.Stretches.{after_events, ticks_in, NoReset, NoLoad}
use Rattle.board_laws.specs.StretchSteps.{taken-works, works-on}
use Rattle.board_laws.specs.BusyLaws.{load-busy, free-takes, busy-left, held-off}
use Rattle.board_events.specs.declared.Event.{Event}
use Rattle.board_events.specs.declared.Event.TheVariants.{WriteByte}

-- a working board, with memories of the right lengths, takes a write of 5 while DACBUSY is 0
pub taken_when_free : (s : State) (v : ℕ) → Works s → s.board.outputs.busy ≡ 0 → refusal_at s (WriteByte 5 v) ≡ 0
taken_when_free s v w h = free-takes s v w h

-- ---- a write of 5 that is taken; then any row of events without a reset
module _ (s : State) (v : ℕ) (taken : refusal_at s (WriteByte 5 v) ≡ 0) (events : List Event) (calm : NoReset events) where
  abbrev pub loaded : State
  loaded = after_event s (WriteByte 5 v)

  pub loaded-works : Works loaded
  loaded-works = works-on s (WriteByte 5 v) (taken-works s (WriteByte 5 v) taken)

  -- "5 write: loads the output channel, DACBUSY for 100 ticks": each tick takes one of them off, and nothing else does; the row has no further load
  pub ticks_left : NoLoad loaded events → (after_events loaded events).board.outputs.busy ≡ 100 - ticks_in events
  ticks_left l = omega (arith, load-busy s v taken, busy-left loaded loaded-works events calm l)

  -- "6: write to 4 or 5 while DACBUSY": with fewer than 100 ticks the row may hold any writes of 5, for none of them is taken, so DACBUSY is 1 whatever it
  -- holds
  pub no_load-before : ticks_in events < 100 → NoLoad loaded events
  no_load-before h = held-off loaded loaded-works events calm (omega (arith, h, load-busy s v taken))
