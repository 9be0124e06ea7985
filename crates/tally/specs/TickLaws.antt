-- What a tick counts, and whether the ticks that are done of many begin a conversion: laws for the note of many ticks.
use Rattle.std.specs.Prelude.{◌≡◌, refl, Bool, true, false, not, ◌&&◌, ◌||◌, None}
use Rattle.std.proofs.Math.Path.{sym}
use Rattle.std.proofs.Common.{ap, ◌∙◌}
use mathlib.Core.List.{[]}
use Rattle.base.specs.Flags.{on}
use Rattle.base.specs.Laws.{never}
use Rattle.converter.proofs.Begins.{trigger-runs}
use Rattle.converter.specs.Channels.{internal_trigger}
use Rattle.machine_record.specs.declared.Clocks.{Clocks}
use Rattle.machine_record.specs.declared.Board.{Board}
use Rattle.machine_clock.specs.Clock.{gates}
use Rattle.machine_tick.specs.InPlace.{clocks_ticked, falls2, tick_of}
use Rattle.board_step.specs.Act.{acted}
use Rattle.board_step.specs.News.{rose}
use Rattle.board_step.specs.Ticked.{ticked_board}
use Rattle.board_advance.specs.Strided.{heeds2, begins_in, begins_in-one, fall_last}
use Rattle.board_laws.specs.Begins.{begins, ends, resets}
use Rattle.board_laws.specs.Abandoned.{in_progress_lem, begins-free}
use Rattle.board_events.specs.declared.Event.TheVariants.{Tick}

module _ (b : Board) where
  abbrev after : Clocks
  after = clocks_ticked b.registers.counting (gates b) b.clocks

  abbrev falls : Bool
  falls = falls2 b.clocks after

  abbrev converting : Bool
  converting = on b.converter.converting

  -- whether the tick is a trigger, and begins a conversion by it
  abbrev triggers : Bool
  triggers = internal_trigger b.converter (on b.requests.clksel) falls

  -- ---- one tick: a conversion is in progress after it where one was, or the falling OUT2 begins one
  tick-runs : on (ticked_board b).converter.converting ≡ converting || triggers && not converting
  tick-runs = trigger-runs b.converter triggers

  tick-goes_on : on (ticked_board b).converter.converting ≡ begins b Tick || converting
  unfolding acted ends resets
  tick-goes_on = sym (ap (λ (x : Board). on x.converter.converting) (tick_of b)) ∙ in_progress_lem b None [] Tick

  the_same : (s c t : Bool) → s || c ≡ c || t && not c → (s ≡ true → c ≡ false) → s ≡ t && not c
  the_same true true t e f = never (sym (f refl))
  the_same false true true e f = refl
  the_same false true false e f = refl
  the_same true false t e f = e
  the_same false false t e f = e

  begins-by_trigger : begins b Tick ≡ triggers && not converting
  unfolding ends
  begins-by_trigger = the_same (begins b Tick) converting triggers (sym tick-goes_on ∙ tick-runs) (begins-free b Tick refl)

  pub tick-begins : begins b Tick ≡ heeds2 b && falls
  tick-begins = begins-by_trigger ∙ fall_last (on b.converter.clken) (on b.requests.clksel) converting falls

  -- it begins one exactly where one is in progress after it and none was before
  pub tick-rose : begins b Tick ≡ rose b.converter.converting (ticked_board b).converter.converting
  tick-rose = rw (tick-runs, begins-by_trigger) (by triggers converting)
    where
      by : (t c : Bool) → t && not c ≡ not c && (c || t && not c)
      by true true = refl
      by true false = refl
      by false true = refl
      by false false = refl

  -- and where it begins none, what was in progress stays
  pub tick-stays : rose b.converter.converting (ticked_board b).converter.converting ≡ false → on (ticked_board b).converter.converting ≡ converting
  tick-stays h = rw (tick-goes_on, tick-rose ∙ h)

  -- ---- one tick of many
  pub one-begins : begins_in b 1 ≡ begins b Tick
  one-begins = begins_in-one b ∙ sym tick-begins
