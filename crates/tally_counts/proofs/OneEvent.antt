-- Theorems that rest on theorems of specs/OneEvent.antt, and promise as those do. What specs/OneEvent.antt says of itself:
-- Both sums over one event, with the board before it and after it: laws for the theorems over rows of events.
use Rattle.std.specs.Prelude.{ℕ, ◌+◌, ◌-◌, ◌≡◌, Bool, not, ◌&&◌, ◌||◌, List, [], ltb, if◌then◌else◌, Option}
use Rattle.std.proofs.Math.Path.{refl}
use Rattle.std.proofs.Common.{sym, subst, eqb-true}
use Rattle.std.proofs.Math.Bool.{true, false}
use native.Mathlib.Omega.{arith}
use Rattle.std.proofs.lemmas.Bool.{eqb-false}
use Rattle.std.proofs.Math.Dec.{eqb}
use Rattle.base.specs.Checks.{refusal}
use Rattle.base.specs.Flags.{on, flag, nonzero}
use Rattle.base.specs.Laws.{never, not_not}
use Rattle.base.specs.Unrefused.{passes}
use Rattle.fifo.specs.Samples.{oldest_of}
use Rattle.fifo.specs.Queue.{queue, pushed_to, place_after, popped_from}
use Rattle.fifo.specs.declared.Fifo.{Fifo}
use Rattle.machine_record.specs.declared.Board.{Board}
use Rattle.bus.specs.Effects.{Effect, Take, Keep}
use Rattle.board_refusal.specs.Refusals.{event_checks}
use Rattle.board_step.specs.Passed.{all-passed}
use Rattle.board_step.specs.Step.{fifo_after, ran, ran_from, refused_by, step_of}
use Rattle.board_step.specs.States.{State, refusal_at, after_event}
use Rattle.board_laws.specs.Begins.{begins, ends, resets, abandons}
use Rattle.board_laws.specs.Abandoned.{runs_after, in_progress_lem, begins-free, abandoned}
use Rattle.tally_counts.specs.Counts.{no_counts, reads, loses, empties, clears, counts_of, counts_at, in_progress}
use Rattle.tally_counts.specs.Effects.{empty_if, effect_of, effect_of_lem}
use Rattle.board_events.specs.declared.Event.{Event}
use Rattle.board_events.specs.declared.Event.TheVariants.{WriteByte, ReadByte, ReadWord, ConversionEnd, DinPins, LatchLevel, PortPins, Tick, TransferEnd}
use Rattle.tally_counts.specs.OneEvent.{Added, Adds, held_after, made}

-- ---- the samples, by what an event does to them
taken-held : (f : Fifo) (t : Bool) → f.held ≡ flag (t && nonzero f.held) + (fifo_after (if t then Take else Keep) f).held
unfolding popped_from
taken-held f true = by (eqb f.held 0) refl
  where
    by : (z : Bool) → eqb f.held 0 ≡ z
        → f.held ≡ flag (not z) + (if◌then◌else◌ {A = Fifo} z f (record { held = f.held - 1; place = place_after f; ovf = 0 })).held
    by true h = omega arith
    by false h = omega (arith, eqb-false f.held 0 h)
taken-held f false = omega arith

emptied-held : (f : Fifo) (t : Bool) → f.held ≡ (fifo_after (empty_if t) f).held + (if t then f.held else 0)
emptied-held f true = omega arith
emptied-held f false = omega arith

stored_held : (f : Fifo) → 1 + f.held ≡ (pushed_to f).held + flag (not (ltb f.held 512))
unfolding pushed_to
stored_held f = by (ltb f.held 512)
  where
    by : (t : Bool)
        → 1 + f.held
        ≡ (if◌then◌else◌ {A = Fifo} t (record { held = f.held + 1; place = f.place; ovf = f.ovf })
        (record { held = f.held; place = f.place; ovf = 1 })).held
        + flag (not t)
    by true = omega arith
    by false = omega arith

module _ (b : Board) (o : Option ℕ) (e : List ℕ) where
  by-effect : (ev : Event) → Adds b o e ev (fifo_after (effect_of ev) b.fifo).held
  unfolding ends reads loses clears
  by-effect (WriteByte n v) = omega (arith, emptied-held b.fifo (empties (WriteByte n v)))
  by-effect (ReadByte n) = omega (arith, taken-held b.fifo (eqb n 1))
  by-effect (ReadWord n) = omega (arith, taken-held b.fifo true)
  by-effect (ConversionEnd code) = omega (arith, stored_held b.fifo)
  by-effect (DinPins d) = omega arith
  by-effect (LatchLevel level) = omega arith
  by-effect (PortPins q v) = omega arith
  by-effect Tick = omega arith
  by-effect TransferEnd = omega arith

  samples_add : (ev : Event) → Adds b o e ev (held_after b o e ev)
  samples_add ev = subst (λ (x : Effect). Adds b o e ev (fifo_after x b.fifo).held) (sym (effect_of_lem b o e ev)) (by-effect ev)

-- ---- the conversions
-- an end that is not refused has a conversion in progress
ends-one : (b : Board) (ev : Event) → refusal (event_checks b ev) ≡ 0 → ends ev ≡ true → on b.converter.converting ≡ true
unfolding event_checks ends
ends-one b (WriteByte n v) p h = never h
ends-one b (ReadByte n) p h = never h
ends-one b (ReadWord n) p h = never h
ends-one b (ConversionEnd code) p h = not_not _ (passes (not (on b.converter.converting)) 4 [] (omega arith) p).0
ends-one b (DinPins d) p h = never h
ends-one b (LatchLevel level) p h = never h
ends-one b (PortPins q v) p h = never h
ends-one b Tick p h = never h
ends-one b TransferEnd p h = never h

-- over whether an event begins one (s), ends one (t), resets (u), and one was in progress (c)
balance : (s t u c : Bool) → (t ≡ true → c ≡ true) → (t ≡ false → s ≡ true → c ≡ false)
    → flag s + flag c ≡ flag t + flag (c && not t && not (s || not t && not u && c)) + flag (s || not t && not u && c)
balance s true u true ended free = by s
  where
    by : (s : Bool) → flag s + 1 ≡ 1 + 0 + flag (s || false)
    by true = refl
    by false = refl
balance s true u false ended free = never (ended refl)
balance true false u true ended free = never (sym (free refl refl))
balance true false u false ended free = refl
balance false false true true ended free = refl
balance false false false true ended free = refl
balance false false true false ended free = refl
balance false false false false ended free = refl

conversions_add : (b : Board) (o : Option ℕ) (e : List ℕ) (ev : Event) → refusal (event_checks b ev) ≡ 0
    → flag (begins b ev) + in_progress b ≡ flag (ends ev) + flag (abandons b ev) + flag (runs_after b o e ev)
conversions_add b o e ev p =
    rw (abandoned b o e ev, in_progress_lem b o e ev)
    (balance (begins b ev) (ends ev) (resets ev) (on b.converter.converting) (ends-one b ev p) (begins-free b ev))

-- ---- any event of any board: one that is refused counts nothing and changes nothing
module _ (s : State) (ev : Event) where
  taken_adds : refusal (event_checks s.board ev) ≡ 0 → Added (counts_of s.board ev) s.board (made s ev)
  unfolding counts_of ran
  taken_adds p =
      let oldest = oldest_of (queue s.board.fifo s.memory) in
      record {
        samples = samples_add s.board oldest s.eeprom ev;
        conversions = conversions_add s.board oldest s.eeprom ev p;
      }

  pub event_adds : Added (counts_at s ev) s.board (after_event s ev).board
  unfolding counts_at step_of
  event_adds = by (eqb (refusal_at s ev) 0) refl
    where
      by : (t : Bool) → eqb (refusal_at s ev) 0 ≡ t
          → Added (if t then counts_of s.board ev else no_counts) s.board
          (if t then record { board = made s ev; answer = (ran_from s.board s.memory s.eeprom ev).answer }
          else refused_by s.board (refusal_at s ev)).board
      by true h = taken_adds (all-passed s.board s.memory s.eeprom ev (eqb-true _ _ h)).event
      by false h = record { samples = omega arith; conversions = omega arith }
