-- The ways out of a tick, over plain values: the counters that have a pulse, each put in its place. Assumes nothing.
use Prim.Native.Nat.{ℕ}
use mathlib.Core.Path.{◌≡◌, refl, sym, ap, ◌∙◌}
use mathlib.Core.Bool.{Bool, true, false, ◌&&◌}
use mathlib.Core.List.{List}
use Rattle.base.specs.Flags.{on}
use Rattle.converter.specs.Channels.{triggered, internal_triggered}
use Rattle.converter.specs.declared.channels.Converter.{Converter}
use Rattle.requests.specs.Requests.{asked_timer}
use Rattle.requests.specs.declared.Requests.{Requests}
use Rattle.counter_one.specs.Counter.{pulsed}
use Rattle.counter_one.specs.declared.Counter.{Counter}
use Rattle.counter_one.specs.Falls.{fell, no_fall}
use Rattle.timer.specs.Timer.{out}
use Rattle.timer.specs.declared.Gates.{Gates}
use Rattle.timer.specs.declared.Select.TheVariants.{Counter0, Counter1, Counter2}
use Rattle.outputs.specs.Outputs as outputs
use Rattle.outputs.specs.declared.Outputs.{Outputs}
use Rattle.machine_record.specs.Parts.{with_converter, with_requests, with_clocks, with_outputs}
use Rattle.machine_record.specs.declared.Clocks.{Clocks}
use Rattle.machine_record.specs.declared.Board.{Board}
use Rattle.machine_clock.specs.Clock.{gates}
use Rattle.machine_tick.specs.Tick.{clock0, clock1, next_tick}
use Rattle.machine_tick.specs.InPlace.{pulsed_if, counter0_of, counter1_of, counter2_of, clocks_ticked, no_edge, tick_of}
use Rattle.board_refusal.specs.Refusals.{event_checks}
use Rattle.board_step.specs.Act.{acted, eeprom_acted}
use Rattle.board_step.specs.Step.{ran}
use Rattle.board_step.specs.Ways.{Promised, Opened, laid, done}
use Rattle.board_events.specs.declared.Answer.TheVariants.{Done}
use Rattle.board_events.specs.declared.Event.TheVariants.{Tick}

-- the counters and the dividers after a tick
abbrev counter0 : Board → Counter
counter0 b = counter0_of b.registers.counting (gates b) b.clocks

abbrev counter1 : Board → Counter
counter1 b = counter1_of b.registers.counting (gates b) b.clocks

abbrev counter2 : Board → Counter
counter2 b = counter2_of b.registers.counting (gates b) b.clocks

abbrev hundred_of : Board → ℕ
hundred_of b = next_tick b.clocks.hundred 99

abbrev thousand_of : Board → ℕ
thousand_of b = next_tick b.clocks.thousand 999

-- the request and the trigger
abbrev asked0 : Board → Requests
asked0 b = asked_timer b.requests (fell (out b.clocks.timer Counter0) (on (counter0 b).count.out))

abbrev triggered2 : Board → Converter
triggered2 b = internal_triggered b.converter (on b.requests.clksel) (fell (out b.clocks.timer Counter2) (on (counter2 b).count.out))

-- ---- what the ways bring together: counter 0 with the request, counters 1 and 2 with the trigger
pub record First (b : Board) (k : Counter) (q : Requests) : Type 0 where
  pub counter : k ≡ counter0 b
  pub request : q ≡ asked0 b

pub record Second (b : Board) (k l : Counter) (v : Converter) : Type 0 where
  pub counter1 : k ≡ counter1 b
  pub counter2 : l ≡ counter2 b
  pub trigger : v ≡ triggered2 b

module _ (b : Board) {n : ℕ} {g : Gates} {p : Bool} (gate : g ≡ gates b) where
  pub first : {k : Counter} {f : Bool} {q : Requests} → n ≡ thousand_of b → p ≡ clock0 b.registers.counting n
      → k ≡ pulsed_if p b.clocks.timer.counter0 g.gate0 → f ≡ fell (out b.clocks.timer Counter0) (on k.count.out)
      → q ≡ asked_timer b.requests f
      → First b k q
  first {k} h i k≡ f q = let c : k ≡ counter0 b = k≡ ∙ rw (i, h, gate) in record { counter = c; request = q ∙ rw (f, c) }

  module _ (h : n ≡ hundred_of b) (i : p ≡ clock1 b.registers.counting n) where
    clocks_1 : {t : Bool} → p ≡ t → clock1 b.registers.counting (hundred_of b) ≡ t
    clocks_1 j = ap (clock1 b.registers.counting) (sym h) ∙ sym i ∙ j

    pub unclocked_1 : p ≡ false → Second b b.clocks.timer.counter1 b.clocks.timer.counter2 b.converter
    unclocked_1 j =
        record {
          counter1 = rw (clocks_1 j);
          counter2 = rw (clocks_1 j, no_fall (out b.clocks.timer Counter1));
          trigger =
              sym (no_edge b.converter _ (on b.requests.clksel)
              (rw (clocks_1 j, no_fall (out b.clocks.timer Counter1)) (no_fall (out b.clocks.timer Counter2))));
        }

    module _ (j : p ≡ true) {k : Counter} {f : Bool} (k≡ : k ≡ pulsed b.clocks.timer.counter1 g.gate12)
        (f≡ : f ≡ fell (out b.clocks.timer Counter1) (on k.count.out)) where
      counted : k ≡ counter1 b
      counted = k≡ ∙ rw (gate, clocks_1 j)

      fallen : {t : Bool} → f ≡ t → fell (out b.clocks.timer Counter1) (on (counter1 b).count.out) ≡ t
      fallen t = ap (λ (x : Counter). fell (out b.clocks.timer Counter1) (on x.count.out)) (sym counted) ∙ sym f≡ ∙ t

      pub stays_1 : f ≡ false → Second b k b.clocks.timer.counter2 b.converter
      stays_1 t =
          record {
            counter1 = counted;
            counter2 = rw (fallen t);
            trigger = sym (no_edge b.converter _ (on b.requests.clksel) (rw (fallen t) (no_fall (out b.clocks.timer Counter2))));
          }

      pub falls_1 : {l : Counter} {u : Bool} {v : Converter} → f ≡ true → l ≡ pulsed b.clocks.timer.counter2 g.gate12
          → u ≡ fell (out b.clocks.timer Counter2) (on l.count.out)
          → v ≡ triggered b.converter (on b.converter.clken && on b.requests.clksel && u)
          → Second b k l v
      falls_1 {l} {u = u} t l≡ u≡ v =
          let c : l ≡ counter2 b = l≡ ∙ rw (gate, fallen t) in
          record { counter1 = counted; counter2 = c; trigger = v ∙ rw (u≡, c) }

-- ---- the whole event
pub tick : (b : Board) (m e : List ℕ) {h th : ℕ} {k0 k1 k2 : Counter} {q : Requests} {v : Converter} {w : Outputs} {l : Clocks} → Opened b m e
    → h ≡ hundred_of b → th ≡ thousand_of b → First b k0 q → Second b k1 k2 v → w ≡ outputs.dac_ticked b.outputs
    → l ≡ record { timer = record { counter0 = k0; counter1 = k1; counter2 = k2 }; hundred = h; thousand = th }
    → Promised b m e Tick (record { board = with_converter (with_requests (with_clocks (with_outputs b w) l) q) v; answer = Done }) m e
unfolding event_checks ran acted eeprom_acted clocks_ticked
tick b m e o h th x y w l =
    done b m e Tick o refl
    (record { outcome = rw (l, w, x.counter, x.request, y.counter1, y.counter2, y.trigger, h, th, tick_of b); memory = laid o; eeprom = refl })
