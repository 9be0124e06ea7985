-- Mode 2 over any number of CLK pulses. Data sheet (manual, chapter 19), "Mode 2: Rate Generator". What is said holds of every counter that is programmed in
-- mode 2, with any count, flags and bytes but for what is named. A working counter has no 1 to load; a count of bytes is a number of 16 bits (SignalLaws,
-- whole_word).
use Rattle.std.specs.Prelude.{◌≡◌, ℕ, suc, ◌+◌, ◌%◌, ◌<◌, Bool, true, false, not, ◌||◌, [], ◌∷◌, ◌==◌, ◌≢◌, refl, Some}
use Rattle.std.proofs.Common.{sym, ap, ◌∙◌}
use Rattle.base.specs.Flags.{on}
use Rattle.counter_modes.specs.Control.{command, setup_of}
use Rattle.counter_modes.specs.declared.ControlCommand.TheVariants.{Program}
use Rattle.counter_modes.specs.declared.Mode.TheVariants.{RateGenerator}
use Rattle.counter_modes.specs.declared.Format.{Format}
use Rattle.counter_element.specs.Element.{pulse_loads, pulse_counts}
use Rattle.counter_element.specs.declared.Count.{Count}
use Rattle.counter_bytes.specs.Bytes.{piece_of}
use Rattle.counter_bytes.specs.declared.Piece.TheVariants.{Whole}
use Rattle.counter_one.specs.Counter.{commanded, pulsed, gate_moved, byte_written}
use Rattle.counter_one.specs.Kept.{setup_programmed}
use Rattle.counter_one.specs.Pulsed.{control-gated, register-gated}
use Rattle.counter_one.specs.Working.{WorkingCounter}
use Rattle.counter_one.specs.declared.Counter.{Counter}
use Rattle.counter_pulses.specs.Pulses.{pulses}
use Rattle.counter_pulses.specs.Faces.{settled}
use Rattle.counter_pulses.specs.Signals.{initial_count}
use Rattle.counter_pulses.specs.SignalLaws.{control-pulses, commanded-anew}
use Rattle.counter_pulses.specs.ModeTwoLaws.{out-every_nth, out-triggered, loaded-gated, raised, rests-long, written, count-written}
use Rattle.counter_pulses.specs.NewCountLaws.{pulsed-low_at_one, same-period, next-period}

-- OUT of a count n in the CLK pulse p, the first being the one that loads: low in the Nth and in every Nth after it, for one CLK pulse each. "When the initial
-- count has decremented to 1, OUT goes low for one CLK pulse. OUT then goes high again, the Counter reloads the initial count and the process is repeated. ...
-- For an initial count of N, the sequence repeats every N CLK cycles".
abbrev pub rate_out : ℕ → ℕ → Bool
rate_out n p = not (p % initial_count n == 0)

-- count 3: H H L H H L, case 9 of the specification's "Marked for proof"
pub rate_of_3 : rate_out 3 1 ∷ rate_out 3 2 ∷ rate_out 3 3 ∷ rate_out 3 4 ∷ rate_out 3 5 ∷ rate_out 3 6 ∷ [] ≡ true ∷ true ∷ false ∷ true ∷ true ∷ false ∷ []
rate_of_3 = refl

-- a control word programs the counter, and no count is loaded since: what `out-from_count` asks for
pub ready_for_count : (k : Counter) (w : ℕ) {f : Format} → command w ≡ Program f RateGenerator
    → (setup_of (commanded k w).control ≡ Some (f, RateGenerator)) × (on (commanded k w).count.loaded ≡ false)
ready_for_count k w {f} e =
    let c = commanded-anew k w e in
    (ap (λ (d : Counter). setup_of d.control) c ∙ setup_programmed w f RateGenerator e, ap (λ (d : Counter). on d.count.loaded) c)

module _ (k : Counter) {f : Format} (at : setup_of k.control ≡ Some (f, RateGenerator)) where
  -- wherever the next CLK pulse loads: after a first count, or after a trigger, as the next two say
  pub out-from_load : pulse_loads RateGenerator (on k.trigger) k.count ≡ true → k.count.register < 65536 → (k.count.register ≢ 1) → (p : ℕ)
      → on (pulses (suc p) k true).count.out ≡ rate_out k.count.register (suc p)
  out-from_load = out-every_nth k at

  -- "After writing a Control Word and initial count, the Counter will be loaded on the next CLK pulse. OUT goes low N CLK pulses after the initial count is
  -- written": the byte b makes the first count whole, none being loaded since the control word.
  pub out-from_count : on k.count.loaded ≡ false → (b n : ℕ) → piece_of f k.bus b ≡ Whole n → n < 65536 → (n ≢ 1) → (p : ℕ)
      → on (pulses (suc p) (byte_written k b) true).count.out ≡ rate_out n (suc p)
  out-from_count e b n q l o p =
      ap (λ (c : Counter). on (pulses (suc p) c true).count.out) (count-written k at b n q o) ∙ out-every_nth (written k at n) at (rw e) l o p

  -- "A trigger reloads the Counter with the initial count on the next CLK pulse; OUT goes low N CLK pulses after the trigger", wherever a count was loaded
  -- before.
  pub out-from_trigger : WorkingCounter k → on k.count.loaded ≡ true → k.count.register < 65536 → (p : ℕ)
      → on (pulses (suc p) (gate_moved k false true) true).count.out ≡ rate_out k.count.register (suc p)
  out-from_trigger w e l = out-triggered k at e l ((rw at at w.facts).1 refl)

  -- "GATE = 0 disables counting. If GATE goes low during an output pulse, OUT is set high immediately", and it is high as long as GATE is low
  pub out-gate_low : (q : ℕ) → on (pulses q (gate_moved k true false) false).count.out ≡ true
  out-gate_low q =
      rests-long (λ (c : Count). on c.out ≡ true) (λ d h. refl) q (gate_moved k true false) (ap setup_of (control-gated k true false) ∙ at) (raised k at)

  -- "Thus the GATE input can be used to synchronize the Counter": GATE goes low for q CLK pulses, then high.
  pub out-gate_again : WorkingCounter k → on k.count.loaded ≡ true → k.count.register < 65536 → (q p : ℕ)
      → on (pulses (suc p) (gate_moved (pulses q (gate_moved k true false) false) false true) true).count.out ≡ rate_out k.count.register (suc p)
  out-gate_again w e l q p =
      let d = gate_moved k true false in
      let i : setup_of d.control ≡ Some (f, RateGenerator) = ap setup_of (control-gated k true false) ∙ at in
      let r : (pulses q d false).count.register ≡ k.count.register =
      rests-long (λ (c : Count). c.register ≡ k.count.register) (λ c h. h) q d i (register-gated k true false) in
      let o : on (pulses q d false).count.loaded ≡ true =
      rests-long (λ (c : Count). on c.loaded ≡ true) (λ c h. refl) q d i (ap on (loaded-gated k at true false) ∙ e) in
      out-triggered (pulses q d false) (ap setup_of (control-pulses q d false) ∙ i) o (rw r l) (λ h. (rw at at w.facts).1 refl (sym r ∙ h)) p
      ∙ ap (λ (x : ℕ). rate_out x (suc p)) r

  -- "When the initial count has decremented to 1, OUT goes low": a CLK pulse that loads or counts leaves OUT low exactly where it leaves the count at 1
  pub low-at_one : WorkingCounter k → (g : Bool)
      → pulse_loads RateGenerator (on k.trigger) k.count || pulse_counts RateGenerator g (on k.bus.halfwritten) k.count ≡ true
      → on (pulsed k g).count.out ≡ not ((pulsed k g).count.element == 1)
  low-at_one w = pulsed-low_at_one k at ((rw at at w.facts).1 refl)

  -- "Writing a new count while counting does not affect the current counting sequence": OUT goes on as without it to the end of the period, and the Counter is
  -- then loaded with the new count n. In a period no trigger and no count waits, and OUT is low exactly where the count is 1, as `low-at_one` says of each
  -- pulse.
  pub new_count_waits : WorkingCounter k → settled k ≡ true → on k.count.loaded ≡ true → on k.count.out ≡ not (k.count.element == 1)
      → k.count.element < 65536
      → (b n : ℕ) → piece_of f k.bus b ≡ Whole n → n < 65536 → (n ≢ 1)
      → ((p : ℕ) → p < initial_count k.count.element → on (pulses p (byte_written k b) true).count.out ≡ on (pulses p k true).count.out)
      × ((p : ℕ) → on (pulses (initial_count k.count.element + p) (byte_written k b) true).count.out ≡ rate_out n (suc p))
  new_count_waits w s e o v b n q l i =
      let c = count-written k at b n q i in (
        λ p h. ap (λ (x : Counter). on (pulses p x true).count.out) c ∙ same-period k at w s e o v n p h,
        λ p. ap (λ (x : Counter). on (pulses (initial_count k.count.element + p) x true).count.out) c ∙ next-period k at w s e o v n l i p,
      )

  -- "If a trigger is received after writing a new count but before the end of the current period, the Counter will be loaded with the new count on the next CLK
  -- pulse"
  pub new_count_triggered : on k.count.loaded ≡ true → (b n : ℕ) → piece_of f k.bus b ≡ Whole n → n < 65536 → (n ≢ 1) → (p : ℕ)
      → on (pulses (suc p) (gate_moved (byte_written k b) false true) true).count.out ≡ rate_out n (suc p)
  new_count_triggered e b n q l o p =
      ap (λ (c : Counter). on (pulses (suc p) (gate_moved c false true) true).count.out) (count-written k at b n q o)
      ∙ out-triggered (written k at n) at e l o p
