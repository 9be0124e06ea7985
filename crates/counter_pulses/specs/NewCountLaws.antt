-- What the theorems of ModeTwo on a count that is written while another runs rest on: a counter in mode 2 that is in a period, with OUT low where its count is
-- 1.
use Rattle.std.specs.Prelude.{◌≡◌, ℕ, suc, ◌+◌, ◌%◌, ◌<◌, ◌≤◌, Bool, true, false, not, ◌||◌, ◌==◌, ◌≢◌, refl, if◌then◌else◌, Some}
use Rattle.std.proofs.Common.{arith, sym, ap, ◌∙◌, eqb-true, eq-eqb, ne_eqb}
use Rattle.std.proofs.Math.Bool.{and-true}
use Rattle.std.proofs.lemmas.Bool.{eqb-false}
use Rattle.base.specs.Flags.{on, flag, on-flag, flag-on}
use Rattle.base.specs.Laws.{by_choice, never}
use Rattle.counter_modes.specs.Control.{setup_of}
use Rattle.counter_modes.specs.declared.Mode.TheVariants.{RateGenerator}
use Rattle.counter_modes.specs.declared.Format.{Format}
use Rattle.counter_element.specs.Element.{down, load, counted_by, pulse_loads, pulse_counts, pulse_taken}
use Rattle.counter_element.specs.declared.Count.{Count}
use Rattle.counter_one.specs.Counter.{pulsed}
use Rattle.counter_one.specs.Working.{WorkingCounter}
use Rattle.counter_one.specs.declared.Counter.{Counter}
use Rattle.counter_pulses.specs.Pulses.{pulses, clear}
use Rattle.counter_pulses.specs.Periods.{pulses_add, reloads-now, as_counts}
use Rattle.counter_pulses.specs.Faces.{settled, calm}
use Rattle.counter_pulses.specs.Signals.{initial_count}
use Rattle.counter_pulses.specs.SignalLaws.{initial_down}
use Rattle.counter_pulses.specs.ModeTwoLaws.{half_no_matter, at-element, out_within, loads-anew, out_periodic, written}

-- ---- a pulse that loads or counts
taken-low_at_one : (c : Count) (g t half : Bool) → (c.register ≢ 1) → pulse_loads RateGenerator t c || pulse_counts RateGenerator g half c ≡ true
    → on (pulse_taken RateGenerator g t half c).out ≡ not ((pulse_taken RateGenerator g t half c).element == 1)
unfolding counted_by
taken-low_at_one c g t half o h = by (pulse_loads RateGenerator t c) (pulse_counts RateGenerator g half c) h
  where
    Low : Count → Type 0
    Low d = on d.out ≡ not (d.element == 1)

    by : (a b : Bool) → a || b ≡ true → Low (if a then load c true else if b then counted_by RateGenerator c else c)
    by true b h = rw (ne_eqb c.register 1 o)
    by false true h = by_choice Low (c.element == 1) (rw (ne_eqb c.register 1 o)) (on-flag (not (down c.element == 1)))
    by false false h = never h

module _ (k : Counter) {f : Format} (at : setup_of k.control ≡ Some (f, RateGenerator)) where
  pub pulsed-low_at_one : (k.count.register ≢ 1) → (g : Bool)
      → pulse_loads RateGenerator (on k.trigger) k.count || pulse_counts RateGenerator g (on k.bus.halfwritten) k.count ≡ true
      → on (pulsed k g).count.out ≡ not ((pulsed k g).count.element == 1)
  unfolding pulsed
  pulsed-low_at_one o g h = rw at (taken-low_at_one k.count g (on k.trigger) (on k.bus.halfwritten) o h)

  -- ---- a counter in a period, with OUT low where its count is 1
  abbrev pub InPeriod : Type 0
  InPeriod = (k.trigger ≡ 0) × (k.count.waiting ≡ 0) × (k.count.out ≡ flag (not (k.count.element == 1))) × (k.count.loaded ≡ 1)

  pub out-cycles : InPeriod → k.count.element < 65536 → (p : ℕ) → p ≤ down k.count.element
      → on (pulses p k true).count.out ≡ not (p == down k.count.element)
  out-cycles c b p l = by k.count.element b l refl (k.count.element == 1) refl
    where
      by : (v : ℕ) → v < 65536 → p ≤ down v → k.count.element ≡ v → (x : Bool) → (k.count.element == 1) ≡ x
          → on (pulses p k true).count.out ≡ not (p == down v)
      by v b l h true e =
          let z = eqb-true k.count.element 1 e in
          let y : p ≡ 0 = omega arith in
          ap (λ (x : ℕ). on (pulses x k true).count.out) y ∙ ap on (c.2 ∙ ap (λ (x : Bool). flag (not x)) e) ∙ sym (ap not (eq-eqb p (down v) (omega arith)))
      by v b l h false e =
          let z : k.count.element ≡ 1 → ⊥ = eqb-false k.count.element 1 e in
          let o : k.count.out ≡ 1 = c.2 ∙ ap (λ (x : Bool). flag (not x)) e in
          ap (λ (d : Counter). on (pulses p d true).count.out) (as_counts k c.0 c.1 o c.3 ∙ ap (λ (x : ℕ). at-element k at x 1) h)
          ∙ out_within k at v p (omega arith) l

  pub end_of_cycle : InPeriod → k.count.element < 65536 → pulses (down k.count.element + 1) k true ≡ at-element k at k.count.register 1
  end_of_cycle c b = by (k.count.element == 1) refl
    where
      by : (x : Bool) → (k.count.element == 1) ≡ x → pulses (down k.count.element + 1) k true ≡ at-element k at k.count.register 1
      by true e =
          let z = eqb-true k.count.element 1 e in
          let y : down k.count.element + 1 ≡ 1 = omega arith in
          let o : k.count.out ≡ 0 = c.2 ∙ ap (λ (x : Bool). flag (not x)) e in
          ap (λ (x : ℕ). pulses x k true) y
          ∙ ap (λ (d : Counter). pulses 1 d true) (as_counts k c.0 c.1 o c.3 ∙ ap (λ (x : ℕ). at-element k at x 0) z)
          ∙ (reloads-now k true at (half_no_matter k at)).to
      by false e =
          let z : k.count.element ≡ 1 → ⊥ = eqb-false k.count.element 1 e in
          let o : k.count.out ≡ 1 = c.2 ∙ ap (λ (x : Bool). flag (not x)) e in
          ap (λ (d : Counter). pulses (down k.count.element + 1) d true) (as_counts k c.0 c.1 o c.3)
          ∙ loads-anew k at k.count.element (omega arith)

-- ---- a counter in a period, before and after a new count is written
module _ (k : Counter) {f : Format} (at : setup_of k.control ≡ Some (f, RateGenerator)) (w : WorkingCounter k) (s : settled k ≡ true)
    (e : on k.count.loaded ≡ true) (o : on k.count.out ≡ not (k.count.element == 1)) (v : k.count.element < 65536) where
  no_trigger : k.trigger ≡ 0
  no_trigger = clear k.trigger w.flags.trigger (calm (on k.trigger) (on k.count.waiting) s).0

  cycles-before : InPeriod k at
  cycles-before = (
    no_trigger,
    clear k.count.waiting w.flags.count.waiting (calm (on k.trigger) (on k.count.waiting) s).1,
    sym (flag-on k.count.out w.flags.count.out) ∙ ap flag o,
    eqb-true k.count.loaded 1 e,
  )

  cycles-since : (n : ℕ) → InPeriod (written k at n) at
  cycles-since n = (no_trigger, ap (λ (x : Bool). flag (not x)) e, ap flag (and-true (on k.count.out) ∙ o), eqb-true k.count.loaded 1 e)

  pub same-period : (n p : ℕ) → p < initial_count k.count.element → on (pulses p (written k at n) true).count.out ≡ on (pulses p k true).count.out
  same-period n p h =
      let d = initial_down k.count.element v in
      let l : p ≤ down k.count.element = omega arith in
      out-cycles (written k at n) at (cycles-since n) v p l ∙ sym (out-cycles k at cycles-before v p l)

  pub next-period : (n : ℕ) → n < 65536 → (n ≢ 1) → (p : ℕ)
      → on (pulses (initial_count k.count.element + p) (written k at n) true).count.out ≡ not (suc p % initial_count n == 0)
  next-period n l i p =
      let c = written k at n in
      let d : initial_count k.count.element ≡ down k.count.element + 1 = omega (arith, initial_down k.count.element v) in
      ap (λ (x : ℕ). on (pulses (x + p) c true).count.out) d
      ∙ ap (λ (x : Counter). on x.count.out)
      (pulses_add true (down k.count.element + 1) p c ∙ ap (λ (x : Counter). pulses p x true) (end_of_cycle c at (cycles-since n) v))
      ∙ out_periodic c at p l (omega arith)
      ∙ ap (λ (x : ℕ). not (suc p % x == 0)) (sym (initial_down n l))
