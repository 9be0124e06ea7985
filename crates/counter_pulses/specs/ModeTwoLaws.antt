-- What the theorems of ModeTwo rest on: a counter in mode 2 within a period, over whole periods, and as a pulse loads it.
use Rattle.std.specs.Prelude.{◌≡◌, ℕ, zero, suc, ◌+◌, ◌*◌, ◌/◌, ◌%◌, ◌<◌, ◌≤◌, Bool, true, false, not, ◌&&◌, ◌==◌, ◌≢◌, nat_eq, refl, Some}
use Rattle.std.proofs.Common.{arith, div-add-mod', mod-lt, sym, ap, ◌∙◌}
use Rattle.std.proofs.Math.Bool.{and-false, or-true}
use borrow.Author.Tests.{eqb-true, eqb-false, ne_eqb}
use Rattle.std.proofs.Math.Arith.{digits_mod}
use Rattle.base.specs.Flags.{on, flag}
use Rattle.base.specs.Laws.{by_choice}
use Rattle.counter_modes.specs.Control.{setup_of}
use Rattle.counter_modes.specs.declared.Mode.TheVariants.{RateGenerator}
use Rattle.counter_modes.specs.declared.Format.{Format}
use Rattle.counter_element.specs.Element.{down, load, pulse_loads}
use Rattle.counter_element.specs.declared.Count.{Count}
use Rattle.counter_one.specs.Counter.{pulsed, gate_moved, byte_written}
use Rattle.counter_bytes.specs.Bytes.{piece_of, bytes_after}
use Rattle.counter_bytes.specs.declared.Piece.TheVariants.{Whole}
use Rattle.counter_one.specs.Pulsed.{control-pulsed, control-gated, register-gated}
use Rattle.counter_one.specs.declared.Counter.{Counter}
use Rattle.counter_pulses.specs.Pulses.{pulses, part}
use Rattle.counter_pulses.specs.Periods.{pulses_add, onward, rounds, at_count, counts-on, reloads-now, to_the_fall, round}
use Rattle.counter_pulses.specs.Signals.{initial_count}
use Rattle.counter_pulses.specs.SignalLaws.{initial_down}

-- ---- of the numbers up to a multiple of N
last-is_multiple : (p d : ℕ) → (p % suc d == d) ≡ (suc p % suc d == 0)
last-is_multiple p d = by (p % suc d == d) refl (p / suc d) (p % suc d) (sym (div-add-mod' p (suc d))) (mod-lt p (omega arith)) refl
  where
    by : (x : Bool) → (p % suc d == d) ≡ x → (q m : ℕ) → p ≡ q * suc d + m → m < suc d → p % suc d ≡ m → x ≡ (suc p % suc d == 0)
    by true e q m h l o =
        let z = eqb-true (p % suc d) d e in
        let s : suc p ≡ suc q * suc d + 0 = omega arith in
        sym (ap (λ (y : ℕ). nat_eq (y % suc d) 0) s ∙ ap (λ (y : ℕ). nat_eq y 0) (digits_mod (suc q) {m = suc d} {r = 0} (omega arith)))
    by false e q m h l o =
        let z : p % suc d ≡ d → ⊥ = eqb-false (p % suc d) d e in
        let i : suc m < suc d = omega arith in
        let s : suc p ≡ q * suc d + suc m = omega arith in
        sym (ap (λ (y : ℕ). nat_eq (y % suc d) 0) s ∙ ap (λ (y : ℕ). nat_eq y 0) (digits_mod q {m = suc d} {r = suc m} i) ∙ ne_eqb (suc m) 0 (λ e. omega arith))

module _ (k : Counter) {f : Format} (at : setup_of k.control ≡ Some (f, RateGenerator)) where
  -- the counter with the count v, where it counts
  abbrev pub at-element : ℕ → ℕ → Counter
  at-element v o = part k (at_count k.count v o)

  pub half_no_matter : true && not (on k.bus.halfwritten && false) ≡ true
  half_no_matter = rw (and-false (on k.bus.halfwritten))

  -- ---- to the end of a period: OUT falls as the count comes to 1, and the next pulse loads
  pub out_within : (v p : ℕ) → 1 ≤ down v → p ≤ down v → on (pulses p (at-element v 1) true).count.out ≡ not (p == down v)
  out_within v p h l = by (p == down v) refl
    where
      by : (x : Bool) → (p == down v) ≡ x → on (pulses p (at-element v 1) true).count.out ≡ not x
      by true e = ap (λ (x : ℕ). on (pulses x (at-element v 1) true).count.out) (eqb-true p (down v) e)
          ∙ ap (λ (c : Counter). on c.count.out) (to_the_fall k true at half_no_matter v h).to
      by false e =
          let z : p ≡ down v → ⊥ = eqb-false p (down v) e in
          ap (λ (c : Counter). on c.count.out) (counts-on k true at half_no_matter p v (omega arith)).to

  pub loads-anew : (v : ℕ) → 1 ≤ down v → pulses (down v + 1) (at-element v 1) true ≡ at-element k.count.register 1
  loads-anew v h = (onward true (to_the_fall k true at half_no_matter v h) (reloads-now k true at half_no_matter)).to

  -- ---- from a load on
  pub out_periodic : (p : ℕ) → k.count.register < 65536 → 1 ≤ down k.count.register
      → on (pulses p (at-element k.count.register 1) true).count.out ≡ not (suc p % suc (down k.count.register) == 0)
  out_periodic p b h =
      let n = k.count.register in
      let q = p / suc (down n) in
      let m = p % suc (down n) in
      let l : m < suc (down n) = mod-lt p (omega arith) in
      let t = rounds true (round k true at half_no_matter n b b h (omega arith)) q in
      ap (λ (x : ℕ). on (pulses x (at-element n 1) true).count.out) (sym (div-add-mod' p (suc (down n))))
      ∙ ap (λ (c : Counter). on c.count.out) (pulses_add true (q * suc (down n)) m (at-element n 1) ∙ ap (λ (c : Counter). pulses m c true) t.to)
      ∙ out_within n m h (omega arith)
      ∙ ap not (last-is_multiple p (down n))

  loaded-by : (g : Bool) → pulse_loads RateGenerator (on k.trigger) k.count ≡ true → pulsed k g ≡ at-element k.count.register 1
  unfolding pulsed
  loaded-by g e = rw (at, e)

  pub out-every_nth : pulse_loads RateGenerator (on k.trigger) k.count ≡ true → k.count.register < 65536 → (k.count.register ≢ 1) → (p : ℕ)
      → on (pulses (suc p) k true).count.out ≡ not (suc p % initial_count k.count.register == 0)
  out-every_nth e b o p =
      ap (λ (c : Counter). on (pulses p c true).count.out) (loaded-by true e)
      ∙ out_periodic p b (omega arith)
      ∙ ap (λ (x : ℕ). not (suc p % x == 0)) (sym (initial_down k.count.register b))

  -- ---- a trigger
  pub trigger-loads : on k.count.loaded ≡ true → pulse_loads RateGenerator (on (gate_moved k false true).trigger) (gate_moved k false true).count ≡ true
  unfolding gate_moved
  trigger-loads e = rw (at, or-true (on k.trigger), e) (or-true (on k.count.waiting))

  pub loaded-gated : (g h : Bool) → (gate_moved k g h).count.loaded ≡ k.count.loaded
  unfolding gate_moved
  loaded-gated g h = rw at

  -- ---- GATE low
  pub raised : on (gate_moved k true false).count.out ≡ true
  unfolding gate_moved
  raised = rw (at, or-true (on k.count.out))

  pub rests : (P : Count → Type 0) → ((d : Count) → P d → P (load d true)) → P k.count → P (pulsed k false).count
  unfolding pulsed
  rests P l h = rw (at, and-false (on k.count.loaded)) (by_choice P (pulse_loads RateGenerator (on k.trigger) k.count) (l k.count h) h)

  -- ---- a whole count is written
  abbrev pub written : ℕ → Counter
  written n = record {
    control = k.control;
    trigger = k.trigger;
    count = record {
      register = n;
      element = k.count.element;
      out = flag (on k.count.out && true);
      waiting = flag (not (on k.count.loaded));
      loaded = k.count.loaded;
    };
    bus = bytes_after k.bus (Whole n);
  }

  pub count-written : (b n : ℕ) → piece_of f k.bus b ≡ Whole n → (n ≢ 1) → byte_written k b ≡ written n
  unfolding byte_written
  count-written b n q o = rw (at, q, ne_eqb n 1 o)

-- what a load keeps, CLK pulses at a low GATE keep
pub rests-long : (P : Count → Type 0) → ((d : Count) → P d → P (load d true)) → (q : ℕ) (k : Counter) {f : Format}
    → setup_of k.control ≡ Some (f, RateGenerator)
    → P k.count → P (pulses q k false).count
rests-long P l zero k at h = h
rests-long P l (suc q) k at h = rests-long P l q (pulsed k false) (ap setup_of (control-pulsed k false) ∙ at) (rests k at P l h)

-- from a trigger on
pub out-triggered : (k : Counter) {f : Format} → setup_of k.control ≡ Some (f, RateGenerator) → on k.count.loaded ≡ true → k.count.register < 65536
    → (k.count.register ≢ 1) → (p : ℕ)
    → on (pulses (suc p) (gate_moved k false true) true).count.out ≡ not (suc p % initial_count k.count.register == 0)
out-triggered k at e l o p =
    let r = register-gated k false true in
    out-every_nth (gate_moved k false true) (ap setup_of (control-gated k false true) ∙ at) (trigger-loads k at e) (rw r l) (λ h. o (sym r ∙ h)) p
    ∙ ap (λ (x : ℕ). not (suc p % initial_count x == 0)) r
