-- Ticks in which OUT1 may fall and clock counter 2 (manual, 17.1), but neither OUT0 nor OUT2 falls: where each counter is after them.
use Prim.Native.Nat.{ℕ, zero, suc, ◌+◌, ◌≤◌, ◌%◌}
use Rattle.std.proofs.Common.{arith, ◌∙◌}
use Rattle.std.specs.Prelude.{◌≡◌, refl, Bool, true}
use Rattle.std.proofs.Math.Path.{sym, ap, subst}
use Rattle.std.proofs.Math.Bool.{false}
use Rattle.base.specs.Fields.{bit}
use Rattle.base.specs.Flags.{on}
use Rattle.counter_one.specs.declared.Counter.{Counter}
use Rattle.counter_one.specs.Falls.{fell, no_fall}
use Rattle.timer.specs.declared.Gates.{Gates}
use Rattle.machine_record.specs.declared.Clocks.{Clocks}
use Rattle.machine_tick.specs.Tick.{clock0, clock1, next_tick}
use Rattle.machine_tick.specs.InPlace.{pulsed_if, clocks_ticked}
use Rattle.counter_pulses.specs.Pulses.{pulses, one_more, Calm}
use Rattle.counter_pulses.specs.Periods.{falls}
use Rattle.machine_strides.specs.Lines.{pulses_in, next_in_range, turns, stands, none, first_of}
use Rattle.machine_strides.specs.Strides.{Skips, none_skipped, one_skipped}

-- ---- the pulses that j ticks bring: to counter 0 and 1 by their lines, to counter 2 by the falls of OUT1
abbrev pub ticks0 : ℕ → ℕ → Clocks → ℕ
ticks0 c j l = pulses_in (bit c 1) (bit c 6) 1000 l.thousand j

abbrev pub ticks1 : ℕ → ℕ → Clocks → ℕ
ticks1 c j l = pulses_in false (bit c 7) 100 l.hundred j

abbrev pub ticks2 : ℕ → Gates → ℕ → Clocks → ℕ
ticks2 c g j l = falls (ticks1 c j l) l.timer.counter1 g.gate12

-- ---- clocks with these counters, j ticks on
abbrev pub placed : ℕ → Clocks → Counter → Counter → Counter → Clocks
placed j l k0 k1 k2 = record {
  timer = record { counter0 = k0; counter1 = k1; counter2 = k2 };
  hundred = (l.hundred + j) % 100;
  thousand = (l.thousand + j) % 1000;
}

abbrev pub cascaded_by : ℕ → Gates → ℕ → Clocks → Clocks
cascaded_by c g j l =
    placed j l
    (pulses (ticks0 c j l) l.timer.counter0 g.gate0)
    (pulses (ticks1 c j l) l.timer.counter1 g.gate12)
    (pulses (ticks2 c g j l) l.timer.counter2 g.gate12)

-- the dividers are within their ranges
abbrev pub InRange : Clocks → Type 0
InRange l = (l.hundred ≤ 99) × (l.thousand ≤ 999)

-- ---- one pulse more or none
module _ (x : Bool) (p : ℕ) (k : Counter) (g : Bool) where
  times_if : pulses p (pulsed_if x k g) g ≡ pulses (one_more x p) k g
  times_if = by x
    where
      by : (x : Bool) → pulses p (pulsed_if x k g) g ≡ pulses (one_more x p) k g
      by true = refl
      by false = refl

  first : Calm (one_more x p) k g → fell (on k.count.out) (on (pulsed_if x k g).count.out) ≡ false
  first = by x
    where
      by : (x : Bool) → Calm (one_more x p) k g → fell (on k.count.out) (on (pulsed_if x k g).count.out) ≡ false
      by true c = c 0 (omega arith)
      by false c = no_fall (on k.count.out)

  rest : Calm (one_more x p) k g → Calm p (pulsed_if x k g) g
  rest = by x
    where
      by : (x : Bool) → Calm (one_more x p) k g → Calm p (pulsed_if x k g) g
      by true c = λ q l. c (suc q) (omega arith)
      by false c = c

  falls_if : falls (one_more x p) k g ≡ one_more (fell (on k.count.out) (on (pulsed_if x k g).count.out)) (falls p (pulsed_if x k g) g)
  falls_if = by x
    where
      by : (x : Bool) → falls (one_more x p) k g ≡ one_more (fell (on k.count.out) (on (pulsed_if x k g).count.out)) (falls p (pulsed_if x k g) g)
      by true = refl
      by false = rw (no_fall (on k.count.out))

-- the same counters and dividers make the same clocks
pub same-clocks : {k0 l0 k1 l1 k2 l2 : Counter} {h i t u : ℕ} → k0 ≡ l0 → k1 ≡ l1 → k2 ≡ l2 → h ≡ i → t ≡ u
    → ◌≡◌ {A = Clocks} (record { timer = record { counter0 = k0; counter1 = k1; counter2 = k2 }; hundred = h; thousand = t })
    (record { timer = record { counter0 = l0; counter1 = l1; counter2 = l2 }; hundred = i; thousand = u })
same-clocks p q r s t = rw (p, q, r, s, t)

pub same_counters : (j : ℕ) (l : Clocks) {k0 l0 k1 l1 k2 l2 : Counter} → k0 ≡ l0 → k1 ≡ l1 → k2 ≡ l2 → placed j l k0 k1 k2 ≡ placed j l l0 l1 l2
same_counters j l p q r = same-clocks p q r refl refl

-- ---- j ticks in which OUT0 and OUT2 are calm
module _ (c : ℕ) (g : Gates) where
  pub silent_ticks : (j : ℕ) (l : Clocks) → InRange l
      → Calm (ticks0 c j l) l.timer.counter0 g.gate0 → Calm (ticks2 c g j l) l.timer.counter2 g.gate12
      → Skips c g j l (cascaded_by c g j l)
  unfolding clocks_ticked
  silent_ticks zero l r c0 c2 =
      let n0 = sym (none 999 l.thousand r.1 (bit c 1) (bit c 6)) in
      let n1 = sym (none 99 l.hundred r.0 false (bit c 7)) in
      let e : l ≡ cascaded_by c g 0 l =
      same-clocks
      (ap (λ (p : ℕ). pulses p l.timer.counter0 g.gate0) n0)
      (ap (λ (p : ℕ). pulses p l.timer.counter1 g.gate12) n1)
      (ap (λ (p : ℕ). pulses (falls p l.timer.counter1 g.gate12) l.timer.counter2 g.gate12) n1)
      (sym (stands 99 l.hundred r.0)) (sym (stands 999 l.thousand r.1)) in
      subst (Skips c g 0 l) e (none_skipped c g l)
  silent_ticks (suc j) l r c0 c2 =
      let k0 = l.timer.counter0 in
      let k1 = l.timer.counter1 in
      let k2 = l.timer.counter2 in
      let g0 = g.gate0 in
      let g1 = g.gate12 in
      let s = clocks_ticked c g l in
      let x0 = clock0 c (next_tick l.thousand 999) in
      let x1 = clock1 c (next_tick l.hundred 99) in
      let x2 = fell (on k1.count.out) (on (pulsed_if x1 k1 g1).count.out) in
      let e0 : ticks0 c (suc j) l ≡ one_more x0 (ticks0 c j s) = first_of 999 l.thousand r.1 (bit c 1) (bit c 6) j in
      let e1 : ticks1 c (suc j) l ≡ one_more x1 (ticks1 c j s) = first_of 99 l.hundred r.0 false (bit c 7) j in
      let e2 : ticks2 c g (suc j) l ≡ one_more x2 (ticks2 c g j s) = ap (λ (p : ℕ). falls p k1 g1) e1 ∙ falls_if x1 (ticks1 c j s) k1 g1 in
      let d0 : Calm (one_more x0 (ticks0 c j s)) k0 g0 = subst (λ (p : ℕ). Calm p k0 g0) e0 c0 in
      let d2 : Calm (one_more x2 (ticks2 c g j s)) k2 g1 = subst (λ (p : ℕ). Calm p k2 g1) e2 c2 in
      let m = silent_ticks j s (next_in_range l.hundred 99, next_in_range l.thousand 999)
      (rest x0 (ticks0 c j s) k0 g0 d0) (rest x2 (ticks2 c g j s) k2 g1 d2) in
      let e : cascaded_by c g j s ≡ cascaded_by c g (suc j) l =
      same-clocks
      (times_if x0 (ticks0 c j s) k0 g0 ∙ ap (λ (p : ℕ). pulses p k0 g0) (sym e0))
      (times_if x1 (ticks1 c j s) k1 g1 ∙ ap (λ (p : ℕ). pulses p k1 g1) (sym e1))
      (times_if x2 (ticks2 c g j s) k2 g1 ∙ ap (λ (p : ℕ). pulses p k2 g1) (sym e2))
      (sym (turns 99 l.hundred r.0 j))
      (sym (turns 999 l.thousand r.1 j)) in
      one_skipped c g j l (cascaded_by c g (suc j) l)
      (first x0 (ticks0 c j s) k0 g0 d0, first x2 (ticks2 c g j s) k2 g1 d2)
      (subst (Skips c g j s) e m)
