-- Whole periods of a counter in mode 2: they leave it as it was, and its OUT falls once in each. Data sheet (manual, chapter 19), mode 2: "When the
-- initial count has decremented to 1, OUT goes low for one CLK pulse. OUT then goes high again, the Counter reloads the initial count".
use Rattle.std.specs.Prelude.{◌≡◌, ℕ, zero, suc, ◌+◌, ◌-◌, ◌*◌, ◌<◌, ◌≤◌, Bool, true, false, not, ◌&&◌, nat_le, nat_lt, refl, if◌then◌else◌, Option, Some, None}
use Rattle.std.proofs.Common.{arith, sym, ap, ◌∙◌, subst}
use borrow.Author.Tests.{eqb-true, ne_eqb, ltb-true, leb-true}
use Rattle.base.specs.Flags.{on}
use Rattle.base.specs.Laws.{both, not_true}
use Rattle.counter_modes.specs.Control.{setup_of}
use Rattle.counter_modes.specs.declared.Mode.TheVariants.{TerminalCount, RateGenerator}
use Rattle.counter_modes.specs.declared.Format.{Format}
use Rattle.counter_modes.specs.declared.Mode.{Mode}
use Rattle.counter_element.specs.Element.{down, counted_by}
use Rattle.counter_element.specs.declared.Count.{Count}
use Rattle.counter_one.specs.Counter.{pulsed}
use Rattle.counter_one.specs.Working.{Flags, WorkingCounter}
use Rattle.counter_one.specs.declared.Counter.{Counter}
use Rattle.counter_one.specs.Falls.{fell}
use Rattle.counter_pulses.specs.Pulses.{pulses, one_more, downs, downs_less, clear, part, all-counts, Calm}

-- ---- the times that OUT falls in p pulses
abbrev pub falls : ℕ → Counter → Bool → ℕ
falls zero k gate = 0
falls (suc p) k gate = one_more (fell (on k.count.out) (on (pulsed k gate).count.out)) (falls p (pulsed k gate) gate)

-- p pulses lead from k to l, and OUT falls n times
pub record Trip (g : Bool) (p n : ℕ) (k l : Counter) : Type 0 where
  pub to : pulses p k g ≡ l
  pub fallen : falls p k g ≡ n

-- ---- the pulses of a counter's period, or 0: mode 2, counting, OUT high, the count within the period and not 1
abbrev pub cycles : Counter → Bool → Bool
cycles k g = not (on k.trigger) && (not (on k.count.waiting) && (on k.count.out && (on k.count.loaded && g)))

abbrev pub lap_of : ℕ → ℕ → ℕ
lap_of register element = if nat_lt 0 (down element) && nat_le (down element) (down register) then suc (down register) else 0

abbrev pub period_as : Option (Format × Mode) → Counter → Bool → ℕ
period_as None k g = 0
period_as (Some (f, TerminalCount)) k g = 0
period_as (Some (f, RateGenerator)) k g = if cycles k g then lap_of k.count.register k.count.element else 0

unfoldable pub period : Counter → Bool → ℕ
period k g = period_as (setup_of k.control) k g

-- ---- what the code finds: that number, and that the counts are words of 16 bits
abbrev pub Words : ℕ → ℕ → Type 0
Words register element = (element < 65536) × (register < 65536)

pub record Lap (register element r : ℕ) : Type 0 where
  pub is : r ≡ lap_of register element
  pub small : r ≤ 65536
  pub words : Words register element

pub record Period (k : Counter) (g : Bool) (r : ℕ) : Type 0 where
  pub is : r ≡ period k g
  pub small : r ≤ 65536
  pub words : 0 < r → Words k.count.register k.count.element

-- ---- laws: one trip after another
one-more_add : (x : Bool) (a b : ℕ) → one_more x (a + b) ≡ one_more x a + b
one-more_add true a b = omega arith
one-more_add false a b = refl

module _ (g : Bool) where
  pub pulses_add : (p q : ℕ) (k : Counter) → pulses (p + q) k g ≡ pulses q (pulses p k g) g
  pulses_add zero q k = let e : 0 + q ≡ q = omega arith in ap (λ (x : ℕ). pulses x k g) e
  pulses_add (suc p) q k = let e : suc p + q ≡ suc (p + q) = omega arith in ap (λ (x : ℕ). pulses x k g) e ∙ pulses_add p q (pulsed k g)

  falls_add : (p q : ℕ) (k : Counter) → falls (p + q) k g ≡ falls p k g + falls q (pulses p k g) g
  falls_add zero q k = let e : 0 + q ≡ q = omega arith in ap (λ (x : ℕ). falls x k g) e ∙ omega arith
  falls_add (suc p) q k =
      let e : suc p + q ≡ suc (p + q) = omega arith in
      let x = fell (on k.count.out) (on (pulsed k g).count.out) in
      ap (λ (y : ℕ). falls y k g) e ∙ ap (one_more x) (falls_add p q (pulsed k g)) ∙ one-more_add x (falls p (pulsed k g) g) _

  stay : (k : Counter) → Trip g 0 0 k k
  stay k = record { to = refl; fallen = refl }

  pub onward : {p q n m : ℕ} {k l r : Counter} → Trip g p n k l → Trip g q m l r → Trip g (p + q) (n + m) k r
  onward {p} {q} {n} {m} {k} {l} a b = record {
    to = pulses_add p q k ∙ ap (λ (x : Counter). pulses q x g) a.to ∙ b.to;
    fallen =
        falls_add p q k ∙ ap (λ (x : ℕ). x + falls q (pulses p k g) g) a.fallen ∙ ap (λ (x : Counter). n + falls q x g) a.to
        ∙ ap (λ (x : ℕ). n + x) b.fallen;
  }

  once : (k l : Counter) → pulsed k g ≡ l → Trip g 1 (one_more (fell (on k.count.out) (on l.count.out)) 0) k l
  once k l h = record { to = h; fallen = ap (λ (x : Counter). one_more (fell (on k.count.out) (on x.count.out)) 0) h }

  pub calm-falls : (p : ℕ) (k : Counter) → Calm p k g → falls p k g ≡ 0
  calm-falls zero k c = refl
  calm-falls (suc p) k c = rw (c 0 (omega arith)) (calm-falls p (pulsed k g) (λ q l. c (suc q) (omega arith)))

  -- n trips round
  pub rounds : {p : ℕ} {k : Counter} → Trip g p 1 k k → (n : ℕ) → Trip g (n * p) n k k
  rounds {p} {k} t zero = let e : 0 ≡ 0 * p = omega arith in subst (λ (x : ℕ). Trip g x 0 k k) e (stay k)
  rounds {p} {k} t (suc n) =
      let e : p + n * p ≡ suc n * p = omega arith in
      let f : 1 + n ≡ suc n = omega arith in
      subst (λ (x : ℕ). Trip g x (suc n) k k) e (subst (λ (x : ℕ). Trip g (p + n * p) x k k) f (onward t (rounds t n)))

-- ---- counts down
downs-down : (p v : ℕ) → p ≤ down v → down (downs p v) ≡ down v - p
downs-down zero v h = omega arith
downs-down (suc p) v h = omega (arith, downs-down p (down v) (omega arith))

same-down : {v w : ℕ} → v < 65536 → w < 65536 → down v ≡ down w → v ≡ w
same-down h i e = omega arith

-- ---- a counter in mode 2 that counts
abbrev pub at_count : Count → ℕ → ℕ → Count
at_count c v o = record { register = c.register; element = v; out = o; waiting = 0; loaded = 1 }

module _ (k : Counter) (g : Bool) {f : Format} (at : setup_of k.control ≡ Some (f, RateGenerator))
    (n : g && not (on k.bus.halfwritten && false) ≡ true) where
  abbrev st : ℕ → ℕ → Counter
  st v o = part k (at_count k.count v o)

  pub counts-on : (p v : ℕ) → p ≤ down v - 1 → Trip g p 0 (st v 1) (st (downs p v) 1)
  counts-on p v h = record { to = go p h; fallen = calm-falls g p (st v 1) calm }
    where
      go : (q : ℕ) → q ≤ down v - 1 → pulses q (st v 1) g ≡ st (downs q v) 1
      go q h = all-counts k g at q (at_count k.count v 1) (omega arith) refl n h

      calm : Calm p (st v 1) g
      calm q l = rw (go q (omega arith), go (suc q) (omega arith))

  falls-now : (v : ℕ) → down v ≡ 1 → Trip g 1 1 (st v 1) (st 1 0)
  unfolding pulsed counted_by
  falls-now v h = once g (st v 1) (st 1 0) (rw (at, n, ne_eqb v 1 (λ e. omega arith), h))

  pub reloads-now : Trip g 1 0 (st 1 0) (st k.count.register 1)
  unfolding pulsed counted_by
  reloads-now = once g (st 1 0) (st k.count.register 1) (rw (at, n))

  pub to_the_fall : (v : ℕ) → 1 ≤ down v → Trip g (down v) 1 (st v 1) (st 1 0)
  to_the_fall v h =
      let p = down v - 1 in
      let two : down (downs p v) ≡ 1 = omega (arith, downs-down p v (omega arith)) in
      let e : p + 1 ≡ down v = omega arith in
      subst (λ (x : ℕ). Trip g x 1 (st v 1) (st 1 0)) e (onward g (counts-on p v (omega arith)) (falls-now (downs p v) two))

  pub round : (v : ℕ) → v < 65536 → k.count.register < 65536 → 1 ≤ down v → down v ≤ down k.count.register
      → Trip g (suc (down k.count.register)) 1 (st v 1) (st v 1)
  round v a b c d =
      let r = k.count.register in
      let q = down r - down v in
      let back : downs q r ≡ v = same-down (omega (arith, downs_less q r b)) a (omega (arith, downs-down q r (omega arith))) in
      let t : Trip g (down v + (1 + q)) 1 (st v 1) (st (downs q r) 1) = onward g (to_the_fall v c) (onward g reloads-now (counts-on q r (omega arith))) in
      let e : down v + (1 + q) ≡ suc (down r) = omega arith in
      subst (λ (x : ℕ). Trip g (suc (down r)) 1 (st v 1) (st x 1)) back
      (subst (λ (x : ℕ). Trip g x 1 (st v 1) (st (downs q r) 1)) e t)

-- ---- any working counter
abbrev fields : Counter → ℕ → ℕ → ℕ → ℕ → Counter
fields k t w o l = record {
  control = k.control;
  trigger = t;
  count = record { register = k.count.register; element = k.count.element; out = o; waiting = w; loaded = l };
  bus = k.bus;
}

pub as_counts : (k : Counter) {y : ℕ} → k.trigger ≡ 0 → k.count.waiting ≡ 0 → k.count.out ≡ y → k.count.loaded ≡ 1
    → k ≡ part k (at_count k.count k.count.element y)
as_counts k {y} t w o l =
    ap (λ (x : ℕ). fields k x k.count.waiting k.count.out k.count.loaded) t
    ∙ ap (λ (x : ℕ). fields k 0 x k.count.out k.count.loaded) w
    ∙ ap (λ (x : ℕ). fields k 0 0 x k.count.loaded) o
    ∙ ap (λ (x : ℕ). fields k 0 0 y x) l

one-period : (k : Counter) (g : Bool) → Flags k → k.count.element < 65536 → k.count.register < 65536 → 0 < period k g → Trip g (period k g) 1 k k
unfolding period
one-period k g v e r = by (setup_of k.control) refl
  where
    gated : (x h : Bool) → x ≡ true → x && not (h && false) ≡ true
    gated true true l = refl
    gated true false l = refl
    gated false h l = l

    at-rate : {f : Format} (c l : Bool) → setup_of k.control ≡ Some (f, RateGenerator) → cycles k g ≡ c
        → (nat_lt 0 (down k.count.element) && nat_le (down k.count.element) (down k.count.register)) ≡ l
        → 0 < (if c then (if l then suc (down k.count.register) else 0) else 0)
        → Trip g (if c then (if l then suc (down k.count.register) else 0) else 0) 1 k k
    at-rate true true at h w l =
        let b1 = both _ _ h in
        let b2 = both _ _ b1.1 in
        let b3 = both _ _ b2.1 in
        let b4 = both _ _ b3.1 in
        let b5 = both _ _ w in
        let t : k ≡ part k (at_count k.count k.count.element 1) =
        as_counts k (clear _ v.trigger (not_true _ b1.0)) (clear _ v.count.waiting (not_true _ b2.0))
        (eqb-true _ _ b3.0) (eqb-true _ _ b4.0) in
        let m = round k g at (gated g (on k.bus.halfwritten) b4.1) k.count.element e r (ltb-true _ _ b5.0) (leb-true _ _ b5.1) in
        subst (λ (x : Counter). Trip g (suc (down k.count.register)) 1 x x) (sym t) m
    at-rate true false at h w l = absurd (omega arith)
    at-rate false x at h w l = absurd (omega arith)

    by : (s : Option (Format × Mode)) → setup_of k.control ≡ s → 0 < period_as s k g → Trip g (period_as s k g) 1 k k
    by None at l = absurd (omega arith)
    by (Some (f, TerminalCount)) at l = absurd (omega arith)
    by (Some (f, RateGenerator)) at l = at-rate (cycles k g) _ at refl refl l

-- n periods
pub periods : (k : Counter) (g : Bool) → WorkingCounter k → k.count.element < 65536 → k.count.register < 65536 → 0 < period k g
    → (n : ℕ) → Trip g (n * period k g) n k k
periods k g v e r h n = rounds g (one-period k g v.flags e r h) n

-- none, where there is no period
pub no_periods : (k : Counter) (g : Bool) (p : ℕ) → Trip g (0 * p) 0 k k
no_periods k g p = let e : 0 ≡ 0 * p = omega arith in subst (λ (x : ℕ). Trip g x 0 k k) e (stay g k)
