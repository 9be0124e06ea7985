-- What is passed over at once, over plain values: one law for each way out. Assumes nothing.
use Prim.Native.Nat.{ℕ, zero, suc, ◌+◌, ◌-◌, ◌*◌, ◌/◌, ◌%◌, ◌≤◌, ◌<◌}
use native.Mathlib.Omega.{arith}
use native.Mathlib.Nat.{mul-le-mul_right, div-mul-le_self, mod-lt}
use mathlib.Core.Path.{◌≡◌, refl, sym, ap, ◌∙◌, subst}
use mathlib.Core.Bool.{Bool, true, false, not, ◌&&◌, ◌||◌}
use borrow.Author.Tests.{eqb-false}
use lib.Dec.{eqb, ltb, leb}
use Rattle.base.specs.Fields.{bit}
use Rattle.base.specs.Laws.{never}
use Rattle.counter_one.specs.declared.Counter.{Counter}
use Rattle.timer.specs.declared.Gates.{Gates}
use Rattle.machine_record.specs.Working.{WorkingClocks}
use Rattle.machine_record.specs.declared.Clocks.{Clocks}
use Rattle.counter_pulses.specs.Pulses.{quiet_pulses, leapt_counter}
use Rattle.counter_pulses.specs.Periods.{Trip, Period, period, periods}
use Rattle.machine_strides.specs.Lines.{reach_in, stretched}
use Rattle.machine_strides.specs.Bursts.{least, least-le}
use Rattle.machine_strides.specs.Strides.{Skips, Skipped, none_skipped, skips-on}
use Rattle.machine_strides.specs.Cascades.{ticks0, ticks1}
use Rattle.machine_strides.specs.Leaps.{reach0, leapt, cycled, leap_skips, cycle_skips}
use Rattle.machine_strides.specs.Settled.{settled_for, faced_at}
use Rattle.machine_strides.specs.Kept.{skipped_work}
use Rattle.counter_pulses.specs.Faces.{settled, faced}
use Rattle.counter_pulses.specs.declared.Face.{Face}

-- ---- the lesser of two numbers
pub at_most : {r a b : ℕ} → r ≡ least a b → (r ≤ a) × (r ≤ b)
at_most {r} {a} {b} e = subst (λ (x : ℕ). (x ≤ a) × (x ≤ b)) (sym e) (least-le a b)

-- ---- a divider within its range
pub divider_fits : (x last : ℕ) → last < 65536 → x % (last + 1) < 65536
divider_fits x last h = let m : x % (last + 1) < last + 1 = mod-lt x (omega arith) in omega arith

pub divider_same : (x last : ℕ) → x % (last + 1) ≡ x % suc last
divider_same x last = let e : last + 1 ≡ suc last = omega arith in ap (λ (n : ℕ). x % n) e

-- ---- the clocks that a leap makes
module _ (c : ℕ) (g : Gates) (l : Clocks) (j : ℕ) {p0 h t : ℕ} {k0 : Counter} (p0≡ : p0 ≡ ticks0 c j l)
    (k0≡ : k0 ≡ leapt_counter p0 l.timer.counter0 g.gate0) (h≡ : h ≡ (l.hundred + j) % 100) (t≡ : t ≡ (l.thousand + j) % 1000) where
  pub leapt_of : {p1 : ℕ} {k1 : Counter} → p1 ≡ ticks1 c j l → k1 ≡ leapt_counter p1 l.timer.counter1 g.gate12
      → record { timer = record { counter0 = k0; counter1 = k1; counter2 = l.timer.counter2 }; hundred = h; thousand = t } ≡ leapt c g j l
  unfolding leapt
  leapt_of p1 k1 = rw (k1, p1, k0≡, p0≡, h≡, t≡)

  pub cycled_of : (n : ℕ) {k2 : Counter} → k2 ≡ leapt_counter n l.timer.counter2 g.gate12
      → record { timer = record { counter0 = k0; counter1 = l.timer.counter1; counter2 = k2 }; hundred = h; thousand = t } ≡ cycled c g n j l
  unfolding cycled
  cycled_of n k2 = rw (k2, k0≡, p0≡, h≡, t≡)

  pub faced_of : (f1 f2 : Face) {k1 k2 : Counter} → k1 ≡ faced l.timer.counter1 f1 → k2 ≡ faced l.timer.counter2 f2
      → record { timer = record { counter0 = k0; counter1 = k1; counter2 = k2 }; hundred = h; thousand = t } ≡ faced_at c g j l f1 f2
  unfolding faced_at
  faced_of f1 f2 k1 k2 = rw (k1, k2, k0≡, p0≡, h≡, t≡)

-- ---- whether clocks are settled
pub settled_of : (c : ℕ) (g : Gates) (l : Clocks) (n : ℕ) {q0 r0 : ℕ} {x y : Bool} → q0 ≡ quiet_pulses l.timer.counter0 g.gate0
    → r0 ≡ reach_in (bit c 1) (bit c 6) 1000 l.thousand q0 → x ≡ settled l.timer.counter1 → y ≡ settled l.timer.counter2
    → ((leb n r0 && not (bit c 7)) && x) && y ≡ settled_for c g n l
settled_of c g l n q r x y = rw (x, y, r, q)

-- ---- a period that the code's test lets pass is not 0
pub some : (q2 s left : ℕ) → eqb q2 0 || eqb s 0 || ltb left s ≡ false → 0 < s
some q2 s left = by (eqb q2 0) (eqb s 0) refl
  where
    by : (a t : Bool) → eqb s 0 ≡ t → a || t || ltb left s ≡ false → 0 < s
    by true t e h = never (sym h)
    by false true e h = never (sym h)
    by false false e h = omega (arith, eqb-false s 0 e)

-- ---- none
pub none : (c : ℕ) (g : Gates) (l : Clocks) (left j : ℕ) → j ≡ 0 → Skipped c g l left (record { clocks = l; ticks = j })
none c g l left j z = record { skips = subst (λ (k : ℕ). Skips c g k l l) (sym z) (none_skipped c g l); within = omega arith }

module _ (c : ℕ) (g : Gates) (l : Clocks) (w : WorkingClocks l) (left : ℕ) {q0 r0 near : ℕ}
    (q0≡ : q0 ≡ quiet_pulses l.timer.counter0 g.gate0) (r0≡ : r0 ≡ reach_in (bit c 1) (bit c 6) 1000 l.thousand q0)
    (near≤ : (near ≤ r0) × (near ≤ left)) where
  near_0 : near ≤ reach0 c g l
  near_0 = let e : r0 ≡ reach0 c g l = r0≡ ∙ ap (reach_in (bit c 1) (bit c 6) 1000 l.thousand) q0≡ in omega (arith, e, near≤.0)

  -- ---- ticks in which counts alone move
  pub leaps : {q1 r1 j : ℕ} {m : Clocks} → q1 ≡ quiet_pulses l.timer.counter1 g.gate12 → r1 ≡ reach_in false (bit c 7) 100 l.hundred q1
      → (j ≤ r1) × (j ≤ near) → m ≡ leapt c g j l → Skipped c g l left (record { clocks = m; ticks = j })
  leaps {j = j} q1≡ r1≡ j≤ m≡ =
      let e = r1≡ ∙ ap (reach_in false (bit c 7) 100 l.hundred) q1≡ in
      record {
        skips = subst (Skips c g j l) (sym m≡) (leap_skips c g l w j (omega (arith, near_0, j≤.1)) (omega (arith, e, j≤.0)));
        within = omega (arith, j≤.1, near≤.1);
      }

  -- ---- whole periods of counter 1
  module _ {q2 p s n : ℕ} (q2≡ : q2 ≡ quiet_pulses l.timer.counter2 g.gate12) (found : Period l.timer.counter1 g.gate12 p)
      (s≡ : s ≡ stretched (bit c 7) 100 p) (test : eqb q2 0 || eqb s 0 || ltb left s ≡ false) (n≤ : (n ≤ q2) × (n ≤ near / s)) where
    pub few : n * s ≤ near
    few = omega (arith, mul-le-mul_right s n≤.1, div-mul-le_self near s)

    pub in_left : n * s ≤ left
    in_left = omega (arith, few, near≤.1)

    -- a product that is not 0 has no factor 0
    factor : (p d : ℕ) → 0 < p * d → 0 < p
    factor zero d h = absurd (omega arith)
    factor (suc p) d h = omega arith

    pub cycles : {m : Clocks} → m ≡ cycled c g n (n * s) l → Skipped c g l left (record { clocks = m; ticks = n * s })
    cycles m≡ =
        let k1 = l.timer.counter1 in
        let g1 = g.gate12 in
        let z = factor p _ (subst (λ (x : ℕ). 0 < x) s≡ (some q2 s left test)) in
        let t : Trip g1 (n * period k1 g1) n k1 k1 =
        periods k1 g1 w.timer.counter1 (found.words z).0 (found.words z).1 (subst (λ (x : ℕ). 0 < x) found.is z) n in
        let e = ap (λ (x : ℕ). n * x) (s≡ ∙ ap (stretched (bit c 7) 100) found.is) in
        record {
          skips = subst (Skips c g (n * s) l) (sym m≡) (cycle_skips c g l w (n * s) (omega (arith, few, near_0)) n e t (omega (arith, q2≡, n≤.0)));
          within = in_left;
        }

-- ---- some, then some more
module _ (c : ℕ) (g : Gates) (l : Clocks) (left : ℕ) (m : Clocks) (a : ℕ) (s : Skipped c g l left (record { clocks = m; ticks = a })) where
  pub still-works : WorkingClocks l → WorkingClocks m
  still-works w = skipped_work c g a l m w s.skips

  pub both : (o : Clocks) (b : ℕ) → Skipped c g m (left - a) (record { clocks = o; ticks = b }) → Skipped c g l left (record { clocks = o; ticks = a + b })
  both o b t = record { skips = skips-on c g a b l m o s.skips t.skips; within = omega (arith, s.within, t.within) }
