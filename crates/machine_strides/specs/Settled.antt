-- Ticks of settled clocks: counters 1 and 2 have no trigger and no count to load, counter 1 has a pulse in every tick, and of counter 0 the count alone
-- moves. Each tick changes the faces of counters 1 and 2 (their counts and OUTs); all else can be told from the number of ticks.
use Rattle.std.specs.Prelude.{ℕ, zero, suc, ◌+◌, ◌≤◌, ◌<◌, ◌/◌, ◌%◌, ◌≡◌, Bool, false, not, ◌&&◌, eqb, ltb, leb, if◌then◌else◌}
use Rattle.std.proofs.Common.{arith, sym, ◌∙◌, ne_eqb, ltb-true, ltb-false, leb-true}
use Rattle.std.proofs.Math.Path.{refl, ap}
use Rattle.std.proofs.Math.Bool.{true}
use Rattle.base.specs.Fields.{bit}
use Rattle.base.specs.Flags.{on}
use Rattle.base.specs.Laws.{by-test, both, not_true}
use Rattle.counter_one.specs.Counter.{pulsed}
use Rattle.counter_one.specs.Working.{WorkingCounter}
use Rattle.counter_one.specs.declared.Counter.{Counter}
use Rattle.counter_one.specs.Falls.{fell, no_fall}
use Rattle.timer.specs.declared.Gates.{Gates}
use Rattle.machine_record.specs.Working.{WorkingClocks}
use Rattle.machine_record.specs.declared.Clocks.{Clocks}
use Rattle.machine_tick.specs.Tick.{clock0, clock1, next_tick}
use Rattle.machine_tick.specs.InPlace.{pulsed_if, clocks_ticked, falls0}
use Rattle.counter_pulses.specs.Pulses.{pulses, one_more, leapt_counter, leapt-out}
use Rattle.counter_pulses.specs.Faces.{settled, face_of, pace_of, faced, face_counted, face_pulsed}
use Rattle.counter_pulses.specs.declared.Face.{Face}
use Rattle.machine_strides.specs.Lines.{clock_in, pulses_in, stands, none}
use Rattle.machine_strides.specs.Strides.{stride_of}
use Rattle.machine_strides.specs.declared.Stride.{Stride}
use Rattle.machine_strides.specs.Cascades.{ticks0, placed, same-clocks}
use Rattle.machine_strides.specs.Leaps.{reach0, leaps_0}

-- ---- the clocks for n such ticks
pub record Settled (c : ℕ) (g : Gates) (n : ℕ) (l : Clocks) : Type 0 where
  pub works : WorkingClocks l
  pub near : n ≤ reach0 c g l
  pub whole : bit c 7 ≡ false
  pub settled1 : settled l.timer.counter1 ≡ true
  pub settled2 : settled l.timer.counter2 ≡ true

-- the test
abbrev pub settled_for : ℕ → Gates → ℕ → Clocks → Bool
settled_for c g n l = ((leb n (reach0 c g l) && not (bit c 7)) && settled l.timer.counter1) && settled l.timer.counter2

pub are_settled : (c : ℕ) (g : Gates) (n : ℕ) (l : Clocks) → WorkingClocks l → settled_for c g n l ≡ true → Settled c g n l
are_settled c g n l w h =
    let x = both ((leb n (reach0 c g l) && not (bit c 7)) && settled l.timer.counter1) (settled l.timer.counter2) h in
    let y = both (leb n (reach0 c g l) && not (bit c 7)) (settled l.timer.counter1) x.0 in
    let z = both (leb n (reach0 c g l)) (not (bit c 7)) y.0 in
    record { works = w; near = leb-true n (reach0 c g l) z.0; whole = not_true (bit c 7) z.1; settled1 = y.1; settled2 = x.1 }

-- ---- j ticks on, with these faces of counters 1 and 2
unfoldable pub faced_at : ℕ → Gates → ℕ → Clocks → Face → Face → Clocks
faced_at c g j l f1 f2 =
    placed j l
    (leapt_counter (ticks0 c j l) l.timer.counter0 g.gate0)
    (faced l.timer.counter1 f1)
    (faced l.timer.counter2 f2)

-- ---- a stride in which OUT0 does not fall: what it is does not depend on whether that is heard
abbrev pub StrideAnyway : ℕ → Gates → Bool → ℕ → Clocks → Stride → Type 0
StrideAnyway c g h2 n l s = (h0 : Bool) → s ≡ stride_of c g h0 h2 n l

-- a face after a pulse, where there is one
abbrev pub counted_if : Bool → Counter → Bool → Face → Face
counted_if x k g f = if x then face_counted (pace_of k g) f else f

-- ---- laws: the last tick of some
timer-moved_hundred : (h j : ℕ) → next_tick ((h + j) % 100) 99 ≡ (h + suc j) % 100
timer-moved_hundred h j =
    by-test (λ (x : ℕ). x ≡ (h + suc j) % 100) (ltb ((h + j) % 100) 99)
    (λ t. omega (arith, ltb-true ((h + j) % 100) 99 t)) (λ t. omega (arith, ltb-false ((h + j) % 100) 99 t))

timer-moved_thousand : (h j : ℕ) → next_tick ((h + j) % 1000) 999 ≡ (h + suc j) % 1000
timer-moved_thousand h j =
    by-test (λ (x : ℕ). x ≡ (h + suc j) % 1000) (ltb ((h + j) % 1000) 999)
    (λ t. omega (arith, ltb-true ((h + j) % 1000) 999 t)) (λ t. omega (arith, ltb-false ((h + j) % 1000) 999 t))

last_of : (s f : Bool) (h j : ℕ) → one_more (clock_in s f (next_tick ((h + j) % 1000) 999)) (pulses_in s f 1000 h j) ≡ pulses_in s f 1000 h (suc j)
last_of true f h j = refl
last_of false true h j =
    by-test (λ (x : ℕ). one_more (eqb x 0) ((h + j) / 1000) ≡ (h + suc j) / 1000) (ltb ((h + j) % 1000) 999)
    (λ t. rw (ne_eqb ((h + j) % 1000 + 1) 0 (λ z. omega arith)) (omega (arith, ltb-true ((h + j) % 1000) 999 t)))
    (λ t. omega (arith, ltb-false ((h + j) % 1000) 999 t))
last_of false false h j = refl

pulses-last : (p : ℕ) (k : Counter) (g : Bool) → pulsed (pulses p k g) g ≡ pulses (suc p) k g
pulses-last zero k g = refl
pulses-last (suc p) k g = pulses-last p (pulsed k g) g

last_pulse : (x : Bool) (p : ℕ) (k : Counter) (g : Bool) → pulsed_if x (pulses p k g) g ≡ pulses (one_more x p) k g
last_pulse true p k g = pulses-last p k g
last_pulse false p k g = refl

faced_if : (x : Bool) (k : Counter) (g : Bool) → WorkingCounter k → settled k ≡ true → (f : Face) → pulsed_if x (faced k f) g ≡ faced k (counted_if x k g f)
faced_if true k g w s f = face_pulsed k g w s f
faced_if false k g w s f = refl

module _ (c : ℕ) (g : Gates) (n : ℕ) (l : Clocks) (s : Settled c g n l) where
  abbrev k0 : Counter
  k0 = l.timer.counter0

  abbrev k1 : Counter
  k1 = l.timer.counter1

  abbrev k2 : Counter
  k2 = l.timer.counter2

  -- none
  pub none-on : faced_at c g 0 l (face_of k1) (face_of k2) ≡ l
  unfolding faced_at
  none-on =
      let p0 = none 999 l.thousand s.works.thousand (bit c 1) (bit c 6) in
      same-clocks
      (sym (leaps_0 c g l s.works 0 (omega arith)) ∙ ap (λ (p : ℕ). pulses p k0 g.gate0) p0) refl refl
      (stands 99 l.hundred s.works.hundred) (stands 999 l.thousand s.works.thousand)

  -- one more
  pub one_on : (j : ℕ) → j < n → (f1 f2 : Face)
      → clocks_ticked c g (faced_at c g j l f1 f2)
      ≡ faced_at c g (suc j) l (counted_if true k1 g.gate12 f1)
      (counted_if (fell (on f1.out) (on (counted_if true k1 g.gate12 f1).out)) k2 g.gate12 f2)
  unfolding clocks_ticked faced_at
  one_on j below f1 f2 =
      let t = next_tick ((l.thousand + j) % 1000) 999 in
      let e0 : pulsed_if (clock0 c t) (leapt_counter (ticks0 c j l) k0 g.gate0) g.gate0 ≡ leapt_counter (ticks0 c (suc j) l) k0 g.gate0 =
      ap (λ (k : Counter). pulsed_if (clock0 c t) k g.gate0) (sym (leaps_0 c g l s.works j (omega (arith, s.near))))
      ∙ last_pulse (clock0 c t) (ticks0 c j l) k0 g.gate0
      ∙ ap (λ (p : ℕ). pulses p k0 g.gate0) (last_of (bit c 1) (bit c 6) l.thousand j)
      ∙ leaps_0 c g l s.works (suc j) (omega (arith, s.near)) in
      let x1 : clock1 c (next_tick ((l.hundred + j) % 100) 99) ≡ true = rw s.whole in
      let e1 : pulsed_if (clock1 c (next_tick ((l.hundred + j) % 100) 99)) (faced k1 f1) g.gate12 ≡ faced k1 (counted_if true k1 g.gate12 f1) =
      ap (λ (x : Bool). pulsed_if x (faced k1 f1) g.gate12) x1 ∙ face_pulsed k1 g.gate12 s.works.timer.counter1 s.settled1 f1 in
      let e2 =
      ap (λ (k : Counter). pulsed_if (fell (on f1.out) (on k.count.out)) (faced k2 f2) g.gate12) e1
      ∙ faced_if (fell (on f1.out) (on (counted_if true k1 g.gate12 f1).out)) k2 g.gate12 s.works.timer.counter2 s.settled2 f2 in
      same-clocks e0 e1 e2 (timer-moved_hundred l.hundred j) (timer-moved_thousand l.thousand j)

  -- OUT0 does not fall
  pub no_fall_0 : (j i : ℕ) (f1 f2 e1 e2 : Face) → falls0 (faced_at c g j l f1 f2) (faced_at c g i l e1 e2) ≡ false
  unfolding faced_at
  no_fall_0 j i f1 f2 e1 e2 =
      rw (leapt-out (ticks0 c j l) k0 g.gate0, leapt-out (ticks0 c i l) k0 g.gate0) (no_fall (on k0.count.out))
