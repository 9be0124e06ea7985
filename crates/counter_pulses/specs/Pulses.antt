-- Many CLK pulses at one counter, taken at once while its count alone moves. Data sheet (manual, chapter 19), modes 0 and 2: OUT stays as it is
-- until the count comes to 0 in mode 0, and until it comes to 1 in mode 2.
use Rattle.std.specs.Prelude.{◌≡◌, ℕ, zero, suc, ◌+◌, ◌-◌, ◌*◌, ◌%◌, ◌<◌, ◌≤◌, Bool, true, false, ◌&&◌, ◌||◌, refl, if◌then◌else◌, Option, Some, None}
use Rattle.std.proofs.Common.{arith, sym, ap, ◌∙◌, eqb-true, ne_eqb}
use Rattle.std.proofs.lemmas.Bool.{eqb-false}
use Rattle.base.specs.Flags.{on}
use Rattle.counter_modes.specs.Control.{setup_of}
use Rattle.counter_modes.specs.Modes.{trigger_loads}
use Rattle.counter_modes.specs.declared.Mode.{Mode}
use Rattle.counter_modes.specs.declared.Mode.TheVariants.{TerminalCount, RateGenerator}
use Rattle.counter_modes.specs.declared.Format.{Format}
use Rattle.counter_element.specs.Element.{down, counted_by, pulse_loads, pulse_counts}
use Rattle.counter_element.specs.declared.Count.{Count}
use Rattle.counter_one.specs.Counter.{pulsed}
use Rattle.counter_one.specs.Still.{same_flag}
use Rattle.counter_one.specs.Working.{Flags, WorkingCounter}
use Rattle.counter_one.specs.declared.Counter.{Counter}
use Rattle.counter_one.specs.Falls.{fell, no_fall}

-- ---- p pulses at a GATE level, one after another
abbrev pub pulses : ℕ → Counter → Bool → Counter
pulses zero k gate = k
pulses (suc p) k gate = pulses p (pulsed k gate) gate

-- one more where x
abbrev pub one_more : Bool → ℕ → ℕ
one_more x p = if x then suc p else p

-- in no pulse of p does OUT fall
abbrev pub Calm : ℕ → Counter → Bool → Type 0
Calm p k g = (q : ℕ) → q < p → fell (on (pulses q k g).count.out) (on (pulses (suc q) k g).count.out) ≡ false

-- ---- p counts down
abbrev pub downs : ℕ → ℕ → ℕ
downs zero v = v
downs (suc p) v = downs p (down v)

-- ---- the number of pulses in which the count alone moves
-- of a counter that stands: more than are ever asked for
abbrev pub far : ℕ
far = 4294967295

-- of a counter that counts: OUT rises in mode 0 as the count comes to 0, and falls in mode 2 as it comes to 1
abbrev pub spare : Mode → Count → ℕ
spare TerminalCount c = down c.element
spare RateGenerator c = if on c.out then down c.element - 1 else 0

abbrev pub counts : Option (Format × Mode) → Counter → Bool → Bool
counts None k gate = false
counts (Some (f, m)) k gate = pulse_counts m gate (on k.bus.halfwritten) k.count

-- of a counter that the next pulse may load: none
abbrev pub quiet_as : Option (Format × Mode) → Counter → Bool → ℕ
quiet_as None k gate = far
quiet_as (Some (f, m)) k gate =
    if on k.trigger || on k.count.waiting then 0
    else if pulse_counts m gate (on k.bus.halfwritten) k.count then spare m k.count
    else far

unfoldable pub quiet_pulses : Counter → Bool → ℕ
quiet_pulses k gate = quiet_as (setup_of k.control) k gate

-- ---- the counter after p of them
abbrev pub at_element : Count → ℕ → Count
at_element c v = record { register = c.register; element = v; out = c.out; waiting = c.waiting; loaded = c.loaded }

abbrev pub with_element : Counter → ℕ → Counter
with_element k v = record { control = k.control; trigger = k.trigger; count = at_element k.count v; bus = k.bus }

unfoldable pub leapt_counter : ℕ → Counter → Bool → Counter
leapt_counter p k gate = if counts (setup_of k.control) k gate then with_element k (downs p k.count.element) else k

-- ---- laws: p counts down are p less, modulo 65,536
pub downs_less : (p v : ℕ) → v < 65536 → downs p v ≡ (v + 65535 * p) % 65536
downs_less zero v h = omega arith
downs_less (suc p) v h = omega (arith, downs_less p (down v) (omega arith))

-- a working flag that is not set is 0
pub clear : (n : ℕ) → n ≤ 1 → on n ≡ false → n ≡ 0
clear n l h = let z : n ≡ 1 → ⊥ = eqb-false n 1 h in omega arith

-- ---- one count
counts-down : (m : Mode) (c : Count) → c.out ≤ 1 → 0 < spare m c → counted_by m c ≡ at_element c (down c.element)
unfolding counted_by
counts-down m c w = by_mode m
  where
    leaves : ℕ → Count
    leaves o = record { register = c.register; element = down c.element; out = o; waiting = c.waiting; loaded = c.loaded }

    by : (o : Bool) → on c.out ≡ o → 0 < (if o then down c.element - 1 else 0) → counted_by RateGenerator c ≡ at_element c (down c.element)
    by true e h =
        rw (ne_eqb c.element 1 (λ x. omega arith), ne_eqb (down c.element) 1 (λ x. omega arith))
        (ap leaves (sym (eqb-true c.out 1 e)))
    by false e h = absurd (omega arith)

    by_mode : (m : Mode) → 0 < spare m c → counted_by m c ≡ at_element c (down c.element)
    by_mode TerminalCount h = rw (ne_eqb (down c.element) 0 (λ e. omega arith)) (ap leaves (same_flag c.out w))
    by_mode RateGenerator h = by (on c.out) refl h

spare_less : (m : Mode) (c : Count) → 0 < spare m c → spare m c ≡ suc (spare m (at_element c (down c.element)))
spare_less TerminalCount c h = omega arith
spare_less RateGenerator c h = by (on c.out) h
  where
    by : (o : Bool) → 0 < (if o then down c.element - 1 else 0)
        → (if o then down c.element - 1 else 0) ≡ suc (if o then down (down c.element) - 1 else 0)
    by true h = omega arith
    by false h = absurd (omega arith)

-- ---- a counter that a pulse leaves as it is
stands : (p : ℕ) (k : Counter) (g : Bool) → pulsed k g ≡ k → pulses p k g ≡ k
stands zero k g h = refl
stands (suc p) k g h = ap (λ (x : Counter). pulses p x g) h ∙ stands p k g h

-- ---- a counter that counts
abbrev pub part : Counter → Count → Counter
part k c = record { control = k.control; trigger = 0; count = c; bus = k.bus }

pub no_load_lem : (m : Mode) (c : Count) → on c.waiting ≡ false → pulse_loads m false c ≡ false
no_load_lem m c w = rw w (by (on c.loaded) (trigger_loads m))
  where
    by : (l t : Bool) → l && (t && false) ≡ false
    by true true = refl
    by true false = refl
    by false t = refl

module _ (k : Counter) (g : Bool) {f : Format} {m : Mode} (at : setup_of k.control ≡ Some (f, m)) where
  one-count : (c : Count) → c.out ≤ 1 → on c.waiting ≡ false → pulse_counts m g (on k.bus.halfwritten) c ≡ true → 0 < spare m c
      → pulsed (part k c) g ≡ part k (at_element c (down c.element))
  unfolding pulsed
  one-count c o w n s = rw (at, no_load_lem m c w, n) (ap (part k) (counts-down m c o s))

  pub all-counts : (p : ℕ) (c : Count) → c.out ≤ 1 → on c.waiting ≡ false → pulse_counts m g (on k.bus.halfwritten) c ≡ true → p ≤ spare m c
      → pulses p (part k c) g ≡ part k (at_element c (downs p c.element))
  all-counts zero c o w n s = refl
  all-counts (suc p) c o w n s =
      let l = spare_less m c (omega arith) in
      ap (λ (x : Counter). pulses p x g) (one-count c o w n (omega arith))
      ∙ all-counts p (at_element c (down c.element)) o w n (omega arith)

  -- no trigger and nothing to load
  no_count : k.trigger ≡ 0 → on k.count.waiting ≡ false → pulse_counts m g (on k.bus.halfwritten) k.count ≡ false → pulsed k g ≡ k
  unfolding pulsed
  no_count t w n =
      let l : pulse_loads m (on k.trigger) k.count ≡ false = rw t (no_load_lem m k.count w) in
      rw (at, l, n) (ap (λ (x : ℕ). record { control = k.control; trigger = x; count = k.count; bus = k.bus }) (sym t))

  leaps_as : (p : ℕ) → Flags k → p ≤ quiet_as (Some (f, m)) k g
      → pulses p k g ≡ (if pulse_counts m g (on k.bus.halfwritten) k.count then with_element k (downs p k.count.element) else k)
  leaps_as p v = by p (on k.trigger) (on k.count.waiting) (pulse_counts m g (on k.bus.halfwritten) k.count) refl refl refl
    where
      triggered : ℕ → ℕ → Counter
      triggered e x = record { control = k.control; trigger = x; count = at_element k.count e; bus = k.bus }

      by : (p : ℕ) (t w n : Bool) → on k.trigger ≡ t → on k.count.waiting ≡ w → pulse_counts m g (on k.bus.halfwritten) k.count ≡ n
          → p ≤ (if t || w then 0 else if n then spare m k.count else far)
          → pulses p k g ≡ (if n then with_element k (downs p k.count.element) else k)
      by p false false true t w n h =
          let z = clear k.trigger v.trigger t in
          ap (λ (x : ℕ). pulses p (triggered k.count.element x) g) z
          ∙ all-counts p k.count v.count.out w n h
          ∙ ap (triggered (downs p k.count.element)) (sym z)
      by p false false false t w n h = stands p k g (no_count (clear k.trigger v.trigger t) w n)
      by zero true w true t' w' n' h = refl
      by zero true w false t' w' n' h = refl
      by zero false true true t' w' n' h = refl
      by zero false true false t' w' n' h = refl
      by (suc p) true w n t' w' n' h = absurd (omega arith)
      by (suc p) false true n t' w' n' h = absurd (omega arith)

off : (k : Counter) (g : Bool) → setup_of k.control ≡ None → pulsed k g ≡ k
unfolding pulsed
off k g at = rw at

-- ---- any working counter: in its quiet pulses the count alone moves
pub leaps : (p : ℕ) (k : Counter) (g : Bool) → WorkingCounter k → p ≤ quiet_pulses k g → pulses p k g ≡ leapt_counter p k g
unfolding quiet_pulses leapt_counter
leaps p k g v = by (setup_of k.control) refl
  where
    by : (s : Option (Format × Mode)) → setup_of k.control ≡ s → p ≤ quiet_as s k g
        → pulses p k g ≡ (if counts s k g then with_element k (downs p k.count.element) else k)
    by None at h = stands p k g (off k g at)
    by (Some (f, m)) at h = leaps_as k g at p v.flags h

pub leapt-out : (p : ℕ) (k : Counter) (g : Bool) → (leapt_counter p k g).count.out ≡ k.count.out
unfolding leapt_counter
leapt-out p k g = by (counts (setup_of k.control) k g)
  where
    by : (n : Bool) → (if n then with_element k (downs p k.count.element) else k).count.out ≡ k.count.out
    by true = refl
    by false = refl

-- ---- no OUT falls
pub quiet_calm : (p : ℕ) (k : Counter) (g : Bool) → WorkingCounter k → p ≤ quiet_pulses k g → Calm p k g
quiet_calm p k g v h q l =
    let a : (pulses q k g).count.out ≡ k.count.out = ap (λ (x : Counter). x.count.out) (leaps q k g v (omega arith)) ∙ leapt-out q k g in
    let b : (pulses (suc q) k g).count.out ≡ k.count.out = ap (λ (x : Counter). x.count.out) (leaps (suc q) k g v (omega arith)) ∙ leapt-out (suc q) k g in
    rw (a, b) (no_fall (on k.count.out))
