-- Many pulses of a working counter: by the outcomes of the code's tests, the pulses in which its count alone moves, the counter after some of them,
-- and its period. Assumes nothing.
use Rattle.std.specs.Prelude.{Option, Some, None}
use Rattle.std.proofs.Common.{◌≡◌, ℕ, ◌+◌, ◌-◌, ◌/◌, ◌%◌, ◌<◌, ◌≤◌, Bool, true, false, not, ◌&&◌, ◌||◌, eqb, sym, refl, ◌∙◌, arith}
use Rattle.std.proofs.Common.{eqb-true, if◌then◌else◌}
use borrow.Author.Tests.{eqb-false}
use Rattle.base.specs.Flags.{on}
use Rattle.base.specs.Laws.{never, both, not_not, not_true}
use Rattle.counter_modes.specs.Bits.{mode_by, rate, mode_bit}
use Rattle.counter_modes.specs.Control.{setup_of}
use Rattle.counter_modes.specs.declared.Format.{Format}
use Rattle.counter_modes.specs.declared.Mode.{Mode}
use Rattle.counter_element.specs.Element.{down}
use Rattle.counter_one.specs.Setups.{sets_nothing, sets_mode}
use Rattle.counter_one.specs.Working.{WorkingCounter}
use Rattle.counter_one.specs.declared.Counter.{Counter}
use Rattle.counter_pulses.specs.Pulses.{downs, downs_less, far, spare, counts, quiet_as, quiet_pulses}
use Rattle.counter_pulses.specs.Periods.{cycles, lap_of, period_as, period, Lap, Period}
use Rattle.counter_pulses.specs.Faces.{settled}

-- ---- an unprogrammed counter
pub off-quiet : (k : Counter) (g : Bool) → k.control ≡ 0 → far ≡ quiet_pulses k g
unfolding quiet_pulses
off-quiet k g z = rw (sets_nothing k.control z)

-- ---- a programmed one
-- whether it counts, by the bit that tells the mode
abbrev count_test : Counter → Bool → Bool → Bool
count_test k g r = on k.count.loaded && (g && not (on k.bus.halfwritten && not r))

pub counts_so : (k : Counter) (g : Bool) → WorkingCounter k → not (eqb k.control 0) && count_test k g (rate k.control) ≡ counts (setup_of k.control) k g
counts_so k g w = by (eqb k.control 0) refl
  where
    in_mode : (f : Format) (r : Bool) → count_test k g r ≡ counts (Some (f, mode_by r)) k g
    in_mode f true = refl
    in_mode f false = refl

    by : (z : Bool) → eqb k.control 0 ≡ z → not z && count_test k g (rate k.control) ≡ counts (setup_of k.control) k g
    by true e = rw (sets_nothing k.control (eqb-true k.control 0 e))
    by false e =
        sets_mode (λ (s : Option (Format × Mode)). count_test k g (rate k.control) ≡ counts s k g) k w (eqb-false k.control 0 e)
        (λ f. in_mode f (rate k.control))

module _ (k : Counter) (g : Bool) (w : WorkingCounter k) (z : k.control ≡ 0 → ⊥) where
  quiet_by : (if on k.trigger || on k.count.waiting then 0 else if counts (setup_of k.control) k g then spare (mode_by (rate k.control)) k.count else far)
      ≡ quiet_pulses k g
  unfolding quiet_pulses
  quiet_by =
      sets_mode (λ (s : Option (Format × Mode)). (if on k.trigger || on k.count.waiting then 0
      else if counts s k g then spare (mode_by (rate k.control)) k.count else far) ≡ quiet_as s k g) k w z (λ f. refl)

  pub pending : false ≡ settled k → 0 ≡ quiet_pulses k g
  pending h = rw (not_not (on k.trigger || on k.count.waiting) (sym h)) at quiet_by

  -- no pulse loads
  module _ (h : true ≡ settled k) where
    settled-quiet : (if counts (setup_of k.control) k g then spare (mode_by (rate k.control)) k.count else far) ≡ quiet_pulses k g
    settled-quiet = rw (not_true (on k.trigger || on k.count.waiting) (sym h)) at quiet_by

    pub idle : false ≡ counts (setup_of k.control) k g → far ≡ quiet_pulses k g
    idle n = rw (sym n) at settled-quiet

    -- it counts
    module _ (n : true ≡ counts (setup_of k.control) k g) where
      spares : (r : Bool) → r ≡ rate k.control → spare (mode_by r) k.count ≡ quiet_pulses k g
      spares r e = rw (sym n, sym e) at settled-quiet

      pub spares_terminal : false ≡ rate k.control → down k.count.element ≡ quiet_pulses k g
      spares_terminal e = spares false e

      pub spares-none : true ≡ rate k.control → not (on k.count.out) || eqb (down k.count.element) 0 ≡ true → 0 ≡ quiet_pulses k g
      spares-none e o = by (on k.count.out) o ∙ spares true e
        where
          by : (x : Bool) → not x || eqb (down k.count.element) 0 ≡ true → 0 ≡ (if x then down k.count.element - 1 else 0)
          by true o = omega (arith, eqb-true (down k.count.element) 0 o)
          by false o = refl

      pub spares-rate : true ≡ rate k.control → not (on k.count.out) || eqb (down k.count.element) 0 ≡ false → down k.count.element - 1 ≡ quiet_pulses k g
      spares-rate e o = by (on k.count.out) o ∙ spares true e
        where
          by : (x : Bool) → not x || eqb (down k.count.element) 0 ≡ false → down k.count.element - 1 ≡ (if x then down k.count.element - 1 else 0)
          by true o = refl
          by false o = cc

-- there is one less than the pulses left
pub some_left : (o : Bool) (v : ℕ) → not o || eqb v 0 ≡ false → 1 ≤ v
some_left true v h = let z : v ≡ 0 → ⊥ = eqb-false v 0 h in omega arith
some_left false v h = never (sym h)

-- p counts down are p less, modulo 65,536
pub lowers : (p v : ℕ) → v < 65536 → (v + (65536 - p % 65536)) % 65536 ≡ downs p v
lowers p v h = omega (arith, downs_less p v h)

-- ---- a period
-- the tests as the code makes them
abbrev turn_test : Counter → Bool → Bool
turn_test k g = (((rate k.control && settled k) && on k.count.out) && on k.count.loaded) && g

in_row : (a t w d e f : Bool) → a && (not t && (not w && (d && (e && f)))) ≡ (((a && not (t || w)) && d) && e) && f
in_row true false false true e f = refl
in_row true false false false e f = refl
in_row true false true d e f = refl
in_row true true w d e f = refl
in_row false t w d e f = refl

module _ (k : Counter) (g : Bool) where
  turns : rate k.control && cycles k g ≡ turn_test k g
  turns = in_row (rate k.control) (on k.trigger) (on k.count.waiting) (on k.count.out) (on k.count.loaded) g

  pub in_period : WorkingCounter k → turn_test k g ≡ true → {x : ℕ} → Lap k.count.register k.count.element x → Period k g x
  unfolding period
  in_period w h l =
      let b = both (rate k.control) (cycles k g) (turns ∙ h) in
      let e = sets_mode (λ (s : Option (Format × Mode)). lap ≡ period_as s k g) k w (programmed b.0) (λ f. by f (rate k.control) b.0 b.1) in
      record { is = l.is ∙ e; small = l.small; words = λ p. l.words }
    where
      lap : ℕ
      lap = lap_of k.count.register k.count.element

      programmed : rate k.control ≡ true → k.control ≡ 0 → ⊥
      programmed r z = omega (arith, eqb-true (k.control / 4 % 2) 1 r)

      by : (f : Format) (r : Bool) → r ≡ true → cycles k g ≡ true → lap ≡ period_as (Some (f, mode_by r)) k g
      by f true e c = rw c
      by f false e c = cc

  pub no_period : turn_test k g ≡ false → Period k g 0
  unfolding period
  no_period h = record { is = go (setup_of k.control) refl; small = omega arith; words = λ p. absurd (omega arith) }
    where
      by : (f : Format) (r : Bool) → r && cycles k g ≡ false → 0 ≡ period_as (Some (f, mode_by r)) k g
      by f true e = rw e
      by f false e = refl

      go : (s : Option (Format × Mode)) → setup_of k.control ≡ s → 0 ≡ period_as s k g
      go None e = refl
      go (Some (f, m)) e = rw (mode_bit k.control f m e) (by f (rate k.control) (turns ∙ h))
