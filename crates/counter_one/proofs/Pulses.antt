-- A CLK pulse of a working counter that is programmed: the mode is bit 2 of its control bits, and by the outcomes of the code's tests this is the
-- counter after the pulse. Assumes nothing.
use Rattle.std.specs.Prelude.{Option}
use Rattle.std.proofs.Common.{◌≡◌, ℕ, Bool, true, false, not, ◌&&◌, ◌||◌, eqb, sym, refl, ap, ◌∙◌, ap₂, arith, eq-eqb, ne_eqb, eqb-true}
use mir.Val.{bool_byte}
use Rattle.std.proofs.lemmas.Bool.{and_right, or_parts}
use borrow.Author.Tests.{eqb-false, not-true, not-false}
use Rattle.base.specs.Flags.{on, flag}
use Rattle.base.specs.Laws.{never, both}
use Rattle.counter_modes.specs.Bits.{mode_by, rate}
use Rattle.counter_modes.specs.Modes.{load_out}
use Rattle.counter_modes.specs.declared.Mode.{Mode}
use Rattle.counter_modes.specs.declared.Mode.TheVariants.{TerminalCount, RateGenerator}
use Rattle.counter_modes.specs.declared.Format.{Format}
use Rattle.counter_element.specs.Element.{down, load, counted, counted_by, pulse_loads, pulse_counts, pulse_taken}
use Rattle.counter_element.specs.declared.Count.{Count}
use Rattle.counter_one.specs.declared.Counter.{Counter}
use Rattle.counter_one.specs.Counter.{pulsed_as, pulsed}
use Rattle.counter_one.specs.Setups.{sets_nothing, sets_mode}
use Rattle.counter_one.specs.Working.{WorkingCounter}

-- the counter with another count, the flip-flop reset
abbrev with_count : Counter → Count → Counter
with_count c k = record { control = c.control; trigger = 0; count = k; bus = c.bus }

abbrev taken : Counter → Bool → Bool → Count
taken c gate r = pulse_taken (mode_by r) gate (on c.trigger) (on c.bus.halfwritten) c.count

in_mode : (c : Counter) (gate : Bool) → WorkingCounter c → (c.control ≡ 0 → ⊥) → pulsed c gate ≡ with_count c (taken c gate (rate c.control))
unfolding pulsed
in_mode c gate w z = sets_mode (λ (s : Option (Format × Mode)). pulsed_as s c gate ≡ with_count c (taken c gate (rate c.control))) c w z (λ f. refl)

pub unprogrammed : (c : Counter) (gate : Bool) → c.control ≡ 0 → c ≡ pulsed c gate
unfolding pulsed
unprogrammed c gate h = sym (ap (λ (s : Option (Format × Mode)). pulsed_as s c gate) (sets_nothing c.control h))

-- ---- the count after a pulse that loads, one that counts, and one that does neither
module _ (m : Mode) (gate trigger half : Bool) (k : Count) where
  pulse_loads_lem : pulse_loads m trigger k ≡ true → pulse_taken m gate trigger half k ≡ load k (load_out m)
  pulse_loads_lem h = rw h

  pulse_counts_lem : pulse_loads m trigger k ≡ false → pulse_counts m gate half k ≡ true → pulse_taken m gate trigger half k ≡ counted_by m k
  pulse_counts_lem h g = rw (h, g)

  pulse_rests : pulse_loads m trigger k ≡ false → pulse_counts m gate half k ≡ false → pulse_taken m gate trigger half k ≡ k
  pulse_rests h g = rw (h, g)

-- whether a pulse counts: GATE is high, and no first byte stops it
counts : (l g h s : Bool) → l && g ≡ true → h && s ≡ false → l && (g && not (h && s)) ≡ true
counts true true h s p q = rw q
counts true false h s p q = never p
counts false g h s p q = never p

gate-stops : (l g x : Bool) → l && g ≡ false → l && (g && x) ≡ false
gate-stops true true x p = never (sym p)
gate-stops true false x p = refl
gate-stops false g x p = refl

byte-stops : (l g : Bool) → l && (g && false) ≡ false
byte-stops true true = refl
byte-stops true false = refl
byte-stops false g = refl

-- ---- a count that counts, as the code stores it
abbrev with_flags : ℕ → ℕ → ℕ → ℕ → ℕ → Count
with_flags r e o a l = record { register = r; element = e; out = o; waiting = a; loaded = l }

byte_flag : (b : Bool) → bool_byte b ≡ flag b
byte_flag true = refl
byte_flag false = refl

counted_so : (k : Count) (o : Bool) → with_flags k.register (down k.element) (bool_byte o) k.waiting k.loaded ≡ counted k (down k.element) o
counted_so k o = ap (λ (x : ℕ). with_flags k.register (down k.element) x k.waiting k.loaded) (byte_flag o)

-- ---- the counter after the pulse, by the outcomes of the code's tests
abbrev load_test : Counter → Bool → Bool
load_test c r = on c.count.waiting || on c.count.loaded && (r && on c.trigger)

abbrev count_test : Counter → Bool → Bool
count_test c gate = not (on c.count.loaded && gate)

module _ (c : Counter) (gate : Bool) (w : WorkingCounter c) (z : c.control ≡ 0 → ⊥) where
  after : (r : Bool) {k : Count} → rate c.control ≡ r → taken c gate r ≡ k → with_count c k ≡ pulsed c gate
  after r e h = sym (in_mode c gate w z ∙ ap (with_count c) (ap (taken c gate) e ∙ h))

  pub after-load : load_test c (rate c.control) ≡ true
      → with_count c (with_flags c.count.register c.count.register (bool_byte (rate c.control)) 0 1) ≡ pulsed c gate
  after-load h = after (rate c.control) refl (by (rate c.control) h)
    where
      by : (r : Bool) → load_test c r ≡ true
          → taken c gate r ≡ with_flags c.count.register c.count.register (bool_byte r) 0 1
      by true h = pulse_loads_lem RateGenerator gate (on c.trigger) (on c.bus.halfwritten) c.count h
      by false h = pulse_loads_lem TerminalCount gate (on c.trigger) (on c.bus.halfwritten) c.count h

  pub after-rest : load_test c (rate c.control) ≡ false → count_test c gate ≡ true → with_count c c.count ≡ pulsed c gate
  after-rest h g = after (rate c.control) refl (by (rate c.control) h)
    where
      stopped : (x : Bool) → on c.count.loaded && (gate && x) ≡ false
      stopped x = gate-stops (on c.count.loaded) gate x (not-true (on c.count.loaded && gate) g)

      by : (r : Bool) → load_test c r ≡ false → taken c gate r ≡ c.count
      by true h = pulse_rests RateGenerator gate (on c.trigger) (on c.bus.halfwritten) c.count h (stopped _)
      by false h = pulse_rests TerminalCount gate (on c.trigger) (on c.bus.halfwritten) c.count h (stopped _)

  -- mode 2
  in_rate : rate c.control ≡ true → load_test c (rate c.control) ≡ false → count_test c gate ≡ false
      → taken c gate true ≡ counted_by RateGenerator c.count
  in_rate e h g =
      pulse_counts_lem RateGenerator gate (on c.trigger) (on c.bus.halfwritten) c.count (rw e at h)
      (counts (on c.count.loaded) gate (on c.bus.halfwritten) false (not-false (on c.count.loaded && gate) g)
      (and_right (on c.bus.halfwritten) false refl))

  pub after_reload : rate c.control ≡ true → load_test c (rate c.control) ≡ false → count_test c gate ≡ false → c.count.element ≡ 1
      → with_count c (with_flags c.count.register c.count.register 1 c.count.waiting c.count.loaded) ≡ pulsed c gate
  unfolding counted_by
  after_reload e h g o =
      let n : c.count.waiting ≡ 1 → ⊥ =
      eqb-false _ _ (or_parts (on c.count.waiting) (on c.count.loaded && (rate c.control && on c.trigger)) h).0 in
      let a : c.count.waiting ≡ 0 = omega (arith, w.flags.count.waiting) in
      let b : c.count.loaded ≡ 1 = eqb-true _ _ (both (on c.count.loaded) gate (not-false (on c.count.loaded && gate) g)).0 in
      after true e
      (in_rate e h g
      ∙ rw (eq-eqb c.count.element 1 o)
      (ap₂ (λ (x y : ℕ). with_flags c.count.register c.count.register 1 x y) (sym a) (sym b)))

  pub after-rate : rate c.control ≡ true → load_test c (rate c.control) ≡ false → count_test c gate ≡ false → (c.count.element ≡ 1 → ⊥)
      → with_count c
      (with_flags c.count.register (down c.count.element) (bool_byte (not (eqb (down c.count.element) 1))) c.count.waiting c.count.loaded)
      ≡ pulsed c gate
  unfolding counted_by
  after-rate e h g o =
      after true e
      (in_rate e h g ∙ rw (ne_eqb c.count.element 1 o) (sym (counted_so c.count (not (eqb (down c.count.element) 1)))))

  -- mode 0
  pub after-half : rate c.control ≡ false → load_test c (rate c.control) ≡ false → c.bus.halfwritten ≡ 1 → with_count c c.count ≡ pulsed c gate
  after-half e h o =
      after false e
      (pulse_rests TerminalCount gate (on c.trigger) (on c.bus.halfwritten) c.count (rw e at h)
      (rw (eq-eqb c.bus.halfwritten 1 o) (byte-stops (on c.count.loaded) gate)))

  pub after_terminal : rate c.control ≡ false → load_test c (rate c.control) ≡ false → count_test c gate ≡ false → (c.bus.halfwritten ≡ 1 → ⊥)
      → with_count c
      (with_flags c.count.register (down c.count.element) (bool_byte (on c.count.out || eqb (down c.count.element) 0)) c.count.waiting c.count.loaded)
      ≡ pulsed c gate
  unfolding counted_by
  after_terminal e h g o =
      after false e
      (pulse_counts_lem TerminalCount gate (on c.trigger) (on c.bus.halfwritten) c.count (rw e at h)
      (counts (on c.count.loaded) gate (on c.bus.halfwritten) true (not-false (on c.count.loaded && gate) g)
      (rw (ne_eqb c.bus.halfwritten 1 o)))
      ∙ sym (counted_so c.count (on c.count.out || eqb (down c.count.element) 0)))
