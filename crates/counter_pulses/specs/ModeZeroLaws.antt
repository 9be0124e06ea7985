-- What the theorems of ModeZero rest on: a counter in mode 0 as a count comes to it, and signal by signal after that.
use Rattle.std.specs.Prelude.{◌≡◌, ℕ, suc, Bool, true, false, ◌&&◌, ◌||◌, List, [], ◌∷◌, ◌==◌, nat_le, refl, if◌then◌else◌, Some}
use Rattle.std.proofs.Common.{arith, sym, ap, ◌∙◌, eqb-true, le-leb}
use Rattle.std.proofs.Math.Path.{subst⁻¹}
use Rattle.std.proofs.Math.Bool.{and-false, or-false}
use Rattle.std.proofs.lemmas.Bool.{eqb-false}
use Rattle.std.proofs.Math.Dec.{leb-suc-zero, leb-suc-suc}
use Rattle.base.specs.Flags.{on, flag, on-flag}
use Rattle.counter_modes.specs.Control.{setup_of}
use Rattle.counter_modes.specs.declared.Mode.TheVariants.{TerminalCount}
use Rattle.counter_modes.specs.declared.Format.{Format}
use Rattle.counter_element.specs.Element.{down, counted_by}
use Rattle.counter_bytes.specs.Bytes.{piece_of, bytes_after}
use Rattle.counter_bytes.specs.declared.Piece.TheVariants.{First, Whole}
use Rattle.counter_bytes.specs.declared.Bus.{Bus}
use Rattle.counter_one.specs.Counter.{pulsed, gate_moved, byte_written}
use Rattle.counter_one.specs.declared.Counter.{Counter}
use Rattle.counter_pulses.specs.Signals.{Signal, clk, gate, after_signals, high_pulses, any_pulse}

module _ (k : Counter) {f : Format} (at : setup_of k.control ≡ Some (f, TerminalCount)) (s : Bus) (r : ℕ) where
  -- the counter with other numbers; s is what the bus has written of it, r the count to load
  abbrev pub with : ℕ → ℕ → ℕ → ℕ → ℕ → Counter
  with t v o w l = record { control = k.control; trigger = t; count = record { register = r; element = v; out = o; waiting = w; loaded = l }; bus = s }

  pub gated : (t v : ℕ) (o : Bool) (w l : ℕ) (g h : Bool) → gate_moved (with t v (flag o) w l) g h ≡ with (flag (on t || false)) v (flag o) w l
  unfolding gate_moved
  gated t v o w l g h = rw (at, on-flag o, or-false o)

  pub loads : (t v o w l : ℕ) (g : Bool) → on w ≡ true → pulsed (with t v o w l) g ≡ with 0 r 0 0 1
  unfolding pulsed
  loads t v o w l g e = rw (at, e)

  idles : (t v : ℕ) (g : Bool) → pulsed (with t v 0 0 0) g ≡ with 0 v 0 0 0
  unfolding pulsed
  idles t v g = rw at

  -- ---- counting: OUT goes high as the count comes to 0
  module _ (h : on s.halfwritten ≡ false) where
    counts : (t v : ℕ) (o : Bool) → pulsed (with t v (flag o) 0 1) true ≡ with 0 (down v) (flag (o || down v == 0)) 0 1
    unfolding pulsed counted_by
    counts t v o = rw (at, h, on-flag o)

    stands : (t v o : ℕ) → pulsed (with t v o 0 1) false ≡ with 0 v o 0 1
    unfolding pulsed
    stands t v o = rw at

    reached : (v p : ℕ) (o : Bool) → (o || down v == 0) || nat_le (suc (down (down v))) p ≡ o || nat_le (suc (down v)) (suc p)
    reached v p true = refl
    reached v p false = by (down v == 0) refl
      where
        by : (x : Bool) → (down v == 0) ≡ x → x || nat_le (suc (down (down v))) p ≡ nat_le (suc (down v)) (suc p)
        by true e = let z = eqb-true (down v) 0 e in sym (le-leb (suc (down v)) (suc p) (omega arith))
        by false e =
            let z : down v ≡ 0 → ⊥ = eqb-false (down v) 0 e in
            let d : suc (down (down v)) ≡ down v = omega arith in
            rw d (sym (leb-suc-suc (down v) p))

    pub out-counted : (t v : ℕ) (o : Bool) (g : Bool) (x : List Signal)
        → on (after_signals (with t v (flag o) 0 1) g x).count.out ≡ o || nat_le (suc (down v)) (high_pulses g x)
    out-counted t v o g [] = rw (on-flag o, leb-suc-zero (down v), or-false o)
    out-counted t v o true (clk ∷ x) =
        ap (λ (c : Counter). on (after_signals c true x).count.out) (counts t v o) ∙ out-counted 0 (down v) (o || down v == 0) true x
        ∙ reached v (high_pulses true x) o
    out-counted t v o false (clk ∷ x) = ap (λ (c : Counter). on (after_signals c false x).count.out) (stands t v (flag o)) ∙ out-counted 0 v o false x
    out-counted t v o g (gate i ∷ x) =
        ap (λ (c : Counter). on (after_signals c i x).count.out) (gated t v o 0 1 g i) ∙ out-counted (flag (on t || false)) v o i x

  -- ---- before a count is written: OUT is low
  pub unloaded : (t v : ℕ) (g : Bool) (x : List Signal) → (after_signals (with t v 0 0 0) g x).count.out ≡ 0
  unloaded t v g [] = refl
  unloaded t v g (clk ∷ x) = ap (λ (c : Counter). (after_signals c g x).count.out) (idles t v g) ∙ unloaded 0 v g x
  unloaded t v g (gate i ∷ x) = ap (λ (c : Counter). (after_signals c i x).count.out) (gated t v false 0 0 g i) ∙ unloaded (flag (on t || false)) v i x

  -- ---- the first of two bytes: a count that waits is loaded all the same, then the count stands
  module _ (h : on s.halfwritten ≡ true) where
    halted : (t v w l : ℕ) (g : Bool) → on w ≡ false → pulsed (with t v 0 w l) g ≡ with 0 v 0 w l
    unfolding pulsed
    halted t v w l g e = rw (at, e, h, and-false g, and-false (on l))

    abbrev Halted : ℕ → Bool → Counter → Type 0
    Halted v b c = (c.count.out ≡ 0) × (c.count.element ≡ (if b then r else v))

    pub halts : (t v w l : ℕ) (g : Bool) (x : List Signal) → Halted v (on w && any_pulse x) (after_signals (with t v 0 w l) g x)
    halts t v w l g [] = rw (and-false (on w)) (refl, refl)
    halts t v w l g (clk ∷ x) = by (on w) refl (halts 0 r 0 1 g x) (halts 0 v w l g x)
      where
        by : (b : Bool) → on w ≡ b → Halted r false (after_signals (with 0 r 0 0 1) g x) → Halted v (on w && any_pulse x) (after_signals (with 0 v 0 w l) g x)
            → Halted v (b && true) (after_signals (with t v 0 w l) g (clk ∷ x))
        by true e p q = subst⁻¹ (λ (c : Counter). Halted v true (after_signals c g x)) (loads t v 0 w l g e) p
        by false e p q = subst⁻¹ (λ (c : Counter). Halted v false (after_signals c g x)) (halted t v w l g e) (rw e at q)
    halts t v w l g (gate i ∷ x) =
        subst⁻¹ (λ (c : Counter). Halted v (on w && any_pulse x) (after_signals c i x)) (gated t v false w l g i) (halts (flag (on t || false)) v w l i x)

-- ---- a byte of a count
module _ (k : Counter) {f : Format} (at : setup_of k.control ≡ Some (f, TerminalCount)) (b : ℕ) where
  pub whole-written : {n : ℕ} → piece_of f k.bus b ≡ Whole n
      → byte_written k b ≡ with k at (bytes_after k.bus (Whole n)) n k.trigger k.count.element 0 1 k.count.loaded
  unfolding byte_written
  whole-written q = rw (at, q, and-false (on k.count.out))

  pub first-written : {c : ℕ} → piece_of f k.bus b ≡ First c
      → byte_written k b
      ≡ with k at (bytes_after k.bus (First c)) k.count.register k.trigger k.count.element 0 k.count.waiting k.count.loaded
  unfolding byte_written
  first-written q = rw (at, q, and-false (on k.count.out))
