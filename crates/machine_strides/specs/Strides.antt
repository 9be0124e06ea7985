-- Ticks of the clocks one after another, as far as the first with which a listener has something to do (the specification, "Conversions, edges and
-- requests": with TINTE a falling OUT0 sets TINT, with CLKEN and CLKSEL = 1 a falling OUT2 is a trigger); and ticks that can be passed over.
use Rattle.std.specs.Prelude.{ℕ, zero, suc, ◌+◌, ◌≤◌, ◌<◌, ◌≡◌, refl, Bool, true, false, ◌&&◌, ◌||◌, if◌then◌else◌}
use Rattle.std.proofs.Common.{arith, sym, ap, ◌∙◌, subst}
use Rattle.timer.specs.declared.Gates.{Gates}
use Rattle.machine_record.specs.declared.Clocks.{Clocks}
use Rattle.machine_tick.specs.InPlace.{clocks_ticked, falls0, falls2}
use Rattle.machine_strides.specs.declared.Stride.{Stride}
use Rattle.machine_strides.specs.declared.skips.Skip.{Skip}

-- ---- n ticks, by the byte of Base+10 and the gates
abbrev pub clocks_after : ℕ → Gates → ℕ → Clocks → Clocks
clocks_after c g zero l = l
clocks_after c g (suc n) l = clocks_after c g n (clocks_ticked c g l)

-- whether a tick is heard, where a falling OUT0 is (h0), where a falling OUT2 is (h2)
abbrev pub heard : Bool → Bool → Clocks → Clocks → Bool
heard h0 h2 was is = h0 && falls0 was is || h2 && falls2 was is

-- ---- at most n ticks more, d done; which outputs fell in the last one, where it was heard
abbrev pub stride_from : ℕ → Gates → Bool → Bool → ℕ → ℕ → Clocks → Stride
stride_from c g h0 h2 zero d l = record { clocks = l; done = d; fell0 = false; fell2 = false }
stride_from c g h0 h2 (suc n) d l =
    if heard h0 h2 l (clocks_ticked c g l)
    then record { clocks = clocks_ticked c g l; done = suc d; fell0 = falls0 l (clocks_ticked c g l); fell2 = falls2 l (clocks_ticked c g l) }
    else stride_from c g h0 h2 n (suc d) (clocks_ticked c g l)

unfoldable pub stride_of : ℕ → Gates → Bool → Bool → ℕ → Clocks → Stride
stride_of c g h0 h2 n l = stride_from c g h0 h2 n 0 l

-- ---- j ticks lead from l to m, and neither OUT0 nor OUT2 falls in any
abbrev pub Silent : ℕ → Gates → Clocks → Type 0
Silent c g l = (falls0 l (clocks_ticked c g l) ≡ false) × (falls2 l (clocks_ticked c g l) ≡ false)

pub record Skips (c : ℕ) (g : Gates) (j : ℕ) (l m : Clocks) : Type 0 where
  pub to : clocks_after c g j l ≡ m
  pub silent : (i : ℕ) → i < j → Silent c g (clocks_after c g i l)

-- what is skipped, `left` ticks at most
pub record Skipped (c : ℕ) (g : Gates) (l : Clocks) (left : ℕ) (s : Skip) : Type 0 where
  pub skips : Skips c g s.ticks l s.clocks
  pub within : s.ticks ≤ left

module _ (c : ℕ) (g : Gates) where
  pub none_skipped : (l : Clocks) → Skips c g 0 l l
  none_skipped l = record { to = refl; silent = λ i h. absurd (omega arith) }

  -- a silent tick, then the others
  pub one_skipped : (j : ℕ) (l m : Clocks) → Silent c g l → Skips c g j (clocks_ticked c g l) m → Skips c g (suc j) l m
  one_skipped j l m h s = record { to = s.to; silent = by }
    where
      by : (i : ℕ) → i < suc j → Silent c g (clocks_after c g i l)
      by zero k = h
      by (suc i) k = s.silent i (omega arith)

  -- some, then some more
  pub skips-on : (j i : ℕ) (l m o : Clocks) → Skips c g j l m → Skips c g i m o → Skips c g (j + i) l o
  skips-on zero i l m o s t = let e : i ≡ 0 + i = omega arith in subst (λ (k : ℕ). Skips c g k l o) e (subst (λ (x : Clocks). Skips c g i x o) (sym s.to) t)
  skips-on (suc j) i l m o s t =
      let e : suc (j + i) ≡ suc j + i = omega arith in
      let r = skips-on j i (clocks_ticked c g l) m o (record { to = s.to; silent = λ k h. s.silent (suc k) (omega arith) }) t in
      subst (λ (k : ℕ). Skips c g k l o) e (one_skipped (j + i) l o (s.silent 0 (omega arith)) r)

  -- nobody hears a silent tick
  unheard : (h0 h2 : Bool) (l : Clocks) → Silent c g l → heard h0 h2 l (clocks_ticked c g l) ≡ false
  unheard h0 h2 l s = rw (s.0, s.1) (by h0 h2)
    where
      by : (x y : Bool) → x && false || y && false ≡ false
      by true true = refl
      by true false = refl
      by false true = refl
      by false false = refl

  -- so a stride passes over them
  pub passes_over : (h0 h2 : Bool) (j n d : ℕ) (l m : Clocks) → Skips c g j l m
      → stride_from c g h0 h2 (j + n) d l ≡ stride_from c g h0 h2 n (d + j) m
  passes_over h0 h2 zero n d l m s =
      let e : 0 + n ≡ n = omega arith in
      let f : d ≡ d + 0 = omega arith in
      ap (λ (k : ℕ). stride_from c g h0 h2 k d l) e ∙ ap (λ (k : ℕ). stride_from c g h0 h2 n k l) f ∙ ap (stride_from c g h0 h2 n (d + 0)) s.to
  passes_over h0 h2 (suc j) n d l m s =
      let e : suc j + n ≡ suc (j + n) = omega arith in
      let f : suc d + j ≡ d + suc j = omega arith in
      ap (λ (k : ℕ). stride_from c g h0 h2 k d l) e ∙ one (j + n) (unheard h0 h2 l (s.silent 0 (omega arith)))
      ∙ passes_over h0 h2 j n (suc d) (clocks_ticked c g l) m (record { to = s.to; silent = λ i h. s.silent (suc i) (omega arith) })
      ∙ ap (λ (k : ℕ). stride_from c g h0 h2 n k m) f
    where
      one : (k : ℕ) → heard h0 h2 l (clocks_ticked c g l) ≡ false → stride_from c g h0 h2 (suc k) d l ≡ stride_from c g h0 h2 k (suc d) (clocks_ticked c g l)
      one k a = rw a
