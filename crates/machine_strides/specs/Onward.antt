-- A stride in two parts: the first is heard, and is all of it; or it is not, and the second goes on from there.
use Rattle.std.specs.Prelude.{ℕ, zero, suc, ◌+◌, ◌≤◌, ◌≡◌, refl, Bool, true, false, ◌&&◌, ◌||◌, if◌then◌else◌}
use Rattle.std.proofs.Common.{arith, sym, ap, ◌∙◌}
use Rattle.base.specs.Laws.{never}
use Rattle.timer.specs.declared.Gates.{Gates}
use Rattle.machine_record.specs.Working.{WorkingClocks}
use Rattle.machine_record.specs.declared.Clocks.{Clocks}
use Rattle.machine_tick.specs.InPlace.{clocks_ticked, falls0, falls2}
use Rattle.machine_strides.specs.Strides.{heard, stride_from}
use Rattle.machine_strides.specs.Kept.{clocks_work}
use Rattle.machine_strides.specs.declared.Stride.{Stride}

-- whether the last tick was heard
abbrev pub was_heard : Stride → Bool
was_heard s = s.fell0 || s.fell2

-- d ticks more done before it
abbrev pub later : ℕ → Stride → Stride
later d s = record { clocks = s.clocks; done = d + s.done; fell0 = s.fell0; fell2 = s.fell2 }

-- what is heard fell
fell : (h0 h2 f0 f2 : Bool) → h0 && f0 || h2 && f2 ≡ true → f0 || f2 ≡ true
fell h0 h2 true f2 h = refl
fell h0 h2 false true h = refl
fell true true false false h = never h
fell true false false false h = never h
fell false true false false h = never h
fell false false false false h = never h

module _ (c : ℕ) (g : Gates) (h0 h2 : Bool) where
  abbrev S : ℕ → ℕ → Clocks → Stride
  S = stride_from c g h0 h2

  abbrev end : ℕ → Clocks → Stride
  end d l = record { clocks = clocks_ticked c g l; done = suc d; fell0 = falls0 l (clocks_ticked c g l); fell2 = falls2 l (clocks_ticked c g l) }

  pub shifted : (n d e : ℕ) (l : Clocks) → S n (d + e) l ≡ later d (S n e l)
  shifted zero d e l = refl
  shifted (suc n) d e l = by (λ k. shifted n d (suc e) k) (heard h0 h2 l (clocks_ticked c g l))
    where
      by : ((k : Clocks) → S n (d + suc e) k ≡ later d (S n (suc e) k)) → (x : Bool)
          → (if x then end (d + e) l else S n (suc (d + e)) (clocks_ticked c g l)) ≡ later d (if x then end e l else S n (suc e) (clocks_ticked c g l))
      by on true = let z : suc (d + e) ≡ d + suc e = omega arith in rw z
      by on false = let z : suc (d + e) ≡ d + suc e = omega arith in ap (λ (k : ℕ). S n k (clocks_ticked c g l)) z ∙ on (clocks_ticked c g l)

  -- the first part is heard
  pub stops-there : (i n d : ℕ) (l : Clocks) → was_heard (S i d l) ≡ true → S (i + n) d l ≡ S i d l
  stops-there zero n d l h = never h
  stops-there (suc i) n d l h =
      let z : suc i + n ≡ suc (i + n) = omega arith in
      ap (λ (k : ℕ). S k d l) z ∙ by (λ k. stops-there i n (suc d) k) (heard h0 h2 l (clocks_ticked c g l)) h
    where
      by : ((k : Clocks) → was_heard (S i (suc d) k) ≡ true → S (i + n) (suc d) k ≡ S i (suc d) k) → (x : Bool)
          → was_heard (if x then end d l else S i (suc d) (clocks_ticked c g l)) ≡ true
          → (if x then end d l else S (i + n) (suc d) (clocks_ticked c g l)) ≡ (if x then end d l else S i (suc d) (clocks_ticked c g l))
      by on true h = refl
      by on false h = on (clocks_ticked c g l) h

  -- it is not
  pub goes_on : (i n d : ℕ) (l : Clocks) → was_heard (S i d l) ≡ false → ((S i d l).done ≡ d + i) × (S (i + n) d l ≡ S n (d + i) (S i d l).clocks)
  goes_on zero n d l h =
      let z : 0 + n ≡ n = omega arith in
      let y : d ≡ d + 0 = omega arith in
      (y, ap (λ (k : ℕ). S k d l) z ∙ ap (λ (k : ℕ). S n k l) y)
  goes_on (suc i) n d l h = by (λ k. goes_on i n (suc d) k) (heard h0 h2 l (clocks_ticked c g l)) refl h
    where
      by : ((k : Clocks) → was_heard (S i (suc d) k) ≡ false
          → ((S i (suc d) k).done ≡ suc d + i) × (S (i + n) (suc d) k ≡ S n (suc d + i) (S i (suc d) k).clocks))
          → (x : Bool) → heard h0 h2 l (clocks_ticked c g l) ≡ x → was_heard (if x then end d l else S i (suc d) (clocks_ticked c g l)) ≡ false
          → ((if x then end d l else S i (suc d) (clocks_ticked c g l)).done ≡ d + suc i)
          × (S (suc i + n) d l ≡ S n (d + suc i) (if x then end d l else S i (suc d) (clocks_ticked c g l)).clocks)
      by on true e h = never (sym h ∙ fell h0 h2 (falls0 l (clocks_ticked c g l)) (falls2 l (clocks_ticked c g l)) e)
      by on false e h =
          let r = on (clocks_ticked c g l) h in
          let z : suc i + n ≡ suc (i + n) = omega arith in
          let y : suc d + i ≡ d + suc i = omega arith in
          let o : S (suc (i + n)) d l ≡ S (i + n) (suc d) (clocks_ticked c g l) = rw e in
          (r.0 ∙ y, ap (λ (k : ℕ). S k d l) z ∙ o ∙ r.1 ∙ ap (λ (k : ℕ). S n k (S i (suc d) (clocks_ticked c g l)).clocks) y)

  -- its clocks are a working board's
  pub stride_works : (n d : ℕ) (l : Clocks) → WorkingClocks l → WorkingClocks (S n d l).clocks
  stride_works zero d l w = w
  stride_works (suc n) d l w = by (λ k v. stride_works n (suc d) k v) (heard h0 h2 l (clocks_ticked c g l))
    where
      by : ((k : Clocks) → WorkingClocks k → WorkingClocks (S n (suc d) k).clocks) → (x : Bool)
          → WorkingClocks (if x then end d l else S n (suc d) (clocks_ticked c g l)).clocks
      by on true = clocks_work c g l w
      by on false = on (clocks_ticked c g l) (clocks_work c g l w)

  -- no more than n were done
  at_most : (n d : ℕ) (l : Clocks) → (S n d l).done ≤ d + n
  at_most zero d l = omega arith
  at_most (suc n) d l = by (λ k. at_most n (suc d) k) (heard h0 h2 l (clocks_ticked c g l))
    where
      by : ((k : Clocks) → (S n (suc d) k).done ≤ suc d + n) → (x : Bool) → (if x then end d l else S n (suc d) (clocks_ticked c g l)).done ≤ d + suc n
      by on true = omega arith
      by on false = omega (arith, on (clocks_ticked c g l))

  pub few : (n : ℕ) (l : Clocks) → (S n 0 l).done ≤ n
  few n l = omega (arith, at_most n 0 l)
