-- The test that the code makes is the row of tests. Assumes nothing.
use Rattle.std.specs.Prelude.{◌≡◌, refl, List, Bool, true, false, ◌&&◌, ◌||◌, not, ℕ, zero, suc, ◌/◌, ◌≤◌, length, take, drop, leb, ltb, eqb}
use Rattle.std.proofs.Common.{ap, sym, ◌∙◌, arith, take_all, leb-true, eqb-true, ne_eqb}
use Rattle.std.proofs.lemmas.Bool.{eqb-false, lt-leb}
use Rattle.base.specs.Flags.{on}
use Rattle.base.specs.Laws.{both}
use Rattle.fifo.specs.declared.Fifo.{Fifo}
use Rattle.fifo.specs.Queue.{turned, zeros, free_places, fifo_tests, is_working_fifo}
use Rattle.fifo.specs.Queue.Circle.{turned_none}

-- OVF is 0, or 1 at 512 held
at-most_full : (o : ℕ) → leb o 0 ≡ leb o 1 && (not (on o) || false)
at-most_full zero = refl
at-most_full (suc zero) = refl
at-most_full (suc (suc o)) = rw (lt-leb (suc (suc o)) 0 (omega arith), lt-leb (suc (suc o)) 1 (omega arith))

at-full : (t b : Bool) → b ≡ b && (not t || true)
at-full true true = refl
at-full true false = refl
at-full false true = refl
at-full false false = refl

ovf_tested : (o h : ℕ) → h ≤ 512 → leb o (h / 512) ≡ leb o 1 && (not (on o) || eqb h 512)
ovf_tested o h l = by (eqb h 512) refl
  where
    by : (b : Bool) → eqb h 512 ≡ b → leb o (h / 512) ≡ leb o 1 && (not (on o) || b)
    by true t = let e : h ≡ 512 = eqb-true h 512 t in ap (leb o) (let q : h / 512 ≡ 1 = omega arith in q) ∙ at-full (on o) (leb o 1)
    by false t =
        let q : h / 512 ≡ 0 = below (eqb-false h 512 t) in
        ap (leb o) q ∙ at-most_full o
      where
        below : (h ≡ 512 → ⊥) → h / 512 ≡ 0
        below e = omega (arith, e, l)

-- what the first test of the code says of the row: its first two tests, and those of OVF
abbrev First : Fifo → List ℕ → Bool
First f m = (eqb (length m) 512 && leb f.held 512) && leb f.ovf (f.held / 512)

abbrev Passes : Fifo → List ℕ → Type 0
Passes f m = (eqb (length m) 512 ≡ true) × (leb f.held 512 ≡ true) × (leb f.ovf 1 ≡ true) × (not (on f.ovf) || eqb f.held 512 ≡ true)

passes : (f : Fifo) (m : List ℕ) → First f m ≡ true → Passes f m
passes f m h =
    let t = both (eqb (length m) 512 && leb f.held 512) (leb f.ovf (f.held / 512)) h in
    let u = both (eqb (length m) 512) (leb f.held 512) t.0 in
    let o = both (leb f.ovf 1) (not (on f.ovf) || eqb f.held 512) (sym (ovf_tested f.ovf f.held (leb-true f.held 512 u.1)) ∙ t.1) in
    (u.0, u.1, o.0, o.1)

-- none held: the place is 0, and so is every number
none_row : (p c b z : Bool) → (p ≡ true → c ≡ true) → (p ≡ true → b ≡ z) → p && b ≡ ((((true && c) && p) && true) && true) && z
none_row true c b z h k = rw (h refl) (k refl)
none_row false true b z h k = refl
none_row false false b z h k = refl

pub none_tested : (f : Fifo) (m : List ℕ) (bits : ℕ) → First f m ≡ true → f.held ≡ 0 → eqb bits 0 ≡ zeros (take 512 (drop 0 m))
    → eqb f.place 0 && eqb bits 0 ≡ is_working_fifo f m
unfolding is_working_fifo fifo_tests
none_tested f m bits h n e =
    let t = passes f m h in
    let l : length m ≡ 512 = eqb-true (length m) 512 t.0 in
    rw (t.0, t.1, t.2, t.3, n)
    (none_row (eqb f.place 0) (ltb f.place 512) (eqb bits 0) (zeros (turned f.place m)) (λ z. rw (eqb-true f.place 0 z))
    (λ z. e ∙ ap zeros (take_all 512 m (omega arith) ∙ sym (turned_none m) ∙ ap (λ (p : ℕ). turned p m) (sym (eqb-true f.place 0 z)))))

-- some held: there is such a place, and every free one is 0
some-row : (c z : Bool) → c && z ≡ ((((true && c) && true) && true) && true) && z
some-row true z = refl
some-row false z = refl

pub some_tested : (f : Fifo) (m : List ℕ) → First f m ≡ true → (f.held ≡ 0 → ⊥) → ltb f.place 512 && zeros (free_places f m) ≡ is_working_fifo f m
unfolding is_working_fifo fifo_tests
some_tested f m h n =
    let t = passes f m h in
    rw (t.0, t.1, t.2, t.3, ne_eqb f.held 0 n) (some-row (ltb f.place 512) (zeros (free_places f m)))

-- ---- where the first test fails
unfit-row : (c d e g z : Bool) → e && g ≡ false → false ≡ (((c && d) && e) && g) && z
unfit-row false d e g z h = refl
unfit-row true false e g z h = refl
unfit-row true true false g z h = refl
unfit-row true true true g z h = rw h

pub unfit : (f : Fifo) (m : List ℕ) → First f m ≡ false → false ≡ is_working_fifo f m
unfolding is_working_fifo fifo_tests
unfit f m h = by (eqb (length m) 512) (leb f.held 512) refl h
  where
    placed : Bool
    placed = not (eqb f.held 0) || eqb f.place 0

    full : Bool
    full = not (on f.ovf) || eqb f.held 512

    by : (a b : Bool) → leb f.held 512 ≡ b → (a && b) && leb f.ovf (f.held / 512) ≡ false
        → false ≡ (((((a && b) && ltb f.place 512) && placed) && leb f.ovf 1) && full) && zeros (free_places f m)
    by false b t k = refl
    by true false t k = refl
    by true true t k =
        unfit-row (ltb f.place 512) placed (leb f.ovf 1) full (zeros (free_places f m))
        (sym (ovf_tested f.ovf f.held (leb-true f.held 512 t)) ∙ k)
