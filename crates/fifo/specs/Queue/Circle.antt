-- The circle of places: read from another place on, it has the same numbers, and a store is a store. Assumes nothing.
use Rattle.std.specs.Prelude.{◌≡◌, refl, List, [], ◌∷◌, ◌++◌, Bool, true, false, ℕ, suc, ◌+◌, ◌-◌, ◌%◌, ◌≤◌, ◌<◌, length, take, drop, set, replicate, ltb}
use Rattle.std.proofs.Common.{ap, sym, ◌∙◌, append-nil, add_comm, zero-add, suc-add, arith, length-append, length-drop, take-append-drop, drop_of_length-le}
use Rattle.std.proofs.Common.{take_at, drop_at, take_all, drop-set-lt, ltb-true, ltb-false}
use Rattle.std.proofs.lemmas.List.{length-replicate, replicate-append-replicate, take-append-le, drop-append-le, set-append_left, take-set-le, drop-set-add}
use Rattle.std.proofs.Math.Seq.{append_snoc, take-set-lt}
use Rattle.fifo.specs.Queue.{turned}

pub length_turned : (p : ℕ) (m : List ℕ) → length (turned p m) ≡ length m
unfolding turned
length_turned p m =
    length-append (drop p m) (take p m)
    ∙ add_comm (length (drop p m)) (length (take p m))
    ∙ sym (length-append (take p m) (drop p m))
    ∙ ap length (take-append-drop p m)

-- ---- what stands before a place comes behind
turned-at : (x y : List ℕ) (n : ℕ) → length x ≡ n → turned n (x ++ y) ≡ y ++ x
unfolding turned
turned-at x y n e = ap (λ (l : List ℕ). l ++ take n (x ++ y)) (drop_at x y n e) ∙ ap (λ (l : List ℕ). y ++ l) (take_at x y n e)

-- a part of the way round, and then the rest of it
pub turn-back : (a b : ℕ) (m : List ℕ) → a + b ≡ length m → turned a (turned b m) ≡ m
unfolding turned
turn-back a b m e = turned-at (drop b m) (take b m) a (length-drop b m ∙ omega arith) ∙ take-append-drop b m

pub turned_none : (m : List ℕ) → turned 0 m ≡ m
unfolding turned
turned_none m = append-nil m

pub turned-whole : (m : List ℕ) (n : ℕ) → length m ≤ n → turned n m ≡ m
unfolding turned
turned-whole m n h = ap (λ (l : List ℕ). l ++ take n m) (drop_of_length-le m h) ∙ take_all n m h

-- one place further
pub turned_on : (n x : ℕ) (l : List ℕ) → n ≤ length l → turned (suc n) (x ∷ l) ≡ turned n (l ++ x ∷ [])
unfolding turned
turned_on n x l h =
    sym (
    ap (λ (r : List ℕ). r ++ take n (l ++ x ∷ [])) (drop-append-le n l (x ∷ []) h)
    ∙ ap (λ (r : List ℕ). drop n l ++ (x ∷ []) ++ r) (take-append-le n l (x ∷ []) h)
    ∙ append_snoc (drop n l) x (take n l)
    )

-- ---- one number all round
pub turned_same : (v n k : ℕ) → n ≤ k → turned n (replicate k v) ≡ replicate k v
turned_same v n k h =
    let before : n + (k - n) ≡ k = omega arith in
    let behind : (k - n) + n ≡ k = omega arith in
    ap (λ (j : ℕ). turned n (replicate j v)) (sym before)
    ∙ ap (turned n) (sym (replicate-append-replicate n (k - n) v))
    ∙ turned-at (replicate n v) (replicate (k - n) v) n (length-replicate n v)
    ∙ replicate-append-replicate (k - n) n v
    ∙ ap (λ (j : ℕ). replicate j v) behind

-- ---- a store
set_append_add : (xs ys : List ℕ) (i a : ℕ) → set (xs ++ ys) (length xs + i) a ≡ xs ++ set ys i a
set_append_add [] ys i a = ap (λ (k : ℕ). set ys k a) (zero-add i)
set_append_add (x ∷ xs) ys i a =
    ap (λ (k : ℕ). set (x ∷ (xs ++ ys)) k a) (suc-add (length xs) i) ∙ ap (λ (r : List ℕ). x ∷ r) (set_append_add xs ys i a)

set_before : (n k s : ℕ) (l : List ℕ) → k < n → set (turned n l) (length (drop n l) + k) s ≡ turned n (set l k s)
unfolding turned
set_before n k s l h =
    set_append_add (drop n l) (take n l) k s
    ∙ ap (λ (r : List ℕ). r ++ set (take n l) k s) (sym (drop-set-lt n l k s h))
    ∙ ap (λ (r : List ℕ). drop n (set l k s) ++ r) (sym (take-set-lt n l k s h))

set_behind : (n k s : ℕ) (l : List ℕ) → k < length (drop n l) → set (turned n l) k s ≡ turned n (set l (n + k) s)
unfolding turned
set_behind n k s l h =
    set-append_left (drop n l) (take n l) k s h
    ∙ ap (λ (r : List ℕ). r ++ take n l) (sym (drop-set-add n l k s))
    ∙ ap (λ (r : List ℕ). drop n (set l (n + k) s) ++ r) (sym (take-set-le n l (n + k) s (omega arith)))

-- a store k places on from place p, round the circle
pub set-turned : (p k s : ℕ) (l : List ℕ) → length l ≡ 512 → p < 512 → k < 512
    → set (turned (512 - p) l) ((p + k) % 512) s ≡ turned (512 - p) (set l k s)
set-turned p k s l e hp hk = by (ltb (p + k) 512) refl
  where
    n : ℕ
    n = 512 - p

    long : length (drop n l) ≡ p
    long = length-drop n l ∙ omega arith

    by : (b : Bool) → ltb (p + k) 512 ≡ b → set (turned n l) ((p + k) % 512) s ≡ turned n (set l k s)
    by true t =
        let r : p + k < 512 = ltb-true (p + k) 512 t in
        let at : (p + k) % 512 ≡ length (drop n l) + k = omega (arith, long) in
        ap (λ (i : ℕ). set (turned n l) i s) at ∙ set_before n k s l (omega arith)
    by false t =
        let r : 512 ≤ p + k = ltb-false (p + k) 512 t in
        let at : (p + k) % 512 ≡ k - n = omega arith in
        let on : n + (k - n) ≡ k = omega arith in
        ap (λ (i : ℕ). set (turned n l) i s) at
        ∙ set_behind n (k - n) s l (omega (arith, long))
        ∙ ap (λ (i : ℕ). turned n (set l i s)) on
