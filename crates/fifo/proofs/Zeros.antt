-- Numbers whose bits are joined give 0 where each is 0. Assumes nothing.
use mathlib.Core.Path.{◌≡◌, refl, sym, ap, ◌∙◌}
use mathlib.Core.List.{List, [], ◌∷◌, ◌++◌}
use mathlib.Core.Bool.{Bool, true, false, ◌&&◌}
use Prim.Native.Nat.{ℕ, zero, suc, ◌+◌, ◌*◌, ◌-◌, ◌≤◌, ◌<◌}
use native.Mathlib.Numerals.{add-one}
use native.Mathlib.Omega.{arith}
use lib.ListN.{length, get_or, take, drop, length-drop, take-append-drop}
use lib.Seq.{length-take-le, take-suc, take_all, take-take, take-add, get_or-drop, drop-drop, drop_at, drop-append-le, drop-append-add}
use lib.Bits.{bit_or, bit_and, or_add_and, and_comm, and_le_l}
use lib.Dec.{eqb, ltb}
use Rattle.std.specs.List.{fold}
use borrow.Author.Tests.{ne_eqb, lt-ltb, le-ltb}
use Rattle.base.specs.Laws.{both}
use Rattle.fifo.specs.Queue.{zeros, turned}
use Rattle.fifo.specs.Queue.Circle.{turned_none}

joined : (a b : ℕ) → eqb (bit_or a b) 0 ≡ eqb a 0 && eqb b 0
joined zero b = refl
joined (suc a) b =
    let l : bit_and (suc a) b ≤ b = rw (and_comm (suc a) b) (and_le_l b (suc a)) in
    let n : bit_or (suc a) b ≡ 0 → ⊥ = λ e. omega (arith, or_add_and (suc a) b) in
    ne_eqb (bit_or (suc a) b) 0 n ∙ rw (ne_eqb (suc a) 0 (λ e. omega arith))

and_assoc : (a b c : Bool) → (a && b) && c ≡ a && (b && c)
and_assoc true b c = refl
and_assoc false b c = refl

-- the bits of a list, joined to those before
pub joined-all : (l : List ℕ) (bits : ℕ) → eqb (fold bit_or bits l) 0 ≡ eqb bits 0 && zeros l
unfolding zeros
joined-all [] bits = last (eqb bits 0)
  where
    last : (b : Bool) → b ≡ b && true
    last true = refl
    last false = refl
joined-all (x ∷ l) bits = rw (joined-all l (bit_or bits x), joined bits x) (and_assoc (eqb bits 0) (eqb x 0) (zeros l))

-- ---- lists in parts
zeros_append : (l k : List ℕ) → zeros (l ++ k) ≡ zeros l && zeros k
unfolding zeros
zeros_append [] k = refl
zeros_append (x ∷ l) k = rw (zeros_append l k) (sym (and_assoc (eqb x 0) (zeros l) (zeros k)))

zeros-at : (i : ℕ) (l : List ℕ) → zeros l ≡ zeros (take i l) && zeros (drop i l)
zeros-at i l = ap zeros (sym (take-append-drop i l)) ∙ zeros_append (take i l) (drop i l)

-- one place more is passed
pub zeros-more : (m : List ℕ) (at i bits : ℕ) → at + i < length m → eqb bits 0 ≡ zeros (take i (drop at m))
    → eqb (bit_or bits (get_or m (at + i) 0)) 0 ≡ zeros (take (i + 1) (drop at m))
unfolding zeros
zeros-more m at i bits h e =
    let l : i < length (drop at m) = rw (length-drop at m) (omega arith) in
    rw (
      add-one i,
      take-suc (drop at m) i 0 l,
      get_or-drop at m i 0,
      zeros_append (take i (drop at m)) (get_or m (at + i) 0 ∷ []),
      joined bits (get_or m (at + i) 0),
      e,
    )
    (ap (λ (b : Bool). zeros (take i (drop at m)) && b) (sym (last (eqb (get_or m (at + i) 0) 0))))
  where
    last : (b : Bool) → b && true ≡ b
    last true = refl
    last false = refl

-- ---- two blocks of n places that cover a list, the first at its start and the other at its end
overlap : (a b d x y : Bool) → a && b ≡ y && d → d ≡ x && b → a && d ≡ a && b
overlap false b d x y p q = refl
overlap true true d x y p q = (both y d (sym p)).1
overlap true false d true y p q = q
overlap true false d false y p q = q

blocks : (l : List ℕ) (n k : ℕ) → length l ≡ k + n → k ≤ n → zeros (take n l) && zeros (take n (drop k l)) ≡ zeros l
blocks l n k e h =
    let r : length (drop k l) ≤ n = rw (length-drop k l) (omega arith) in
    let i : k + (n - k) ≡ n = omega arith in
    let d : drop (n - k) (drop k l) ≡ drop n l = drop-drop (n - k) k l ∙ ap (λ (j : ℕ). drop j l) i in
    rw (take_all n (drop k l) r)
    (overlap (zeros (take n l)) (zeros (drop n l)) (zeros (drop k l)) (zeros (take (n - k) (drop k l))) (zeros (take k l))
    (sym (zeros-at n l) ∙ zeros-at k l)
    (zeros-at (n - k) (drop k l) ∙ ap (λ (s : List ℕ). zeros (take (n - k) (drop k l)) && zeros s) d)
    ∙ sym (zeros-at n l))

-- ---- parts of a memory
drop_take : (k n : ℕ) (l : List ℕ) → k ≤ length l → drop k (take (k + n) l) ≡ take n (drop k l)
drop_take k n l h = ap (drop k) (take-add k n l) ∙ drop_at (take k l) (take n (drop k l)) k (length-take-le k l h)

-- n to 2 n places of a memory by their two ends
pub ends_zero : (m : List ℕ) (from count n a b : ℕ) → from + count ≤ length m → n ≤ count → count ≤ 2 * n
    → eqb a 0 ≡ zeros (take n (drop from m)) → eqb b 0 ≡ zeros (take n (drop (from + count - n) m)) → eqb (bit_or a b) 0 ≡ zeros (take count (drop from m))
ends_zero m from count n a b h f t p q =
    let k = count - n in
    let part : List ℕ = drop from m in
    let fits : count ≤ length part = rw (length-drop from m) (omega arith) in
    let i : k + n ≡ count = omega arith in
    let j : from + k ≡ from + count - n = omega arith in
    let second : drop k (take count part) ≡ take n (drop (from + count - n) m) =
    ap (λ (c : ℕ). drop k (take c part)) (sym i)
    ∙ drop_take k n part (omega arith)
    ∙ ap (take n) (drop-drop k from m ∙ ap (λ (d : ℕ). drop d m) j) in
    joined a b
    ∙ rw (p, q, sym (take-take n count part f), sym (take-take n n (drop (from + count - n) m) (omega arith)), sym second)
    (blocks (take count part) n k (length-take-le count part fits ∙ sym i) (omega arith))

-- ---- the free places, where the first sample stands at `place` and `held` are held
module _ (m : List ℕ) (place held : ℕ) (long : length m ≡ 512) (fits : held ≤ 512) where
  -- from place 0 on: those behind the samples
  pub free_behind : place ≡ 0 → zeros (take (512 - held) (drop held m)) ≡ ltb place 512 && zeros (drop held (turned place m))
  free_behind e =
      let r : length (drop held m) ≤ 512 - held = rw (length-drop held m) (omega arith) in
      rw (e, turned_none m) (ap zeros (take_all (512 - held) (drop held m) r))

  pub no_place : 512 ≤ place → false ≡ ltb place 512 && zeros (drop held (turned place m))
  no_place h = rw (le-ltb place 512 h)

  -- where the samples do not go round: those behind them and those before them
  pub free_around : place + held < 512
      → zeros (take (512 - (place + held)) (drop (place + held) m)) && zeros (take place (drop 0 m)) ≡ ltb place 512 && zeros (drop held (turned place m))
  unfolding turned
  free_around h =
      let r : length (drop (place + held) m) ≤ 512 - (place + held) = rw (length-drop (place + held) m) (omega arith) in
      let n : held ≤ length (drop place m) = rw (length-drop place m) (omega arith) in
      let parts : drop held (drop place m ++ take place m) ≡ drop (place + held) m ++ take place m =
      drop-append-le held (drop place m) (take place m) n ∙ ap (λ (l : List ℕ). l ++ take place m) (drop-drop held place m) in
      rw (lt-ltb place 512 (omega arith), parts, zeros_append (drop (place + held) m) (take place m), take_all (512 - (place + held)) (drop (place + held) m) r)

  -- where they go round: those between the newest and the oldest
  pub free-between : place < 512 → 512 ≤ place + held
      → zeros (take (512 - held) (drop (place + held - 512) m)) ≡ ltb place 512 && zeros (drop held (turned place m))
  unfolding turned
  free-between hp h =
      let k = place + held - 512 in
      let n : length (drop place m) + k ≡ held = rw (length-drop place m) (omega arith) in
      let i : k + (512 - held) ≡ place = omega arith in
      let part : drop held (drop place m ++ take place m) ≡ take (512 - held) (drop k m) =
      ap (λ (j : ℕ). drop j (drop place m ++ take place m)) (sym n)
      ∙ drop-append-add (drop place m) (take place m) k
      ∙ ap (λ (j : ℕ). drop k (take j m)) (sym i)
      ∙ drop_take k (512 - held) m (omega arith) in
      rw (lt-ltb place 512 hp, part)
