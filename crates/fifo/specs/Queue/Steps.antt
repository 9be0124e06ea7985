-- What the code does to the places is what the definitions say of the samples. Assumes nothing.
use Rattle.std.specs.Prelude.{◌≡◌, refl, List, [], ◌∷◌, ◌++◌, Bool, true, false, ℕ, zero, suc, ◌+◌, ◌-◌, ◌%◌, ◌≤◌, ◌<◌, length, get_or, take, drop, set}
use Rattle.std.specs.Prelude.{replicate, eqb, if◌then◌else◌, Some, None}
use Rattle.std.proofs.Common.{ap, sym, ◌∙◌, append_assoc, append-nil, arith, length-append, length-drop, drop_of_length-le, get_or-drop, lt-ltb, le-ltb}
use Rattle.std.proofs.Common.{eq-eqb, ne_eqb, eqb-true}
use Rattle.std.proofs.lemmas.List.{length-replicate, replicate-append-replicate, set_at}
use Rattle.std.proofs.Math.ListN.{get_or-append}
use Rattle.std.proofs.lemmas.Bool.{eqb-false}
use Rattle.fifo.specs.declared.Fifo.{Fifo}
use Rattle.fifo.specs.Samples.{oldest_of, pushed, popped}
use Rattle.fifo.specs.Queue.{turned, filled_up, queue, layout, empty_fifo, pushed_to, place_after, popped_from, Leaves, WorkingFifo}
use Rattle.fifo.specs.Queue.Circle.{length_turned, turned_none, turned-whole, turned_on, turned_same, set-turned}
use Rattle.fifo.specs.Queue.Places.{length_filled, layout-empty}
use Rattle.fifo.specs.Queue.Laws.{length_queue, layout-pushed}

-- ---- a sample is put on the first free place
put_next : (q : List ℕ) (s n : ℕ) → length q ≡ n → n < 512 → set (filled_up q) n s ≡ filled_up (q ++ s ∷ [])
unfolding filled_up
put_next q s n e h =
    let k : 512 - length q ≡ suc (512 - (length q + 1)) = omega arith in
    let l : length (q ++ s ∷ []) ≡ length q + 1 = length-append q (s ∷ []) in
    ap (λ (z : ℕ). set (q ++ replicate z 0) n s) k
    ∙ set_at q 0 (replicate (512 - (length q + 1)) 0) s n e
    ∙ sym (append_assoc q (s ∷ []) (replicate (512 - (length q + 1)) 0))
    ∙ ap (λ (z : ℕ). (q ++ s ∷ []) ++ replicate (512 - z) 0) (sym l)

put : (f : Fifo) (m : List ℕ) (s : ℕ) → WorkingFifo f m → f.held < 512 → set m ((f.place + f.held) % 512) s ≡ layout f (queue f m ++ s ∷ [])
unfolding layout
put f m s w h =
    let e : length (queue f m) ≡ f.held = length_queue f m w in
    ap (λ (l : List ℕ). set l ((f.place + f.held) % 512) s) w.laid
    ∙ set-turned f.place f.held s (filled_up (queue f m)) (length_filled (queue f m) (omega arith)) w.place h
    ∙ ap (turned (512 - f.place)) (put_next (queue f m) s f.held e h)

pub push_kept : (f : Fifo) (m : List ℕ) (s : ℕ) → WorkingFifo f m → f.held < 512
    → Leaves (pushed_to f) (pushed (queue f m) s) (record { held = f.held + 1; place = f.place; ovf = f.ovf }) (set m ((f.place + f.held) % 512) s)
unfolding pushed pushed_to
push_kept f m s w h =
    let e : length (queue f m) ≡ f.held = length_queue f m w in
    record {
      fifo = rw (lt-ltb f.held 512 h);
      laid =
          put f m s w h
          ∙ sym (layout-pushed f (queue f m ++ s ∷ []))
          ∙ ap (layout (pushed_to f)) (ap (λ (b : Bool). if b then queue f m ++ s ∷ [] else queue f m) (sym (lt-ltb (length (queue f m)) 512 (omega arith))));
    }

pub push_lost : (f : Fifo) (m : List ℕ) (s : ℕ) → WorkingFifo f m → 512 ≤ f.held
    → Leaves (pushed_to f) (pushed (queue f m) s) (record { held = f.held; place = f.place; ovf = 1 }) m
unfolding pushed pushed_to
push_lost f m s w h =
    let e : length (queue f m) ≡ f.held = length_queue f m w in
    record {
      fifo = rw (le-ltb f.held 512 h);
      laid =
          w.laid
          ∙ sym (layout-pushed f (queue f m))
          ∙ ap (layout (pushed_to f)) (ap (λ (b : Bool). if b then queue f m ++ s ∷ [] else queue f m) (sym (le-ltb (length (queue f m)) 512 (omega arith))));
    }

-- ---- a sample is read
pub pop_none : (f : Fifo) (m : List ℕ) → WorkingFifo f m → f.held ≡ 0 → Leaves (popped_from f) (popped (queue f m)) f m
unfolding layout queue popped_from
pop_none f m w h = record { fifo = rw (eq-eqb f.held 0 h); laid = w.laid ∙ rw h }

-- the place of the oldest of these becomes 0, and the circle is read from the next place on
rest-filled : (x : ℕ) (q : List ℕ) → length q < 512 → set (filled_up (x ∷ q)) 0 0 ≡ 0 ∷ (q ++ replicate (511 - length q) 0)
unfolding filled_up
rest-filled x q h = let k : 512 - suc (length q) ≡ 511 - length q = omega arith in ap (λ (j : ℕ). zero ∷ (q ++ replicate j zero)) k

next-filled : (q : List ℕ) → length q < 512 → (q ++ replicate (511 - length q) 0) ++ 0 ∷ [] ≡ filled_up q
unfolding filled_up
next-filled q h =
    let k : (511 - length q) + 1 ≡ 512 - length q = omega arith in
    append_assoc q (replicate (511 - length q) zero) (zero ∷ [])
    ∙ ap (λ (r : List ℕ). q ++ r) (replicate-append-replicate (511 - length q) 1 zero ∙ ap (λ (j : ℕ). replicate j zero) k)

left-from : (p x : ℕ) (q : List ℕ) → length q < 512 → p < 512 → turned (512 - p) (set (filled_up (x ∷ q)) 0 0) ≡ turned (512 - (p + 1) % 512) (filled_up q)
left-from p x q h hp =
    let rest : List ℕ = q ++ replicate (511 - length q) 0 in
    let long : length rest ≡ 511 = simp (length-append, length-replicate) (omega arith) in
    let on : 512 - p ≡ suc (511 - p) = omega arith in
    ap (turned (512 - p)) (rest-filled x q h)
    ∙ ap (λ (n : ℕ). turned n (0 ∷ rest)) on
    ∙ turned_on (511 - p) 0 rest (omega arith)
    ∙ ap (turned (511 - p)) (next-filled q h)
    ∙ round (eqb p 511) refl
  where
    full : length (filled_up q) ≡ 512
    full = length_filled q (omega arith)

    before : (p : ℕ) → p < 512 → (p ≡ 511 → ⊥) → 511 - p ≡ 512 - (p + 1) % 512
    before p hp e = omega (arith, e)

    same : turned 0 (filled_up q) ≡ turned 512 (filled_up q)
    same = turned_none (filled_up q) ∙ sym (turned-whole (filled_up q) 512 (omega (arith, full)))

    round : (b : Bool) → eqb p 511 ≡ b → turned (511 - p) (filled_up q) ≡ turned (512 - (p + 1) % 512) (filled_up q)
    round true t =
        let e : p ≡ 511 = eqb-true p 511 t in
        let none : 511 - p ≡ 0 = omega arith in
        let all : 512 - (p + 1) % 512 ≡ 512 = omega arith in
        ap (λ (n : ℕ). turned n (filled_up q)) none ∙ same ∙ sym (ap (λ (n : ℕ). turned n (filled_up q)) all)
    round false t =
        let e : p ≡ 511 → ⊥ = eqb-false p 511 t in
        let n : 511 - p ≡ 512 - (p + 1) % 512 = before p hp e in
        ap (λ (k : ℕ). turned k (filled_up q)) n

-- the last sample leaves zeros all round
left-none : (p x : ℕ) → p < 512 → turned (512 - p) (set (filled_up (x ∷ [])) 0 0) ≡ turned 512 (filled_up [])
unfolding filled_up
left-none p x h = turned_same 0 (512 - p) 512 (omega arith) ∙ sym (turned_same 0 512 512 (omega arith))

pub pop_some : (f : Fifo) (m : List ℕ) → WorkingFifo f m → (f.held ≡ 0 → ⊥)
    → Leaves (popped_from f) (popped (queue f m)) (record { held = f.held - 1; place = place_after f; ovf = 0 }) (set m f.place 0)
unfolding layout popped_from
pop_some f m w h = record { fifo = rw (ne_eqb f.held 0 h); laid = emptied ∙ by (queue f m) refl }
  where
    p : ℕ
    p = f.place

    long : length (queue f m) ≡ f.held
    long = length_queue f m w

    emptied : set m p 0 ≡ turned (512 - p) (set (filled_up (queue f m)) 0 0)
    emptied =
        let at : p ≡ (p + 0) % 512 = omega (arith, w.place) in
        ap (λ (i : ℕ). set m i 0) at
        ∙ ap (λ (l : List ℕ). set l ((p + 0) % 512) 0) w.laid
        ∙ set-turned p 0 0 (filled_up (queue f m)) (length_filled (queue f m) (omega (arith, w.held, long))) w.place (omega arith)

    by : (q : List ℕ) → queue f m ≡ q → turned (512 - p) (set (filled_up q) 0 0) ≡ layout (popped_from f) (popped q)
    by [] e = absurd (h (sym long ∙ ap length e))
    by (x ∷ []) e =
        let one : f.held ≡ 1 = sym long ∙ ap length e in
        rw (ne_eqb f.held 0 h, eq-eqb f.held 1 one) (left-none p x w.place)
    by (x ∷ y ∷ q) e =
        let n : suc (suc (length q)) ≡ f.held = sym (ap length e) ∙ long in
        rw (ne_eqb f.held 0 h, ne_eqb f.held 1 (λ o. omega (arith, o, n))) (left-from p x (y ∷ q) (omega (arith, n, w.held)) w.place)

-- ---- a reset
pub cleared : (m : List ℕ) (i : ℕ) → length m ≡ 512 → 512 ≤ i → i ≤ 512 → replicate i 0 ++ drop i m ≡ layout empty_fifo []
cleared m i l h k =
    let e : i ≡ 512 = omega arith in
    ap (λ (r : List ℕ). replicate i zero ++ r) (drop_of_length-le m {i = i} (omega arith))
    ∙ append-nil (replicate i zero)
    ∙ ap (λ (n : ℕ). replicate n zero) e
    ∙ sym layout-empty

-- ---- the oldest sample
pub oldest-none : (f : Fifo) (m : List ℕ) → f.held ≡ 0 → None ≡ oldest_of (queue f m)
unfolding queue
oldest-none f m h = rw h

pub oldest-some : (f : Fifo) (m : List ℕ) → WorkingFifo f m → (f.held ≡ 0 → ⊥) → Some (get_or m f.place 0) ≡ oldest_of (queue f m)
unfolding queue turned
oldest-some f m w h = ap Some (sym at) ∙ first f.held (turned f.place m) (omega arith) (omega (arith, length_turned f.place m, w.long))
  where
    at : get_or (turned f.place m) 0 0 ≡ get_or m f.place 0
    at =
        get_or-append (drop f.place m) (take f.place m) 0 0 (omega (arith, length-drop f.place m, w.place, w.long))
        ∙ get_or-drop f.place m 0 0
        ∙ ap (λ (i : ℕ). get_or m i 0) (omega arith)

    first : (n : ℕ) (l : List ℕ) → 0 < n → 0 < length l → Some (get_or l 0 0) ≡ oldest_of (take n l)
    first zero l p q = absurd (omega arith)
    first (suc n) [] p q = absurd (omega arith)
    first (suc n) (x ∷ xs) p q = refl

-- where a read finds none, none is held
pub none_found : (f : Fifo) (m : List ℕ) → WorkingFifo f m → None ≡ oldest_of (queue f m) → f.held ≡ 0
none_found f m w e = sym (length_queue f m w) ∙ of_queue (queue f m) e
  where
    of_queue : (q : List ℕ) → None ≡ oldest_of q → length q ≡ 0
    of_queue [] h = refl
    of_queue (x ∷ q) h = cc
