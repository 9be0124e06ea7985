-- The places that the samples held take up, and those that are free: what the laws rest on. Assumes nothing.
use Rattle.std.specs.Prelude.{◌≡◌, refl, List, [], ◌∷◌, true, ℕ, zero, suc, ◌-◌, ◌≤◌, length, take, drop, replicate, eqb}
use Rattle.std.proofs.Common.{ap, ◌∙◌, arith, length-append, take_at, drop_at, length-take-le, eqb-true}
use Rattle.std.proofs.lemmas.List.{length-replicate}
use Rattle.base.specs.Laws.{both}
use Rattle.fifo.specs.declared.Fifo.{Fifo}
use Rattle.fifo.specs.Queue.{turned, filled_up, queue, layout, empty_fifo, zeros, free_places, WorkingFifo}
use Rattle.fifo.specs.Queue.Circle.{length_turned, turn-back, turned_same}

pub length_filled : (q : List ℕ) → length q ≤ 512 → length (filled_up q) ≡ 512
unfolding filled_up
length_filled q h = simp (length-append, length-replicate) (omega arith)

pub length_layout : (f : Fifo) (q : List ℕ) → length q ≤ 512 → length (layout f q) ≡ 512
unfolding layout
length_layout f q h = length_turned (512 - f.place) (filled_up q) ∙ length_filled q h

-- the memory of these samples, from the oldest's place on
turned-layout : (f : Fifo) (q : List ℕ) → length q ≤ 512 → f.place ≤ 512 → turned f.place (layout f q) ≡ filled_up q
unfolding layout
turned-layout f q h p = let l : length (filled_up q) ≡ 512 = length_filled q h in turn-back f.place (512 - f.place) (filled_up q) (omega arith)

pub queue-layout : (f : Fifo) (q : List ℕ) → length q ≡ f.held → f.held ≤ 512 → f.place ≤ 512 → queue f (layout f q) ≡ q
unfolding queue filled_up
queue-layout f q e h p =
    ap (take f.held) (turned-layout f q (omega arith) p) ∙ take_at q (replicate (512 - length q) 0) f.held e

pub layout-empty : layout empty_fifo [] ≡ replicate 512 0
unfolding layout filled_up
layout-empty = turned_same 0 512 512 (omega arith)

pub zeros_replicate : (l : List ℕ) → zeros l ≡ true → l ≡ replicate (length l) 0
unfolding zeros
zeros_replicate [] h = refl
zeros_replicate (x ∷ xs) h =
    let t = both (eqb x 0) (zeros xs) h in
    let e : x ≡ 0 = eqb-true x 0 t.0 in
    let r : xs ≡ replicate (length xs) 0 = zeros_replicate xs t.1 in
    cc

pub replicate_zeros : (n : ℕ) → zeros (replicate n 0) ≡ true
unfolding zeros
replicate_zeros zero = refl
replicate_zeros (suc n) = replicate_zeros n

-- ---- a working memory, from the oldest's place on
pub length_held : (f : Fifo) (m : List ℕ) → length m ≡ 512 → f.held ≤ 512 → length (queue f m) ≡ f.held
unfolding queue
length_held f m l h = let t : length (turned f.place m) ≡ 512 = length_turned f.place m ∙ l in
    length-take-le f.held (turned f.place m) (omega arith)

pub turned-held : (f : Fifo) (m : List ℕ) → WorkingFifo f m → turned f.place m ≡ filled_up (queue f m)
turned-held f m w =
    let n : length (queue f m) ≡ f.held = length_held f m w.long w.held in
    ap (turned f.place) w.laid ∙ turned-layout f (queue f m) (omega arith) (omega arith)

-- the places that are free
pub free_zero : (f : Fifo) (m : List ℕ) → WorkingFifo f m → free_places f m ≡ replicate (512 - f.held) 0
unfolding filled_up
free_zero f m w =
    let n : length (queue f m) ≡ f.held = length_held f m w.long w.held in
    ap (drop f.held) (turned-held f m w)
    ∙ drop_at (queue f m) _ f.held n
    ∙ ap (λ (k : ℕ). replicate (512 - k) 0) n
