-- Theorems that rest on theorems of specs/Queue/Laws.antt, and promise as those do. What specs/Queue/Laws.antt says of itself:
-- The laws of the sample memory that a caller's proof goes by: none of them names a place. Assumes nothing.
use Rattle.std.specs.Prelude.{◌≡◌, refl, List, [], ◌∷◌, ◌++◌, Bool, true, false, ℕ, ◌+◌, ◌-◌, ◌%◌, ◌<◌, length, ltb}
use Rattle.std.specs.Prelude.{eqb, if◌then◌else◌}
use Rattle.std.proofs.Common.{ap, ◌∙◌, arith, length-append, length-drop, ltb-true, ltb-false, eqb-true}
use Rattle.std.proofs.Common.{eq-eqb}
use Rattle.std.proofs.lemmas.Bool.{eqb-false}
use Rattle.fifo.specs.declared.Fifo.{Fifo}
use Rattle.fifo.specs.Samples.{pushed, popped}
use Rattle.base.specs.Laws.{never}
use Rattle.fifo.specs.Queue.Places.{queue-layout}
use Rattle.fifo.specs.Queue.{queue, layout, pushed_to, place_after, popped_from}
use Rattle.fifo.specs.Queue.{WorkingFifo}
use Rattle.fifo.specs.Queue.Laws.{Ranges, layout-works, length_queue}

-- ---- the samples held, and the memory that holds them
ranges : (f : Fifo) (m : List ℕ) → WorkingFifo f m → Ranges f
ranges f m w = (w.held, w.place, w.empty, w.flag, w.ovf)

-- ---- after an end of a conversion
length_pushed : (q : List ℕ) (s : ℕ) (f : Fifo) → length q ≡ f.held → length (pushed q s) ≡ (pushed_to f).held
unfolding pushed pushed_to
length_pushed q s f e = rw e (by (ltb f.held 512))
  where
    by : (b : Bool)
        → length (if b then q ++ s ∷ [] else q)
        ≡ (if◌then◌else◌ {A = Fifo} b (record { held = f.held + 1; place = f.place; ovf = f.ovf })
        (record { held = f.held; place = f.place; ovf = 1 })).held
    by true = length-append q (s ∷ []) ∙ ap (λ (k : ℕ). k + 1) e
    by false = e

pushed-ranges : (f : Fifo) → Ranges f → Ranges (pushed_to f)
unfolding pushed_to
pushed-ranges f r = by (ltb f.held 512) refl
  where
    by : (b : Bool) → ltb f.held 512 ≡ b
        → Ranges (if b then record { held = f.held + 1; place = f.place; ovf = f.ovf } else record { held = f.held; place = f.place; ovf = 1 })
    by true t =
        let h : f.held < 512 = ltb-true f.held 512 t in
        (omega arith, r.1, λ e. absurd (omega (arith, e)), r.3, λ s. absurd (omega (arith, h, r.4 s)))
    by false t = (r.0, r.1, r.2, omega arith, λ s. omega (arith, r.0, ltb-false f.held 512 t))

pub held_push : (f : Fifo) (m : List ℕ) (s : ℕ) → WorkingFifo f m → length (pushed (queue f m) s) ≡ (pushed_to f).held
held_push f m s w = length_pushed (queue f m) s f (length_queue f m w)

pub queue_push : (f : Fifo) (m : List ℕ) (s : ℕ) → WorkingFifo f m → queue (pushed_to f) (layout (pushed_to f) (pushed (queue f m) s)) ≡ pushed (queue f m) s
queue_push f m s w = let r = pushed-ranges f (ranges f m w) in queue-layout (pushed_to f) (pushed (queue f m) s) (held_push f m s w) r.0 (omega (arith, r.1))

pub push_works : (f : Fifo) (m : List ℕ) (s : ℕ) → WorkingFifo f m → WorkingFifo (pushed_to f) (layout (pushed_to f) (pushed (queue f m) s))
push_works f m s w = layout-works (pushed_to f) _ (held_push f m s w) (pushed-ranges f (ranges f m w))

-- ---- after a read
length_popped : (q : List ℕ) (f : Fifo) → length q ≡ f.held → length (popped q) ≡ (popped_from f).held
unfolding popped_from
length_popped q f e = length-drop 1 q ∙ ap (λ (k : ℕ). k - 1) e ∙ by (eqb f.held 0) refl
  where
    by : (b : Bool) → eqb f.held 0 ≡ b
        → f.held - 1 ≡ (if◌then◌else◌ {A = Fifo} b f (record { held = f.held - 1; place = place_after f; ovf = 0 })).held
    by true t = omega (arith, eqb-true f.held 0 t)
    by false t = refl

-- the place after a read is one of the circle's, and 0 once none is held
place-within : (f : Fifo) → (place_after f < 512) × (f.held ≡ 1 → place_after f ≡ 0)
place-within f = (by (eqb f.held 1), λ e. rw (eq-eqb f.held 1 e))
  where
    by : (b : Bool) → (if b then 0 else (f.place + 1) % 512) < 512
    by true = omega arith
    by false = omega arith

popped-ranges : (f : Fifo) → Ranges f → Ranges (popped_from f)
unfolding popped_from
popped-ranges f r = by (eqb f.held 0) refl
  where
    only_one : (n : ℕ) → (n ≡ 0 → ⊥) → n - 1 ≡ 0 → n ≡ 1
    only_one n h e = omega (arith, h, e)

    by : (b : Bool) → eqb f.held 0 ≡ b → Ranges (if b then f else record { held = f.held - 1; place = place_after f; ovf = 0 })
    by true t = r
    by false t =
        let some : f.held ≡ 0 → ⊥ = eqb-false f.held 0 t in
        (omega (arith, r.0), (place-within f).0, λ e. (place-within f).1 (only_one f.held some e), omega arith, λ s. never s)

pub held_pop : (f : Fifo) (m : List ℕ) → WorkingFifo f m → length (popped (queue f m)) ≡ (popped_from f).held
held_pop f m w = length_popped (queue f m) f (length_queue f m w)

pub queue_pop : (f : Fifo) (m : List ℕ) → WorkingFifo f m → queue (popped_from f) (layout (popped_from f) (popped (queue f m))) ≡ popped (queue f m)
queue_pop f m w = let r = popped-ranges f (ranges f m w) in queue-layout (popped_from f) (popped (queue f m)) (held_pop f m w) r.0 (omega (arith, r.1))

pub pop_works : (f : Fifo) (m : List ℕ) → WorkingFifo f m → WorkingFifo (popped_from f) (layout (popped_from f) (popped (queue f m)))
pop_works f m w = layout-works (popped_from f) _ (held_pop f m w) (popped-ranges f (ranges f m w))
