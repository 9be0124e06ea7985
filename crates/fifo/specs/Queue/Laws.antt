-- The laws of the sample memory that a caller's proof goes by: none of them names a place. Assumes nothing.
use Rattle.std.specs.Prelude.{◌≡◌, refl, List, [], ◌++◌, Bool, true, false, ◌||◌, not, ℕ, ◌+◌, ◌-◌, ◌≤◌, ◌<◌, length, take, drop, replicate, ltb}
use Rattle.std.specs.Prelude.{eqb, if◌then◌else◌}
use Rattle.std.proofs.Common.{ap, sym, ◌∙◌, arith, length-drop, take-append-drop, leb-true, ltb-true, eqb-true, le-leb, lt-ltb}
use Rattle.std.proofs.Common.{le-ltb, eq-eqb}
use Rattle.base.specs.Flags.{on}
use Rattle.base.specs.Tests.{each, every}
use Rattle.fifo.specs.declared.Fifo.{Fifo}
use Rattle.fifo.specs.Samples.{pushed}
use Rattle.base.specs.Laws.{never}
use Rattle.fifo.specs.Queue.Circle.{length_turned, turn-back}
use Rattle.fifo.specs.Queue.Places.{queue-layout, length_layout, length_held, zeros_replicate, replicate_zeros, free_zero}
use Rattle.fifo.specs.Queue.{turned, filled_up, queue, layout, empty_fifo, pushed_to, fifo_tests, is_working_fifo}
use Rattle.fifo.specs.Queue.{WorkingFifo}

-- ---- the samples held, and the memory that holds them
pub length_queue : (f : Fifo) (m : List ℕ) → WorkingFifo f m → length (queue f m) ≡ f.held
length_queue f m w = length_held f m w.long w.held

-- a working memory is the one that holds its samples
pub layout-queue : (f : Fifo) (m : List ℕ) → WorkingFifo f m → layout f (queue f m) ≡ m
layout-queue f m w = sym w.laid

-- the facts of the record alone
abbrev pub Ranges : Fifo → Type 0
Ranges f = (f.held ≤ 512) × (f.place < 512) × (f.held ≡ 0 → f.place ≡ 0) × (f.ovf ≤ 1) × (on f.ovf ≡ true → f.held ≡ 512)

pub layout-works : (f : Fifo) (q : List ℕ) → length q ≡ f.held → Ranges f → WorkingFifo f (layout f q)
layout-works f q e r =
    record {
      long = length_layout f q (omega (arith, r.0));
      held = r.0;
      place = r.1;
      empty = r.2;
      flag = r.3;
      ovf = r.4;
      laid = ap (layout f) (sym (queue-layout f q e r.0 (omega (arith, r.1))));
    }

-- ---- the test and the facts
only_at : (t : Bool) (n k : ℕ) → not t || eqb n k ≡ true → t ≡ true → n ≡ k
only_at true n k h e = eqb-true n k h
only_at false n k h e = never e

pub at_only : (t : Bool) (n k : ℕ) → (t ≡ true → n ≡ k) → not t || eqb n k ≡ true
at_only true n k h = eq-eqb n k (h refl)
at_only false n k h = refl

-- where the test holds, the facts hold
pub fifo_of_lem : (f : Fifo) (m : List ℕ) → is_working_fifo f m ≡ true → WorkingFifo f m
unfolding is_working_fifo fifo_tests queue layout filled_up
fifo_of_lem f m h =
    let t = each (fifo_tests f m) h in
    let l : length m ≡ 512 = eqb-true (length m) 512 t.0 in
    let a : f.held ≤ 512 = leb-true f.held 512 t.1.0 in
    let p : f.place < 512 = ltb-true f.place 512 t.1.1.0 in
    let r : List ℕ = turned f.place m in
    let lr : length r ≡ 512 = length_turned f.place m ∙ l in
    let z : drop f.held r ≡ replicate (length (drop f.held r)) 0 = zeros_replicate (drop f.held r) t.1.1.1.1.1.1.0 in
    let k : length (take f.held r) ≡ f.held = length_held f m l a in
    let n : length (drop f.held r) ≡ 512 - length (take f.held r) = length-drop f.held r ∙ omega arith in
    let whole : r ≡ filled_up (take f.held r) =
    sym (take-append-drop f.held r) ∙ ap (λ (d : List ℕ). take f.held r ++ d) (z ∙ ap (λ (j : ℕ). replicate j 0) n) in
    record {
      long = l;
      held = a;
      place = p;
      empty = λ e. only_at (eqb f.held 0) f.place 0 t.1.1.1.0 (eq-eqb f.held 0 e);
      flag = leb-true f.ovf 1 t.1.1.1.1.0;
      ovf = only_at (on f.ovf) f.held 512 t.1.1.1.1.1.0;
      laid = sym (turn-back (512 - f.place) f.place m (omega arith)) ∙ ap (turned (512 - f.place)) whole;
    }

-- where the facts hold, the test holds
pub fifo-to : (f : Fifo) (m : List ℕ) → WorkingFifo f m → is_working_fifo f m ≡ true
unfolding is_working_fifo fifo_tests
fifo-to f m w =
    every (fifo_tests f m) (
      eq-eqb _ _ w.long,
      (
        le-leb _ _ w.held,
        (
          lt-ltb _ _ w.place,
          (
            at_only (eqb f.held 0) f.place 0 (λ e. w.empty (eqb-true _ _ e)),
            (
              le-leb _ _ w.flag,
              (
                at_only (on f.ovf) f.held 512 w.ovf,
                (rw (free_zero f m w) (replicate_zeros (512 - f.held)), tt),
              ),
            ),
          ),
        ),
      ),
    )

-- ---- after an end of a conversion
-- the oldest stays where it is
pub layout-pushed : (f : Fifo) (q : List ℕ) → layout (pushed_to f) q ≡ layout f q
unfolding layout pushed_to
layout-pushed f q = by (ltb f.held 512)
  where
    by : (b : Bool)
        → let g : Fifo = if b then record { held = f.held + 1; place = f.place; ovf = f.ovf } else record { held = f.held; place = f.place; ovf = 1 } in
        turned (512 - g.place) (filled_up q) ≡ turned (512 - f.place) (filled_up q)
    by true = refl
    by false = refl

-- with 512 held the new sample is lost and OVF is set
pub push_full : (f : Fifo) (m : List ℕ) (s : ℕ) → WorkingFifo f m → f.held ≡ 512
    → (pushed (queue f m) s ≡ queue f m) × ((pushed_to f).held ≡ 512) × (on (pushed_to f).ovf ≡ true)
unfolding pushed pushed_to
push_full f m s w h = (
  rw (le-ltb (length (queue f m)) 512 (omega (arith, length_queue f m w))),
  rw (le-ltb f.held 512 (omega arith)) h,
  rw (le-ltb f.held 512 (omega arith)),
)

-- ---- after a reset
pub queue-clear : queue empty_fifo (layout empty_fifo []) ≡ []
queue-clear = queue-layout empty_fifo [] refl (omega arith) (omega arith)

pub clear-works : WorkingFifo empty_fifo (layout empty_fifo [])
clear-works = layout-works empty_fifo [] refl (omega arith, omega arith, λ e. refl, omega arith, λ s. never s)
