-- A board of the earlier layout is a working one with place 0: where the oldest sample stands there, both layouts are one.
use Rattle.std.specs.Prelude.{◌≡◌, List, true, ℕ, ◌<◌, drop, take, eqb}
use Rattle.std.proofs.Common.{ap, ◌∙◌, arith, lt-ltb}
use Rattle.base.specs.Tests.{each, every}
use Rattle.fifo.specs.declared.Fifo.{Fifo}
use Rattle.fifo.specs.Earlier.{earlier_queue, earlier_tests, is_earlier_fifo}
use Rattle.fifo.specs.Queue.{turned, zeros, queue, fifo_tests, is_working_fifo, WorkingFifo}
use Rattle.fifo.specs.Queue.Circle.{turned_none}
use Rattle.fifo.specs.Queue.Laws.{fifo_of_lem, at_only}

-- the samples held are the same
pub queue-from_0 : (f : Fifo) (m : List ℕ) → f.place ≡ 0 → queue f m ≡ earlier_queue f m
unfolding queue earlier_queue
queue-from_0 f m e = ap (λ (p : ℕ). take f.held (turned p m)) e ∙ ap (take f.held) (turned_none m)

-- a working memory of the earlier layout is one of the circle
pub works-from_0 : (f : Fifo) (m : List ℕ) → f.place ≡ 0 → is_earlier_fifo f m ≡ true → WorkingFifo f m
unfolding is_working_fifo fifo_tests earlier_tests
works-from_0 f m e h =
    let t = each (earlier_tests f m) h in
    let below : f.place < 512 = omega arith in
    let free : turned f.place m ≡ m = ap (λ (p : ℕ). turned p m) e ∙ turned_none m in
    fifo_of_lem f m
    (every (fifo_tests f m) (
      t.0,
      (
        t.1.0,
        (
          lt-ltb f.place 512 below,
          (
            at_only (eqb f.held 0) f.place 0 (λ n. e),
            (t.1.1.0, (t.1.1.1.0, (ap (λ (l : List ℕ). zeros (drop f.held l)) free ∙ t.1.1.1.1.0, tt))),
          ),
        ),
      ),
    ))
