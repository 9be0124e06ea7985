-- Theorems that rest on theorems of specs/SameLaws.antt, and promise as those do. What specs/SameLaws.antt says of itself:
-- What the theorem of Same rests on: both boards refuse alike, and what an event leaves of them is alike again. Assumes nothing.
use Rattle.std.specs.Prelude.{ℕ, zero, ◌+◌, ◌-◌, ◌≤◌, ◌≡◌, refl, Bool, true, false, List, [], ◌∷◌, ◌++◌, length, drop, replicate, ltb, eqb, if◌then◌else◌}
use Rattle.std.proofs.Math.Path.{ap, sym}
use Rattle.std.proofs.Common.{subst, ◌∙◌, arith, length-append, take_at, drop_at}
use borrow.Author.Tests.{eq-eqb, le-leb}
use Rattle.std.proofs.lemmas.List.{length-replicate}
use Rattle.base.specs.Flags.{on}
use Rattle.base.specs.Tests.{each, every}
use Rattle.fifo.specs.Samples.{oldest_of}
use Rattle.fifo.specs.Earlier.{earlier_queue, earlier_layout, earlier_empty, earlier_pushed_to, earlier_popped_from, earlier_tests, is_earlier_fifo}
use Rattle.fifo.specs.Queue.{queue, layout, zeros, pushed_to, place_after, popped_from, empty_fifo, WorkingFifo}
use Rattle.fifo.specs.Queue.Places.{replicate_zeros}
use Rattle.fifo.specs.Queue.Laws.{length_queue, at_only}
use Rattle.fifo.specs.declared.Fifo.{Fifo}
use Rattle.machine_record.specs.Parts.{with_fifo}
use Rattle.machine_record.specs.Working.{is_working_machine, machine-to}
use Rattle.machine_record.specs.declared.Board.{Board}
use Rattle.bus.specs.Effects.{Effect, Keep, Take, Store, Empty}
use Rattle.board_refusal.specs.Working.{WorkingBoard, board-to}
use Rattle.board_refusal.specs.Refusals.{checks}
use Rattle.board_step.specs.Act.{acted, eeprom_acted}
use Rattle.board_step.specs.declared.Outcome.{Outcome}
use Rattle.board_step.specs.Step.{Ran, samples_after, fifo_after, finished, ran, ran_from, step_of, memory_after, eeprom_after}
use Rattle.board_step.specs.Sampled.{effect-holds}
use Rattle.board_step.specs.States.{State, refusal_at, answer_at, after_event}
use Rattle.board_laws.specs.Kept.{step_kept}
use Rattle.board_laws.specs.EarlierBoard.{earlier_held, is_earlier_board, earlier_refusal, earlier_acted, earlier_fifo_after, earlier_ran}
use Rattle.board_laws.specs.Placed.{placed, acted-placed, eeprom-placed, checks-placed}
use Rattle.board_events.specs.declared.Event.{Event}
use Rattle.board_laws.specs.SameLaws.{Alike, Same}

-- ---- the memory's records after an event hold as many, and have the same OVF
popped-alike : (f g : Fifo) → Alike f g → Alike (popped_from f) (earlier_popped_from g)
unfolding popped_from earlier_popped_from
popped-alike f g a = subst (λ (n : ℕ). Alike (now (eqb f.held 0)) (before (eqb n 0))) a.held (by (eqb f.held 0))
  where
    now : Bool → Fifo
    now t = if t then f else record { held = f.held - 1; place = place_after f; ovf = 0 }

    before : Bool → Fifo
    before t = if t then g else record { held = g.held - 1; place = g.place; ovf = 0 }

    by : (t : Bool) → Alike (now t) (before t)
    by true = a
    by false = record { held = ap (λ (n : ℕ). n - 1) a.held; ovf = refl }

pushed-alike : (f g : Fifo) → Alike f g → Alike (pushed_to f) (earlier_pushed_to g)
unfolding pushed_to earlier_pushed_to
pushed-alike f g a = subst (λ (n : ℕ). Alike (now (ltb f.held 512)) (before (ltb n 512))) a.held (by (ltb f.held 512))
  where
    now : Bool → Fifo
    now t = if t then record { held = f.held + 1; place = f.place; ovf = f.ovf } else record { held = f.held; place = f.place; ovf = 1 }

    before : Bool → Fifo
    before t = if t then record { held = g.held + 1; place = g.place; ovf = g.ovf } else record { held = g.held; place = g.place; ovf = 1 }

    by : (t : Bool) → Alike (now t) (before t)
    by true = record { held = ap (λ (n : ℕ). n + 1) a.held; ovf = a.ovf }
    by false = record { held = a.held; ovf = refl }

empty-alike : (g : Fifo) → Alike empty_fifo (earlier_empty g)
unfolding earlier_empty
empty-alike g = record { held = refl; ovf = refl }

after-alike : (x : Effect) (f g : Fifo) → Alike f g → Alike (fifo_after x f) (earlier_fifo_after x g)
after-alike Keep f g a = a
after-alike Take f g a = popped-alike f g a
after-alike (Store s) f g a = pushed-alike f g a
after-alike Empty f g a = empty-alike g

-- ---- the earlier layout of these samples holds them, and is a working board's
earlier-holds : (f : Fifo) (q : List ℕ) → length q ≡ f.held → earlier_queue f (earlier_layout q) ≡ q
unfolding earlier_queue earlier_layout
earlier-holds f q e = take_at q (replicate (512 - length q) zero) f.held e

earlier-works : (f g : Fifo) (m q : List ℕ) → WorkingFifo f m → Alike f g → length q ≡ g.held → is_earlier_fifo g (earlier_layout q) ≡ true
unfolding earlier_tests earlier_layout
earlier-works f g m q w a e =
    let h : g.held ≤ 512 = subst (λ (n : ℕ). n ≤ 512) a.held w.held in
    let long : length (q ++ replicate (512 - length q) zero) ≡ 512 = simp (length-append, length-replicate) (omega arith) in
    let free : drop g.held (q ++ replicate (512 - length q) zero) ≡ replicate (512 - length q) zero =
    drop_at q (replicate (512 - length q) zero) g.held e in
    every (earlier_tests g (earlier_layout q)) (
      eq-eqb _ _ long,
      (
        le-leb _ _ h,
        (
          le-leb _ _ (subst (λ (n : ℕ). n ≤ 1) a.ovf w.flag),
          (
            at_only (on g.ovf) g.held 512 (λ o. sym a.held ∙ w.ovf (ap on a.ovf ∙ o)),
            (ap zeros free ∙ replicate_zeros (512 - length q), tt),
          ),
        ),
      ),
    )

-- ---- both boards, b of the earlier layout and the circle with its oldest at place p
module _ (b : Board) (p : ℕ) (m m' e : List ℕ) (ev : Event) (w : WorkingBoard (placed b p) m) (w' : is_earlier_board b m' ≡ true)
    (same : queue (placed b p).fifo m ≡ earlier_queue b.fifo m') where
  abbrev earlier : State
  earlier = record { board = b; memory = m'; eeprom = e }

  abbrev circle : State
  circle = record { board = placed b p; memory = m; eeprom = e }

  -- they are refused by the same number
  pub refused-alike : refusal_at circle ev ≡ earlier_refusal earlier ev
  unfolding checks earlier_refusal earlier_tests
  refused-alike =
      let t = each (is_working_machine b ∷ is_earlier_fifo b.fifo m' ∷ []) w' in
      let long = (each (earlier_tests b.fifo m') t.1.0).0 in
      rw (board-to (placed b p) m w, w', eq-eqb (length m) 512 w.fifo.long, long, checks-placed b p ev)

  -- what an event makes of the record, answers and does to the samples
  pub acted-alike : acted (placed b p) (oldest_of (queue (placed b p).fifo m)) e ev
      ≡ record { board = placed (earlier_acted earlier ev).board p; answer = (earlier_acted earlier ev).answer; effect = (earlier_acted earlier ev).effect }
  acted-alike = ap (λ (q : List ℕ). acted (placed b p) (oldest_of q) e ev) same ∙ acted-placed b p (oldest_of (earlier_queue b.fifo m')) e ev

  abbrev x : Effect
  x = (earlier_acted earlier ev).effect

  abbrev f' : Fifo
  f' = fifo_after x (placed b p).fifo

  abbrev g' : Fifo
  g' = earlier_fifo_after x b.fifo

  abbrev S' : List ℕ
  S' = samples_after x (earlier_held earlier)

  alike : Alike f' g'
  alike = after-alike x (placed b p).fifo b.fifo (record { held = refl; ovf = refl })

  -- what the circle's board is left with, where the event is not refused
  abbrev left : State
  left = record { board = with_fifo (earlier_acted earlier ev).board f'; memory = layout f' S'; eeprom = eeprom_acted b e ev }

  ran-alike : ran_from (placed b p) m e ev
      ≡ record { board = left.board; samples = S'; eeprom = left.eeprom; answer = (earlier_acted earlier ev).answer }
  unfolding ran
  ran-alike = ap (finished (placed b p).fifo (queue (placed b p).fifo m) (eeprom_acted (placed b p) e ev)) acted-alike ∙ rw (same, eeprom-placed b p e ev)

  module _ (taken : eqb (earlier_refusal earlier ev) 0 ≡ true) where
    passed : eqb (refusal_at circle ev) 0 ≡ true
    passed = ap (λ (n : ℕ). eqb n 0) refused-alike ∙ taken

    pub left_is : after_event circle ev ≡ left
    unfolding step_of memory_after eeprom_after
    left_is = rw (passed, ran-alike)

    stepped : step_of (placed b p) m e ev ≡ record { board = (ran_from (placed b p) m e ev).board; answer = (ran_from (placed b p) m e ev).answer }
    unfolding step_of
    stepped = rw passed

    pub answered : answer_at circle ev ≡ (earlier_acted earlier ev).answer
    answered = ap (λ (o : Outcome). o.answer) stepped ∙ ap (λ (r : Ran). r.answer) ran-alike

    left-works : WorkingBoard left.board left.memory
    left-works = subst (λ (s : State). WorkingBoard s.board s.memory) left_is (step_kept (placed b p) m e ev w)

    holds : queue f' (layout f' S') ≡ S'
    holds =
        subst (λ (q : List ℕ). queue f' (layout f' (samples_after x q)) ≡ samples_after x q) same (effect-holds (placed b p).fifo m w.fifo x)

    long : length S' ≡ g'.held
    long = sym (ap length holds) ∙ length_queue f' (layout f' S') left-works.fifo ∙ alike.held

    pub left-same : Same (earlier_ran earlier ev) left
    unfolding is_working_machine
    left-same =
        record {
          board =
              ap (λ (h : ℕ). with_fifo (earlier_acted earlier ev).board (record { held = h; place = f'.place; ovf = f'.ovf })) alike.held
              ∙ ap (λ (o : ℕ). with_fifo (earlier_acted earlier ev).board (record { held = g'.held; place = f'.place; ovf = o })) alike.ovf;
          samples = holds ∙ sym (earlier-holds g' S' long);
          eeprom = refl;
          works = left-works;
          worked =
              every (is_working_machine (with_fifo (earlier_acted earlier ev).board g') ∷ is_earlier_fifo g' (earlier_layout S') ∷ [])
              (machine-to left.board left-works.machine, (earlier-works f' g' (layout f' S') S' left-works.fifo alike long, tt));
        }
