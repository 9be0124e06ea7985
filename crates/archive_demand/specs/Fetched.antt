-- What the phases say goes on to hold after a word read of the collector. Assumes nothing.
use Prim.Native.Nat.{ℕ, suc, ◌<◌}
use Rattle.std.specs.Prelude.{false, ◌≡◌, Result, Ok}
use mathlib.Core.List.{List, [], ◌∷◌, ◌++◌, append-nil}
use Rattle.std.proofs.Math.Path.{refl, sym, ap}
use Rattle.std.proofs.Common.{◌∙◌, arith}
use borrow.Author.Tests.{leb-false}
use Rattle.std.proofs.Math.ListN.{length}
use Rattle.base.specs.Laws.{never}
use Rattle.base.specs.declared.Refusal.{Refusal}
use Rattle.board_events.specs.declared.Event.TheVariants as event
use Rattle.converter.specs.Codes.{sample_of}
use Rattle.collector_phases.specs.declared.Access.{Access}
use Rattle.collector_phases.specs.declared.Access.TheVariants.{ReadWord}
use Rattle.collector_phases.specs.declared.Collector.{Collector}
use Rattle.collector_settings.specs.declared.Settings.{Settings}
use Rattle.samples.specs.declared.Sample.{Sample}
use Rattle.collector_steps.specs.declared.Taken.{Taken}
use Rattle.collector_phases.specs.declared.Phase.{Phase}
use Rattle.collector_phases.specs.declared.Phase.TheVariants.{Take, Drain}
use Rattle.collector_phases.specs.Phases.{phase_of}
use Rattle.collector_answers.specs.declared.BusAnswer.{BusAnswer}
use Rattle.collector_answers.specs.declared.BusAnswer.TheVariants as bus
use Rattle.collector_answers.specs.Answers.{is_nothing, sample_at}
use Rattle.collector_phases.specs.Fit.{FitCollector}
use Rattle.collector.specs.Handed.{samples_of, gap_marked}
use Rattle.collector.specs.Steps.{Step, same_word}
use Rattle.collector.specs.Steps.{taken, take_nothing, drained, closed, drain_nothing}
use Rattle.archive_turns.specs.Machine.{View, Machine}
use Rattle.archive_demand.specs.Log.{Log, note_turn, selected}
use Rattle.archive_demand.specs.Laws.{Laws, Fetches, leaving}
use Rattle.collector_records.specs.Records.{follows}
use Rattle.archive_demand.specs.Phases.{words_of, length_words, Queue, no_loss, Taking, Draining, Fact, FactOf}
use Rattle.archive_demand.specs.Turns.{handing, running_hand, queue_hand, Oldest, oldest_of_lem}

-- what the phase p says now, and what is to hold after an access that brings a, is replied to by r and leaves the view v'
module _ (M : Machine) (b : M.Board) (c : Collector) (l : Log) where
  abbrev pub Now : Phase → Type 0
  Now p = Fact p c.settings c.next c.left (M.view b) l

  abbrev pub After : Result Access Refusal → BusAnswer → Taken → View → Type 0
  After x a r v' =
      FactOf r.collector v' (note_turn x a false (selected M b) (samples_of r.handed) (gap_marked r.handed) l)

-- the first of a list is one number
first-same : (m n : ℕ) (x y : List ℕ) → m ∷ x ≡ n ∷ y → m ≡ n
first-same m n x y e = ap first e
  where
    first : List ℕ → ℕ
    first [] = 0
    first (k ∷ z) = k

module _ (M : Machine) (Working : M.Board → Type 0) (laws : Laws M Working) where
  -- d is the oldest of those held
  module _ (b : M.Board) (wk : Working b) (c : Collector) (fc : FitCollector c) (l : Log) (d : ℕ) (rest : List ℕ) (held : (M.view b).held ≡ d ∷ rest) where
    abbrev t : Settings
    t = c.settings

    abbrev v : View
    v = M.view b

    -- ---- the word reads
    abbrev F : Fetches M b
    F = laws.words b wk

    abbrev v₁ : View
    v₁ = M.view (M.stepped b (event.ReadWord 0))

    -- the sample that is handed over
    abbrev y₁ : Sample
    y₁ = sample_at c.next d

    taking-oldest : (k : Taking t c.next v l) → Oldest c.next t k.inner.m k.Q [] v.held
    taking-oldest k =
        oldest_of_lem c.next t k.inner.m k.Q [] v.held
        (let e : length v.held ≡ length k.Q = ap length k.holds ∙ length_words k.Q in omega (arith, ap length held))
        (k.holds ∙ sym (append-nil (words_of k.Q))) k.inner.queue

    draining-oldest : (left : ℕ) (k : Draining left t c.next v l) → Oldest c.next t k.inner.m k.Q k.X v.held
    draining-oldest left k =
        oldest_of_lem c.next t k.inner.m k.Q k.X v.held (omega (arith, k.size, k.more)) k.holds k.inner.queue

    -- it is the oldest, and that leaves
    module _ (m : ℕ) (Q : List Sample) (X : List ℕ) (o : Oldest c.next t m Q X v.held) where
      is-oldest : y₁ ≡ o.y
      is-oldest = ap (sample_at c.next) (first-same d (sample_of o.y.code) rest (words_of o.rest ++ X) (sym held ∙ o.whole)) ∙ o.sampled

      leaves : v₁ ≡ leaving (words_of o.rest ++ X) v
      leaves = F.leaves (sample_of o.y.code) (words_of o.rest ++ X) o.whole

      -- the queue afterwards, whatever becomes of the rest of the log
      left_over : (l' : Log) (L : List Sample) → l'.samples ≡ l.samples → l'.current ≡ l.current → l'.handed ≡ l.handed ++ (y₁ ∷ [])
          → Queue t c.next v l Q L → Queue t (follows t c.next) (leaving (words_of o.rest ++ X) v) l' o.rest L
      left_over l' L d e f q =
          queue_hand t c.next v l l' o.y o.rest L (words_of o.rest ++ X) d e
          (f ∙ ap (λ (y : Sample). l.handed ++ (y ∷ [])) is-oldest) (rw o.cut at q)

    pub take_after : (r : Taken) → Step c (bus.Number d) Take r → Now M b c l Take → After M b c l (Ok (ReadWord 0)) (bus.Number d) r v₁
    unfolding phase_of
    take_after r (take_nothing i) k = never (ap is_nothing i)
    take_after r (taken word i) k = rw (sym (same_word d word i)) (
      running_hand t c.next v l y₁ refl k.0,
      λ w.
          let z = k.1 w in
          let o = taking-oldest z in
          rw (leaves z.inner.m z.Q [] o)
          (record {
            Q = o.rest;
            L = [];
            inner = left_over z.inner.m z.Q [] o (handing t c.next v l y₁) [] refl refl refl z.inner;
            holds = append-nil (words_of o.rest);
            loss = no_loss refl;
          }),
    )

    pub drain_after : (r : Taken) → Step c (bus.Number d) Drain r → Now M b c l Drain → After M b c l (Ok (ReadWord 0)) (bus.Number d) r v₁
    unfolding phase_of
    drain_after r (drain_nothing i) k = never (ap is_nothing i)
    drain_after r (drained word i e) k = rw (sym (same_word d word i)) (
      running_hand t c.next v l y₁ refl k.0,
      λ w.
          let z = k.1 w in
          let o = draining-oldest c.left z in
          let h : 1 < c.left = leb-false c.left 1 e in
          rw (leaves z.inner.m z.Q z.X o)
          (record {
            Q = o.rest;
            L = z.L;
            X = z.X;
            inner = left_over z.inner.m z.Q z.X o (handing t c.next v l y₁) z.L refl refl refl z.inner;
            holds = refl;
            size = (let s : suc (length o.rest) ≡ c.left = ap length (sym o.cut) ∙ z.size in omega arith);
            more = omega arith;
          }),
      rw (F.leaves d rest held) (omega (arith, ap length held, k.2)),
    )
    drain_after r (closed word i e) k = rw (sym (same_word d word i)) (
      record {
        prefix = λ w.
            let z = k.1 w in
            let o = draining-oldest c.left z in (
              o.rest ++ z.L,
              sym (left_over z.inner.m z.Q z.X o (handing t c.next v l y₁) z.L refl refl refl z.inner).split,
            );
        since = refl;
        runs = refl;
      },
      refl,
    )
