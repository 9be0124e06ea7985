-- What a look yields, and what follows it. Assumes nothing.
use Rattle.std.specs.Prelude.{ℕ, suc, ◌+◌, ◌≤◌, ◌<◌, Bool, List, [], ◌∷◌, ◌++◌, ◌≡◌, Ok, ℤ, length, if◌then◌else◌}
use Rattle.std.proofs.Math.Bool.{true, false}
use Rattle.std.proofs.Common.{append_assoc, append-nil, sym, ◌∙◌, ap, subst, arith, length-append}
use Rattle.std.proofs.Math.Path.{refl}
use borrow.Author.Tests.{leb-true, leb-false}
use Rattle.base.specs.Laws.{never}
use Rattle.converter.specs.Codes.{code_of}
use Rattle.board_events.specs.declared.Event.TheVariants as event
use Rattle.collector_phases.specs.declared.Access.TheVariants.{ReadWord}
use Rattle.collector_phases.specs.declared.Collector.{Collector}
use Rattle.collector_settings.specs.declared.Settings.{Settings}
use Rattle.samples.specs.declared.Sample.{Sample}
use Rattle.collector_steps.specs.declared.Taken.{Taken}
use Rattle.collector_phases.specs.declared.Phase.{Phase}
use Rattle.collector_phases.specs.declared.Phase.TheVariants.{Stop, Look, Take, Drain}
use Rattle.collector_phases.specs.Phases.{phase_of, access_in}
use Rattle.collector_phases.specs.Fit.{FitCollector}
use Rattle.collector_answers.specs.declared.BusAnswer.TheVariants as bus
use Rattle.collector_answers.specs.Answers.{is_nothing}
use Rattle.collector_replies.specs.Reply.{replied}
use Rattle.collector.specs.Handed.{samples_of, gap_marked}
use Rattle.collector.specs.Steps.{Step, step, access-fit, same_word}
use Rattle.collector.specs.Steps.{taken, take_nothing, drained, closed, drain_nothing}
use Rattle.archive_turns.specs.Machine.{View, Machine}
use Rattle.archive_turns.specs.Turn.{event_of, taken_by, turn_by}
use Rattle.archive_turns.specs.Hosts.{words}
use Rattle.archive_demand.specs.World.{World, event_in}
use Rattle.archive_demand.specs.Run.{turn, world, Run, begin, ◌▸◌, System, turning, next, given, gap, after, given_in, gaps_in, turns}
use Rattle.archive_demand.specs.Demand.{codes_of, codes_in}
use Rattle.archive_demand.specs.Laws.{Laws, Fetches}
use Rattle.archive_demand.specs.Worlds.{grows}
use Rattle.archive_demand.specs.Invariant.{Sound, sound}

codes_append : (a b : List Sample) → codes_of (a ++ b) ≡ codes_of a ++ codes_of b
codes_append [] b = refl
codes_append (y ∷ ys) b = ap {B = List ℤ} (λ r. y.code ∷ r) (codes_append ys b)

in_append : (a b : List ℕ) → codes_in (a ++ b) ≡ codes_in a ++ codes_in b
in_append [] b = refl
in_append (n ∷ a) b = ap {B = List ℤ} (λ r. code_of n ∷ r) (in_append a b)

-- the collector while rest is still to be read: after a look that showed the memory full, or not
abbrev pub Stage : Bool → List ℕ → Collector → Type 0
Stage full [] c = phase_of c.phase ≡ (if full then Stop else Look)
Stage false (d ∷ D) c = (phase_of c.phase ≡ Take) × (D ≡ [])
Stage true (d ∷ D) c = (phase_of c.phase ≡ Drain) × (c.left ≡ suc (length D))

-- the gaps marked by then
abbrev pub marked : Bool → List ℕ → ℕ
marked full [] = if full then 1 else 0
marked full (d ∷ D) = 0

module _ (M : Machine) (Working : M.Board → Type 0) (laws : Laws M Working) where
  -- of the samples D that a look owes, k are handed over, with g gaps
  pub record Owing (full : Bool) (D : List ℕ) (x : System M) (out : List Sample) (g k : ℕ) : Type 0 where
    pub done : List ℕ
    pub rest : List ℕ
    pub X : List ℕ
    pub cut : D ≡ done ++ rest
    pub holds : (M.view x.board).held ≡ rest ++ X
    pub said : codes_of out ≡ codes_in done
    pub count : k ≡ length done
    pub stage : Stage full rest x.collector
    pub mark : g ≡ marked full rest

  owing-world : (full : Bool) (D : List ℕ) (x : System M) (out : List Sample) (g k : ℕ) (w : World) → Working x.board → Owing full D x out g k
      → Owing full D (next M words x (world w)) (out ++ []) (g + 0) k
  owing-world full D x out g k w wk o =
      let y : (Y : List ℕ) × ((M.view (M.stepped x.board (event_in w))).held ≡ (M.view x.board).held ++ Y)
      = grows _ _ _ _ (laws.happens x.board w wk) in
      record {
        done = o.done;
        rest = o.rest;
        X = o.X ++ y.0;
        cut = o.cut;
        holds = y.1 ∙ ap (λ (u : List ℕ). u ++ y.0) o.holds ∙ append_assoc o.rest o.X y.0;
        said = rw append-nil o.said;
        count = o.count;
        stage = o.stage;
        mark = (let e : g ≡ marked full o.rest = o.mark in omega arith);
      }

  -- ---- a word read
  module _ (b : M.Board) (wk : Working b) (c : Collector) (fc : FitCollector c) (D done : List ℕ) (d : ℕ) (rest X : List ℕ) (out : List Sample)
      (g k : ℕ) (cut : D ≡ done ++ (d ∷ rest)) (holds : (M.view b).held ≡ d ∷ (rest ++ X)) (said : codes_of out ≡ codes_in done)
      (count : k ≡ length done) (none_yet : g ≡ 0) where
    abbrev F : Fetches M b
    F = laws.words b wk

    -- after the reply r to the word read
    abbrev Done : Bool → Taken → Type 0
    Done full r =
        Owing full D (record { board = M.stepped b (event.ReadWord 0); collector = r.collector }) (out ++ samples_of r.handed)
        (g + (if gap_marked r.handed then 1 else 0)) (suc k)

    one_more : done ++ (d ∷ rest) ≡ (done ++ (d ∷ [])) ++ rest
    one_more = simp append_assoc

    held_after : (M.view (M.stepped b (event.ReadWord 0))).held ≡ rest ++ X
    held_after = ap (λ (u : View). u.held) (F.leaves d (rest ++ X) holds)

    counted : suc k ≡ length (done ++ (d ∷ []))
    counted = rw length-append (omega arith)

    says : (y : Sample) → y.code ≡ code_of d → codes_of (out ++ (y ∷ [])) ≡ codes_in (done ++ (d ∷ []))
    says y e = rw (codes_append, in_append, said) (ap (λ (z : ℤ). codes_in done ++ (z ∷ [])) e)

    -- the sample y has come, and what it leaves owes the rest
    one-done : (full : Bool) (r : Taken) (y : Sample) → samples_of r.handed ≡ y ∷ [] → y.code ≡ code_of d → Stage full rest r.collector
        → g + (if gap_marked r.handed then 1 else 0) ≡ marked full rest → Done full r
    one-done full r y h e s m =
        record {
          done = done ++ (d ∷ []);
          rest = rest;
          X = X;
          cut = cut ∙ one_more;
          holds = held_after;
          said = rw h (says y e);
          count = counted;
          stage = s;
          mark = m;
        }

    -- it has come as the word that is d
    coded : (word : ℕ) → bus.Number d ≡ bus.Number word → code_of word ≡ code_of d
    coded word i = ap code_of (sym (same_word d word i))

    take_done : (r : Taken) → rest ≡ [] → Step c (bus.Number d) Take r → Done false r
    unfolding phase_of
    take_done r z (taken word i) = one-done false r _ refl (coded word i) (rw z) (rw z (omega arith))
    take_done r z (take_nothing i) = never (ap is_nothing i)

    drain_done : (r : Taken) → c.left ≡ suc (length rest) → Step c (bus.Number d) Drain r → Done true r
    unfolding phase_of
    drain_done r z (drain_nothing i) = never (ap is_nothing i)
    drain_done r z (drained word i e) = one-done true r _ refl (coded word i) (more rest refl) (unmarked rest refl)
      where
        h : 1 < c.left
        h = leb-false c.left 1 e

        more : (u : List ℕ) → rest ≡ u → Stage true rest r.collector
        more [] p = absurd (let y : length rest ≡ 0 = ap length p in omega (arith, h))
        more (n ∷ u) p = let y : length rest ≡ suc (length u) = ap length p in rw p (refl, omega arith)

        unmarked : (u : List ℕ) → rest ≡ u → g + 0 ≡ marked true rest
        unmarked [] p = absurd (let y : length rest ≡ 0 = ap length p in omega (arith, h))
        unmarked (n ∷ u) p = rw p (omega arith)
    drain_done r z (closed word i e) = one-done true r _ refl (coded word i) (last rest refl) (marks rest refl)
      where
        h : c.left ≤ 1
        h = leb-true c.left 1 e

        last : (u : List ℕ) → rest ≡ u → Stage true rest r.collector
        last [] p = rw p
        last (n ∷ u) p = absurd (let y : length rest ≡ suc (length u) = ap length p in omega (arith, h))

        marks : (u : List ℕ) → rest ≡ u → g + 1 ≡ marked true rest
        marks [] p = rw p (omega arith)
        marks (n ∷ u) p = absurd (let y : length rest ≡ suc (length u) = ap length p in omega (arith, h))

  -- ---- a turn while something is owed
  -- the turn of a fit collector is that of its phase
  pub turn_of_lem : (x : System M) → FitCollector x.collector
      → turning M words x ≡ turn_by M words (event_of (access_in (phase_of x.collector.phase) x.collector.settings)) x.collector x.board
  turn_of_lem x f = rw (access-fit x.collector f)

  -- a word read by a fit collector in phase p, d being the oldest sample held
  word-turn : (x : System M) (p : Phase) (d : ℕ) (rest : List ℕ) → FitCollector x.collector → Working x.board → phase_of x.collector.phase ≡ p
      → access_in p x.collector.settings ≡ Ok (ReadWord 0) → (M.view x.board).held ≡ d ∷ rest
      → turning M words x ≡ taken_by (replied x.collector (bus.Number d)) (M.stepped x.board (event.ReadWord 0))
  word-turn x p d rest f wk e a h = turn_of_lem x f ∙ rw (e, a, (laws.words x.board wk).oldest d rest h)

  pub step_in : (c : Collector) (a : ℕ) (p : Phase) → FitCollector c → phase_of c.phase ≡ p → Step c (bus.Number a) p (replied c (bus.Number a))
  step_in c a p f e = subst (λ (q : Phase). Step c (bus.Number a) q (replied c (bus.Number a))) e (step c (bus.Number a) refl f)

  owing-turn : (full : Bool) (D : List ℕ) (x : System M) (out : List Sample) (g k : ℕ) → FitCollector x.collector → Working x.board
      → Owing full D x out g k → suc k ≤ length D
      → Owing full D (next M words x turn) (out ++ given M words x turn) (g + (if gap M words x turn then 1 else 0)) (suc k)
  owing-turn full D x out g k fc wk o h = by full o.rest o.cut o.holds o.stage o.mark
    where
      by : (full : Bool) (rest : List ℕ) → D ≡ o.done ++ rest → (M.view x.board).held ≡ rest ++ o.X → Stage full rest x.collector
          → g ≡ marked full rest
          → Owing full D (next M words x turn) (out ++ given M words x turn) (g + (if gap M words x turn then 1 else 0)) (suc k)
      by full [] c p s m =
          absurd (let y : length D ≡ length o.done = ap length c ∙ ap length (append-nil o.done) in omega (arith, o.count))
      by false (d ∷ rest) c p s m =
          rw (word-turn x Take d (rest ++ o.X) fc wk s.0 refl p)
          (take_done x.board wk x.collector fc D o.done d rest o.X out g k c p o.said o.count m _ s.1
          (step_in x.collector d Take fc s.0))
      by true (d ∷ rest) c p s m =
          rw (word-turn x Drain d (rest ++ o.X) fc wk s.0 refl p)
          (drain_done x.board wk x.collector fc D o.done d rest o.X out g k c p o.said o.count m _ s.1
          (step_in x.collector d Drain fc s.0))

  pub owing : (t : Settings) (full : Bool) (D : List ℕ) (y : System M) → Sound M Working laws t y → Owing full D y [] 0 0 → (q : Run) → turns q ≤ length D
      → Owing full D (after M words y q) (given_in M words y q) (gaps_in M words y q) (turns q)
  unfolding after given_in gaps_in turns
  owing t full D y a o begin h = o
  owing t full D y a o (q ▸ turn) h =
      let k = sound M Working laws t y q a in
      owing-turn full D (after M words y q) (given_in M words y q) (gaps_in M words y q) (turns q) k.fit k.works
      (owing t full D y a o q (omega arith)) h
  owing t full D y a o (q ▸ world w) h =
      owing-world full D (after M words y q) (given_in M words y q) (gaps_in M words y q) (turns q) w (sound M Working laws t y q a).works
      (owing t full D y a o q h)
