-- A look, and all that it owes: the parts `yields`, `marks` and `again` of demand 3. Assumes nothing.
use Rattle.std.specs.Prelude.{ℕ, suc, ◌+◌, ◌≤◌, ◌<◌, Bool, true, false, ◌≡◌, refl, Ok, leb, take, if◌then◌else◌}
use mathlib.Core.List.{List, [], ◌∷◌, ◌++◌, append-nil}
use Rattle.std.proofs.Math.Path.{sym, ap}
use Rattle.std.proofs.Common.{◌∙◌, arith, le-leb, length-append, take_at}
use Rattle.std.proofs.lemmas.Bool.{lt-leb}
use Rattle.std.proofs.Math.ListN.{length}
use Rattle.base.specs.Laws.{never}
use Rattle.board_events.specs.declared.Event.TheVariants as event
use Rattle.collector_phases.specs.declared.Access.TheVariants.{WriteByte}
use Rattle.collector_phases.specs.declared.Collector.{Collector}
use Rattle.collector_settings.specs.declared.Settings.{Settings}
use Rattle.collector_steps.specs.declared.Taken.{Taken}
use Rattle.collector_phases.specs.declared.Phase.TheVariants.{Look}
use Rattle.collector_phases.specs.Phases.{phase_of, access_in}
use Rattle.collector_phases.specs.Fit.{FitCollector}
use Rattle.collector_phases.specs.Accesses.{access_of}
use Rattle.collector_answers.specs.declared.BusAnswer.TheVariants as bus
use Rattle.collector_replies.specs.Reply.{replied}
use Rattle.collector.specs.Handed.{samples_of, gap_marked}
use Rattle.collector.specs.Steps.{Step, access-fit}
use Rattle.collector.specs.Steps.{look_no_byte, look-empty, look-full, look-few}
use Rattle.archive_turns.specs.Machine.{View, Machine}
use Rattle.archive_turns.specs.Turn.{taken_by}
use Rattle.archive_turns.specs.Hosts.{words}
use Rattle.archive_demand.specs.Run.{turn, Run, begin, ◌▸◌, System, turning, next, given, gap, after, given_in, gaps_in, turns}
use Rattle.archive_demand.specs.Demand.{codes_of, codes_in, owed, look}
use Rattle.archive_demand.specs.Laws.{Laws}
use Rattle.archive_demand.specs.Sights.{status, shows-none, shows-some, shows-all, shows-few, first_of}
use Rattle.archive_demand.specs.Invariant.{Sound, sound}
use Rattle.archive_demand.specs.Yields.{Stage, marked, Owing, owing, turn_of_lem, step_in}

-- ---- how many are owed
owed_none : (h : List ℕ) → length h ≡ 0 → (leb 512 (length h) ≡ false) × (owed h ≡ 0)
owed_none h e = rw e (refl, refl)

owed-one : (h : List ℕ) → 1 ≤ length h → length h < 512 → (leb 512 (length h) ≡ false) × (owed h ≡ 1)
owed-one h a b = let x = lt-leb 512 (length h) b in (x, rw (x, le-leb 1 (length h) a))

owed_all : (h : List ℕ) → length h ≡ 512 → (leb 512 (length h) ≡ true) × (owed h ≡ 512)
owed_all h a = rw a (refl, refl)

module _ (M : Machine) (Working : M.Board → Type 0) (laws : Laws M Working) where
  -- what stands after a look: what is due, and the rest
  record Opened (x : System M) : Type 0 where
    D : List ℕ
    X : List ℕ
    whole : (M.view x.board).held ≡ D ++ X
    size : length D ≡ owed (M.view x.board).held
    silent : given M words x turn ≡ []
    unmarked : gap M words x turn ≡ false
    due : Owing M Working laws (leb 512 (length (M.view x.board).held)) D (next M words x turn) [] 0 0

  module _ (x : System M) (wk : Working x.board) (fc : FitCollector x.collector) (p : phase_of x.collector.phase ≡ Look) where
    abbrev h : List ℕ
    h = (M.view x.board).held

    abbrev a : ℕ
    a = status M Working laws x.board wk

    -- the look with its reply
    looked : turning M words x ≡ taken_by (replied x.collector (bus.Number a)) (M.stepped x.board (event.ReadByte 7))
    looked = turn_of_lem M Working laws x fc ∙ rw (p, (laws.looks x.board wk).serves.answers)

    held_after : (M.view (M.stepped x.board (event.ReadByte 7))).held ≡ h
    held_after = ap (λ (u : View). u.held) (laws.looks x.board wk).serves.leaves

    -- what is to hold after the reply r
    record Open (r : Taken) : Type 0 where
      D : List ℕ
      X : List ℕ
      whole : h ≡ D ++ X
      size : length D ≡ owed h
      silent : samples_of r.handed ≡ []
      unmarked : gap_marked r.handed ≡ false
      stage : Stage (leb 512 (length h)) D r.collector
      mark : 0 ≡ marked (leb 512 (length h)) D

    nil_of : (u : List ℕ) → length u ≡ 0 → u ≡ []
    nil_of [] e = refl
    nil_of (n ∷ u) e = absurd (omega arith)

    opens : (r : Taken) → Step x.collector (bus.Number a) Look r → Open r
    unfolding phase_of
    opens r (look_no_byte e) = never (sym (laws.looks x.board wk).narrow ∙ e)
    opens r (look-empty e f) =
        let n : length h ≡ 0 = shows-none M Working laws x.board wk f in
        let o = owed_none h n in
        record {
          D = [];
          X = [];
          whole = nil_of h n;
          size = sym o.1;
          silent = refl;
          unmarked = refl;
          stage = rw o.0 p;
          mark = rw o.0;
        }
    opens r (look-full e f g) =
        let n : length h ≡ 512 = shows-all M Working laws x.board wk g in
        let o = owed_all h n in
        let u = first_of h (omega arith) in
        record {
          D = u.0 ∷ u.1;
          X = [];
          whole = u.2 ∙ sym (append-nil (u.0 ∷ u.1));
          size = ap length (sym u.2) ∙ n ∙ sym o.1;
          silent = refl;
          unmarked = refl;
          stage = rw o.0 (refl, sym n ∙ ap length u.2);
          mark = refl;
        }
    opens r (look-few e f g) =
        let n : 1 ≤ length h = shows-some M Working laws x.board wk f in
        let o = owed-one h n (shows-few M Working laws x.board wk g) in
        let u = first_of h n in
        record {
          D = u.0 ∷ [];
          X = u.1;
          whole = u.2;
          size = sym o.1;
          silent = refl;
          unmarked = refl;
          stage = rw o.0 (refl, refl);
          mark = refl;
        }

    opened : Opened x
    opened =
        let k = opens (replied x.collector (bus.Number a)) (step_in M Working laws x.collector a Look fc p) in
        record {
          D = k.D;
          X = k.X;
          whole = k.whole;
          size = k.size;
          silent = rw looked k.silent;
          unmarked = rw looked k.unmarked;
          due = rw looked (record {
            done = [];
            rest = k.D;
            X = k.X;
            cut = refl;
            holds = held_after ∙ k.whole;
            said = refl;
            count = refl;
            stage = k.stage;
            mark = k.mark;
          });
        }

  -- ---- what a run makes of it
  module _ (t : Settings) (x : System M) (s : Sound M Working laws t x) (p : phase_of x.collector.phase ≡ Look) (q : Run)
      (few : turns q ≤ owed (M.view x.board).held) where
    abbrev held : List ℕ
    held = (M.view x.board).held

    k : Opened x
    k = opened x s.works s.fit p

    s₁ : Sound M Working laws t (next M words x turn)
    unfolding after
    s₁ = sound M Working laws t x (begin ▸ turn) s

    o : Owing M Working laws (leb 512 (length held)) k.D (after M words (next M words x turn) q) (given_in M words (next M words x turn) q)
        (gaps_in M words (next M words x turn) q) (turns q)
    o = owing M Working laws t (leb 512 (length held)) k.D (next M words x turn) s₁ k.due q (rw k.size few)

    split : held ≡ o.done ++ (o.rest ++ k.X)
    split = k.whole ∙ rw o.cut (simp mathlib.Core.List.append_assoc)

    pub yields_at : codes_of (given M words x turn ++ given_in M words (next M words x turn) q) ≡ codes_in (take (turns q) held)
    yields_at =
        rw k.silent (o.said ∙ ap codes_in (sym (ap (take (turns q)) split ∙ take_at o.done (o.rest ++ k.X) (turns q) (sym o.count))))

    sizes : turns q + length o.rest ≡ owed held
    sizes = rw o.count (sym (length-append o.done o.rest) ∙ ap length (sym o.cut) ∙ k.size)

    at_most_one_lem : leb 512 (length held) ≡ false → owed held ≤ 1
    at_most_one_lem e = rw e (by (leb 1 (length held)))
      where
        by : (z : Bool) → (if z then 1 else 0) ≤ 1
        by true = omega arith
        by false = omega arith

    all_of_them : leb 512 (length held) ≡ true → owed held ≡ 512
    all_of_them e = rw e

    pub marks-at : (gap M words x turn ≡ false) × (gaps_in M words (next M words x turn) q ≡ (if leb 512 (turns q) then 1 else 0))
    marks-at = (k.unmarked, o.mark ∙ by (leb 512 (length held)) refl o.rest refl)
      where
        by : (z : Bool) → leb 512 (length held) ≡ z → (r : List ℕ) → o.rest ≡ r → marked z r ≡ (if leb 512 (turns q) then 1 else 0)
        by true e [] f =
            let y : length o.rest ≡ 0 = ap length f in
            rw (le-leb 512 (turns q) (omega (arith, sizes, all_of_them e)))
        by true e (n ∷ r) f =
            let y : length o.rest ≡ suc (length r) = ap length f in
            rw (lt-leb 512 (turns q) (omega (arith, sizes, all_of_them e)))
        by false e [] f = rw (lt-leb 512 (turns q) (omega (arith, sizes, at_most_one_lem e)))
        by false e (n ∷ r) f = rw (lt-leb 512 (turns q) (omega (arith, sizes, at_most_one_lem e)))

    pub again-at : turns q ≡ owed held
        → access_of (after M words (next M words x turn) q).collector ≡ (if leb 512 (turns q) then Ok (WriteByte 9 0) else look)
    again-at e =
        access-fit _ (sound M Working laws t (next M words x turn) q s₁).fit ∙ by (leb 512 (length held)) refl o.rest refl o.stage
      where
        d : Collector
        d = (after M words (next M words x turn) q).collector

        by : (z : Bool) → leb 512 (length held) ≡ z → (r : List ℕ) → o.rest ≡ r
            → Stage z r (after M words (next M words x turn) q).collector
            → access_in (phase_of (after M words (next M words x turn) q).collector.phase) (after M words (next M words x turn) q).collector.settings
            ≡ (if leb 512 (turns q) then Ok (WriteByte 9 0) else look)
        by true w [] f g = rw (g, le-leb 512 (turns q) (omega (arith, e, all_of_them w)))
        by false w [] f g = rw (g, lt-leb 512 (turns q) (omega (arith, e, at_most_one_lem w)))
        by z w (n ∷ r) f g = absurd (let y : length o.rest ≡ suc (length r) = ap length f in omega (arith, sizes, e))
