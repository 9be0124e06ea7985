-- Theorems that rest on theorems of specs/Theorem.antt, and promise as those do. What specs/Theorem.antt says of itself:
-- Demand 3 holds of the collector on any board that obeys the laws. Assumes nothing.
use Rattle.std.specs.Prelude.{ℕ, suc, ◌≤◌, true, false, ◌≡◌, refl, Result, Ok, length}
use Rattle.std.proofs.Common.{true≢false, sym, ◌∙◌, ap, subst, arith}
use mathlib.Core.List.{List, [], ◌∷◌, ◌++◌, IsPrefix}
use Rattle.collector_phases.specs.declared.Access.{Access}
use Rattle.collector_phases.specs.declared.Access.TheVariants.{WriteByte, ReadByte, ReadWord}
use Rattle.base.specs.Laws.{never}
use Rattle.base.specs.declared.Refusal.{Refusal}
use Rattle.collector_settings.specs.declared.Settings.{Settings}
use Rattle.collector_phases.specs.declared.Collector.{Collector}
use Rattle.collector_answers.specs.declared.BusAnswer.TheVariants as bus
use Rattle.samples.specs.declared.Sample.{Sample}
use Rattle.collector_phases.specs.declared.Phase.{Phase}
use Rattle.collector_phases.specs.declared.Phase.TheVariants.{Stop, Poll, Range, Clear, Low, High, Go, Look, Take, Drain, Stuck, Unknown}
use Rattle.collector_phases.specs.Phases.{phase_of, access_in, is_word_read}
use Rattle.collector_phases.specs.Fit.{FitIn, FitSettings}
use Rattle.collector_phases.specs.Accesses.{access_of}
use Rattle.collector_records.specs.Records.{first_record}
use Rattle.collector.specs.Steps.{access-fit}
use Rattle.archive_turns.specs.Machine.{View, Machine}
use Rattle.archive_turns.specs.Turn.{event_of, brought_by}
use Rattle.archive_turns.specs.Hosts.{words}
use Rattle.archive_demand.specs.Run.{Happening, turn, world, Run, System, given, gap, after}
use Rattle.archive_demand.specs.Log.{Log, brings_by, log}
use Rattle.archive_demand.specs.Demand.{Demand3, Either, first, second, look, word_read}
use Rattle.archive_demand.specs.Laws.{Laws}
use Rattle.archive_demand.specs.Chain.{Chain}
use Rattle.archive_demand.specs.Phases.{Any, Queue, Fact, FactOf}
use Rattle.archive_demand.specs.Invariant.{Sound, sound, s₀, sound₀, fact₀}
use Rattle.archive_demand.proofs.Invariant.{facts}
use Rattle.archive_demand.specs.Sights.{first_of}
use Rattle.archive_demand.specs.Told.{phase-told}
use Rattle.archive_demand.proofs.Looked.{yields_at, marks-at, again-at}
use Rattle.archive_demand.specs.Starts.{quiet-turn, ready_at, polls-at, waits-at}
use Rattle.archive_demand.specs.Theorem.{RunState, idle, running}

-- ---- what each phase says of the log
split-prefix : (t : Settings) (next : ℕ) (v : View) (l : Log) (Q L : List Sample) → Queue t next v l Q L → IsPrefix l.handed l.samples
split-prefix t next v l Q L q = (Q ++ L, sym q.split)

prefix_of : (p : Phase) (t : Settings) (next left : ℕ) (v : View) (l : Log) → Fact p t next left v l → l.within ≡ true
    → IsPrefix l.handed l.samples
prefix_of Stop t next left v l k = k.0.prefix
prefix_of Poll t next left v l k = k.0.prefix
prefix_of Range t next left v l k = k.idle.prefix
prefix_of Clear t next left v l k = k.idle.prefix
prefix_of Low t next left v l k = k.0.idle.prefix
prefix_of High t next left v l k = k.0.idle.prefix
prefix_of Go t next left v l k = k.0.idle.prefix
prefix_of Look t next left v l k = λ w. let z = k.1 w in split-prefix t next v l z.Q z.L z.inner
prefix_of Take t next left v l k = λ w. let z = k.1 w in split-prefix t next v l z.Q [] z.inner
prefix_of Drain t next left v l k = λ w. let z = k.1 w in split-prefix t next v l z.Q z.L z.inner
prefix_of Stuck t next left v l k = k.prefix
prefix_of Unknown t next left v l k = absurd k

state_of_lem : (p : Phase) (t : Settings) (next left : ℕ) (v : View) (l : Log) → Fact p t next left v l → RunState p t next l
state_of_lem Stop t next left v l k = idle tt k.0
state_of_lem Poll t next left v l k = idle tt k.0
state_of_lem Range t next left v l k = idle tt k.idle
state_of_lem Clear t next left v l k = idle tt k.idle
state_of_lem Low t next left v l k = idle tt k.0.idle
state_of_lem High t next left v l k = idle tt k.0.idle
state_of_lem Go t next left v l k = idle tt k.0.idle
state_of_lem Look t next left v l k = running (first refl) k.0
state_of_lem Take t next left v l k = running (second refl) k.0
state_of_lem Drain t next left v l k = running (second refl) k.0
state_of_lem Stuck t next left v l k = idle tt k
state_of_lem Unknown t next left v l k = absurd k

module _ (M : Machine) (Working : M.Board → Type 0) (laws : Laws M Working) (b : M.Board) (wk : Working b) (t : Settings) (f : FitSettings t) where
  abbrev s : System M
  s = s₀ M Working laws b wk t f

  abbrev at : Run → System M
  at r = after M words s r

  ok : (r : Run) → Sound M Working laws t (at r)
  ok r = sound M Working laws t s r (sound₀ M Working laws b wk t f)

  fact : (r : Run) → FactOf (at r).collector (M.view (at r).board) (log M words s r)
  fact r = facts M Working laws t s r (sound₀ M Working laws b wk t f) (fact₀ M Working laws b wk t f)

  state : (r : Run) → RunState (phase_of (at r).collector.phase) (at r).collector.settings (at r).collector.next (log M words s r)
  state r = state_of_lem (phase_of (at r).collector.phase) _ _ (at r).collector.left (M.view (at r).board) _ (fact r)

  abbrev Quietly : Run → Happening → Type 0
  Quietly r e = (given M words (at r) e ≡ []) × (gap M words (at r) e ≡ false)

  outside : (r : Run) (e : Happening) → (log M words s r).running ≡ false → Quietly r e
  outside r (world w) h = (refl, refl)
  outside r turn h = by (state r)
    where
      by : RunState (phase_of (at r).collector.phase) (at r).collector.settings (at r).collector.next (log M words s r) → Quietly r turn
      by (idle a i) = quiet-turn M Working laws (at r) (ok r).works (ok r).fit (phase_of (at r).collector.phase) refl a
      by (running a i) = absurd (true≢false (sym i.runs ∙ h))

  starts-low : (l : Log) (n : ℕ) (y : Sample) (ys : List Sample) → Chain Any t t.low l.since_gap n → l.since_gap ≡ y ∷ ys → y.channel ≡ t.low
  starts-low l n y ys c e = (subst (λ (u : List Sample). Chain Any t t.low u n) e c).0

  low : (r : Run) (y : Sample) (ys : List Sample) → (log M words s r).since_gap ≡ y ∷ ys → y.channel ≡ t.low
  low r y ys e = by (state r)
    where
      by : RunState (phase_of (at r).collector.phase) (at r).collector.settings (at r).collector.next (log M words s r) → y.channel ≡ t.low
      by (idle a i) = let n : ◌≡◌ {A = ℕ} 0 (suc (length ys)) = ap length (sym i.since ∙ e) in absurd (omega arith)
      by (running a i) =
          starts-low (log M words s r) (at r).collector.next y ys
          (subst (λ (u : Settings). Chain Any u u.low (log M words s r).since_gap (at r).collector.next) (ok r).same i.since) e

  in_run : (r : Run) → (log M words s r).running ≡ true → Either (access_of (at r).collector ≡ look) (access_of (at r).collector ≡ word_read)
  in_run r h = by (state r)
    where
      which : Either (phase_of (at r).collector.phase ≡ Look) (access_in (phase_of (at r).collector.phase) (at r).collector.settings ≡ Ok (ReadWord 0))
          → Either (access_of (at r).collector ≡ look) (access_of (at r).collector ≡ word_read)
      which (first p) = first (access-fit (at r).collector (ok r).fit ∙ ap (λ (q : Phase). access_in q (at r).collector.settings) p)
      which (second a) = second (access-fit (at r).collector (ok r).fit ∙ a)

      by : RunState (phase_of (at r).collector.phase) (at r).collector.settings (at r).collector.next (log M words s r)
          → Either (access_of (at r).collector ≡ look) (access_of (at r).collector ≡ word_read)
      by (idle a i) = absurd (true≢false (sym h ∙ i.runs))
      by (running a i) = which a

  at-look : (r : Run) → access_of (at r).collector ≡ look → phase_of (at r).collector.phase ≡ Look
  at-look r e = phase-told (at r).collector look (ok r).fit e

  at-poll : (r : Run) → access_of (at r).collector ≡ Ok (ReadByte 8) → phase_of (at r).collector.phase ≡ Poll
  at-poll r e = phase-told (at r).collector (Ok (ReadByte 8)) (ok r).fit e

  -- a word read finds a sample: in a take one is held, in a drain as many as are left
  some-held : (p : Phase) (c : Collector) (v : View) (l : Log) → FitIn p c → Fact p c.settings c.next c.left v l → access_in p c.settings ≡ word_read
      → 1 ≤ length v.held
  some-held Stop c v l i k e = never (ap is_word_read e)
  some-held Poll c v l i k e = never (ap is_word_read e)
  some-held Range c v l i k e = never (ap is_word_read e)
  some-held Clear c v l i k e = never (ap is_word_read e)
  some-held Low c v l i k e = never (ap is_word_read e)
  some-held High c v l i k e = never (ap is_word_read e)
  some-held Go c v l i k e = never (ap is_word_read e)
  some-held Look c v l i k e = never (ap is_word_read e)
  some-held Take c v l i k e = k.2
  some-held Drain c v l i k e = omega (arith, i.0, k.2)
  some-held Stuck c v l i k e = never (ap is_word_read e)
  some-held Unknown c v l i k e = absurd i

  sample-there : (r : Run) → access_of (at r).collector ≡ word_read
      → (word : ℕ) × (brings_by M (at r).board (event_of (access_of (at r).collector)) ≡ bus.Number word)
  sample-there r e =
      let c = (at r).collector in
      let h = first_of (M.view (at r).board).held
      (some-held (phase_of c.phase) c (M.view (at r).board) (log M words s r) (ok r).fit.phase (fact r) (sym (access-fit c (ok r).fit) ∙ e)) in (
        h.0,
        ap (λ (x : Result Access Refusal). brings_by M (at r).board (event_of x)) e
            ∙ ap brought_by ((laws.words (at r).board (ok r).works).oldest h.0 h.1 h.2),
      )

  pub demand3 : Demand3 M words (record { board = b; collector = first_record t })
  unfolding after phase_of
  demand3 =
      record {
        in_order = λ r w. prefix_of (phase_of (at r).collector.phase) _ _ (at r).collector.left (M.view (at r).board) _ (fact r) w;
        only-running = outside;
        low_first = low;
        yields = λ r q e k. yields_at M Working laws t (at r) (ok r) (at-look r e) q k;
        marks = λ r q e k. marks-at M Working laws t (at r) (ok r) (at-look r e) q k;
        again = λ r q e k. again-at M Working laws t (at r) (ok r) (at-look r e) q (omega (arith, k)) k;
        goes_on = in_run;
        finds = sample-there;
        begins = access-fit (first_record t) (sound₀ M Working laws b wk t f).fit;
        polls = λ r e. polls-at M Working laws t (at r) (ok r) (phase-told (at r).collector (Ok (WriteByte 9 0)) (ok r).fit e);
        waits = λ r e k. waits-at M Working laws t (at r) (ok r) (at-poll r e) k;
        ready = λ r q e n k. ready_at M Working laws t (at r) (ok r) (at-poll r e) n q k;
      }
