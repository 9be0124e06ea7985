-- Theorems that rest on theorems of specs/Worlds.antt, and promise as those do. What specs/Worlds.antt says of itself:
-- An event of the world keeps what holds in each phase. Assumes nothing.
use Rattle.std.specs.Prelude.{ℕ, Bool, ◌≡◌, ℤ, if◌then◌else◌}
use Rattle.std.proofs.Math.Bool.{true, false}
use Rattle.std.proofs.Common.{true≢false, sym, ◌∙◌, ap, arith}
use mathlib.Core.List.{[]}
use Rattle.std.proofs.Math.Option.{Option, none, some}
use Rattle.std.proofs.Math.Path.{refl}
use Rattle.base.specs.Flags.{on}
use Rattle.base.specs.Laws.{both}
use Rattle.converter.specs.Channels.{started, idle, end_starts}
use Rattle.converter.specs.Codes.{sample_of, code_of}
use Rattle.collector_settings.specs.declared.Settings.{Settings}
use Rattle.collector_phases.specs.declared.Phase.{Phase}
use Rattle.collector_phases.specs.declared.Phase.TheVariants.{Stop, Poll, Range, Clear, Low, High, Go, Look, Take, Drain, Stuck, Unknown}
use Rattle.collector_phases.specs.Fit.{FitSettings}
use Rattle.archive_turns.specs.Machine.{View}
use Rattle.archive_demand.specs.Log.{Log, end_counted, at_most_one, note_world}
use Rattle.archive_demand.specs.Laws.{starting, ending, Happens, quiet, trigger, end}
use Rattle.archive_demand.specs.Phases.{Quiet, Running, Looking, Taking, Draining, Fact}
use Rattle.archive_demand.specs.Ends.{after_end, queue-begin, queue_relog, look-end, take_end, drain_end}
use Rattle.archive_demand.specs.Worlds.{idle-world, no_fewer, requieted}

-- ---- what does not depend on the samples
running-world : (t : Settings) (next : ℕ) (e : Option ℤ) (begins : Bool) (ch : ℕ) (l : Log) → Running t next l
    → Running t next (note_world e begins ch l)
running-world t next e begins ch l k = record { since = k.since; runs = k.runs }

-- nothing happens to a board that neither converts nor is clocked
calm : (begins : Bool) (e : Option ℤ) (v v' : View) → on v.converter.clken ≡ false → on v.converter.converting ≡ false → Happens begins e v v'
    → (begins ≡ false) × (e ≡ none) × (v' ≡ v)
calm begins e v v' p q (quiet a b c) = (a, b, c)
calm begins e v v' p q (trigger a b c d f) = absurd (true≢false (sym c ∙ p))
calm begins e v v' p q (end code k a b c d) = absurd (true≢false (sym c ∙ q))

ended-clken : (b : Bool) (v : View) → on (if b then started v.converter else idle v.converter).clken ≡ on v.converter.clken
ended-clken true v = refl
ended-clken false v = refl

clken-kept : (begins : Bool) (e : Option ℤ) (v v' : View) → Happens begins e v v' → on v'.converter.clken ≡ on v.converter.clken
clken-kept begins e v v' (quiet a b c) = ap (λ (u : View). on u.converter.clken) c
clken-kept begins e v v' (trigger a b c d f) = ap (λ (u : View). on u.converter.clken) f
clken-kept begins e v v' (end code k a b c d) = ap (λ (u : View). on u.converter.clken) d ∙ ended-clken (end_starts v.converter) v

-- ---- in a run an event of the world does nothing here, begins a conversion, or ends one that begins no other
module _ (P : View → Log → Type 0) (v : View) (l : Log) (no_scan : on v.converter.scanen ≡ false)
    (again : P v (requieted l))
    (begun : on v.converter.converting ≡ false → P (starting v) (note_world none true v.converter.selected l))
    (over : (code : ℤ) → code_of (sample_of code) ≡ code → on v.converter.converting ≡ true
    → P (after_end (sample_of code) v) (note_world (some code) false v.converter.selected l)) where
  by-event : (begins : Bool) (e : Option ℤ) (v' : View) → Happens begins e v v' → P v' (note_world e begins v.converter.selected l)
  unfolding requieted
  by-event begins e v' (quiet a b c) = rw (a, b, c) again
  by-event begins e v' (trigger a b c d f) = rw (a, b, f) (begun d)
  by-event begins e v' (end code s a b c d) =
      let z : end_starts v.converter ≡ false = rw no_scan in
      let y : ending (sample_of code) v ≡ after_end (sample_of code) v = rw z in
      rw (a ∙ z, b, d ∙ y) (over code s c)

module _ (t : Settings) (next left : ℕ) (f : FitSettings t) (v : View) (l : Log) (begins : Bool) (e : Option ℤ) (v' : View) (h : Happens begins e v v') where
  abbrev ch : ℕ
  ch = v.converter.selected

  abbrev l' : Log
  l' = note_world e begins ch l

  was_within : l'.within ≡ true → l.within ≡ true
  was_within w = (both l.within (at_most_one (end_counted e l.waiting)) w).0

  looking : Looking t next v l → l'.within ≡ true → Looking t next v' l'
  unfolding by-event requieted
  looking k =
      by-event (λ u m. m.within ≡ true → Looking t next u m) v l k.inner.no_scan
      (λ w.
      record { Q = k.Q; L = k.L; inner = queue_relog t next v l (requieted l) k.Q k.L refl refl refl k.inner; holds = k.holds; loss = k.loss })
      (λ b w. record { Q = k.Q; L = k.L; inner = queue-begin t next v l k.Q k.L f b k.inner; holds = k.holds; loss = k.loss })
      (λ code s b w. look-end t next v l code ch s b k) begins e v' h

  taking : Taking t next v l → l'.within ≡ true → Taking t next v' l'
  unfolding by-event requieted
  taking k =
      by-event (λ u m. m.within ≡ true → Taking t next u m) v l k.inner.no_scan
      (λ w. record {
        Q = k.Q;
        n = k.n;
        inner = queue_relog t next v l (requieted l) k.Q [] refl refl refl k.inner;
        holds = k.holds;
        waits = k.waits;
        few = k.few;
      })
      (λ b w. record {
        Q = k.Q;
        n = k.n;
        inner = queue-begin t next v l k.Q [] f b k.inner;
        holds = k.holds;
        waits = k.waits;
        few = k.few;
      })
      (λ code s b w. take_end t next v l code ch s b (both l.within (at_most_one (end_counted (some code) l.waiting)) w).1 k) begins e v' h

  draining : Draining left t next v l → l'.within ≡ true → Draining left t next v' l'
  unfolding by-event requieted
  draining k =
      by-event (λ u m. m.within ≡ true → Draining left t next u m) v l k.inner.no_scan
      (λ w. record {
        Q = k.Q;
        L = k.L;
        X = k.X;
        inner = queue_relog t next v l (requieted l) k.Q k.L refl refl refl k.inner;
        holds = k.holds;
        size = k.size;
        more = k.more;
      })
      (λ b w. record {
        Q = k.Q;
        L = k.L;
        X = k.X;
        inner = queue-begin t next v l k.Q k.L f b k.inner;
        holds = k.holds;
        size = k.size;
        more = k.more;
      })
      (λ code s b w. drain_end t next v l code ch s b left k) begins e v' h

  -- a phase of the start after its poll: nothing happens
  quieted : (P : View → Log → Type 0) → on v.converter.clken ≡ false → on v.converter.converting ≡ false → P v (note_world none false ch l) → P v' l'
  quieted P c b p = let k = calm begins e v v' c b h in rw (k.0, k.1, k.2) p

  quiet-log : Quiet t next v l → Quiet t next v (note_world none false ch l)
  quiet-log k = record { idle = idle-world none false ch l k.idle; aim = k.aim; off = k.off; still = k.still }

  pub world-kept : (p : Phase) → Fact p t next left v l → Fact p t next left v' l'
  unfolding quieted looking taking draining
  world-kept Stop k = (idle-world e begins ch l k.0, k.1)
  world-kept Poll k = (idle-world e begins ch l k.0, k.1, clken-kept begins e v v' h ∙ k.2)
  world-kept Range k = quieted (λ u m. Fact Range t next left u m) k.off k.still (quiet-log k)
  world-kept Clear k = quieted (λ u m. Fact Clear t next left u m) k.off k.still (quiet-log k)
  world-kept Low k = quieted (λ u m. Fact Low t next left u m) k.0.off k.0.still (quiet-log k.0, k.1, k.2)
  world-kept High k = quieted (λ u m. Fact High t next left u m) k.0.off k.0.still (quiet-log k.0, k.1, k.2, k.3)
  world-kept Go k = quieted (λ u m. Fact Go t next left u m) k.0.off k.0.still (quiet-log k.0, k.1, k.2, k.3, k.4, k.5)
  world-kept Look k = (running-world t next e begins ch l k.0, λ w. looking (k.1 (was_within w)) w)
  world-kept Take k = (running-world t next e begins ch l k.0, λ w. taking (k.1 (was_within w)) w, omega (arith, k.2, no_fewer begins e v v' h))
  world-kept Drain k = (running-world t next e begins ch l k.0, λ w. draining (k.1 (was_within w)) w, omega (arith, k.2, no_fewer begins e v v' h))
  world-kept Stuck k = idle-world e begins ch l k
  world-kept Unknown k = absurd k
