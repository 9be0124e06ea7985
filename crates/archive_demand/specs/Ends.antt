-- How the samples still to be handed over grow as conversions begin and end. Assumes nothing.
use Rattle.std.specs.Prelude.{ℕ, ◌+◌, ◌≤◌, ◌<◌, Bool, true, false, ◌≡◌, ℤ, ltb}
use mathlib.Core.List.{List, [], ◌∷◌, ◌++◌, append_assoc, append-nil}
use Rattle.std.proofs.Math.Option.{Option, none, some}
use Rattle.std.proofs.Math.Path.{refl}
use Rattle.std.proofs.Common.{◌∙◌, ap, arith}
use Rattle.std.proofs.Math.ListN.{length, length-append}
use borrow.Author.Tests.{ltb-true, ltb-false, lt-ltb, leb-true}
use Rattle.base.specs.Flags.{on}
use Rattle.fifo.specs.Samples.{pushed}
use Rattle.converter.specs.Channels.{idle}
use Rattle.converter.specs.Codes.{sample_of, code_of}
use Rattle.collector_settings.specs.declared.Settings.{Settings}
use Rattle.samples.specs.declared.Sample.{Sample}
use Rattle.collector_phases.specs.Fit.{FitSettings}
use Rattle.archive_turns.specs.Machine.{View}
use Rattle.archive_demand.specs.Log.{Log, end_counted, at_most_one, note_world}
use Rattle.archive_demand.specs.Laws.{starting}
use Rattle.collector_records.specs.Records.{follows}
use Rattle.collector.specs.Kept.{follows-from, follows_to}
use Rattle.archive_demand.specs.Chain.{join, snoc, selection_follows}
use Rattle.archive_demand.specs.Phases.{words_of, words_append, CodeFits, Tail, Queue, Loss, no_loss, was_full, Looking, Taking, Draining}

-- ---- the queue
pub queue-begin : (t : Settings) (next : ℕ) (v : View) (l : Log) (Q L : List Sample) → FitSettings t → on v.converter.converting ≡ false
    → Queue t next v l Q L → Queue t next (starting v) (note_world none true v.converter.selected l) Q L
queue-begin t next v l Q L f e q =
    record {
      m = q.m;
      k = q.k;
      split = q.split;
      queue = q.queue;
      lost = q.lost;
      tail = (ap {B = Option ℕ} some old.1, moved ∙ ap (follows t) old.1);
      is-low = q.is-low;
      is-high = q.is-high;
      no_scan = q.no_scan;
      from = rw moved (follows-from t v.converter.selected f q.from);
      to = rw moved (follows_to t v.converter.selected f q.to);
    }
  where
    old : Tail t false l.current v.converter.selected q.k
    old = rw e at q.tail

    moved : (starting v).converter.selected ≡ follows t v.converter.selected
    moved = rw (q.is-low, q.is-high) (selection_follows t v.converter.selected f q.to)

abbrev pub sample : ℕ → ℤ → Sample
sample channel code = record { channel = channel; code = code }

-- the view after an end that begins no other conversion
abbrev pub after_end : ℕ → View → View
after_end c v = record { converter = idle v.converter; held = pushed v.held c }

-- an end: one more sample, behind all the others
pub queue-end : (t : Settings) (next : ℕ) (v : View) (l : Log) (Q L : List Sample) (code : ℤ) (ch : ℕ) → code_of (sample_of code) ≡ code
    → on v.converter.converting ≡ true → (q : Queue t next v l Q L)
    → Queue t next (after_end (sample_of code) v) (note_world (some code) false ch l) Q (L ++ (sample q.k code ∷ []))
queue-end t next v l Q L code ch s e q =
    record {
      m = q.m;
      k = follows t q.k;
      split = rw old.0 (ap (λ (u : List Sample). u ++ (sample q.k code ∷ [])) q.split ∙ regroup);
      queue = q.queue;
      lost = snoc CodeFits t q.m q.k L (sample q.k code) q.lost refl s;
      tail = (refl, old.1);
      is-low = q.is-low;
      is-high = q.is-high;
      no_scan = q.no_scan;
      from = q.from;
      to = q.to;
    }
  where
    old : Tail t true l.current v.converter.selected q.k
    old = rw e at q.tail

    regroup : (l.handed ++ (Q ++ L)) ++ (sample q.k code ∷ []) ≡ l.handed ++ (Q ++ (L ++ (sample q.k code ∷ [])))
    regroup = simp append_assoc

pub queue_merge : (t : Settings) (next : ℕ) (v : View) (l : Log) (Q L : List Sample) → Queue t next v l Q L → Queue t next v l (Q ++ L) []
queue_merge t next v l Q L q =
    record {
      m = q.k;
      k = q.k;
      split = rw append-nil q.split;
      queue = join CodeFits t next q.m q.k Q L q.queue q.lost;
      lost = refl;
      tail = q.tail;
      is-low = q.is-low;
      is-high = q.is-high;
      no_scan = q.no_scan;
      from = q.from;
      to = q.to;
    }

-- ---- ends in each phase of a run
module _ (t : Settings) (next : ℕ) (v : View) (l : Log) (code : ℤ) (ch : ℕ) (s : code_of (sample_of code) ≡ code)
    (e : on v.converter.converting ≡ true) where
  abbrev v₁ : View
  v₁ = after_end (sample_of code) v

  abbrev l₁ : Log
  l₁ = note_world (some code) false ch l

  pub look-end : Looking t next v l → Looking t next v₁ l₁
  unfolding pushed
  look-end k = go (ltb (length v.held) 512) refl k.loss
    where
      q : Queue t next v₁ l₁ k.Q (k.L ++ (sample k.inner.k code ∷ []))
      q = queue-end t next v l k.Q k.L code ch s e k.inner

      kept : ltb (length v.held) 512 ≡ true → k.L ≡ [] → Looking t next v₁ l₁
      kept a z =
          record {
            Q = k.Q ++ (k.L ++ (sample k.inner.k code ∷ []));
            L = [];
            inner = queue_merge t next v₁ l₁ k.Q (k.L ++ (sample k.inner.k code ∷ [])) q;
            holds = rw (a, z, words_append) (ap (λ (u : List ℕ). u ++ (sample_of code ∷ [])) k.holds);
            loss = no_loss refl;
          }

      lost : ltb (length v.held) 512 ≡ false → Looking t next v₁ l₁
      lost a =
          record {
            Q = k.Q;
            L = k.L ++ (sample k.inner.k code ∷ []);
            inner = q;
            holds = rw a k.holds;
            loss = was_full (rw a (ltb-false (length v.held) 512 a));
          }

      go : (b : Bool) → ltb (length v.held) 512 ≡ b → Loss k.L v.held → Looking t next v₁ l₁
      go false a _ = lost a
      go true a (no_loss z) = kept a z
      go true a (was_full z) = absurd (let y : length v.held < 512 = ltb-true (length v.held) 512 a in omega arith)

  pub take_end : at_most_one (end_counted (some code) l.waiting) ≡ true → Taking t next v l → Taking t next v₁ l₁
  unfolding pushed
  take_end a k =
      record {
        Q = k.Q ++ (sample k.inner.k code ∷ []);
        n = k.n + 1;
        inner = queue_merge t next v₁ l₁ k.Q (sample k.inner.k code ∷ []) (queue-end t next v l k.Q [] code ch s e k.inner);
        holds = rw (fits, words_append) (ap (λ (u : List ℕ). u ++ (sample_of code ∷ [])) k.holds);
        waits = rw k.waits;
        few = rw fits (rw length-append (let y : length v.held ≤ 511 + k.n = k.few in omega arith));
      }
    where
      one : k.n + 1 ≤ 1
      one = leb-true (k.n + 1) 1 (rw k.waits at a)

      fits : ltb (length v.held) 512 ≡ true
      fits = lt-ltb (length v.held) 512 (let y : length v.held ≤ 511 + k.n = k.few in let z : k.n + 1 ≤ 1 = one in omega arith)

  pub drain_end : (left : ℕ) → Draining left t next v l → Draining left t next v₁ l₁
  unfolding pushed
  drain_end left k = go (ltb (length v.held) 512) refl
    where
      q : Queue t next v₁ l₁ k.Q (k.L ++ (sample k.inner.k code ∷ []))
      q = queue-end t next v l k.Q k.L code ch s e k.inner

      go : (b : Bool) → ltb (length v.held) 512 ≡ b → Draining left t next v₁ l₁
      go true a =
          record {
            Q = k.Q;
            L = k.L ++ (sample k.inner.k code ∷ []);
            X = k.X ++ (sample_of code ∷ []);
            inner = q;
            holds = rw a (ap (λ (u : List ℕ). u ++ (sample_of code ∷ [])) k.holds ∙ append_assoc (words_of k.Q) k.X (sample_of code ∷ []));
            size = k.size;
            more = k.more;
          }
      go false a =
          record {
            Q = k.Q;
            L = k.L ++ (sample k.inner.k code ∷ []);
            X = k.X;
            inner = q;
            holds = rw a k.holds;
            size = k.size;
            more = k.more;
          }

-- ---- the facts of a run depend on three parts of the log
pub queue_relog : (t : Settings) (next : ℕ) (v : View) (l l' : Log) (Q L : List Sample) → l'.samples ≡ l.samples → l'.handed ≡ l.handed
    → l'.current ≡ l.current → Queue t next v l Q L → Queue t next v l' Q L
queue_relog t next v l l' Q L a b c q =
    record {
      m = q.m;
      k = q.k;
      split = rw (a, b) q.split;
      queue = q.queue;
      lost = q.lost;
      tail = rw c q.tail;
      is-low = q.is-low;
      is-high = q.is-high;
      no_scan = q.no_scan;
      from = q.from;
      to = q.to;
    }
