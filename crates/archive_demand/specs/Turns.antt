-- The collector's turn keeps what holds in each phase. Assumes nothing.
use Rattle.std.specs.Prelude.{ℕ, ◌≤◌, ◌<◌, false, List, [], ◌∷◌, ◌++◌, ◌≡◌, refl, Result, length}
use Rattle.std.proofs.Common.{append_assoc, append-nil, sym, ◌∙◌, ap, arith}
use Rattle.std.proofs.Math.Option.{Option, none, some}
use Rattle.base.specs.declared.Refusal.{Refusal}
use Rattle.converter.specs.Codes.{sample_of}
use Rattle.collector_phases.specs.declared.Access.{Access}
use Rattle.collector_settings.specs.declared.Settings.{Settings}
use Rattle.samples.specs.declared.Sample.{Sample}
use Rattle.collector_answers.specs.declared.BusAnswer.{BusAnswer}
use Rattle.collector_answers.specs.Answers.{sample_at}
use Rattle.collector.specs.Handed.{is_go}
use Rattle.archive_turns.specs.Machine.{View}
use Rattle.archive_demand.specs.Log.{Log, stretch, note_turn}
use Rattle.archive_demand.specs.Laws.{leaving}
use Rattle.collector_records.specs.Records.{follows}
use Rattle.archive_demand.specs.Chain.{Chain, snoc}
use Rattle.archive_demand.specs.Phases.{words_of, length_words, CodeFits, Any, Idle, Quiet, Running, Queue, Loss, no_loss, was_full, Looking, Taking}
use Rattle.archive_demand.specs.Phases.{Draining}
use Rattle.archive_demand.specs.Ends.{queue_relog}

-- ---- a turn at which nothing is handed over changes the log in `waiting` alone
abbrev pub rewaiting : Log → Option ℕ → Log
rewaiting l w =
    record {
      samples = l.samples;
      current = l.current;
      handed = l.handed;
      since_gap = l.since_gap;
      running = l.running;
      waiting = w;
      within = l.within;
    }

pub still : (x : Result Access Refusal) (a : BusAnswer) (ch : ℕ) (l : Log) → is_go x ≡ false
    → note_turn x a false ch [] false l ≡ rewaiting l (stretch x a l.waiting)
still x a ch l g = rw (g, append-nil l.handed, append-nil l.since_gap)

module _ (l : Log) (w : Option ℕ) where
  pub idle-on : Idle l → Idle (rewaiting l w)
  idle-on i = record { prefix = i.prefix; since = i.since; runs = i.runs }

  pub quiet-on : (t : Settings) (next : ℕ) (v : View) → Quiet t next v l → Quiet t next v (rewaiting l w)
  quiet-on t next v k = record { idle = idle-on k.idle; aim = k.aim; off = k.off; still = k.still }

  pub running-on : (t : Settings) (next : ℕ) → Running t next l → Running t next (rewaiting l w)
  running-on t next k = record { since = k.since; runs = k.runs }

  pub looking-on : (t : Settings) (next : ℕ) (v : View) → Looking t next v l → Looking t next v (rewaiting l w)
  looking-on t next v k =
      record { Q = k.Q; L = k.L; inner = queue_relog t next v l (rewaiting l w) k.Q k.L refl refl refl k.inner; holds = k.holds; loss = k.loss }

-- ---- a look that shows some samples, and one that shows the memory full
module _ (t : Settings) (next : ℕ) (v : View) (l : Log) where
  pub look-some : length v.held < 512 → Looking t next v l → Taking t next v (rewaiting l (some 0))
  look-some b k =
      record { Q = k.Q; n = 0; inner = go k.loss; holds = k.holds; waits = refl; few = omega arith }
    where
      go : Loss k.L v.held → Queue t next v (rewaiting l (some 0)) k.Q []
      go (no_loss e) = rw e at (queue_relog t next v l (rewaiting l (some 0)) k.Q k.L refl refl refl k.inner)
      go (was_full e) = absurd (omega arith)

  pub look-all : (w : Option ℕ) → length v.held ≡ 512 → Looking t next v l → Draining 512 t next v (rewaiting l w)
  look-all w a k =
      record {
        Q = k.Q;
        L = k.L;
        X = [];
        inner = queue_relog t next v l (rewaiting l w) k.Q k.L refl refl refl k.inner;
        holds = rw append-nil k.holds;
        size = sym (length_words k.Q) ∙ ap length (sym k.holds) ∙ a;
        more = omega arith;
      }

  -- ---- the oldest sample is handed over
  abbrev pub handing : Sample → Log
  handing y =
      record {
        samples = l.samples;
        current = l.current;
        handed = l.handed ++ (y ∷ []);
        since_gap = l.since_gap ++ (y ∷ []);
        running = l.running;
        waiting = none;
        within = l.within;
      }

  pub running_hand : (y : Sample) → y.channel ≡ next → Running t next l → Running t (follows t next) (handing y)
  running_hand y e k = record { since = snoc Any t t.low next l.since_gap y k.since e tt; runs = k.runs }

  pub queue_hand : (l' : Log) (y : Sample) (Q L : List Sample) (h : List ℕ) → l'.samples ≡ l.samples → l'.current ≡ l.current
      → l'.handed ≡ l.handed ++ (y ∷ []) → Queue t next v l (y ∷ Q) L → Queue t (follows t next) (leaving h v) l' Q L
  queue_hand l' y Q L h a b c q =
      record {
        m = q.m;
        k = q.k;
        split = rw (a, c) (q.split ∙ simp append_assoc);
        queue = q.queue.2;
        lost = q.lost;
        tail = rw b q.tail;
        is-low = q.is-low;
        is-high = q.is-high;
        no_scan = q.no_scan;
        from = q.from;
        to = q.to;
      }

-- the oldest sample, taken off the queue
pub record Oldest (next : ℕ) (t : Settings) (m : ℕ) (Q : List Sample) (X h : List ℕ) : Type 0 where
  pub y : Sample
  pub rest : List Sample
  pub cut : Q ≡ y ∷ rest
  pub whole : h ≡ sample_of y.code ∷ (words_of rest ++ X)
  -- as the collector hands it over
  pub sampled : sample_at next (sample_of y.code) ≡ y

pub oldest_of_lem : (next : ℕ) (t : Settings) (m : ℕ) (Q : List Sample) (X h : List ℕ) → 1 ≤ length Q → h ≡ words_of Q ++ X → Chain CodeFits t next Q m
    → Oldest next t m Q X h
oldest_of_lem next t m [] X h a e c = absurd (omega arith)
oldest_of_lem next t m (y ∷ Q) X h a e c = record { y = y; rest = Q; cut = refl; whole = e; sampled = rw (c.1, ← c.0) }
