-- What holds in each phase of the collector, of the view and of what the onlooker has written down. Assumes nothing.
use Rattle.std.specs.Prelude.{ℕ, suc, ◌+◌, ◌≤◌, Bool, true, false, ◌≡◌, refl, length}
use mathlib.Core.List.{List, [], ◌∷◌, ◌++◌, map, IsPrefix}
use Rattle.std.proofs.Math.Option.{Option, none, some}
use Rattle.std.proofs.Common.{ap}
use Rattle.base.specs.Flags.{on}
use Rattle.converter.specs.Codes.{sample_of, code_of}
use Rattle.collector_settings.specs.declared.Settings.{Settings}
use Rattle.collector_phases.specs.declared.Collector.{Collector}
use Rattle.samples.specs.declared.Sample.{Sample}
use Rattle.collector_phases.specs.declared.Phase.{Phase}
use Rattle.collector_phases.specs.declared.Phase.TheVariants.{Stop, Poll, Range, Clear, Low, High, Go, Look, Take, Drain, Stuck, Unknown}
use Rattle.collector_phases.specs.Phases.{phase_of}
use Rattle.archive_turns.specs.Machine.{View}
use Rattle.archive_demand.specs.Log.{Log}
use Rattle.collector_records.specs.Records.{follows}
use Rattle.archive_demand.specs.Chain.{Chain}

-- the 16-bit numbers that samples are in the memory
abbrev pub words_of : List Sample → List ℕ
words_of l = map (λ (y : Sample). sample_of y.code) l

pub words_append : (a b : List Sample) → words_of (a ++ b) ≡ words_of a ++ words_of b
words_append [] b = refl
words_append (y ∷ ys) b = ap {B = List ℕ} (λ r. sample_of y.code ∷ r) (words_append ys b)

pub length_words : (a : List Sample) → length (words_of a) ≡ length a
length_words [] = refl
length_words (y ∷ ys) = ap suc (length_words ys)

-- a code of sixteen bits
abbrev pub CodeFits : Sample → Type 0
CodeFits y = code_of (sample_of y.code) ≡ y.code

-- any sample
abbrev pub Any : Sample → Type 0
Any y = Unit {0}

-- no start has ended since the last gap
pub record Idle (l : Log) : Type 0 where
  pub prefix : l.within ≡ true → IsPrefix l.handed l.samples
  pub since : l.since_gap ≡ []
  pub runs : l.running ≡ false

-- no trigger can come, and no conversion runs
pub record Quiet (t : Settings) (next : ℕ) (v : View) (l : Log) : Type 0 where
  pub idle : Idle l
  pub aim : next ≡ t.low
  pub off : on v.converter.clken ≡ false
  pub still : on v.converter.converting ≡ false

-- a start has ended: the channels handed over since go from low on
pub record Running (t : Settings) (next : ℕ) (l : Log) : Type 0 where
  pub since : Chain Any t t.low l.since_gap next
  pub runs : l.running ≡ true

-- the conversion in progress is of channel k, or the next will be
abbrev pub Tail : Settings → Bool → Option ℕ → ℕ → ℕ → Type 0
Tail t true current selected k = (current ≡ some k) × (selected ≡ follows t k)
Tail t false current selected k = (current ≡ none) × (selected ≡ k)

-- the samples of the conversions begun since are those handed over, those still to be handed over (Q), and those that will lie in the gap (L)
pub record Queue (t : Settings) (next : ℕ) (v : View) (l : Log) (Q L : List Sample) : Type 0 where
  pub m : ℕ
  pub k : ℕ
  pub split : l.samples ≡ l.handed ++ (Q ++ L)
  pub queue : Chain CodeFits t next Q m
  pub lost : Chain CodeFits t m L k
  pub tail : Tail t (on v.converter.converting) l.current v.converter.selected k
  pub is-low : v.converter.low ≡ t.low
  pub is-high : v.converter.high ≡ t.high
  pub no_scan : on v.converter.scanen ≡ false
  pub from : t.low ≤ v.converter.selected
  pub to : v.converter.selected ≤ t.high

pub data Loss (L : List Sample) (h : List ℕ) : Type 0 where
  no_loss : L ≡ [] → Loss L h
  was_full : 512 ≤ length h → Loss L h

-- before a look: what is held is still to be handed over, and samples are lost only where the memory is full
pub record Looking (t : Settings) (next : ℕ) (v : View) (l : Log) : Type 0 where
  pub Q : List Sample
  pub L : List Sample
  pub inner : Queue t next v l Q L
  pub holds : v.held ≡ words_of Q
  pub loss : Loss L v.held

-- between a look that showed samples, and not 512, and its word read, with n conversions ended since
pub record Taking (t : Settings) (next : ℕ) (v : View) (l : Log) : Type 0 where
  pub Q : List Sample
  pub n : ℕ
  pub inner : Queue t next v l Q []
  pub holds : v.held ≡ words_of Q
  pub waits : l.waiting ≡ some n
  pub few : length v.held ≤ 511 + n

-- in a drain: the first of those held are still to be handed over, and the rest will be cleared
pub record Draining (left : ℕ) (t : Settings) (next : ℕ) (v : View) (l : Log) : Type 0 where
  pub Q : List Sample
  pub L : List Sample
  pub X : List ℕ
  pub inner : Queue t next v l Q L
  pub holds : v.held ≡ words_of Q ++ X
  pub size : length Q ≡ left
  pub more : 1 ≤ left

-- in a take a sample is held, and in a drain as many as are left to read, whatever the limit
abbrev pub Fact : Phase → Settings → ℕ → ℕ → View → Log → Type 0
Fact Stop t next left v l = Idle l × (next ≡ t.low)
Fact Poll t next left v l = Idle l × (next ≡ t.low) × (on v.converter.clken ≡ false)
Fact Range t next left v l = Quiet t next v l
Fact Clear t next left v l = Quiet t next v l
Fact Low t next left v l = Quiet t next v l × (v.held ≡ []) × (on v.converter.scanen ≡ false)
Fact High t next left v l = Quiet t next v l × (v.held ≡ []) × (on v.converter.scanen ≡ false) × (v.converter.low ≡ t.low)
Fact Go t next left v l =
    Quiet t next v l × (v.held ≡ []) × (on v.converter.scanen ≡ false) × (v.converter.low ≡ t.low) × (v.converter.high ≡ t.high)
    × (v.converter.selected ≡ t.low)
Fact Look t next left v l = Running t next l × (l.within ≡ true → Looking t next v l)
Fact Take t next left v l = Running t next l × (l.within ≡ true → Taking t next v l) × (1 ≤ length v.held)
Fact Drain t next left v l = Running t next l × (l.within ≡ true → Draining left t next v l) × (left ≤ length v.held)
Fact Stuck t next left v l = Idle l
Fact Unknown t next left v l = ⊥

-- what holds of a collector by its phase
abbrev pub FactOf : Collector → View → Log → Type 0
FactOf c v l = Fact (phase_of c.phase) c.settings c.next c.left v l
