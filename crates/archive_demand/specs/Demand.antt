-- Demand 3 (condition 3 of acceptance, word for word): "Let the collector start on any working board, be alone on the bus, and let at most one
-- conversion end between a look that shows the memory neither empty nor full and the word read after it. Then each sample handed over bears the
-- channel selected when its conversion began. From the end of the start to a reported gap none is missing, added or out of order, and each look
-- that finds samples yields the oldest. A look that shows the memory full yields its 512 samples and then the gap. After a gap, the next sample
-- is the low channel's, as from a fresh start. Triggers and ticks may fall anywhere." With request M-100: "Demands 2 and 3 read with the new answer."
use Rattle.std.specs.Prelude.{ℕ, ◌≤◌, true, false, ◌≡◌, Result, Ok, Err, ℤ, leb, length, take, if◌then◌else◌}
use mathlib.Core.List.{List, [], ◌∷◌, ◌++◌, map, IsPrefix}
use Rattle.base.specs.Flags.{on}
use Rattle.base.specs.declared.Refusal.{Refusal}
use Rattle.base.specs.Checks.{refused_by}
use Rattle.converter.specs.Codes.{code_of}
use Rattle.collector_phases.specs.declared.Access.{Access}
use Rattle.collector_phases.specs.declared.Access.TheVariants.{WriteByte, ReadByte, ReadWord}
use Rattle.samples.specs.declared.Sample.{Sample}
use Rattle.collector_answers.specs.declared.BusAnswer.TheVariants as bus
use Rattle.archive_turns.specs.Machine.{Machine, Host}
use Rattle.archive_turns.specs.Turn.{event_of}
use Rattle.archive_demand.specs.Run.{Happening, turn, Run, begin, System, next, given, gap, after, given_in, gaps_in, turns}
use Rattle.archive_demand.specs.Log.{Log, brings_by, asks, log}

-- the codes of samples, and of the 16-bit numbers that the memory holds
abbrev pub codes_of : List Sample → List ℤ
codes_of l = map (λ (y : Sample). y.code) l

abbrev pub codes_in : List ℕ → List ℤ
codes_in h = map code_of h

-- how many samples a look yields that finds these held: all 512 of a full memory, else one, if there is one
abbrev pub owed : List ℕ → ℕ
owed h = if leb 512 (length h) then 512 else if leb 1 (length h) then 1 else 0

-- a look, and a word read
abbrev pub look : Result Access Refusal
look = Ok (ReadByte 7)

abbrev pub word_read : Result Access Refusal
word_read = Ok (ReadWord 0)

-- one of two things holds
pub data Either (A B : Type 0) : Type 0 where
  first : A → Either A B
  second : B → Either A B

module _ (M : Machine) (H : Host) (s : System M) where
  -- the system after r, what the onlooker has written down by then, the samples held, and the collector's next access
  abbrev pub at : Run → System M
  at r = after M H s r

  abbrev pub seen : Run → Log
  seen r = log M H s r

  abbrev pub held : Run → List ℕ
  held r = (M.view (at r).board).held

  abbrev pub asked : Run → Result Access Refusal
  asked r = asks M H (at r)

  -- after the collector's next turn: the system, and then what a run q makes of it
  abbrev pub turned : Run → System M
  turned r = next M H (at r) turn

  pub record Demand3 : Type 0 where
    -- What is handed over since a start's end is the samples of the first conversions begun since, with their channels, in order: none is
    -- missing, added or out of order. It needs the limit since that start's end alone.
    pub in_order : (r : Run) → (seen r).within ≡ true → IsPrefix (seen r).handed (seen r).samples
    -- Before the first start's end, and from a gap to the next start's end, nothing is handed over and no gap is marked.
    pub only-running : (r : Run) (e : Happening) → (seen r).running ≡ false → (given M H (at r) e ≡ []) × (gap M H (at r) e ≡ false)
    -- After a gap the next sample is the low channel's, as from a fresh start.
    pub low_first : (r : Run) (y : Sample) (ys : List Sample) → (seen r).since_gap ≡ y ∷ ys → y.channel ≡ s.collector.settings.low
    -- A look hands nothing over. Then each word read yields the oldest of the samples held at the look: all 512 of a full memory, else one.
    pub yields : (r q : Run) → asked r ≡ look → turns q ≤ owed (held r)
        → codes_of (given M H (at r) turn ++ given_in M H (turned r) q) ≡ codes_in (take (turns q) (held r))
    -- With the 512th of them comes the gap, and never otherwise.
    pub marks : (r q : Run) → asked r ≡ look → turns q ≤ owed (held r)
        → (gap M H (at r) turn ≡ false) × (gaps_in M H (turned r) q ≡ (if leb 512 (turns q) then 1 else 0))
    -- After an empty look and after a single take comes a look; after the 512th sample, 9←0.
    pub again : (r q : Run) → asked r ≡ look → turns q ≡ owed (held r)
        → H.access (after M H (turned r) q).collector ≡ (if leb 512 (turns q) then Ok (WriteByte 9 0) else look)
    -- From the end of a start to its gap every access is a look or a word read: no run ends otherwise.
    pub goes_on : (r : Run) → (seen r).running ≡ true → Either (asked r ≡ look) (asked r ≡ word_read)
    -- Request M-100: told "nothing" in a take or a drain, "which the board rules exclude for it alone on the bus": each of its word reads brings a sample. No
    -- limit is needed.
    pub finds : (r : Run) → asked r ≡ word_read → (word : ℕ) × (brings_by M (at r).board (event_of (asked r)) ≡ bus.Number word)
    -- A collector that has been started makes 9←0 first.
    pub begins : asked begin ≡ Ok (WriteByte 9 0)
    -- After 9←0 comes a poll; a poll that finds a conversion in progress is followed by a poll, or, where it was the last, by no access (15).
    pub polls : (r : Run) → asked r ≡ Ok (WriteByte 9 0) → H.access (turned r).collector ≡ Ok (ReadByte 8)
    pub waits : (r : Run) → asked r ≡ Ok (ReadByte 8) → on (M.view (at r).board).converter.converting ≡ true
        → Either (H.access (turned r).collector ≡ Ok (ReadByte 8)) (H.access (turned r).collector ≡ Err (refused_by 15))
    -- A poll that finds no conversion in progress leads to a look in five turns.
    pub ready : (r q : Run) → asked r ≡ Ok (ReadByte 8) → on (M.view (at r).board).converter.converting ≡ false → turns q ≡ 5
        → H.access (after M H (turned r) q).collector ≡ look
