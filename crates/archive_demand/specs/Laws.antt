-- What demand 3 asks of a board: the laws through which its proof sees one. specs/Real.antt proves them of the board of `board::step`.
use Rattle.std.specs.Prelude.{ℕ, ◌≤◌, Bool, true, false, List, [], ◌∷◌, ◌≡◌, ℤ, leb, length}
use Rattle.std.proofs.Math.Option.{Option, none, some}
use Rattle.base.specs.Flags.{on}
use Rattle.fifo.specs.Samples.{pushed}
use Rattle.converter.specs.Channels.{started, end_starts, ended}
use Rattle.converter.specs.Codes.{sample_of, code_of}
use Rattle.converter.specs.Registers.{with_channels, with_bits}
use Rattle.board_events.specs.declared.Answer.{Answer}
use Rattle.board_events.specs.declared.Answer.TheVariants.{Done, Byte, Word, Nothing}
use Rattle.board_events.specs.declared.Event.{Event}
use Rattle.board_events.specs.declared.Event.TheVariants.{WriteByte, ReadByte, ReadWord}
use Rattle.collector_settings.specs.declared.Settings.{Settings}
use Rattle.collector_settings.specs.Settings.{clock_byte}
use Rattle.collector_answers.specs.Answers.{wide, STS, EF, FF}
use Rattle.archive_turns.specs.Machine.{View, Machine}
use Rattle.archive_demand.specs.World.{World, event_in}

-- ---- what events make of the view
-- a conversion begins on the selected channel, and the selection moves
abbrev pub starting : View → View
starting v = record { converter = started v.converter; held = v.held }

-- a conversion ends: its sample is kept if there is room, else lost; in a scan that is not at the high channel the next begins
abbrev pub ending : ℕ → View → View
ending sample v = record { converter = ended v.converter; held = pushed v.held sample }

-- CLKEN is written
abbrev pub clken_written : ℕ → View → View
clken_written clken v = record { converter = with_bits v.converter v.converter.scanen clken; held = v.held }

-- 7←02: SCANEN off, the memory emptied
abbrev pub fifo_cleared : View → View
fifo_cleared v = record { converter = with_bits v.converter 0 v.converter.clken; held = [] }

-- the low and the high channel are written: either makes low the selected channel
abbrev pub low_written : ℕ → View → View
low_written n v = record { converter = with_channels v.converter n v.converter.high; held = v.held }

abbrev pub high_written : ℕ → View → View
high_written n v = record { converter = with_channels v.converter v.converter.low n; held = v.held }

-- the oldest sample has left
abbrev pub leaving : List ℕ → View → View
leaving rest v = record { converter = v.converter; held = rest }

-- ---- what an event of the world may do, where `begins` and `e` tell whether it begins a conversion and the code of the one it ends
pub data Happens (begins : Bool) (e : Option ℤ) (v v' : View) : Type 0 where
  quiet : begins ≡ false → e ≡ none → v' ≡ v → Happens begins e v v'
  trigger : begins ≡ true → e ≡ none → on v.converter.clken ≡ true → on v.converter.converting ≡ false → v' ≡ starting v → Happens begins e v v'
  end : (code : ℤ) → code_of (sample_of code) ≡ code → begins ≡ end_starts v.converter → e ≡ some code → on v.converter.converting ≡ true
      → v' ≡ ending (sample_of code) v → Happens begins e v v'

-- ---- what a bus access brings and leaves; none of the collector's begins a conversion
pub record Serves (M : Machine) (b : M.Board) (ev : Event) (a : Answer) (v : View) : Type 0 where
  pub answers : M.answered b ev ≡ a
  pub leaves : M.view (M.stepped b ev) ≡ v
  pub begins-none : M.begins b ev ≡ false

-- a poll: STS
pub record Polls (M : Machine) (b : M.Board) : Type 0 where
  pub byte : ℕ
  pub serves : Serves M b (ReadByte 8) (Byte byte) (M.view b)
  pub narrow : wide byte ≡ false
  pub sts : STS byte ≡ on (M.view b).converter.converting

-- a look: EF and FF
pub record Looks (M : Machine) (b : M.Board) : Type 0 where
  pub byte : ℕ
  pub serves : Serves M b (ReadByte 7) (Byte byte) (M.view b)
  pub narrow : wide byte ≡ false
  pub ef : EF byte ≡ leb (length (M.view b).held) 0
  pub ff : FF byte ≡ leb 512 (length (M.view b).held)

-- a word read: the oldest sample, which leaves; with none held, nothing
pub record Fetches (M : Machine) (b : M.Board) : Type 0 where
  pub begins-none : M.begins b (ReadWord 0) ≡ false
  pub oldest : (c : ℕ) (h : List ℕ) → (M.view b).held ≡ c ∷ h → M.answered b (ReadWord 0) ≡ Word c
  pub leaves : (c : ℕ) (h : List ℕ) → (M.view b).held ≡ c ∷ h → M.view (M.stepped b (ReadWord 0)) ≡ leaving h (M.view b)
  pub none : (M.view b).held ≡ [] → M.answered b (ReadWord 0) ≡ Nothing

pub record Laws (M : Machine) (Working : M.Board → Type 0) : Type 0 where
  -- a working board stays one, and holds at most 512 samples
  pub works : (b : M.Board) (ev : Event) → Working b → Working (M.stepped b ev)
  pub room : (b : M.Board) → Working b → length (M.view b).held ≤ 512
  -- the world
  pub happens : (b : M.Board) (w : World) → Working b
      → Happens (M.begins b (event_in w)) (M.ends b (event_in w)) (M.view b) (M.view (M.stepped b (event_in w)))
  -- the start's accesses: 9←0, read 8, 11←range code, 7←02, 2←low, 3←high, 9←02 or 03
  pub stops : (b : M.Board) → Working b → Serves M b (WriteByte 9 0) Done (clken_written 0 (M.view b))
  pub polls : (b : M.Board) → Working b → Polls M b
  pub ranges : (b : M.Board) (n : ℕ) → Working b → Serves M b (WriteByte 11 n) Done (M.view b)
  pub clears : (b : M.Board) → Working b → Serves M b (WriteByte 7 2) Done (fifo_cleared (M.view b))
  pub lows : (b : M.Board) (n : ℕ) → n ≤ 31 → Working b → Serves M b (WriteByte 2 n) Done (low_written n (M.view b))
  pub highs : (b : M.Board) (n : ℕ) → n ≤ 31 → Working b → Serves M b (WriteByte 3 n) Done (high_written n (M.view b))
  pub goes : (b : M.Board) (s : Settings) → Working b → Serves M b (WriteByte 9 (clock_byte s)) Done (clken_written 1 (M.view b))
  -- the look and the word read
  pub looks : (b : M.Board) → Working b → Looks M b
  pub words : (b : M.Board) → Working b → Fetches M b
