-- The samples held, as a list, oldest first (manual 10 "The A/D FIFO", 11.2; the specification's registers 0 and 1, and its ends of conversions).
use Rattle.std.specs.Prelude.{List, [], ◌∷◌, ◌++◌, ℕ, ◌/◌, ◌%◌, length, drop, ltb, if◌then◌else◌, Option, Some, None}

-- what a read finds: the oldest sample, where one is held
abbrev pub oldest_of : List ℕ → Option ℕ
oldest_of [] = None
oldest_of (sample ∷ rest) = Some sample

-- what the two byte reads show of it. "0 read: low byte of the oldest sample"; "Empty: FF"
abbrev pub low_byte_of : Option ℕ → ℕ
low_byte_of None = 0xFF
low_byte_of (Some sample) = sample % 256

-- "1 read: its high byte"; "Empty: FF"
abbrev pub high_byte_of : Option ℕ → ℕ
high_byte_of None = 0xFF
high_byte_of (Some sample) = sample / 256

-- an end of a conversion: the new sample is kept, the newest; with 512 held it is lost
unfoldable pub pushed : List ℕ → ℕ → List ℕ
pushed held sample = if ltb (length held) 512 then held ++ sample ∷ [] else held

-- a read of 1: the oldest leaves
abbrev pub popped : List ℕ → List ℕ
popped held = drop 1 held
