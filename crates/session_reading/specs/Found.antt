-- The bytes of a line in a piece of text. Only a line feed (10) ends a line; all other bytes belong to it.
use Rattle.std.specs.Prelude.{ℕ, ◌≤◌, ◌<◌, ◌≡◌, Bool, true, false, List, [], ◌∷◌, eqb, length, get_or, if◌then◌else◌}
use Rattle.std.proofs.Math.Seq.{slice}
use Rattle.session_reading.specs.Reading.{read_from}
use Rattle.session_reading.specs.declared.Line.{Line}
use Rattle.session_reading.specs.declared.Reading.{Reading}

-- bytes that end no line
unfoldable pub plain : List ℕ → Bool
plain [] = true
plain (b ∷ bytes) = if eqb b 10 then false else plain bytes

-- ---- the bytes from `from` to i are read, and none of them is a newline
pub record Scanned (reading : Reading) (piece : List ℕ) (from : ℕ) (r : Reading) (i : ℕ) : Type 0 where
  pub least : from ≤ i
  pub most : i ≤ length piece
  pub unbroken : plain (slice from i piece) ≡ true
  pub read : r ≡ read_from reading (slice from i piece)

-- ---- what `read_line` finds: the bytes up to a newline, or to the piece's end
pub record Found (reading : Reading) (piece : List ℕ) (from : ℕ) (r : Line) : Type 0 where
  pub least : from ≤ r.end
  pub most : r.end ≤ length piece
  pub unbroken : plain (slice from r.end piece) ≡ true
  pub read : r.reading ≡ read_from reading (slice from r.end piece)
  pub stop : r.end < length piece → get_or piece r.end 0 ≡ 10
