-- A session that is fed bytes: what it is after them, and what it has printed. Only a line feed (10) ends a line; all other bytes belong to it.
use Rattle.std.specs.Prelude.{ℕ, suc, ◌+◌, ◌-◌, ◌≤◌, ◌<◌, ◌≡◌, List, [], ◌∷◌, ◌++◌, eqb, leb, length, take, if◌then◌else◌}
use Rattle.std.proofs.Math.Seq.{slice}
use Rattle.session_reading.specs.Reading.{taken}
use Rattle.session_text.specs.Text.{Wrote}
use Rattle.session_reading.specs.declared.Reading.{Reading}
use Rattle.session_talk.specs.Session.{Talk, talk_of}
use Rattle.session_line.specs.Done.{line_done, line_said}
use Rattle.session_feed.specs.declared.Fed.{Fed}

abbrev pub with_reading : Talk → Reading → Talk
with_reading t reading = record { board = t.board; memory = t.memory; eeprom = t.eeprom; number = t.number; reading = reading }

-- ---- one byte
unfoldable pub after : Talk → ℕ → Talk
after t b = if eqb b 10 then line_done t else with_reading t (taken t.reading b)

unfoldable pub said : Talk → ℕ → List ℕ
said t b = if eqb b 10 then line_said t else []

-- ---- many bytes
unfoldable pub final : Talk → List ℕ → Talk
final t [] = t
final t (b ∷ bytes) = final (after t b) bytes

unfoldable pub output : Talk → List ℕ → List ℕ
output t [] = []
output t (b ∷ bytes) = said t b ++ output (after t b) bytes

-- how many bytes of a piece are taken where `room` bytes of the output are free: one more while there are 64, the room for any answer
unfoldable pub consumed : Talk → ℕ → List ℕ → ℕ
consumed t room [] = 0
consumed t room (b ∷ bytes) = if leb 64 room then suc (consumed (after t b) (room - length (said t b)) bytes) else 0

-- ---- what `advance` does: the bytes from i to `taken` are fed
pub record FeedsOn (t : Talk) (piece : List ℕ) (i : ℕ) (out : List ℕ) (at : ℕ) (memory eeprom out' : List ℕ) (r : Fed) : Type 0 where
  pub least : i < r.taken
  pub most : r.taken ≤ length piece
  pub talk : talk_of r.session memory eeprom ≡ final t (slice i r.taken piece)
  pub wrote : Wrote (output t (slice i r.taken piece)) out at out' r.at
  pub fits : r.at ≤ length out
  pub counts : (rest : List ℕ) (room : ℕ) → 64 ≤ room
      → consumed t room (slice i r.taken piece ++ rest)
      ≡ length (slice i r.taken piece)
      + consumed (final t (slice i r.taken piece)) (room - length (output t (slice i r.taken piece))) rest

-- ---- what `feed` does: the bytes that are taken, the session after them, and at the start of `out` what they print
pub record Feeds (t : Talk) (piece out : List ℕ) (memory eeprom out' : List ℕ) (r : Fed) : Type 0 where
  pub count : r.taken ≡ consumed t (length out) piece
  pub within : r.taken ≤ length piece
  pub talk : talk_of r.session memory eeprom ≡ final t (take r.taken piece)
  pub wrote : Wrote (output t (take r.taken piece)) out 0 out' r.at
  pub fits : r.at ≤ length out
