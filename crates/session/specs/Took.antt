-- A session that has taken bytes from standard input, however often the room for answers ran out in between.
use Rattle.std.specs.Prelude.{ℕ, ◌≡◌, List, length}
use Rattle.session_talk.specs.Session.{Talk, talk_of}
use Rattle.session_feed.specs.Feeding.{final}
use Rattle.session.specs.declared.pieces.AfterBytes.{AfterBytes}

-- all the bytes are taken, and the session and both memories are those after them
pub record Took (t : Talk) (bytes memory eeprom : List ℕ) (r : AfterBytes) : Type 0 where
  pub count : r.taken ≡ length bytes
  pub talk : talk_of r.session memory eeprom ≡ final t bytes
