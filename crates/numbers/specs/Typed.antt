-- Records of a board and sample memories that are values of their types of Rust and C. Every one that a host has in memory, or that a function is given, is;
-- over the plain numbers of the definitions it has to be said.
use Rattle.std.specs.Prelude.{ℕ, ◌<◌, List, get_or}
use mir.Val.{Val}
use denote.Laws.{Is}
use Rattle.machine_record.specs.declared.Board.{Board}
use Rattle.machine_record.specs.contracts.Board as board

-- some words of the machine are this record, so that each number of it is within the type of its field: 8 or 16 bits. `Is` relates the values of a type to
-- the words that hold them; the contracts of all functions speak of their parameters and results by it
pub record Recorded (b : Board) : Type 0 where
  pub words : List Val
  pub held : Is board.the_row b words

-- each place of the sample memory holds 16 bits
abbrev pub Sixteen : List ℕ → Type 0
Sixteen memory = (i : ℕ) → get_or memory i 0 < 65536
