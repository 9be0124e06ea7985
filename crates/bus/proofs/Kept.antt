-- Theorems that rest on theorems of specs/Kept.antt, and promise as those do. What specs/Kept.antt says of itself:
-- Every access keeps a working board working.
use Rattle.std.specs.Prelude.{ℕ}
use Rattle.machine_record.specs.Working.{WorkingMachine}
use Rattle.machine_record.specs.declared.Board.{Board}
use Rattle.bus.specs.Registers.{written_at, after_read}
use Rattle.bus.specs.declared.Place.{Place}
use Rattle.bus.specs.Kept.{register-keeps}

-- read off the row
pub written-works : (b : Board) (p : Place) (v : ℕ) → WorkingMachine b → WorkingMachine (written_at b p v)
unfolding written_at
written-works b p v w = (register-keeps p).0 b v w

pub read-works : (b : Board) (p : Place) → WorkingMachine b → WorkingMachine (after_read b p)
unfolding after_read
read-works b p w = (register-keeps p).1 b w
