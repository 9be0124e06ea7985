-- A working board: its record and its sample memory. The specification, "What is delivered".
use Rattle.std.specs.Prelude.{ℕ, ◌≡◌, Bool, true, List, [], ◌∷◌}
use Rattle.base.specs.Tests.{all, each, every}
use Rattle.fifo.specs.Queue.{is_working_fifo, WorkingFifo}
use Rattle.fifo.specs.Queue.Laws.{fifo_of_lem, fifo-to}
use Rattle.machine_record.specs.Working.{is_working_machine, WorkingMachine, machine_of, machine-to}
use Rattle.machine_record.specs.declared.Board.{Board}

pub record WorkingBoard (b : Board) (memory : List ℕ) : Type 0 where
  -- every register, channel, port, counter and divider is within its range
  pub machine : WorkingMachine b
  -- 0 to 512 samples, oldest first, free places 0, OVF only at 512 held
  pub fifo : WorkingFifo b.fifo memory

-- the test that the code makes
abbrev pub board_tests : Board → List ℕ → List Bool
board_tests b memory = is_working_machine b ∷ is_working_fifo b.fifo memory ∷ []

unfoldable pub is_working_board : Board → List ℕ → Bool
is_working_board b memory = all (board_tests b memory)

-- ---- the test holds where the facts do, and only there
pub board_of : (b : Board) (memory : List ℕ) → is_working_board b memory ≡ true → WorkingBoard b memory
unfolding is_working_board
board_of b memory h =
    let e = each (board_tests b memory) h in
    record { machine = machine_of b e.0; fifo = fifo_of_lem b.fifo memory e.1.0 }

pub board-to : (b : Board) (memory : List ℕ) → WorkingBoard b memory → is_working_board b memory ≡ true
unfolding is_working_board
board-to b memory w = every (board_tests b memory) (machine-to b w.machine, (fifo-to b.fifo memory w.fifo, tt))
