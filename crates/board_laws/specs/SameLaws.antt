-- What the theorem of Same rests on: both boards refuse alike, and what an event leaves of them is alike again. Assumes nothing.
use Rattle.std.specs.Prelude.{◌≡◌, true}
use Rattle.fifo.specs.Queue.{queue}
use Rattle.fifo.specs.declared.Fifo.{Fifo}
use Rattle.board_refusal.specs.Working.{WorkingBoard}
use Rattle.board_step.specs.States.{State}
use Rattle.board_laws.specs.EarlierBoard.{earlier_held, is_earlier_board}
use Rattle.board_laws.specs.Placed.{placed}

-- ---- a board of the earlier layout and one whose memory is the circle, which hold the same samples
pub record Same (earlier circle : State) : Type 0 where
  -- the records differ in the place of the oldest sample alone
  pub board : circle.board ≡ placed earlier.board circle.board.fifo.place
  -- read from the oldest on, the circle holds what the earlier layout holds
  pub samples : queue circle.board.fifo circle.memory ≡ earlier_held earlier
  pub eeprom : circle.eeprom ≡ earlier.eeprom
  -- both work, each by its layout
  pub works : WorkingBoard circle.board circle.memory
  pub worked : is_earlier_board earlier.board earlier.memory ≡ true

-- ---- the memory's records after an event hold as many, and have the same OVF
pub record Alike (f g : Fifo) : Type 0 where
  pub held : f.held ≡ g.held
  pub ovf : f.ovf ≡ g.ovf
