-- A board with the memories that are lent to it: whether it works, and what an event answers and leaves.
use Rattle.std.specs.Prelude.{ℕ, ◌≡◌, List, length}
use Rattle.machine_record.specs.declared.Board.{Board}
use Rattle.board_refusal.specs.Working.{WorkingBoard}
use Rattle.board_step.specs.Step.{refusal_of, step_of, memory_after, eeprom_after}
use Rattle.board_events.specs.declared.Answer.{Answer}
use Rattle.board_events.specs.declared.Event.{Event}

pub record State : Type 0 where
  pub board : Board
  pub memory : List ℕ
  pub eeprom : List ℕ

-- a working board, with an EEPROM of the right length; the sample memory of a working board has its own
pub record Works (s : State) : Type 0 where
  pub working : WorkingBoard s.board s.memory
  pub long : length s.eeprom ≡ 128

-- ---- one event: the number that it is refused by (0: it is not), its answer, and what it leaves
abbrev pub refusal_at : State → Event → ℕ
refusal_at s event = refusal_of s.board s.memory s.eeprom event

abbrev pub answer_at : State → Event → Answer
answer_at s event = (step_of s.board s.memory s.eeprom event).answer

abbrev pub after_event : State → Event → State
after_event s event = record {
  board = (step_of s.board s.memory s.eeprom event).board;
  memory = memory_after s.board s.memory s.eeprom event;
  eeprom = eeprom_after s.board s.memory s.eeprom event;
}
