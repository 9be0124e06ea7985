-- The board of `board::step` obeys the laws of a board: a working record with a sample memory of 512 places and an EEPROM of 128 bytes.
use Rattle.std.specs.Prelude.{◌≤◌, eqb, length}
use Rattle.std.proofs.Common.{arith}
use Rattle.fifo.specs.Queue.Laws.{length_queue}
use Rattle.board_laws.specs.StretchSteps.{works-on}
use Rattle.board_step.specs.States.{State, Works}
use Rattle.archive_turns.specs.Real.{real}
use Rattle.archive_demand.specs.Laws.{Laws}
use Rattle.archive.specs.RealViews.{holds, serves}
use Rattle.archive.specs.RealBus as bus
use Rattle.archive.specs.RealWorld as world

room : (l : State) → Works l → length (real.view l).held ≤ 512
room l w = omega (arith, length_queue l.board.fifo l.memory w.working.fifo, w.working.fifo.held)

pub real_laws : Laws real Works
real_laws =
    record {
      works = works-on;
      room = room;
      happens = world.happens;
      stops = λ l w. serves l _ _ _ w (bus.stops (holds l));
      polls = bus.polls;
      ranges = λ l n w. serves l _ _ _ w (bus.ranges (holds l) n);
      clears = λ l w. serves l _ _ _ w (bus.clears (holds l));
      lows = λ l n h w. serves l _ _ _ w (bus.lows (holds l) n h);
      highs = λ l n h w. serves l _ _ _ w (bus.highs (holds l) n h);
      goes = λ l s w. serves l _ _ _ w (bus.goes (holds l) (eqb s.clock 0));
      looks = bus.looks;
      words = bus.words;
    }
