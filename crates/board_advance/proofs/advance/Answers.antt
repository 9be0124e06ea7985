-- `board_advance::advance` meets its contract, by a law for each way out. Assumes nothing.
use mathlib.Core.Path.{refl}
use Rattle.board_advance.proofs.Ends as ends
use Rattle.board_step.specs.Ways as ways
use Rattle.board_advance.proofs.advance.Goals as goal

pub stride-s-requires : goal.stride-s-requires
stride-s-requires c = (ways.works_on c.args.board c.args.memory.now c.args.eeprom.now c.check.ensures c.in_default.is).machine

pub returns-in-Err : goal.returns-in-Err
returns-in-Err c =
    record {
      value = ends.stopped c.args.board c.args.memory.now c.args.eeprom.now c.args.ticks c.check.ensures c.in-Err.is;
      memory_unchanged = refl;
      eeprom_unchanged = refl;
    }

pub returns-in_default : goal.returns-in_default
returns-in_default c =
    record {
      value = ends.brought c.args.board
          c.args.memory.now
          c.args.eeprom.now
          c.args.ticks
          (ways.passed c.check.ensures c.in_default.is)
          c.stride-s.ensures
          c.busy_after-busy.ensures c.ask_timer-c.ensures
          c.trigger-c.ensures;
      memory_unchanged = refl;
      eeprom_unchanged = refl;
    }
