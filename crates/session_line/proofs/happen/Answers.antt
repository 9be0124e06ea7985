-- `session_line::happen` meets its contract. Assumes nothing.
use Rattle.session_line.proofs.Answering.{happened}
use Rattle.session_line.proofs.happen.Goals as goal

pub returns : goal.returns
returns c =
    happened c.args.board c.args.number c.args.event c.args.memory.now c.args.eeprom.now c.step-outcome.ensures.value
    c.step-outcome.ensures.memory_after c.step-outcome.ensures.eeprom_after c.is_asking-asked.ensures c.is_asking-asks.ensures
    c.put_event-place.ensures
