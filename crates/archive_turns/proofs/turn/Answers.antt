-- `archive_turns::turn` meets its contract. Assumes nothing.
use Rattle.archive_turns.proofs.Arms as arms
use Rattle.archive_turns.proofs.turn.Goals as goal

pub returns-in-Ok : goal.returns-in-Ok
returns-in-Ok c =
    arms.made _ _ _ _ _ _ _ _ _
    (rw (
      c.event_of.ensures,
      c.access_of.ensures,
    ) at c.in-Ok.is)
    c.step-outcome.ensures.value c.step-outcome.ensures.memory_after
    c.step-outcome.ensures.eeprom_after c.hand_over.ensures

pub returns-in-Err : goal.returns-in-Err
returns-in-Err c =
    arms.unmade _ _ _ _ _ _
    (rw (c.event_of.ensures, c.access_of.ensures) at
    c.in-Err.is) c.without_access.ensures
