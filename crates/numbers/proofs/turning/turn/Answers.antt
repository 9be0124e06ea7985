-- `numbers::turning::turn` meets its contract. Assumes nothing.
use mathlib.Core.Path.{ap, ◌∙◌}
use Rattle.numbers.specs.Turning.{turn_numbered}
use Rattle.numbers.proofs.turning.turn.Goals as goal

pub returns : goal.returns
returns c =
    let l = c.turn.ensures in
    record { value = c.in_numbers.ensures ∙ ap turn_numbered l.turned; memory_after = l.memory; eeprom_after = l.eeprom }
