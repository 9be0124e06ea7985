-- What a step leaves, or many ticks, with the answer as a number. Assumes nothing.
use mathlib.Core.Path.{◌≡◌, ap, ◌∙◌}
use Rattle.board_step.specs.declared.Outcome.{Outcome}
use Rattle.board_advance.specs.declared.Advanced.{Advanced}
use Rattle.numbers.specs.declared.Numbered.{Numbered}
use Rattle.numbers.specs.declared.WordNumbered.{WordNumbered}
use Rattle.numbers.specs.declared.AdvancedNumbered.{AdvancedNumbered}
use Rattle.numbers.specs.Outcomes.{numbered_of, word_numbered, advanced_numbered}

pub in_numbers : {o s : Outcome} {r : Numbered} {A B : Type 0} → r ≡ numbered_of o → record { value : o ≡ s; memory_after : A; eeprom_after : B }
    → record { value : r ≡ numbered_of s; memory_after : A; eeprom_after : B }
in_numbers k p = record { value = k ∙ ap numbered_of p.value; memory_after = p.memory_after; eeprom_after = p.eeprom_after }

pub word_in_numbers : {o s : Outcome} {r : WordNumbered} {A B : Type 0} → r ≡ word_numbered o → record { value : o ≡ s; memory_after : A; eeprom_after : B }
    → record { value : r ≡ word_numbered s; memory_after : A; eeprom_after : B }
word_in_numbers k p = record { value = k ∙ ap word_numbered p.value; memory_after = p.memory_after; eeprom_after = p.eeprom_after }

pub time_in_numbers : {o s : Advanced} {r : AdvancedNumbered} {A B : Type 0} → r ≡ advanced_numbered o
    → record { value : o ≡ s; memory_unchanged : A; eeprom_unchanged : B }
    → record { value : r ≡ advanced_numbered s; memory_unchanged : A; eeprom_unchanged : B }
time_in_numbers k p = record { value = k ∙ ap advanced_numbered p.value; memory_unchanged = p.memory_unchanged; eeprom_unchanged = p.eeprom_unchanged }
