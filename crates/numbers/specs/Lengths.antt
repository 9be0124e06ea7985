-- Memories of the wrong lengths: refusal 2 comes before any other, whatever the record and the event, and leaves all three as they were.
use Rattle.std.specs.Prelude.{ℕ, ◌≡◌, refl, Bool, true, false, List, T}
use Rattle.std.proofs.Common.{ap}
use Rattle.machine_record.specs.declared.Board.{Board}
use Rattle.board_events.specs.declared.Event.{Event}
use Rattle.board_stores.specs.Stores.{wrong_lengths}
use Rattle.board_refusal.specs.Refusals.{checks}
use Rattle.board_step.specs.Step.{step_of, memory_after, eeprom_after}
use Rattle.numbers.specs.Outcomes.{numbered_of, word_numbered}
use Rattle.numbers.specs.declared.Numbered.{Numbered}
use Rattle.numbers.specs.declared.WordNumbered.{WordNumbered}

-- the record as it was, and the number of refusal 2
abbrev pub refused2 : Board → Numbered
refused2 b = record { board = b; number = 0x62000000 }

pub wrong_lengths_lem : (b : Board) (memory eeprom : List ℕ) (ev : Event) → wrong_lengths memory eeprom ≡ true
    → (refused2 b ≡ numbered_of (step_of b memory eeprom ev)) × (memory ≡ memory_after b memory eeprom ev) × (eeprom ≡ eeprom_after b memory eeprom ev)
unfolding step_of memory_after eeprom_after checks
wrong_lengths_lem b memory eeprom ev h = (rw h, rw h, rw h)

-- by the test as the code has it
holds : (t : Bool) → T t → t ≡ true
holds true h = refl
holds false h = absurd h

pub lengths_tested : (b : Board) (memory eeprom : List ℕ) (ev : Event) → T (wrong_lengths memory eeprom)
    → (refused2 b ≡ numbered_of (step_of b memory eeprom ev)) × (memory ≡ memory_after b memory eeprom ev) × (eeprom ≡ eeprom_after b memory eeprom ev)
lengths_tested b memory eeprom ev h = wrong_lengths_lem b memory eeprom ev (holds (wrong_lengths memory eeprom) h)

-- the same of a word read, which leaves the sample memory's record
abbrev fifo_of : Numbered → WordNumbered
fifo_of n = record { fifo = n.board.fifo; number = n.number }

abbrev pub refused_word2 : Board → WordNumbered
refused_word2 b = fifo_of (refused2 b)

pub word_lengths_tested : (b : Board) (memory eeprom : List ℕ) (ev : Event) → T (wrong_lengths memory eeprom)
    → (refused_word2 b ≡ word_numbered (step_of b memory eeprom ev)) × (memory ≡ memory_after b memory eeprom ev) × (eeprom ≡ eeprom_after b memory eeprom ev)
word_lengths_tested b memory eeprom ev h = let p = lengths_tested b memory eeprom ev h in (ap fifo_of p.0, p.1, p.2)
