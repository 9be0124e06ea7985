-- The lengths of the stores, and fresh ones: 512 and 128 zeros. The specification, "What is delivered": "EEPROM and TrimDAC 0", no sample held.
use Rattle.std.specs.Prelude.{ℕ, Bool, not, ◌||◌, List, [], length, replicate, eqb, if◌then◌else◌}
use Rattle.fifo.specs.Queue.{layout, empty_fifo}
use Rattle.board_events.specs.declared.Answer.{Answer}
use Rattle.board_events.specs.declared.Answer.TheVariants.{Done, Refused}

-- refusal 2: "sample memory not 512 long or EEPROM not 128"
abbrev pub wrong_lengths : List ℕ → List ℕ → Bool
wrong_lengths memory eeprom = not (eqb (length memory) 512) || not (eqb (length eeprom) 128)

-- wrong lengths are refused by 2, and then nothing changes
abbrev pub stores_answer : List ℕ → List ℕ → Answer
stores_answer memory eeprom = if wrong_lengths memory eeprom then Refused 2 else Done

abbrev pub fresh_memory : List ℕ → List ℕ → List ℕ
fresh_memory memory eeprom = if wrong_lengths memory eeprom then memory else layout empty_fifo []

abbrev pub fresh_eeprom : List ℕ → List ℕ → List ℕ
fresh_eeprom memory eeprom = if wrong_lengths memory eeprom then eeprom else replicate 128 0
