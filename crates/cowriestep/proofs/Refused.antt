-- What a call over a lent board leaves where a memory has a wrong length: refusal 2, and nothing changes. Assumes nothing.
use Rattle.std.proofs.Common.{◌≡◌, ℕ, List, true, ap}
use Rattle.machine_record.specs.declared.Board.{Board}
use Rattle.board_events.specs.declared.Event.{Event}
use Rattle.board_stores.specs.Stores.{wrong_lengths}
use Rattle.board_step.specs.declared.Outcome.{Outcome}
use Rattle.board_step.specs.Lent.{Stepped}
use Rattle.board_step.specs.Ways as ways
use Rattle.numbers_answers.specs.Packed.{answer_number}

pub refused_2 : (b : Board) (m e : List ℕ) (event : Event) → wrong_lengths m e ≡ true → Stepped answer_number b m e event 0x62000000 b m e
refused_2 b m e event wrong =
    let p = ways.wrong b m e event wrong in
    record {
      answer = ap (λ (o : Outcome). answer_number o.answer) p.value;
      board = ap (λ (o : Outcome). o.board) p.value;
      memory = p.memory_after;
      eeprom = p.eeprom_after;
    }
