-- `cowriestep::dmm32_read_word` meets its contract: the one part that it stores is the one that a word read changes. Assumes nothing.
use Rattle.std.proofs.Common.{ap, ◌∙◌}
use Rattle.machine_record.specs.Parts.{with_fifo}
use Rattle.board_step.specs.Sampled.{word-read_keeps}
use Rattle.numbers.specs.declared.WordNumbered.{WordNumbered}
use Rattle.cowriestep.proofs.Refused.{refused_2}
use Rattle.cowriestep.proofs.dmm32_read_word.Goals as goal

pub returns-then-memory-eeprom : goal.returns-then-memory-eeprom
returns-then-memory-eeprom c = refused_2 _ _ _ _ c.if-memory-eeprom.true

pub returns : goal.returns
returns c =
    let said = c.read_word-out.ensures in
    let b = c.args.board.now in
    record {
      answer = ap (λ (r : WordNumbered). r.number) said.value;
      board =
          ap (λ (r : WordNumbered). with_fifo b r.fifo) said.value
          ∙ word-read_keeps b c.args.memory.now c.args.eeprom.now c.args.offset;
      memory = said.memory_after;
      eeprom = said.eeprom_after;
    }
