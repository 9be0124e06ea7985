-- `board_reads::read_byte` meets its contract, by a law for each way out. Assumes nothing.
use Rattle.std.proofs.Common.{ap, not}
use mathlib.Core.Path.{refl, ap, ◌∙◌}
use Rattle.fifo.specs.Samples.{low_byte_of, high_byte_of}
use Rattle.bus.specs.Registers.{read_checks, byte_at, after_read, read_effect}
use Rattle.board_reads.proofs.Arms as arms
use native.Mathlib.Omega.{arith}
use Rattle.fifo.specs.Flags.{flags-fit}
use Rattle.requests.specs.Bytes.{mode_fits}
use Rattle.board_step.specs.Ways as ways
use Rattle.board_reads.proofs.read_byte.Goals as goal

pub oldest-requires : goal.oldest-requires
oldest-requires c = (ways.works c.is_working.ensures (ap not c.if-not-is_working.false)).fifo

pub oldest-requires-in-Base1 : goal.oldest-requires-in-Base1
oldest-requires-in-Base1 c = (ways.works c.is_working.ensures (ap not c.if-not-is_working.false)).fifo

pub pop-f-requires : goal.pop-f-requires
pop-f-requires c =
    (ways.works c.is_working.ensures (ap not c.if-not-is_working.false)).fifo

pub overflow_add-answer : goal.overflow_add-answer
overflow_add-answer c =
    omega (
      arith,
      c.mode_bits-modes.ensures,
      mode_fits c.args.board.converter
          c.args.board.requests,
      c.flag_bits-flags.ensures,
      flags-fit c.args.board.fifo,
    )

pub overflow_add-answer-in-Base7 : goal.overflow_add-answer-in-Base7
overflow_add-answer-in-Base7 c =
    omega (
      arith,
      c.mode_bits-modes.ensures,
      mode_fits c.args.board.converter
          c.args.board.requests,
      c.flag_bits-flags.ensures,
      flags-fit c.args.board.fifo,
    )

pub returns-then-memory-eeprom : goal.returns-then-memory-eeprom
returns-then-memory-eeprom c =
    ways.wrong c.args.board c.args.memory.now c.args.eeprom.now _
    c.if-memory-eeprom.true

pub returns-then-not-is_working : goal.returns-then-not-is_working
returns-then-not-is_working c =
    ways.broken c.args.board c.args.memory.now
    c.args.eeprom.now _ c.if-memory-eeprom.false c.is_working.ensures
    (ap not c.if-not-is_working.true)

pub returns-in-Base0 : goal.returns-in-Base0
unfolding read_checks read_effect byte_at after_read
returns-in-Base0 c =
    arms.read_kept c.args.board
    c.args.memory.now
    c.args.eeprom.now
    c.args.offset
    (ways.opened c.if-memory-eeprom.false c.is_working.ensures (ap not c.if-not-is_working.false))
    c.find-p.ensures c.in-Base0.is refl refl refl refl
    (c.low_byte.ensures ∙ ap low_byte_of c.oldest.ensures)

pub returns-in-Base1 : goal.returns-in-Base1
unfolding read_checks read_effect byte_at after_read
returns-in-Base1 c =
    arms.read_taken
    c.args.board
    c.args.memory.now
    c.args.eeprom.now
    c.args.offset
    (ways.opened c.if-memory-eeprom.false c.is_working.ensures (ap not c.if-not-is_working.false))
    c.find-p.ensures
    c.in-Base1.is refl refl refl
    (c.high_byte-v.ensures ∙ ap high_byte_of c.oldest-in-Base1.ensures)
    c.pop-f.ensures

pub returns-in-Base2 : goal.returns-in-Base2
unfolding read_checks read_effect byte_at after_read
returns-in-Base2 c =
    arms.read_kept c.args.board
    c.args.memory.now
    c.args.eeprom.now
    c.args.offset
    (ways.opened c.if-memory-eeprom.false c.is_working.ensures (ap not c.if-not-is_working.false)) c.find-p.ensures c.in-Base2.is refl refl refl refl refl

pub returns-in-Base3 : goal.returns-in-Base3
unfolding read_checks read_effect byte_at after_read
returns-in-Base3 c =
    arms.read_kept c.args.board
    c.args.memory.now
    c.args.eeprom.now
    c.args.offset
    (ways.opened c.if-memory-eeprom.false c.is_working.ensures (ap not c.if-not-is_working.false)) c.find-p.ensures c.in-Base3.is refl refl refl refl refl

pub returns-in-Base4 : goal.returns-in-Base4
unfolding read_checks read_effect byte_at after_read
returns-in-Base4 c =
    arms.read_kept c.args.board
    c.args.memory.now
    c.args.eeprom.now
    c.args.offset
    (ways.opened c.if-memory-eeprom.false c.is_working.ensures (ap not c.if-not-is_working.false)) c.find-p.ensures c.in-Base4.is refl refl refl refl
    c.input_bits.ensures

pub returns-in-Base5 : goal.returns-in-Base5
unfolding read_checks read_effect byte_at after_read
returns-in-Base5 c =
    arms.read_kept c.args.board
    c.args.memory.now
    c.args.eeprom.now
    c.args.offset
    (ways.opened c.if-memory-eeprom.false c.is_working.ensures (ap not c.if-not-is_working.false))
    c.find-p.ensures c.in-Base5.is refl refl refl (rw c.update-c.ensures)
    c.update_byte-v.ensures

pub returns-in-Base6 : goal.returns-in-Base6
unfolding read_checks read_effect byte_at after_read
returns-in-Base6 c =
    arms.read_kept c.args.board
    c.args.memory.now
    c.args.eeprom.now
    c.args.offset
    (ways.opened c.if-memory-eeprom.false c.is_working.ensures (ap not c.if-not-is_working.false)) c.find-p.ensures c.in-Base6.is refl refl refl refl refl

pub returns-in-Base7 : goal.returns-in-Base7
unfolding read_checks read_effect byte_at after_read
returns-in-Base7 c =
    arms.read_kept c.args.board
    c.args.memory.now
    c.args.eeprom.now
    c.args.offset
    (ways.opened c.if-memory-eeprom.false c.is_working.ensures (ap not c.if-not-is_working.false))
    c.find-p.ensures c.in-Base7.is refl refl refl refl
    (rw (c.mode_bits-modes.ensures, c.flag_bits-flags.ensures))

pub returns-in-Base8 : goal.returns-in-Base8
unfolding read_checks read_effect byte_at after_read
returns-in-Base8 c =
    arms.read_kept c.args.board
    c.args.memory.now
    c.args.eeprom.now
    c.args.offset
    (ways.opened c.if-memory-eeprom.false c.is_working.ensures (ap not c.if-not-is_working.false)) c.find-p.ensures c.in-Base8.is refl refl refl refl
    c.ad_bits.ensures

pub returns-in-Base9 : goal.returns-in-Base9
unfolding read_checks read_effect byte_at after_read
returns-in-Base9 c =
    arms.read_kept c.args.board
    c.args.memory.now
    c.args.eeprom.now
    c.args.offset
    (ways.opened c.if-memory-eeprom.false c.is_working.ensures (ap not c.if-not-is_working.false)) c.find-p.ensures c.in-Base9.is refl refl refl refl
    c.request_bits.ensures

pub returns-in-Base10 : goal.returns-in-Base10
unfolding read_checks read_effect byte_at after_read
returns-in-Base10 c =
    arms.read_kept c.args.board
    c.args.memory.now
    c.args.eeprom.now
    c.args.offset
    (ways.opened c.if-memory-eeprom.false c.is_working.ensures (ap not c.if-not-is_working.false)) c.find-p.ensures c.in-Base10.is refl refl refl refl refl

pub returns-in-Base11 : goal.returns-in-Base11
unfolding read_checks read_effect byte_at after_read
returns-in-Base11 c =
    arms.read_kept c.args.board
    c.args.memory.now
    c.args.eeprom.now
    c.args.offset
    (ways.opened c.if-memory-eeprom.false c.is_working.ensures (ap not c.if-not-is_working.false)) c.find-p.ensures c.in-Base11.is refl refl refl refl refl

pub returns-in-Count : goal.returns-in-Count
unfolding read_checks read_effect byte_at after_read
returns-in-Count c =
    arms.read_kept c.args.board
    c.args.memory.now
    c.args.eeprom.now
    c.args.offset
    (ways.opened c.if-memory-eeprom.false c.is_working.ensures (ap not c.if-not-is_working.false)) c.find-p.ensures
    c.in-Count.is refl refl refl (simp (c.put_timer-c.ensures, c.read-r.ensures))
    (rw c.read-r.ensures)

pub returns-in-ControlWord : goal.returns-in-ControlWord
unfolding read_checks read_effect byte_at after_read
returns-in-ControlWord c =
    arms.read_kept c.args.board
    c.args.memory.now
    c.args.eeprom.now
    c.args.offset
    (ways.opened c.if-memory-eeprom.false c.is_working.ensures (ap not c.if-not-is_working.false)) c.find-p.ensures c.in-ControlWord.is refl refl refl refl refl

pub returns-in-PortData : goal.returns-in-PortData
unfolding read_checks read_effect byte_at after_read
returns-in-PortData c =
    arms.read_kept c.args.board
    c.args.memory.now
    c.args.eeprom.now
    c.args.offset
    (ways.opened c.if-memory-eeprom.false c.is_working.ensures (ap not c.if-not-is_working.false))
    c.find-p.ensures c.in-PortData.is refl refl refl refl c.read.ensures

pub returns-in-PortControl : goal.returns-in-PortControl
unfolding read_checks read_effect byte_at after_read
returns-in-PortControl c =
    arms.read_kept c.args.board
    c.args.memory.now
    c.args.eeprom.now
    c.args.offset
    (ways.opened c.if-memory-eeprom.false c.is_working.ensures (ap not c.if-not-is_working.false)) c.find-p.ensures c.in-PortControl.is refl refl refl refl
    c.read_control.ensures

pub returns-in-Reserved : goal.returns-in-Reserved
unfolding read_checks read_effect byte_at after_read
returns-in-Reserved c =
    arms.read_kept c.args.board
    c.args.memory.now
    c.args.eeprom.now
    c.args.offset
    (ways.opened c.if-memory-eeprom.false c.is_working.ensures (ap not c.if-not-is_working.false)) c.find-p.ensures c.in-Reserved.is refl refl refl refl refl

pub returns-in-Auxiliary : goal.returns-in-Auxiliary
unfolding read_checks read_effect byte_at after_read
returns-in-Auxiliary c =
    arms.read-refused c.args.board
    c.args.memory.now
    c.args.eeprom.now
    c.args.offset
    (ways.opened c.if-memory-eeprom.false c.is_working.ensures (ap not c.if-not-is_working.false)) c.find-p.ensures c.in-Auxiliary.is refl refl

pub returns-in-CalData : goal.returns-in-CalData
unfolding read_checks read_effect byte_at after_read
returns-in-CalData c =
    arms.read_kept c.args.board
    c.args.memory.now
    c.args.eeprom.now
    c.args.offset
    (ways.opened c.if-memory-eeprom.false c.is_working.ensures (ap not c.if-not-is_working.false)) c.find-p.ensures c.in-CalData.is refl refl refl refl
    c.read_value.ensures

pub returns-in-CalAddress : goal.returns-in-CalAddress
unfolding read_checks read_effect byte_at after_read
returns-in-CalAddress c =
    arms.read_kept c.args.board
    c.args.memory.now
    c.args.eeprom.now
    c.args.offset
    (ways.opened c.if-memory-eeprom.false c.is_working.ensures (ap not c.if-not-is_working.false)) c.find-p.ensures c.in-CalAddress.is refl refl refl refl
    c.read_address.ensures

pub returns-in-CalBase14 : goal.returns-in-CalBase14
unfolding read_checks read_effect byte_at after_read
returns-in-CalBase14 c =
    arms.read_kept c.args.board
    c.args.memory.now
    c.args.eeprom.now
    c.args.offset
    (ways.opened c.if-memory-eeprom.false c.is_working.ensures (ap not c.if-not-is_working.false)) c.find-p.ensures c.in-CalBase14.is refl refl refl refl
    c.read_status.ensures

pub returns-in-CalBase15 : goal.returns-in-CalBase15
unfolding read_checks read_effect byte_at after_read
returns-in-CalBase15 c =
    arms.read_kept c.args.board
    c.args.memory.now
    c.args.eeprom.now
    c.args.offset
    (ways.opened c.if-memory-eeprom.false c.is_working.ensures (ap not c.if-not-is_working.false)) c.find-p.ensures c.in-CalBase15.is refl refl refl refl
    c.read_revision.ensures

pub returns-in-Outside : goal.returns-in-Outside
unfolding read_checks read_effect byte_at after_read
returns-in-Outside c =
    arms.read-refused c.args.board
    c.args.memory.now
    c.args.eeprom.now
    c.args.offset
    (ways.opened c.if-memory-eeprom.false c.is_working.ensures (ap not c.if-not-is_working.false)) c.find-p.ensures c.in-Outside.is refl refl
