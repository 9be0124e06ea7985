-- `board_writes::write_byte` meets its contract, by a law for each way out. Assumes nothing.
use Rattle.std.proofs.Common.{ap, not}
use mathlib.Core.Path.{refl, sym}
use borrow.Author.Tests.{ne_eqb}
use Rattle.bus.specs.Registers.{write_checks, written_at, write_effect}
use Rattle.machine_clock.specs.Clock.{counting_written}
use Rattle.board_writes.proofs.Arms as arms
use Rattle.board_step.specs.Ways as ways
use Rattle.board_writes.proofs.write_byte.Goals as goal

pub clear-f-requires : goal.clear-f-requires
clear-f-requires c =
    (ways.works c.is_working.ensures (ap not c.if-not-is_working.false)).fifo.long

pub clear-f-requires-then-is_reset : goal.clear-f-requires-then-is_reset
clear-f-requires-then-is_reset c =
    (ways.works c.is_working.ensures (ap not c.if-not-is_working.false)).fifo.long

pub returns-then-memory-eeprom : goal.returns-then-memory-eeprom
returns-then-memory-eeprom c =
    ways.wrong c.args.board c.args.memory.now c.args.eeprom.now _
    c.if-memory-eeprom.true

pub returns-then-not-is_working : goal.returns-then-not-is_working
returns-then-not-is_working c =
    ways.broken c.args.board c.args.memory.now
    c.args.eeprom.now _ c.if-memory-eeprom.false c.is_working.ensures
    (ap not c.if-not-is_working.true)

pub returns-in-Base0 : goal.returns-in-Base0
unfolding write_checks write_effect written_at counting_written
returns-in-Base0 c =
    arms.write_kept c.args.board
    c.args.memory.now
    c.args.eeprom.now
    c.args.offset
    c.args.value
    (ways.opened c.if-memory-eeprom.false c.is_working.ensures (ap not c.if-not-is_working.false)) c.find-p.ensures c.in-Base0.is refl refl refl
    (rw c.software_trigger-c.ensures)

pub returns-in-Base1 : goal.returns-in-Base1
unfolding write_checks write_effect written_at counting_written
returns-in-Base1 c =
    arms.write_kept c.args.board
    c.args.memory.now
    c.args.eeprom.now
    c.args.offset
    c.args.value
    (ways.opened c.if-memory-eeprom.false c.is_working.ensures (ap not c.if-not-is_working.false)) c.find-p.ensures c.in-Base1.is refl refl refl refl

pub returns-in-Base2 : goal.returns-in-Base2
unfolding write_checks write_effect written_at counting_written
returns-in-Base2 c =
    arms.write_kept c.args.board
    c.args.memory.now
    c.args.eeprom.now
    c.args.offset
    c.args.value
    (ways.opened c.if-memory-eeprom.false c.is_working.ensures (ap not c.if-not-is_working.false)) c.find-p.ensures c.in-Base2.is refl refl refl
    (rw c.write_low-c.ensures)

pub returns-in-Base3 : goal.returns-in-Base3
unfolding write_checks write_effect written_at counting_written
returns-in-Base3 c =
    arms.write_kept c.args.board
    c.args.memory.now
    c.args.eeprom.now
    c.args.offset
    c.args.value
    (ways.opened c.if-memory-eeprom.false c.is_working.ensures (ap not c.if-not-is_working.false)) c.find-p.ensures c.in-Base3.is refl refl refl
    (rw c.write_high-c.ensures)

pub returns-then-is_busy : goal.returns-then-is_busy
unfolding write_checks write_effect written_at counting_written
returns-then-is_busy c =
    arms.write-refused c.args.board
    c.args.memory.now
    c.args.eeprom.now
    c.args.offset
    c.args.value
    (ways.opened c.if-memory-eeprom.false c.is_working.ensures (ap not c.if-not-is_working.false))
    c.find-p.ensures c.in-Base4.is (ways.chosen _ _ c.is_busy.ensures c.if-is_busy.true)
    refl

pub returns-else-is_busy : goal.returns-else-is_busy
unfolding write_checks write_effect written_at counting_written
returns-else-is_busy c =
    arms.write_kept c.args.board
    c.args.memory.now
    c.args.eeprom.now
    c.args.offset
    c.args.value
    (ways.opened c.if-memory-eeprom.false c.is_working.ensures (ap not c.if-not-is_working.false))
    c.find-p.ensures c.in-Base4.is
    (ways.passed_over _ _ c.is_busy.ensures c.if-is_busy.false) refl refl (rw c.write_lsb-c.ensures)

pub returns-then-is_busy-2 : goal.returns-then-is_busy-2
unfolding write_checks write_effect written_at counting_written
returns-then-is_busy-2 c =
    arms.write-refused c.args.board
    c.args.memory.now
    c.args.eeprom.now
    c.args.offset
    c.args.value
    (ways.opened c.if-memory-eeprom.false c.is_working.ensures (ap not c.if-not-is_working.false))
    c.find-p.ensures c.in-Base5.is
    (ways.chosen _ _ c.is_busy-in-Base5.ensures c.if-is_busy-2.true) refl

pub returns-else-is_busy-2 : goal.returns-else-is_busy-2
unfolding write_checks write_effect written_at counting_written
returns-else-is_busy-2 c =
    arms.write_kept c.args.board
    c.args.memory.now
    c.args.eeprom.now
    c.args.offset
    c.args.value
    (ways.opened c.if-memory-eeprom.false c.is_working.ensures (ap not c.if-not-is_working.false))
    c.find-p.ensures c.in-Base5.is
    (ways.passed_over _ _ c.is_busy-in-Base5.ensures c.if-is_busy-2.false) refl refl (rw c.write_msb-c.ensures)

pub returns-in-Base6 : goal.returns-in-Base6
unfolding write_checks write_effect written_at counting_written
returns-in-Base6 c =
    arms.write_kept c.args.board
    c.args.memory.now
    c.args.eeprom.now
    c.args.offset
    c.args.value
    (ways.opened c.if-memory-eeprom.false c.is_working.ensures (ap not c.if-not-is_working.false)) c.find-p.ensures c.in-Base6.is refl refl refl
    (rw c.write_depth-c.ensures)

pub returns-then-is_fiforst : goal.returns-then-is_fiforst
unfolding write_checks write_effect written_at counting_written
returns-then-is_fiforst c =
    arms.write-emptied
    c.args.board
    c.args.memory.now
    c.args.eeprom.now
    c.args.offset
    c.args.value
    (ways.opened c.if-memory-eeprom.false c.is_working.ensures (ap not c.if-not-is_working.false))
    c.find-p.ensures
    c.in-Base7.is refl
    (ways.chosen _ _ c.is_fiforst.ensures c.if-is_fiforst.true)
    (arms.fifo-put
    c.args.board
    c.args.value
    c.write_fifoen-c.ensures
    c.write_scanen-c.ensures) c.clear-f.ensures

pub returns-else-is_fiforst : goal.returns-else-is_fiforst
unfolding write_checks write_effect written_at counting_written
returns-else-is_fiforst c =
    arms.write_kept c.args.board
    c.args.memory.now
    c.args.eeprom.now
    c.args.offset
    c.args.value
    (ways.opened c.if-memory-eeprom.false c.is_working.ensures (ap not c.if-not-is_working.false)) c.find-p.ensures
    c.in-Base7.is refl (ways.passed_over _ _ c.is_fiforst.ensures c.if-is_fiforst.false) refl
    (arms.fifo-put c.args.board
    c.args.value
    c.write_fifoen-c.ensures c.write_scanen-c.ensures)

pub returns-then-is_reset : goal.returns-then-is_reset
unfolding write_checks write_effect written_at counting_written
returns-then-is_reset c =
    arms.write-emptied
    c.args.board
    c.args.memory.now
    c.args.eeprom.now
    c.args.offset
    c.args.value
    (ways.opened c.if-memory-eeprom.false c.is_working.ensures (ap not c.if-not-is_working.false))
    c.find-p.ensures
    c.in-Base8.is refl
    (ways.chosen _ _ c.is_reset.ensures c.if-is_reset.true)
    (arms.misc_reset
    c.args.board
    c.args.value
    c.is_reset.ensures c.if-is_reset.true
    c.reset_board-c.ensures) c.clear-f-then-is_reset.ensures

pub returns-then-value-eq1 : goal.returns-then-value-eq1
unfolding write_checks write_effect written_at counting_written
returns-then-value-eq1 c =
    arms.write_kept c.args.board
    c.args.memory.now
    c.args.eeprom.now
    c.args.offset
    c.args.value
    (ways.opened c.if-memory-eeprom.false c.is_working.ensures (ap not c.if-not-is_working.false)) c.find-p.ensures
    c.in-Base8.is refl
    (ways.passed_over _ _ c.is_reset.ensures c.if-is_reset.false) refl
    (arms.misc_cleared c.args.board
    c.args.value
    c.is_reset.ensures c.if-is_reset.false c.if-value-eq1.true c.clear-c.ensures)

pub returns-else-value-eq1 : goal.returns-else-value-eq1
unfolding write_checks write_effect written_at counting_written
returns-else-value-eq1 c =
    arms.write_kept c.args.board
    c.args.memory.now
    c.args.eeprom.now
    c.args.offset
    c.args.value
    (ways.opened c.if-memory-eeprom.false c.is_working.ensures (ap not c.if-not-is_working.false)) c.find-p.ensures
    c.in-Base8.is refl
    (ways.passed_over _ _ c.is_reset.ensures c.if-is_reset.false) refl
    (arms.misc_paged c.args.board
    c.args.value
    c.is_reset.ensures c.if-is_reset.false c.if-value-eq1.false c.forget_key-c.ensures)

pub returns-in-Base9 : goal.returns-in-Base9
unfolding write_checks write_effect written_at counting_written
returns-in-Base9 c =
    arms.write_kept c.args.board
    c.args.memory.now
    c.args.eeprom.now
    c.args.offset
    c.args.value
    (ways.opened c.if-memory-eeprom.false c.is_working.ensures (ap not c.if-not-is_working.false))
    c.find-p.ensures c.in-Base9.is refl refl refl
    (rw (c.write_clken-c.ensures, c.write_enables-c.ensures))

pub returns-then-do_gates_move : goal.returns-then-do_gates_move
unfolding write_checks write_effect written_at counting_written
returns-then-do_gates_move c =
    arms.write_kept
    c.args.board
    c.args.memory.now
    c.args.eeprom.now
    c.args.offset
    c.args.value
    (ways.opened c.if-memory-eeprom.false c.is_working.ensures (ap not c.if-not-is_working.false))
    c.find-p.ensures
    c.in-Base10.is refl refl refl
    (rw (
      c.put_timer-c.ensures,
      c.move_gates-t.ensures,
      c.gates_at-was.ensures,
      c.gates_at-is.ensures,
    ))

pub returns-else-do_gates_move : goal.returns-else-do_gates_move
unfolding write_checks write_effect written_at counting_written
returns-else-do_gates_move c =
    arms.write_kept c.args.board
    c.args.memory.now
    c.args.eeprom.now
    c.args.offset
    c.args.value
    (ways.opened c.if-memory-eeprom.false c.is_working.ensures (ap not c.if-not-is_working.false)) c.find-p.ensures
    c.in-Base10.is refl refl refl
    (arms.gates-stay c.args.board
    c.args.value
    (ways.works c.is_working.ensures (ap not c.if-not-is_working.false)).machine.clocks.timer
    c.gates_at-was.ensures c.gates_at-is.ensures c.do_gates_move.ensures c.if-do_gates_move.false)

pub returns-in-Base11 : goal.returns-in-Base11
unfolding write_checks write_effect written_at counting_written
returns-in-Base11 c =
    arms.write_kept c.args.board
    c.args.memory.now
    c.args.eeprom.now
    c.args.offset
    c.args.value
    (ways.opened c.if-memory-eeprom.false c.is_working.ensures (ap not c.if-not-is_working.false)) c.find-p.ensures c.in-Base11.is refl refl refl refl

pub returns-then-refuses_count : goal.returns-then-refuses_count
unfolding write_checks write_effect written_at counting_written
returns-then-refuses_count c =
    arms.write-refused c.args.board
    c.args.memory.now
    c.args.eeprom.now
    c.args.offset
    c.args.value
    (ways.opened c.if-memory-eeprom.false c.is_working.ensures (ap not c.if-not-is_working.false))
    c.find-p.ensures c.in-Count.is
    (ways.chosen _ _ c.refuses_count.ensures c.if-refuses_count.true) refl

pub returns-else-refuses_count : goal.returns-else-refuses_count
unfolding write_checks write_effect written_at counting_written
returns-else-refuses_count c =
    arms.write_kept c.args.board
    c.args.memory.now
    c.args.eeprom.now
    c.args.offset
    c.args.value
    (ways.opened c.if-memory-eeprom.false c.is_working.ensures (ap not c.if-not-is_working.false))
    c.find-p.ensures c.in-Count.is
    (ways.passed_over _ _ c.refuses_count.ensures c.if-refuses_count.false) refl
    (arms.timer-moved_kept
    c.args.board
    c.write_count.result c.move_timer_by-c.ensures)
    (rw (c.move_timer_by-c.ensures, c.write_count.ensures, c.gates_at-g.ensures))

pub returns-then-refuses_control : goal.returns-then-refuses_control
unfolding write_checks write_effect written_at counting_written
returns-then-refuses_control c =
    arms.write-refused c.args.board
    c.args.memory.now
    c.args.eeprom.now
    c.args.offset
    c.args.value
    (ways.opened c.if-memory-eeprom.false c.is_working.ensures (ap not c.if-not-is_working.false))
    c.find-p.ensures c.in-ControlWord.is
    (ways.chosen _ _ c.refuses_control.ensures c.if-refuses_control.true) refl

pub returns-else-refuses_control : goal.returns-else-refuses_control
unfolding write_checks write_effect written_at counting_written
returns-else-refuses_control c =
    arms.write_kept c.args.board
    c.args.memory.now
    c.args.eeprom.now
    c.args.offset
    c.args.value
    (ways.opened c.if-memory-eeprom.false c.is_working.ensures (ap not c.if-not-is_working.false)) c.find-p.ensures
    c.in-ControlWord.is
    (ways.passed_over _ _ c.refuses_control.ensures c.if-refuses_control.false) refl
    (arms.timer-moved_kept c.args.board
    c.write_control.result c.move_timer_by-c-else-refuses_control.ensures)
    (rw (c.move_timer_by-c-else-refuses_control.ensures, c.write_control.ensures, c.gates_at-g-else-refuses_control.ensures))

pub returns-in-PortData : goal.returns-in-PortData
unfolding write_checks write_effect written_at counting_written
returns-in-PortData c =
    arms.write_kept c.args.board
    c.args.memory.now
    c.args.eeprom.now
    c.args.offset
    c.args.value
    (ways.opened c.if-memory-eeprom.false c.is_working.ensures (ap not c.if-not-is_working.false))
    c.find-p.ensures c.in-PortData.is refl refl refl (rw c.write-c.ensures)

pub returns-then-control_refused : goal.returns-then-control_refused
unfolding write_checks write_effect written_at counting_written
returns-then-control_refused c =
    arms.write-refused c.args.board
    c.args.memory.now
    c.args.eeprom.now
    c.args.offset
    c.args.value
    (ways.opened c.if-memory-eeprom.false c.is_working.ensures (ap not c.if-not-is_working.false))
    c.find-p.ensures c.in-PortControl.is
    (ways.chosen _ _ c.control_refused.ensures c.if-control_refused.true) refl

pub returns-else-control_refused : goal.returns-else-control_refused
unfolding write_checks write_effect written_at counting_written
returns-else-control_refused c =
    arms.write_kept c.args.board
    c.args.memory.now
    c.args.eeprom.now
    c.args.offset
    c.args.value
    (ways.opened c.if-memory-eeprom.false c.is_working.ensures (ap not c.if-not-is_working.false))
    c.find-p.ensures c.in-PortControl.is
    (ways.passed_over _ _ c.control_refused.ensures c.if-control_refused.false) refl refl (rw c.write_control-c.ensures)

pub returns-in-Reserved : goal.returns-in-Reserved
unfolding write_checks write_effect written_at counting_written
returns-in-Reserved c =
    arms.write_kept c.args.board
    c.args.memory.now
    c.args.eeprom.now
    c.args.offset
    c.args.value
    (ways.opened c.if-memory-eeprom.false c.is_working.ensures (ap not c.if-not-is_working.false)) c.find-p.ensures c.in-Reserved.is refl refl refl refl

pub returns-in-Auxiliary : goal.returns-in-Auxiliary
unfolding write_checks write_effect written_at counting_written
returns-in-Auxiliary c =
    arms.write-refused c.args.board
    c.args.memory.now
    c.args.eeprom.now
    c.args.offset
    c.args.value
    (ways.opened c.if-memory-eeprom.false c.is_working.ensures (ap not c.if-not-is_working.false)) c.find-p.ensures c.in-Auxiliary.is refl refl

pub returns-then-is_busy-3 : goal.returns-then-is_busy-3
unfolding write_checks write_effect written_at counting_written
returns-then-is_busy-3 c =
    arms.write-refused c.args.board
    c.args.memory.now
    c.args.eeprom.now
    c.args.offset
    c.args.value
    (ways.opened c.if-memory-eeprom.false c.is_working.ensures (ap not c.if-not-is_working.false))
    c.find-p.ensures c.in-CalData.is
    (ways.chosen _ _ c.is_busy-in-CalData.ensures c.if-is_busy-3.true) refl

pub returns-else-is_busy-3 : goal.returns-else-is_busy-3
unfolding write_checks write_effect written_at counting_written
returns-else-is_busy-3 c =
    arms.write_kept c.args.board
    c.args.memory.now
    c.args.eeprom.now
    c.args.offset
    c.args.value
    (ways.opened c.if-memory-eeprom.false c.is_working.ensures (ap not c.if-not-is_working.false))
    c.find-p.ensures c.in-CalData.is
    (ways.passed_over _ _ c.is_busy-in-CalData.ensures c.if-is_busy-3.false) refl refl (rw c.write_value-c.ensures)

pub returns-then-is_busy-4 : goal.returns-then-is_busy-4
unfolding write_checks write_effect written_at counting_written
returns-then-is_busy-4 c =
    arms.write-refused c.args.board
    c.args.memory.now
    c.args.eeprom.now
    c.args.offset
    c.args.value
    (ways.opened c.if-memory-eeprom.false c.is_working.ensures (ap not c.if-not-is_working.false))
    c.find-p.ensures c.in-CalAddress.is
    (ways.chosen _ _ c.is_busy-in-CalAddress.ensures c.if-is_busy-4.true) refl

pub returns-else-is_busy-4 : goal.returns-else-is_busy-4
unfolding write_checks write_effect written_at counting_written
returns-else-is_busy-4 c =
    arms.write_kept c.args.board
    c.args.memory.now
    c.args.eeprom.now
    c.args.offset
    c.args.value
    (ways.opened c.if-memory-eeprom.false c.is_working.ensures (ap not c.if-not-is_working.false))
    c.find-p.ensures c.in-CalAddress.is
    (ways.passed_over _ _ c.is_busy-in-CalAddress.ensures c.if-is_busy-4.false) refl refl (rw c.write_address-c.ensures)

pub returns-in-Some : goal.returns-in-Some
unfolding write_checks write_effect written_at counting_written
returns-in-Some c =
    arms.write-refused c.args.board
    c.args.memory.now
    c.args.eeprom.now
    c.args.offset
    c.args.value
    (ways.opened c.if-memory-eeprom.false c.is_working.ensures (ap not c.if-not-is_working.false))
    c.find-p.ensures c.in-CalBase14.is (sym c.in-Some.ensures.refused.0)
    (ne_eqb _ 0 c.in-Some.ensures.refused.1)

pub returns-in-None : goal.returns-in-None
unfolding write_checks write_effect written_at counting_written
returns-in-None c =
    arms.write_kept c.args.board
    c.args.memory.now
    c.args.eeprom.now
    c.args.offset
    c.args.value
    (ways.opened c.if-memory-eeprom.false c.is_working.ensures (ap not c.if-not-is_working.false))
    c.find-p.ensures c.in-CalBase14.is
    c.in-None.ensures.taken refl refl (rw c.write_control-c-in-None.ensures)

pub returns-in-CalBase15 : goal.returns-in-CalBase15
unfolding write_checks write_effect written_at counting_written
returns-in-CalBase15 c =
    arms.write_kept c.args.board
    c.args.memory.now
    c.args.eeprom.now
    c.args.offset
    c.args.value
    (ways.opened c.if-memory-eeprom.false c.is_working.ensures (ap not c.if-not-is_working.false)) c.find-p.ensures c.in-CalBase15.is refl refl refl
    (rw c.write_key-c.ensures)

pub returns-in-Outside : goal.returns-in-Outside
unfolding write_checks write_effect written_at counting_written
returns-in-Outside c =
    arms.write-refused c.args.board
    c.args.memory.now
    c.args.eeprom.now
    c.args.offset
    c.args.value
    (ways.opened c.if-memory-eeprom.false c.is_working.ensures (ap not c.if-not-is_working.false)) c.find-p.ensures c.in-Outside.is refl refl
