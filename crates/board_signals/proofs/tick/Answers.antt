-- `board_signals::tick` meets its contract, by a law for each way out. Assumes nothing.
use Rattle.std.proofs.Common.{ap, not}
use Rattle.board_signals.proofs.Ticks as ticks
use Rattle.board_step.specs.Ways as ways
use Rattle.board_signals.proofs.tick.Goals as goal

pub pulse_if-k0-requires : goal.pulse_if-k0-requires
pulse_if-k0-requires c =
    (ways.works c.is_working.ensures (ap not c.if-not-is_working.false)).machine.clocks.timer.counter0

pub pulse_working-k1-requires : goal.pulse_working-k1-requires
pulse_working-k1-requires c =
    rw c.put_timer-c.ensures
    (ways.works c.is_working.ensures (ap not c.if-not-is_working.false)).machine.clocks.timer.counter1

pub pulse_working-k2-requires : goal.pulse_working-k2-requires
pulse_working-k2-requires c =
    rw (
      c.put_timer-c-then-clocks_1.ensures,
      c.put_timer-c.ensures,
    ) (ways.works c.is_working.ensures (ap not c.if-not-is_working.false)).machine.clocks.timer.counter2

pub returns-then-memory-eeprom : goal.returns-then-memory-eeprom
returns-then-memory-eeprom c =
    ways.wrong c.args.board c.args.memory.now c.args.eeprom.now _
    c.if-memory-eeprom.true

pub returns-then-not-is_working : goal.returns-then-not-is_working
returns-then-not-is_working c =
    ways.broken c.args.board c.args.memory.now
    c.args.eeprom.now _ c.if-memory-eeprom.false c.is_working.ensures
    (ap not c.if-not-is_working.true)

pub returns-then-has_fallen : goal.returns-then-has_fallen
returns-then-has_fallen c =
    ticks.tick
    c.args.board
    c.args.memory.now
    c.args.eeprom.now
    (ways.opened c.if-memory-eeprom.false c.is_working.ensures (ap not c.if-not-is_working.false))
    c.next_tick-hundred.ensures
    c.next_tick-thousand.ensures
    (ticks.first
    c.args.board
    c.gates_at-g.ensures
    c.next_tick-thousand.ensures
    c.clocks_0-clocks0.ensures
    c.pulse_if-k0.ensures
    c.has_fallen.ensures
    c.ask_timer-c.ensures)
    (ticks.falls_1
    c.args.board
    c.gates_at-g.ensures
    c.next_tick-hundred.ensures
    c.clocks_1.ensures c.if-clocks_1.true
    (rw c.put_timer-c.ensures at
    c.pulse_working-k1.ensures)
    (rw c.put_timer-c.ensures at c.has_fallen-then-clocks_1.ensures)
    c.if-has_fallen.true
    (rw (
      c.put_timer-c-then-clocks_1.ensures,
      c.put_timer-c.ensures,
    ) at c.pulse_working-k2.ensures)
    (rw (
      c.put_timer-c-then-clocks_1.ensures,
      c.put_timer-c.ensures,
    ) at c.has_fallen-fell.ensures)
    (rw c.ask_timer-c.ensures at c.trigger-c.ensures))
    c.tick-c.ensures
    (rw (
      c.put_timer-c-then-clocks_1.ensures,
      c.put_timer-c.ensures,
    ) at c.put_timer-c-then-has_fallen.ensures)

pub returns-else-has_fallen : goal.returns-else-has_fallen
returns-else-has_fallen c =
    ticks.tick
    c.args.board
    c.args.memory.now
    c.args.eeprom.now
    (ways.opened c.if-memory-eeprom.false c.is_working.ensures (ap not c.if-not-is_working.false))
    c.next_tick-hundred.ensures
    c.next_tick-thousand.ensures
    (ticks.first
    c.args.board
    c.gates_at-g.ensures
    c.next_tick-thousand.ensures
    c.clocks_0-clocks0.ensures
    c.pulse_if-k0.ensures
    c.has_fallen.ensures
    c.ask_timer-c.ensures)
    (ticks.stays_1
    c.args.board
    c.gates_at-g.ensures
    c.next_tick-hundred.ensures c.clocks_1.ensures
    c.if-clocks_1.true
    (rw c.put_timer-c.ensures at
    c.pulse_working-k1.ensures)
    (rw c.put_timer-c.ensures at
    c.has_fallen-then-clocks_1.ensures) c.if-has_fallen.false)
    c.tick-c.ensures
    (rw c.put_timer-c.ensures at
    c.put_timer-c-then-clocks_1.ensures)

pub returns-else-clocks_1 : goal.returns-else-clocks_1
returns-else-clocks_1 c =
    ticks.tick
    c.args.board
    c.args.memory.now
    c.args.eeprom.now
    (ways.opened c.if-memory-eeprom.false c.is_working.ensures (ap not c.if-not-is_working.false))
    c.next_tick-hundred.ensures
    c.next_tick-thousand.ensures
    (ticks.first
    c.args.board c.gates_at-g.ensures
    c.next_tick-thousand.ensures
    c.clocks_0-clocks0.ensures
    c.pulse_if-k0.ensures c.has_fallen.ensures
    c.ask_timer-c.ensures)
    (ticks.unclocked_1
    c.args.board c.gates_at-g.ensures
    c.next_tick-hundred.ensures
    c.clocks_1.ensures c.if-clocks_1.false) c.tick-c.ensures
    c.put_timer-c.ensures
