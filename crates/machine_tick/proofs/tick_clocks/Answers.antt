-- `machine_tick::tick_clocks` meets its contract, by a law for each way out. Assumes nothing.
use Rattle.machine_tick.proofs.Clocked.{falls, stays, rests}
use Rattle.machine_tick.proofs.tick_clocks.Goals as goal

pub pulse_if-t-requires : goal.pulse_if-t-requires
pulse_if-t-requires c = c.requires.timer.counter0

pub pulse_working-k1-requires : goal.pulse_working-k1-requires
pulse_working-k1-requires c = c.requires.timer.counter1

pub pulse_working-t-requires : goal.pulse_working-t-requires
pulse_working-t-requires c = c.requires.timer.counter2

pub returns-then-has_fallen : goal.returns-then-has_fallen
returns-then-has_fallen c =
    falls c.args.l
    c.args.counting
    c.args.g
    c.next_tick-hundred.ensures
    c.next_tick-thousand.ensures
    c.clocks_0-clocks0.ensures
    c.pulse_if-t.ensures
    c.clocks_1.ensures c.if-clocks_1.true
    c.pulse_working-k1.ensures c.has_fallen.ensures c.if-has_fallen.true c.pulse_working-t.ensures

pub returns-else-has_fallen : goal.returns-else-has_fallen
returns-else-has_fallen c =
    stays c.args.l
    c.args.counting
    c.args.g
    c.next_tick-hundred.ensures
    c.next_tick-thousand.ensures
    c.clocks_0-clocks0.ensures
    c.pulse_if-t.ensures c.clocks_1.ensures
    c.if-clocks_1.true c.pulse_working-k1.ensures c.has_fallen.ensures c.if-has_fallen.false

pub returns-else-clocks_1 : goal.returns-else-clocks_1
returns-else-clocks_1 c =
    rests c.args.l c.args.counting
    c.args.g c.next_tick-hundred.ensures
    c.next_tick-thousand.ensures c.clocks_0-clocks0.ensures
    c.pulse_if-t.ensures c.clocks_1.ensures c.if-clocks_1.false
