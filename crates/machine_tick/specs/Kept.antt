-- A tick keeps a working board working.
use Rattle.std.specs.Prelude.{ℕ, ◌≤◌, ltb}
use Rattle.std.proofs.Common.{arith, ltb-true}
use Rattle.base.specs.Laws.{by-test}
use Rattle.outputs.specs.Laws as outputs
use Rattle.timer.specs.Kept.{clocked-works}
use Rattle.timer.specs.declared.Select.TheVariants.{Counter0, Counter1}
use Rattle.machine_clock.specs.Clock.{gates}
use Rattle.machine_tick.specs.Tick.{clock0, clock1, next_tick, dividers_ticked}
use Rattle.machine_tick.specs.Tick.{counter0_ticked, counter1_ticked, outputs_ticked, ticked}
use Rattle.machine_record.specs.Working.{WorkingMachine}
use Rattle.machine_record.specs.declared.Board.{Board}
use Rattle.machine_record.specs.Kept.{outputs-kept, clocks-kept}
use Rattle.machine_clock.specs.Kept.{timer-moved_works}

next_in_range : (n last : ℕ) → next_tick n last ≤ last
next_in_range n last = by-test (λ (x : ℕ). x ≤ last) (ltb n last) (λ t. omega (arith, ltb-true n last t)) (λ t. omega arith)

dividers_work : (b : Board) → WorkingMachine b → WorkingMachine (dividers_ticked b)
unfolding dividers_ticked
dividers_work b w =
    clocks-kept b w _
    (record {
      timer = w.clocks.timer;
      hundred = next_in_range b.clocks.hundred 99;
      thousand = next_in_range b.clocks.thousand 999;
    })

counter0-works : (b : Board) → WorkingMachine b → WorkingMachine (counter0_ticked b)
unfolding counter0_ticked
counter0-works b w = timer-moved_works b _ w (clocked-works _ Counter0 (gates b) (clock0 b.registers.counting b.clocks.thousand) w.clocks.timer)

counter1-works : (b : Board) → WorkingMachine b → WorkingMachine (counter1_ticked b)
unfolding counter1_ticked
counter1-works b w = timer-moved_works b _ w (clocked-works _ Counter1 (gates b) (clock1 b.registers.counting b.clocks.hundred) w.clocks.timer)

outputs_work : (b : Board) → WorkingMachine b → WorkingMachine (outputs_ticked b)
unfolding outputs_ticked
outputs_work b w = outputs-kept b w _ (outputs.ticked-works b.outputs w.outputs)

pub ticked-works : (b : Board) → WorkingMachine b → WorkingMachine (ticked b)
unfolding ticked
ticked-works b w = outputs_work _ (counter1-works _ (counter0-works _ (dividers_work b w)))
