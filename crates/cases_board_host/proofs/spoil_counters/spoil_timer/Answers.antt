-- `cases_board_host::spoil_counters::spoil_timer` meets its contract. Assumes nothing.
use Rattle.cases_board_host.specs.Spoils.{spoiled_timer}
use Rattle.cases_board_host.proofs.spoil_counters.spoil_timer.Goals as goal

pub returns : goal.returns
unfolding spoiled_timer
returns c = simp (c.spoil_counter-2.ensures, c.spoil_counter.ensures, c.spoil_counter_0.ensures)
