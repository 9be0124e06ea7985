-- `cases_board_host::spoil_counters::out_low` meets its contract. Assumes nothing.
use Rattle.cases_board_host.specs.Spoils.{out_low}
use Rattle.cases_board_host.proofs.spoil_counters.out_low.Goals as goal

pub returns : goal.returns
unfolding out_low
returns c = simp c.new-c.ensures
