-- `cases_board_host::spoil_counters::one_to_load` meets its contract. Assumes nothing.
use Rattle.cases_board_host.specs.Spoils.{one_to_load}
use Rattle.cases_board_host.proofs.spoil_counters.one_to_load.Goals as goal

pub returns : goal.returns
unfolding one_to_load
returns c = simp (c.write_word-c.ensures, c.new.ensures)
