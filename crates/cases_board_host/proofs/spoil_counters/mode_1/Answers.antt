-- `cases_board_host::spoil_counters::mode_1` meets its contract. Assumes nothing.
use Rattle.cases_board_host.specs.Spoils.{mode1}
use Rattle.cases_board_host.proofs.spoil_counters.mode_1.Goals as goal

pub returns : goal.returns
unfolding mode1
returns c = simp (c.write_word-c.ensures, c.new.ensures)
