-- Both sums over one event, with the board before it and after it: laws for the theorems over rows of events.
use Rattle.std.specs.Prelude.{ℕ, ◌+◌, ◌≡◌, List, Option}
use Rattle.base.specs.Flags.{flag}
use Rattle.machine_record.specs.declared.Board.{Board}
use Rattle.board_step.specs.Act.{acted}
use Rattle.board_step.specs.Step.{fifo_after, ran_from}
use Rattle.board_step.specs.States.{State}
use Rattle.board_laws.specs.Begins.{ends}
use Rattle.tally_counts.specs.Counts.{reads, loses, clears, held, in_progress}
use Rattle.tally_counts.specs.declared.Tally.{Tally}
use Rattle.board_events.specs.declared.Event.{Event}

-- ---- the samples, by what an event does to them
module _ (b : Board) (o : Option ℕ) (e : List ℕ) where
  abbrev pub held_after : Event → ℕ
  held_after ev = (fifo_after (acted b o e ev).effect b.fifo).held

  abbrev pub Adds : Event → ℕ → Type 0
  Adds ev h = flag (ends ev) + held b ≡ flag (reads b ev) + h + flag (loses b ev) + clears b ev

-- ---- any event of any board: one that is refused counts nothing and changes nothing
pub record Added (c : Tally) (was is : Board) : Type 0 where
  pub samples : c.ended + held was ≡ c.read + held is + c.lost + c.cleared
  pub conversions : c.begun + in_progress was ≡ c.ended + c.abandoned + in_progress is

module _ (s : State) (ev : Event) where
  abbrev pub made : Board
  made = (ran_from s.board s.memory s.eeprom ev).board
