-- `cases_board_host::spoil_flags::damage_timer` meets its contract. Assumes nothing.
use Rattle.cases_board_host.specs.SpoiledFlags.{damaged_timer}
use Rattle.cases_board_host.proofs.spoil_flags.damage_timer.Goals as goal

pub returns : goal.returns
unfolding damaged_timer
returns c =
    simp (
      c.damage_counter-3.ensures,
      c.place-3.ensures,
      c.damage_counter-2.ensures,
      c.place-2.ensures,
      c.damage_counter.ensures,
      c.place.ensures,
    )
