-- `cases_board_host::spoil_flags::damage_requests` meets its contract. Assumes nothing.
use Rattle.cases_board_host.proofs.Flags.{flagged}
use Rattle.cases_board_host.specs.SpoiledFlags.{damaged_requests}
use Rattle.cases_board_host.proofs.spoil_flags.damage_requests.Goals as goal

pub returns : goal.returns
unfolding damaged_requests
returns c =
    simp (
      c.damage_asked.ensures,
      flagged c.damage_flag-5.ensures.damaged c.damage_flag-5.ensures.kept,
      flagged c.damage_flag-4.ensures.damaged c.damage_flag-4.ensures.kept,
      flagged c.damage_flag-3.ensures.damaged c.damage_flag-3.ensures.kept,
      flagged c.damage_flag-2.ensures.damaged c.damage_flag-2.ensures.kept,
      flagged c.damage_flag.ensures.damaged c.damage_flag.ensures.kept,
    )
