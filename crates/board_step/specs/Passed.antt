-- What holds where no check refuses. Laws for the theorems and proofs about a step.
use Rattle.std.specs.Prelude.{ℕ, ◌≤◌, ◌≡◌, not, List, [], ◌∷◌, length, ltb}
use Rattle.std.proofs.Common.{arith, ltb-false}
use Rattle.base.specs.Checks.{◌refuses◌, refusal}
use Rattle.base.specs.Laws.{not_not}
use Rattle.base.specs.Unrefused.{passes}
use Rattle.machine_record.specs.declared.Board.{Board}
use Rattle.board_refusal.specs.Working.{is_working_board, WorkingBoard, board_of}
use Rattle.board_stores.specs.Stores.{wrong_lengths}
use Rattle.board_stores.specs.Lengths.{right_lengths}
use Rattle.board_refusal.specs.Refusals.{event_checks, checks}
use Rattle.board_step.specs.Act.{din_levels}
use Rattle.board_events.specs.declared.Din.{Din}
use Rattle.board_events.specs.declared.Event.{Event}
use Rattle.board_events.specs.declared.Event.TheVariants.{DinPins}

-- the board works, the EEPROM has its length, and no check of the event refuses
pub record Passed (b : Board) (m e : List ℕ) (ev : Event) : Type 0 where
  pub works : WorkingBoard b m
  pub long : length e ≡ 128
  pub event : refusal (event_checks b ev) ≡ 0

pub all-passed : (b : Board) (m e : List ℕ) (ev : Event) → refusal (checks b m e ev) ≡ 0 → Passed b m e ev
unfolding checks
all-passed b m e ev h =
    let p = passes (wrong_lengths m e) 2 (not (is_working_board b m) refuses 1 ∷ event_checks b ev) (omega arith) h in
    let q = passes (not (is_working_board b m)) 1 (event_checks b ev) (omega arith) p.1 in
    record { works = board_of b m (not_not _ q.0); long = (right_lengths m e p.0).1; event = q.1 }

-- DIN levels that are not refused are within their width
pub din_in_range : (b : Board) (d : Din) → refusal (event_checks b (DinPins d)) ≡ 0 → d.lines ≤ 15
unfolding event_checks
din_in_range b d h = omega (arith, ltb-false 15 d.lines (passes (ltb 15 d.lines) 5 [] (omega arith) h).0)

pub din-levels_le : (d : Din) → din_levels d ≤ 15
din-levels_le d = omega arith

-- and are taken whole
pub din-levels_whole : (b : Board) (d : Din) → refusal (event_checks b (DinPins d)) ≡ 0 → din_levels d ≡ d.lines
din-levels_whole b d h = let n : d.lines ≤ 15 = din_in_range b d h in omega arith
