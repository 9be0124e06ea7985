-- Theorems that rest on theorems of specs/Ticks.antt, and promise as those do. What specs/Ticks.antt says of itself:
-- The ticks that are done of many count one conversion begun, where the board is converting after them and was not before, and nothing else: a call stops after
-- the first tick that begins one.
use Rattle.std.specs.Prelude.{ℕ, ◌≡◌, List, replicate}
use Rattle.std.proofs.Common.{sym, ap, ◌∙◌}
use Rattle.machine_record.specs.declared.Board.{Board}
use Rattle.board_step.specs.Ways.{Opened}
use Rattle.board_advance.specs.Advance.{advanced_of}
use Rattle.board_advance.specs.Strided.{begins_in}
use Rattle.tally_counts.specs.declared.Tally.{Tally}
use Rattle.tally.specs.Tally.{state_of, added, noted_ticks}
use Rattle.tally.specs.Made.{begun_if}
use Rattle.tally.proofs.Adding.{noted-all}
use Rattle.board_events.specs.declared.Event.TheVariants.{Tick}
use Rattle.tally.specs.Ticks.{ticks_counted}

-- ---- the whole call, of a board that is not refused: the ticks that are done count what the code counts
pub ticks_noted : (t : Tally) (b : Board) (m e : List ℕ) (n : ℕ) → Opened b m e → added t (begun_if (begins_in b n)) ≡ noted_ticks t b m e n
ticks_noted t b m e n o =
    ap (added t) (sym (ticks_counted b m e n o)) ∙ sym (noted-all t (state_of b m e) (replicate (advanced_of b m e n).progress.done Tick))
