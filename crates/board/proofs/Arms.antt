-- What the step of its kind leaves, the step of an event leaves. Assumes nothing.
use mathlib.Core.Path.{◌≡◌, sym, subst}
use mathlib.Core.List.{List}
use Prim.Native.Nat.{ℕ}
use Rattle.machine_record.specs.declared.Board.{Board}
use Rattle.board_step.specs.Ways.{Promised}
use Rattle.board_step.specs.declared.Outcome.{Outcome}
use Rattle.board_events.specs.declared.Event.{Event}

pub as_kind : (b : Board) (m e : List ℕ) {ev k : Event} {r : Outcome} {m' e' : List ℕ} → ev ≡ k → Promised b m e k r m' e' → Promised b m e ev r m' e'
as_kind b m e {r = r} {m' = m'} {e' = e'} h s = subst (λ (z : Event). Promised b m e z r m' e') (sym h) s
