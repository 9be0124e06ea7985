-- What many ticks over a lent board leave. The specification, "What is delivered": "The core passes the record by value; above it, the hypervisor lends one
-- board record and finds it updated."
use Rattle.std.specs.Prelude.{ℕ, ◌≡◌, refl, List}
use Rattle.std.proofs.Common.{sym, ◌∙◌}
use Rattle.machine_record.specs.declared.Board.{Board}
use Rattle.board_advance.specs.Advance.{advanced_of}
use Rattle.board_advance.specs.declared.Progress.{Progress}

-- From the record b, the memories m and e and a number of ticks: the answer with the ticks that were done, in the form that `form` gives it, the record at
-- exit, and both memories as they were
pub record Moved {X : Type 0} (form : Progress → X) (b : Board) (m e : List ℕ) (ticks : ℕ) (answer' : X) (b' : Board) (m' e' : List ℕ) : Type 0 where
  pub answer : answer' ≡ form (advanced_of b m e ticks).progress
  pub board : b' ≡ (advanced_of b m e ticks).board
  pub memory : m' ≡ m
  pub eeprom : e' ≡ e

-- what `advance` by value gives is such an outcome
pub moved-by_value : {X : Type 0} (form : Progress → X) (b : Board) (m e : List ℕ) (ticks : ℕ)
    → Moved form b m e ticks (form (advanced_of b m e ticks).progress) (advanced_of b m e ticks).board m e
moved-by_value form b m e ticks = record { answer = refl; board = refl; memory = refl; eeprom = refl }

-- and the only one: two outcomes that the promise permits are equal
pub determined : {X : Type 0} {form : Progress → X} {b : Board} {m e : List ℕ} {ticks : ℕ} {x x' : X} {b₁ b₂ : Board} {m₁ m₂ e₁ e₂ : List ℕ}
    → Moved form b m e ticks x b₁ m₁ e₁ → Moved form b m e ticks x' b₂ m₂ e₂ → (x ≡ x') × (b₁ ≡ b₂) × (m₁ ≡ m₂) × (e₁ ≡ e₂)
determined s t =
    (s.answer ∙ sym t.answer, s.board ∙ sym t.board, s.memory ∙ sym t.memory, s.eeprom ∙ sym t.eeprom)
