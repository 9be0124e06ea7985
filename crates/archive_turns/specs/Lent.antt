-- What a turn over a lent board leaves. The specification, "What is delivered": "The core passes the record by value; above it, the hypervisor lends one
-- board record and finds it updated."
use Rattle.std.specs.Prelude.{ℕ, ◌≡◌, refl, List}
use Rattle.std.proofs.Common.{sym, ◌∙◌}
use Rattle.machine_record.specs.declared.Board.{Board}
use Rattle.collector_phases.specs.declared.Collector.{Collector}
use Rattle.collector_steps.specs.declared.Taken.{Taken}
use Rattle.archive_turns.specs.Real.{lent_turn, turned_in, taken_in}

-- From the record b, the memories m and e and a collector: what the collector answers, in the form that `form` gives it, and the record and both
-- memories at exit
pub record Driven {X : Type 0} (form : Taken → X) (b : Board) (m e : List ℕ) (c : Collector) (taken' : X) (b' : Board) (m' e' : List ℕ) : Type 0 where
  pub answer : taken' ≡ form (taken_in (turned_in (lent_turn c b m e)))
  pub board : b' ≡ (lent_turn c b m e).board.board
  pub memory : m' ≡ (lent_turn c b m e).board.memory
  pub eeprom : e' ≡ (lent_turn c b m e).board.eeprom

-- what a turn by value gives is such an outcome
pub driven-by_value : {X : Type 0} (form : Taken → X) (b : Board) (m e : List ℕ) (c : Collector)
    → Driven form b m e c (form (taken_in (turned_in (lent_turn c b m e)))) (lent_turn c b m e).board.board (lent_turn c b m e).board.memory
    (lent_turn c b m e).board.eeprom
driven-by_value form b m e c = record { answer = refl; board = refl; memory = refl; eeprom = refl }

-- and the only one: two outcomes that the promise permits are equal
pub determined : {X : Type 0} {form : Taken → X} {b : Board} {m e : List ℕ} {c : Collector} {x x' : X} {b₁ b₂ : Board} {m₁ m₂ e₁ e₂ : List ℕ}
    → Driven form b m e c x b₁ m₁ e₁ → Driven form b m e c x' b₂ m₂ e₂ → (x ≡ x') × (b₁ ≡ b₂) × (m₁ ≡ m₂) × (e₁ ≡ e₂)
determined s t =
    (s.answer ∙ sym t.answer, s.board ∙ sym t.board, s.memory ∙ sym t.memory, s.eeprom ∙ sym t.eeprom)
