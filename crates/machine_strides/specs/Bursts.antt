-- How many ticks go one by one between looks at how far one can skip.
use Rattle.std.specs.Prelude.{ℕ, ◌+◌, ◌*◌, ◌≤◌, leb, ltb, if◌then◌else◌}
use Rattle.std.proofs.Common.{arith, ltb-true, ltb-false}
use Rattle.base.specs.Laws.{by-test, by_choice}

abbrev pub least : ℕ → ℕ → ℕ
least a b = if ltb a b then a else b

abbrev pub burst_after : ℕ → ℕ → ℕ
burst_after burst skipped = if leb 4 skipped then 2 else if ltb burst 32 then 2 * burst + 1 else 63

pub least-le : (a b : ℕ) → (least a b ≤ a) × (least a b ≤ b)
least-le a b =
    by-test (λ (x : ℕ). (x ≤ a) × (x ≤ b)) (ltb a b)
    (λ t. (omega arith, omega (arith, ltb-true a b t))) (λ t. (omega (arith, ltb-false a b t), omega arith))

-- at least one tick goes where one is left
pub some_burst : (burst skipped : ℕ) → 1 ≤ burst_after burst skipped
some_burst burst skipped = by_choice (λ (x : ℕ). 1 ≤ x) (leb 4 skipped) (omega arith) (by_choice (λ (x : ℕ). 1 ≤ x) (ltb burst 32) (omega arith) (omega arith))

pub some-least : (a b : ℕ) → 1 ≤ a → 1 ≤ b → 1 ≤ least a b
some-least a b h k = by_choice (λ (x : ℕ). 1 ≤ x) (ltb a b) h k
