-- Stores that are not refused have their lengths.
use Rattle.std.specs.Prelude.{ℕ, ◌≡◌, refl, Bool, true, false, not, ◌||◌, List, length, eqb}
use Rattle.std.proofs.Common.{arith, eqb-true}
use Rattle.board_stores.specs.Stores.{wrong_lengths}

neither : (a b : Bool) → not a || not b ≡ false → (a ≡ true) × (b ≡ true)
neither true true h = (refl, refl)
neither true false h = absurd (let z : ◌≡◌ {A = ℕ} 0 1 = cc in omega arith)
neither false b h = absurd (let z : ◌≡◌ {A = ℕ} 0 1 = cc in omega arith)

pub right_lengths : (m e : List ℕ) → wrong_lengths m e ≡ false → (length m ≡ 512) × (length e ≡ 128)
right_lengths m e h = let l = neither (eqb (length m) 512) (eqb (length e) 128) h in (eqb-true _ _ l.0, eqb-true _ _ l.1)
