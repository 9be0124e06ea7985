-- What the flags of a look tell of the samples held. Assumes nothing.
use Rattle.std.specs.Prelude.{ℕ, ◌≤◌, ◌<◌, true, false, List, [], ◌∷◌, ◌≡◌, refl, length}
use Rattle.std.proofs.Common.{sym, ◌∙◌, arith, leb-true, leb-false}
use Rattle.collector_answers.specs.Answers.{EF, FF}
use Rattle.archive_turns.specs.Machine.{Machine}
use Rattle.archive_demand.specs.Laws.{Laws}

-- where some are held, the oldest and the others
pub first_of : (u : List ℕ) → 1 ≤ length u → (n : ℕ) × (rest : List ℕ) × (u ≡ n ∷ rest)
first_of [] e = absurd (omega arith)
first_of (n ∷ u) e = (n, u, refl)

module _ (M : Machine) (Working : M.Board → Type 0) (laws : Laws M Working) (b : M.Board) (w : Working b) where
  abbrev pub n : ℕ
  n = length (M.view b).held

  abbrev pub status : ℕ
  status = (laws.looks b w).byte

  pub shows-none : EF status ≡ true → n ≡ 0
  shows-none h = let x : n ≤ 0 = leb-true n 0 (sym (laws.looks b w).ef ∙ h) in omega arith

  pub shows-some : EF status ≡ false → 1 ≤ n
  shows-some h = let x : 0 < n = leb-false n 0 (sym (laws.looks b w).ef ∙ h) in omega arith

  pub shows-all : FF status ≡ true → n ≡ 512
  shows-all h = let x : 512 ≤ n = leb-true 512 n (sym (laws.looks b w).ff ∙ h) in omega (arith, laws.room b w)

  pub shows-few : FF status ≡ false → n < 512
  shows-few h = leb-false 512 n (sym (laws.looks b w).ff ∙ h)
