-- What `damage_flag` promises, as its definition.
use Rattle.std.specs.Prelude.{◌≡◌, ℕ, Bool, true, false, refl, if◌then◌else◌, eqb}
use Rattle.std.proofs.Common.{eqb-true}
use Rattle.std.proofs.lemmas.Bool.{eqb-false}
use Rattle.cases_board_host.specs.SpoiledFlags.{damaged_flag}

pub flagged : {v n own r : ℕ} → (n ≡ own → r ≡ 2) → ((n ≡ own → ⊥) → r ≡ v) → r ≡ damaged_flag v n own
unfolding damaged_flag
flagged {v} {n} {own} {r} damaged kept = by (eqb n own) refl
  where
    by : (b : Bool) → eqb n own ≡ b → r ≡ (if eqb n own then 2 else v)
    by true e = rw e (damaged (eqb-true n own e))
    by false e = rw e (kept (eqb-false n own e))
