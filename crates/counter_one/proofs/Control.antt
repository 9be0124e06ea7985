-- The control bits that set up mode 0 and those that set up mode 2, as the code lists them, and that no others do. Assumes nothing.
use Rattle.std.specs.Prelude.{Option, Some, None}
use Rattle.std.proofs.Common.{◌≡◌, ℕ, Bool, true, false, not, ◌||◌, eqb, ltb, List, [], ◌∷◌, refl, ⊎_elim, ltb-true, ne_eqb}
use Rattle.std.specs.Option.{is_some}
use mathlib.Core.Path.{subst⁻¹}
use mir.Val.{has_key}
use types.Run.{OneOf, hit}
use Rattle.std.proofs.lemmas.Bool.{agree_below, agree_below_at, false_from_ne_true}
use Rattle.base.specs.Laws.{never}
use Rattle.base.specs.Tests.{all}
use Rattle.counter_modes.specs.Control.{command, setup_of}
use Rattle.counter_modes.specs.declared.Format.{Format}
use Rattle.counter_modes.specs.declared.Mode.{Mode}
use Rattle.counter_one.specs.Working.{control_tests, control_works}

abbrev mode0 : List ℕ
mode0 = 16 ∷ 32 ∷ 48 ∷ []

abbrev mode2 : List ℕ
mode2 = 20 ∷ 28 ∷ 36 ∷ 44 ∷ 52 ∷ 60 ∷ []

-- ---- what each of some numbers has, any one of them has
abbrev Of : (ℕ → Type 0) → List ℕ → Type 0
Of P [] = Unit {0}
Of P (k ∷ ks) = P k × Of P ks

of_key : (P : ℕ → Type 0) (ks : List ℕ) (x : ℕ) → Of P ks → OneOf ks x → P x
of_key P [] x q h = absurd h
of_key P (k ∷ []) x q h = subst⁻¹ P h q.0
of_key P (k ∷ j ∷ ks) x q h = ⊎_elim (λ e. subst⁻¹ P e q.0) (λ r. of_key P (j ∷ ks) x q.1 r) h

pub in_mode_0 : (w r o : ℕ) → OneOf mode0 w → true ≡ control_works w r o
unfolding control_works setup_of command
in_mode_0 w r o = of_key (λ (x : ℕ). true ≡ control_works x r o) mode0 w (refl, (refl, (refl, tt)))

pub in_mode_2 : (w r o : ℕ) → OneOf mode2 w → not (eqb r 1) ≡ control_works w r o
unfolding control_works setup_of command
in_mode_2 w r o = of_key (λ (x : ℕ). not (eqb r 1) ≡ control_works x r o) mode2 w (refl, (refl, (refl, (refl, (refl, (refl, tt))))))

-- ---- six bits that are not listed set up nothing
abbrev listed : ℕ → Bool
listed w = (has_key mode0 w || has_key mode2 w) || not (is_some (setup_of w))

all_listed : agree_below listed (λ w. true) 64 ≡ true
unfolding setup_of command
all_listed = refl

no_key : (ks : List ℕ) (w : ℕ) → (OneOf ks w → ⊥) → has_key ks w ≡ false
no_key ks w n = false_from_ne_true (has_key ks w) (λ e. n (hit ks w (rw e tt)))

pub not_listed : (w r o : ℕ) → (w ≡ 0 → ⊥) → (OneOf mode0 w → ⊥) → (OneOf mode2 w → ⊥) → false ≡ control_works w r o
unfolding control_works
not_listed w r o z a b = go (setup_of w) (ltb w 64) refl refl
  where
    go : (s : Option (Format × Mode)) (t : Bool) → setup_of w ≡ s → ltb w 64 ≡ t → false ≡ all (control_tests s w r o)
    go None t e l = rw (ne_eqb w 0 z)
    go (Some (f, m)) true e l = never (rw (no_key mode0 w a, no_key mode2 w b, e) at (agree_below_at listed (λ w. true) 64 w all_listed (ltb-true w 64 l)))
    go (Some (f, m)) false e l = rw l
