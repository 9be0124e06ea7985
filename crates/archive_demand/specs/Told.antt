-- The phase of a fit collector, told by its access. Assumes nothing.
use Rattle.std.specs.Prelude.{ℕ, zero, suc, Bool, true, false, ◌&&◌, ◌≡◌, refl, Result, Ok, Err, eqb, if◌then◌else◌}
use Rattle.std.proofs.Common.{sym, ◌∙◌, subst}
use Rattle.base.specs.declared.Refusal.{Refusal}
use Rattle.collector_phases.specs.declared.Access.{Access}
use Rattle.collector_phases.specs.declared.Access.TheVariants.{WriteByte, ReadByte, ReadWord}
use Rattle.collector_phases.specs.declared.Collector.{Collector}
use Rattle.collector_settings.specs.declared.Settings.{Settings}
use Rattle.collector_phases.specs.declared.Phase.{Phase}
use Rattle.collector_phases.specs.declared.Phase.TheVariants.{Stop, Poll, Range, Clear, Low, High, Go, Look, Take, Drain, Stuck, Unknown}
use Rattle.collector_phases.specs.Phases.{phase_of, access_in}
use Rattle.collector_phases.specs.Fit.{FitCollector}
use Rattle.collector_phases.specs.Accesses.{access_of}
use Rattle.collector.specs.Steps.{access-fit}

-- ---- only the phase Look reads offset 7, only Poll reads 8, and only Stop writes 0 to 9
abbrev place : Result Access Refusal → ℕ
place (Ok (WriteByte o v)) = if eqb o 9 && eqb v 0 then 3 else 0
place (Ok (ReadByte o)) = if eqb o 7 then 1 else if eqb o 8 then 2 else 0
place (Ok (ReadWord o)) = 0
place (Err e) = 0

abbrev pub Told : Result Access Refusal → Phase → Type 0
Told x p = by (place x)
  where
    by : ℕ → Type 0
    by zero = Unit {0}
    by (suc zero) = p ≡ Look
    by (suc (suc zero)) = p ≡ Poll
    by (suc (suc (suc n))) = p ≡ Stop

told_in : (p : Phase) (s : Settings) → Told (access_in p s) p
told_in Stop s = refl
told_in Poll s = refl
told_in Range s = tt
told_in Clear s = tt
told_in Low s = tt
told_in High s = tt
told_in Go s = by (eqb s.clock 0)
  where
    by : (external : Bool) → Told (Ok (WriteByte 9 (if external then 2 else 3))) Go
    by true = tt
    by false = tt
told_in Look s = refl
told_in Take s = tt
told_in Drain s = tt
told_in Stuck s = tt
told_in Unknown s = tt

-- the phase of a fit collector that makes the access x
pub phase-told : (c : Collector) (x : Result Access Refusal) → FitCollector c → access_of c ≡ x → Told x (phase_of c.phase)
phase-told c x f e =
    subst (λ (y : Result Access Refusal). Told y (phase_of c.phase)) (sym (access-fit c f) ∙ e) (told_in (phase_of c.phase) c.settings)
