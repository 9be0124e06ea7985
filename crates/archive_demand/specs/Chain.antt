-- Samples whose channels follow one another, as the collector counts them. Assumes nothing.
use Rattle.std.specs.Prelude.{ℕ, ◌+◌, ◌≤◌, Bool, true, false, List, [], ◌∷◌, ◌++◌, ◌≡◌, refl, eqb, leb, if◌then◌else◌}
use Rattle.std.proofs.Common.{sym, subst, arith}
use Rattle.std.proofs.lemmas.Bool.{lt-leb}
use Rattle.converter.specs.Channels.{next_channel}
use Rattle.collector_settings.specs.declared.Settings.{Settings}
use Rattle.samples.specs.declared.Sample.{Sample}
use Rattle.collector_phases.specs.Fit.{FitSettings}
use Rattle.collector_records.specs.Records.{follows}
use Rattle.collector.specs.Kept.{follows_to}

-- the channels of l are a, the one that follows a, and so on, each sample has P, and z follows the last
abbrev pub Chain : (Sample → Type 0) → Settings → ℕ → List Sample → ℕ → Type 0
Chain P t a [] z = a ≡ z
Chain P t a (y ∷ ys) z = (y.channel ≡ a) × P y × Chain P t (follows t a) ys z

pub join : (P : Sample → Type 0) (t : Settings) (a m z : ℕ) (l k : List Sample) → Chain P t a l m → Chain P t m k z → Chain P t a (l ++ k) z
join P t a m z [] k p q = subst (λ (n : ℕ). Chain P t n k z) (sym p) q
join P t a m z (y ∷ ys) k p q = (p.0, p.1, join P t (follows t a) m z ys k p.2 q)

pub snoc : (P : Sample → Type 0) (t : Settings) (a z : ℕ) (l : List Sample) (y : Sample) → Chain P t a l z → y.channel ≡ z → P y
    → Chain P t a (l ++ (y ∷ [])) (follows t z)
snoc P t a z l y c e p = join P t a z (follows t z) l (y ∷ []) c (e, p, refl)

-- ---- on a channel of the range the board's selection moves as the collector counts
pub selection_follows : (t : Settings) (n : ℕ) → FitSettings t → n ≤ t.high → next_channel t.low t.high n ≡ follows t n
unfolding next_channel
selection_follows t n f h = by (eqb n t.high) refl
  where
    by : (b : Bool) → eqb n t.high ≡ b
        → (if b then t.low else if leb 31 n then 0 else n + 1) ≡ (if b then t.low else n + 1)
    by true e = refl
    by false e =
        let g : n + 1 ≤ t.high = rw e at (follows_to t n f h) in
        let k : t.high ≤ 31 = f.top in
        rw (lt-leb 31 n (omega arith))
