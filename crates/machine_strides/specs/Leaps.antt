-- Ticks that are taken at once: those in which counts alone move, and whole periods of counter 1.
use Rattle.std.specs.Prelude.{ℕ, ◌*◌, ◌≤◌, ◌≡◌}
use Rattle.std.proofs.Common.{arith, sym, ◌∙◌}
use Rattle.std.proofs.Math.Path.{ap, subst}
use Rattle.std.proofs.Math.Bool.{false}
use Rattle.base.specs.Fields.{bit}
use Rattle.timer.specs.declared.Gates.{Gates}
use Rattle.machine_record.specs.Working.{WorkingClocks}
use Rattle.machine_record.specs.declared.Clocks.{Clocks}
use Rattle.counter_pulses.specs.Pulses.{pulses, quiet_pulses, leapt_counter, leaps, Calm, quiet_calm}
use Rattle.counter_pulses.specs.Periods.{falls, calm-falls, Trip, period}
use Rattle.machine_strides.specs.Lines.{reach_in, stretched, within, spans}
use Rattle.machine_strides.specs.Strides.{Skips}
use Rattle.machine_strides.specs.Cascades.{ticks0, ticks1, ticks2, placed, cascaded_by, same_counters, silent_ticks}

-- ---- how far counter 0, and counter 1, count without a change of OUT
abbrev pub reach0 : ℕ → Gates → Clocks → ℕ
reach0 c g l = reach_in (bit c 1) (bit c 6) 1000 l.thousand (quiet_pulses l.timer.counter0 g.gate0)

abbrev pub reach1 : ℕ → Gates → Clocks → ℕ
reach1 c g l = reach_in false (bit c 7) 100 l.hundred (quiet_pulses l.timer.counter1 g.gate12)

-- ---- j ticks in which counts alone move
unfoldable pub leapt : ℕ → Gates → ℕ → Clocks → Clocks
leapt c g j l =
    placed j l
    (leapt_counter (ticks0 c j l) l.timer.counter0 g.gate0)
    (leapt_counter (ticks1 c j l) l.timer.counter1 g.gate12)
    l.timer.counter2

-- ---- n whole periods of counter 1, in j ticks: it is where it was, and counter 2 has counted n
abbrev pub spanned : ℕ → Gates → ℕ → Clocks → ℕ
spanned c g n l = n * stretched (bit c 7) 100 (period l.timer.counter1 g.gate12)

unfoldable pub cycled : ℕ → Gates → ℕ → ℕ → Clocks → Clocks
cycled c g n j l =
    placed j l
    (leapt_counter (ticks0 c j l) l.timer.counter0 g.gate0)
    l.timer.counter1
    (leapt_counter n l.timer.counter2 g.gate12)

module _ (c : ℕ) (g : Gates) (l : Clocks) (w : WorkingClocks l) (j : ℕ) (near : j ≤ reach0 c g l) where
  few_0 : ticks0 c j l ≤ quiet_pulses l.timer.counter0 g.gate0
  few_0 = within 999 l.thousand w.thousand (bit c 1) (bit c 6) _ j near

  calm_0 : Calm (ticks0 c j l) l.timer.counter0 g.gate0
  calm_0 = quiet_calm _ _ _ w.timer.counter0 few_0

  pub leaps_0 : pulses (ticks0 c j l) l.timer.counter0 g.gate0 ≡ leapt_counter (ticks0 c j l) l.timer.counter0 g.gate0
  leaps_0 = leaps _ _ _ w.timer.counter0 few_0

  pub leap_skips : j ≤ reach1 c g l → Skips c g j l (leapt c g j l)
  unfolding leapt
  leap_skips h =
      let k1 = l.timer.counter1 in
      let k2 = l.timer.counter2 in
      let g1 = g.gate12 in
      let p1 = within 99 l.hundred w.hundred false (bit c 7) (quiet_pulses k1 g1) j h in
      let e2 : ticks2 c g j l ≡ 0 = calm-falls g1 (ticks1 c j l) k1 (quiet_calm _ _ _ w.timer.counter1 p1) in
      let e : cascaded_by c g j l ≡ leapt c g j l =
      same_counters j l leaps_0 (leaps _ _ _ w.timer.counter1 p1) (ap (λ (p : ℕ). pulses p k2 g1) e2) in
      let z : Calm 0 k2 g1 = λ q i. absurd (omega arith) in
      subst (Skips c g j l) e (silent_ticks c g j l (w.hundred, w.thousand) calm_0 (subst (λ (p : ℕ). Calm p k2 g1) (sym e2) z))

  pub cycle_skips : (n : ℕ) → j ≡ spanned c g n l
      → Trip g.gate12 (n * period l.timer.counter1 g.gate12) n l.timer.counter1 l.timer.counter1
      → n ≤ quiet_pulses l.timer.counter2 g.gate12
      → Skips c g j l (cycled c g n j l)
  unfolding cycled
  cycle_skips n s t q =
      let k1 = l.timer.counter1 in
      let k2 = l.timer.counter2 in
      let g1 = g.gate12 in
      let e1 : ticks1 c j l ≡ n * period k1 g1 = ap (λ (x : ℕ). ticks1 c x l) s ∙ spans 99 l.hundred w.hundred (bit c 7) n (period k1 g1) in
      let e2 : ticks2 c g j l ≡ n = ap (λ (x : ℕ). falls x k1 g1) e1 ∙ t.fallen in
      let e : cascaded_by c g j l ≡ cycled c g n j l =
      same_counters j l leaps_0 (ap (λ (x : ℕ). pulses x k1 g1) e1 ∙ t.to)
      (ap (λ (x : ℕ). pulses x k2 g1) e2 ∙ leaps n k2 g1 w.timer.counter2 q) in
      subst (Skips c g j l) e
      (silent_ticks c g j l (w.hundred, w.thousand) calm_0 (subst (λ (x : ℕ). Calm x k2 g1) (sym e2) (quiet_calm n k2 g1 w.timer.counter2 q)))
