-- The ways out of a tick of the clocks, over plain values: counter 1 has no pulse, or one in which OUT1 stays or falls. Assumes nothing.
use Prim.Native.Nat.{ℕ}
use mathlib.Core.Path.{◌≡◌, sym, ap, ◌∙◌}
use mathlib.Core.Bool.{Bool, true, false}
use Rattle.base.specs.Flags.{on}
use Rattle.counter_one.specs.Counter.{pulsed}
use Rattle.counter_one.specs.declared.Counter.{Counter}
use Rattle.counter_one.specs.Falls.{fell, no_fall}
use Rattle.timer.specs.Timer.{out}
use Rattle.timer.specs.declared.Gates.{Gates}
use Rattle.timer.specs.declared.Select.TheVariants.{Counter1}
use Rattle.machine_record.specs.declared.Clocks.{Clocks}
use Rattle.machine_tick.specs.Tick.{clock0, clock1, next_tick}
use Rattle.machine_tick.specs.InPlace.{pulsed_if, clocks_ticked}

abbrev made : Counter → Counter → Counter → ℕ → ℕ → Clocks
made k0 k1 k2 h th = record { timer = record { counter0 = k0; counter1 = k1; counter2 = k2 }; hundred = h; thousand = th }

module _ (l : Clocks) (c : ℕ) (g : Gates) {h th : ℕ} {p0 p1 : Bool} {k0 : Counter} (h≡ : h ≡ next_tick l.hundred 99) (th≡ : th ≡ next_tick l.thousand 999)
    (p0≡ : p0 ≡ clock0 c th) (k0≡ : k0 ≡ pulsed_if p0 l.timer.counter0 g.gate0) (p1≡ : p1 ≡ clock1 c h) where
  clocks : {t : Bool} → p1 ≡ t → clock1 c (next_tick l.hundred 99) ≡ t
  clocks j = ap (clock1 c) (sym h≡) ∙ sym p1≡ ∙ j

  pub rests : p1 ≡ false → made k0 l.timer.counter1 l.timer.counter2 h th ≡ clocks_ticked c g l
  unfolding clocks_ticked
  rests j = rw (clocks j, no_fall (out l.timer Counter1), k0≡, p0≡, th≡, h≡)

  module _ {k1 : Counter} {f : Bool} (j : p1 ≡ true) (k1≡ : k1 ≡ pulsed l.timer.counter1 g.gate12)
      (f≡ : f ≡ fell (out l.timer Counter1) (on k1.count.out)) where
    fallen : {t : Bool} → f ≡ t → fell (out l.timer Counter1) (on (pulsed l.timer.counter1 g.gate12).count.out) ≡ t
    fallen t = ap (λ (x : Counter). fell (out l.timer Counter1) (on x.count.out)) (sym k1≡) ∙ sym f≡ ∙ t

    pub stays : f ≡ false → made k0 k1 l.timer.counter2 h th ≡ clocks_ticked c g l
    unfolding clocks_ticked
    stays t = rw (clocks j, fallen t, k1≡, k0≡, p0≡, th≡, h≡)

    pub falls : {k2 : Counter} → f ≡ true → k2 ≡ pulsed l.timer.counter2 g.gate12 → made k0 k1 k2 h th ≡ clocks_ticked c g l
    unfolding clocks_ticked
    falls t k2≡ = rw (clocks j, fallen t, k2≡, k1≡, k0≡, p0≡, th≡, h≡)
