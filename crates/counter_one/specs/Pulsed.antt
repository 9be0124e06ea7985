-- What a CLK pulse leaves of any counter: its control bits, the count to load, and what the bus has written and read of it. A move of GATE leaves them too.
use Rattle.std.specs.Prelude.{◌≡◌, Bool, ◌==◌, refl}
use Rattle.base.specs.Flags.{on}
use Rattle.base.specs.Laws.{by_choice}
use Rattle.counter_modes.specs.Control.{setup_of}
use Rattle.counter_modes.specs.declared.Mode.{Mode}
use Rattle.counter_modes.specs.declared.Mode.TheVariants.{TerminalCount, RateGenerator}
use Rattle.counter_element.specs.Element.{pulse_loads, pulse_counts, pulse_taken, counted_by}
use Rattle.counter_element.specs.declared.Count.{Count}
use Rattle.counter_one.specs.BySetup.{by_setup}
use Rattle.counter_one.specs.Counter.{pulsed_as, pulsed, gate_moved_as, gate_moved}
use Rattle.counter_one.specs.declared.Counter.{Counter}

register-counted : (m : Mode) (k : Count) → (counted_by m k).register ≡ k.register
unfolding counted_by
register-counted TerminalCount k = refl
register-counted RateGenerator k = by_choice (λ (n : Count). n.register ≡ k.register) (k.element == 1) refl refl

pub register-taken : (m : Mode) (gate trigger half : Bool) (k : Count) → (pulse_taken m gate trigger half k).register ≡ k.register
register-taken m gate trigger half k =
    let P : Count → Type 0 = λ (n : Count). n.register ≡ k.register in
    by_choice P (pulse_loads m trigger k) refl (by_choice P (pulse_counts m gate half k) (register-counted m k) refl)

pub control-pulsed : (c : Counter) (gate : Bool) → (pulsed c gate).control ≡ c.control
unfolding pulsed
control-pulsed c gate = by_setup (λ s. (pulsed_as s c gate).control ≡ c.control) (setup_of c.control) (λ e. refl) (λ f m e. refl)

pub register-pulsed : (c : Counter) (gate : Bool) → (pulsed c gate).count.register ≡ c.count.register
unfolding pulsed
register-pulsed c gate =
    by_setup (λ s. (pulsed_as s c gate).count.register ≡ c.count.register) (setup_of c.control) (λ e. refl)
    (λ f m e. register-taken m gate (on c.trigger) (on c.bus.halfwritten) c.count)

pub bus-pulsed : (c : Counter) (gate : Bool) → (pulsed c gate).bus ≡ c.bus
unfolding pulsed
bus-pulsed c gate = by_setup (λ s. (pulsed_as s c gate).bus ≡ c.bus) (setup_of c.control) (λ e. refl) (λ f m e. refl)

pub control-gated : (c : Counter) (was is : Bool) → (gate_moved c was is).control ≡ c.control
unfolding gate_moved
control-gated c was is = by_setup (λ s. (gate_moved_as s c was is).control ≡ c.control) (setup_of c.control) (λ e. refl) (λ f m e. refl)

pub register-gated : (c : Counter) (was is : Bool) → (gate_moved c was is).count.register ≡ c.count.register
unfolding gate_moved
register-gated c was is = by_setup (λ s. (gate_moved_as s c was is).count.register ≡ c.count.register) (setup_of c.control) (λ e. refl) (λ f m e. refl)

pub bus-gated : (c : Counter) (was is : Bool) → (gate_moved c was is).bus ≡ c.bus
unfolding gate_moved
bus-gated c was is = by_setup (λ s. (gate_moved_as s c was is).bus ≡ c.bus) (setup_of c.control) (λ e. refl) (λ f m e. refl)
