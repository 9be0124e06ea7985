-- What holds of signals, and of the bytes of a count, in every mode.
use Rattle.std.specs.Prelude.{◌≡◌, ℕ, zero, suc, ◌+◌, ◌*◌, ◌<◌, Bool, true, false, List, [], ◌∷◌, ◌==◌, refl, if◌then◌else◌}
use Rattle.std.proofs.Common.{arith, ap, ◌∙◌, eqb-true}
use Rattle.std.proofs.lemmas.Bool.{eqb-false}
use Rattle.base.specs.Flags.{on}
use Rattle.counter_modes.specs.Control.{command}
use Rattle.counter_modes.specs.declared.ControlCommand.TheVariants.{Program}
use Rattle.counter_modes.specs.declared.Mode.{Mode}
use Rattle.counter_modes.specs.declared.Format.{Format}
use Rattle.counter_modes.specs.declared.Format.TheVariants.{LeastByte, MostByte, TwoBytes}
use Rattle.counter_element.specs.Element.{down}
use Rattle.counter_bytes.specs.Bytes.{piece_of, bytes_after}
use Rattle.counter_bytes.specs.declared.Piece.TheVariants.{First, Whole}
use Rattle.counter_bytes.specs.declared.Bus.{Bus}
use Rattle.counter_one.specs.Counter.{programmed, commanded, pulsed, gate_moved}
use Rattle.counter_one.specs.Pulsed.{control-pulsed, bus-pulsed, control-gated, bus-gated}
use Rattle.counter_one.specs.declared.Counter.{Counter}
use Rattle.counter_pulses.specs.Pulses.{pulses}
use Rattle.counter_pulses.specs.Signals.{Signal, clk, gate, initial_count, after_signals, high_pulses, clks}

-- ---- N is one more than a count down from it
pub initial_down : (n : ℕ) → n < 65536 → initial_count n ≡ suc (down n)
initial_down n h = by (n == 0) refl
  where
    by : (x : Bool) → (n == 0) ≡ x → (if x then 65536 else n) ≡ suc (down n)
    by true e = let z = eqb-true n 0 e in omega arith
    by false e = let z : n ≡ 0 → ⊥ = eqb-false n 0 e in omega arith

-- ---- pulses at one level are signals
pub pulses-after : (p : ℕ) (k : Counter) (g : Bool) → pulses p k g ≡ after_signals k g (clks p)
pulses-after zero k g = refl
pulses-after (suc p) k g = pulses-after p (pulsed k g) g

pub all-high : (p : ℕ) → high_pulses true (clks p) ≡ p
all-high zero = refl
all-high (suc p) = ap suc (all-high p)

-- ---- what signals leave of any counter
pub control-after : (c : Counter) (g : Bool) (x : List Signal) → (after_signals c g x).control ≡ c.control
control-after c g [] = refl
control-after c g (clk ∷ x) = control-after (pulsed c g) g x ∙ control-pulsed c g
control-after c g (gate h ∷ x) = control-after (gate_moved c g h) h x ∙ control-gated c g h

pub control-pulses : (p : ℕ) (c : Counter) (g : Bool) → (pulses p c g).control ≡ c.control
control-pulses p c g = ap (λ (d : Counter). d.control) (pulses-after p c g) ∙ control-after c g (clks p)

pub bus-after : (c : Counter) (g : Bool) (x : List Signal) → (after_signals c g x).bus ≡ c.bus
bus-after c g [] = refl
bus-after c g (clk ∷ x) = bus-after (pulsed c g) g x ∙ bus-pulsed c g
bus-after c g (gate h ∷ x) = bus-after (gate_moved c g h) h x ∙ bus-gated c g h

-- ---- a control word
pub commanded-anew : (c : Counter) (w : ℕ) {f : Format} {m : Mode} → command w ≡ Program f m → commanded c w ≡ programmed w m
unfolding commanded
commanded-anew c w e = rw e

-- ---- the byte after the first of two is the most significant one
pub second-whole : (f : Format) (s : Bus) (b c : ℕ) → piece_of f s b ≡ First b → piece_of f (bytes_after s (First b)) c ≡ Whole (b + c * 256)
second-whole LeastByte s b c q = cc
second-whole MostByte s b c q = cc
second-whole TwoBytes s b c q = refl

-- ---- a count of bytes is a number of 16 bits
pub whole_word : (f : Format) (s : Bus) (b n : ℕ) → piece_of f s b ≡ Whole n → s.first < 256 → b < 256 → n < 65536
whole_word LeastByte s b n q k l = let e : b ≡ n = cc in omega arith
whole_word MostByte s b n q k l = let e : b * 256 ≡ n = cc in omega arith
whole_word TwoBytes s b n q k l = by (on s.halfwritten) q
  where
    by : (h : Bool) → (if h then Whole (s.first + b * 256) else First b) ≡ Whole n → n < 65536
    by true q = let e : s.first + b * 256 ≡ n = cc in omega arith
    by false q = absurd (let z : ◌≡◌ {A = ℕ} 0 1 = cc in omega arith)
