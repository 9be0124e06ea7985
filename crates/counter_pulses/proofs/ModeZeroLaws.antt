-- Theorems that rest on theorems of specs/ModeZeroLaws.antt, and promise as those do: a counter in mode 0 with a count that waits.
use Rattle.std.specs.Prelude.{◌≡◌, ℕ, suc, Bool, false, ◌||◌, List, [], ◌∷◌, nat_le, refl, Some}
use Rattle.std.proofs.Common.{sym, ap, ◌∙◌}
use Rattle.std.proofs.Math.Dec.{leb-suc-zero}
use Rattle.base.specs.Flags.{on, flag}
use Rattle.counter_modes.specs.Control.{setup_of}
use Rattle.counter_modes.specs.declared.Mode.TheVariants.{TerminalCount}
use Rattle.counter_modes.specs.declared.Format.{Format}
use Rattle.counter_element.specs.Element.{down}
use Rattle.counter_bytes.specs.declared.Bus.{Bus}
use Rattle.counter_one.specs.declared.Counter.{Counter}
use Rattle.counter_pulses.specs.Signals.{Signal, clk, gate, after_signals, high_pulses_later}
use Rattle.counter_pulses.specs.ModeZeroLaws.{with, gated, loads, out-counted}

module _ (k : Counter) {f : Format} (at : setup_of k.control ≡ Some (f, TerminalCount)) (s : Bus) (r : ℕ) (h : on s.halfwritten ≡ false) where
  -- a count that waits is loaded by the first CLK pulse
  pub out-loaded : (t v l : ℕ) (g : Bool) (x : List Signal)
      → on (after_signals (with k at s r t v 0 1 l) g x).count.out ≡ nat_le (suc (down r)) (high_pulses_later g x)
  out-loaded t v l g [] = sym (leb-suc-zero (down r))
  out-loaded t v l g (clk ∷ x) =
      ap (λ (c : Counter). on (after_signals c g x).count.out) (loads k at s r t v 0 1 l g refl) ∙ out-counted k at s r h 0 r false g x
  out-loaded t v l g (gate i ∷ x) =
      ap (λ (c : Counter). on (after_signals c i x).count.out) (gated k at s r t v false 1 l g i) ∙ out-loaded (flag (on t || false)) v l i x
