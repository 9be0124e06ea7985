-- Mode 0 over any number of CLK pulses. Data sheet (manual, chapter 19), "Mode 0: Interrupt on Terminal Count". What is said holds of every counter that is
-- programmed in mode 0, with any count, flags and bytes before: nothing else is asked of it. A count n of bytes is a number of 16 bits (SignalLaws,
-- whole_word).
use Rattle.std.specs.Prelude.{◌≡◌, ℕ, Bool, false, ◌&&◌, List, refl, if◌then◌else◌, Some}
use Rattle.std.proofs.Common.{ap, ◌∙◌}
use Rattle.std.proofs.Math.Path.{subst⁻¹}
use Rattle.base.specs.Flags.{on}
use Rattle.counter_modes.specs.Control.{command, setup_of}
use Rattle.counter_modes.specs.declared.ControlCommand.TheVariants.{Program}
use Rattle.counter_modes.specs.declared.Mode.TheVariants.{TerminalCount}
use Rattle.counter_modes.specs.declared.Format.{Format}
use Rattle.counter_bytes.specs.Bytes.{no_bytes, piece_of, bytes_after}
use Rattle.counter_bytes.specs.declared.Piece.TheVariants.{First}
use Rattle.counter_one.specs.Counter.{programmed, commanded, byte_written}
use Rattle.counter_one.specs.Kept.{setup_programmed}
use Rattle.counter_one.specs.declared.Counter.{Counter}
use Rattle.counter_pulses.specs.Signals.{Signal, after_signals, any_pulse}
use Rattle.counter_pulses.specs.SignalLaws.{commanded-anew}
use Rattle.counter_pulses.specs.ModeZeroLaws.{unloaded, halts, first-written}

-- "After the Control Word is written, OUT is initially low, and will remain low": whatever signals come before a count is written
pub out-after_control : (k : Counter) (w : ℕ) {f : Format} → command w ≡ Program f TerminalCount → (g : Bool) (x : List Signal)
    → on (after_signals (commanded k w) g x).count.out ≡ false
out-after_control k w {f} e g x =
    ap (λ (c : Counter). on (after_signals c g x).count.out) (commanded-anew k w e)
    ∙ ap on (unloaded (programmed w TerminalCount) (setup_programmed w f TerminalCount e) no_bytes 0 0 0 g x)

module _ (k : Counter) {f : Format} (at : setup_of k.control ≡ Some (f, TerminalCount)) where
  -- The first byte of two: "Writing the first byte disables counting. Out is set low immediately". OUT stays low and the count stands whatever signals come; a
  -- whole count that waits as the byte is written is loaded by its CLK pulse all the same.
  pub first-byte_stops : (b : ℕ) → piece_of f k.bus b ≡ First b → (g : Bool) (x : List Signal)
      → (on (after_signals (byte_written k b) g x).count.out ≡ false)
      × ((after_signals (byte_written k b) g x).count.element ≡ (if on k.count.waiting && any_pulse x then k.count.register else k.count.element))
  first-byte_stops b q g x =
      let s = bytes_after k.bus (First b) in
      let w = halts k at s k.count.register refl k.trigger k.count.element k.count.waiting k.count.loaded g x in
      subst⁻¹ (λ (d : Counter). (on (after_signals d g x).count.out ≡ false)
      × ((after_signals d g x).count.element ≡ (if on k.count.waiting && any_pulse x then k.count.register else k.count.element)))
      (first-written k at b q) (ap on w.0, w.1)
