-- Theorems that rest on theorems of specs/ModeZero.antt, and promise as those do. What specs/ModeZero.antt says of itself:
-- Mode 0 over any number of CLK pulses. Data sheet (manual, chapter 19), "Mode 0: Interrupt on Terminal Count". What is said holds of every counter that is
-- programmed in mode 0, with any count, flags and bytes before: nothing else is asked of it. A count n of bytes is a number of 16 bits (SignalLaws,
-- whole_word).
use Rattle.std.specs.Prelude.{◌≡◌, ℕ, ◌+◌, ◌*◌, ◌<◌, Bool, true, false, leb, List, ◌∷◌, nat_le, nat_lt, refl, Some}
use Rattle.std.proofs.Common.{arith, sym, ap, ◌∙◌}
use Rattle.base.specs.Flags.{on}
use Rattle.counter_modes.specs.Control.{setup_of}
use Rattle.counter_modes.specs.declared.Mode.TheVariants.{TerminalCount}
use Rattle.counter_modes.specs.declared.Format.{Format}
use Rattle.counter_bytes.specs.Bytes.{piece_of, bytes_after}
use Rattle.counter_bytes.specs.declared.Bus.{Bus}
use Rattle.counter_bytes.specs.declared.Piece.TheVariants.{First, Whole}
use Rattle.counter_one.specs.Counter.{byte_written}
use Rattle.counter_one.specs.declared.Counter.{Counter}
use Rattle.counter_pulses.specs.Pulses.{pulses}
use Rattle.counter_pulses.specs.Signals.{Signal, clk, gate, initial_count, after_signals, high_pulses_later, clks}
use Rattle.counter_pulses.specs.SignalLaws.{initial_down, pulses-after, all-high, control-after, bus-after, second-whole}
use Rattle.counter_pulses.proofs.SignalLaws.{beyond}
use Rattle.counter_pulses.specs.ModeZeroLaws.{whole-written, first-written}
use Rattle.counter_pulses.proofs.ModeZeroLaws.{out-loaded}

module _ (k : Counter) {f : Format} (at : setup_of k.control ≡ Some (f, TerminalCount)) where
  -- The byte b makes the count n whole, and any signals follow. "the initial count will be loaded on the next CLK pulse", also "while GATE = 0"; "GATE = 1
  -- enables counting; GATE = 0 disables counting. GATE has no effect on OUT": OUT is low until N of the CLK pulses after that one had GATE high. "OUT then
  -- goes high and remains high until a new count or a new Mode 0 Control Word is written".
  pub out-after_signals : (b n : ℕ) → piece_of f k.bus b ≡ Whole n → n < 65536 → (g : Bool) (x : List Signal)
      → on (after_signals (byte_written k b) g x).count.out ≡ nat_le (initial_count n) (high_pulses_later g x)
  out-after_signals b n q l g x =
      let s = bytes_after k.bus (Whole n) in
      ap (λ (c : Counter). on (after_signals c g x).count.out) (whole-written k at b q)
      ∙ out-loaded k at s n refl k.trigger k.count.element k.count.loaded g x
      ∙ ap (λ (y : ℕ). leb y (high_pulses_later g x)) (sym (initial_down n l))

  -- "for an initial count of N, OUT does not go high until N + 1 CLK pulses after the initial count is written": with GATE high it is low after p pulses where
  -- p is N at most, and high after every p beyond, however far the count runs on.
  pub out-after_pulses : (b n : ℕ) → piece_of f k.bus b ≡ Whole n → n < 65536 → (p : ℕ)
      → on (pulses p (byte_written k b) true).count.out ≡ nat_lt (initial_count n) p
  out-after_pulses b n q l p =
      ap (λ (c : Counter). on c.count.out) (pulses-after p (byte_written k b) true) ∙ out-after_signals b n q l true (clks p)
      ∙ beyond (initial_count n) p (omega (arith, initial_down n l))

  -- "If an initial count is written while GATE = 0, it will still be loaded on the next CLK pulse. When GATE goes high, OUT will go high N CLK pulses later"
  pub out-after_gate : (b n : ℕ) → piece_of f k.bus b ≡ Whole n → n < 65536 → (p : ℕ)
      → on (after_signals (byte_written k b) false (clk ∷ gate true ∷ clks p)).count.out ≡ nat_le (initial_count n) p
  out-after_gate b n q l p = out-after_signals b n q l false (clk ∷ gate true ∷ clks p) ∙ ap (leb (initial_count n)) (all-high p)

-- "Writing the second byte allows the new count to be loaded on the next CLK pulse. ... Again OUT does not go high until N + 1 CLK pulses after the new count
-- of N is written", whatever signals came between the two bytes.
pub two_bytes : (k : Counter) {f : Format} → setup_of k.control ≡ Some (f, TerminalCount) → (b c : ℕ) → piece_of f k.bus b ≡ First b
    → b + c * 256 < 65536 → (g h : Bool) (x y : List Signal)
    → on (after_signals (byte_written (after_signals (byte_written k b) g x) c) h y).count.out ≡ nat_le (initial_count (b + c * 256)) (high_pulses_later h y)
two_bytes k {f} at b c q l g h x y =
    let d = after_signals (byte_written k b) g x in
    let w = first-written k at b q in
    let i : setup_of d.control ≡ Some (f, TerminalCount) = ap setup_of (control-after (byte_written k b) g x ∙ ap (λ (e : Counter). e.control) w) ∙ at in
    let s : d.bus ≡ bytes_after k.bus (First b) = bus-after (byte_written k b) g x ∙ ap (λ (e : Counter). e.bus) w in
    out-after_signals d i c (b + c * 256) (ap (λ (e : Bus). piece_of f e c) s ∙ second-whole f k.bus b c q) l h y
