-- The mode by a bit of the control word: bit 2 of one that programs a counter is clear in mode 0 and set in mode 2. Data sheet (manual, chapter
-- 19): "Control Word Format", M2 M1 M0 is 000 in mode 0 and X10 in mode 2.
use Rattle.std.specs.Prelude.{◌≡◌, refl, Bool, true, false, ℕ, ◌/◌, ◌%◌, eqb, if◌then◌else◌, Some}
use Rattle.std.proofs.Common.{arith, eqb-true, eq-eqb, ne_eqb}
use Rattle.base.specs.Fields.{bit}
use Rattle.counter_modes.specs.Control.{command, format_of, setup_by, setup_of}
use Rattle.counter_modes.specs.declared.Mode.{Mode}
use Rattle.counter_modes.specs.declared.Mode.TheVariants.{TerminalCount, RateGenerator}
use Rattle.counter_modes.specs.declared.Format.{Format}
use Rattle.counter_modes.specs.declared.ControlCommand.TheVariants.{LatchCount, Program, NotModelled}

-- the mode, where bit 2 is set and where it is clear
abbrev pub mode_by : Bool → Mode
mode_by true = RateGenerator
mode_by false = TerminalCount

-- whether it is set in a control word
abbrev pub rate : ℕ → Bool
rate w = bit w 2

-- it tells the mode of every control word that programs a counter
pub mode_bit : (w : ℕ) (f : Format) (m : Mode) → setup_of w ≡ Some (f, m) → m ≡ mode_by (rate w)
unfolding setup_of command
mode_bit w f m = go (eqb (w / 16 % 4) 0) (eqb (w / 1 % 2) 1) (eqb (w / 2 % 8) 0) (eqb (w / 2 % 8 % 4) 2) refl refl
  where
    go : (a b t r : Bool) → eqb (w / 2 % 8) 0 ≡ t → eqb (w / 2 % 8 % 4) 2 ≡ r
        → setup_by (if a then LatchCount else if b then NotModelled else if t then Program (format_of (w / 16 % 4)) TerminalCount
        else if r then Program (format_of (w / 16 % 4)) RateGenerator else NotModelled) ≡ Some (f, m)
        → m ≡ mode_by (rate w)
    go true b t r p q e = cc
    go false true t r p q e = cc
    go false false true r p q e =
        let z : w / 2 % 8 ≡ 0 = eqb-true (w / 2 % 8) 0 p in
        let n : rate w ≡ false = ne_eqb (w / 4 % 2) 1 (λ o. omega arith) in
        rw n (grind arith)
    go false false false true p q e =
        let z : w / 2 % 8 % 4 ≡ 2 = eqb-true (w / 2 % 8 % 4) 2 q in
        let n : rate w ≡ true = eq-eqb (w / 4 % 2) 1 (omega arith) in
        rw n (grind arith)
    go false false false false p q e = cc
