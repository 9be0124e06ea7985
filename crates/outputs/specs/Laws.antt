-- Laws of the outputs: the tests are the facts, each operation keeps them, and what the accesses do to each other.
use Rattle.std.specs.Prelude.{◌≡◌, refl, Bool, true, false, not, ◌&&◌, ℕ, zero, suc, ◌≤◌, ◌<◌, ◌-◌, eqb}
use Rattle.std.proofs.Common.{sym, ◌∙◌, arith, leb-true, le-leb, ne_eqb}
use Rattle.base.specs.Flags.{on}
use Rattle.base.specs.Laws.{by_choice, choice_le}
use Rattle.base.specs.Tests.{each, every}
use Rattle.outputs.specs.declared.Codes.{Codes}
use Rattle.outputs.specs.declared.Outputs.{Outputs}
use Rattle.outputs.specs.Outputs.{code_on, code_after, dacbusy, codes_with, level, lsb_written, msb_written, updated, dac_ticked, reset_to, reset_a, reset_d}
use Rattle.outputs.specs.Working.{WorkingCodes, WorkingOutputs, outputs_tests, is_working_outputs}

-- ---- the tests are the facts
pub outputs_of : (o : Outputs) → is_working_outputs o ≡ true → WorkingOutputs o
outputs_of o h =
    let e = each (outputs_tests o) h in
    record {
      codes = record { out0 = leb-true _ _ e.0; out1 = leb-true _ _ e.1.0; out2 = leb-true _ _ e.1.1.0; out3 = leb-true _ _ e.1.1.1.0 };
      load = record { loaded = leb-true _ _ e.1.1.1.1.0; channel = leb-true _ _ e.1.1.1.1.1.0; code = leb-true _ _ e.1.1.1.1.1.1.0 };
      busy = leb-true _ _ e.1.1.1.1.1.1.1.0;
    }

pub outputs-to : (o : Outputs) → WorkingOutputs o → is_working_outputs o ≡ true
outputs-to o k = every (outputs_tests o) (search (le-leb, arith))

-- ---- each operation keeps them
pub put-works : (k : Codes) (channel code : ℕ) → WorkingCodes k → code ≤ 4095 → WorkingCodes (codes_with k channel code)
put-works k channel code w h = record {
  out0 = choice_le (eqb channel 0) h w.out0;
  out1 = choice_le (eqb channel 1) h w.out1;
  out2 = choice_le (eqb channel 2) h w.out2;
  out3 = choice_le (eqb channel 3) h w.out3;
}

pub lsb-works : (o : Outputs) (v : ℕ) → WorkingOutputs o → WorkingOutputs (lsb_written o v)
lsb-works o v w = record { codes = w.codes; load = w.load; busy = w.busy }

pub msb-works : (o : Outputs) (v : ℕ) → WorkingOutputs o → WorkingOutputs (msb_written o v)
msb-works o v w = record { codes = w.codes; load = record { loaded = omega arith; channel = omega arith; code = omega arith }; busy = omega arith }

pub updated-works : (o : Outputs) → WorkingOutputs o → WorkingOutputs (updated o)
updated-works o w = record {
  codes =
      by_choice WorkingCodes (on o.load.loaded && not (dacbusy o)) (put-works o.codes o.load.channel o.load.code w.codes w.load.code)
      w.codes;
  load = w.load;
  busy = w.busy;
}

pub ticked-works : (o : Outputs) → WorkingOutputs o → WorkingOutputs (dac_ticked o)
ticked-works o w = record { codes = w.codes; load = w.load; busy = omega arith }

pub cleared-works : (k : Codes) → WorkingCodes k → WorkingOutputs (reset_to k)
cleared-works k w = record { codes = w; load = record { loaded = omega arith; channel = omega arith; code = omega arith }; busy = omega arith }

pub reset-a_works : (zero : Bool) → WorkingOutputs (reset_a zero)
reset-a_works true = cleared-works (level 0) (record { out0 = omega arith; out1 = omega arith; out2 = omega arith; out3 = omega arith })
reset-a_works false = cleared-works (level 2048) (record { out0 = omega arith; out1 = omega arith; out2 = omega arith; out3 = omega arith })

pub reset-d_works : (o : Outputs) → WorkingOutputs o → WorkingOutputs (reset_d o)
reset-d_works o w = cleared-works o.codes w.codes

-- ---- what the accesses do to each other
-- the channel that takes a code has it
pub code_of-put : (k : Codes) (n code : ℕ) → n ≤ 3 → code_on (codes_with k n code) n ≡ code
code_of-put k zero code h = refl
code_of-put k (suc zero) code h = refl
code_of-put k (suc (suc zero)) code h = refl
code_of-put k (suc (suc (suc zero))) code h = refl
code_of-put k (suc (suc (suc (suc n)))) code h = absurd (omega arith)

-- and every other channel keeps its own
other : (own old channel code : ℕ) → (channel ≡ own → ⊥) → code_after own old channel code ≡ old
other own old channel code h = simp (ne_eqb _ _ h)

-- there is no channel above 3
code-above : (k : Codes) (m : ℕ) → 3 < m → code_on k m ≡ 0
code-above k m h =
    simp (
      ne_eqb m 0 (λ e. omega arith),
      ne_eqb m 1 (λ e. omega arith),
      ne_eqb m 2 (λ e. omega arith),
      ne_eqb m 3 (λ e. omega arith),
    )

pub code_of-other : (k : Codes) (n m code : ℕ) → (n ≡ m → ⊥) → code_on (codes_with k n code) m ≡ code_on k m
code_of-other k n zero code h = other 0 k.out0 n code h
code_of-other k n (suc zero) code h = other 1 k.out1 n code h
code_of-other k n (suc (suc zero)) code h = other 2 k.out2 n code h
code_of-other k n (suc (suc (suc zero))) code h = other 3 k.out3 n code h
code_of-other k n (suc (suc (suc (suc m)))) code h =
    code-above (codes_with k n code) (suc (suc (suc (suc m)))) (omega arith) ∙ sym (code-above k (suc (suc (suc (suc m)))) (omega arith))

-- some ticks, one after the other
abbrev pub dac_after_ticks : ℕ → Outputs → Outputs
dac_after_ticks zero o = o
dac_after_ticks (suc n) o = dac_ticked (dac_after_ticks n o)

-- DACBUSY is 1 for 100 ticks after a write of Base+5: still after the 99th, no longer after the 100th
pub busy_ticks : (o : Outputs) (n : ℕ) → (dac_after_ticks n o).busy ≡ o.busy - n
busy_ticks o zero = omega arith
busy_ticks o (suc n) = omega (arith, busy_ticks o n)

pub busy_99 : (o : Outputs) (v : ℕ) → dacbusy (dac_after_ticks 99 (msb_written o v)) ≡ true
busy_99 o v = refl

pub busy_100 : (o : Outputs) (v : ℕ) → dacbusy (dac_after_ticks 100 (msb_written o v)) ≡ false
busy_100 o v = refl

-- a write of Base+4 after the load leaves the load
pub load-stays : (o : Outputs) (v w : ℕ) → (lsb_written (msb_written o v) w).load ≡ (msb_written o v).load
load-stays o v w = refl

-- an update leaves the load, so that a second one changes nothing more
pub load_kept : (o : Outputs) → (updated o).load ≡ o.load
load_kept o = refl

-- the manual's example (chapter 14): 205 at Base+4, 76 at Base+5 and, 100 ticks on, an update give channel 1 the code 3277
pub example_14 : (o : Outputs) → code_on (updated (dac_after_ticks 100 (msb_written (lsb_written o 205) 76))).codes 1 ≡ 3277
example_14 o = refl
