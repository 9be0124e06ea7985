-- Theorems that rest on theorems of specs/SignalLaws.antt, and promise as those do. What specs/SignalLaws.antt says of itself:
-- What holds of signals, and of the bytes of a count, in every mode.
use Rattle.std.specs.Prelude.{◌≡◌, ℕ, zero, suc, ◌<◌, true, leb, nat_le, nat_lt}
use Rattle.std.proofs.Common.{arith, sym, ap, ◌∙◌, le-ltb}
use Rattle.std.proofs.lemmas.Bool.{lt-leb}
use Rattle.std.proofs.Math.Dec.{leb-suc-suc}
use Rattle.counter_pulses.specs.Signals.{high_pulses_later, clks}
use Rattle.counter_pulses.specs.SignalLaws.{all-high}

-- ---- pulses at one level are signals
-- those after the first reach a count of 1 or more where all of them go beyond it
pub beyond : (n p : ℕ) → 0 < n → nat_le n (high_pulses_later true (clks p)) ≡ nat_lt n p
beyond n zero h = cc (lt-leb n 0 h, le-ltb n 0 (omega arith))
beyond n (suc p) h = ap (leb n) (all-high p) ∙ sym (leb-suc-suc n p)
