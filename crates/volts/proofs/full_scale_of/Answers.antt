-- `volts::full_scale_of` meets its contract: the full scales of `src/` are those of the table, which antt computes. Assumes nothing.
use Rattle.std.proofs.Common.{◌≡◌, refl, List, [], ◌∷◌, map, ℕ, zero, suc, ◌<◌, length, get_or, arith, ◌∙◌}
use Rattle.std.specs.Prelude.{Option, None}
use Rattle.std.specs.Float.Ieee.{of_bits, round}
use Rattle.volts.specs.declared.Scale.{Scale}
use Rattle.volts.specs.Table.{RangeRow, absent, input_ranges}
use Rattle.volts.specs.Volts.{scale_of}
use Rattle.volts.proofs.full_scale_of.Goals as goal

mapped : (rows : List RangeRow) (d : Option Scale) (k : ℕ) → k < length rows → get_or (map scale_of rows) k d ≡ scale_of (get_or rows k absent)
mapped [] d k h = absurd (omega arith)
mapped (r ∷ rs) d zero h = refl
mapped (r ∷ rs) d (suc k) h = mapped rs d k (omega arith)

pub returns : goal.returns
unfolding of_bits round
returns c = let h = c.in_ok-scale.ensures.lookup.3 in h.1 None ∙ mapped input_ranges None c.args.range h.0
