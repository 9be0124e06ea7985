-- `converter::channels::is_working` meets its contract. Assumes nothing.
use mathlib.Core.Path.{refl, ap, ◌∙◌}
use mathlib.Core.Bool.{Bool, ◌&&◌}
use mathlib.Core.List.{[], ◌∷◌}
use native.Mathlib.Omega.{arith}
use lib.Dec.{leb}
use Rattle.base.specs.Beside.{in_byte, within}
use Rattle.converter.proofs.channels.is_working.Goals as goal

pub returns : goal.returns
returns c =
    let v = c.args.c in
    ap (λ (t : Bool). t && leb v.converting 1 && leb v.scanen 1 && leb v.clken 1)
    (within
    (in_byte 5 v.low ∷ in_byte 5 v.high ∷ in_byte 5 v.selected ∷ in_byte 5 v.channel ∷ [])
    (omega arith)
    (c.join_words-joined.ensures ∙ omega arith)
    refl)
