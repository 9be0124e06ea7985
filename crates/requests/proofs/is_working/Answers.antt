-- `requests::is_working` meets its contract. Assumes nothing.
use mathlib.Core.Path.{refl, ◌∙◌}
use mathlib.Core.List.{[], ◌∷◌}
use native.Mathlib.Omega.{arith}
use Rattle.base.specs.Beside.{in_byte, within}
use Rattle.requests.proofs.is_working.Goals as goal

pub returns : goal.returns
returns c =
    let r = c.args.r in
    within
    (in_byte 1 r.fifoen
    ∷ in_byte 1 r.clksel
    ∷ in_byte 1 r.adinte
    ∷ in_byte 1 r.dinte
    ∷ in_byte 1 r.tinte
    ∷ in_byte 1 r.flags.adint
    ∷ in_byte 1 r.flags.dint
    ∷ in_byte 1 r.flags.tint
    ∷ [])
    (omega arith)
    (c.join_longs.ensures ∙ omega arith)
    refl
