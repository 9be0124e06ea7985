-- `machine_record::pins_work` meets its contract. Assumes nothing.
use mathlib.Core.Path.{refl, ◌∙◌}
use mathlib.Core.List.{[], ◌∷◌}
use native.Mathlib.Omega.{arith}
use Rattle.base.specs.Beside.{in_byte, within}
use Rattle.machine_record.proofs.pins_work.Goals as goal

pub returns : goal.returns
returns c =
    let p = c.args.p in
    let w = c.args.w in
    within
    (in_byte 4 p.din ∷ in_byte 1 p.latch ∷ in_byte 2 w.inputs ∷ in_byte 1 w.zeroscale ∷ [])
    (omega arith)
    (c.join_words.ensures ∙ omega arith)
    refl
