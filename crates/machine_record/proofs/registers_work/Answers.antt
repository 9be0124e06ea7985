-- `machine_record::registers_work` meets its contract. Assumes nothing.
use mathlib.Core.Path.{refl, ap, ◌∙◌}
use mathlib.Core.Bool.{Bool, ◌&&◌}
use mathlib.Core.List.{[], ◌∷◌}
use native.Mathlib.Omega.{arith}
use lib.Dec.{leb}
use Rattle.base.specs.Beside.{in_byte, within}
use Rattle.machine_record.proofs.registers_work.Goals as goal

pub returns : goal.returns
returns c =
    let r = c.args.r in
    ap (λ (t : Bool). t && leb r.range 15)
    (within (in_byte 2 r.page ∷ in_byte 3 r.dout ∷ []) (omega arith) (c.join_bytes.ensures ∙ omega arith) refl)
