-- `counter_bytes::is_working` meets its contract. Assumes nothing.
use mathlib.Core.Path.{refl, ap, ◌∙◌}
use mathlib.Core.Bool.{Bool, ◌&&◌}
use mathlib.Core.List.{[], ◌∷◌}
use native.Mathlib.Omega.{arith}
use lib.Dec.{leb}
use Rattle.base.specs.Beside.{in_byte, within}
use Rattle.counter_bytes.proofs.is_working.Goals as goal

pub returns : goal.returns
returns c =
    let s = c.args.s in
    ap (λ (t : Bool). t && leb s.halfwritten 1)
    (within (in_byte 1 s.latched ∷ in_byte 1 s.halfread ∷ []) (omega arith) (c.join_bytes.ensures ∙ omega arith) refl)
