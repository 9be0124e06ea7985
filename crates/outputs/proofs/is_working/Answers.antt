-- `outputs::is_working` meets its contract. Assumes nothing.
use mathlib.Core.Path.{refl, ap, ap₂, ◌∙◌}
use mathlib.Core.Bool.{Bool, ◌&&◌}
use mathlib.Core.List.{List, [], ◌∷◌}
use native.Mathlib.Omega.{arith}
use lib.Dec.{leb}
use Rattle.base.specs.Beside.{Field, in_byte, in_word, in_range, within}
use Rattle.base.specs.Tests.{all_append}
use Rattle.outputs.proofs.is_working.Goals as goal

pub returns : goal.returns
returns c =
    let o = c.args.o in
    let codes : List Field = in_word 12 o.codes.out0 ∷ in_word 12 o.codes.out1 ∷ in_word 12 o.codes.out2 ∷ in_word 12 o.codes.out3 ∷ [] in
    let load : List Field = in_byte 1 o.load.loaded ∷ in_byte 2 o.load.channel ∷ in_word 12 o.load.code ∷ [] in
    ap (λ (t : Bool). t && leb o.busy 100)
    (ap₂ ◌&&◌
    (within codes (omega arith) (c.join_longs-codes.ensures ∙ omega arith) refl)
    (within load (omega arith) (c.join_words-load.ensures ∙ omega arith) refl)
    ∙ all_append (in_range codes) (in_range load))
