-- `counter_element::is_working` meets its contract. Assumes nothing.
use Rattle.std.proofs.Common.{[], ◌∷◌, refl, ◌∙◌, arith}
use Rattle.base.specs.Beside.{in_byte, in_word, within}
use Rattle.counter_element.proofs.is_working.Goals as goal

pub returns : goal.returns
returns c =
    let k = c.args.k in
    within (in_byte 1 k.out ∷ in_byte 1 k.waiting ∷ in_word 1 k.loaded ∷ []) (omega arith) (c.join_words.ensures ∙ omega arith) refl
