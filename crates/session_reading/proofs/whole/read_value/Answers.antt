-- `session_reading::whole::read_value` meets its contract. Assumes nothing.
use Rattle.std.proofs.Common.{arith, sym, ◌∙◌}
use Rattle.session_reading.proofs.Usual.{hex_small, value_found}
use Rattle.session_reading.proofs.whole.read_value.Goals as goal

pub overflow_mul-result : goal.overflow_mul-result
overflow_mul-result c = let h = hex_small _ (sym c.hex_of-high.ensures ∙ c.in-Some-Some-eq10.is-0) in omega arith

pub overflow_add-result : goal.overflow_add-result
overflow_add-result c =
    let h = hex_small _ (sym c.hex_of-high.ensures ∙ c.in-Some-Some-eq10.is-0) in
    let l = hex_small _ (sym c.hex_of-low.ensures ∙ c.in-Some-Some-eq10.is-1) in
    omega arith

pub returns-in-Some-Some-eq10 : goal.returns-in-Some-Some-eq10
returns-in-Some-Some-eq10 c =
    value_found c.if-piece-from-gt2.true (sym c.hex_of-high.ensures ∙ c.in-Some-Some-eq10.is-0)
    (sym c.hex_of-low.ensures ∙ c.in-Some-Some-eq10.is-1) c.in-Some-Some-eq10.is-2
