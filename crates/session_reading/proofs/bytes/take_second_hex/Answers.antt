-- `session_reading::bytes::take_second_hex` meets its contract. Assumes nothing.
use Rattle.std.proofs.Common.{arith, sym, ◌∙◌}
use Rattle.session_reading.proofs.Usual.{hex_small}
use Rattle.session_reading.proofs.bytes.take_second_hex.Goals as goal

pub overflow_add-result : goal.overflow_add-result
overflow_add-result c = let h = hex_small _ (sym c.hex_of.ensures ∙ c.in-Some.is) in omega arith
