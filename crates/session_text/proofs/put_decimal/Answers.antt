-- `session_text::put_decimal` meets its contract. Assumes nothing.
use Rattle.session_text.proofs.Writing.{wrote_as, spelled_part}
use Rattle.session_text.proofs.put_decimal.Goals as goal

pub returns : goal.returns
returns c = wrote_as (spelled_part c.spell-spelled.ensures) c.copy.ensures
