-- `session_text::put_word` meets its contract. Assumes nothing.
use Rattle.session_text.proofs.Writing.{wrote_as}
use Rattle.session_text.proofs.put_word.Goals as goal

pub returns : goal.returns
returns c =
    wrote_as
    (simp (
      c.hex_digit-4.ensures,
      c.hex_digit-3.ensures,
      c.hex_digit-2.ensures,
      c.hex_digit.ensures,
    )) c.copy.ensures
