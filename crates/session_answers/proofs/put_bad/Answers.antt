-- `session_answers::put_bad` meets its contract. Assumes nothing.
use Rattle.std.proofs.Common.{arith}
use Rattle.session_text.proofs.Writing.{wrote_then, decimal_length}
use Rattle.session_answers.specs.Answers.{bad_text}
use Rattle.session_answers.proofs.put_bad.Goals as goal

pub copy-requires : goal.copy-requires
copy-requires c = omega (arith, decimal_length c.args.number)

pub returns : goal.returns
unfolding bad_text
returns c = wrote_then c.put_decimal-first.ensures c.copy.ensures
