-- `session_answers::put_event` meets its contract. Assumes nothing.
use Rattle.std.proofs.Common.{arith}
use Rattle.session_text.proofs.Writing.{wrote_then, decimal_length}
use Rattle.session_answers.specs.Answers.{event_text}
use Rattle.session_answers.proofs.Lengths.{answer_length, irq_length}
use Rattle.session_answers.proofs.put_event.Goals as goal

pub put_answer-second-requires : goal.put_answer-second-requires
put_answer-second-requires c = omega (arith, decimal_length c.args.number)

pub put_irq-third-requires : goal.put_irq-third-requires
put_irq-third-requires c = omega (arith, decimal_length c.args.number, answer_length c.args.answer)

pub copy-requires : goal.copy-requires
copy-requires c = omega (arith, decimal_length c.args.number, answer_length c.args.answer, irq_length c.args.raised)

pub returns : goal.returns
unfolding event_text
returns c =
    wrote_then c.put_decimal-first.ensures (wrote_then c.put_answer-second.ensures (wrote_then c.put_irq-third.ensures c.copy.ensures))
