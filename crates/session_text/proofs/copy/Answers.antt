-- `session_text::copy` meets its contract: after i turns the first i bytes of the text stand in `out`. Assumes nothing.
use Rattle.session_text.proofs.Writing.{copied_none, copied_more, copied_all}
use Rattle.session_text.proofs.copy.Goals as goal

pub loop-i-init : goal.loop-i-init
loop-i-init c = copied_none _ _ _

pub loop-i-preserved : goal.loop-i-preserved
loop-i-preserved c = copied_more c.loop-i.invariant c.loop-i-test.true

pub returns : goal.returns
returns c = copied_all c.loop-i.invariant c.loop-i-test.false
