-- `session_text::spell` meets its contract: what is left of the number has still to stand at `from` and before it. Assumes nothing.
use mathlib.Core.Path.{refl}
use lib.ListN.{replicate}
use native.Mathlib.Omega.{arith}
use Rattle.session_text.proofs.Writing.{spelled_none, spelled_room, spelled_more, spelled_all}
use Rattle.session_text.proofs.spell.Goals as goal

pub loop-left-init : goal.loop-left-init
loop-left-init c = spelled_none c.args.n (replicate 20 48) (omega arith) refl

pub overflow_sub-from : goal.overflow_sub-from
overflow_sub-from c = spelled_room c.loop-left.invariant c.loop-left-test.true

pub loop-left-preserved : goal.loop-left-preserved
loop-left-preserved c = spelled_more c.loop-left.invariant c.loop-left-test.true

pub returns : goal.returns
returns c = spelled_all c.loop-left.invariant c.loop-left-test.false
