-- `session_feed::feed` meets its contract: i bytes of the piece are taken. Assumes nothing.
use Rattle.session_feed.proofs.Feeding.{fed_none, fed_more, fed_all, fed_full}
use Rattle.session_feed.proofs.feed.Goals as goal

pub loop-i-init : goal.loop-i-init
loop-i-init c = fed_none _ _ _ _ _

pub returns-then-out-at-lt64 : goal.returns-then-out-at-lt64
returns-then-out-at-lt64 c = fed_full c.loop-i.invariant c.if-out-at-lt64.true

pub loop-i-preserved : goal.loop-i-preserved
loop-i-preserved c = fed_more c.loop-i.invariant c.if-out-at-lt64.false c.advance-fed.auto.out c.advance-fed.ensures

pub returns : goal.returns
returns c = fed_all c.loop-i.invariant c.loop-i-test.false
