-- `session_reading::bytes::read_on` meets its contract: the bytes so far are read, and none is a newline. Assumes nothing.
use borrow.Author.Rules.{rules}
use Rattle.session_reading.proofs.Scanning.{scanned-none, scanned-more, found-newline, found-end}
use Rattle.session_reading.proofs.bytes.read_on.Goals as goal

pub loop-i-init : goal.loop-i-init
loop-i-init c = scanned-none _ _ _ (search rules)

pub returns-then-byte-eq10 : goal.returns-then-byte-eq10
returns-then-byte-eq10 c = found-newline c.loop-i.invariant c.if-byte-eq10.true

pub loop-i-preserved : goal.loop-i-preserved
loop-i-preserved c = scanned-more c.loop-i.invariant c.loop-i-test.true c.if-byte-eq10.false c.take-reading.ensures

pub returns : goal.returns
returns c = found-end c.loop-i.invariant c.loop-i-test.false
