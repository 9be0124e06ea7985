-- `session_reading::whole::more_digits` meets its contract: the digits so far are read, and the number they make is not 0 and fits 16 bits. Assumes nothing.
use borrow.Author.Rules.{rules}
use Rattle.session_reading.proofs.Usual.{digit_some, growing_none, growing_more, numbered-none, numbered, numbered-end}
use Rattle.session_reading.proofs.whole.more_digits.Goals as goal

pub returns-then-first-eq0 : goal.returns-then-first-eq0
returns-then-first-eq0 c = numbered-none _ _ c.if-first-eq0.true (search rules)

pub loop-i-init : goal.loop-i-init
loop-i-init c = growing_none _ _ _ c.if-first-eq0.false (search rules) (search rules)

pub returns-then-digit-gt9 : goal.returns-then-digit-gt9
returns-then-digit-gt9 c = numbered c.if-first-eq0.false c.loop-i.invariant

pub returns-then-m-gt65535 : goal.returns-then-m-gt65535
returns-then-m-gt65535 c = numbered c.if-first-eq0.false c.loop-i.invariant

pub loop-i-preserved : goal.loop-i-preserved
loop-i-preserved c =
    growing_more c.loop-i.invariant c.loop-i-test.true
    (digit_some _ c.digit_of.ensures c.unwrap_or-digit.ensures c.if-digit-gt9.false) c.if-m-gt65535.false

pub returns : goal.returns
returns c = numbered-end c.if-first-eq0.false c.loop-i.invariant c.loop-i-test.false
