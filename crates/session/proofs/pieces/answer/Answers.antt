use Rattle.std.proofs.Common.{arith, rules}
use Rattle.session_talk.specs.Session.{talk_of}
use Rattle.session.proofs.Parts.{rest-within, rest-taken, talk-none, talk-more}
use Rattle.session.proofs.pieces.answer.Goals as goal

pub loop-from-init : goal.loop-from-init
loop-from-init g c = (omega arith, talk-none _)

pub loop-from-smaller : goal.loop-from-smaller
loop-from-smaller g c =
    let w = rest-within c.args.piece.now c.loop-from.from c.feed-fed.ensures c.loop-from-test.true in
    let t = rest-taken c.args.piece.now c.loop-from.from c.feed-fed.ensures (search rules) c.loop-from-test.true in
    omega arith

pub loop-from-preserved : goal.loop-from-preserved
loop-from-preserved g c = (
  rest-within c.args.piece.now c.loop-from.from c.feed-fed.ensures c.loop-from-test.true,
  talk-more (talk_of c.args.session c.args.memory.now c.args.eeprom.now) c.args.piece.now c.loop-from.from
      c.loop-from.invariant.0 c.loop-from.invariant.1 c.feed-fed.ensures,
)
