-- `session_feed::advance` meets its contract. Assumes nothing.
use Rattle.session_feed.proofs.Feeding.{advanced_line, advanced_part}
use Rattle.session_talk.specs.Session.{talk_of}
use Rattle.session_feed.proofs.advance.Goals as goal

pub returns-then-found-piece : goal.returns-then-found-piece
returns-then-found-piece c =
    advanced_line (talk_of c.args.session c.args.memory.now c.args.eeprom.now) c.args.piece.now c.args.i c.read_line-found.result
    c.read_line-found.ensures c.args.out.now c.args.at c.if-found-piece.true c.requires.1 c.requires.2 c.answer_line-done.ensures

pub returns-else-found-piece : goal.returns-else-found-piece
returns-else-found-piece c =
    advanced_part (talk_of c.args.session c.args.memory.now c.args.eeprom.now) c.args.piece.now c.args.i c.read_line-found.result
    c.read_line-found.ensures c.args.out.now c.args.at c.requires.0 c.if-found-piece.false c.requires.1
