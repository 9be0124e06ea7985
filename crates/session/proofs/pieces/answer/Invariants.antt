use Rattle.std.proofs.Common.{length, ◌-◌, ◌≤◌, take, ◌≡◌}
use Rattle.session_talk.specs.Session.{talk_of}
use Rattle.session_feed.specs.Feeding.{final}
use Rattle.session.proofs.pieces.answer.Given as goal

-- the bytes before `from` are taken
abbrev pub invariant-loop-from : goal.invariant-loop-from
invariant-loop-from g l =
    (l.from ≤ length l.piece)
    × (talk_of l.session l.memory l.eeprom ≡ final (talk_of l.initial.session l.initial.memory l.initial.eeprom) (take l.from l.piece))

abbrev pub decreases-loop-from : goal.decreases-loop-from
decreases-loop-from g l = length l.piece - l.from
