-- The loop of `feed`: i bytes of the piece are taken.
use Rattle.std.proofs.Common.{◌-◌, length}
use Rattle.session_talk.specs.Session.{talk_of}
use Rattle.session_feed.proofs.Feeding.{Fed_so}
use Rattle.session_feed.proofs.feed.Given as goal

abbrev pub invariant-loop-i : goal.invariant-loop-i
invariant-loop-i l = Fed_so (talk_of l.initial.session l.initial.memory l.initial.eeprom) l.piece l.initial.out l.memory l.eeprom l.out l.session l.at l.i

abbrev pub decreases-loop-i : goal.decreases-loop-i
decreases-loop-i l = length l.piece - l.i
