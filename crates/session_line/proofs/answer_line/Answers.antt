-- `session_line::answer_line` meets its contract. Assumes nothing.
use Rattle.std.proofs.Common.{refl, sym, ap, ◌∙◌}
use Rattle.session_line.proofs.Answering.{line_event, line_bad}
use Rattle.session_talk.specs.Wanted.{wanted_by}
use Rattle.session_talk.specs.Session.{talk_of}
use Rattle.session_line.proofs.answer_line.Goals as goal

pub returns-in-None : goal.returns-in-None
returns-in-None c =
    line_bad (talk_of c.args.session c.args.memory.now c.args.eeprom.now) refl
    (sym (c.wanted_by.ensures ∙ ap wanted_by c.command_at-command.ensures) ∙ c.in-None.is) c.refuse.ensures

pub returns-in-Some : goal.returns-in-Some
returns-in-Some c =
    line_event (talk_of c.args.session c.args.memory.now c.args.eeprom.now) refl
    (sym (c.wanted_by.ensures ∙ ap wanted_by c.command_at-command.ensures) ∙ c.in-Some.is) c.happen.ensures
