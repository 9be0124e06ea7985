-- A step of the board of `board::step` as an onlooker sees it: on a working board it shows what the event makes of the record and the
-- samples held, apart from how the memory keeps them.
use Rattle.std.specs.Prelude.{ℕ, Bool, true, false, ◌&&◌, ◌≡◌, refl, eqb, if◌then◌else◌}
use Rattle.std.proofs.Math.Option.{none}
use Rattle.std.proofs.Common.{sym, ap, subst, ◌∙◌}
use Rattle.board_laws.specs.Held.{Held, event_number, held_answer, happened, held_in, number-working, step-held}
use Rattle.board_events.specs.declared.Answer.{Answer}
use Rattle.board_events.specs.declared.Event.{Event}
use Rattle.board_laws.specs.Begins.{begins, code_in}
use Rattle.board_step.specs.States.{State, Works}
use Rattle.archive_turns.specs.Machine.{View}
use Rattle.archive_turns.specs.Real.{takes, real}
use Rattle.archive_demand.specs.Laws.{Happens, Serves}

-- what record and memories hold, and what is seen of it
abbrev pub holds : State → Held
holds l = held_in l.board l.memory l.eeprom

abbrev pub view_of : Held → View
view_of h = record { converter = h.board.converter; held = h.samples }

-- no check of the event refuses it
abbrev pub is_passed : Held → Event → Bool
is_passed h ev = eqb (event_number h ev) 0

pub step-shown : (l : State) (ev : Event) → Works l → real.view (real.stepped l ev) ≡ view_of (happened (holds l) ev)
step-shown l ev w = ap view_of (step-held l.board l.memory l.eeprom ev w.working w.long).held

pub takes-passes : (l : State) (ev : Event) → Works l → takes l ev ≡ is_passed (holds l) ev
takes-passes l ev w =
    ap (λ (n : ℕ). eqb n 0) (number-working l.board l.memory l.eeprom ev w.working w.long)

-- ---- a bus access
pub record Makes (h : Held) (ev : Event) (a : Answer) (v : View) : Type 0 where
  pub answers : held_answer h ev ≡ a
  pub leaves : view_of (happened h ev) ≡ v
  pub begins-none : begins h.board ev ≡ false

neither : (t : Bool) → t && false ≡ false
neither true = refl
neither false = refl

pub serves : (l : State) (ev : Event) (a : Answer) (v : View) → Works l → Makes (holds l) ev a v → Serves real l ev a v
serves l ev a v w m =
    record {
      answers = (step-held l.board l.memory l.eeprom ev w.working w.long).answer ∙ m.answers;
      leaves = step-shown l ev w ∙ m.leaves;
      begins-none = ap (λ (t : Bool). takes l ev && t) m.begins-none ∙ neither (takes l ev);
    }

-- ---- an event of the world
abbrev pub HeldHappens : Held → Event → Type 0
HeldHappens h ev =
    Happens (is_passed h ev && begins h.board ev) (if is_passed h ev then code_in ev else none) (view_of h) (view_of (happened h ev))

pub happens-held : (l : State) (ev : Event) → Works l → HeldHappens (holds l) ev
    → Happens (real.begins l ev) (real.ends l ev) (real.view l) (real.view (real.stepped l ev))
happens-held l ev w p =
    subst
    (λ (t : Bool). Happens (t && begins l.board ev) (if t then code_in ev else none) (real.view l) (real.view (real.stepped l ev)))
    (sym (takes-passes l ev w))
    (subst
    (λ (v : View). Happens (is_passed (holds l) ev && begins l.board ev) (if is_passed (holds l) ev then code_in ev else none) (real.view l) v)
    (sym (step-shown l ev w)) p)
