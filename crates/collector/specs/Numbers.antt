-- The collector's answers in the specification's numbers: of a start, of a question for the access and of an answer it is the number of the
-- first check that holds, 0 where none does. And a start ends with its last write.
use Rattle.std.specs.Prelude.{ℕ, ◌≡◌, refl, Bool, true, false, not, List, [], ◌∷◌, Ok, Err, eqb, leb, if◌then◌else◌}
use Rattle.std.proofs.Common.{sym, eqb-true}
use Rattle.base.specs.Checks.{Check, ◌refuses◌, refusal, refused_by}
use Rattle.base.specs.Laws.{by_choice}
use Rattle.collector_settings.specs.declared.Settings.{Settings}
use Rattle.collector_settings.specs.Settings.{start_refusal}
use Rattle.collector_phases.specs.declared.Collector.{Collector}
use Rattle.collector_phases.specs.declared.Phase.{Phase}
use Rattle.collector_phases.specs.declared.Phase.TheVariants.{Stop, Poll, Range, Clear, Low, High, Go, Look, Take, Drain, Stuck, Unknown}
use Rattle.collector_phases.specs.Phases.{phase_of, access_in, is_none}
use Rattle.collector_phases.specs.Fit.{FitIn, fit}
use Rattle.collector_phases.specs.Accesses.{access_of}
use Rattle.collector_records.specs.Records.{first_record, start_of}
use Rattle.collector_refusals.specs.Refusals.{answer_checks}
use Rattle.collector_answers.specs.declared.BusAnswer.{BusAnswer}
use Rattle.collector_answers.specs.declared.BusAnswer.TheVariants as bus
use Rattle.collector_steps.specs.declared.Handed.TheVariants.{Refused}
use Rattle.collector_steps.specs.declared.Taken.{Taken}
use Rattle.collector_steps.specs.Reads.{reports}
use Rattle.collector_replies.specs.Joined.{fit_of}
use Rattle.collector_replies.specs.Reply.{after_write, after_number, answered, staying, decided, replied}
use Rattle.collector.specs.Handed.{start_number, access_number, handed_refusal}

-- ---- a start: 14, 11, 12, 13
pub start-number : (s : Settings) → start_number (start_of s) ≡ start_refusal s
unfolding start_of
start-number s = by (eqb (start_refusal s) 0) refl
  where
    by : (t : Bool) → eqb (start_refusal s) 0 ≡ t
        → start_number (if t then Ok (first_record s) else Err (refused_by (start_refusal s))) ≡ start_refusal s
    by true h = sym (eqb-true _ _ h)
    by false h = refl

-- ---- the access: 1 of an unfit record, 15 once stuck
abbrev pub access_checks : Collector → List Check
access_checks c = not (fit c) refuses 1 ∷ is_none (access_in (phase_of c.phase) c.settings) refuses 15 ∷ []

pub access-number : (c : Collector) → access_number (access_of c) ≡ refusal (access_checks c)
unfolding access_of
access-number c = by (fit c) refl
  where
    in_phase : (p : Phase) → FitIn p c → access_number (access_in p c.settings) ≡ refusal (is_none (access_in p c.settings) refuses 15 ∷ [])
    in_phase Stop f = refl
    in_phase Poll f = refl
    in_phase Range f = refl
    in_phase Clear f = refl
    in_phase Low f = refl
    in_phase High f = refl
    in_phase Go f = refl
    in_phase Look f = refl
    in_phase Take f = refl
    in_phase Drain f = refl
    in_phase Stuck f = refl
    in_phase Unknown f = absurd f

    by : (t : Bool) → fit c ≡ t
        → access_number (if t then access_in (phase_of c.phase) c.settings else Err (refused_by 1))
        ≡ refusal (not t refuses 1 ∷ is_none (access_in (phase_of c.phase) c.settings) refuses 15 ∷ [])
    by true h = in_phase (phase_of c.phase) (fit_of c h).phase
    by false h = refl

-- ---- an answer: 1, 15 once stuck, 17, 20, 15 at the last poll; where none of these holds and the board refused the access, the board's number
abbrev pub board_number : BusAnswer → ℕ
board_number (bus.Number a) = 0
board_number bus.Nothing = 0
board_number (bus.Refused n) = n

pub reply-number : (c : Collector) (a : BusAnswer)
    → handed_refusal (replied c a).handed
    ≡ (if eqb (refusal (answer_checks (access_in (phase_of c.phase) c.settings) c a)) 0 then board_number a
    else refusal (answer_checks (access_in (phase_of c.phase) c.settings) c a))
unfolding replied
reply-number c a = by (refusal (answer_checks (access_in (phase_of c.phase) c.settings) c a)) (phase_of c.phase)
  where
    written-number : (p : Phase) → handed_refusal (after_write p c).handed ≡ 0
    written-number Stop = refl
    written-number Poll = refl
    written-number Range = refl
    written-number Clear = refl
    written-number Low = refl
    written-number High = refl
    written-number Go = refl
    written-number Look = refl
    written-number Take = refl
    written-number Drain = refl
    written-number Stuck = refl
    written-number Unknown = refl

    numbered-number : (p : Phase) (v : ℕ) → handed_refusal (after_number p c v).handed ≡ 0
    numbered-number Stop v = refl
    numbered-number Poll v = refl
    numbered-number Range v = refl
    numbered-number Clear v = refl
    numbered-number Low v = refl
    numbered-number High v = refl
    numbered-number Go v = refl
    numbered-number Look v = refl
    numbered-number Take v = refl
    numbered-number Drain v = by_choice (λ (r : Taken). handed_refusal r.handed ≡ 0) (leb c.left 1) refl refl
    numbered-number Stuck v = refl
    numbered-number Unknown v = refl

    answered-number : (x : BusAnswer) (p : Phase) → handed_refusal (answered p c x).handed ≡ board_number x
    answered-number (bus.Number v) p = numbered-number p v
    answered-number bus.Nothing p = written-number p
    answered-number (bus.Refused n) p = refl

    by : (n : ℕ) (p : Phase) → handed_refusal (decided n p c a).handed ≡ (if eqb n 0 then board_number a else n)
    by n p = test (eqb n 0)
      where
        test : (t : Bool)
            → handed_refusal (if t then answered p c a else reports (staying n (access_in p c.settings) c) (Refused n)).handed
            ≡ (if t then board_number a else n)
        test true = answered-number a p
        test false = refl
