-- The next access, as a table (the specification, "The collector": "Start: 9←0; read 8 until STS=0, each poll counted; 11←range code; 7←02;
-- 2←low; 3←high; 9←02, or 03 for the internal clock. .. Then look: read 7. EF: look again. Not full: one word read .. FF or OVF: 512 word
-- reads handed over, a gap marked with the last, start again"; of a look, request M-108: "goes by EF first, FF next, and reads nothing else"; of a
-- word read, request M-100: told "nothing", "it keeps its record"). It covers every phase of a fit collector and whatever came of its access, so of
-- a look each of the 256 bytes; and none handles its first look and idles afterwards.
use Rattle.std.specs.Prelude.{ℕ, ◌≡◌, refl, Bool, true, false, ◌&&◌, List, [], ◌∷◌, Result, Ok, Err, eqb, leb, if◌then◌else◌}
use Rattle.std.proofs.Common.{sym, ap, ◌∙◌}
use Rattle.base.specs.Laws.{never}
use Rattle.base.specs.declared.Refusal.{Refusal}
use Rattle.base.specs.Checks.{refused_by}
use Rattle.collector_settings.specs.declared.Settings.{Settings}
use Rattle.collector_phases.specs.declared.Collector.{Collector}
use Rattle.collector_phases.specs.declared.Phase.{Phase}
use Rattle.collector_phases.specs.declared.Phase.TheVariants.{Stop, Poll, Range, Clear, Low, High, Go, Look, Take, Drain, Stuck, Unknown}
use Rattle.collector_phases.specs.declared.Access.{Access}
use Rattle.collector_phases.specs.declared.Access.TheVariants.{WriteByte, ReadByte, ReadWord}
use Rattle.collector_steps.specs.declared.Taken.{Taken}
use Rattle.collector_settings.specs.Settings.{clock_byte}
use Rattle.collector_phases.specs.Phases.{phase_number, phase_of}
use Rattle.collector_answers.specs.declared.BusAnswer.{BusAnswer}
use Rattle.collector_answers.specs.declared.BusAnswer.TheVariants as bus
use Rattle.collector_answers.specs.Answers.{served, is_nothing, wide, no_byte, brings, STS, EF, FF}
use Rattle.collector_phases.specs.Fit.{fit}
use Rattle.collector_replies.specs.Joined.{fit_of}
use Rattle.collector_refusals.specs.Refusals.{last_poll}
use Rattle.collector_replies.specs.Reply.{replied}
use Rattle.collector.specs.Steps.{Reply, stepped, stays, reply, reply-unfit}

-- the kinds of answer
pub data Kind : Type 0 where
  -- one that decides nothing: to a write, or once stuck
  any : Kind
  -- to a byte read: a number above 255, or nothing
  no_byte_came : Kind
  -- of a poll
  STS=0 : Kind
  STS=1 : Kind
  STS=1-last : Kind
  -- of a look: EF; FF without EF; neither
  empty : Kind
  full : Kind
  not_full : Kind
  -- of a word read: nothing; a sample after a look; in a drain one with more left, or the last of the 512
  nothing : Kind
  sample : Kind
  more : Kind
  last : Kind

-- the kind of an answer to the access of a phase
abbrev pub kind_in : Phase → Collector → BusAnswer → Kind
kind_in Stop c a = any
kind_in Poll c a = if no_byte a then no_byte_came else if brings STS a then if last_poll c then STS=1-last else STS=1 else STS=0
kind_in Range c a = any
kind_in Clear c a = any
kind_in Low c a = any
kind_in High c a = any
kind_in Go c a = any
kind_in Look c a =
    if no_byte a then no_byte_came
    else if brings EF a then empty
    else if brings FF a then full
    else not_full
kind_in Take c a = if is_nothing a then nothing else sample
kind_in Drain c a = if is_nothing a then nothing else if leb c.left 1 then last else more
kind_in Stuck c a = any
kind_in Unknown c a = any

pub record Row : Type 0 where
  pub phase : Phase
  pub answer : Kind
  pub next : Result Access Refusal

abbrev pub row : Phase → Kind → Result Access Refusal → Row
row p k x = record { phase = p; answer = k; next = x }

-- in this phase, after this answer, the next access
abbrev pub table : Settings → List Row
table s =
    row Stop any (Ok (ReadByte 8))
    ∷ row Poll no_byte_came (Ok (ReadByte 8))
    ∷ row Poll STS=1 (Ok (ReadByte 8))
    ∷ row Poll STS=1-last (Err (refused_by 15))
    ∷ row Poll STS=0 (Ok (WriteByte 11 s.range))
    ∷ row Range any (Ok (WriteByte 7 2))
    ∷ row Clear any (Ok (WriteByte 2 s.low))
    ∷ row Low any (Ok (WriteByte 3 s.high))
    ∷ row High any (Ok (WriteByte 9 (clock_byte s)))
    ∷ row Go any (Ok (ReadByte 7))
    ∷ row Look no_byte_came (Ok (ReadByte 7))
    ∷ row Look empty (Ok (ReadByte 7))
    ∷ row Look not_full (Ok (ReadWord 0))
    ∷ row Look full (Ok (ReadWord 0))
    ∷ row Take sample (Ok (ReadByte 7))
    ∷ row Take nothing (Ok (ReadWord 0))
    ∷ row Drain nothing (Ok (ReadWord 0))
    ∷ row Drain more (Ok (ReadWord 0))
    ∷ row Drain last (Ok (WriteByte 9 0))
    ∷ row Stuck any (Err (refused_by 15))
    ∷ []

-- the table has one row for a phase and a kind of answer: the kinds by number, so that rows can be told apart
abbrev kind_number : Kind → ℕ
kind_number any = 0
kind_number no_byte_came = 1
kind_number STS=0 = 2
kind_number STS=1 = 3
kind_number STS=1-last = 4
kind_number empty = 5
kind_number full = 6
kind_number not_full = 7
kind_number more = 8
kind_number last = 9
kind_number nothing = 10
kind_number sample = 11

abbrev is : Row → Phase → Kind → Bool
is r p k = eqb (phase_number r.phase) (phase_number p) && eqb (kind_number r.answer) (kind_number k)

-- what the rows give as the next access: that of the first row for the phase and the kind of answer
abbrev pub given : List Row → Phase → Kind → Result Access Refusal
given [] p k = Err (refused_by 0)
given (r ∷ rs) p k = if is r p k then r.next else given rs p k

-- Where the board refuses the access, any record stays, and so the same access is named again.
pub named_again : (c : Collector) (n : ℕ) → (replied c (bus.Refused n)).collector ≡ c
named_again c n = by (fit c) refl
  where
    stayed : (a : BusAnswer) (r : Taken) → served a ≡ false → Reply c a r → r.collector ≡ c
    stayed a r f (stepped _ _ t s) = never (sym f ∙ t)
    stayed a r f (stays m number) = refl

    by : (t : Bool) → fit c ≡ t → (replied c (bus.Refused n)).collector ≡ c
    by true h = stayed (bus.Refused n) (replied c (bus.Refused n)) refl (reply c (bus.Refused n) (fit_of c h))
    by false h = ap (λ (r : Taken). r.collector) (reply-unfit c (bus.Refused n) h)

-- "reads nothing else": two bytes of a look that agree in EF and in FF are answered alike, whatever the record.
pub reads-nothing_else : (c : Collector) (a b : ℕ) → phase_of c.phase ≡ Look → wide a ≡ false → wide b ≡ false → EF a ≡ EF b → FF a ≡ FF b
    → replied c (bus.Number a) ≡ replied c (bus.Number b)
unfolding replied
reads-nothing_else c a b p w v e f = rw (p, w, v, e, f)
