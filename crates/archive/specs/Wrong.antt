-- Wrong collectors on the product's own board, and wrong boards, each of which demand 3 rules out by a run.
use Rattle.std.specs.Prelude.{ℕ, suc, ◌%◌, ◌≡◌, refl, Ok, Err, ℤ, pos, eqb, ltb, length, drop, if◌then◌else◌}
use mathlib.Core.List.{List, [], ◌∷◌, ◌++◌, IsPrefix}
use Rattle.std.proofs.Math.Option.{Option, none, some}
use Rattle.std.proofs.Common.{sym, ap, arith}
use Rattle.base.specs.Laws.{never}
use Rattle.base.specs.Checks.{refused_by}
use Rattle.converter.specs.Codes.{sample_of}
use Rattle.converter.specs.Registers.{fresh_converter}
use Rattle.converter.specs.Working.{WorkingConverter, fresh-works}
use Rattle.converter.specs.declared.channels.Converter.{Converter}
use Rattle.board_laws.specs.Held.{Held, held_answer, happened}
use Rattle.board_events.specs.declared.Answer.{Answer}
use Rattle.board_events.specs.declared.Answer.TheVariants.{Done, Byte, Word, Nothing, Refused}
use Rattle.collector_phases.specs.declared.Access.TheVariants.{WriteByte}
use Rattle.collector_phases.specs.declared.Collector.{Collector}
use Rattle.collector_phases.specs.declared.Phase.TheVariants.{Poll, Take}
use Rattle.samples.specs.declared.Sample.{Sample}
use Rattle.collector_steps.specs.declared.Taken.{Taken}
use Rattle.collector_phases.specs.Phases.{phase_number}
use Rattle.collector_records.specs.Records.{first_record}
use Rattle.collector_phases.specs.Accesses.{access_of}
use Rattle.collector_answers.specs.declared.BusAnswer.{BusAnswer}
use Rattle.collector_answers.specs.declared.BusAnswer.TheVariants as bus
use Rattle.collector_answers.specs.Answers.{is_nothing}
use Rattle.collector_replies.specs.Reply.{replied}
use Rattle.archive_turns.specs.Machine.{Machine, Host}
use Rattle.archive_turns.specs.Real.{real}
use Rattle.archive_turns.specs.Hosts.{words}
use Rattle.archive_demand.specs.Run.{turn, world, Run, ◌▸◌}
use Rattle.archive_demand.specs.Demand.{look, word_read, Either, first, second, Demand3}
use Rattle.archive.specs.RealRuns.{holding, lent_with, held_from, held_log, held_access, in_order-held, goes-on_held}
use Rattle.archive.specs.Trials.{from, ends_with, start, sampled, samples}

-- ---- a collector that takes each poll as if STS were 0
abbrev without_sts : BusAnswer → BusAnswer
without_sts (bus.Number a) = bus.Number (a % 128)
without_sts bus.Nothing = bus.Nothing
without_sts (bus.Refused n) = bus.Refused n

abbrev pub hasty : Host
hasty = record { access = access_of; reply = λ c a. replied c (if eqb c.phase (phase_number Poll) then without_sts a else a) }

-- on a board that converts channel 1 as the collector begins
abbrev pub converting : Converter
converting = record { low = 0; high = 2; selected = 2; channel = 1; converting = 1; scanen = 0; clken = 1 }

converting-works : WorkingConverter converting
converting-works = omega arith

-- a conversion from before the start comes out as the first sample
abbrev early : Run
early = start ▸ world (ends_with 77) ▸ turn ▸ turn

none-begun : {A : Type 0} (y : A) → IsPrefix (y ∷ []) [] → ⊥
none-begun y p = let e : suc (length p.0) ≡ 0 = ap length p.1 in omega arith

pub hasty_refuted : Demand3 real hasty (from real (lent_with converting)) → ⊥
unfolding held_log
hasty_refuted f = none-begun (record { channel = 3; code = pos 77 }) (in_order-held hasty converting converting-works early f refl)

-- ---- a collector that makes no access at all
abbrev pub mute : Host
mute = record { access = λ c. Err (refused_by 15); reply = replied }

pub mute_refuted : Demand3 real mute (from real (lent_with fresh_converter)) → ⊥
mute_refuted f = nothing f.begins
  where
    nothing : Err (refused_by 15) ≡ Ok (WriteByte 9 0) → ⊥
    nothing e = let z : ◌≡◌ {A = ℕ} 0 1 = cc in omega arith

-- ---- a collector that falls silent with its first sample
abbrev pub silent : Host
silent = record { access = λ c. if eqb c.next c.settings.low then access_of c else Err (refused_by 15); reply = replied }

-- ---- a collector that starts anew after a single take
abbrev renewed : Collector → Taken → Taken
renewed c t =
    if eqb c.phase (phase_number Take) then record { collector = first_record c.settings; polls = t.polls; handed = t.handed } else t

abbrev pub restarting : Host
restarting = record { access = access_of; reply = λ c a. renewed c (replied c a) }

-- after one sample they make no look
abbrev one : Run
one = sampled 77 start ▸ turn ▸ turn

silence : Either (Err (refused_by 15) ≡ look) (Err (refused_by 15) ≡ word_read) → ⊥
silence (first e) = let z : ◌≡◌ {A = ℕ} 0 1 = cc in omega arith
silence (second e) = let z : ◌≡◌ {A = ℕ} 0 1 = cc in omega arith

pub silent_refuted : Demand3 real silent (from real (lent_with fresh_converter)) → ⊥
unfolding held_access
silent_refuted f = silence (goes-on_held silent fresh_converter fresh-works one f refl)

new_start : Either (Ok (WriteByte 9 0) ≡ look) (Ok (WriteByte 9 0) ≡ word_read) → ⊥
new_start (first e) = let z : ◌≡◌ {A = ℕ} 0 1 = cc in omega arith
new_start (second e) = let z : ◌≡◌ {A = ℕ} 0 1 = cc in omega arith

pub restarting_refuted : Demand3 real restarting (from real (lent_with fresh_converter)) → ⊥
unfolding held_access
restarting_refuted f = new_start (goes-on_held restarting fresh_converter fresh-works one f refl)

-- ---- the board, but that at an end with 512 held it drops the oldest sample and keeps the new one
abbrev drops_for : Option ℤ → Held → Held → Held
drops_for none before after = after
drops_for (some code) before after =
    record {
      board = after.board;
      samples = if ltb (length before.samples) 512 then after.samples else drop 1 before.samples ++ sample_of code ∷ [];
      eeprom = after.eeprom;
    }

abbrev pub dropping : Machine
dropping =
    record {
      Board = Held;
      stepped = λ h ev. drops_for (holding.ends h ev) h (happened h ev);
      answered = held_answer;
      view = holding.view;
      begins = holding.begins;
      ends = holding.ends;
    }

-- 513 ends, the look that shows the memory full, and the first word read
abbrev overflowing : Run
overflowing = samples 513 start ▸ turn ▸ turn

abbrev first_code : List Sample → ℕ
first_code [] = 65536
first_code (y ∷ ys) = sample_of y.code

-- the collector hands over the code 1 first, where the first conversion's is 0
pub dropping_refuted : Demand3 dropping words (from dropping (held_from fresh_converter)) → ⊥
unfolding held_log samples
dropping_refuted f =
    let e : ◌≡◌ {A = ℕ} 1 0 = ap first_code (f.in_order overflowing refl).1 in
    omega arith

-- ---- the board, but that its status never shows EF
abbrev without_ef : Answer → Answer
without_ef Done = Done
without_ef (Byte byte) = Byte (byte % 128)
without_ef (Word word) = Word word
without_ef Nothing = Nothing
without_ef (Refused number) = Refused number

abbrev pub boasting : Machine
boasting =
    record {
      Board = Held;
      stepped = holding.stepped;
      answered = λ h ev. without_ef (held_answer h ev);
      view = holding.view;
      begins = holding.begins;
      ends = holding.ends;
    }

none-there : (word : ℕ) → bus.Nothing ≡ bus.Number word → ⊥
none-there word e = never (sym (ap is_nothing e))

-- a look at an empty memory, and the word read after it is told "nothing"
pub boasting_refuted : Demand3 boasting words (from boasting (held_from fresh_converter)) → ⊥
unfolding held_log
boasting_refuted f = let found = f.finds (start ▸ turn) refl in none-there found.0 found.1
