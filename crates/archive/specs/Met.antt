-- What condition 3 of acceptance speaks of does happen: a run of the product's own board and collector in which the limit is kept, samples are handed over
-- one by one, the memory fills, its 512 samples come and then the gap, and the next run begins with the low channel.
use Rattle.std.specs.Prelude.{ℕ, Bool, true, List, [], ◌∷◌, ◌≡◌, refl, Ok, Result, pos, length}
use Rattle.std.proofs.Common.{ap, ◌∙◌}
use Rattle.base.specs.declared.Refusal.{Refusal}
use Rattle.collector_phases.specs.declared.Access.{Access}
use Rattle.samples.specs.declared.Sample.{Sample}
use Rattle.collector_records.specs.Records.{start_of}
use Rattle.board_step.specs.States.{Works}
use Rattle.archive_turns.specs.Real.{real}
use Rattle.archive_turns.specs.Hosts.{words}
use Rattle.archive_demand.specs.Run.{turn, Run, begin, ◌▸◌, System, after, gaps_in}
use Rattle.archive_demand.specs.Log.{Log, asks}
use Rattle.archive_demand.specs.Demand.{look, seen, held, asked}
use Rattle.archive.specs.RealRuns.{holding}
use Rattle.archive.specs.Trials.{settings, settings-taken, start, sampled, samples, turns_more}
use Rattle.archive.specs.MetLaws as laws
use Rattle.archive.specs.MetLaws.{system, held_system, Watch, watched, ◌then◌, going_on, goes_on, log-watched, gaps-watched}

-- ---- the run
-- a conversion ends with the code n; a look finds its sample; a word read takes it
abbrev pub fetched_one : ℕ → Run → Run
fetched_one n r = sampled n r ▸ turn ▸ turn

-- after the start two samples are taken so
abbrev pub singly : Run
singly = fetched_one 601 (fetched_one 600 start)

-- 512 conversions without a look
abbrev pub filled : Run
filled = samples 512 singly

-- a look, and 512 word reads
abbrev pub drained_run : Run
drained_run = turns_more 512 (filled ▸ turn)

-- the start anew in seven turns, and one more sample
abbrev pub again : Run
again = fetched_one 602 (turns_more 7 begin)

abbrev pub resumed : Run
resumed = drained_run then again

abbrev pub sample_on : ℕ → ℕ → Sample
sample_on channel code = record { channel = channel; code = pos code }

-- ---- what comes of it
pub record Met : Type 0 where
  -- "Let the collector start on any working board": this one works, and the start is taken
  pub works : Works system.board
  pub begun : start_of settings ≡ Ok system.collector
  -- "each sample handed over bears the channel selected when its conversion began .. each look that finds samples yields the oldest"
  pub one_by_one : (seen real words system singly).handed ≡ sample_on 3 600 ∷ sample_on 4 601 ∷ []
  -- the next access is a look, and the memory is full
  pub looks : asked real words system filled ≡ look
  pub full : length (held real words system filled) ≡ 512
  -- "A look that shows the memory full yields its 512 samples and then the gap"
  pub all_come : length (seen real words system drained_run).handed ≡ 514
  pub one-gap : gaps_in real words system drained_run ≡ 1
  -- at most one conversion ended between a look that shows the memory neither empty nor full and the word read after it
  pub limit_kept : (seen real words system drained_run).within ≡ true
  -- "After a gap, the next sample is the low channel's, as from a fresh start"
  pub low_again : (seen real words system resumed).since_gap ≡ sample_on 3 602 ∷ []
  pub limit_kept_again : (seen real words system resumed).within ≡ true

-- ---- computed
abbrev at_singly : Watch → List Sample
at_singly w = w.notes.handed

abbrev at_filled : System holding → Result Access Refusal × ℕ
at_filled x = (asks holding words x, length x.board.samples)

abbrev EndSeen : Type 0
EndSeen = ℕ × ℕ × Bool × List Sample × Bool

abbrev at_end : System holding → Watch → EndSeen
at_end x w = (length w.notes.handed, w.gaps, w.notes.within, (going_on x w again).notes.since_gap, (going_on x w again).notes.within)

singly-is : at_singly (watched held_system singly) ≡ sample_on 3 600 ∷ sample_on 4 601 ∷ []
unfolding watched
singly-is = refl

filled_is : at_filled (after holding words held_system filled) ≡ (look, 512)
unfolding watched samples
filled_is = refl

ended_is : at_end (after holding words held_system drained_run) (watched held_system drained_run) ≡ (514, 1, true, sample_on 3 602 ∷ [], true)
unfolding watched going_on samples turns_more
ended_is = refl

-- the notes of the whole run
resumed-notes : seen real words system resumed ≡ (going_on (after holding words held_system drained_run) (watched held_system drained_run) again).notes
resumed-notes = log-watched resumed ∙ ap (λ (w : Watch). w.notes) (goes_on held_system drained_run again)

pub met : Met
met =
    record {
      works = laws.works;
      begun = settings-taken;
      one_by_one = ap (λ (l : Log). l.handed) (log-watched singly) ∙ singly-is;
      looks = ap (λ (x : System holding). asks holding words x) (laws.after-held filled) ∙ ap (λ (y : Result Access Refusal × ℕ). y.0) filled_is;
      full = ap (λ (x : System holding). length x.board.samples) (laws.after-held filled) ∙ ap (λ (y : Result Access Refusal × ℕ). y.1) filled_is;
      all_come = ap (λ (l : Log). length l.handed) (log-watched drained_run) ∙ ap (λ (y : EndSeen). y.0) ended_is;
      one-gap = gaps-watched drained_run ∙ ap (λ (y : EndSeen). y.1) ended_is;
      limit_kept = ap (λ (l : Log). l.within) (log-watched drained_run) ∙ ap (λ (y : EndSeen). y.2) ended_is;
      low_again = ap (λ (l : Log). l.since_gap) resumed-notes ∙ ap (λ (y : EndSeen). y.3) ended_is;
      limit_kept_again = ap (λ (l : Log). l.within) resumed-notes ∙ ap (λ (y : EndSeen). y.4) ended_is;
    }
