-- The limit is needed: without it the first part of demand 3 is false of the product's own board and collector. With 511 samples held at a
-- look, two ends before its word read lose a sample; one more end, and the next look drains the memory, with a sample missing before the gap.
use Rattle.std.specs.Prelude.{ℕ, zero, suc, ◌≡◌}
use mathlib.Core.List.{List, [], ◌∷◌, IsPrefix}
use Rattle.std.proofs.Common.{ap, arith}
use Rattle.converter.specs.Codes.{sample_of}
use Rattle.converter.specs.Registers.{fresh_converter}
use Rattle.converter.specs.Working.{fresh-works}
use Rattle.samples.specs.declared.Sample.{Sample}
use Rattle.archive_turns.specs.Real.{real}
use Rattle.archive_turns.specs.Hosts.{words}
use Rattle.archive_demand.specs.Run.{turn, Run, ◌▸◌}
use Rattle.archive_demand.specs.Log.{Log, log}
use Rattle.archive.specs.RealRuns.{lent_with, held_log, by-notes}
use Rattle.archive.specs.Trials.{from, start, sampled, samples, turns_more}

abbrev late : Run
late = turns_more 512 (sampled 602 (sampled 601 (sampled 600 (samples 511 start ▸ turn)) ▸ turn) ▸ turn)

code_at : ℕ → List Sample → ℕ
code_at n [] = 65536
code_at zero (y ∷ ys) = sample_of y.code
code_at (suc n) (y ∷ ys) = code_at n ys

abbrev pub Ordered : Log → Type 0
Ordered l = IsPrefix l.handed l.samples

-- the 513th sample handed over has the code 602, where the 513th conversion's is 601
pub limit_needed : ((r : Run) → Ordered (log real words (from real (lent_with fresh_converter)) r)) → ⊥
unfolding held_log samples turns_more code_at
limit_needed f =
    let e : ◌≡◌ {A = ℕ} 602 601 = ap (code_at 512) (by-notes words fresh_converter fresh-works late Ordered (f late)).1 in
    omega arith
