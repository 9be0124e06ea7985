-- Where one board shows what another does, the gaps marked in a run of it are those of the other. Laws for MetLaws.antt.
use Rattle.std.specs.Prelude.{ℕ, ◌+◌, Bool, ◌≡◌, Result, Ok, Err, if◌then◌else◌}
use Rattle.std.proofs.Math.Path.{refl, ap}
use Rattle.std.proofs.Common.{◌∙◌}
use Rattle.base.specs.declared.Refusal.{Refusal}
use Rattle.board_events.specs.declared.Event.{Event}
use Rattle.board_events.specs.declared.Answer.{Answer}
use Rattle.collector_phases.specs.declared.Collector.{Collector}
use Rattle.collector.specs.Handed.{gap_marked}
use Rattle.archive_turns.specs.Machine.{Machine, Host}
use Rattle.archive_turns.specs.Turn.{event_of, brought_by, turn_by}
use Rattle.archive_demand.specs.Run.{Happening, turn, world, Run, begin, ◌▸◌, System, gap, after, gaps_in}
use Rattle.archive.specs.Simulates.{Simulates, mapped, after-works, after_same}

module _ (M N : Machine) (Working : M.Board → Type 0) (f : M.Board → N.Board) (sim : Simulates M N Working f) (H : Host) where
  hands_same : (q : Result Event Refusal) (c : Collector) (b : M.Board) → Working b → (turn_by M H q c b).handed ≡ (turn_by N H q c (f b)).handed
  hands_same (Ok ev) c b w = ap (λ (a : Answer). (H.reply c (brought_by a)).handed) (sim.answers b ev w)
  hands_same (Err e) c b w = refl

  abbrev image : System M → System N
  image x = mapped M N Working f sim H x

  gap_same : (x : System M) (e : Happening) → Working x.board → gap M H x e ≡ gap N H (image x) e
  gap_same x turn w = ap gap_marked (hands_same (event_of (H.access x.collector)) x.collector x.board w)
  gap_same x (world v) w = refl

  module _ (s : System M) (w : Working s.board) where
    abbrev at : Run → System M
    at r = after M H s r

    pub gaps_in-same : (r : Run) → gaps_in M H s r ≡ gaps_in N H (image s) r
    unfolding gaps_in
    gaps_in-same begin = refl
    gaps_in-same (r ▸ e) =
        ap (λ (n : ℕ). n + (if gap M H (at r) e then 1 else 0)) (gaps_in-same r)
        ∙ ap (λ (t : Bool). gaps_in N H (image s) r + (if t then 1 else 0))
        (gap_same (at r) e (after-works M N Working f sim H s w r) ∙ ap (λ (x : System N). gap N H x e) (after_same M N Working f sim H s w r))
