-- One board shows what another does: where its steps, answers and views are those of the other, so are all its runs.
use Rattle.std.specs.Prelude.{ℕ, Bool, List, ◌≡◌, Result, Ok, Err, ℤ}
use Rattle.std.proofs.Math.Option.{Option}
use Rattle.std.proofs.Math.Path.{refl, ap}
use Rattle.std.proofs.Common.{◌∙◌}
use Rattle.base.specs.declared.Refusal.{Refusal}
use Rattle.board_events.specs.declared.Answer.{Answer}
use Rattle.board_events.specs.declared.Event.{Event}
use Rattle.collector_phases.specs.declared.Access.{Access}
use Rattle.collector_phases.specs.declared.Collector.{Collector}
use Rattle.samples.specs.declared.Sample.{Sample}
use Rattle.collector.specs.Handed.{samples_of, gap_marked}
use Rattle.collector_answers.specs.declared.BusAnswer.{BusAnswer}
use Rattle.archive_turns.specs.Machine.{View, Machine, Host}
use Rattle.archive_turns.specs.Turn.{event_of, Turning, brought_by, taken_by, turn_by}
use Rattle.archive_demand.specs.World.{event_in}
use Rattle.archive_demand.specs.Run.{Happening, turn, world, Run, begin, ◌▸◌, System, next, after}
use Rattle.archive_demand.specs.Log.{Log, note_world, note_turn, brings_by, begins_by, selected, note, log}

-- the board b of M, while it works, shows what f b of N does
pub record Simulates (M N : Machine) (Working : M.Board → Type 0) (f : M.Board → N.Board) : Type 0 where
  pub works : (b : M.Board) (ev : Event) → Working b → Working (M.stepped b ev)
  pub views : (b : M.Board) → M.view b ≡ N.view (f b)
  pub steps : (b : M.Board) (ev : Event) → Working b → f (M.stepped b ev) ≡ N.stepped (f b) ev
  pub answers : (b : M.Board) (ev : Event) → Working b → M.answered b ev ≡ N.answered (f b) ev
  pub begins : (b : M.Board) (ev : Event) → Working b → M.begins b ev ≡ N.begins (f b) ev
  pub ends : (b : M.Board) (ev : Event) → Working b → M.ends b ev ≡ N.ends (f b) ev

-- notes of equal things are equal
turn-notes : (x : Result Access Refusal) {a a' : BusAnswer} {b b' : Bool} {s s' : ℕ} {o o' : List Sample} {g g' : Bool} (l : Log)
    → a ≡ a' → b ≡ b' → s ≡ s' → o ≡ o' → g ≡ g' → note_turn x a b s o g l ≡ note_turn x a' b' s' o' g' l
turn-notes x l p q r t u = rw (p, q, r, t, u)

world-notes : {e e' : Option ℤ} {b b' : Bool} {s s' : ℕ} (l : Log) → e ≡ e' → b ≡ b' → s ≡ s' → note_world e b s l ≡ note_world e' b' s' l
world-notes l p q r = rw (p, q, r)

module _ (M N : Machine) (Working : M.Board → Type 0) (f : M.Board → N.Board) (sim : Simulates M N Working f) (H : Host) where
  -- the system of N
  abbrev pub mapped : System M → System N
  mapped x = record { board = f x.board; collector = x.collector }

  -- ---- a turn
  abbrev mapped_turn : Turning M.Board → Turning N.Board
  mapped_turn t = record { collector = t.collector; board = f t.board; polls = t.polls; handed = t.handed }

  turned : (q : Result Event Refusal) (c : Collector) (b : M.Board) → Working b → mapped_turn (turn_by M H q c b) ≡ turn_by N H q c (f b)
  turned (Ok ev) c b w =
      ap (λ (y : N.Board). taken_by (H.reply c (brought_by (M.answered b ev))) y) (sim.steps b ev w)
      ∙ ap (λ (a : Answer). taken_by (H.reply c (brought_by a)) (N.stepped (f b) ev)) (sim.answers b ev w)
  turned (Err e) c b w = refl

  turn-works : (q : Result Event Refusal) (c : Collector) (b : M.Board) → Working b → Working (turn_by M H q c b).board
  turn-works (Ok ev) c b w = sim.works b ev w
  turn-works (Err e) c b w = w

  -- ---- a happening
  next-works : (x : System M) (e : Happening) → Working x.board → Working (next M H x e).board
  next-works x turn w = turn-works (event_of (H.access x.collector)) x.collector x.board w
  next-works x (world v) w = sim.works x.board (event_in v) w

  next-same : (x : System M) (e : Happening) → Working x.board → mapped (next M H x e) ≡ next N H (mapped x) e
  next-same x turn w =
      ap (λ (t : Turning N.Board). record { board = t.board; collector = t.collector })
      (turned (event_of (H.access x.collector)) x.collector x.board w)
  next-same x (world v) w =
      ap (λ (y : N.Board). record { board = y; collector = x.collector }) (sim.steps x.board (event_in v) w)

  brings-same : (q : Result Event Refusal) (b : M.Board) → Working b → brings_by M b q ≡ brings_by N (f b) q
  brings-same (Ok ev) b w = ap brought_by (sim.answers b ev w)
  brings-same (Err e) b w = refl

  begins-same : (q : Result Event Refusal) (b : M.Board) → Working b → begins_by M b q ≡ begins_by N (f b) q
  begins-same (Ok ev) b w = sim.begins b ev w
  begins-same (Err e) b w = refl

  selected-same : (b : M.Board) → selected M b ≡ selected N (f b)
  selected-same b = ap (λ (v : View). v.converter.selected) (sim.views b)

  note-same : (x : System M) (e : Happening) (l : Log) → Working x.board → note M H x e l ≡ note N H (mapped x) e l
  note-same x turn l w =
      let q : Result Event Refusal = event_of (H.access x.collector) in
      let t = turned q x.collector x.board w in
      turn-notes (H.access x.collector) l (brings-same q x.board w) (begins-same q x.board w) (selected-same x.board)
      (ap (λ (t : Turning N.Board). samples_of t.handed) t)
      (ap (λ (t : Turning N.Board). gap_marked t.handed) t)
  note-same x (world v) l w =
      world-notes l (sim.ends x.board (event_in v) w) (sim.begins x.board (event_in v) w) (selected-same x.board)

  -- ---- a run
  module _ (s : System M) (w : Working s.board) where
    pub after-works : (r : Run) → Working (after M H s r).board
    unfolding after
    after-works begin = w
    after-works (r ▸ e) = next-works (after M H s r) e (after-works r)

    pub after_same : (r : Run) → mapped (after M H s r) ≡ after N H (mapped s) r
    unfolding after
    after_same begin = refl
    after_same (r ▸ e) = next-same (after M H s r) e (after-works r) ∙ ap (λ (x : System N). next N H x e) (after_same r)

    pub log-same : (r : Run) → log M H s r ≡ log N H (mapped s) r
    unfolding log
    log-same begin = refl
    log-same (r ▸ e) =
        note-same (after M H s r) e (log M H s r) (after-works r)
        ∙ ap (λ (l : Log). note N H (mapped (after M H s r)) e l) (log-same r)
        ∙ ap (λ (x : System N). note N H x e (log N H (mapped s) r)) (after_same r)
