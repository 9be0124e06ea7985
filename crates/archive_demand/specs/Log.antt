-- What an onlooker writes down, going through a run happening by happening: the conversions begun since the end of the last start, what was
-- handed over, and how far the limit was kept (condition 3 of acceptance; the specification, "The collector": "For demand 3 a start ends with
-- its last write, 9←02 or 03").
use Rattle.std.specs.Prelude.{ℕ, ◌+◌, Bool, true, false, ◌&&◌, ◌||◌, List, [], ◌∷◌, ◌++◌, Result, Ok, Err, ℤ, eqb, leb, if◌then◌else◌}
use Rattle.std.proofs.Math.Option.{Option, none, some}
use Rattle.base.specs.declared.Refusal.{Refusal}
use Rattle.board_events.specs.declared.Event.{Event}
use Rattle.collector_answers.specs.declared.BusAnswer.{BusAnswer}
use Rattle.collector_answers.specs.declared.BusAnswer.TheVariants as bus
use Rattle.collector_phases.specs.declared.Access.{Access}
use Rattle.collector_phases.specs.declared.Access.TheVariants.{WriteByte, ReadByte, ReadWord}
use Rattle.samples.specs.declared.Sample.{Sample}
use Rattle.collector_answers.specs.Answers.{EF, FF}
use Rattle.collector.specs.Handed.{is_go}
use Rattle.archive_turns.specs.Machine.{Machine, Host}
use Rattle.archive_turns.specs.Turn.{event_of, brought_by}
use Rattle.archive_demand.specs.World.{event_in}
use Rattle.archive_demand.specs.Run.{Happening, turn, world, Run, begin, ◌▸◌, System, given, gap, after}

pub record Log : Type 0 where
  -- the conversions begun since the end of the last start that have ended, in order: the channel selected when it began, the code it ended with
  pub samples : List Sample
  -- the channel selected when the conversion in progress began, if that was since the end of the last start
  pub current : Option ℕ
  -- what was handed over since the end of the last start; and since the last gap
  pub handed : List Sample
  pub since_gap : List Sample
  -- a start has ended, and no gap has come since
  pub running : Bool
  -- conversions ended since a look that showed the memory neither empty nor full, while its word read is still to come
  pub waiting : Option ℕ
  -- since the end of the last start, at most one conversion ended between such a look and its word read
  pub within : Bool

-- ---- an event of the world: perhaps a conversion ends with a code, perhaps one begins, on the selected channel
abbrev pub add_sample : Option ℤ → Option ℕ → List Sample → List Sample
add_sample none k l = l
add_sample (some code) none l = l
add_sample (some code) (some channel) l = l ++ (record { channel = channel; code = code } ∷ [])

-- the conversion in progress ends
abbrev pub closed : Option ℤ → Option ℕ → Option ℕ
closed none k = k
closed (some code) k = none

abbrev pub end_counted : Option ℤ → Option ℕ → Option ℕ
end_counted none k = k
end_counted (some code) none = none
end_counted (some code) (some n) = some (n + 1)

abbrev pub at_most_one : Option ℕ → Bool
at_most_one none = true
at_most_one (some n) = leb n 1

abbrev pub note_world : Option ℤ → Bool → ℕ → Log → Log
note_world e begins selected l =
    record {
      samples = add_sample e l.current l.samples;
      current = if begins then some selected else closed e l.current;
      handed = l.handed;
      since_gap = l.since_gap;
      running = l.running;
      waiting = end_counted e l.waiting;
      within = l.within && at_most_one (end_counted e l.waiting);
    }

-- ---- a turn: an access, what it brought, and what was handed over
-- the stretch of the limit begins at a look that shows the memory neither empty nor full, and ends at a word read
abbrev pub look_stretch : BusAnswer → Option ℕ → Option ℕ
look_stretch (bus.Number a) k = if EF a || FF a then none else some 0
look_stretch bus.Nothing k = k
look_stretch (bus.Refused n) k = k

abbrev pub stretch : Result Access Refusal → BusAnswer → Option ℕ → Option ℕ
stretch (Ok (WriteByte o v)) a k = k
stretch (Ok (ReadByte o)) a k = if eqb o 7 then look_stretch a k else k
stretch (Ok (ReadWord o)) a k = none
stretch (Err e) a k = k

abbrev pub note_turn : Result Access Refusal → BusAnswer → Bool → ℕ → List Sample → Bool → Log → Log
note_turn x a begins selected out gap l =
    record {
      samples = if is_go x then [] else l.samples;
      current = if is_go x then none else if begins then some selected else l.current;
      handed = if is_go x then [] else l.handed ++ out;
      since_gap = if gap then [] else l.since_gap ++ out;
      running = if is_go x then true else if gap then false else l.running;
      waiting = stretch x a l.waiting;
      within = if is_go x then true else l.within;
    }

module _ (M : Machine) where
  -- what an access brings; where none is named, the number by which it is not
  abbrev pub brings_by : M.Board → Result Event Refusal → BusAnswer
  brings_by b (Ok ev) = brought_by (M.answered b ev)
  brings_by b (Err e) = bus.Refused e.number

  abbrev pub begins_by : M.Board → Result Event Refusal → Bool
  begins_by b (Ok ev) = M.begins b ev
  begins_by b (Err e) = false

  abbrev pub selected : M.Board → ℕ
  selected b = (M.view b).converter.selected

module _ (M : Machine) (H : Host) where
  -- the access that the collector makes now
  abbrev pub asks : System M → Result Access Refusal
  asks x = H.access x.collector

  abbrev pub note : System M → Happening → Log → Log
  note x turn l =
      note_turn (asks x) (brings_by M x.board (event_of (asks x))) (begins_by M x.board (event_of (asks x)))
      (selected M x.board) (given M H x turn) (gap M H x turn) l
  note x (world w) l =
      note_world (M.ends x.board (event_in w)) (M.begins x.board (event_in w)) (selected M x.board) l

  -- before a run nothing is written down
  abbrev pub blank : Log
  blank = record { samples = []; current = none; handed = []; since_gap = []; running = false; waiting = none; within = true }

  unfoldable pub log : System M → Run → Log
  log s begin = blank
  log s (r ▸ e) = note (after M H s r) e (log s r)
