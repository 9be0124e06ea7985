-- The ways out of an event's step: what its answer, record and memories are where a check refuses it, and where none does. Laws for the proofs of the
-- functions that make a step, over plain values.
use Rattle.std.specs.Prelude.{◌≡◌, refl, Bool, true, not, List, ◌∷◌, ℕ, length, eqb, Result, Ok, Err, is_err, if◌then◌else◌}
use Rattle.std.proofs.Math.Path.{sym}
use Rattle.std.proofs.Common.{◌∙◌, arith}
use Rattle.std.proofs.Math.Bool.{false}
use Rattle.base.specs.declared.Refusal.{Refusal}
use Rattle.base.specs.Checks.{◌refuses◌, refusal, refused_by, checked}
use Rattle.base.specs.Laws.{not_not, not_true}
use Rattle.base.specs.Unrefused.{passes}
use Rattle.fifo.specs.Queue.{queue, layout}
use Rattle.machine_record.specs.declared.Board.{Board}
use Rattle.board_stores.specs.Stores.{wrong_lengths}
use Rattle.board_stores.specs.Lengths.{right_lengths}
use Rattle.board_refusal.specs.Working.{is_working_board, WorkingBoard, board_of}
use Rattle.board_refusal.specs.Refusals.{event_checks, checks, first_checks}
use Rattle.board_step.specs.Step.{Did, ran_from, step_of, memory_after, eeprom_after}
use Rattle.board_step.specs.declared.Outcome.{Outcome}
use Rattle.board_events.specs.declared.Answer.TheVariants.{Refused}
use Rattle.board_events.specs.declared.Event.{Event}

-- what the contract of each kind of event says
abbrev pub Promised : Board → List ℕ → List ℕ → Event → Outcome → List ℕ → List ℕ → Type 0
Promised b m e ev r m' e' =
    record { value : r ≡ step_of b m e ev; memory_after : m' ≡ memory_after b m e ev; eeprom_after : e' ≡ eeprom_after b m e ev }

-- both checks before the event's own were passed
pub record Opened (b : Board) (m e : List ℕ) : Type 0 where
  pub long : wrong_lengths m e ≡ false
  pub working : is_working_board b m ≡ true

-- from the two tests that the code makes
pub opened : {b : Board} {m e : List ℕ} {w : Bool} → wrong_lengths m e ≡ false → w ≡ is_working_board b m → not w ≡ false → Opened b m e
opened {w = w} l k h = record { long = l; working = sym k ∙ not_not w h }

-- from the check that the code makes
pub passed : {b : Board} {m e : List ℕ} {r : Result (Unit {0}) Refusal} {u : Unit {0}} → r ≡ checked (first_checks b m e) → r ≡ Ok u → Opened b m e
passed {b} {m} {e} {u = u} k h = both (wrong_lengths m e) (is_working_board b m) refl refl (sym k ∙ h)
  where
    both : (w t : Bool) → wrong_lengths m e ≡ w → is_working_board b m ≡ t → checked (first_checks b m e) ≡ Ok u → Opened b m e
    both true t p q h = absurd (let z : ◌≡◌ {A = Result (Unit {0}) Refusal} (Err (refused_by 2)) (Ok u) = rw p at h in cc)
    both false true p q h = record { long = p; working = q }
    both false false p q h = absurd (let z : ◌≡◌ {A = Result (Unit {0}) Refusal} (Err (refused_by 1)) (Ok u) = rw (p, q) at h in cc)

-- from a step that is not refused
pub opens : (b : Board) (m e : List ℕ) (ev : Event) → refusal (checks b m e ev) ≡ 0 → Opened b m e
unfolding checks
opens b m e ev h =
    let p = passes (wrong_lengths m e) 2 (not (is_working_board b m) refuses 1 ∷ event_checks b ev) (omega arith) h in
    record { long = p.0; working = not_not _ (passes (not (is_working_board b m)) 1 (event_checks b ev) (omega arith) p.1).0 }

pub works : {b : Board} {m : List ℕ} {w : Bool} → w ≡ is_working_board b m → not w ≡ false → WorkingBoard b m
works {b} {m} {w = w} k h = board_of b m (sym k ∙ not_not w h)

pub working : {b : Board} {m e : List ℕ} → Opened b m e → WorkingBoard b m
working {b} {m} o = board_of b m o.working

pub works_on : (b : Board) (m e : List ℕ) {r : Result (Unit {0}) Refusal} {u : Unit {0}} → r ≡ checked (first_checks b m e) → r ≡ Ok u
    → WorkingBoard b m
works_on b m e k h = working (passed {b = b} {m = m} {e = e} k h)

-- the same of a check of which the code only asks whether it is an error
pub unstopped : {b : Board} {m e : List ℕ} {r : Result (Unit {0}) Refusal} → r ≡ checked (first_checks b m e) → is_err r ≡ false → Opened b m e
unstopped {b} {m} {e} k h = both (wrong_lengths m e) (is_working_board b m) refl refl (rw k at h)
  where
    both : (w t : Bool) → wrong_lengths m e ≡ w → is_working_board b m ≡ t → is_err (checked (first_checks b m e)) ≡ false → Opened b m e
    both true t p q h = absurd (let z : true ≡ false = rw p at h in cc)
    both false true p q h = record { long = p; working = q }
    both false false p q h = absurd (let z : true ≡ false = rw (p, q) at h in cc)

pub stops : (b : Board) (m e : List ℕ) (ev : Event) {r : Result (Unit {0}) Refusal} → r ≡ checked (first_checks b m e) → is_err r ≡ true
    → eqb (refusal (checks b m e ev)) 0 ≡ false
unfolding checks
stops b m e ev k h = both (wrong_lengths m e) (is_working_board b m) refl refl (rw k at h)
  where
    both : (w t : Bool) → wrong_lengths m e ≡ w → is_working_board b m ≡ t → is_err (checked (first_checks b m e)) ≡ true
        → eqb (refusal (checks b m e ev)) 0 ≡ false
    both true t p q h = rw p
    both false false p q h = rw (p, q)
    both false true p q h = absurd (let z : false ≡ true = rw (p, q) at h in cc)

-- the memory of a working board is the one that holds its samples, and the EEPROM has its length
pub laid : {b : Board} {m e : List ℕ} → Opened b m e → m ≡ layout b.fifo (queue b.fifo m)
laid o = (working o).fifo.laid

pub eeprom-long : (m e : List ℕ) → wrong_lengths m e ≡ false → length e ≡ 128
eeprom-long m e h = (right_lengths m e h).1

module _ (b : Board) (m e : List ℕ) (ev : Event) where
  -- refused by 2
  pub wrong : wrong_lengths m e ≡ true → Promised b m e ev (record { board = b; answer = Refused 2 }) m e
  unfolding step_of memory_after eeprom_after checks
  wrong h = record { value = rw h; memory_after = rw h; eeprom_after = rw h }

  -- refused by 1
  pub broken : {w : Bool} → wrong_lengths m e ≡ false → w ≡ is_working_board b m → not w ≡ true
      → Promised b m e ev (record { board = b; answer = Refused 1 }) m e
  unfolding step_of memory_after eeprom_after checks
  broken {w} l k h = let f : is_working_board b m ≡ false = sym k ∙ not_true w h in
      record { value = rw (l, f); memory_after = rw (l, f); eeprom_after = rw (l, f) }

  -- the refusal is that of all checks
  pub first : {x : Result (Unit {0}) Refusal} {r : Refusal} → x ≡ checked (first_checks b m e) → x ≡ Err r
      → (refusal (checks b m e ev) ≡ r.number) × (eqb r.number 0 ≡ false)
  unfolding checks
  first {x} {r} k h = both (wrong_lengths m e) (is_working_board b m) refl refl (sym k ∙ h)
    where
      both : (w t : Bool) → wrong_lengths m e ≡ w → is_working_board b m ≡ t → checked (first_checks b m e) ≡ Err r
          → (refusal (checks b m e ev) ≡ r.number) × (eqb r.number 0 ≡ false)
      both true t p q h =
          let z : ◌≡◌ {A = Result (Unit {0}) Refusal} (Err (refused_by 2)) (Err r) = rw p at h in
          let y : refused_by 2 ≡ r = cc in
          rw (sym y, p) (refl, refl)
      both false false p q h =
          let z : ◌≡◌ {A = Result (Unit {0}) Refusal} (Err (refused_by 1)) (Err r) = rw (p, q) at h in
          let y : refused_by 1 ≡ r = cc in
          rw (sym y, p, q) (refl, refl)
      both false true p q h =
          absurd (let z : ◌≡◌ {A = Result (Unit {0}) Refusal} (Ok tt) (Err r) = rw (p, q) at h in cc)

  -- refused by the first checks
  pub stopped : {x : Result (Unit {0}) Refusal} {r : Refusal} → x ≡ checked (first_checks b m e) → x ≡ Err r
      → Promised b m e ev (record { board = b; answer = Refused r.number }) m e
  unfolding step_of memory_after eeprom_after
  stopped k h = let f = first k h in record { value = rw (f.0, f.1); memory_after = rw (f.0, f.1); eeprom_after = rw (f.0, f.1) }

  -- refused by a check of the event's own
  pub refused : {n : ℕ} → Opened b m e → refusal (event_checks b ev) ≡ n → eqb n 0 ≡ false
      → Promised b m e ev (record { board = b; answer = Refused n }) m e
  unfolding step_of memory_after eeprom_after checks
  refused o k z =
      record { value = rw (o.long, o.working, k, z); memory_after = rw (o.long, o.working, k, z); eeprom_after = rw (o.long, o.working, k, z) }

  -- not refused
  pub done : {r : Outcome} {m' e' : List ℕ} → Opened b m e → refusal (event_checks b ev) ≡ 0 → Did (ran_from b m e ev) r m' e'
      → Promised b m e ev r m' e'
  unfolding step_of memory_after eeprom_after checks
  done o k d =
      record {
        value = rw (o.long, o.working, k) d.outcome;
        memory_after = rw (o.long, o.working, k) d.memory;
        eeprom_after = rw (o.long, o.working, k) d.eeprom;
      }

-- a test that the code made, in a definition's choice
pub chosen : {A : Type 0} {t x : Bool} (i j : A) → t ≡ x → t ≡ true → (if x then i else j) ≡ i
chosen i j k h = rw (sym k ∙ h)

pub passed_over : {A : Type 0} {t x : Bool} (i j : A) → t ≡ x → t ≡ false → (if x then i else j) ≡ j
passed_over i j k h = rw (sym k ∙ h)
