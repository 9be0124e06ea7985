-- The collector's accesses on the bus of the board of `board::step` (the specification, "Registers" and "The collector").
use Rattle.std.specs.Prelude.{ℕ, ◌+◌, ◌%◌, ◌≤◌, Bool, List, ◌∷◌, ◌≡◌, eqb, leb, length, if◌then◌else◌}
use Rattle.std.proofs.Math.Bool.{true, false}
use Rattle.std.proofs.Math.Path.{refl, ap}
use Rattle.std.proofs.Common.{sym, ◌∙◌, le-ltb, eq-eqb, ne_eqb, leb-true, leb-false}
use native.Mathlib.Omega.{arith}
use Rattle.base.specs.Flags.{on}
use Rattle.base.specs.Weights.{weight_le}
use Rattle.base.specs.Shown.{shows}
use Rattle.fifo.specs.Samples.{oldest_of}
use Rattle.fifo.specs.Queue.{queue}
use Rattle.fifo.specs.Queue.Laws.{length_queue}
use Rattle.machine_record.specs.View.{single_ended}
use Rattle.machine_record.specs.Fits.{single_fits}
use Rattle.machine_record.specs.declared.Board.{Board}
use Rattle.bus.specs.Place.{place_of}
use Rattle.bus.specs.Bytes.{ad_bits}
use Rattle.bus.specs.Registers.{write_checks, written_at, write_effect, read_checks, byte_at, after_read, read_effect}
use Rattle.board_refusal.specs.Refusals.{event_checks}
use Rattle.board_step.specs.Act.{acted}
use Rattle.board_step.specs.Acted.{word_read_answer}
use Rattle.board_step.specs.Step.{ran}
use Rattle.board_laws.specs.Held.{Held, held_answer, happened}
use Rattle.board_laws.specs.Begins.{begins}
use Rattle.board_laws.specs.StatusLaws.{status_byte, status-narrow, ef-shown, ff-shown}
use Rattle.board_events.specs.declared.Answer.TheVariants.{Done, Byte}
use Rattle.board_events.specs.declared.Event.TheVariants.{WriteByte, ReadByte, ReadWord}
use Rattle.board_step.specs.States.{State, Works}
use Rattle.archive_turns.specs.Real.{real}
use Rattle.archive_demand.specs.Laws.{clken_written, fifo_cleared, low_written, high_written, leaving, Serves, Polls, Looks, Fetches}
use Rattle.archive.specs.RealViews.{holds, view_of, Makes, serves}

-- the byte that is read at 8
abbrev polled : Board → ℕ
polled b = ad_bits b.converter b.wiring.inputs

module _ (h : Held) where
  -- ---- the writes of a start
  pub stops : Makes h (WriteByte 9 0) Done (clken_written 0 (view_of h))
  unfolding held_answer happened event_checks write_checks place_of ran acted written_at write_effect begins
  stops = record { answers = refl; leaves = refl; begins-none = refl }

  pub ranges : (n : ℕ) → Makes h (WriteByte 11 n) Done (view_of h)
  unfolding held_answer happened event_checks write_checks place_of ran acted written_at write_effect begins
  ranges n = record { answers = refl; leaves = refl; begins-none = refl }

  pub clears : Makes h (WriteByte 7 2) Done (fifo_cleared (view_of h))
  unfolding held_answer happened event_checks write_checks place_of ran acted written_at write_effect begins
  clears = record { answers = refl; leaves = refl; begins-none = refl }

  pub lows : (n : ℕ) → n ≤ 31 → Makes h (WriteByte 2 n) Done (low_written n (view_of h))
  unfolding held_answer happened event_checks write_checks place_of ran acted written_at write_effect begins
  lows n k =
      record {
        answers = refl;
        leaves = ap (λ (x : ℕ). low_written x (view_of h)) (let e : n % 32 ≡ n = omega arith in e);
        begins-none = refl;
      }

  pub highs : (n : ℕ) → n ≤ 31 → Makes h (WriteByte 3 n) Done (high_written n (view_of h))
  unfolding held_answer happened event_checks write_checks place_of ran acted written_at write_effect begins
  highs n k =
      record {
        answers = refl;
        leaves = ap (λ (x : ℕ). high_written x (view_of h)) (let e : n % 32 ≡ n = omega arith in e);
        begins-none = refl;
      }

  pub goes : (external : Bool) → Makes h (WriteByte 9 (if external then 2 else 3)) Done (clken_written 1 (view_of h))
  unfolding held_answer happened event_checks write_checks place_of ran acted written_at write_effect begins
  goes true = record { answers = refl; leaves = refl; begins-none = refl }
  goes false = record { answers = refl; leaves = refl; begins-none = refl }

  -- ---- the reads
  poll : Makes h (ReadByte 8) (Byte (polled h.board)) (view_of h)
  unfolding held_answer happened event_checks read_checks place_of ran acted byte_at after_read read_effect begins
  poll = record { answers = refl; leaves = refl; begins-none = refl }

  look : Makes h (ReadByte 7) (Byte (status_byte h.board)) (view_of h)
  unfolding held_answer happened event_checks read_checks place_of ran acted byte_at after_read read_effect begins
  look = record { answers = refl; leaves = refl; begins-none = refl }

  fetch : Makes h (ReadWord 0) (word_read_answer (oldest_of h.samples)) (view_of (happened h (ReadWord 0)))
  unfolding held_answer happened event_checks ran acted begins
  fetch = record { answers = refl; leaves = refl; begins-none = refl }

  -- the word read takes the oldest sample
  fetched : (c : ℕ) (rest : List ℕ) → h.samples ≡ c ∷ rest → view_of (happened h (ReadWord 0)) ≡ leaving rest (view_of h)
  unfolding happened event_checks ran acted
  fetched c rest e = rw e

-- ---- the poll: STS
pub polls : (l : State) → Works l → Polls real l
polls l w =
    record {
      byte = polled l.board;
      serves = serves l _ _ _ w (poll (holds l));
      narrow =
          le-ltb 255 (polled l.board) (omega (arith, weight_le (on l.board.converter.converting) 128, single_fits l.board.wiring.inputs));
      sts =
          shows (polled l.board) 0 7 (l.board.converter.selected % 32 + single_ended l.board.wiring.inputs) (on l.board.converter.converting)
          (omega arith) (omega (arith, single_fits l.board.wiring.inputs));
    }

-- ---- the look: EF and FF
empty-flag : (n : ℕ) → eqb n 0 ≡ leb n 0
empty-flag n = by (leb n 0) refl
  where
    by : (t : Bool) → leb n 0 ≡ t → eqb n 0 ≡ t
    by true e = eq-eqb n 0 (omega (arith, leb-true n 0 e))
    by false e = ne_eqb n 0 (λ z. omega (arith, leb-false n 0 e))

full-flag : (n : ℕ) → n ≤ 512 → eqb n 512 ≡ leb 512 n
full-flag n h = by (leb 512 n) refl
  where
    by : (t : Bool) → leb 512 n ≡ t → eqb n 512 ≡ t
    by true e = eq-eqb n 512 (omega (arith, leb-true 512 n e))
    by false e = ne_eqb n 512 (λ z. omega (arith, leb-false 512 n e))

pub looks : (l : State) → Works l → Looks real l
looks l w =
    let f = l.board.fifo in
    let e : length (queue f l.memory) ≡ f.held = length_queue f l.memory w.working.fifo in
    record {
      byte = status_byte l.board;
      serves = serves l _ _ _ w (look (holds l));
      narrow = le-ltb 255 (status_byte l.board) (status-narrow l.board);
      ef = ef-shown l.board ∙ empty-flag f.held ∙ ap (λ (k : ℕ). leb k 0) (sym e);
      ff = ff-shown l.board ∙ full-flag f.held w.working.fifo.held ∙ ap (λ (k : ℕ). leb 512 k) (sym e);
    }

-- ---- the word read
pub words : (l : State) → Works l → Fetches real l
words l w =
    let s : Serves real l (ReadWord 0) (word_read_answer (oldest_of (holds l).samples)) (view_of (happened (holds l) (ReadWord 0))) =
    serves l _ _ _ w (fetch (holds l)) in
    record {
      begins-none = s.begins-none;
      oldest = λ c rest e. s.answers ∙ ap (λ (h : List ℕ). word_read_answer (oldest_of h)) e;
      leaves = λ c rest e. s.leaves ∙ fetched (holds l) c rest e;
      none = λ e. s.answers ∙ ap (λ (h : List ℕ). word_read_answer (oldest_of h)) e;
    }
