-- Theorems that rest on theorems of specs/Went.antt, and promise as those do. What specs/Went.antt says of itself:
-- What went is what is counted: after any event the samples held are those before it, but for the oldest, as many as it counts read and cleared, and with its
-- own sample as the newest where it counts an end and no loss. The step does just this, on every working board; what is refused counts nothing and leaves them.
use Rattle.std.specs.Prelude.{ℕ, suc, ◌+◌, ◌-◌, ◌≡◌, refl, Bool, not, ◌&&◌, List, [], ◌∷◌, ◌++◌, length, take, drop, eqb, if◌then◌else◌}
use Rattle.std.proofs.Common.{sym, ◌∙◌, append-nil, ne_eqb, arith}
use Rattle.std.proofs.Math.Path.{ap}
use Rattle.std.proofs.Math.Bool.{true, false}
use Rattle.std.proofs.Math.Seq.{drop-length}
use Rattle.base.specs.Flags.{flag, nonzero}
use Rattle.fifo.specs.Samples.{oldest_of, pushed}
use Rattle.fifo.specs.Queue.{queue}
use Rattle.fifo.specs.Queue.Laws.{length_queue}
use Rattle.converter.specs.Codes.{sample_of}
use Rattle.bus.specs.Effects.{Effect, Take, Keep}
use Rattle.board_step.specs.Step.{samples_after, ran}
use Rattle.board_step.specs.States.{State, Works, after_event}
use Rattle.board_laws.specs.Begins.{ends, keeps}
use Rattle.board_laws.specs.Held.{Held, event_number, ran_held, happened, held_in, number-working, step-held}
use Rattle.tally_counts.specs.Counts.{reads, loses, empties, clears, no_counts, counts_of, counts_at}
use Rattle.tally_counts.specs.Effects.{empty_if, effect_of, effect_of_lem}
use Rattle.board_events.specs.declared.Event.{Event}
use Rattle.board_events.specs.declared.Event.TheVariants.{WriteByte, ReadByte, ReadWord, ConversionEnd, DinPins, LatchLevel, PortPins, Tick, TransferEnd}
use Rattle.tally_counts.specs.Went.{left_by}

-- ---- by what an event that is not refused does to them
as_before : (samples : List ℕ) → samples ≡ drop (0 + 0) samples ++ []
as_before samples = sym (append-nil samples)

taken-left : (t : Bool) (samples : List ℕ) → samples_after (if t then Take else Keep) samples ≡ drop (flag (t && nonzero (length samples)) + 0) samples ++ []
taken-left true [] = refl
taken-left true (x ∷ samples) =
    let n : eqb (length (x ∷ samples)) 0 ≡ false = ne_eqb (suc (length samples)) 0 (λ z. omega arith) in
    rw n (sym (append-nil samples))
taken-left false samples = as_before samples

emptied-left : (t : Bool) (samples : List ℕ) → samples_after (empty_if t) samples ≡ drop (0 + (if t then length samples else 0)) samples ++ []
emptied-left true samples = let z : 0 + length samples ≡ length samples = omega arith in rw (z, drop-length samples)
emptied-left false samples = as_before samples

stored_left : (t : Bool) (samples : List ℕ) (sample : ℕ)
    → (if t then samples ++ sample ∷ [] else samples) ≡ drop (0 + 0) samples ++ take (1 - flag (not t)) (sample ∷ [])
stored_left true samples sample = refl
stored_left false samples sample = as_before samples

module _ (h : Held) (l : length h.samples ≡ h.board.fifo.held) where
  by-effect : (ev : Event) → samples_after (effect_of ev) h.samples ≡ left_by (counts_of h.board ev) ev h.samples
  unfolding counts_of reads loses clears ends pushed
  by-effect (WriteByte n v) = rw (sym l) (emptied-left (empties (WriteByte n v)) h.samples)
  by-effect (ReadByte n) = rw (sym l) (taken-left (eqb n 1) h.samples)
  by-effect (ReadWord n) = rw (sym l) (taken-left true h.samples)
  by-effect (ConversionEnd code) = rw l (stored_left (keeps h.board) h.samples (sample_of code))
  by-effect (DinPins d) = as_before h.samples
  by-effect (LatchLevel level) = as_before h.samples
  by-effect (PortPins q v) = as_before h.samples
  by-effect Tick = as_before h.samples
  by-effect TransferEnd = as_before h.samples

  went-held : (ev : Event) → (happened h ev).samples ≡ left_by (if eqb (event_number h ev) 0 then counts_of h.board ev else no_counts) ev h.samples
  unfolding happened ran
  went-held ev = by (eqb (event_number h ev) 0)
    where
      by : (t : Bool)
          → (if◌then◌else◌ {A = Held} t (record { board = (ran_held h ev).board; samples = (ran_held h ev).samples; eeprom = (ran_held h ev).eeprom })
          h).samples
          ≡ left_by (if t then counts_of h.board ev else no_counts) ev h.samples
      by true = ap (λ (x : Effect). samples_after x h.samples) (effect_of_lem h.board (oldest_of h.samples) h.eeprom ev) ∙ by-effect ev
      by false = as_before h.samples

-- ---- any event of a working board
pub went : (s : State) (ev : Event) → Works s
    → queue (after_event s ev).board.fifo (after_event s ev).memory ≡ left_by (counts_at s ev) ev (queue s.board.fifo s.memory)
unfolding counts_at
went s ev w =
    let n = number-working s.board s.memory s.eeprom ev w.working w.long in
    ap (λ (h : Held). h.samples) (step-held s.board s.memory s.eeprom ev w.working w.long).held
    ∙ rw n (went-held (held_in s.board s.memory s.eeprom) (length_queue s.board.fifo s.memory w.working.fifo) ev)
