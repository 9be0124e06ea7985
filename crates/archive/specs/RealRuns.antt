-- Runs on the board of `board::step` go by what it holds: they are those of a board that keeps its samples as a list. So they compute.
use Rattle.std.specs.Prelude.{Bool, true, false, ◌&&◌, ◌≡◌, refl, ℕ, replicate, Result, if◌then◌else◌}
use mathlib.Core.List.{List, [], IsPrefix}
use Rattle.std.proofs.Math.Option.{none}
use Rattle.std.proofs.Math.Path.{ap}
use Rattle.std.proofs.Common.{subst, ◌∙◌}
use Rattle.base.specs.declared.Refusal.{Refusal}
use Rattle.fifo.specs.Samples.{pushed}
use Rattle.fifo.specs.Queue.{layout, empty_fifo, pushed_to, popped_from}
use Rattle.fifo.specs.Queue.Laws.{queue-clear, clear-works}
use Rattle.fifo.specs.Flags.{flag_bits}
use Rattle.converter.specs.Channels.{next_channel}
use Rattle.converter.specs.Working.{WorkingConverter}
use Rattle.converter.specs.declared.channels.Converter.{Converter}
use Rattle.counter_modes.specs.Control.{command, setup_of}
use Rattle.counter_one.specs.Counter.{gate_moved}
use Rattle.timer.specs.Timer.{moved, clocked_if, gates_moved}
use Rattle.machine_record.specs.Fresh.{fresh_board}
use Rattle.machine_record.specs.Parts.{with_converter}
use Rattle.machine_clock.specs.Clock.{timer_moved}
use Rattle.machine_pins.specs.Pins.{din_moved, din0_clocked, din3_triggered, din_set}
use Rattle.machine_record.specs.Kept.{converter-kept, fresh-working}
use Rattle.machine_record.specs.declared.Board.{Board}
use Rattle.machine_record.specs.declared.Jumpers.TheVariants.{A}
use Rattle.bus.specs.Place.{place_of}
use Rattle.bus.specs.Registers.{write_checks, written_at, write_effect, read_checks, byte_at, after_read, read_effect}
use Rattle.board_refusal.specs.Refusals.{event_checks}
use Rattle.board_step.specs.Act.{acted, eeprom_acted}
use Rattle.board_step.specs.Step.{ran}
use Rattle.board_laws.specs.Held.{Held, held_answer, happened, step-held}
use Rattle.board_laws.specs.Begins.{begins, code_in}
use Rattle.collector_phases.specs.declared.Access.{Access}
use Rattle.collector_settings.specs.Settings.{start_refusal}
use Rattle.collector_phases.specs.Phases.{phase_of}
use Rattle.collector_phases.specs.Fit.{fit}
use Rattle.collector_phases.specs.Accesses.{access_of}
use Rattle.collector_replies.specs.Reply.{replied}
use Rattle.board_laws.specs.StretchSteps.{works-on}
use Rattle.board_step.specs.States.{State, Works}
use Rattle.archive_turns.specs.Machine.{Machine, Host}
use Rattle.archive_turns.specs.Real.{real}
use Rattle.archive_demand.specs.Run.{Run, System, after}
use Rattle.archive_demand.specs.Log.{Log, asks, log}
use Rattle.archive_demand.specs.Demand.{look, word_read, Either, Demand3}
use Rattle.archive.specs.RealViews.{holds, view_of, is_passed, takes-passes}
use Rattle.archive.specs.Simulates.{Simulates, after_same, log-same}
use Rattle.archive.specs.Trials.{from}

-- ---- the board that keeps its samples as a list
abbrev pub holding : Machine
holding =
    record {
      Board = Held;
      stepped = happened;
      answered = held_answer;
      view = view_of;
      begins = λ h ev. is_passed h ev && begins h.board ev;
      ends = λ h ev. if is_passed h ev then code_in ev else none;
    }

pub real-holding : Simulates real holding Works holds
real-holding =
    record {
      works = works-on;
      views = λ l. refl;
      steps = λ l ev w. (step-held l.board l.memory l.eeprom ev w.working w.long).held;
      answers = λ l ev w. (step-held l.board l.memory l.eeprom ev w.working w.long).answer;
      begins = λ l ev w. ap (λ (t : Bool). t && begins l.board ev) (takes-passes l ev w);
      ends = λ l ev w. ap (λ (t : Bool). if t then code_in ev else none) (takes-passes l ev w);
    }

-- ---- a fresh board, but for its converter
abbrev board_with : Converter → Board
board_with c = with_converter (fresh_board A false) c

abbrev pub lent_with : Converter → State
lent_with c = record { board = board_with c; memory = layout empty_fifo []; eeprom = replicate 128 0 }

pub lent-works : (c : Converter) → WorkingConverter c → Works (lent_with c)
lent-works c w =
    record {
      working = record { machine = converter-kept (fresh_board A false) (fresh-working A false) c w; fifo = clear-works };
      long = refl;
    }

abbrev held_with : Converter → List ℕ → Held
held_with c samples = record { board = board_with c; samples = samples; eeprom = replicate 128 0 }

abbrev pub held_from : Converter → Held
held_from c = held_with c []

-- ---- what the onlooker writes down of a run on it, and the next access: these compute
unfoldable pub held_log : Host → Converter → Run → Log
unfolding log after access_of replied fit start_refusal phase_of held_answer happened event_checks write_checks read_checks place_of ran acted eeprom_acted
    written_at write_effect byte_at after_read read_effect begins din_set din3_triggered din0_clocked din_moved timer_moved moved clocked_if gates_moved
    gate_moved command setup_of next_channel flag_bits pushed pushed_to popped_from
held_log H c r = log holding H (from holding (held_from c)) r

unfoldable pub held_access : Host → Converter → Run → Result Access Refusal
unfolding held_log
held_access H c r = asks holding H (after holding H (from holding (held_from c)) r)

abbrev Goes : Result Access Refusal → Type 0
Goes x = Either (x ≡ look) (x ≡ word_read)

module _ (H : Host) (c : Converter) (w : WorkingConverter c) (r : Run) where
  log-held : log real H (from real (lent_with c)) r ≡ held_log H c r
  unfolding held_log
  log-held =
      log-same real holding Works holds real-holding H (from real (lent_with c)) (lent-works c w) r
      ∙ ap (λ (l : List ℕ). log holding H (from holding (held_with c l)) r) queue-clear

  access-held : asks real H (after real H (from real (lent_with c)) r) ≡ held_access H c r
  unfolding held_access
  access-held =
      ap (λ (x : System holding). asks holding H x)
      (after_same real holding Works holds real-holding H (from real (lent_with c)) (lent-works c w) r)
      ∙ ap (λ (l : List ℕ). asks holding H (after holding H (from holding (held_with c l)) r)) queue-clear

  -- what is said of the notes of a run holds of the notes that compute
  pub by-notes : (P : Log → Type 0) → P (log real H (from real (lent_with c)) r) → P (held_log H c r)
  by-notes P p = subst P log-held p

  -- ---- two parts of demand 3, over what computes
  pub in_order-held : Demand3 real H (from real (lent_with c)) → (held_log H c r).within ≡ true
      → IsPrefix (held_log H c r).handed (held_log H c r).samples
  in_order-held f = by-notes (λ (l : Log). l.within ≡ true → IsPrefix l.handed l.samples) (f.in_order r)

  pub goes-on_held : Demand3 real H (from real (lent_with c)) → (held_log H c r).running ≡ true
      → Either (held_access H c r ≡ look) (held_access H c r ≡ word_read)
  goes-on_held f =
      subst (λ (x : Result Access Refusal). (held_log H c r).running ≡ true → Goes x) access-held
      (by-notes (λ (l : Log). l.running ≡ true → Goes (asks real H (after real H (from real (lent_with c)) r))) (f.goes_on r))
