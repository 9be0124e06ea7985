-- The accesses of a start, and what happens outside a run: the parts `begins`, `polls`, `waits`, `ready` and `only-running` of demand 3. Assumes
-- nothing.
use Prim.Native.Nat.{ℕ, zero, suc, ◌≤◌, ◌<◌}
use Rattle.std.specs.Prelude.{true, false, [], ◌≡◌, Ok, Err}
use Rattle.std.proofs.Common.{true≢false, sym, ◌∙◌, arith}
use Rattle.std.proofs.Math.Path.{refl}
use Rattle.base.specs.Flags.{on}
use Rattle.base.specs.Checks.{refused_by}
use Rattle.board_events.specs.declared.Answer.TheVariants.{Done}
use Rattle.board_events.specs.declared.Event.TheVariants as event
use Rattle.collector_phases.specs.declared.Access.TheVariants.{WriteByte, ReadByte}
use Rattle.collector_phases.specs.declared.Collector.{Collector}
use Rattle.collector_settings.specs.declared.Settings.{Settings}
use Rattle.collector_steps.specs.declared.Taken.{Taken}
use Rattle.collector_phases.specs.declared.Phase.{Phase}
use Rattle.collector_phases.specs.declared.Phase.TheVariants.{Stop, Poll, Range, Clear, Low, High, Go, Look, Take, Drain, Stuck, Unknown}
use Rattle.collector_settings.specs.Settings.{clock_byte}
use Rattle.collector_phases.specs.Phases.{phase_of, access_in}
use Rattle.collector_answers.specs.declared.BusAnswer.{BusAnswer}
use Rattle.collector_answers.specs.declared.BusAnswer.TheVariants as bus
use Rattle.collector_answers.specs.Answers.{wide, STS}
use Rattle.collector_phases.specs.Fit.{FitCollector}
use Rattle.collector_phases.specs.Accesses.{access_of}
use Rattle.collector_replies.specs.Reply.{replied}
use Rattle.collector.specs.Handed.{samples_of, gap_marked}
use Rattle.collector.specs.Steps.{Step, access-fit}
use Rattle.collector.specs.Steps.{stopped, poll_no_byte, poll-free, poll-again, poll-last, ranged, cleared, lowered, raised, went, stands}
use Rattle.archive_turns.specs.Machine.{Machine}
use Rattle.archive_turns.specs.Turn.{taken_by}
use Rattle.archive_turns.specs.Hosts.{words}
use Rattle.archive_demand.specs.Run.{turn, world, Run, begin, ◌▸◌, System, turning, next, given, gap, after, turns}
use Rattle.archive_demand.specs.Demand.{look, Either, first, second}
use Rattle.archive_demand.specs.Laws.{Laws}
use Rattle.archive_demand.specs.Invariant.{Sound, sound}
use Rattle.archive_demand.specs.Yields.{turn_of_lem, step_in}

-- the phases of a start, and the stuck one
abbrev pub Starting : Phase → Type 0
Starting Stop = Unit {0}
Starting Poll = Unit {0}
Starting Range = Unit {0}
Starting Clear = Unit {0}
Starting Low = Unit {0}
Starting High = Unit {0}
Starting Go = Unit {0}
Starting Look = ⊥
Starting Take = ⊥
Starting Drain = ⊥
Starting Stuck = Unit {0}
Starting Unknown = ⊥

-- a reply that hands nothing over
pub record HandsNothing (r : Taken) : Type 0 where
  pub samples : samples_of r.handed ≡ []
  pub gap : gap_marked r.handed ≡ false

silent-step : (c : Collector) (a : BusAnswer) (p : Phase) (r : Taken) → Starting p → Step c a p r → HandsNothing r
silent-step c a Stop r s stopped = record { samples = refl; gap = refl }
silent-step c a Poll r s (poll_no_byte e) = record { samples = refl; gap = refl }
silent-step c a Poll r s (poll-free e f) = record { samples = refl; gap = refl }
silent-step c a Poll r s (poll-again e f g) = record { samples = refl; gap = refl }
silent-step c a Poll r s (poll-last e f g) = record { samples = refl; gap = refl }
silent-step c a Range r s ranged = record { samples = refl; gap = refl }
silent-step c a Clear r s cleared = record { samples = refl; gap = refl }
silent-step c a Low r s lowered = record { samples = refl; gap = refl }
silent-step c a High r s raised = record { samples = refl; gap = refl }
silent-step c a Go r s went = record { samples = refl; gap = refl }
silent-step c a Look r s _ = elim s [ ]
silent-step c a Take r s _ = elim s [ ]
silent-step c a Drain r s _ = elim s [ ]
silent-step c a Stuck r s stands = record { samples = refl; gap = refl }
silent-step c a Unknown r s _ = elim s [ ]

-- ---- the phases after a poll that finds no conversion in progress, by the turns since
abbrev onward : ℕ → Phase
onward zero = Range
onward (suc zero) = Clear
onward (suc (suc zero)) = Low
onward (suc (suc (suc zero))) = High
onward (suc (suc (suc (suc zero)))) = Go
onward (suc (suc (suc (suc (suc n))))) = Look

module _ (M : Machine) (Working : M.Board → Type 0) (laws : Laws M Working) where
  module _ (x : System M) (wk : Working x.board) (fc : FitCollector x.collector) where
    abbrev c : Collector
    c = x.collector

    abbrev b : M.Board
    b = x.board

    -- the reply to an access that is answered, in phase p
    module _ (p : Phase) (e : phase_of c.phase ≡ p) where
      -- a write
      wrote : (o n : ℕ) → access_in p c.settings ≡ Ok (WriteByte o n) → M.answered b (event.WriteByte o n) ≡ Done
          → turning M words x ≡ taken_by (replied c (bus.Number 0)) (M.stepped b (event.WriteByte o n))
      wrote o n a d = turn_of_lem M Working laws x fc ∙ rw (e, a, d)

      polled : access_in p c.settings ≡ Ok (ReadByte 8)
          → turning M words x ≡ taken_by (replied c (bus.Number (laws.polls b wk).byte)) (M.stepped b (event.ReadByte 8))
      polled a = turn_of_lem M Working laws x fc ∙ rw (e, a, (laws.polls b wk).serves.answers)

      st : (a : ℕ) → Step c (bus.Number a) p (replied c (bus.Number a))
      st a = step_in M Working laws c a p fc e

    abbrev Quietly : Type 0
    Quietly = (given M words x turn ≡ []) × (gap M words x turn ≡ false)

    by-reply : (r : Taken) (b' : M.Board) → turning M words x ≡ taken_by r b' → HandsNothing r → Quietly
    by-reply r b' e s = rw e (s.samples, s.gap)

    quiet_write : (p : Phase) → phase_of c.phase ≡ p → Starting p → (o n : ℕ) → access_in p c.settings ≡ Ok (WriteByte o n)
        → M.answered b (event.WriteByte o n) ≡ Done → Quietly
    quiet_write p e s o n a d =
        let r = replied c (bus.Number 0) in by-reply r _ (wrote p e o n a d) (silent-step c (bus.Number 0) p r s (st p e 0))

    pub quiet-turn : (p : Phase) → phase_of c.phase ≡ p → Starting p → Quietly
    quiet-turn Stop e s = quiet_write Stop e s 9 0 refl (laws.stops b wk).answers
    quiet-turn Poll e s =
        by-reply _ _ (polled Poll e refl) (silent-step c (bus.Number (laws.polls b wk).byte) Poll _ s (st Poll e (laws.polls b wk).byte))
    quiet-turn Range e s = quiet_write Range e s 11 c.settings.range refl (laws.ranges b c.settings.range wk).answers
    quiet-turn Clear e s = quiet_write Clear e s 7 2 refl (laws.clears b wk).answers
    quiet-turn Low e s =
        quiet_write Low e s 2 c.settings.low refl
        (laws.lows b c.settings.low (omega (arith, fc.settings.order, fc.settings.top)) wk).answers
    quiet-turn High e s = quiet_write High e s 3 c.settings.high refl (laws.highs b c.settings.high fc.settings.top wk).answers
    quiet-turn Go e s = quiet_write Go e s 9 (clock_byte c.settings) refl (laws.goes b c.settings wk).answers
    quiet-turn Stuck e s = rw (turn_of_lem M Working laws x fc, e) (refl, refl)
    quiet-turn Look e s = absurd s
    quiet-turn Take e s = absurd s
    quiet-turn Drain e s = absurd s
    quiet-turn Unknown e s = absurd s

    -- ---- each write of the start leads to the next
    to-phase : (r : Taken) (b' : M.Board) (q : Phase) → turning M words x ≡ taken_by r b' → phase_of r.collector.phase ≡ q
        → phase_of (next M words x turn).collector.phase ≡ q
    to-phase r b' q e f = rw e f

    step-on : (n : ℕ) → n < 5 → (r : Taken) → Step c (bus.Number 0) (onward n) r → phase_of r.collector.phase ≡ onward (suc n)
    unfolding phase_of
    step-on zero h r ranged = refl
    step-on (suc zero) h r cleared = refl
    step-on (suc (suc zero)) h r lowered = refl
    step-on (suc (suc (suc zero))) h r raised = refl
    step-on (suc (suc (suc (suc zero)))) h r went = refl
    step-on (suc (suc (suc (suc (suc n))))) h r s = absurd (omega arith)

    onward-turn : (n : ℕ) → n < 5 → phase_of c.phase ≡ onward n → phase_of (next M words x turn).collector.phase ≡ onward (suc n)
    onward-turn zero h e =
        to-phase _ _ Clear (wrote Range e 11 c.settings.range refl (laws.ranges b c.settings.range wk).answers) (step-on 0 h _ (st Range e 0))
    onward-turn (suc zero) h e = to-phase _ _ Low (wrote Clear e 7 2 refl (laws.clears b wk).answers) (step-on 1 h _ (st Clear e 0))
    onward-turn (suc (suc zero)) h e =
        to-phase _ _ High
        (wrote Low e 2 c.settings.low refl (laws.lows b c.settings.low (omega (arith, fc.settings.order, fc.settings.top)) wk).answers)
        (step-on 2 h _ (st Low e 0))
    onward-turn (suc (suc (suc zero))) h e =
        to-phase _ _ Go (wrote High e 3 c.settings.high refl (laws.highs b c.settings.high fc.settings.top wk).answers)
        (step-on 3 h _ (st High e 0))
    onward-turn (suc (suc (suc (suc zero)))) h e =
        to-phase _ _ Look (wrote Go e 9 (clock_byte c.settings) refl (laws.goes b c.settings wk).answers) (step-on 4 h _ (st Go e 0))
    onward-turn (suc (suc (suc (suc (suc n))))) h e = absurd (omega arith)

    free_on : (a : ℕ) (r : Taken) → wide a ≡ false → STS a ≡ false → Step c (bus.Number a) Poll r → phase_of r.collector.phase ≡ Range
    unfolding phase_of
    free_on a r w s (poll_no_byte e) = absurd (true≢false (sym e ∙ w))
    free_on a r w s (poll-free e f) = refl
    free_on a r w s (poll-again e f g) = absurd (true≢false (sym f ∙ s))
    free_on a r w s (poll-last e f g) = absurd (true≢false (sym f ∙ s))

    stopped-on : (r : Taken) → Step c (bus.Number 0) Stop r → phase_of r.collector.phase ≡ Poll
    unfolding phase_of
    stopped-on r stopped = refl

    stop-turn : phase_of c.phase ≡ Stop → phase_of (next M words x turn).collector.phase ≡ Poll
    stop-turn e = to-phase _ _ Poll (wrote Stop e 9 0 refl (laws.stops b wk).answers) (stopped-on _ (st Stop e 0))

    -- the collector polls again, or is stuck
    busy-on : (a : ℕ) (r : Taken) → wide a ≡ false → STS a ≡ true → Step c (bus.Number a) Poll r
        → Either (phase_of r.collector.phase ≡ Poll) (phase_of r.collector.phase ≡ Stuck)
    unfolding phase_of
    busy-on a r w s (poll_no_byte e) = absurd (true≢false (sym e ∙ w))
    busy-on a r w s (poll-free e f) = absurd (true≢false (sym s ∙ f))
    busy-on a r w s (poll-again e f g) = first refl
    busy-on a r w s (poll-last e f g) = second refl

    busy-turn : phase_of c.phase ≡ Poll → on (M.view b).converter.converting ≡ true
        → Either (phase_of (next M words x turn).collector.phase ≡ Poll) (phase_of (next M words x turn).collector.phase ≡ Stuck)
    busy-turn e f =
        let k = laws.polls b wk in
        rw (polled Poll e refl) (busy-on k.byte _ k.narrow (k.sts ∙ f) (st Poll e k.byte))

    poll-turn : phase_of c.phase ≡ Poll → on (M.view b).converter.converting ≡ false → phase_of (next M words x turn).collector.phase ≡ Range
    poll-turn e f =
        let k = laws.polls b wk in
        to-phase _ _ Range (polled Poll e refl) (free_on k.byte _ k.narrow (k.sts ∙ f) (st Poll e k.byte))

  goes_on : (t : Settings) (y : System M) → Sound M Working laws t y → (q : Run) → turns q ≤ 5 → phase_of y.collector.phase ≡ Range
      → phase_of (after M words y q).collector.phase ≡ onward (turns q)
  unfolding after turns
  goes_on t y s begin h e = e
  goes_on t y s (q ▸ turn) h e =
      let k = sound M Working laws t y q s in
      onward-turn (after M words y q) k.works k.fit (turns q) h (goes_on t y s q (omega arith) e)
  goes_on t y s (q ▸ world w) h e = goes_on t y s q h e

  pub ready_at : (t : Settings) (x : System M) → Sound M Working laws t x → phase_of x.collector.phase ≡ Poll
      → on (M.view x.board).converter.converting ≡ false → (q : Run) → turns q ≡ 5
      → access_of (after M words (next M words x turn) q).collector ≡ look
  unfolding after
  ready_at t x s p f q n =
      let s₁ : Sound M Working laws t (next M words x turn) = sound M Working laws t x (begin ▸ turn) s in
      let y : phase_of (after M words (next M words x turn) q).collector.phase ≡ onward (turns q)
      = goes_on t (next M words x turn) s₁ q (omega arith) (poll-turn x s.works s.fit p f) in
      access-fit _ (sound M Working laws t (next M words x turn) q s₁).fit ∙ rw (y, n)

  -- ---- the next access, by the phase that a turn leads to
  by-phase : (t : Settings) (x : System M) → Sound M Working laws t x → (p : Phase) → phase_of (next M words x turn).collector.phase ≡ p
      → access_of (next M words x turn).collector ≡ access_in p (next M words x turn).collector.settings
  unfolding after
  by-phase t x s p e = access-fit _ (sound M Working laws t x (begin ▸ turn) s).fit ∙ rw e

  pub polls-at : (t : Settings) (x : System M) → Sound M Working laws t x → phase_of x.collector.phase ≡ Stop
      → access_of (next M words x turn).collector ≡ Ok (ReadByte 8)
  polls-at t x s p = by-phase t x s Poll (stop-turn x s.works s.fit p)

  pub waits-at : (t : Settings) (x : System M) → Sound M Working laws t x → phase_of x.collector.phase ≡ Poll
      → on (M.view x.board).converter.converting ≡ true
      → Either (access_of (next M words x turn).collector ≡ Ok (ReadByte 8)) (access_of (next M words x turn).collector ≡ Err (refused_by 15))
  waits-at t x s p f = by (busy-turn x s.works s.fit p f)
    where
      by : Either (phase_of (next M words x turn).collector.phase ≡ Poll) (phase_of (next M words x turn).collector.phase ≡ Stuck)
          → Either (access_of (next M words x turn).collector ≡ Ok (ReadByte 8)) (access_of (next M words x turn).collector ≡ Err (refused_by 15))
      by (first e) = first (by-phase t x s Poll e)
      by (second e) = second (by-phase t x s Stuck e)
