-- A fit collector stays fit: a start makes a fit one, and every answer leaves one.
use Rattle.std.specs.Prelude.{ℕ, ◌+◌, ◌-◌, ◌≤◌, ◌<◌, ◌≡◌, refl, Bool, true, false, Ok, Err, eqb, leb, if◌then◌else◌}
use native.Mathlib.Omega.{arith}
use borrow.Author.Tests.{eqb-true, eqb-false, leb-true, leb-false}
use Rattle.base.specs.Laws.{by-test}
use Rattle.base.specs.Checks.{refused_by}
use Rattle.collector_settings.specs.declared.Settings.{Settings}
use Rattle.collector_phases.specs.declared.Collector.{Collector}
use Rattle.collector_phases.specs.declared.Phase.{Phase}
use Rattle.collector_phases.specs.declared.Phase.TheVariants.{Stop, Poll, Range, Clear, Low, High, Go, Look, Take, Drain, Stuck, Unknown}
use Rattle.collector_answers.specs.declared.BusAnswer.{BusAnswer}
use Rattle.collector_steps.specs.declared.Taken.{Taken}
use Rattle.collector_settings.specs.Settings.{start_refusal}
use Rattle.collector_phases.specs.Phases.{phase_number, phase_of}
use Rattle.collector_phases.specs.Fit.{FitSettings, FitIn, FitCollector}
use Rattle.collector_replies.specs.Joined.{settings_of, settings-to}
use Rattle.collector_records.specs.Records.{first_record, start_of, entered, poll_counted, draining, follows, following, passed}
use Rattle.collector_replies.specs.Reply.{replied}
use Rattle.collector.specs.Steps.{Step, Reply, stepped, stays, reply}
use Rattle.collector.specs.Steps.{stopped, poll_no_byte, poll-free, poll-again, poll-last, ranged, cleared, lowered, raised, went}
use Rattle.collector.specs.Steps.{look_no_byte, look-empty, look-full, look-few, taken, take_nothing, drained, closed, drain_nothing, stands}

-- ---- a start
pub begun-fit : (s : Settings) → FitSettings s → FitCollector (first_record s)
unfolding phase_of
begun-fit s f = record { settings = f; from_low = omega arith; to_high = f.order; polls = omega arith; phase = refl }

-- a start that is taken is the first record of fit settings
pub started-begun : (s : Settings) (c : Collector) → start_of s ≡ Ok c → (c ≡ first_record s) × FitSettings s
unfolding start_of
started-begun s c h = from (eqb (start_refusal s) 0) refl h
  where
    from : (b : Bool) → eqb (start_refusal s) 0 ≡ b → (if b then Ok (first_record s) else Err (refused_by (start_refusal s))) ≡ Ok c
        → (c ≡ first_record s) × FitSettings s
    from true e g = (cc, settings_of s (eqb-true _ _ e))
    from false e g = absurd (let z : ◌≡◌ {A = ℕ} 0 1 = cc in omega arith)

-- fit settings are taken
pub started-fit : (s : Settings) → FitSettings s → start_of s ≡ Ok (first_record s)
unfolding start_of
started-fit s f = rw (settings-to s f)

-- ---- channels of a range
pub follows-from : (t : Settings) (n : ℕ) → FitSettings t → t.low ≤ n → t.low ≤ follows t n
follows-from t n f h = by-test (λ (k : ℕ). t.low ≤ k) (eqb n t.high) (λ e. omega arith) (λ e. omega arith)

above : (m n : ℕ) → m ≤ n → (m ≡ n → ⊥) → m + 1 ≤ n
above m n h f = by (leb (m + 1) n) refl
  where
    by : (b : Bool) → leb (m + 1) n ≡ b → m + 1 ≤ n
    by true t = leb-true _ _ t
    by false t = absurd (f (let g : n < m + 1 = leb-false (m + 1) n t in omega arith))

pub follows_to : (t : Settings) (n : ℕ) → FitSettings t → n ≤ t.high → follows t n ≤ t.high
follows_to t n f h =
    by-test (λ (k : ℕ). k ≤ t.high) (eqb n t.high) (λ e. f.order) (λ e. above n t.high h (eqb-false _ _ e))

module _ (c : Collector) (w : FitCollector c) where
  -- ---- the parts of a step
  entered-fit : (n : ℕ) → FitIn (phase_of n) (entered c n) → FitCollector (entered c n)
  entered-fit n f = record { settings = w.settings; from_low = w.from_low; to_high = w.to_high; polls = w.polls; phase = f }

  counted-fit : (n : ℕ) → c.polls < c.settings.limit → FitIn (phase_of n) (poll_counted c n) → FitCollector (poll_counted c n)
  counted-fit n h f = record { settings = w.settings; from_low = w.from_low; to_high = w.to_high; polls = omega arith; phase = f }

  pub draining-fit : FitCollector (draining c)
  unfolding phase_of
  draining-fit =
      record { settings = w.settings; from_low = w.from_low; to_high = w.to_high; polls = w.polls; phase = (omega arith, omega arith) }

  following-from : c.settings.low ≤ following c
  following-from = follows-from c.settings c.next w.settings w.from_low

  following-to : following c ≤ c.settings.high
  following-to = follows_to c.settings c.next w.settings w.to_high

  passed-fit : (n left : ℕ) → FitIn (phase_of n) (passed c n left) → FitCollector (passed c n left)
  passed-fit n left f =
      record { settings = w.settings; from_low = following-from; to_high = following-to; polls = w.polls; phase = f }

  -- ---- every step
  kept : (a : BusAnswer) (p : Phase) (r : Taken) → FitIn p c → Step c a p r → FitCollector r.collector
  unfolding phase_of
  kept a Stop r f stopped =
      entered-fit (phase_number Poll) (let k : 1 ≤ c.settings.limit = w.settings.some-polls in let z : c.polls ≡ 0 = f in omega arith)
  kept a Poll r f (poll_no_byte e) = w
  kept a Poll r f (poll-free e t) = counted-fit (phase_number Range) f tt
  kept a Poll r f (poll-again e t l) = counted-fit (phase_number Poll) f (let g : c.polls + 1 < c.settings.limit = leb-false _ _ l in g)
  kept a Poll r f (poll-last e t l) = counted-fit (phase_number Stuck) f tt
  kept a Range r f ranged = entered-fit (phase_number Clear) tt
  kept a Clear r f cleared = entered-fit (phase_number Low) tt
  kept a Low r f lowered = entered-fit (phase_number High) tt
  kept a High r f raised = entered-fit (phase_number Go) tt
  kept a Go r f went = entered-fit (phase_number Look) tt
  kept a Look r f (look_no_byte e) = w
  kept a Look r f (look-empty e t) = w
  kept a Look r f (look-full e t l) = draining-fit
  kept a Look r f (look-few e t l) = entered-fit (phase_number Take) tt
  kept a Take r f (take_nothing n) = w
  kept a Take r f (taken word n) = passed-fit (phase_number Look) c.left tt
  kept a Drain r f (drain_nothing n) = w
  kept a Drain r f (drained word n e) =
      passed-fit (phase_number Drain) (c.left - 1)
      (let g : 1 < c.left = leb-false _ _ e in let h : c.left ≤ 512 = f.1 in (omega arith, omega arith))
  kept a Drain r f (closed word n e) = begun-fit c.settings w.settings
  kept a Stuck r f stands = w
  kept a Unknown r f _ = elim f [ ]

  pub replied-fit : (a : BusAnswer) → FitCollector (replied c a).collector
  replied-fit a = by a (replied c a) (reply c a w)
    where
      by : (a : BusAnswer) (r : Taken) → Reply c a r → FitCollector r.collector
      by a r (stepped _ _ t s) = kept a (phase_of c.phase) r w.phase s
      by a r (stays n number) = w
