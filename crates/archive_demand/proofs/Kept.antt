-- What holds in each phase of the collector is kept by its turn, and so by every run. Assumes nothing.
use Rattle.std.specs.Prelude.{ℕ, ◌≤◌, false, ◌≡◌, Result, Ok, Err, eqb}
use mathlib.Core.List.{List, [], ◌∷◌, append-nil}
use Rattle.std.proofs.Math.Option.{some}
use Rattle.std.proofs.Math.Path.{refl, sym}
use Rattle.std.proofs.Common.{◌∙◌, subst, arith}
use Rattle.base.specs.Flags.{on}
use Rattle.base.specs.Laws.{never}
use Rattle.base.specs.declared.Refusal.{Refusal}
use Rattle.base.specs.Checks.{refused_by}
use Rattle.board_events.specs.declared.Event.TheVariants as event
use Rattle.board_events.specs.declared.Answer.TheVariants.{Done, Byte}
use Rattle.collector_phases.specs.declared.Access.{Access}
use Rattle.collector_phases.specs.declared.Access.TheVariants.{WriteByte, ReadByte, ReadWord}
use Rattle.collector_phases.specs.declared.Collector.{Collector}
use Rattle.collector_settings.specs.declared.Settings.{Settings}
use Rattle.collector_steps.specs.declared.Taken.{Taken}
use Rattle.collector_phases.specs.declared.Phase.{Phase}
use Rattle.collector_phases.specs.declared.Phase.TheVariants.{Stop, Poll, Range, Clear, Low, High, Go, Look, Take, Drain, Stuck, Unknown}
use Rattle.collector_settings.specs.Settings.{clock_byte}
use Rattle.collector_phases.specs.Phases.{phase_of, access_in}
use Rattle.collector_answers.specs.declared.BusAnswer.{BusAnswer}
use Rattle.collector_answers.specs.declared.BusAnswer.TheVariants as bus
use Rattle.collector_answers.specs.Answers.{wide, STS}
use Rattle.collector_phases.specs.Fit.{FitIn, FitCollector}
use Rattle.collector_replies.specs.Reply.{replied}
use Rattle.collector.specs.Handed.{samples_of, gap_marked}
use Rattle.collector.specs.Handed.{is-go}
use Rattle.collector.specs.Steps.{Step, step}
use Rattle.collector.specs.Steps.{stopped, poll_no_byte, poll-free, poll-again, poll-last, ranged, cleared, lowered, raised, went}
use Rattle.collector.specs.Steps.{look_no_byte, look-empty, look-full, look-few}
use Rattle.archive_turns.specs.Machine.{View, Machine}
use Rattle.archive_turns.specs.Turn.{Turning, event_of, turn_by}
use Rattle.archive_turns.specs.Hosts.{words}
use Rattle.archive_demand.specs.Log.{Log, note_turn, brings_by, begins_by, selected}
use Rattle.archive_demand.specs.Laws.{Laws, Serves, Fetches, clken_written}
use Rattle.archive_demand.specs.Laws as view
use Rattle.archive_demand.specs.Phases.{Idle, no_loss, FactOf}
use Rattle.archive_demand.specs.Sights.{status, shows-some, shows-all, shows-few, first_of}
use Rattle.archive_demand.specs.Turns.{still, idle-on, quiet-on, running-on, looking-on, look-some, look-all}
use Rattle.archive_demand.specs.Fetched.{Now, After, take_after, drain_after}

module _ (M : Machine) (Working : M.Board → Type 0) (laws : Laws M Working) where
  module _ (b : M.Board) (wk : Working b) (c : Collector) (fc : FitCollector c) (l : Log) where
    abbrev t : Settings
    t = c.settings

    abbrev v : View
    v = M.view b

    abbrev ch : ℕ
    ch = selected M b

    -- the answer to a write is not looked at
    abbrev of_write : BusAnswer
    of_write = bus.Number 0

    -- ---- the start
    stop-after : (r : Taken) → Step c of_write Stop r → Now M b c l Stop → After M b c l (Ok (WriteByte 9 0)) of_write r (clken_written 0 v)
    unfolding phase_of
    stop-after r stopped k = rw (still (Ok (WriteByte 9 0)) of_write ch l refl) (idle-on l l.waiting k.0, k.1, refl)

    poll-after : (a : ℕ) (r : Taken) → wide a ≡ false → STS a ≡ on v.converter.converting → Step c (bus.Number a) Poll r → Now M b c l Poll
        → After M b c l (Ok (ReadByte 8)) (bus.Number a) r v
    unfolding phase_of
    poll-after a r q s (poll_no_byte e) k = never (sym q ∙ e)
    poll-after a r q s (poll-free e f) k =
        rw (still (Ok (ReadByte 8)) (bus.Number a) ch l refl) (record { idle = idle-on l l.waiting k.0; aim = k.1; off = k.2; still = sym s ∙ f })
    poll-after a r q s (poll-again e f g) k = rw (still (Ok (ReadByte 8)) (bus.Number a) ch l refl) (idle-on l l.waiting k.0, k.1, k.2)
    poll-after a r q s (poll-last e f g) k = rw (still (Ok (ReadByte 8)) (bus.Number a) ch l refl) (idle-on l l.waiting k.0)

    range-after : (r : Taken) → Step c of_write Range r → Now M b c l Range → After M b c l (Ok (WriteByte 11 t.range)) of_write r v
    unfolding phase_of
    range-after r ranged k = rw (still (Ok (WriteByte 11 t.range)) of_write ch l refl) (quiet-on l l.waiting t c.next v k)

    clear-after : (r : Taken) → Step c of_write Clear r → Now M b c l Clear → After M b c l (Ok (WriteByte 7 2)) of_write r (view.fifo_cleared v)
    unfolding phase_of
    clear-after r cleared k =
        rw (still (Ok (WriteByte 7 2)) of_write ch l refl)
        (record { idle = idle-on l l.waiting k.idle; aim = k.aim; off = k.off; still = k.still }, refl, refl)

    low-after : (r : Taken) → Step c of_write Low r → Now M b c l Low → After M b c l (Ok (WriteByte 2 t.low)) of_write r (view.low_written t.low v)
    unfolding phase_of
    low-after r lowered k =
        rw (still (Ok (WriteByte 2 t.low)) of_write ch l refl)
        (record { idle = idle-on l l.waiting k.0.idle; aim = k.0.aim; off = k.0.off; still = k.0.still }, k.1, k.2, refl)

    high_after : (r : Taken) → Step c of_write High r → Now M b c l High → After M b c l (Ok (WriteByte 3 t.high)) of_write r (view.high_written t.high v)
    unfolding phase_of
    high_after r raised k =
        rw (still (Ok (WriteByte 3 t.high)) of_write ch l refl)
        (record { idle = idle-on l l.waiting k.0.idle; aim = k.0.aim; off = k.0.off; still = k.0.still }, k.1, k.2, k.3, refl, k.3)

    go-after : (r : Taken) → Step c of_write Go r → Now M b c l Go → After M b c l (Ok (WriteByte 9 (clock_byte t))) of_write r (clken_written 1 v)
    unfolding phase_of
    go-after r went k =
        rw (is-go (eqb t.clock 0), append-nil l.since_gap) (
          record { since = rw k.0.idle.since (sym k.0.aim); runs = refl },
          λ w. record {
            Q = [];
            L = [];
            inner =
                record {
                  m = t.low;
                  k = t.low;
                  split = refl;
                  queue = k.0.aim;
                  lost = refl;
                  tail = rw k.0.still (refl, k.5);
                  is-low = k.3;
                  is-high = k.4;
                  no_scan = k.2;
                  from = rw k.5 (omega arith);
                  to = rw k.5 fc.settings.order;
                };
            holds = k.1;
            loss = no_loss refl;
          },
        )

    -- ---- the look
    look-after : (r : Taken) → phase_of c.phase ≡ Look → Step c (bus.Number (status M Working laws b wk)) Look r → Now M b c l Look
        → After M b c l (Ok (ReadByte 7)) (bus.Number (status M Working laws b wk)) r v
    unfolding phase_of
    look-after r p (look_no_byte e) k = never (sym (laws.looks b wk).narrow ∙ e)
    look-after r p (look-empty e f) k =
        rw (still (Ok (ReadByte 7)) (bus.Number (status M Working laws b wk)) ch l refl, p)
        (running-on l _ t c.next k.0, λ w. looking-on l _ t c.next v (k.1 w))
    look-after r p (look-full e f g) k =
        rw (still (Ok (ReadByte 7)) (bus.Number (status M Working laws b wk)) ch l refl) (
          running-on l _ t c.next k.0,
          λ w. look-all t c.next v l _ (shows-all M Working laws b wk g) (k.1 w),
          omega (arith, shows-all M Working laws b wk g),
        )
    look-after r p (look-few e f g) k =
        rw (still (Ok (ReadByte 7)) (bus.Number (status M Working laws b wk)) ch l refl, f, g) (
          running-on l (some 0) t c.next k.0,
          λ w. look-some t c.next v l (shows-few M Working laws b wk g) (k.1 w),
          shows-some M Working laws b wk f,
        )

    abbrev F : Fetches M b
    F = laws.words b wk

    -- ---- every phase
    abbrev T : Result Access Refusal → Turning M.Board
    T x = turn_by M words (event_of x) c b

    abbrev Kept : Result Access Refusal → Type 0
    Kept x =
        FactOf (T x).collector (M.view (T x).board)
        (note_turn x (brings_by M b (event_of x)) (begins_by M b (event_of x)) ch (samples_of (T x).handed) (gap_marked (T x).handed) l)

    write_kept : (o n : ℕ) (v' : View) → Serves M b (event.WriteByte o n) Done v' → After M b c l (Ok (WriteByte o n)) of_write (replied c of_write) v'
        → Kept (Ok (WriteByte o n))
    write_kept o n v' s k = rw (s.answers, s.leaves, s.begins-none) k

    read_kept : (o a : ℕ) → Serves M b (event.ReadByte o) (Byte a) v → After M b c l (Ok (ReadByte o)) (bus.Number a) (replied c (bus.Number a)) v
        → Kept (Ok (ReadByte o))
    read_kept o a s k = rw (s.answers, s.leaves, s.begins-none) k

    -- d is the oldest of those held
    word_kept : (d : ℕ) (rest : List ℕ) → v.held ≡ d ∷ rest
        → After M b c l (Ok (ReadWord 0)) (bus.Number d) (replied c (bus.Number d)) (M.view (M.stepped b (event.ReadWord 0))) → Kept (Ok (ReadWord 0))
    word_kept d rest h k = rw (F.oldest d rest h, F.begins-none) k

    stays : (n : ℕ) → Idle l → Idle (note_turn (Err (refused_by n)) (bus.Refused n) false ch [] false l)
    stays n i = rw (still (Err (refused_by n)) (bus.Refused n) ch l refl) (idle-on l l.waiting i)

    -- the step of a reply to a number, by the phase
    st : (a : ℕ) (p : Phase) → phase_of c.phase ≡ p → Step c (bus.Number a) p (replied c (bus.Number a))
    st a p e = subst (λ (q : Phase). Step c (bus.Number a) q (replied c (bus.Number a))) e (step c (bus.Number a) refl fc)

    pub turn-kept : (p : Phase) → phase_of c.phase ≡ p → Now M b c l p → Kept (access_in p t)
    turn-kept Stop e k = write_kept 9 0 (clken_written 0 v) (laws.stops b wk) (stop-after (replied c of_write) (st 0 Stop e) k)
    turn-kept Poll e k =
        let s = laws.polls b wk in
        read_kept 8 s.byte s.serves (poll-after s.byte (replied c (bus.Number s.byte)) s.narrow s.sts (st s.byte Poll e) k)
    turn-kept Range e k = write_kept 11 t.range v (laws.ranges b t.range wk) (range-after (replied c of_write) (st 0 Range e) k)
    turn-kept Clear e k = write_kept 7 2 (view.fifo_cleared v) (laws.clears b wk) (clear-after (replied c of_write) (st 0 Clear e) k)
    turn-kept Low e k =
        write_kept 2 t.low (view.low_written t.low v) (laws.lows b t.low (omega (arith, fc.settings.order, fc.settings.top)) wk)
        (low-after (replied c of_write) (st 0 Low e) k)
    turn-kept High e k =
        write_kept 3 t.high (view.high_written t.high v) (laws.highs b t.high fc.settings.top wk) (high_after (replied c of_write) (st 0 High e) k)
    turn-kept Go e k = write_kept 9 (clock_byte t) (clken_written 1 v) (laws.goes b t wk) (go-after (replied c of_write) (st 0 Go e) k)
    turn-kept Look e k =
        let a = status M Working laws b wk in
        read_kept 7 a (laws.looks b wk).serves (look-after (replied c (bus.Number a)) e (st a Look e) k)
    turn-kept Take e k =
        let h = first_of v.held k.2 in
        word_kept h.0 h.1 h.2 (take_after M Working laws b wk c fc l h.0 h.1 h.2 (replied c (bus.Number h.0)) (st h.0 Take e) k)
    turn-kept Drain e k =
        let n : 1 ≤ c.left = (subst (λ (q : Phase). FitIn q c) e fc.phase).0 in
        let h = first_of v.held (omega (arith, k.2)) in
        word_kept h.0 h.1 h.2 (drain_after M Working laws b wk c fc l h.0 h.1 h.2 (replied c (bus.Number h.0)) (st h.0 Drain e) k)
    turn-kept Stuck e k = rw e (stays 15 k)
    turn-kept Unknown e k = absurd k
