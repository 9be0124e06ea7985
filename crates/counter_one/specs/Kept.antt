-- Each event of a counter keeps a working counter working, and a fresh one is. The specification, "What is delivered".
use Rattle.std.specs.Prelude.{◌≡◌, ℕ, ◌/◌, ◌%◌, Bool, true, false, ◌==◌, ◌≢◌, refl, Option, Some}
use Rattle.std.proofs.Common.{ap, sym, ◌∙◌, arith}
use Rattle.std.proofs.Math.Path.{subst⁻¹}
use Rattle.std.proofs.lemmas.Bool.{eqb-false}
use Rattle.base.specs.Flags.{on, flag-le}
use Rattle.base.specs.Laws.{by-test, under_and}
use Rattle.counter_modes.specs.Modes.{from_two}
use Rattle.counter_modes.specs.Control.{command, setup_of}
use Rattle.counter_element.specs.Element.{piece_taken}
use Rattle.counter_element.specs.Working.{first-works, piece_works, gate-works, pulse_works}
use Rattle.counter_bytes.specs.Bytes.{piece_of}
use Rattle.counter_bytes.specs.Working.{none-works, after-works, read-works, latch-works}
use Rattle.counter_one.specs.BySetup.{by_setup}
use Rattle.counter_one.specs.Counter.{unprogrammed, programmed, latched_as, commanded_by, commanded, pulsed_as, pulsed, gate_moved_as, gate_moved}
use Rattle.counter_one.specs.Counter.{counter_read_as, counter_read, piece_refused, piece_written, byte_written_as, byte_written}
use Rattle.counter_one.specs.Pulsed.{register-taken}
use Rattle.counter_one.specs.Working.{Flags, Facts, WorkingCounter}
use Rattle.counter_modes.specs.declared.Mode.{Mode}
use Rattle.counter_modes.specs.declared.Format.{Format}
use Rattle.counter_modes.specs.declared.ControlCommand.{ControlCommand}
use Rattle.counter_modes.specs.declared.ControlCommand.TheVariants.{LatchCount, Program, NotModelled}
use Rattle.counter_bytes.specs.declared.Piece.{Piece}
use Rattle.counter_bytes.specs.declared.Piece.TheVariants.{First, Whole}
use Rattle.counter_element.specs.declared.Count.{Count}
use Rattle.counter_one.specs.declared.Counter.{Counter}

-- what keeps the six control bits is judged by the same set-up
same_setup : (c d : Counter) {s : Option (Format × Mode)} → setup_of c.control ≡ s → d.control ≡ c.control → Flags d → Facts s d → WorkingCounter d
same_setup c d e f k w = record { flags = k; facts = subst⁻¹ (λ (x : Option (Format × Mode)). Facts x d) (ap setup_of f ∙ e) w }

facts_at : (c : Counter) {s : Option (Format × Mode)} → setup_of c.control ≡ s → WorkingCounter c → Facts s c
facts_at c e w = rw e at w.facts

-- ---- the fresh counter, and a control word
pub unprogrammed-works : WorkingCounter unprogrammed
unfolding setup_of command
unprogrammed-works = record { flags = omega arith; facts = (refl, refl) }

-- the six bits below SC are those of the whole control word
rw_mod : (w : ℕ) → w % 64 / 16 % 4 ≡ w / 16 % 4
rw_mod w = omega arith

m_mod : (w : ℕ) → w % 64 / 2 % 8 ≡ w / 2 % 8
m_mod w = omega arith

bcd_mod : (w : ℕ) → w % 64 / 1 % 2 ≡ w / 1 % 2
bcd_mod w = omega arith

command_mod : (w : ℕ) → command (w % 64) ≡ command w
unfolding command
command_mod w = simp (rw_mod, m_mod, bcd_mod)

pub setup_programmed : (w : ℕ) (f : Format) (m : Mode) → command w ≡ Program f m → setup_of (w % 64) ≡ Some (f, m)
unfolding setup_of
setup_programmed w f m e = rw (command_mod w, e)

programmed-works : (w : ℕ) (f : Format) (m : Mode) → command w ≡ Program f m → WorkingCounter (programmed w m)
programmed-works w f m e =
    record {
      flags = record { trigger = omega arith; count = first-works m; bus = none-works };
      facts = subst⁻¹ (λ (x : Option (Format × Mode)). Facts x (programmed w m)) (setup_programmed w f m e) (omega arith, λ t o. omega arith);
    }

latched-works : (c : Counter) → WorkingCounter c → WorkingCounter (latched_as (setup_of c.control) c)
latched-works c w =
    by_setup (λ s. WorkingCounter (latched_as s c)) (setup_of c.control) (λ e. w)
    (λ f m e. same_setup c (latched_as (Some (f, m)) c) e refl
    (record { trigger = w.flags.trigger; count = w.flags.count; bus = latch-works _ _ w.flags.bus })
    (facts_at c e w))

pub commanded-works : (c : Counter) (w : ℕ) → WorkingCounter c → WorkingCounter (commanded c w)
unfolding commanded
commanded-works c w k = go (command w) refl
  where
    go : (o : ControlCommand) → command w ≡ o → WorkingCounter (commanded_by o c w)
    go LatchCount e = latched-works c k
    go (Program f m) e = programmed-works w f m e
    go NotModelled e = k

-- ---- a pulse
pub pulsed-works : (c : Counter) (gate : Bool) → WorkingCounter c → WorkingCounter (pulsed c gate)
unfolding pulsed
pulsed-works c gate w =
    by_setup (λ s. WorkingCounter (pulsed_as s c gate)) (setup_of c.control) (λ e. w)
    (λ f m e. let a = facts_at c e w in
    same_setup c (pulsed_as (Some (f, m)) c gate) e refl
    (record {
      trigger = omega arith;
      count = pulse_works m gate (on c.trigger) (on c.bus.halfwritten) c.count w.flags.count;
      bus = w.flags.bus;
    })
    (a.0, λ t o. a.1 t (sym (register-taken m gate (on c.trigger) (on c.bus.halfwritten) c.count) ∙ o)))

pub gate-moved_works : (c : Counter) (was is : Bool) → WorkingCounter c → WorkingCounter (gate_moved c was is)
unfolding gate_moved
gate-moved_works c was is w =
    by_setup (λ s. WorkingCounter (gate_moved_as s c was is)) (setup_of c.control) (λ e. w)
    (λ f m e. same_setup c (gate_moved_as (Some (f, m)) c was is) e refl
    (record { trigger = search flag-le; count = gate-works m was is c.count w.flags.count; bus = w.flags.bus })
    (facts_at c e w))

pub counter-read_works : (c : Counter) → WorkingCounter c → WorkingCounter (counter_read c).counter
unfolding counter_read
counter-read_works c w =
    by_setup (λ s. WorkingCounter (counter_read_as s c).counter) (setup_of c.control) (λ e. w)
    (λ f m e. same_setup c (counter_read_as (Some (f, m)) c).counter e refl
    (record { trigger = w.flags.trigger; count = w.flags.count; bus = read-works f c.bus w.flags.bus })
    (facts_at c e w))

-- ---- a written count is not 1 in mode 2
not_one : (m : Mode) (k : Count) (q : Piece) → piece_refused m q ≡ false → (from_two m ≡ true → k.register ≢ 1) →
    from_two m ≡ true → (piece_taken m k q).register ≢ 1
not_one m k (First b) r w = w
not_one m k (Whole n) r w = λ t. eqb-false _ _ (under_and (from_two m) (n == 1) r t)

pub byte-written_works : (c : Counter) (b : ℕ) → WorkingCounter c → WorkingCounter (byte_written c b)
unfolding byte_written
byte-written_works c b w =
    by_setup (λ s. WorkingCounter (byte_written_as s c b)) (setup_of c.control) (λ e. w)
    (λ f m e. let q = piece_of f c.bus b in
    let a = facts_at c e w in
    by-test WorkingCounter (piece_refused m q) {x = c} {y = piece_written m c q} (λ t. w)
    (λ t. same_setup c (piece_written m c q) e refl
    (record { trigger = w.flags.trigger; count = piece_works m c.count q w.flags.count; bus = after-works c.bus q w.flags.bus })
    (a.0, not_one m c.count q t a.1)))
