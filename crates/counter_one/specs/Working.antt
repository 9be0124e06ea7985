-- A working board's counter. The specification, "What is delivered": "Every register, channel, port, counter and divider is within its
-- width or range ...; no mode 2 counter has 1 to load, and an unprogrammed counter's OUT is high."
use Rattle.std.specs.Prelude.{◌≡◌, ℕ, ◌<◌, ◌≤◌, Bool, true, false, not, ◌&&◌, List, [], ◌∷◌, ◌==◌, ◌≢◌, nat_le, nat_lt, refl, Option, Some, None}
use Rattle.std.proofs.Common.{sym, eqb-true, eq-eqb, ne_eqb, ltb-true, lt-ltb, leb-true, le-leb}
use Rattle.std.proofs.lemmas.Bool.{eqb-false}
use Rattle.base.specs.Flags.{on}
use Rattle.base.specs.Laws.{both}
use Rattle.base.specs.Tests.{all, each, every}
use Rattle.counter_modes.specs.Modes.{from_two}
use Rattle.counter_modes.specs.Control.{setup_of}
use Rattle.counter_modes.specs.declared.Format.{Format}
use Rattle.counter_modes.specs.declared.Mode.{Mode}
use Rattle.counter_element.specs.Working.{WorkingCount, is_working_count, count_of, count-to}
use Rattle.counter_bytes.specs.Working.{WorkingBus, is_working_bus, bus_of, bus-to}
use Rattle.counter_one.specs.declared.Counter.{Counter}

-- the facts, by what the six control bits set up: 0 or a control word that programs a counter
abbrev pub Facts : Option (Format × Mode) → Counter → Type 0
Facts None c = (c.control ≡ 0) × (on c.count.out ≡ true)
Facts (Some (f, m)) c = (c.control < 64) × (from_two m ≡ true → c.count.register ≢ 1)

-- every flag is 0 or 1
pub record Flags (c : Counter) : Type 0 where
  pub trigger : c.trigger ≤ 1
  pub count : WorkingCount c.count
  pub bus : WorkingBus c.bus

pub record WorkingCounter (c : Counter) : Type 0 where
  pub flags : Flags c
  pub facts : Facts (setup_of c.control) c

-- the tests of the flags
abbrev pub flag_tests : Counter → List Bool
flag_tests c = nat_le c.trigger 1 ∷ is_working_count c.count ∷ is_working_bus c.bus ∷ []

abbrev pub flags_work : Counter → Bool
flags_work c = all (flag_tests c)

-- the tests of the facts
abbrev pub control_tests : Option (Format × Mode) → ℕ → ℕ → ℕ → List Bool
control_tests None control register out = (control == 0) ∷ on out ∷ []
control_tests (Some (f, m)) control register out = nat_lt control 64 ∷ not (from_two m && register == 1) ∷ []

unfoldable pub control_works : ℕ → ℕ → ℕ → Bool
control_works control register out = all (control_tests (setup_of control) control register out)

abbrev pub control_fits : Counter → Bool
control_fits c = control_works c.control c.count.register c.count.out

abbrev pub is_working_counter : Counter → Bool
is_working_counter c = flags_work c && control_fits c

-- ---- the test holds where the facts do, and only there
not_both : (a b : Bool) → not (a && b) ≡ true → a ≡ true → b ≡ false
not_both true true h e = sym h
not_both true false h e = refl
not_both false b h e = cc

both_not : (a b : Bool) → (a ≡ true → b ≡ false) → not (a && b) ≡ true
both_not true b h = rw (h refl)
both_not false b h = refl

flags_of : (c : Counter) → flags_work c ≡ true → Flags c
flags_of c h =
    let e = each (flag_tests c) h in
    record { trigger = leb-true _ _ e.0; count = count_of _ e.1.0; bus = bus_of _ e.1.1.0 }

flags-to : (c : Counter) → Flags c → flags_work c ≡ true
flags-to c w = every (flag_tests c) (le-leb _ _ w.trigger, (count-to _ w.count, (bus-to _ w.bus, tt)))

abbrev tests_of : Option (Format × Mode) → Counter → List Bool
tests_of s c = control_tests s c.control c.count.register c.count.out

facts_of : (s : Option (Format × Mode)) (c : Counter) → all (tests_of s c) ≡ true → Facts s c
facts_of None c h = let e = each (tests_of None c) h in (eqb-true _ _ e.0, e.1.0)
facts_of (Some (f, m)) c h =
    let e = each (tests_of (Some (f, m)) c) h in
    (ltb-true _ _ e.0, λ t. eqb-false _ _ (not_both (from_two m) (c.count.register == 1) e.1.0 t))

facts-to : (s : Option (Format × Mode)) (c : Counter) → Facts s c → all (tests_of s c) ≡ true
facts-to None c w = every (tests_of None c) (eq-eqb _ _ w.0, (w.1, tt))
facts-to (Some (f, m)) c w =
    every (tests_of (Some (f, m)) c)
    (lt-ltb _ _ w.0, (both_not (from_two m) (c.count.register == 1) (λ t. ne_eqb _ _ (w.1 t)), tt))

pub counter_of_lem : (c : Counter) → is_working_counter c ≡ true → WorkingCounter c
unfolding control_works
counter_of_lem c h =
    let e = both (flags_work c) (control_fits c) h in
    record { flags = flags_of c e.0; facts = facts_of (setup_of c.control) c e.1 }

pub counter-to : (c : Counter) → WorkingCounter c → is_working_counter c ≡ true
unfolding control_works
counter-to c w = rw (flags-to c w.flags) (facts-to (setup_of c.control) c w.facts)
