-- A working board's requests: every flag is 0 or 1; the threshold is any byte. Each operation keeps it so.
use Rattle.std.specs.Prelude.{◌≡◌, Bool, true, List, [], ◌∷◌, ℕ, ◌≤◌, leb}
use Rattle.std.proofs.Common.{arith, leb-true, le-leb}
use Rattle.base.specs.Flags.{flag-le}
use Rattle.base.specs.Tests.{all, each, every}
use Rattle.requests.specs.declared.Requests.{Requests}
use Rattle.requests.specs.Requests.{asked_ad, asked_latch, asked_timer, flags_cleared}
use Rattle.requests.specs.Registers.{written_depth, written_fifoen, written_enables, fresh_requests}

pub record WorkingRequests (r : Requests) : Type 0 where
  pub fifoen : r.fifoen ≤ 1
  pub clksel : r.clksel ≤ 1
  pub adinte : r.adinte ≤ 1
  pub dinte : r.dinte ≤ 1
  pub tinte : r.tinte ≤ 1
  pub adint : r.flags.adint ≤ 1
  pub dint : r.flags.dint ≤ 1
  pub tint : r.flags.tint ≤ 1

-- the tests, of which the code makes several at once
abbrev pub requests_tests : Requests → List Bool
requests_tests r =
    leb r.fifoen 1
    ∷ leb r.clksel 1
    ∷ leb r.adinte 1
    ∷ leb r.dinte 1
    ∷ leb r.tinte 1
    ∷ leb r.flags.adint 1
    ∷ leb r.flags.dint 1
    ∷ leb r.flags.tint 1
    ∷ []

abbrev pub is_working_requests : Requests → Bool
is_working_requests r = all (requests_tests r)

pub requests_of : (r : Requests) → is_working_requests r ≡ true → WorkingRequests r
requests_of r h = let e = each (requests_tests r) h in omega (arith, leb-true)

pub requests-to : (r : Requests) → WorkingRequests r → is_working_requests r ≡ true
requests-to r w = every (requests_tests r) (search (le-leb, arith))

-- ---- what keeps it so
pub ad_works : (r : Requests) (last : Bool) (held : ℕ) → WorkingRequests r → WorkingRequests (asked_ad r last held)
ad_works r last held w = search (arith, flag-le)

pub latch-works : (r : Requests) (rises : Bool) → WorkingRequests r → WorkingRequests (asked_latch r rises)
latch-works r rises w = search (arith, flag-le)

pub timer-works : (r : Requests) (falls : Bool) → WorkingRequests r → WorkingRequests (asked_timer r falls)
timer-works r falls w = search (arith, flag-le)

pub cleared-works : (r : Requests) → WorkingRequests r → WorkingRequests (flags_cleared r)
cleared-works r w = omega arith

pub depth_works : (r : Requests) (byte : ℕ) → WorkingRequests r → WorkingRequests (written_depth r byte)
depth_works r byte w = omega arith

pub fifoen-works : (r : Requests) (byte : ℕ) → WorkingRequests r → WorkingRequests (written_fifoen r byte)
fifoen-works r byte w = omega arith

pub enables_works : (r : Requests) (byte : ℕ) → WorkingRequests r → WorkingRequests (written_enables r byte)
enables_works r byte w = omega arith

pub fresh-works : WorkingRequests fresh_requests
fresh-works = omega arith
