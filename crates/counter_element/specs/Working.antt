-- A working counter's count: the flags are 0 or 1, and each event keeps them so.
use Rattle.std.specs.Prelude.{◌≡◌, ◌≤◌, Bool, true, List, [], ◌∷◌, ◌==◌, nat_le}
use Rattle.std.proofs.Common.{arith, leb-true, le-leb}
use Rattle.base.specs.Flags.{flag-le}
use Rattle.base.specs.Laws.{by_choice}
use Rattle.base.specs.Tests.{all, each, every}
use Rattle.counter_modes.specs.declared.Mode.{Mode}
use Rattle.counter_modes.specs.declared.Mode.TheVariants.{TerminalCount, RateGenerator}
use Rattle.counter_bytes.specs.declared.Piece.{Piece}
use Rattle.counter_bytes.specs.declared.Piece.TheVariants.{First, Whole}
use Rattle.counter_element.specs.Element.{counted_by, first_count, piece_taken, gate_seen, pulse_loads, pulse_counts, pulse_taken}
use Rattle.counter_element.specs.declared.Count.{Count}

pub record WorkingCount (k : Count) : Type 0 where
  pub out : k.out ≤ 1
  pub waiting : k.waiting ≤ 1
  pub loaded : k.loaded ≤ 1

-- the tests, of which the code makes several at once
abbrev pub count_tests : Count → List Bool
count_tests k = nat_le k.out 1 ∷ nat_le k.waiting 1 ∷ nat_le k.loaded 1 ∷ []

abbrev pub is_working_count : Count → Bool
is_working_count k = all (count_tests k)

pub count_of : (k : Count) → is_working_count k ≡ true → WorkingCount k
count_of k h = let e = each (count_tests k) h in omega (arith, leb-true)

pub count-to : (k : Count) → WorkingCount k → is_working_count k ≡ true
count-to k w = every (count_tests k) (le-leb _ _ w.out, (le-leb _ _ w.waiting, (le-leb _ _ w.loaded, tt)))

-- ---- what keeps it so
by_mode : (m : Mode) (k : Count) → WorkingCount k → WorkingCount (counted_by m k)
unfolding counted_by
by_mode TerminalCount k w = search (arith, flag-le)
by_mode RateGenerator k w = by_choice WorkingCount (k.element == 1) (search (arith, flag-le)) (search (arith, flag-le))

pub first-works : (m : Mode) → WorkingCount (first_count m)
first-works m = search (arith, flag-le)

pub piece_works : (m : Mode) (k : Count) (q : Piece) → WorkingCount k → WorkingCount (piece_taken m k q)
piece_works m k (First b) w = search (arith, flag-le)
piece_works m k (Whole n) w = search (arith, flag-le)

pub gate-works : (m : Mode) (was is : Bool) (k : Count) → WorkingCount k → WorkingCount (gate_seen m was is k)
gate-works m was is k w = search (arith, flag-le)

pub pulse_works : (m : Mode) (gate trigger half : Bool) (k : Count) → WorkingCount k → WorkingCount (pulse_taken m gate trigger half k)
pulse_works m gate trigger half k w =
    by_choice WorkingCount (pulse_loads m trigger k) (search (arith, flag-le)) (by_choice WorkingCount (pulse_counts m gate half k) (by_mode m k w) w)
