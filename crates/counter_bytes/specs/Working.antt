-- A working counter's bytes: the flags are 0 or 1, and each event keeps them so. Latch and first byte are any numbers of their width.
use Rattle.std.specs.Prelude.{◌≡◌, Bool, true, List, [], ◌∷◌, ℕ, ◌≤◌, leb}
use Rattle.std.proofs.Common.{arith, leb-true, le-leb}
use Rattle.base.specs.Flags.{on}
use Rattle.base.specs.Laws.{by_choice}
use Rattle.base.specs.Tests.{all, each, every}
use Rattle.counter_modes.specs.declared.Format.{Format}
use Rattle.counter_modes.specs.declared.Format.TheVariants.{LeastByte, MostByte, TwoBytes}
use Rattle.counter_bytes.specs.Bytes.{no_bytes, bytes_after, bytes_read, latch_taken}
use Rattle.counter_bytes.specs.declared.Piece.{Piece}
use Rattle.counter_bytes.specs.declared.Piece.TheVariants.{First, Whole}
use Rattle.counter_bytes.specs.declared.Bus.{Bus}

pub record WorkingBus (s : Bus) : Type 0 where
  pub latched : s.latched ≤ 1
  pub halfread : s.halfread ≤ 1
  pub halfwritten : s.halfwritten ≤ 1

-- the tests, of which the code makes several at once
abbrev pub bus_tests : Bus → List Bool
bus_tests s = leb s.latched 1 ∷ leb s.halfread 1 ∷ leb s.halfwritten 1 ∷ []

abbrev pub is_working_bus : Bus → Bool
is_working_bus s = all (bus_tests s)

pub bus_of : (s : Bus) → is_working_bus s ≡ true → WorkingBus s
bus_of s h = let e = each (bus_tests s) h in omega (arith, leb-true)

pub bus-to : (s : Bus) → WorkingBus s → is_working_bus s ≡ true
bus-to s w = every (bus_tests s) (le-leb _ _ w.latched, (le-leb _ _ w.halfread, (le-leb _ _ w.halfwritten, tt)))

-- ---- what keeps it so
pub none-works : WorkingBus no_bytes
none-works = omega arith

pub after-works : (s : Bus) (q : Piece) → WorkingBus s → WorkingBus (bytes_after s q)
after-works s (First b) w = omega arith
after-works s (Whole n) w = omega arith

pub read-works : (f : Format) (s : Bus) → WorkingBus s → WorkingBus (bytes_read f s)
read-works LeastByte s w = omega arith
read-works MostByte s w = omega arith
read-works TwoBytes s w = by_choice WorkingBus (on s.halfread) (omega arith) (omega arith)

pub latch-works : (s : Bus) (v : ℕ) → WorkingBus s → WorkingBus (latch_taken s v)
latch-works s v w = by_choice WorkingBus (on s.latched) w (omega arith)
