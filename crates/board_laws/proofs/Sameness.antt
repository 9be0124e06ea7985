-- Theorems that rest on theorems of specs/Same.antt, and promise as those do. What specs/Same.antt says of itself:
-- Samples that stay put: request M-105, "Show that, read from the oldest on, it always holds what the earlier layout held, and that every event
-- answers the same." A board of the earlier layout (EarlierBoard) and one whose sample memory is the circle go side by side through any row of
-- events, refused ones among them. `Same` says of the two that all of their records but the place of the oldest sample is equal, that both hold the
-- same samples, oldest first, that their EEPROMs are equal, of any length, and that each is a working board of its layout.
use Rattle.std.specs.Prelude.{ℕ, ◌≡◌, true, List, [], ◌∷◌, replicate}
use Rattle.std.proofs.Math.Path.{refl}
use Rattle.std.proofs.Common.{sym, subst, eq-eqb}
use Rattle.std.proofs.Math.Bool.{Bool}
use Rattle.std.proofs.lemmas.List.{length-replicate}
use Rattle.base.specs.Tests.{every}
use Rattle.fifo.specs.Earlier.{earlier_tests, is_earlier_fifo}
use Rattle.fifo.specs.Queue.{layout, empty_fifo}
use Rattle.fifo.specs.Queue.Places.{layout-empty, replicate_zeros}
use Rattle.machine_record.specs.Working.{is_working_machine, machine-to}
use Rattle.machine_record.specs.Fresh.{fresh_board}
use Rattle.machine_record.specs.declared.Jumpers.{Jumpers}
use Rattle.board_laws.specs.Stretches.{fresh_state}
use Rattle.board_laws.specs.Kept.{fresh-works}
use Rattle.board_laws.specs.SameLaws.{Same}
use Rattle.board_laws.specs.Same.{Sameness, same-from_0}
use Rattle.board_laws.proofs.Same.{same-answers, same_after}

-- ---- which pairs there are
-- a fresh board among them, with any jumpers
fresh-laid : is_earlier_fifo empty_fifo (layout empty_fifo []) ≡ true
unfolding earlier_tests
fresh-laid =
    subst (λ (l : List ℕ). is_earlier_fifo empty_fifo l ≡ true) (sym layout-empty)
    (every (earlier_tests empty_fifo (replicate 512 0)) (eq-eqb _ _ (length-replicate {A = ℕ} 512 0), (refl, (refl, (refl, (replicate_zeros 512, tt))))))

pub same-fresh : (j : Jumpers) (zeroscale : Bool) → Same (fresh_state j zeroscale) (fresh_state j zeroscale)
same-fresh j zeroscale =
    same-from_0 (fresh_state j zeroscale)
    (every (is_working_machine (fresh_board j zeroscale) ∷ is_earlier_fifo empty_fifo (layout empty_fifo []) ∷ [])
    (machine-to (fresh_board j zeroscale) (fresh-works j zeroscale).machine, (fresh-laid, tt))) refl

-- ---- the theorem: from a fresh board on, both hold the same samples and give the same answers
pub sameness : Sameness
sameness =
    record {
      holds = λ j zeroscale events. (same_after _ _ events (same-fresh j zeroscale)).samples;
      answers = λ j zeroscale events. same-answers _ _ events (same-fresh j zeroscale);
    }
