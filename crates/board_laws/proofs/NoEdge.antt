-- What moves a gate and is no edge (manual, Base+9, Base+10, 17.1 and figure 15 of the data sheet). The specification, "Conversions, edges and requests":
-- "Writing 9 or 10, or a reset, may move a gate but is no clock edge or trigger." Where a gate falls in mode 2 OUT goes high, and where it rises there the
-- trigger's flip-flop is set; the count stands, and no OUT falls, so that no counter is clocked by it, no TINT is asked for and no conversion begins.
use Rattle.std.specs.Prelude.{ℕ, ◌≡◌, true}
use Rattle.machine_reset.specs.Reset.{is_reset}
use Rattle.board_step.specs.States.{State, Works, after_event}
use Rattle.board_laws.specs.Edges.{NoEdge}
use Rattle.board_laws.proofs.EdgeLaws.{after_9, after_10, after-reset}
use Rattle.board_events.specs.declared.Event.TheVariants.{WriteByte}

-- any working board, with memories of the right lengths, and any byte
module _ (s : State) (v : ℕ) (w : Works s) where
  -- "Writing 9"
  pub write_9 : NoEdge s.board (WriteByte 9 v) (after_event s (WriteByte 9 v)).board
  write_9 = after_9 s v w

  -- "or 10"
  pub write_10 : NoEdge s.board (WriteByte 10 v) (after_event s (WriteByte 10 v)).board
  write_10 = after_10 s v w

  -- "or a reset"
  pub reset : is_reset v ≡ true → NoEdge s.board (WriteByte 8 v) (after_event s (WriteByte 8 v)).board
  reset h = after-reset s v w h
