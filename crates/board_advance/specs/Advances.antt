-- What `advanced_of` says, in terms of events: k ticks were done and led to this record, none before the k-th brought news, and k is all of them or the k-th
-- did; of a board that is not refused both memories stay as they were, and every tick is answered by done.
use Rattle.std.specs.Prelude.{ℕ, zero, suc, ◌+◌, ◌≤◌, ◌<◌, ◌≡◌, Bool, true, false, List, if◌then◌else◌}
use Rattle.std.proofs.Common.{sym, ne_eqb}
use Rattle.machine_record.specs.declared.Board.{Board}
use Rattle.board_step.specs.Step.{refusal_of}
use Rattle.board_step.specs.States.{State, after_event}
use Rattle.board_step.specs.Ways.{Opened}
use Rattle.board_step.specs.Ticked.{ticked_board}
use Rattle.board_step.proofs.Ticked.{tick-step}
use Rattle.board_events.specs.declared.Answer.TheVariants.{Refused, Done}
use Rattle.board_events.specs.declared.Event.TheVariants.{Tick}
use Rattle.board_step.specs.News.{news}
use Rattle.board_advance.specs.Advance.{advanced_from, advanced_of}
use Rattle.board_advance.specs.declared.Advanced.{Advanced}

-- ---- k tick events
abbrev pub after_tick : State → State
after_tick s = after_event s Tick

abbrev pub after_ticks : ℕ → State → State
after_ticks zero s = s
after_ticks (suc k) s = after_ticks k (after_tick s)

-- whether the next one brings news
abbrev pub acts : State → Bool
acts s = news s.board (after_tick s).board

-- ---- k of n ticks were done, on top of d
pub data Ended (n : ℕ) (s : State) : ℕ → Type 0 where
  whole : Ended n s n
  acted : {j : ℕ} → acts (after_ticks j s) ≡ true → Ended n s (suc j)

pub record Advances (b : Board) (m e : List ℕ) (n d : ℕ) (r : Advanced) : Type 0 where
  pub k : ℕ
  pub done : r.progress.done ≡ d + k
  pub within : k ≤ n
  pub answer : r.progress.answer ≡ Done
  pub steps : after_ticks k (record { board = b; memory = m; eeprom = e }) ≡ record { board = r.board; memory = m; eeprom = e }
  pub before : (j : ℕ) → suc j < k → acts (after_ticks j (record { board = b; memory = m; eeprom = e })) ≡ false
  pub ends : Ended n (record { board = b; memory = m; eeprom = e }) k

module _ (m e : List ℕ) where
  -- one tick event of a board that is not refused
  pub tick-state : (b : Board) → Opened b m e
      → after_tick (record { board = b; memory = m; eeprom = e }) ≡ record { board = ticked_board b; memory = m; eeprom = e }
  tick-state b o = let p = tick-step b m e o in rw (sym p.value, sym p.memory_after, sym p.eeprom_after)

  pub one-tick : (n d : ℕ) (b : Board) → Opened b m e
      → advanced_from (suc n) d b m e
      ≡ (if news b (ticked_board b) then record { board = ticked_board b; progress = record { answer = Done; done = suc d } }
      else advanced_from n (suc d) (ticked_board b) m e)
  one-tick n d b o = let p = tick-step b m e o in rw (sym p.value, sym p.memory_after, sym p.eeprom_after)

-- ---- the whole call
module _ (b : Board) (m e : List ℕ) (n : ℕ) where
  -- a refused board: nothing changes
  pub refuses : (refusal_of b m e Tick ≡ 0 → ⊥)
      → advanced_of b m e n ≡ record { board = b; progress = record { answer = Refused (refusal_of b m e Tick); done = 0 } }
  unfolding advanced_of
  refuses h = rw (ne_eqb (refusal_of b m e Tick) 0 h)
