-- How long an answer is, and a text of no bytes. Assumes nothing.
use mathlib.Core.Path.{refl}
use mathlib.Core.Bool.{Bool, true, false}
use mathlib.Core.List.{List, [], ◌∷◌, ◌++◌}
use Prim.Native.Nat.{ℕ, ◌≤◌}
use native.Mathlib.Omega.{arith}
use lib.ListN.{length, length-append}
use Rattle.board_events.specs.declared.Answer.{Answer}
use Rattle.board_events.specs.declared.Answer.TheVariants.{Done, Byte, Word, Nothing, Refused}
use Rattle.session_text.specs.Text.{Wrote, decimal_text}
use Rattle.session_text.proofs.Writing.{decimal_length}
use Rattle.session_answers.specs.Answers.{answer_text, irq_text, refused_text, newline, event_text, bad_text}

pub nothing_written : (out : List ℕ) (at : ℕ) → Wrote [] out at out at
nothing_written out at = record { next = omega arith; bytes = refl }

pub irq_length : (raised : Bool) → length (irq_text raised) ≤ 4
irq_length true = omega arith
irq_length false = omega arith

pub answer_length : (answer : Answer) → length (answer_text answer) ≤ 29
unfolding answer_text
answer_length Done = omega arith
answer_length (Byte v) = omega arith
answer_length (Word v) = omega arith
answer_length Nothing = omega arith
answer_length (Refused n) = rw (length-append refused_text (decimal_text n)) (let h = decimal_length n in omega arith)

pub event_length : (number : ℕ) (answer : Answer) (raised : Bool) → length (event_text number answer raised) ≤ 64
unfolding event_text
event_length number answer raised =
    let a = length-append (decimal_text number) (answer_text answer ++ (irq_text raised ++ newline)) in
    let b = length-append (answer_text answer) (irq_text raised ++ newline) in
    let d = length-append (irq_text raised) newline in
    let e = decimal_length number in
    let f = answer_length answer in
    let g = irq_length raised in
    omega arith

pub bad_length : (number : ℕ) → length (bad_text number) ≤ 64
unfolding bad_text
bad_length number =
    let a = length-append (decimal_text number) (32 ∷ 98 ∷ 97 ∷ 100 ∷ 10 ∷ []) in
    let e = decimal_length number in
    omega arith
