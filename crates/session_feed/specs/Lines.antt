-- What is printed for a text is what its lines print, one after the other, however the text came in pieces, with or without a last newline.
-- The specification, "The session program": "the last line may lack its newline".
use Rattle.std.specs.Prelude.{◌≡◌, refl, Bool, true, false, List, [], ◌∷◌, ◌++◌, Option, None, Some, ℕ, ◌+◌, ◌^◌, ◌<◌, eqb, length, if◌then◌else◌}
use Rattle.std.proofs.Common.{ap, sym, ◌∙◌, append_assoc, append-nil, mod-eq_of_lt, arith, eqb-true}
use Rattle.board_events.specs.declared.Event.{Event}
use Rattle.session_commands.specs.Command.{command_of}
use Rattle.session_commands.specs.Line.{taken-begun}
use Rattle.session_commands.proofs.Line.{read_line}
use Rattle.session_reading.specs.Reading.{taken, read_from}
use Rattle.session_reading.proofs.Scanning.{read_more}
use Rattle.session_commands.specs.Ends.{command_read, is_begun}
use Rattle.session_reading.specs.declared.Reading.{Reading}
use Rattle.session_reading.specs.declared.Reading.TheVariants.{Blank}
use Rattle.session_talk.specs.Session.{Talk, next_number}
use Rattle.session_talk.specs.Wanted.{wanted_by}
use Rattle.session_line.specs.Done.{done_by, said_by, line_done, line_said}
use Rattle.session_feed.specs.Feeding.{with_reading, after, said, final, output}
use Rattle.session_feed.specs.Pieces.{whole, printed, pieces_same}

-- ---- the lines of a text: what stands before each newline, and after the last one if anything does
abbrev pub begun_with : ℕ → List (List ℕ) → List (List ℕ)
begun_with b [] = (b ∷ []) ∷ []
begun_with b (line ∷ lines) = (b ∷ line) ∷ lines

unfoldable pub text_lines : List ℕ → List (List ℕ)
text_lines [] = []
text_lines (b ∷ text) = if eqb b 10 then [] ∷ text_lines text else begun_with b (text_lines text)

-- ---- a line by its fields: the session after it, and what it prints
unfoldable pub after_line : Talk → List ℕ → Talk
after_line t line = done_by t (wanted_by (command_of line))

unfoldable pub answer : Talk → List ℕ → List ℕ
answer t line = said_by t (wanted_by (command_of line))

-- what the lines print, one after the other
unfoldable pub conversation : Talk → List (List ℕ) → List ℕ
conversation t [] = []
conversation t (line ∷ lines) = answer t line ++ conversation (after_line t line) lines

-- what is printed once the input has ended: a line that has begun is ended
unfoldable pub end_text : Talk → List ℕ
end_text t = if is_begun t.reading then output t (10 ∷ []) else []

unfoldable pub session_text : Talk → List ℕ → List ℕ
session_text t text = output t text ++ end_text (final t text)

-- ---- a text byte after byte
text-newline : (t : Talk) (text : List ℕ) → session_text t (10 ∷ text) ≡ line_said t ++ session_text (line_done t) text
unfolding session_text output final after said
text-newline t text = append_assoc (line_said t) (output (line_done t) text) (end_text (final (line_done t) text))

text-other : (t : Talk) (b : ℕ) (text : List ℕ) → eqb b 10 ≡ false → session_text t (b ∷ text) ≡ session_text (with_reading t (taken t.reading b)) text
unfolding session_text output final after said
text-other t b text e = rw e

text-end : (t : Talk) → is_begun t.reading ≡ true → session_text t [] ≡ line_said t
unfolding session_text output final end_text after said
text-end t h = rw h (append-nil (line_said t))

text-none : (t : Talk) → is_begun t.reading ≡ false → session_text t [] ≡ []
unfolding session_text output final end_text
text-none t h = rw h

-- ---- a line of which the bytes p were read
read-begun : (r : Reading) (p : List ℕ) (b : ℕ) → is_begun (read_from r (b ∷ p)) ≡ true
unfolding read_from
read-begun r [] b = taken-begun r b
read-begun r (x ∷ p) b = read-begun (taken r b) p x

-- the lines of what was read and what is left of the text
abbrev joined : List ℕ → List (List ℕ) → List (List ℕ)
joined [] [] = []
joined (x ∷ p) [] = (x ∷ p) ∷ []
joined p (line ∷ lines) = (p ++ line) ∷ lines

joined-none : (lines : List (List ℕ)) → joined [] lines ≡ lines
joined-none [] = refl
joined-none (line ∷ lines) = refl

joined-more : (p : List ℕ) (b : ℕ) (lines : List (List ℕ)) → joined (p ++ (b ∷ [])) lines ≡ joined p (begun_with b lines)
joined-more [] b [] = refl
joined-more (x ∷ p) b [] = refl
joined-more [] b (line ∷ lines) = refl
joined-more (x ∷ p) b (line ∷ lines) = ap (λ (l : List ℕ). (x ∷ l) ∷ lines) (append_assoc p (b ∷ []) line)

joined_line : (p : List ℕ) (lines : List (List ℕ)) → joined p ([] ∷ lines) ≡ p ∷ lines
joined_line [] lines = refl
joined_line (x ∷ p) lines = ap (λ (l : List ℕ). (x ∷ l) ∷ lines) (append-nil p)

done-any : (t : Talk) (r : Reading) (a : Option Event) → done_by (with_reading t r) a ≡ done_by t a
done-any t r None = refl
done-any t r (Some event) = refl

said-any : (t : Talk) (r : Reading) (a : Option Event) → said_by (with_reading t r) a ≡ said_by t a
said-any t r None = refl
said-any t r (Some event) = refl

same-talk : (t : Talk) (r : Reading) (lines : List (List ℕ)) → conversation (with_reading t r) lines ≡ conversation t lines
unfolding conversation answer after_line
same-talk t r [] = refl
same-talk t r (line ∷ lines) = rw (done-any t r (wanted_by (command_of line)), said-any t r (wanted_by (command_of line)))

line_said_lem : (t : Talk) (p : List ℕ) → t.reading ≡ read_from Blank p → line_said t ≡ answer t p
unfolding line_said answer
line_said_lem t p h = ap (λ (r : Reading). said_by t (wanted_by (command_read r))) h ∙ ap (λ c. said_by t (wanted_by c)) (read_line p)

line_done_lem : (t : Talk) (p : List ℕ) → t.reading ≡ read_from Blank p → line_done t ≡ after_line t p
unfolding line_done after_line
line_done_lem t p h = ap (λ (r : Reading). done_by t (wanted_by (command_read r))) h ∙ ap (λ c. done_by t (wanted_by c)) (read_line p)

one_line : (t : Talk) (line : List ℕ) → conversation t (line ∷ []) ≡ answer t line
unfolding conversation
one_line t line = append-nil (answer t line)

done-blank : (t : Talk) (a : Option Event) → (done_by t a).reading ≡ Blank
done-blank t None = refl
done-blank t (Some event) = refl

line_blank : (t : Talk) → (line_done t).reading ≡ Blank
unfolding line_done
line_blank t = done-blank t (wanted_by (command_read t.reading))

blank-begun : is_begun (read_from Blank []) ≡ false
unfolding read_from is_begun
blank-begun = refl

blank-read : Blank ≡ read_from Blank []
unfolding read_from
blank-read = refl

no_lines : (t : Talk) → conversation t [] ≡ []
unfolding conversation
no_lines t = refl

text_line : (t : Talk) (p text : List ℕ) → t.reading ≡ read_from Blank p
    → session_text (line_done t) text ≡ conversation (line_done t) (joined [] (text_lines text))
    → session_text t (10 ∷ text) ≡ conversation t (p ∷ text_lines text)
unfolding conversation
text_line t p text h i =
    text-newline t text
    ∙ ap (λ (l : List ℕ). l ++ session_text (line_done t) text) (line_said_lem t p h)
    ∙ ap (λ (l : List ℕ). answer t p ++ l)
    (i ∙ ap (conversation (line_done t)) (joined-none (text_lines text)) ∙ ap (λ (u : Talk). conversation u (text_lines text)) (line_done_lem t p h))

from-here : (t : Talk) (p text : List ℕ) → t.reading ≡ read_from Blank p → session_text t text ≡ conversation t (joined p (text_lines text))
unfolding text_lines
from-here t [] [] h = text-none t (ap is_begun h ∙ blank-begun) ∙ sym (no_lines t)
from-here t (x ∷ p) [] h = text-end t (ap is_begun h ∙ read-begun Blank p x) ∙ line_said_lem t (x ∷ p) h ∙ sym (one_line t (x ∷ p))
from-here t p (b ∷ text) h =
    by (eqb b 10) refl (from-here (line_done t) [] text (line_blank t ∙ blank-read))
    (from-here (with_reading t (taken t.reading b)) (p ++ (b ∷ [])) text (ap (λ (r : Reading). taken r b) h ∙ sym (read_more Blank p b)))
  where
    by : (newline : Bool) → eqb b 10 ≡ newline
        → session_text (line_done t) text ≡ conversation (line_done t) (joined [] (text_lines text))
        → session_text (with_reading t (taken t.reading b)) text
        ≡ conversation (with_reading t (taken t.reading b)) (joined (p ++ (b ∷ [])) (text_lines text))
        → session_text t (b ∷ text) ≡ conversation t (joined p (if newline then [] ∷ text_lines text else begun_with b (text_lines text)))
    by true e i j =
        ap (λ (n : ℕ). session_text t (n ∷ text)) (eqb-true b 10 e)
        ∙ text_line t p text h i
        ∙ sym (ap (conversation t) (joined_line p (text_lines text)))
    by false e i j =
        text-other t b text e
        ∙ j
        ∙ same-talk t (taken t.reading b) (joined (p ++ (b ∷ [])) (text_lines text))
        ∙ ap (conversation t) (joined-more p b (text_lines text))

-- ---- the text of a session is the answers of its lines
pub by_lines : (t : Talk) (text : List ℕ) → t.reading ≡ Blank → session_text t text ≡ conversation t (text_lines text)
unfolding read_from
by_lines t text h = from-here t [] text h ∙ ap (conversation t) (joined-none (text_lines text))

-- and so it is however the text was cut into pieces
pub by_pieces : (t : Talk) (pieces : List (List ℕ)) → t.reading ≡ Blank
    → printed t pieces ++ end_text (final t (whole pieces)) ≡ conversation t (text_lines (whole pieces))
unfolding session_text
by_pieces t pieces h = ap (λ (l : List ℕ). l ++ end_text (final t (whole pieces))) (pieces_same t pieces) ∙ by_lines t (whole pieces) h

-- ---- line numbers are exact below 2^64
unfoldable pub after_lines : Talk → List (List ℕ) → Talk
after_lines t [] = t
after_lines t (line ∷ lines) = after_lines (after_line t line) lines

done-number : (t : Talk) (a : Option Event) → (done_by t a).number ≡ next_number t.number
done-number t None = refl
done-number t (Some event) = refl

answered-number : (t : Talk) (line : List ℕ) → t.number + 1 < 2 ^ 64 → (after_line t line).number ≡ t.number + 1
unfolding after_line
answered-number t line h = done-number t (wanted_by (command_of line)) ∙ mod-eq_of_lt h

pub exact-number : (t : Talk) (lines : List (List ℕ)) → t.number + length lines < 2 ^ 64 → (after_lines t lines).number ≡ t.number + length lines
unfolding after_lines
exact-number t [] h = omega arith
exact-number t (line ∷ lines) h =
    let n : (after_line t line).number ≡ t.number + 1 = answered-number t line (omega arith) in
    exact-number (after_line t line) lines (omega arith) ∙ omega arith
