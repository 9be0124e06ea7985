-- A text in pieces: what is fed in two parts is answered in two parts, wherever the text is cut.
use Rattle.std.specs.Prelude.{◌≡◌, refl, List, [], ◌∷◌, ◌++◌, ℕ, ◌≤◌, ◌<◌, length}
use Rattle.std.proofs.Common.{sym, append_assoc, append-nil, arith, le-leb}
use Rattle.session_talk.specs.Session.{Talk}
use Rattle.session_feed.specs.Feeding.{after, said, final, output, consumed, Feeds}
use Rattle.session_feed.specs.declared.Fed.{Fed}

pub final_append : (t : Talk) (a b : List ℕ) → final t (a ++ b) ≡ final (final t a) b
unfolding final
final_append t [] b = refl
final_append t (x ∷ a) b = final_append (after t x) a b

pub output_append : (t : Talk) (a b : List ℕ) → output t (a ++ b) ≡ output t a ++ output (final t a) b
unfolding final output
output_append t [] b = refl
output_append t (x ∷ a) b = rw (output_append (after t x) a b, append_assoc)

pub final-one : (t : Talk) (b : ℕ) → final t (b ∷ []) ≡ after t b
unfolding final
final-one t b = refl

pub output-one : (t : Talk) (b : ℕ) → output t (b ∷ []) ≡ said t b
unfolding output
output-one t b = append-nil (said t b)

-- the pieces of a text, one after the other
pub whole : List (List ℕ) → List ℕ
whole [] = []
whole (piece ∷ pieces) = piece ++ whole pieces

-- what is printed when the pieces are fed one after the other
pub printed : Talk → List (List ℕ) → List ℕ
printed t [] = []
printed t (piece ∷ pieces) = output t piece ++ printed (final t piece) pieces

-- however a text is cut, the same is printed
pub pieces_same : (t : Talk) (pieces : List (List ℕ)) → printed t pieces ≡ output t (whole pieces)
unfolding whole printed output
pieces_same t [] = refl
pieces_same t (piece ∷ pieces) = rw (pieces_same (final t piece) pieces) (sym (output_append t piece (whole pieces)))

-- a piece that has bytes loses one where 64 bytes are free
takes_one : (t : Talk) (room : ℕ) (piece : List ℕ) → 64 ≤ room → 0 < length piece → 0 < consumed t room piece
unfolding consumed
takes_one t room [] h k = absurd (omega arith)
takes_one t room (b ∷ piece) h k = rw (le-leb 64 room h) (omega arith)

pub takes-some : {t : Talk} {piece out memory eeprom out' : List ℕ} {r : Fed} → Feeds t piece out memory eeprom out' r → 64 ≤ length out → 0 < length piece
    → 0 < r.taken
takes-some {t} {piece} {out} ran h k = let c = ran.count in let o = takes_one t (length out) piece h k in omega arith
