-- What is left of a piece from a place on, and the session once the bytes before it are taken. Assumes nothing.
use mathlib.Core.Path.{◌≡◌, refl, ap, sym, ◌∙◌, subst}
use mathlib.Core.Bool.{Bool}
use mathlib.Core.List.{List, [], ◌++◌}
use Prim.Native.Nat.{ℕ, ◌+◌, ◌-◌, ◌≤◌, ◌<◌}
use native.Mathlib.Omega.{arith}
use lib.ListN.{length, take, drop, length-drop, take-append-drop}
use lib.Seq.{length-take-le, take_all, take-append-add}
use Rattle.session_talk.specs.Session.{Talk, talk_of}
use Rattle.session_talk.specs.declared.Session.{Session}
use Rattle.session_feed.specs.Feeding.{final, Feeds}
use Rattle.session_feed.specs.Pieces.{final_append, takes-some}
use Rattle.session_feed.specs.declared.Fed.{Fed}
use Rattle.session.specs.Took.{Took}
use Rattle.session.specs.declared.pieces.AfterBytes.{AfterBytes}

abbrev pub rest : List ℕ → ℕ → List ℕ
rest piece from = take (length piece - from) (drop from piece)

rest_length : (piece : List ℕ) (from : ℕ) → length (rest piece from) ≡ length piece - from
rest_length piece from = length-take-le (length piece - from) (drop from piece) (rw (length-drop from piece) (omega arith))

pub rest-within : {t : Talk} (piece : List ℕ) (from : ℕ) {out memory eeprom out' : List ℕ} {r : Fed} → Feeds t (rest piece from) out memory eeprom out' r
    → from < length piece → from + r.taken ≤ length piece
rest-within piece from ran h = let w = ran.within in let l = rest_length piece from in omega arith

pub rest-taken : {t : Talk} (piece : List ℕ) (from : ℕ) {out memory eeprom out' : List ℕ} {r : Fed} → Feeds t (rest piece from) out memory eeprom out' r
    → 64 ≤ length out → from < length piece → 0 < r.taken
rest-taken piece from ran h k = takes-some ran h (let l = rest_length piece from in omega arith)

-- the bytes up to a place, and those that are taken from there on
take_rest : (piece : List ℕ) (from n : ℕ) → from ≤ length piece → take from piece ++ take n (rest piece from) ≡ take (from + n) piece
take_rest piece from n h =
    let size : length (take from piece) ≡ from = length-take-le from piece h in
    let all : rest piece from ≡ drop from piece = take_all (length piece - from) (drop from piece) (rw (length-drop from piece) (omega arith)) in
    ap (λ (l : List ℕ). take from piece ++ take n l) all
    ∙ sym (take-append-add (take from piece) (drop from piece) n)
    ∙ ap (take (length (take from piece) + n)) (take-append-drop from piece)
    ∙ ap (λ (k : ℕ). take (k + n) piece) size

pub talk-none : (t : Talk) → t ≡ final t []
unfolding final
talk-none t = refl

pub talk-more : (t : Talk) (piece : List ℕ) (from : ℕ) {out memory eeprom memory' eeprom' out' : List ℕ} {session : Session} {r : Fed} → from ≤ length piece
    → talk_of session memory eeprom ≡ final t (take from piece) → Feeds (talk_of session memory eeprom) (rest piece from) out memory' eeprom' out' r
    → talk_of r.session memory' eeprom' ≡ final t (take (from + r.taken) piece)
talk-more t piece from {r = r} h before ran =
    ran.talk
    ∙ ap (λ (q : Talk). final q (take r.taken (rest piece from))) before
    ∙ sym (final_append t (take from piece) (take r.taken (rest piece from)))
    ∙ ap (final t) (take_rest piece from r.taken h)

pub took-all : {t : Talk} {piece memory eeprom : List ℕ} {session : Session} {from : ℕ} → from ≤ length piece → length piece ≤ from
    → talk_of session memory eeprom ≡ final t (take from piece) → (more ended : Bool)
    → Took t piece memory eeprom (record { session = session; taken = from; more = more; ended = ended })
took-all {t} {piece} {from = from} h k before more ended =
    record { count = omega arith; talk = before ∙ ap (final t) (take_all from piece k) }

-- no byte was read
pub took-none : (session : Session) (memory eeprom : List ℕ) (more ended : Bool)
    → Took (talk_of session memory eeprom) [] memory eeprom (record { session = session; taken = 0; more = more; ended = ended })
took-none session memory eeprom more ended = record { count = refl; talk = talk-none (talk_of session memory eeprom) }

-- the bytes that were read into a buffer
pub took-read : {t : Talk} (buf : List ℕ) (n : ℕ) {memory eeprom : List ℕ} {r : AfterBytes} → n ≤ length buf → Took t (take n buf) memory eeprom r
    → Took t (take r.taken buf) memory eeprom r
took-read {t} buf n {memory} {eeprom} {r} h took =
    let e : r.taken ≡ n = took.count ∙ length-take-le n buf h in
    subst (λ (k : ℕ). Took t (take k buf) memory eeprom r) (sym e) took
