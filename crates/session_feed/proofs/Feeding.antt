-- The ways of `advance` and the loop of `feed`, over plain values. Assumes nothing.
use mathlib.Core.Path.{◌≡◌, refl, ap, sym, ◌∙◌}
use mathlib.Core.Bool.{true, false}
use lib.Dec.{eqb}
use mathlib.Core.List.{List, [], ◌∷◌, ◌++◌, append-nil}
use Prim.Native.Nat.{ℕ, suc, ◌+◌, ◌-◌, ◌≤◌, ◌<◌}
use native.Mathlib.Omega.{arith}
use borrow.Author.Tests.{le-leb, lt-leb}
use lib.ListN.{length, take, drop, take-append-drop, drop_of_length-le}
use lib.Seq.{slice, take-take, length-take-le, drop-append-le, length-slice}
use Rattle.session_reading.specs.Reading.{taken}
use Rattle.session_reading.specs.Found.{plain, Found}
use Rattle.session_reading.specs.declared.Line.{Line}
use Rattle.session_reading.proofs.Scanning.{slice_more, plain_cons}
use Rattle.session_text.specs.Text.{Wrote}
use Rattle.session_text.proofs.Writing.{wrote_as, wrote_then}
use Rattle.session_answers.proofs.Lengths.{nothing_written}
use Rattle.session_talk.specs.Session.{Talk, talk_of}
use Rattle.session_talk.specs.declared.Session.{Session}
use Rattle.session_line.specs.Done.{line_done, line_said, Done}
use Rattle.session_line.specs.declared.Answered.{Answered}
use Rattle.session_line.proofs.Answering.{line_length}
use Rattle.session_feed.specs.Feeding.{with_reading, after, said, final, output, consumed, FeedsOn, Feeds}
use Rattle.session_feed.specs.Pieces.{final_append, output_append}
use Rattle.session_feed.specs.declared.Fed.{Fed}
use Rattle.session_feed.proofs.Plain.{final-plain, output-plain, consumed-plain}

abbrev broken : List ℕ → List ℕ
broken a = a ++ (10 ∷ [])

-- ---- a line's bytes with its newline
final_line : (t : Talk) (a : List ℕ) → plain a ≡ true → final t (broken a) ≡ line_done (final t a)
unfolding final after
final_line t [] h = refl
final_line t (x ∷ a) h = final_line (after t x) a (plain_cons x a h).1

output_line : (t : Talk) (a : List ℕ) → plain a ≡ true → output t (broken a) ≡ line_said (final t a)
unfolding final output after said
output_line t [] h = append-nil (line_said t)
output_line t (x ∷ a) h =
    let p = plain_cons x a h in
    rw p.0 (output_line (with_reading t (taken t.reading x)) a p.1)

-- a byte that ends no line
module _ (t : Talk) (x : ℕ) (plain : eqb x 10 ≡ false) where
  final-step : (a : List ℕ) → final t (x ∷ a) ≡ final (with_reading t (taken t.reading x)) a
  unfolding final after
  final-step a = rw plain

  output-step : (a : List ℕ) → output t (x ∷ a) ≡ output (with_reading t (taken t.reading x)) a
  unfolding output after said
  output-step a = rw plain

  consumed-step : (a : List ℕ) (room : ℕ) → 64 ≤ room
      → consumed t room (x ∷ a) ≡ suc (consumed (with_reading t (taken t.reading x)) room a)
  unfolding consumed after said
  consumed-step a room k = let e : room - 0 ≡ room = omega arith in rw (le-leb 64 room k, plain, e)

consumed-newline : (t : Talk) (rest : List ℕ) (room : ℕ) → 64 ≤ room
    → consumed t room (10 ∷ rest) ≡ suc (consumed (final t (10 ∷ [])) (room - length (output t (10 ∷ []))) rest)
unfolding consumed final output after said
consumed-newline t rest room k = rw (le-leb 64 room k, append-nil)

consumed_line : (t : Talk) (a rest : List ℕ) (room : ℕ) → plain a ≡ true → 64 ≤ room
    → consumed t room (broken a ++ rest) ≡ length (broken a) + consumed (final t (broken a)) (room - length (output t (broken a))) rest
consumed_line t [] rest room h k = let c = consumed-newline t rest room k in omega arith
consumed_line t (x ∷ a) rest room h k =
    let p = plain_cons x a h in
    let u : Talk = with_reading t (taken t.reading x) in
    let c : consumed t room (x ∷ (broken a ++ rest)) ≡ suc (consumed u room (broken a ++ rest)) = consumed-step t x p.0 (broken a ++ rest) room k in
    let i : consumed u room (broken a ++ rest) ≡ length (broken a) + consumed (final u (broken a)) (room - length (output u (broken a))) rest
    = consumed_line u a rest room p.1 k in
    let z : consumed (final t (x ∷ broken a)) (room - length (output t (x ∷ broken a))) rest
    ≡ consumed (final u (broken a)) (room - length (output u (broken a))) rest
    = ap (λ (q : Talk). consumed q (room - length (output t (x ∷ broken a))) rest) (final-step t x p.0 (broken a))
    ∙ ap (λ (l : List ℕ). consumed (final u (broken a)) (room - length l) rest) (output-step t x p.0 (broken a)) in
    c ∙ ap suc i ∙ (let w : suc (length (broken a) + consumed (final u (broken a)) (room - length (output u (broken a))) rest)
    ≡ suc (length (broken a)) + consumed (final t (x ∷ broken a)) (room - length (output t (x ∷ broken a))) rest = omega arith in w)

-- ---- the ways of `advance`
module _ (t : Talk) (piece : List ℕ) (i : ℕ) (f : Line) (found : Found t.reading piece i f) where
  until : final t (slice i f.end piece) ≡ with_reading t f.reading
  until = final-plain t (slice i f.end piece) found.unbroken ∙ ap (with_reading t) (sym found.read)

  pub advanced_line : (out : List ℕ) (at : ℕ) {memory eeprom out' : List ℕ} {a : Answered} → f.end < length piece → at ≤ length out → 64 ≤ length out - at
      → Done (with_reading t f.reading) out at memory eeprom out' a
      → FeedsOn t piece i out at memory eeprom out' (record { session = a.session; at = a.at; taken = f.end + 1 })
  advanced_line out at {a = a} h fits room done =
      let least : i ≤ f.end = found.least in
      let bytes : slice i (f.end + 1) piece ≡ broken (slice i f.end piece)
      = slice_more piece i f.end least h ∙ ap (λ (b : ℕ). slice i f.end piece ++ (b ∷ [])) (found.stop h) in
      let size : length (line_said (with_reading t f.reading)) ≤ 64 = line_length (with_reading t f.reading) in
      let next : a.at ≡ at + length (line_said (with_reading t f.reading)) = done.wrote.next in
      record {
        least = omega arith;
        most = omega arith;
        talk = done.talk ∙ sym (ap (final t) bytes ∙ final_line t (slice i f.end piece) found.unbroken ∙ ap line_done until);
        wrote = wrote_as (sym (ap (output t) bytes ∙ output_line t (slice i f.end piece) found.unbroken ∙ ap line_said until)) done.wrote;
        fits = omega arith;
        counts = λ rest free k. rw bytes (consumed_line t (slice i f.end piece) rest free found.unbroken k);
      }

  pub advanced_part : (out : List ℕ) (at : ℕ) → i < length piece → length piece ≤ f.end → at ≤ length out
      → FeedsOn t piece i out at t.memory t.eeprom out
      (record { session = record { board = t.board; reading = f.reading; number = t.number }; at = at; taken = f.end })
  advanced_part out at here h fits =
      let most : f.end ≤ length piece = found.most in
      let silent : output t (slice i f.end piece) ≡ [] = output-plain t (slice i f.end piece) found.unbroken in
      record {
        least = omega arith;
        most = most;
        talk = sym until;
        wrote = wrote_as (sym silent) (nothing_written out at);
        fits = fits;
        counts = λ rest free k.
            let e : free - 0 ≡ free = omega arith in
            rw (silent, e) (consumed-plain t (slice i f.end piece) rest free found.unbroken k);
      }

-- ---- the loop of `feed`: i bytes of the piece are taken
pub record Fed_so (t : Talk) (piece out₀ memory eeprom out : List ℕ) (session : Session) (at i : ℕ) : Type 0 where
  pub index : i ≤ length piece
  pub same : length out ≡ length out₀
  pub fits : at ≤ length out₀
  pub talk : talk_of session memory eeprom ≡ final t (take i piece)
  pub wrote : Wrote (output t (take i piece)) out₀ 0 out at
  pub counts : consumed t (length out₀) piece ≡ i + consumed (final t (take i piece)) (length out₀ - at) (drop i piece)

pub fed_none : (session : Session) (memory eeprom piece out : List ℕ) → Fed_so (talk_of session memory eeprom) piece out memory eeprom out session 0 0
unfolding final output
fed_none session memory eeprom piece out =
    let e : length out - 0 ≡ length out = omega arith in
    record {
      index = omega arith;
      same = refl;
      fits = omega arith;
      talk = refl;
      wrote = nothing_written out 0;
      counts = rw e (omega arith);
    }

pub fed_more : {t : Talk} {piece out₀ memory eeprom out memory' eeprom' out' : List ℕ} {session : Session} {at i : ℕ} {r : Fed}
    → Fed_so t piece out₀ memory eeprom out session at i → 64 ≤ length out - at → length out' ≡ length out
    → FeedsOn (talk_of session memory eeprom) piece i out at memory' eeprom' out' r
    → Fed_so t piece out₀ memory' eeprom' out' r.session r.at r.taken
fed_more {t} {piece} {out₀} {memory} {eeprom} {out} {session = session} {at} {i} {r} f room kept a =
    let q : Talk = talk_of session memory eeprom in
    let s : List ℕ = slice i r.taken piece in
    let rest : List ℕ = drop r.taken piece in
    let least : i < r.taken = a.least in
    let most : r.taken ≤ length piece = a.most in
    let same : length out ≡ length out₀ = f.same in
    let n : length (take r.taken piece) ≡ r.taken = length-take-le r.taken piece most in
    let size : length s ≡ r.taken - i = length-slice i r.taken piece most in
    let tk : take r.taken piece ≡ take i piece ++ s
    = sym (take-append-drop i (take r.taken piece)) ∙ ap (λ (l : List ℕ). l ++ s) (take-take i r.taken piece (omega arith)) in
    let dr : drop i piece ≡ s ++ rest
    = ap (drop i) (sym (take-append-drop r.taken piece)) ∙ drop-append-le i (take r.taken piece) rest (omega arith) in
    let talk : talk_of r.session _ _ ≡ final t (take r.taken piece)
    = a.talk ∙ ap (λ (p : Talk). final p s) f.talk ∙ sym (ap (final t) tk ∙ final_append t (take i piece) s) in
    let next : r.at ≡ at + length (output q s) = a.wrote.next in
    let free : length out₀ - at - length (output q s) ≡ length out₀ - r.at = omega arith in
    let c1 : consumed t (length out₀) piece ≡ i + consumed q (length out₀ - at) (drop i piece)
    = f.counts ∙ ap (λ (p : Talk). i + consumed p (length out₀ - at) (drop i piece)) (sym f.talk) in
    let c2 : consumed q (length out₀ - at) (drop i piece) ≡ length s + consumed (final q s) (length out₀ - at - length (output q s)) rest
    = ap (consumed q (length out₀ - at)) dr ∙ a.counts rest (length out₀ - at) (omega arith) in
    let c3 : consumed (final q s) (length out₀ - at - length (output q s)) rest ≡ consumed (final t (take r.taken piece)) (length out₀ - r.at) rest
    = ap (λ (p : Talk). consumed p (length out₀ - at - length (output q s)) rest) (sym a.talk ∙ talk)
    ∙ ap (λ (k : ℕ). consumed (final t (take r.taken piece)) k rest) free in
    record {
      index = most;
      same = kept ∙ same;
      fits = (let e = a.fits in omega arith);
      talk = talk;
      wrote =
          wrote_as
          (sym (ap (output t) tk ∙ output_append t (take i piece) s ∙ ap (λ (p : Talk). output t (take i piece) ++ output p s) (sym f.talk)))
          (wrote_then f.wrote a.wrote);
      counts = omega arith;
    }

none-consumed : (t : Talk) (room : ℕ) (l : List ℕ) → room < 64 → consumed t room l ≡ 0
unfolding consumed
none-consumed t room [] h = refl
none-consumed t room (b ∷ l) h = rw (lt-leb 64 room h)

nothing_left : (t : Talk) (room : ℕ) → consumed t room [] ≡ 0
unfolding consumed
nothing_left t room = refl

pub fed_all : {t : Talk} {piece out₀ memory eeprom out : List ℕ} {session : Session} {at i : ℕ} → Fed_so t piece out₀ memory eeprom out session at i
    → length piece ≤ i → Feeds t piece out₀ memory eeprom out (record { session = session; at = at; taken = i })
fed_all {t} {piece} {out₀} {session = session} {at} {i} f h =
    let done : drop i piece ≡ [] = drop_of_length-le piece h in
    let last : consumed (final t (take i piece)) (length out₀ - at) (drop i piece) ≡ 0
    = ap (consumed (final t (take i piece)) (length out₀ - at)) done ∙ nothing_left _ _ in
    let c = f.counts in
    record { count = omega arith; within = f.index; talk = f.talk; wrote = f.wrote; fits = f.fits }

pub fed_full : {t : Talk} {piece out₀ memory eeprom out : List ℕ} {session : Session} {at i : ℕ} → Fed_so t piece out₀ memory eeprom out session at i
    → length out - at < 64 → Feeds t piece out₀ memory eeprom out (record { session = session; at = at; taken = i })
fed_full {t} {piece} {out₀} {session = session} {at} {i} f h =
    let same = f.same in
    let last : consumed (final t (take i piece)) (length out₀ - at) (drop i piece) ≡ 0 = none-consumed _ _ _ (omega arith) in
    let c = f.counts in
    record { count = omega arith; within = f.index; talk = f.talk; wrote = f.wrote; fits = f.fits }
