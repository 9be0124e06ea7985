-- Bytes that end no line: they are read, nothing is printed, and all are taken. Assumes nothing.
use mathlib.Core.Path.{◌≡◌, refl, ap, ◌∙◌}
use mathlib.Core.Bool.{true}
use mathlib.Core.List.{List, [], ◌∷◌, ◌++◌}
use Prim.Native.Nat.{ℕ, suc, ◌+◌, ◌-◌, ◌≤◌}
use native.Mathlib.Omega.{arith}
use borrow.Author.Tests.{le-leb}
use lib.ListN.{length}
use Rattle.session_reading.specs.Reading.{taken, read_from}
use Rattle.session_reading.specs.Found.{plain}
use Rattle.session_reading.proofs.Scanning.{plain_cons}
use Rattle.session_talk.specs.Session.{Talk}
use Rattle.session_feed.specs.Feeding.{with_reading, after, said, final, output, consumed}

pub final-plain : (t : Talk) (a : List ℕ) → plain a ≡ true → final t a ≡ with_reading t (read_from t.reading a)
unfolding final after read_from
final-plain t [] h = refl
final-plain t (x ∷ a) h =
    let p = plain_cons x a h in
    rw p.0 (final-plain (with_reading t (taken t.reading x)) a p.1)

pub output-plain : (t : Talk) (a : List ℕ) → plain a ≡ true → output t a ≡ []
unfolding output after said
output-plain t [] h = refl
output-plain t (x ∷ a) h =
    let p = plain_cons x a h in
    rw p.0 (output-plain (with_reading t (taken t.reading x)) a p.1)

pub consumed-plain : (t : Talk) (a rest : List ℕ) (room : ℕ) → plain a ≡ true → 64 ≤ room
    → consumed t room (a ++ rest) ≡ length a + consumed (final t a) room rest
unfolding consumed final after said
consumed-plain t [] rest room h k = omega arith
consumed-plain t (x ∷ a) rest room h k =
    let p = plain_cons x a h in
    let e : room - 0 ≡ room = omega arith in
    let i = consumed-plain (with_reading t (taken t.reading x)) a rest room p.1 k in
    rw (le-leb 64 room k, p.0, e) (ap suc i ∙ omega arith)
