-- Bytes that are read one after another, and bytes that end no line. Assumes nothing.
use mathlib.Core.Path.{◌≡◌, refl, ap, sym, subst, ◌∙◌}
use mathlib.Core.Bool.{Bool, true, false}
use mathlib.Core.List.{List, [], ◌∷◌, ◌++◌}
use Prim.Native.Nat.{ℕ, ◌+◌, ◌≤◌, ◌<◌}
use native.Mathlib.Omega.{arith}
use native.Mathlib.Numerals.{add-one}
use borrow.Author.Tests.{ne_eqb}
use lib.Dec.{eqb}
use lib.ListN.{length, take, drop, get_or, take-append-drop}
use lib.Seq.{slice, slice_empty, take-suc, take-take, length-take-le, drop-append-le}
use Rattle.std.specs.Prelude.{if◌then◌else◌}
use Rattle.session_reading.specs.Reading.{taken, read_from}
use Rattle.session_reading.specs.Found.{plain, Scanned, Found}
use Rattle.session_reading.specs.declared.Line.{Line}
use Rattle.session_reading.specs.declared.Reading.{Reading}

-- one byte more of a slice
pub slice_more : (piece : List ℕ) (from i : ℕ) → from ≤ i → i < length piece → slice from (i + 1) piece ≡ slice from i piece ++ (get_or piece i 0 ∷ [])
slice_more piece from i h l =
    let n : length (take i piece) ≡ i = length-take-le i piece (omega arith) in
    let more : take (i + 1) piece ≡ take i piece ++ (get_or piece i 0 ∷ []) = rw add-one (take-suc piece i 0 l) in
    ap (drop from) more ∙ drop-append-le from (take i piece) (get_or piece i 0 ∷ []) (omega arith)

-- two slices that meet
slice_join : (piece : List ℕ) (from i end : ℕ) → from ≤ i → i ≤ end → i ≤ length piece → slice from end piece ≡ slice from i piece ++ slice i end piece
slice_join piece from i end h k l =
    let n : length (take i piece) ≡ i = length-take-le i piece l in
    let parts : take i piece ++ slice i end piece ≡ take end piece = rw (take-take i end piece k) at (take-append-drop i (take end piece)) in
    sym (ap (drop from) parts) ∙ drop-append-le from (take i piece) (slice i end piece) (omega arith)

pub read_more : (r : Reading) (a : List ℕ) (b : ℕ) → read_from r (a ++ (b ∷ [])) ≡ taken (read_from r a) b
unfolding read_from
read_more r [] b = refl
read_more r (x ∷ a) b = read_more (taken r x) a b

read_append : (r : Reading) (a b : List ℕ) → read_from r (a ++ b) ≡ read_from (read_from r a) b
unfolding read_from
read_append r [] b = refl
read_append r (x ∷ a) b = read_append (taken r x) a b

pub plain_cons : (x : ℕ) (a : List ℕ) → plain (x ∷ a) ≡ true → (eqb x 10 ≡ false) × (plain a ≡ true)
unfolding plain
plain_cons x a h = by (eqb x 10) refl h
  where
    by : (t : Bool) → eqb x 10 ≡ t → (if t then false else plain a) ≡ true → (eqb x 10 ≡ false) × (plain a ≡ true)
    by true e k = absurd (let z : ◌≡◌ {A = ℕ} 0 1 = cc in omega arith)
    by false e k = (e, k)

plain_append : (a b : List ℕ) → plain a ≡ true → plain b ≡ true → plain (a ++ b) ≡ true
unfolding plain
plain_append [] b h k = k
plain_append (x ∷ a) b h k = let p = plain_cons x a h in rw p.0 (plain_append a b p.1 k)

plain_more : (a : List ℕ) (b : ℕ) → plain a ≡ true → (b ≡ 10 → ⊥) → plain (a ++ (b ∷ [])) ≡ true
unfolding plain
plain_more [] b h n = rw (ne_eqb b 10 n)
plain_more (x ∷ a) b h n = let p = plain_cons x a h in rw p.0 (plain_more a b p.1 n)

pub scanned-none : (reading : Reading) (piece : List ℕ) (from : ℕ) → from ≤ length piece → Scanned reading piece from reading from
unfolding plain read_from
scanned-none reading piece from h =
    record {
      least = omega arith;
      most = h;
      unbroken = rw (slice_empty from piece);
      read = rw (slice_empty from piece);
    }

pub scanned-more : {reading r r' : Reading} {piece : List ℕ} {from i : ℕ} → Scanned reading piece from r i → i < length piece
    → (get_or piece i 0 ≡ 10 → ⊥) → r' ≡ taken r (get_or piece i 0) → Scanned reading piece from r' (i + 1)
scanned-more {reading} {r} {piece = piece} {from} {i} s h n e =
    let least : from ≤ i = s.least in
    let more : slice from (i + 1) piece ≡ slice from i piece ++ (get_or piece i 0 ∷ []) = slice_more piece from i least h in
    record {
      least = omega arith;
      most = omega arith;
      unbroken = rw more (plain_more (slice from i piece) (get_or piece i 0) s.unbroken n);
      read =
          e ∙ ap (λ (q : Reading). taken q (get_or piece i 0)) s.read
          ∙ sym (ap (read_from reading) more ∙ read_more reading (slice from i piece) (get_or piece i 0));
    }

pub found-newline : {reading r : Reading} {piece : List ℕ} {from i : ℕ} → Scanned reading piece from r i → get_or piece i 0 ≡ 10
    → Found reading piece from (record { reading = r; end = i })
found-newline s e = record { least = s.least; most = s.most; unbroken = s.unbroken; read = s.read; stop = λ h. e }

-- nothing is left behind the last byte
pub found-end : {reading r : Reading} {piece : List ℕ} {from i : ℕ} → Scanned reading piece from r i → length piece ≤ i
    → Found reading piece from (record { reading = r; end = length piece })
found-end {reading} {r} {piece} {from} {i} s h =
    let e : i ≡ length piece = (let m = s.most in omega arith) in
    subst (λ (n : ℕ). Found reading piece from (record { reading = r; end = n })) e
    (record { least = s.least; most = s.most; unbroken = s.unbroken; read = s.read; stop = λ k. absurd (omega arith) })

-- what is found behind bytes that are read is found with them
pub found_behind : {reading r : Reading} {piece : List ℕ} {from i : ℕ} {line : Line} → Scanned reading piece from r i → Found r piece i line
    → Found reading piece from line
found_behind {reading} {r} {piece} {from} {i} {line} s f =
    let least : from ≤ i = s.least in
    let next : i ≤ line.end = f.least in
    let parts : slice from line.end piece ≡ slice from i piece ++ slice i line.end piece = slice_join piece from i line.end least next s.most in
    record {
      least = omega arith;
      most = f.most;
      unbroken = rw parts (plain_append (slice from i piece) (slice i line.end piece) s.unbroken f.unbroken);
      read =
          f.read ∙ ap (λ (q : Reading). read_from q (slice i line.end piece)) s.read
          ∙ sym (ap (read_from reading) parts ∙ read_append reading (slice from i piece) (slice i line.end piece));
      stop = f.stop;
    }

-- what is found behind one byte that is no newline
pub found-next : {reading r : Reading} {piece : List ℕ} {from : ℕ} {line : Line} → from < length piece → (get_or piece from 0 ≡ 10 → ⊥)
    → r ≡ taken reading (get_or piece from 0) → Found r piece (from + 1) line → Found reading piece from line
found-next {reading} {piece = piece} {from} h n e f = found_behind (scanned-more (scanned-none reading piece from (omega arith)) h n e) f

-- a line that ends here
pub found_here : {reading : Reading} {piece : List ℕ} {from : ℕ} → from < length piece → get_or piece from 0 ≡ 10
    → Found reading piece from (record { reading = reading; end = from })
found_here {reading} {piece} {from} h e = found-newline (scanned-none reading piece from (omega arith)) e

-- a line of an equal beginning
pub found_as : {reading reading' : Reading} {piece : List ℕ} {from : ℕ} {line : Line} → reading ≡ reading' → Found reading piece from line
    → Found reading' piece from line
found_as {piece = piece} {from} {line} e f = subst (λ (q : Reading). Found q piece from line) e f
