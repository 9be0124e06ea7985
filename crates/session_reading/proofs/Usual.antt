-- The usual bytes of a line: what each makes of the line so far. Assumes nothing.
use mathlib.Core.Path.{◌≡◌, refl, ap, sym, subst, ◌∙◌}
use mathlib.Core.Bool.{Bool, true, false, ◌&&◌, ◌||◌}
use mathlib.Core.List.{List}
use Prim.Native.Nat.{ℕ, ◌+◌, ◌-◌, ◌*◌, ◌%◌, ◌≤◌, ◌<◌}
use native.Mathlib.Omega.{arith}
use borrow.Author.Tests.{eqb-true, leb-true, eq-eqb, ne_eqb, le-leb}
use lib.Dec.{eqb, leb}
use lib.ListN.{length, get_or}
use Rattle.std.specs.Prelude.{Option, None, Some, unwrap_or, if◌then◌else◌}
use Rattle.std.proofs.lemmas.Option.{none-some, same_Some}
use Rattle.base.specs.Laws.{never, both}
use Rattle.session_digits.specs.Digits.{digit_of, hex_of}
use Rattle.session_reading.specs.Reading.{taken}
use Rattle.session_reading.specs.Found.{Scanned, Found}
use Rattle.session_reading.specs.Whole.{is_blank, number_after, so_far, DigitsRead}
use Rattle.session_reading.specs.declared.Line.{Line}
use Rattle.session_reading.specs.declared.whole.Numeral.{Numeral}
use Rattle.session_reading.specs.declared.Number.{Number}
use Rattle.session_reading.specs.declared.Number.TheVariants.{WriteOffset, ReadOffset, Code}
use Rattle.session_reading.specs.declared.Reading.{Reading}
use Rattle.session_reading.specs.declared.Reading.TheVariants.{Blank, Letter, Begun, Zero, Digits, Offset, HalfValue, Whole, Single, Spoiled}
use Rattle.session_reading.proofs.Scanning.{scanned-none, scanned-more, found_behind, found-next, found_here, found-newline, found_as}

-- ---- the beginning
blank_of : (reading : Reading) → is_blank reading ≡ true → Blank ≡ reading
unfolding is_blank
blank_of Blank h = refl
blank_of (Letter number) h = never h
blank_of (Begun number) h = never h
blank_of (Zero number) h = never h
blank_of (Digits number n) h = never h
blank_of (Offset offset) h = never h
blank_of (HalfValue offset high) h = never h
blank_of (Whole offset v) h = never h
blank_of Single h = never h
blank_of Spoiled h = never h

pub blank-found : {reading : Reading} {t : Bool} {piece : List ℕ} {from : ℕ} {line : Line} → t ≡ is_blank reading → t ≡ true → Found Blank piece from line
    → Found reading piece from line
blank-found {reading} e h f = found_as (blank_of reading (sym e ∙ h)) f

-- ---- the letter
letter_taken_lem : (b : ℕ) → eqb b 87 || eqb b 82 || eqb b 67 ≡ true → Letter (number_after b) ≡ taken Blank b
unfolding taken number_after
letter_taken_lem b h = by (eqb b 87) (eqb b 82) (eqb b 67) h
  where
    by : (w r c : Bool) → w || r || c ≡ true
        → Letter (if w then WriteOffset else if r then ReadOffset else Code)
        ≡ (if w then Letter WriteOffset else if r then Letter ReadOffset else if c then Letter Code else if eqb b 88 then Single else Spoiled)
    by true r c h = refl
    by false true c h = refl
    by false false true h = refl
    by false false false h = never h

pub letter_found : {piece : List ℕ} {from : ℕ} {line : Line} → Found (Letter (number_after (get_or piece from 0))) piece (from + 1) line → from < length piece
    → eqb (get_or piece from 0) 87 || eqb (get_or piece from 0) 82 || eqb (get_or piece from 0) 67 ≡ true → Found Blank piece from line
letter_found {piece = piece} {from} f h t = found-next h (λ k. let z : false ≡ true = rw k at t in never z) (letter_taken_lem (get_or piece from 0) t) f

-- ---- the space after it
pub space_found : {number : Number} {piece : List ℕ} {from : ℕ} {line : Line} → Found (Begun number) piece (from + 1) line → from < length piece
    → get_or piece from 0 ≡ 32 → Found (Letter number) piece from line
unfolding taken
space_found f h e = found-next h (λ k. let z : ◌≡◌ {A = ℕ} 32 10 = sym e ∙ k in omega arith) (rw e) f

-- ---- the number
digit_byte : (b k : ℕ) {d : ℕ} → digit_of b ≡ Some d → digit_of k ≡ None → b ≡ k → ⊥
digit_byte b k {d} h e q = none-some d (sym e ∙ sym (ap digit_of q) ∙ h)

not_digit : (k : ℕ) → leb 48 k && leb k 57 ≡ false → digit_of k ≡ None
unfolding digit_of
not_digit k e = rw e

-- the digit that a byte is, where 10 stands for none
pub digit_some : {o : Option ℕ} {d : ℕ} (b : ℕ) → o ≡ digit_of b → d ≡ unwrap_or o 10 → d ≤ 9 → digit_of b ≡ Some d
digit_some {o} {d} b e f h = sym e ∙ by o f
  where
    by : (o : Option ℕ) → d ≡ unwrap_or o 10 → o ≡ Some d
    by (Some x) k = ap Some (sym k)
    by None k = absurd (omega (arith, k))

pub below_ten : {d : ℕ} → d < 10 → d ≤ 9
below_ten h = omega arith

first_taken_lem : (number : Number) (b : ℕ) {d : ℕ} → digit_of b ≡ Some d → so_far number d ≡ taken (Begun number) b
unfolding taken so_far
first_taken_lem number b h = rw (ne_eqb b 45 (digit_byte b 45 h (not_digit 45 refl)), h)

digit_taken_lem : (number : Number) (n b : ℕ) {d : ℕ} → digit_of b ≡ Some d → n * 10 + d ≤ 65535 → Digits number (n * 10 + d) ≡ taken (Digits number n) b
unfolding taken
digit_taken_lem number n b {d} h k = rw (ne_eqb b 32 (digit_byte b 32 h (not_digit 32 refl)), h, le-leb (n * 10 + d) 65535 k)

-- the loop of `more_digits`: the digits from `from` to i are read, and the number is n
pub record Growing (first : ℕ) (piece : List ℕ) (from n i : ℕ) : Type 0 where
  pub above : 1 ≤ n
  pub within : n ≤ 65535
  pub most : i ≤ length piece
  pub digits : (number : Number) → Scanned (Digits number first) piece from (Digits number n) i

pub growing_none : (first : ℕ) (piece : List ℕ) (from : ℕ) → (first ≡ 0 → ⊥) → first ≤ 65535 → from ≤ length piece → Growing first piece from first from
growing_none first piece from h k l =
    record { above = omega arith; within = k; most = l; digits = λ number. scanned-none (Digits number first) piece from l }

pub growing_more : {first : ℕ} {piece : List ℕ} {from n i d : ℕ} → Growing first piece from n i → i < length piece
    → digit_of (get_or piece i 0) ≡ Some d → n * 10 + d ≤ 65535 → Growing first piece from (n * 10 + d) (i + 1)
growing_more {first} {piece} {from} {n} {i} {d} g h e l =
    let above : 1 ≤ n = g.above in
    record {
      above = omega arith;
      within = l;
      most = omega arith;
      digits = λ number. scanned-more (g.digits number) h (digit_byte (get_or piece i 0) 10 e (not_digit 10 refl))
          (digit_taken_lem number n (get_or piece i 0) e l);
    }

pub numbered-none : (piece : List ℕ) (from : ℕ) {first : ℕ} → first ≡ 0 → from ≤ length piece → DigitsRead first piece from (record { n = 0; at = from })
numbered-none piece from e l = record { digits = λ number. rw e (scanned-none (so_far number 0) piece from l) }

pub numbered : {first : ℕ} {piece : List ℕ} {from n i : ℕ} → (first ≡ 0 → ⊥) → Growing first piece from n i
    → DigitsRead first piece from (record { n = n; at = i })
unfolding so_far
numbered {first} {n = n} h g =
    record { digits = λ number. rw (ne_eqb first 0 h, ne_eqb n 0 (λ z. let a : 1 ≤ n = g.above in omega arith)) (g.digits number) }

pub numbered-end : {first : ℕ} {piece : List ℕ} {from n i : ℕ} → (first ≡ 0 → ⊥) → Growing first piece from n i → length piece ≤ i
    → DigitsRead first piece from (record { n = n; at = length piece })
numbered-end {first} {piece} {from} {n} {i} h g k =
    let e : i ≡ length piece = (let m = g.most in omega arith) in
    subst (λ (at : ℕ). DigitsRead first piece from (record { n = n; at = at })) e (numbered h g)

pub number-most : {d : ℕ} {piece : List ℕ} {from : ℕ} {numeral : Numeral} → DigitsRead d piece from numeral → numeral.at ≤ length piece
number-most s = (s.digits Code).most

pub number-found : {number : Number} {d : ℕ} {piece : List ℕ} {from : ℕ} {numeral : Numeral} {line : Line}
    → DigitsRead d piece (from + 1) numeral → Found (so_far number numeral.n) piece numeral.at line → from < length piece
    → digit_of (get_or piece from 0) ≡ Some d → Found (Begun number) piece from line
number-found {number} {d} {piece} {from} s f h e =
    found-next h (digit_byte (get_or piece from 0) 10 e (not_digit 10 refl)) (first_taken_lem number (get_or piece from 0) e)
    (found_behind (s.digits number) f)

-- ---- the number's end
offset_taken : (n : ℕ) → n ≤ 99 → Offset n ≡ taken (so_far WriteOffset n) 32
unfolding taken so_far
offset_taken n h = by (eqb n 0) refl
  where
    by : (t : Bool) → eqb n 0 ≡ t → Offset n ≡ taken (if t then Zero WriteOffset else Digits WriteOffset n) 32
    by true e = ap Offset (eqb-true n 0 e)
    by false e = rw (le-leb n 99 h)

write_letter : (letter : ℕ) → letter ≡ 87 → WriteOffset ≡ number_after letter
unfolding number_after
write_letter letter e = rw (eq-eqb letter 87 e)

pub offset_small : (b n letter : ℕ) → (eqb b 32 && leb n 99) && eqb letter 87 ≡ true → (b ≡ 32) × (n ≤ 99) × (letter ≡ 87)
offset_small b n letter t =
    let p = both (eqb b 32 && leb n 99) (eqb letter 87) t in
    let q = both (eqb b 32) (leb n 99) p.0 in
    (eqb-true b 32 q.0, leb-true n 99 q.1, eqb-true letter 87 p.1)

pub offset_found : (letter : ℕ) {n : ℕ} {piece : List ℕ} {from : ℕ} {line : Line} → Found (Offset n) piece (from + 1) line
    → from < length piece → (eqb (get_or piece from 0) 32 && leb n 99) && eqb letter 87 ≡ true → Found (so_far (number_after letter) n) piece from line
offset_found letter {n} {piece} {from} f h t =
    let p = offset_small (get_or piece from 0) n letter t in
    let space : get_or piece from 0 ≡ 32 = p.0 in
    let number : WriteOffset ≡ number_after letter = write_letter letter p.2 in
    found_as (ap (λ (x : Number). so_far x n) number)
    (found-next h (λ k. let z : ◌≡◌ {A = ℕ} 32 10 = sym space ∙ k in omega arith)
    (offset_taken n p.1 ∙ sym (ap (taken (so_far WriteOffset n)) space)) f)

pub end-found : {r reading : Reading} {piece : List ℕ} {from : ℕ} → r ≡ reading → from < length piece → get_or piece from 0 ≡ 10
    → Found reading piece from (record { reading = r; end = from })
end-found e h k = found_as e (found_here h k)

-- ---- the value
hex_byte : (b : ℕ) {d : ℕ} → hex_of b ≡ Some d → b ≡ 10 → ⊥
unfolding hex_of
hex_byte b {d} h e = none-some d (rw e at h)

-- A to F and a to f are above their row's first place
letter_low : (b : ℕ) → leb 65 b && leb b 70 || leb 97 b && leb b 102 ≡ true → b % 16 < 7
letter_low b h = by (leb 65 b && leb b 70) refl h
  where
    by : (t : Bool) → leb 65 b && leb b 70 ≡ t → t || leb 97 b && leb b 102 ≡ true → b % 16 < 7
    by true e k =
        let p = both (leb 65 b) (leb b 70) e in
        let least : 65 ≤ b = leb-true 65 b p.0 in
        let most : b ≤ 70 = leb-true b 70 p.1 in
        omega arith
    by false e k =
        let p = both (leb 97 b) (leb b 102) k in
        let least : 97 ≤ b = leb-true 97 b p.0 in
        let most : b ≤ 102 = leb-true b 102 p.1 in
        omega arith

pub hex_small : (b : ℕ) {d : ℕ} → hex_of b ≡ Some d → d < 16
unfolding hex_of
hex_small b {d} h = by (leb 48 b && leb b 57) (leb 65 b && leb b 70 || leb 97 b && leb b 102) refl refl h
  where
    by : (t u : Bool) → leb 48 b && leb b 57 ≡ t → leb 65 b && leb b 70 || leb 97 b && leb b 102 ≡ u
        → (if t then Some (b % 16) else if u then Some (b % 16 + 9) else None) ≡ Some d → d < 16
    by true u e k q =
        let same : b % 16 ≡ d = same_Some (b % 16) d q in
        omega arith
    by false true e k q =
        let same : b % 16 + 9 ≡ d = same_Some (b % 16 + 9) d q in
        let low = letter_low b k in
        omega arith
    by false false e k q = absurd (none-some d q)

high_taken : (offset b : ℕ) {d : ℕ} → hex_of b ≡ Some d → HalfValue offset d ≡ taken (Offset offset) b
unfolding taken
high_taken offset b h = rw h

low-taken : (offset high b : ℕ) {d : ℕ} → high < 16 → hex_of b ≡ Some d → Whole offset (high * 16 + d) ≡ taken (HalfValue offset high) b
unfolding taken
low-taken offset high b k h = let e : high % 16 ≡ high = omega arith in rw (h, e)

pub value_found : {offset high low : ℕ} {piece : List ℕ} {from : ℕ} → 2 < length piece - from → hex_of (get_or piece from 0) ≡ Some high
    → hex_of (get_or piece (from + 1) 0) ≡ Some low → get_or piece (from + 2) 0 ≡ 10
    → Found (Offset offset) piece from (record { reading = Whole offset (high * 16 + low); end = from + 2 })
value_found {offset} {high} {low} {piece = piece} {from} r h l t =
    let two : from + 1 + 1 ≡ from + 2 = omega arith in
    let one = scanned-more (scanned-none (Offset offset) piece from (omega arith)) (omega arith) (hex_byte (get_or piece from 0) h)
    (high_taken offset (get_or piece from 0) h) in
    let both_read = scanned-more one (omega arith) (hex_byte (get_or piece (from + 1) 0) l)
    (low-taken offset high (get_or piece (from + 1) 0) (hex_small (get_or piece from 0) h) l) in
    found-newline (rw two at both_read) t
