-- A number that is written as text reads back as itself: in decimal, with no leading zero; a byte by its two hex digits; a word by its two bytes.
use Rattle.std.specs.Prelude.{◌≡◌, refl, Bool, true, false, List, [], ◌∷◌, ◌++◌, Option, None, Some, ℕ, zero, suc, ◌+◌, ◌*◌, ◌/◌, ◌%◌, ◌^◌, ◌<◌, ◌≤◌, eqb, ltb}
use Rattle.std.specs.Prelude.{if◌then◌else◌}
use Rattle.std.specs.Option.{option_and_then}
use Rattle.std.proofs.Common.{ap, ◌∙◌, arith, eqb-true, ltb-true, ltb-false, ne_eqb, le-leb}
use Rattle.std.proofs.Math.Nat.{pow-succ'}
use Rattle.std.proofs.lemmas.Bool.{eqb-false, lt-leb}
use Rattle.session_digits.specs.Digits.{digit_of, hex_of, hex_digit}
use Rattle.session_text.specs.Text.{byte_text, word_text, digits_of, decimal_text}
use Rattle.session_commands.specs.Command.{FieldNumber, digits, alone, decimal, value}

-- ---- one digit
digit_back : (d : ℕ) → d < 10 → digit_of (48 + d) ≡ Some d
unfolding digit_of
digit_back d h = rw (le-leb 48 (48 + d) (omega arith), le-leb (48 + d) 57 (omega arith)) (ap Some (omega arith))

low-back : (d : ℕ) → d < 10 → hex_of (48 + d) ≡ Some d
unfolding hex_of
low-back d h = rw (le-leb 48 (48 + d) (omega arith), le-leb (48 + d) 57 (omega arith)) (ap Some (omega arith))

high-back : (d : ℕ) → 10 ≤ d → d < 16 → hex_of (55 + d) ≡ Some d
unfolding hex_of
high-back d h k =
    rw (le-leb 48 (55 + d) (omega arith), lt-leb (55 + d) 57 (omega arith), le-leb 65 (55 + d) (omega arith), le-leb (55 + d) 70 (omega arith))
    (ap Some (omega arith))

hex_back : (n : ℕ) → hex_of (hex_digit n) ≡ Some (n % 16)
hex_back n = by (ltb (n % 16) 10) refl
  where
    by : (t : Bool) → ltb (n % 16) 10 ≡ t → hex_of (if t then 48 + n % 16 else 55 + n % 16) ≡ Some (n % 16)
    by true e = low-back (n % 16) (ltb-true (n % 16) 10 e)
    by false e = high-back (n % 16) (ltb-false (n % 16) 10 e) (omega arith)

-- ---- one digit more
unfoldable more : FieldNumber → ℕ → FieldNumber
more None d = None
more (Some m) d = Some (m * 10 + d)

digits_more : (n d : ℕ) (f : List ℕ) → d < 10 → digits n (f ++ ((48 + d) ∷ [])) ≡ more (digits n f) d
unfolding digits more
digits_more n d [] h = rw (digit_back d h)
digits_more n d (b ∷ f) h = by (digit_of b) (λ x. digits_more (n * 10 + x) d f h)
  where
    by : (o : Option ℕ) → ((x : ℕ) → digits (n * 10 + x) (f ++ ((48 + d) ∷ [])) ≡ more (digits (n * 10 + x) f) d)
        → option_and_then (λ x. digits (n * 10 + x) (f ++ ((48 + d) ∷ []))) o ≡ more (option_and_then (λ x. digits (n * 10 + x) f) o) d
    by None e = refl
    by (Some x) e = e x

abbrev number_in : FieldNumber → ℕ
number_in None = 0
number_in (Some n) = n

decimal-more : (f : List ℕ) (m d : ℕ) → decimal f ≡ Some m → 0 < m → d < 10 → decimal (f ++ ((48 + d) ∷ [])) ≡ Some (m * 10 + d)
unfolding more
decimal-more [] m d e h k = absurd (let z : 0 ≡ m = ap number_in e in omega arith)
decimal-more (b ∷ f) m d e h k = by (digit_of b) f e
  where
    one : (x : ℕ) (z : Bool) (f : List ℕ) → (if z then alone f else digits x f) ≡ Some m
        → (if z then alone (f ++ ((48 + d) ∷ [])) else digits x (f ++ ((48 + d) ∷ []))) ≡ Some (m * 10 + d)
    one x true [] e = absurd (let z : 0 ≡ m = ap number_in e in omega arith)
    one x true (c ∷ f) e = absurd (let z : 0 ≡ m = ap number_in e in omega arith)
    one x false f e = digits_more x d f k ∙ ap (λ (n : FieldNumber). more n d) e

    by : (o : Option ℕ) (f : List ℕ) → option_and_then (λ x. if eqb x 0 then alone f else digits x f) o ≡ Some m
        → option_and_then (λ x. if eqb x 0 then alone (f ++ ((48 + d) ∷ [])) else digits x (f ++ ((48 + d) ∷ []))) o ≡ Some (m * 10 + d)
    by None f e = absurd (let z : 0 ≡ m = ap number_in e in omega arith)
    by (Some x) f e = one x (eqb x 0) f e

-- ---- a number
one_digit : (n : ℕ) → n < 10 → decimal ((48 + n) ∷ []) ≡ Some n
unfolding digits
one_digit zero h = rw (digit_back 0 h)
one_digit (suc n) h = rw (digit_back (suc n) h, ne_eqb (suc n) 0 (λ z. omega arith))

no_digits : (k : ℕ) → digits_of k 0 ≡ []
unfolding digits_of
no_digits zero = refl
no_digits (suc k) = refl

last_digit : (k n : ℕ) → (0 < n / 10 → decimal (digits_of k (n / 10)) ≡ Some (n / 10)) → decimal (digits_of k (n / 10) ++ ((48 + n % 10) ∷ [])) ≡ Some n
last_digit k n h = by (eqb (n / 10) 0) refl
  where
    by : (t : Bool) → eqb (n / 10) 0 ≡ t → decimal (digits_of k (n / 10) ++ ((48 + n % 10) ∷ [])) ≡ Some n
    by true e =
        let z : n / 10 ≡ 0 = eqb-true (n / 10) 0 e in
        let m : n % 10 ≡ n = omega arith in
        rw (z, no_digits k, m) (one_digit n (omega arith))
    by false e =
        let p : 0 < n / 10 = (let q : n / 10 ≡ 0 → ⊥ = eqb-false (n / 10) 0 e in omega arith) in
        decimal-more (digits_of k (n / 10)) (n / 10) (n % 10) (h p) p (omega arith) ∙ ap Some (omega arith)

digits-back : (k n : ℕ) → 0 < n → n < 10 ^ k → decimal (digits_of k n) ≡ Some n
unfolding digits_of
digits-back zero n h l = absurd (omega arith)
digits-back (suc k) n h l =
    let m : n < 10 * 10 ^ k = rw (pow-succ' 10 k) at l in
    rw (ne_eqb n 0 (λ z. omega arith)) (last_digit k n (λ p. digits-back k (n / 10) p (omega arith)))

pub decimal-back : (n : ℕ) → n < 10 ^ 20 → decimal (decimal_text n) ≡ Some n
unfolding decimal_text
decimal-back n h = last_digit 19 n (λ p. digits-back 19 (n / 10) p (omega arith))

-- ---- a byte, and a word by its high and its low byte
pub byte-back : (v : ℕ) → v < 256 → value (byte_text v) ≡ Some v
byte-back v h =
    rw (hex_back (v / 16), hex_back v) (ap Some (omega arith))

pub word_bytes : (v : ℕ) → word_text v ≡ byte_text (v / 256) ++ byte_text (v % 256)
word_bytes v =
    let high : v / 4096 ≡ v / 256 / 16 = omega arith in
    let low : v / 16 % 256 % 16 ≡ v % 256 / 16 % 16 = omega arith in
    rw (high, low)
