-- Text that is written piece after piece, and the loops of `copy` and `spell`. Assumes nothing.
use mathlib.Core.Path.{◌≡◌, refl, ap, sym, ◌∙◌, subst}
use mathlib.Core.List.{List, [], ◌∷◌, ◌++◌, append_assoc}
use Prim.Native.Nat.{ℕ, zero, suc, ◌+◌, ◌-◌, ◌*◌, ◌/◌, ◌%◌, ◌^◌, ◌≤◌, ◌<◌}
use native.Mathlib.Nat.{pow-succ'}
use native.Mathlib.Omega.{arith}
use native.Mathlib.Numerals.{add-one}
use borrow.Author.Tests.{ne_eqb}
use mathlib.Core.Bool.{Bool, true, false}
use lib.Dec.{eqb}
use Rattle.std.specs.Prelude.{if◌then◌else◌}
use lib.ListN.{length, set, take, drop, get_or, length-append, length-set, length-drop, drop_of_length-le}
use lib.Seq.{sets, take-suc, take_all, length-take-le, length-sets}
use Rattle.session_text.specs.declared.Decimal.{Decimal}
use Rattle.session_text.specs.Text.{Wrote, Spells, digits_of, decimal_text}

pub sets_append : (a b l : List ℕ) (i : ℕ) → sets (sets l i a) (i + length a) b ≡ sets l i (a ++ b)
sets_append [] b l i = ap (λ (n : ℕ). sets l n b) (omega arith)
sets_append (x ∷ a) b l i =
    let e : i + length (x ∷ a) ≡ suc i + length a = omega arith in
    ap (λ (n : ℕ). sets (sets l i (x ∷ a)) n b) e ∙ sets_append a b (set l i x) (suc i)

-- what is written in two parts
pub wrote_then : {a b out out₁ out₂ : List ℕ} {at m r : ℕ} → Wrote a out at out₁ m → Wrote b out₁ m out₂ r → Wrote (a ++ b) out at out₂ r
wrote_then {a} {b} {out} {at = at} f g =
    record {
      next = g.next ∙ (let e = f.next in let l = length-append a b in omega arith);
      bytes = g.bytes ∙ rw (f.bytes, f.next, sets_append a b out at);
    }

pub wrote_as : {a b out out' : List ℕ} {at r : ℕ} → a ≡ b → Wrote a out at out' r → Wrote b out at out' r
wrote_as {out = out} {out'} {at} {r} e w = subst (λ (text : List ℕ). Wrote text out at out' r) e w

pub wrote_length : {text out out' : List ℕ} {at r : ℕ} → Wrote text out at out' r → length out' ≡ length out
wrote_length {text} {out} {at = at} w = ap length w.bytes ∙ length-sets out at text

-- ---- how long texts are
pub digits_length : (k n : ℕ) → length (digits_of k n) ≤ k
unfolding digits_of
digits_length zero n = omega arith
digits_length (suc k) n = by (eqb n 0) (digits_length k (n / 10))
  where
    by : (t : Bool) → length (digits_of k (n / 10)) ≤ k → length (if t then [] else (digits_of k (n / 10) ++ ((48 + n % 10) ∷ []))) ≤ suc k
    by true h = omega arith
    by false h = rw (length-append (digits_of k (n / 10)) ((48 + n % 10) ∷ [])) (omega arith)

pub decimal_length : (n : ℕ) → length (decimal_text n) ≤ 20
unfolding decimal_text
decimal_length n =
    rw (length-append (digits_of 19 (n / 10)) ((48 + n % 10) ∷ [])) (let h = digits_length 19 (n / 10) in omega arith)

-- ---- the loop of `copy`: i bytes of the text stand in `out`
pub record Copied (text out₀ : List ℕ) (at : ℕ) (out : List ℕ) (i : ℕ) : Type 0 where
  pub index : i ≤ length text
  pub bytes : out ≡ sets out₀ at (take i text)
  pub same : length out ≡ length out₀

pub copied_none : (text out : List ℕ) (at : ℕ) → Copied text out at out 0
copied_none text out at = record { index = omega arith; bytes = refl; same = refl }

pub copied_more : {text out₀ out : List ℕ} {at i : ℕ} → Copied text out₀ at out i → i < length text
    → Copied text out₀ at (set out (at + i) (get_or text i 0)) (i + 1)
copied_more {text} {out₀} {out} {at} {i} f h =
    let more : take (i + 1) text ≡ take i text ++ (get_or text i 0 ∷ []) = rw add-one (take-suc text i 0 h) in
    let n : length (take i text) ≡ i = length-take-le i text (omega arith) in
    let joined : set (sets out₀ at (take i text)) (at + i) (get_or text i 0) ≡ sets out₀ at (take i text ++ (get_or text i 0 ∷ [])) =
    rw n at (sets_append (take i text) (get_or text i 0 ∷ []) out₀ at) in
    record {
      index = omega arith;
      bytes = rw (f.bytes, more) joined;
      same = length-set out (at + i) (get_or text i 0) ∙ f.same;
    }

pub copied_all : {text out₀ out : List ℕ} {at i : ℕ} → Copied text out₀ at out i → length text ≤ i → Wrote text out₀ at out (at + length text)
copied_all {text} {out₀} {at = at} {i = i} f h = record { next = refl; bytes = f.bytes ∙ ap (sets out₀ at) (take_all i text h) }

-- ---- the loop of `spell`: what is left of the number has still to stand at `from` and before it
pub drop_set : (l : List ℕ) (i x : ℕ) → i < length l → drop i (set l i x) ≡ x ∷ drop (suc i) l
drop_set [] i x h = absurd (omega arith)
drop_set (y ∷ l) zero x h = refl
drop_set (y ∷ l) (suc i) x h = drop_set l i x (omega arith)

pub record Spelled (n : ℕ) (digits : List ℕ) (from left : ℕ) : Type 0 where
  pub size : length digits ≡ 20
  pub within : from ≤ 19
  pub small : left < 10 * 10 ^ from
  pub fits : left < 2 ^ 64
  pub text : digits_of from (left / 10) ++ ((48 + left % 10) ∷ drop (suc from) digits) ≡ decimal_text n

pub spelled_none : (n : ℕ) (digits : List ℕ) → n < 2 ^ 64 → length digits ≡ 20 → Spelled n digits 19 n
unfolding decimal_text
spelled_none n digits h e =
    record {
      size = e;
      within = omega arith;
      small = omega arith;
      fits = h;
      text = rw (drop_of_length-le digits {i = 20} (omega arith));
    }

pub spelled_room : {n : ℕ} {digits : List ℕ} {from left : ℕ} → Spelled n digits from left → 9 < left → 1 ≤ from
spelled_room {from = zero} s h = absurd (let k = s.small in omega arith)
spelled_room {from = suc k} s h = omega arith

pub spelled_more : {n : ℕ} {digits : List ℕ} {from left : ℕ} → Spelled n digits from left → 9 < left
    → Spelled n (set digits from (48 + left % 10)) (from - 1) (left / 10)
unfolding digits_of
spelled_more {from = zero} s h = absurd (let k = s.small in omega arith)
spelled_more {n} {digits} {from = suc k} {left} s h =
    let e : suc k - 1 ≡ k = omega arith in
    let size : length digits ≡ 20 = s.size in
    let within : suc k ≤ 19 = s.within in
    let d : drop (suc k) (set digits (suc k) (48 + left % 10)) ≡ (48 + left % 10) ∷ drop (suc (suc k)) digits =
    drop_set digits (suc k) (48 + left % 10) (omega arith) in
    let fits : left < 2 ^ 64 = s.fits in
    let small : left < 10 * (10 * 10 ^ k) = rw (pow-succ' 10 k) at s.small in
    let t : (digits_of k (left / 10 / 10) ++ ((48 + left / 10 % 10) ∷ [])) ++ ((48 + left % 10) ∷ drop (suc (suc k)) digits) ≡ decimal_text n =
    rw (ne_eqb (left / 10) 0 (λ z. omega arith)) at s.text in
    rw e
    (record {
      size = length-set digits (suc k) (48 + left % 10) ∙ size;
      within = omega arith;
      small = omega arith;
      fits = omega arith;
      text = rw d (sym (append_assoc (digits_of k (left / 10 / 10)) ((48 + left / 10 % 10) ∷ []) ((48 + left % 10) ∷ drop (suc (suc k)) digits)) ∙ t);
    })

no_digits : (k : ℕ) → digits_of k 0 ≡ []
unfolding digits_of
no_digits zero = refl
no_digits (suc k) = refl

pub spelled_all : {n : ℕ} {digits : List ℕ} {from left : ℕ} → Spelled n digits from left → left ≤ 9
    → Spells n (record { digits = set digits from (48 + left); from = from })
spelled_all {n} {digits} {from} {left} s h =
    let tens : left / 10 ≡ 0 = omega arith in
    let ones : left % 10 ≡ left = omega arith in
    let size : length digits ≡ 20 = s.size in
    let within : from ≤ 19 = s.within in
    record {
      size = length-set digits from (48 + left) ∙ size;
      within = omega arith;
      text = drop_set digits from (48 + left) (omega arith) ∙ rw (tens, ones, no_digits from) at s.text;
    }

pub spelled_part : {n : ℕ} {d : Decimal} → Spells n d → take (length d.digits - d.from) (drop d.from d.digits) ≡ decimal_text n
spelled_part {d = d} s =
    take_all (length d.digits - d.from) (drop d.from d.digits) (rw (length-drop d.from d.digits) (omega arith)) ∙ s.text
