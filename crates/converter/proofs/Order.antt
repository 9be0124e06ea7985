-- Theorems that rest on theorems of specs/Order.antt, and promise as those do. What specs/Order.antt says of itself:
-- The order of the channels (manual 10.1, 11.3 and 11.4; the specification, "Conversions, edges and requests"): from low on, one up each time,
-- 31 to 0, as far as high, and again. A low above high goes on through 31 and 0. Assumes nothing.
use Rattle.std.specs.Prelude.{◌≡◌, refl, List, ◌∷◌, ◌++◌, Bool, true, false, ℕ, zero, suc, ◌+◌, ◌-◌, ◌≤◌, get_or, take, leb, if◌then◌else◌}
use Rattle.std.proofs.Common.{sym, ap, ◌∙◌, arith, eq-eqb, ne_eqb, leb-true, leb-false}
use Rattle.converter.specs.declared.channels.Converter.{Converter}
use Rattle.converter.specs.Channels.{up, next_channel, started}
use Rattle.converter.specs.Working.{WorkingConverter}
use Rattle.converter.specs.Order.{channels, range_channels, rounds, selections, singles, up_from, ups}

-- ---- the same over the three numbers that matter
channels_are : (k : ℕ) (c : Converter) → channels k c ≡ selections c.low c.high c.selected k
unfolding channels selections
channels_are zero c = refl
channels_are (suc k) c = ap (λ (l : List ℕ). c.selected ∷ l) (channels_are k (started c))

singles_are : (k low high selected channel : ℕ)
    → singles k (record { low = low; high = high; selected = selected; channel = channel; converting = 0; scanen = 0; clken = 0 })
    ≡ selections low high selected k
unfolding singles selections
singles_are zero low high selected channel = refl
singles_are (suc k) low high selected channel =
    ap (λ (l : List ℕ). selected ∷ l) (singles_are k low high (next_channel low high selected) selected)

next-high : (low high s : ℕ) → s ≡ high → next_channel low high s ≡ low
unfolding next_channel
next-high low high s e = rw (eq-eqb s high e)

next_up : (low high s : ℕ) → (s ≡ high → ⊥) → next_channel low high s ≡ up s
unfolding next_channel
next_up low high s n = rw (ne_eqb s high n)

-- one up is one nearer to high
nearer : (high s n : ℕ) → s ≤ 31 → high ≤ 31 → ups s high ≡ suc n → (up s ≤ 31) × (ups (up s) high ≡ n)
nearer high s n h k e = by (leb 31 s) refl
  where
    by : (b : Bool) → leb 31 s ≡ b → ((if b then 0 else s + 1) ≤ 31) × (ups (if b then 0 else s + 1) high ≡ n)
    by true t = let l = leb-true 31 s t in (omega arith, omega arith)
    by false t = let l = leb-false 31 s t in (omega arith, omega arith)

-- n + k, by recursion on n
more : ℕ → ℕ → ℕ
more zero k = k
more (suc n) k = suc (more n k)

more-is : (n k : ℕ) → more n k ≡ n + k
unfolding more
more-is zero k = omega arith
more-is (suc n) k = omega (arith, more-is n k)

-- from a channel the selection goes up to high, and then to low
to_high : (low high n s k : ℕ) → s ≤ 31 → high ≤ 31 → ups s high ≡ n
    → selections low high s (more (suc n) k) ≡ up_from s (suc n) ++ selections low high low k
unfolding selections up_from more
to_high low high zero s k p q e = ap (λ (x : ℕ). s ∷ selections low high x k) (next-high low high s (omega arith))
to_high low high (suc n) s k p q e =
    let t = nearer high s n p q e in
    ap (λ (x : ℕ). s ∷ selections low high x (more (suc n) k)) (next_up low high s (λ d. omega arith))
    ∙ ap (λ (l : List ℕ). s ∷ l) (to_high low high n (up s) k t.0 q t.1)

total : ℕ → ℕ → ℕ
total w zero = 0
total w (suc n) = more w (total w n)

total_enough : (w k : ℕ) → k ≤ total (suc w) k
unfolding total more
total_enough w zero = omega arith
total_enough w (suc k) = omega (arith, total_enough w k, more-is w (total (suc w) k))

whole-rounds : (low high n : ℕ) → low ≤ 31 → high ≤ 31
    → selections low high low (total (suc (ups low high)) n) ≡ rounds n (range_channels low high)
unfolding selections rounds total
whole-rounds low high zero p q = refl
whole-rounds low high (suc n) p q =
    to_high low high (ups low high) low (total (suc (ups low high)) n) p q refl
    ∙ ap (λ (l : List ℕ). range_channels low high ++ l) (whole-rounds low high n p q)

shorter : (low high s k j : ℕ) → take k (selections low high s (more k j)) ≡ selections low high s k
unfolding selections more
shorter low high s zero j = refl
shorter low high s (suc k) j = ap (λ (l : List ℕ). s ∷ l) (shorter low high (next_channel low high s) k j)

selected_in_order : (low high k : ℕ) → low ≤ 31 → high ≤ 31 → selections low high low k ≡ take k (rounds k (range_channels low high))
selected_in_order low high k p q =
    let t : ℕ = total (suc (ups low high)) k in
    let e : more k (t - k) ≡ t = omega (arith, total_enough (ups low high) k, more-is k (t - k)) in
    sym (shorter low high low k (t - k))
    ∙ ap (λ (n : ℕ). take k (selections low high low n)) e
    ∙ ap (take k) (whole-rounds low high k p q)

-- ---- the theorems
-- with low selected, as after a write of 2 or 3, any number of starts convert the range's channels in order, round after round
pub in_order : (c : Converter) (k : ℕ) → WorkingConverter c → c.selected ≡ c.low
    → channels k c ≡ take k (rounds k (range_channels c.low c.high))
in_order c k w e =
    channels_are k c
    ∙ ap (λ (s : ℕ). selections c.low c.high s k) e
    ∙ selected_in_order c.low c.high k w.low w.high

-- single conversions started by software are such starts
pub singles-start : (c : Converter) (k : ℕ) → c.converting ≡ 0 → c.scanen ≡ 0 → c.clken ≡ 0 → singles k c ≡ channels k c
singles-start c k p q r = by c.converting c.scanen c.clken p q r ∙ sym (channels_are k c)
  where
    by : (a b d : ℕ) → a ≡ 0 → b ≡ 0 → d ≡ 0
        → singles k (record { low = c.low; high = c.high; selected = c.selected; channel = c.channel; converting = a; scanen = b; clken = d })
        ≡ selections c.low c.high c.selected k
    by a b d p q r = rw (p, q, r) (singles_are k c.low c.high c.selected c.channel)

-- the range ends at high
ends_at : (high n s : ℕ) → s ≤ 31 → high ≤ 31 → ups s high ≡ n → get_or (up_from s (suc n)) n 0 ≡ high
unfolding up_from
ends_at high zero s p q e = omega arith
ends_at high (suc n) s p q e = let t = nearer high s n p q e in ends_at high n (up s) t.0 q t.1

pub range-ends : (low high : ℕ) → low ≤ 31 → high ≤ 31 → get_or (range_channels low high) (ups low high) 0 ≡ high
range-ends low high p q = ends_at high (ups low high) low p q refl
