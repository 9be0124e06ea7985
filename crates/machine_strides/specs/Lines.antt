-- The CLK pulses that some ticks bring to counter 0 or 1: none while its clock is stopped, one in every tick, or one each time that its divider comes
-- round (manual, Base+10 and 17.1). A divider that counts to `last` is at h; one law holds for both, of 100 and of 1,000 ticks.
use Rattle.std.specs.Prelude.{ℕ, suc, ◌+◌, ◌-◌, ◌*◌, ◌≤◌, ◌<◌, ◌/◌, ◌%◌, ◌≡◌, refl, Bool, true, false, not, ◌&&◌, ◌||◌, eqb, ltb, if◌then◌else◌}
use Rattle.std.proofs.Common.{arith, mod-eq_of_lt, div-lt_iff_lt-mul, mul-le-mul_right, mul_assoc, sym, ap, ◌∙◌, ne_eqb, ltb-true, ltb-false, eqb-true}
use Rattle.std.proofs.Math.Nat.{add-div_left, add-mod_left, div-eq_of_lt, add-mul-div_right}
use Rattle.base.specs.Laws.{by-test}
use Rattle.machine_tick.specs.Tick.{next_tick}
use Rattle.counter_pulses.specs.Pulses.{far, one_more}

-- ---- whether a tick brings a pulse, with the divider after it; the pulses in j ticks; the ticks that bring at most q pulses
abbrev pub clock_in : Bool → Bool → ℕ → Bool
clock_in stopped divided h = not stopped && (not divided || eqb h 0)

abbrev pub pulses_in : Bool → Bool → ℕ → ℕ → ℕ → ℕ
pulses_in stopped divided n h j = if stopped then 0 else if divided then (h + j) / n else j

abbrev pub reach : ℕ → ℕ → ℕ → ℕ
reach n h q = if eqb q far then far else (q + 1) * n - 1 - h

abbrev pub reach_in : Bool → Bool → ℕ → ℕ → ℕ → ℕ
reach_in stopped divided n h q = if stopped then far else if divided then reach n h q else q

-- the ticks of p pulses of a clock that is not stopped
abbrev pub stretched : Bool → ℕ → ℕ → ℕ
stretched divided n p = p * (if divided then n else 1)

pub next_in_range : (h last : ℕ) → next_tick h last ≤ last
next_in_range h last = by-test (λ (x : ℕ). x ≤ last) (ltb h last) (λ t. omega (arith, ltb-true h last t)) (λ t. omega arith)

module _ (last h : ℕ) (l : h ≤ last) where
  -- ---- a divider comes round
  wraps : (j : ℕ) → (h + suc j) / suc last ≡ one_more (eqb (next_tick h last) 0) ((next_tick h last + j) / suc last)
  wraps j =
      by-test (λ (x : ℕ). (h + suc j) / suc last ≡ one_more (eqb x 0) ((x + j) / suc last)) (ltb h last)
      (λ t. let e : h + suc j ≡ h + 1 + j = omega arith in rw (ne_eqb (h + 1) 0 (λ z. omega arith)) (ap (λ (x : ℕ). x / suc last) e))
      (λ t.
      let e : h + suc j ≡ suc last + j = omega (arith, ltb-false h last t) in
      let n : j ≡ 0 + j = omega arith in
      let z : j / suc last + 1 ≡ suc (j / suc last) = omega arith in
      ap (λ (x : ℕ). x / suc last) e ∙ add-div_left j (omega arith) ∙ z ∙ ap (λ (x : ℕ). suc (x / suc last)) n)

  pub turns : (j : ℕ) → (h + suc j) % suc last ≡ (next_tick h last + j) % suc last
  turns j =
      by-test (λ (x : ℕ). (h + suc j) % suc last ≡ (x + j) % suc last) (ltb h last)
      (λ t. let e : h + suc j ≡ h + 1 + j = omega arith in ap (λ (x : ℕ). x % suc last) e)
      (λ t.
      let e : h + suc j ≡ suc last + j = omega (arith, ltb-false h last t) in
      let z : j ≡ 0 + j = omega arith in
      ap (λ (x : ℕ). x % suc last) e ∙ add-mod_left (suc last) j ∙ ap (λ (x : ℕ). x % suc last) z)

  pub stands : (h + 0) % suc last ≡ h
  stands = let e : h + 0 ≡ h = omega arith in ap (λ (x : ℕ). x % suc last) e ∙ mod-eq_of_lt (omega arith)

  -- ---- none in no tick, and one more where the first tick has one
  module _ (s f : Bool) where
    pub none : pulses_in s f (suc last) h 0 ≡ 0
    none = by s f
      where
        by : (s f : Bool) → pulses_in s f (suc last) h 0 ≡ 0
        by true f = refl
        by false true = div-eq_of_lt (omega arith)
        by false false = refl

    pub first_of : (j : ℕ) → pulses_in s f (suc last) h (suc j) ≡ one_more (clock_in s f (next_tick h last)) (pulses_in s f (suc last) (next_tick h last) j)
    first_of j = by s f
      where
        by : (s f : Bool) → pulses_in s f (suc last) h (suc j) ≡ one_more (clock_in s f (next_tick h last)) (pulses_in s f (suc last) (next_tick h last) j)
        by true f = refl
        by false true = wraps j
        by false false = refl

    -- ---- within the reach of q pulses there are at most q
    pub within : (q j : ℕ) → j ≤ reach_in s f (suc last) h q → pulses_in s f (suc last) h j ≤ q
    within q j = by s f
      where
        below : h + j < (q + 1) * suc last → (h + j) / suc last ≤ q
        below k = let d : (h + j) / suc last < q + 1 = (div-lt_iff_lt-mul {k = suc last} {x = h + j} {y = q + 1} (omega arith)).1 k in omega arith

        on : (t : Bool) → eqb q far ≡ t → j ≤ (if t then far else (q + 1) * suc last - 1 - h) → (h + j) / suc last ≤ q
        on true e w = below (omega (arith, eqb-true q far e))
        on false e w =
            let k : 1 * suc last ≤ (q + 1) * suc last = mul-le-mul_right (suc last) (omega arith) in
            below (omega (arith, k))

        by : (s f : Bool) → j ≤ reach_in s f (suc last) h q → pulses_in s f (suc last) h j ≤ q
        by true f w = omega arith
        by false true w = on (eqb q far) refl w
        by false false w = w

  -- ---- m times p pulses
  pub spans : (f : Bool) (m p : ℕ) → pulses_in false f (suc last) h (m * stretched f (suc last) p) ≡ m * p
  spans true m p =
      let e : m * (p * suc last) ≡ m * p * suc last = sym (mul_assoc m p (suc last)) in
      let z : 0 + m * p ≡ m * p = omega arith in
      ap (λ (x : ℕ). (h + x) / suc last) e ∙ add-mul-div_right h (m * p) (omega arith) ∙ ap (λ (x : ℕ). x + m * p) (div-eq_of_lt (omega arith)) ∙ z
  spans false m p = let e : p * 1 ≡ p = omega arith in ap (λ (x : ℕ). m * x) e
