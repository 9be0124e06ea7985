-- The test of refusal 12 is right: with low to high in order and within 31, it holds where some channel of the range is lacking, and only
-- there.
use Rattle.std.specs.Prelude.{ℕ, ◌≤◌, ◌<◌, ◌≡◌, refl, Bool, true, false, ◌&&◌, ◌||◌, eqb, leb, ltb, if◌then◌else◌}
use Rattle.std.proofs.Common.{sym, arith, ltb-true, ltb-false, leb-true, leb-false, le-leb, le-ltb}
use Rattle.std.proofs.lemmas.Bool.{lt-leb}
use Rattle.base.specs.Laws.{never, neither, under_and}
use Rattle.collector_settings.specs.Settings.{has_channel, lacking}

module _ (low high : ℕ) (order : low ≤ high) (top : high ≤ 31) where
  -- the channels of jumpers C, 0-15 and 24-31: a range has them all where it ends by 15 or starts at 24
  has_c : (channel : ℕ) → low ≤ channel → channel ≤ high → (ltb 31 high || ltb 15 high && ltb low 24) ≡ false
      → (leb channel 15 || leb 24 channel && leb channel 31) ≡ true
  has_c channel l h t = by (ltb 15 high) refl
    where
      by : (b : Bool) → ltb 15 high ≡ b → (leb channel 15 || leb 24 channel && leb channel 31) ≡ true
      by true e =
          let f = under_and (ltb 15 high) (ltb low 24) (neither (ltb 31 high) _ t).1 e in
          let g : 24 ≤ low = ltb-false low 24 f in
          rw (lt-leb channel 15 (omega arith), le-leb 24 channel (omega arith), le-leb channel 31 (omega arith))
      by false e = let g : high ≤ 15 = ltb-false 15 high e in rw (le-leb channel 15 (omega arith))

  c_has : ((channel : ℕ) → low ≤ channel → channel ≤ high → (leb channel 15 || leb 24 channel && leb channel 31) ≡ true)
      → (ltb 31 high || ltb 15 high && ltb low 24) ≡ false
  c_has all = rw (le-ltb 31 high top) (by (ltb 15 high) (ltb low 24) (leb low 16) refl refl refl)
    where
      by : (a b d : Bool) → ltb 15 high ≡ a → ltb low 24 ≡ b → leb low 16 ≡ d → (a && b) ≡ false
      by true true true p q r =
          let x : 15 < high = ltb-true 15 high p in
          let y : low ≤ 16 = leb-true low 16 r in
          let z : false ≡ true = all 16 y (omega arith) in
          never z
      by true true false p q r =
          let x : low < 24 = ltb-true low 24 q in
          let y : 16 < low = leb-false low 16 r in
          let z : false ≡ true = rw (lt-leb low 15 (omega arith), lt-leb 24 low (omega arith)) at (all low (omega arith) order) in
          never z
      by true false d p q r = refl
      by false b d p q r = refl

  -- by the four jumper settings
  has_all : (a b c d : Bool) (channel : ℕ) → low ≤ channel → channel ≤ high
      → (if a then ltb 31 high else if b then ltb 15 high else if c then ltb 31 high || ltb 15 high && ltb low 24 else if d then ltb 23 high else true) ≡ false
      → (if a then leb channel 31 else if b then leb channel 15 else if c then leb channel 15 || leb 24 channel && leb channel 31 else if d then leb channel 23
      else false) ≡ true
  has_all true b c d channel l h t = le-leb channel 31 (omega arith)
  has_all false true c d channel l h t = let g : high ≤ 15 = ltb-false 15 high t in le-leb channel 15 (omega arith)
  has_all false false true d channel l h t = has_c channel l h t
  has_all false false false true channel l h t = let g : high ≤ 23 = ltb-false 23 high t in le-leb channel 23 (omega arith)
  has_all false false false false channel l h t = never (sym t)

  all_has : (a b c d : Bool)
      → ((channel : ℕ) → low ≤ channel → channel ≤ high
      → (if a then leb channel 31 else if b then leb channel 15 else if c then leb channel 15 || leb 24 channel && leb channel 31 else if d then leb channel 23
      else false) ≡ true)
      → (if a then ltb 31 high else if b then ltb 15 high else if c then ltb 31 high || ltb 15 high && ltb low 24 else if d then ltb 23 high else true) ≡ false
  all_has true b c d all = le-ltb 31 high top
  all_has false true c d all = le-ltb 15 high (leb-true high 15 (all high order (omega arith)))
  all_has false false true d all = c_has all
  all_has false false false true all = le-ltb 23 high (leb-true high 23 (all high order (omega arith)))
  all_has false false false false all = never (all high order (omega arith))

  -- where the test does not hold, the board has every channel of the range ..
  pub none-lacking : (jumpers : ℕ) → lacking jumpers low high ≡ false
      → (channel : ℕ) → low ≤ channel → channel ≤ high → has_channel jumpers channel ≡ true
  none-lacking jumpers t channel l h = has_all (eqb jumpers 0) (eqb jumpers 1) (eqb jumpers 2) (eqb jumpers 3) channel l h t

  -- .. and where the board has every channel of the range, the test does not hold
  pub lacking-none : (jumpers : ℕ) → ((channel : ℕ) → low ≤ channel → channel ≤ high → has_channel jumpers channel ≡ true)
      → lacking jumpers low high ≡ false
  lacking-none jumpers all = all_has (eqb jumpers 0) (eqb jumpers 1) (eqb jumpers 2) (eqb jumpers 3) all
