-- A row of tests, all of which hold or not. The code writes `t0 & t1 & t2`, a definition `all (t0 ∷ t1 ∷ t2 ∷ [])`.
use Rattle.std.specs.Prelude.{◌≡◌, refl, Bool, true, false, ◌&&◌, List, [], ◌∷◌, ◌++◌}
use Rattle.base.specs.Laws.{never, both}

abbrev pub all_from : Bool → List Bool → Bool
all_from a [] = a
all_from a (x ∷ xs) = all_from (a && x) xs

abbrev pub all : List Bool → Bool
all [] = true
all (x ∷ xs) = all_from x xs

-- each test of the row holds
abbrev pub Each : List Bool → Type 0
Each [] = Unit {0}
Each (x ∷ xs) = (x ≡ true) × Each xs

row-each : (a : Bool) (l : List Bool) → all_from a l ≡ true → (a ≡ true) × Each l
row-each a [] h = (h, tt)
row-each a (x ∷ xs) h =
    let r = row-each (a && x) xs h in
    let t = both a x r.0 in
    (t.0, (t.1, r.1))

-- where all hold, each holds
pub each : (l : List Bool) → all l ≡ true → Each l
each [] h = tt
each (x ∷ xs) h = row-each x xs h

each_row : (a : Bool) (l : List Bool) → a ≡ true → Each l → all_from a l ≡ true
each_row a [] p q = p
each_row true (x ∷ xs) p q = each_row x xs q.0 q.1
each_row false (x ∷ xs) p q = never p

-- where each holds, all hold
pub every : (l : List Bool) → Each l → all l ≡ true
every [] q = refl
every (x ∷ xs) q = each_row x xs q.0 q.1

-- ---- rows in a row
pub row_first : (a : Bool) (l : List Bool) → a && all l ≡ all_from a l
row_first true [] = refl
row_first false [] = refl
row_first true (x ∷ l) = refl
row_first false (x ∷ l) = row_first false l

row_append : (a : Bool) (l k : List Bool) → all_from a l && all k ≡ all_from a (l ++ k)
row_append a [] k = row_first a k
row_append a (x ∷ l) k = row_append (a && x) l k

-- both of two rows hold where their tests in one row do
pub all_append : (l k : List Bool) → all l && all k ≡ all (l ++ k)
all_append [] k = refl
all_append (x ∷ l) k = row_append x l k
