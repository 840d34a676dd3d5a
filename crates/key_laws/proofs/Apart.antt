-- The cells of keys are apart from all others.
use Rattle.std.proofs.Common.{◌≡◌, ◌<◌, ◌≤◌, ℕ, zero, suc, ◌+◌, ◌⊎◌, inl, inr, Bool, true, false, List, [], ◌∷◌, length, map, sum, refl, arith}
use Rattle.std.specs.Prelude.{if◌then◌else◌}
use Rattle.std.specs.List.{fold}
use Rattle.std.specs.Str.{bytes_eq}
use Rattle.rpy_tree.specs.declared.program.Program.{Program}
use Rattle.flow_graph.specs.declared.graph.Graphs.{Graphs}
use Rattle.class_desc.specs.Tables.{Tables, declared}
use Rattle.ann_rules.specs.Program.{Whole}
use Rattle.ann_needs.specs.View.{nowhere, place, place_in, named, attribute_in, whole}
use Rattle.ann_layout.specs.Callees.{callees}
use Rattle.ann_layout.specs.Layout.{numbers, rows, named_row, named_rows, declared_count, param_count, variable_count, plan, planned}

-- nowhere, or below a number
abbrev Low : ℕ → ℕ → Type 0
Low n c = (c ≡ nowhere) ⊎ (c < n)

lower : (n m c : ℕ) → n ≤ m → Low n c → Low m c
lower n m c le (inl e) = inl e
lower n m c le (inr lt) = inr (omega (arith, le, lt))

numbers_low : (n count i : ℕ) → Low (n + count) (place (numbers n count) i)
numbers_low n zero i = inl refl
numbers_low n (suc count) zero = inr (omega arith)
numbers_low n (suc count) (suc i) = lower (suc n + count) (n + suc count) (place (numbers (suc n) count) i) (omega arith) (numbers_low (suc n) count i)

add_more : (n : ℕ) (xs : List ℕ) → fold ◌+◌ n xs ≡ n + fold ◌+◌ 0 xs
add_more n [] = omega arith
add_more n (x ∷ xs) =
    let one : fold ◌+◌ (n + x) xs ≡ (n + x) + fold ◌+◌ 0 xs = add_more (n + x) xs in
    let other : fold ◌+◌ (0 + x) xs ≡ (0 + x) + fold ◌+◌ 0 xs = add_more (0 + x) xs in
    omega (arith, one, other)

sum_more : (c : ℕ) (cs : List ℕ) → sum (c ∷ cs) ≡ c + sum cs
sum_more c cs = let all : fold ◌+◌ (0 + c) cs ≡ (0 + c) + fold ◌+◌ 0 cs = add_more (0 + c) cs in omega (arith, all)

rows_low : (n : ℕ) (counts : List ℕ) (g i : ℕ) → Low (n + sum counts) (place_in (rows n counts) g i)
rows_low n [] g i = inl refl
rows_low n (c ∷ cs) zero i = let e = sum_more c cs in lower (n + c) (n + sum (c ∷ cs)) (place (numbers n c) i) (omega (arith, e)) (numbers_low n c i)
rows_low n (c ∷ cs) (suc g) i = let e = sum_more c cs in lower ((n + c) + sum cs) (n + sum (c ∷ cs)) (place_in (rows (n + c) cs) g i) (omega (arith, e)) (rows_low (n + c) cs g i)

-- nowhere, or a number or above it
abbrev High : ℕ → ℕ → Type 0
High n c = (c ≡ nowhere) ⊎ (n ≤ c)

higher : (n m c : ℕ) → n ≤ m → High m c → High n c
higher n m c le (inl e) = inl e
higher n m c le (inr ge) = inr (omega (arith, le, ge))

numbers_high : (n count i : ℕ) → High n (place (numbers n count) i)
numbers_high n zero i = inl refl
numbers_high n (suc count) zero = inr (omega arith)
numbers_high n (suc count) (suc i) = higher n (suc n) (place (numbers (suc n) count) i) (omega arith) (numbers_high (suc n) count i)

rows_high : (n : ℕ) (counts : List ℕ) (g i : ℕ) → High n (place_in (rows n counts) g i)
rows_high n [] g i = inl refl
rows_high n (c ∷ cs) zero i = numbers_high n c i
rows_high n (c ∷ cs) (suc g) i = higher n (n + c) (place_in (rows (n + c) cs) g i) (omega arith) (rows_high (n + c) cs g i)

named_by : (b : Bool) (n m c : ℕ) → n < m → Low m c → Low m (if b then n else c)
named_by true n m c lt h = inr lt
named_by false n m c lt h = h

named_low : (n : ℕ) (names : List (List ℕ)) (name : List ℕ) → Low (n + length names) (named name (named_row n names))
named_low n [] name = inl refl
named_low n (x ∷ names) name =
    named_by (bytes_eq x name) n (n + length (x ∷ names)) (named name (named_row (suc n) names)) (omega arith)
    (lower (suc n + length names) (n + length (x ∷ names)) (named name (named_row (suc n) names)) (omega arith) (named_low (suc n) names name))

attribute_low : (t : Tables) (n from count c : ℕ) (name : List ℕ) → Low (n + declared_count t from count) (attribute_in (named_rows t n from count) c name)
attribute_low t n from zero c name = inl refl
attribute_low t n from (suc count) zero name =
    lower (n + length (declared t from)) (n + declared_count t from (suc count)) (named name (named_row n (declared t from))) (omega arith) (named_low n (declared t from) name)
attribute_low t n from (suc count) (suc c) name =
    lower ((n + length (declared t from)) + declared_count t (suc from) count) (n + declared_count t from (suc count)) (attribute_in (named_rows t (n + length (declared t from)) (suc from) count) c name) (omega arith)
    (attribute_low t (n + length (declared t from)) (suc from) count c name)

-- ---- the cells of keys, and the others

-- no other part of the program stands in a cell of keys
pub record AreApart (p : Whole) (Key : ℕ → Type 0) : Type 0 where
  pub variable : (g v : ℕ) → Key (p.places.variable g v) → ⊥
  pub param : (f i : ℕ) → Key (p.places.param f i) → ⊥
  pub result : (f : ℕ) → Key (p.places.result f) → ⊥
  pub attribute : (c : ℕ) (name : List ℕ) → Key (p.places.attribute c name) → ⊥
  pub item : (s : ℕ) → Key (p.places.item s) → ⊥

not_low : (n first last c : ℕ) → n ≤ first → last ≤ nowhere → Low n c → (first ≤ c) × (c < last) → ⊥
not_low n first last c le few (inl e) h = let a = h.1 in omega (arith, few, e, a)
not_low n first last c le few (inr lt) h = let a = h.0 in omega (arith, le, lt, a)

not_high : (first last c : ℕ) → last ≤ nowhere → High last c → (first ≤ c) × (c < last) → ⊥
not_high first last c few (inl e) h = let a = h.1 in omega (arith, few, e, a)
not_high first last c few (inr ge) h = let a = h.1 in omega (arith, ge, a)

module _ (p : Program) (gs : Graphs) (t : Tables) where
  abbrev params : List ℕ
  params = map param_count (callees p)

  abbrev variables : List ℕ
  variables = map variable_count gs.graphs

  abbrev functions : ℕ
  functions = length (callees p)

  abbrev declared_all : ℕ
  declared_all = declared_count t 0 (length t.classes)

  abbrev pub first_key : ℕ
  first_key = 0 + sum params + functions + declared_all + length p.sites

  abbrev pub IsKeyCell : ℕ → Type 0
  IsKeyCell c = (first_key ≤ c) × (c < first_key + length p.sites)

  pub are_apart : (planned p gs t).cells ≤ nowhere → AreApart (whole (plan p gs t)) IsKeyCell
  are_apart few = record {
    variable = λ g v. not_high first_key (first_key + length p.sites) _ some (rows_high (first_key + length p.sites) variables g v);
    param = λ f i. not_low (0 + sum params) first_key (first_key + length p.sites) _ (omega arith) some (rows_low 0 params f i);
    result = λ f. not_low (0 + sum params + functions) first_key (first_key + length p.sites) _ (omega arith) some (numbers_low (0 + sum params) functions f);
    attribute = λ c name. not_low (0 + sum params + functions + declared_all) first_key (first_key + length p.sites) _ (omega arith) some (attribute_low t (0 + sum params + functions) 0 (length t.classes) c name);
    item = λ s. not_low first_key first_key (first_key + length p.sites) _ (omega arith) some (numbers_low (0 + sum params + functions + declared_all) (length p.sites) s);
  }
    where
      some : first_key + length p.sites ≤ nowhere
      some = omega (arith, few)

  -- a place of keys is nowhere, or such a cell
  pub key_place : (s : ℕ) → ((whole (plan p gs t)).places.key s ≡ nowhere) ⊎ IsKeyCell ((whole (plan p gs t)).places.key s)
  key_place s = by (numbers_high first_key (length p.sites) s) (numbers_low first_key (length p.sites) s)
    where
      by : {c : ℕ} → High first_key c → Low (first_key + length p.sites) c → (c ≡ nowhere) ⊎ IsKeyCell c
      by (inl e) l = inl e
      by (inr ge) (inl e) = inl e
      by (inr ge) (inr lt) = inr (ge, lt)
