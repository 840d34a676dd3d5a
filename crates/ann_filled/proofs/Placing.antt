-- Where the numbers of rows stand.
use Rattle.std.proofs.Common.{◌≡◌, ◌<◌, ◌≤◌, ℕ, zero, suc, ◌+◌, Bool, true, false, List, [], ◌∷◌, ◌++◌, length, map, get_or, sum, Some, ◌⊎◌, inl, inr, refl, sym, ap, ◌∙◌, arith, length-append, get_or-append-add}
use Rattle.std.specs.Prelude.{if◌then◌else◌, slice_get}
use Rattle.std.specs.List.{fold}
use Rattle.std.specs.Str.{bytes_eq}
use Rattle.std.proofs.lemmas.List.{length-map, get_or_append_left, get_or_past}
use Rattle.flow_graph.specs.declared.graph.Graph.{Graph}
use Rattle.class_desc.specs.Tables.{Tables, declared}
use Rattle.ann_needs.specs.View.{nowhere, place, place_in, named, attribute_in}
use Rattle.ann_layout.specs.Layout.{numbers, rows, named_row, named_rows, declared_count}
use Rattle.ann_filled.specs.Filled.{each}

-- ---- sums

more : (n : ℕ) (xs : List ℕ) → fold ◌+◌ n xs ≡ n + fold ◌+◌ 0 xs
more n [] = omega arith
more n (x ∷ xs) =
    let one : fold ◌+◌ (n + x) xs ≡ (n + x) + fold ◌+◌ 0 xs = more (n + x) xs in
    let other : fold ◌+◌ (0 + x) xs ≡ (0 + x) + fold ◌+◌ 0 xs = more (0 + x) xs in
    omega (arith, one, other)

sum_more : (c : ℕ) (cs : List ℕ) → sum (c ∷ cs) ≡ c + sum cs
sum_more c cs = let whole : fold ◌+◌ (0 + c) cs ≡ (0 + c) + fold ◌+◌ 0 cs = more (0 + c) cs in omega (arith, whole)

-- ---- what there is stands between its bounds

abbrev pub Between : ℕ → ℕ → ℕ → Type 0
Between low c high = ((low ≤ c) × (c < high)) ⊎ (c ≡ nowhere)

wider : (low c high less most : ℕ) → less ≤ low → high ≤ most → Between low c high → Between less c most
wider low c high less most below above (inl b) = inl (omega (arith, below, b.0), omega (arith, above, b.1))
wider low c high less most below above (inr e) = inr e

pub number_at : (count n i : ℕ) → i < count → place (numbers n count) i ≡ n + i
number_at zero n i lt = absurd (omega (arith, lt))
number_at (suc count) n zero lt = omega arith
number_at (suc count) n (suc i) lt =
    let rest : place (numbers (suc n) count) i ≡ suc n + i = number_at count (suc n) i (omega (arith, lt)) in omega (arith, rest)

pub in_numbers : (count n i : ℕ) → Between n (place (numbers n count) i) (n + count)
in_numbers zero n i = inr refl
in_numbers (suc count) n zero = inl (omega arith, omega arith)
in_numbers (suc count) n (suc i) = wider (suc n) (place (numbers (suc n) count) i) (suc n + count) n (n + suc count) (omega arith) (omega arith) (in_numbers count (suc n) i)

pub in_rows : (counts : List ℕ) (n f i : ℕ) → Between n (place_in (rows n counts) f i) (n + sum counts)
in_rows [] n f i = inr refl
in_rows (count ∷ counts) n zero i = let s = sum_more count counts in wider n (place (numbers n count) i) (n + count) n (n + sum (count ∷ counts)) (omega arith) (omega (arith, s)) (in_numbers count n i)
in_rows (count ∷ counts) n (suc f) i =
    let s = sum_more count counts in
    wider (n + count) (place_in (rows (n + count) counts) f i) ((n + count) + sum counts) n (n + sum (count ∷ counts)) (omega arith) (omega (arith, s)) (in_rows counts (n + count) f i)

in_names : (name : List ℕ) (names : List (List ℕ)) (n : ℕ) → Between n (named name (named_row n names)) (n + length names)
in_names name [] n = inr refl
in_names name (first ∷ names) n = by_test (bytes_eq first name) (in_names name names (suc n))
  where
    by_test : (b : Bool) → Between (suc n) (named name (named_row (suc n) names)) (suc n + length names)
        → Between n (if b then n else named name (named_row (suc n) names)) (n + length (first ∷ names))
    by_test true rest = inl (omega arith, omega arith)
    by_test false rest = wider (suc n) (named name (named_row (suc n) names)) (suc n + length names) n (n + length (first ∷ names)) (omega arith) (omega arith) rest

pub in_attributes : (t : Tables) (count n c d : ℕ) (name : List ℕ) → Between n (attribute_in (named_rows t n c count) d name) (n + declared_count t c count)
in_attributes t zero n c d name = inr refl
in_attributes t (suc count) n c zero name =
    wider n (named name (named_row n (declared t c))) (n + length (declared t c)) n (n + declared_count t c (suc count)) (omega arith) (omega arith) (in_names name (declared t c) n)
in_attributes t (suc count) n c (suc d) name =
    wider (n + length (declared t c)) (attribute_in (named_rows t (n + length (declared t c)) (suc c) count) d name) ((n + length (declared t c)) + declared_count t (suc c) count) n
    (n + declared_count t c (suc count)) (omega arith) (omega arith) (in_attributes t count (n + length (declared t c)) (suc c) d name)

-- ---- lists with the same front, and with the same end

module _ {A : Type 0} (xs ys : List A) (d : A) (short : length xs ≤ nowhere) (also : length ys ≤ nowhere) where
  neither : (c : ℕ) → c ≡ nowhere → get_or xs c d ≡ get_or ys c d
  neither c e = get_or_past xs c d (omega (arith, short, e)) ∙ sym (get_or_past ys c d (omega (arith, also, e)))

  pub same_at : (low c high : ℕ) → ((i : ℕ) → low ≤ i → i < high → get_or xs i d ≡ get_or ys i d) → Between low c high → get_or xs c d ≡ get_or ys c d
  same_at low c high same (inl b) = same c b.0 b.1
  same_at low c high same (inr e) = neither c e

-- ---- what a function gives for each number, graph by graph

numbers_count : (n count : ℕ) → length (numbers n count) ≡ count
numbers_count n zero = refl
numbers_count n (suc count) = let rest = numbers_count (suc n) count in omega (arith, rest)

given_at : {A : Type 0} (value : ℕ → A) (count n i : ℕ) (d : A) (v : ℕ) → i < count → v ≡ n + i → get_or (map value (numbers n count)) i d ≡ value v
given_at value zero n i d v lt e = absurd (omega (arith, lt))
given_at value (suc count) n zero d v lt e = let same : n ≡ v = omega (arith, e) in ap value same
given_at value (suc count) n (suc i) d v lt e = given_at value count (suc n) i d v (omega (arith, lt)) (omega (arith, e))

module _ {A : Type 0} (count : Graph → ℕ) (value : ℕ → Graph → ℕ → A) where
  abbrev given : ℕ → Graph → List A
  given f graph = map (value f graph) (numbers 0 (count graph))

  given_count : (f : ℕ) (graph : Graph) → length (given f graph) ≡ count graph
  given_count f graph = length-map (numbers 0 (count graph)) (value f graph) ∙ numbers_count 0 (count graph)

  pub each_count : (f : ℕ) (graphs : List Graph) → length (each count value f graphs) ≡ sum (map count graphs)
  each_count f [] = refl
  each_count f (graph ∷ graphs) =
      let both : length (given f graph ++ each count value (suc f) graphs) ≡ length (given f graph) + length (each count value (suc f) graphs) = length-append (given f graph) (each count value (suc f) graphs) in
      let here = given_count f graph in
      let rest = each_count (suc f) graphs in
      let total = sum_more (count graph) (map count graphs) in
      omega (arith, both, here, rest, total)

  -- a number of a graph stands where what is given for it does
  pub record IsGiven (first n g f i : ℕ) (graph : Graph) (graphs : List Graph) : Type 0 where
    pub past : ℕ
    pub inside : past < sum (map count graphs)
    pub stands : place_in (rows n (map count graphs)) f i ≡ n + past
    pub gives : (d : A) → get_or (each count value first graphs) past d ≡ value g graph i

  pub each_at : (first n g f i : ℕ) (graph : Graph) (graphs : List Graph) → g ≡ first + f → slice_get graphs f ≡ Some graph → i < count graph → IsGiven first n g f i graph graphs
  each_at first n g f i graph [] is e lt = cc
  each_at first n g zero i graph (x ∷ graphs) is e lt =
      let same : x ≡ graph = cc in
      let many : count x ≡ count graph = ap count same in
      let less : i < count x = omega (arith, lt, many) in
      let number : first ≡ g = omega (arith, is) in
      let total = sum_more (count x) (map count graphs) in
      let length_is = given_count first x in
      record {
        past = i;
        inside = omega (arith, less, total);
        stands = number_at (count x) n i less;
        gives = λ d.
            get_or_append_left (given first x) (each count value (suc first) graphs) d i (omega (arith, less, length_is))
            ∙ given_at (value first x) (count x) 0 i d i less (omega arith)
            ∙ ap (λ k. value k x i) number
            ∙ ap (λ y. value g y i) same;
      }
  each_at first n g (suc f) i graph (x ∷ graphs) is e lt =
      let rest = each_at (suc first) (n + count x) g f i graph graphs (omega (arith, is)) e lt in
      let total = sum_more (count x) (map count graphs) in
      let length_is = given_count first x in
      let less = rest.inside in
      let there = rest.stands in
      let place_is : length (given first x) + rest.past ≡ count x + rest.past = omega (arith, length_is) in
      record {
        past = count x + rest.past;
        inside = omega (arith, less, total);
        stands = omega (arith, there);
        gives = λ d.
            ap (λ k. get_or (given first x ++ each count value (suc first) graphs) k d) (sym place_is)
            ∙ get_or-append-add (given first x) (each count value (suc first) graphs) rest.past d
            ∙ rest.gives d;
      }
