-- A cell among those of rows is among those of one row.
use Rattle.std.proofs.Common.{◌≡◌, ◌<◌, ℕ, suc, ◌+◌, Bool, true, false, List, [], ◌∷◌, ◌++◌, length, get_or, drop, slice_get, Option, Some, None, refl, sym, ap, ◌∙◌, arith, drop-cons}
use Rattle.std.specs.Prelude.{◌==◌, ◌||◌, unwrap_or, is_some, IfSome}
use Rattle.std.proofs.lemmas.Option.{slice_get-get_or}
use Rattle.flow_graph.specs.declared.graph.Graph.{Graph}
use Rattle.flow_graph.specs.declared.graph.Block.{Block}
use Rattle.ann_rules.specs.Program.{Whole}
use Rattle.ann_places.specs.Spots.{among, row_cells, named_cells, all_named_cells, op_cells, block_cells, graph_cells}
use Rattle.ann_shown.specs.Place.{ops_of, blocks_of, first}
use Rattle.ann_shown.specs.declared.place.Place.{Place}

-- ---- lists

-- a list from a place on
rest_is : {A : Type 0} (xs : List A) (n : ℕ) (x : A) → n < length xs → x ≡ get_or xs n x → drop n xs ≡ x ∷ drop (n + 1) xs
rest_is xs n x lt e = drop-cons xs n x lt ∙ (ap (λ z. z ∷ drop (suc n) xs) (sym e) ∙ ap (λ m. x ∷ drop m xs) (next n))
  where
    next : (n : ℕ) → suc n ≡ n + 1
    next n = omega arith

pub at_is : {A : Type 0} (xs : List A) (n : ℕ) (x d : A) → n < length xs → x ≡ get_or xs n x → unwrap_or (slice_get xs n) d ≡ x
at_is xs n x d lt e = ap (λ o. unwrap_or o d) (slice_get-get_or xs n x lt) ∙ sym e

or_again : (a b c : Bool) → (a || (b || c)) ≡ ((a || b) || c)
or_again true b c = refl
or_again false b c = refl

pub among_both : (c : ℕ) (xs ys : List ℕ) → among c (xs ++ ys) ≡ (among c xs || among c ys)
among_both c [] ys = refl
among_both c (x ∷ xs) ys = ap (λ b. (x == c) || b) (among_both c xs ys) ∙ or_again (x == c) (among c xs) (among c ys)

or_yes : (a b : Bool) → a ≡ true → (a || b) ≡ true
or_yes a b e = ap (λ z. z || b) e

or_no : (a b : Bool) → a ≡ false → (a || b) ≡ b
or_no a b e = ap (λ z. z || b) e

-- ---- rows

module _ {A : Type 0} (cells : A → List ℕ) (all : List A → List ℕ) (more : (x : A) (xs : List A) → all (x ∷ xs) ≡ cells x ++ all xs) (c : ℕ) (xs : List A) (n : ℕ) (x : A) where
  both : n < length xs → x ≡ get_or xs n x → among c (all (drop n xs)) ≡ (among c (cells x) || among c (all (drop (n + 1) xs)))
  both lt e = ap (λ ys. among c (all ys)) (rest_is xs n x lt e) ∙ (ap (among c) (more x (drop (n + 1) xs)) ∙ among_both c (cells x) (all (drop (n + 1) xs)))

  found_by : n < length xs → x ≡ get_or xs n x → true ≡ among c (cells x) → among c (all (drop n xs)) ≡ true
  found_by lt e h = both lt e ∙ or_yes (among c (cells x)) (among c (all (drop (n + 1) xs))) (sym h)

  passed_by : n < length xs → x ≡ get_or xs n x → false ≡ among c (cells x) → among c (all (drop (n + 1) xs)) ≡ among c (all (drop n xs))
  passed_by lt e h = sym (both lt e ∙ or_no (among c (cells x)) (among c (all (drop (n + 1) xs))) (sym h))

pub found_row : (c : ℕ) (rows : List (List ℕ)) (n : ℕ) (row : List ℕ) → n < length rows → row ≡ get_or rows n row → true ≡ among c row → among c (row_cells (drop n rows)) ≡ true
found_row = found_by (λ row. row) row_cells (λ row rows. refl)

pub passed_row : (c : ℕ) (rows : List (List ℕ)) (n : ℕ) (row : List ℕ) → n < length rows → row ≡ get_or rows n row → false ≡ among c row → among c (row_cells (drop (n + 1) rows)) ≡ among c (row_cells (drop n rows))
passed_row = passed_by (λ row. row) row_cells (λ row rows. refl)

pub found_names : (c : ℕ) (rows : List (List (List ℕ × ℕ))) (n : ℕ) (row : List (List ℕ × ℕ)) → n < length rows → row ≡ get_or rows n row → true ≡ among c (named_cells row) → among c (all_named_cells (drop n rows)) ≡ true
found_names = found_by named_cells all_named_cells (λ row rows. refl)

pub passed_names : (c : ℕ) (rows : List (List (List ℕ × ℕ))) (n : ℕ) (row : List (List ℕ × ℕ)) → n < length rows → row ≡ get_or rows n row → false ≡ among c (named_cells row) → among c (all_named_cells (drop (n + 1) rows)) ≡ among c (all_named_cells (drop n rows))
passed_names = passed_by named_cells all_named_cells (λ row rows. refl)

-- ---- operations

module _ (p : Whole) where
  pub found_block : (g c : ℕ) (blocks : List Block) (n : ℕ) (block : Block) → n < length blocks → block ≡ get_or blocks n block → true ≡ among c (op_cells p g block.ops) → among c (block_cells p g (drop n blocks)) ≡ true
  found_block g = found_by (λ block. op_cells p g block.ops) (block_cells p g) (λ block blocks. refl)

  pub passed_block : (g c : ℕ) (blocks : List Block) (n : ℕ) (block : Block) → n < length blocks → block ≡ get_or blocks n block → false ≡ among c (op_cells p g block.ops) → among c (block_cells p g (drop (n + 1) blocks)) ≡ among c (block_cells p g (drop n blocks))
  passed_block g = passed_by (λ block. op_cells p g block.ops) (block_cells p g) (λ block blocks. refl)

  graph_both : (c : ℕ) (graphs : List Graph) (n : ℕ) (graph : Graph) → n < length graphs → graph ≡ get_or graphs n graph → among c (graph_cells p n (drop n graphs)) ≡ (among c (block_cells p n graph.blocks) || among c (graph_cells p (n + 1) (drop (n + 1) graphs)))
  graph_both c graphs n graph lt e =
      ap (λ gs. among c (graph_cells p n gs)) (rest_is graphs n graph lt e)
      ∙ (among_both c (block_cells p n graph.blocks) (graph_cells p (suc n) (drop (n + 1) graphs))
      ∙ ap (λ m. among c (block_cells p n graph.blocks) || among c (graph_cells p m (drop (n + 1) graphs))) (next n))
    where
      next : (n : ℕ) → suc n ≡ n + 1
      next n = omega arith

  pub found_graph : (c : ℕ) (graphs : List Graph) (n : ℕ) (graph : Graph) → n < length graphs → graph ≡ get_or graphs n graph → true ≡ among c (block_cells p n graph.blocks) → among c (graph_cells p n (drop n graphs)) ≡ true
  found_graph c graphs n graph lt e h = graph_both c graphs n graph lt e ∙ or_yes (among c (block_cells p n graph.blocks)) (among c (graph_cells p (n + 1) (drop (n + 1) graphs))) (sym h)

  pub passed_graph : (c : ℕ) (graphs : List Graph) (n : ℕ) (graph : Graph) → n < length graphs → graph ≡ get_or graphs n graph → false ≡ among c (block_cells p n graph.blocks)
      → among c (graph_cells p (n + 1) (drop (n + 1) graphs)) ≡ among c (graph_cells p n (drop n graphs))
  passed_graph c graphs n graph lt e h = sym (graph_both c graphs n graph lt e ∙ or_no (among c (block_cells p n graph.blocks)) (among c (graph_cells p (n + 1) (drop (n + 1) graphs))) (sym h))

pub block_is : (blocks : List Block) (n : ℕ) (block : Block) → n < length blocks → block ≡ get_or blocks n block → ops_of (slice_get blocks n) ≡ block.ops
block_is blocks n block lt e = ap ops_of (slice_get-get_or blocks n block lt) ∙ ap (λ b. b.ops) (sym e)

pub graph_is : (graphs : List Graph) (n : ℕ) (graph : Graph) → n < length graphs → graph ≡ get_or graphs n graph → blocks_of (slice_get graphs n) ≡ graph.blocks
graph_is graphs n graph lt e = ap blocks_of (slice_get-get_or graphs n graph lt) ∙ ap (λ g. g.blocks) (sym e)

-- ---- one or the other

pub first_found : (c : ℕ) (xs ys : List ℕ) (a b : Option Place) → is_some a ≡ among c xs → is_some b ≡ among c ys → is_some (first a b) ≡ among c (xs ++ ys)
first_found c xs ys None b e f = f ∙ sym (among_both c xs ys ∙ or_no (among c xs) (among c ys) (sym e))
first_found c xs ys (Some x) b e f = sym (among_both c xs ys ∙ or_yes (among c xs) (among c ys) (sym e))

pub first_there : (P : Place → Type 0) (a b : Option Place) → IfSome a P → IfSome b P → IfSome (first a b) P
first_there P None b h k = k
first_there P (Some x) b h k = h

module _ (c : ℕ) (ps rs ns is ks : List ℕ) (p r a i k : Option Place) where
  pub parts_found : is_some p ≡ among c ps → is_some r ≡ among c rs → is_some a ≡ among c ns → is_some i ≡ among c is → is_some k ≡ among c ks
      → is_some (first p (first r (first a (first i k)))) ≡ among c (ps ++ (rs ++ (ns ++ (is ++ ks))))
  parts_found ep er ea ei ek =
      first_found c ps (rs ++ (ns ++ (is ++ ks))) p (first r (first a (first i k))) ep
      (first_found c rs (ns ++ (is ++ ks)) r (first a (first i k)) er
      (first_found c ns (is ++ ks) a (first i k) ea (first_found c is ks i k ei ek)))

pub parts_there : (P : Place → Type 0) (p r a i k : Option Place) → IfSome p P → IfSome r P → IfSome a P → IfSome i P → IfSome k P → IfSome (first p (first r (first a (first i k)))) P
parts_there P p r a i k hp hr ha hi hk =
    first_there P p (first r (first a (first i k))) hp (first_there P r (first a (first i k)) hr (first_there P a (first i k) ha (first_there P i k hi hk)))
