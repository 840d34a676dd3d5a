-- What may not be in conflict: the parts of a program, and the results of operations.
use Rattle.std.proofs.Common.{◌≡◌, ◌+◌, ◌≤◌, ◌⊎◌, inl, inr, ℕ, zero, suc, Bool, true, false, List, [], ◌∷◌, ◌++◌, length, get_or, replicate, Some, refl, ap, arith, subst}
use Rattle.std.specs.Prelude.{◌==◌, ◌||◌, slice_get}
use Rattle.std.specs.List.{flat_map}
use Rattle.std.proofs.lemmas.Bool.{eqb-true, false≢true}
use Rattle.flow_graph.specs.declared.graph.Op.{Op}
use Rattle.flow_graph.specs.declared.graph.Block.{Block}
use Rattle.flow_graph.specs.declared.graph.Graph.{Graph}
use Rattle.ann_rules.specs.Program.{Whole}
use Rattle.ann_needs.specs.View.{place, place_in}
use Rattle.ann_places.specs.Spots.{row_cells, named_cells, all_named_cells, op_cells, block_cells, graph_cells, among}
use Rattle.ann_read.specs.Reading.{In, ops_of}
use Rattle.ann_shown.specs.Place.{names_of}

pub among_split : (c : ℕ) (xs ys : List ℕ) → among c (xs ++ ys) ≡ true → (among c xs ≡ true) ⊎ (among c ys ≡ true)
among_split c [] ys h = inr h
among_split c (x ∷ xs) ys h = by (λ i. among_split c xs ys i) (x == c) refl h
  where
    later : (among c xs ≡ true) ⊎ (among c ys ≡ true) → (b : Bool) → ((b || among c xs) ≡ true) ⊎ (among c ys ≡ true)
    later (inr i) b = inr i
    later (inl i) true = inl refl
    later (inl i) false = inl i

    by : (among c (xs ++ ys) ≡ true → (among c xs ≡ true) ⊎ (among c ys ≡ true)) → (b : Bool) → (x == c) ≡ b → (b || among c (xs ++ ys)) ≡ true → ((b || among c xs) ≡ true) ⊎ (among c ys ≡ true)
    by rest true e i = inl refl
    by rest false e i = later (rest i) false

pub row_found : (c : ℕ) (row : List ℕ) → among c row ≡ true → (s : ℕ) × (place row s ≡ c)
row_found c [] h = absurd (false≢true h)
row_found c (x ∷ row) h = by (λ i. row_found c row i) (x == c) refl h
  where
    by : (among c row ≡ true → (s : ℕ) × (place row s ≡ c)) → (b : Bool) → (x == c) ≡ b → (b || among c row) ≡ true → (s : ℕ) × (place (x ∷ row) s ≡ c)
    by rest true e i = (zero, eqb-true x c e)
    by rest false e i = let r = rest i in (suc r.0, r.1)

pub rows_found : (c : ℕ) (rows : List (List ℕ)) → among c (row_cells rows) ≡ true → (f i : ℕ) × (place_in rows f i ≡ c)
rows_found c [] h = absurd (false≢true h)
rows_found c (row ∷ rows) h = by (λ i. rows_found c rows i) (among_split c row (row_cells rows) h)
  where
    by : (among c (row_cells rows) ≡ true → (f i : ℕ) × (place_in rows f i ≡ c)) → (among c row ≡ true) ⊎ (among c (row_cells rows) ≡ true) → (f i : ℕ) × (place_in (row ∷ rows) f i ≡ c)
    by rest (inl i) = let r = row_found c row i in (zero, r.0, r.1)
    by rest (inr i) = let r = rest i in (suc r.0, r.1, r.2)

entry_found : (c : ℕ) (row : List (List ℕ × ℕ)) → among c (named_cells row) ≡ true → (i : ℕ) × (name : List ℕ) × (slice_get row i ≡ Some (name, c))
entry_found c [] h = absurd (false≢true h)
entry_found c (entry ∷ row) h = by (λ i. entry_found c row i) (entry.1 == c) refl h
  where
    by : (among c (named_cells row) ≡ true → (i : ℕ) × (name : List ℕ) × (slice_get row i ≡ Some (name, c))) → (b : Bool) → (entry.1 == c) ≡ b → (b || among c (named_cells row)) ≡ true → (i : ℕ) × (name : List ℕ) × (slice_get (entry ∷ row) i ≡ Some (name, c))
    by rest true e i = (zero, entry.0, ap (λ n. Some (entry.0, n)) (eqb-true entry.1 c e))
    by rest false e i = let r = rest i in (suc r.0, r.1, r.2)

pub name_found : (c : ℕ) (rows : List (List (List ℕ × ℕ))) → among c (all_named_cells rows) ≡ true → (k i : ℕ) × (name : List ℕ) × (slice_get (names_of rows k) i ≡ Some (name, c))
name_found c [] h = absurd (false≢true h)
name_found c (row ∷ rows) h = by (λ i. name_found c rows i) (among_split c (named_cells row) (all_named_cells rows) h)
  where
    by : (among c (all_named_cells rows) ≡ true → (k i : ℕ) × (name : List ℕ) × (slice_get (names_of rows k) i ≡ Some (name, c))) → (among c (named_cells row) ≡ true) ⊎ (among c (all_named_cells rows) ≡ true) → (k i : ℕ) × (name : List ℕ) × (slice_get (names_of (row ∷ rows) k) i ≡ Some (name, c))
    by rest (inl i) = let r = entry_found c row i in (zero, r.0, r.1, r.2)
    by rest (inr i) = let r = rest i in (suc r.0, r.1, r.2, r.3)

-- ---- results of operations

in_left : (os qs : List Op) (o : Op) → In os o → In (os ++ qs) o
in_left [] qs o h = absurd h
in_left (x ∷ os) qs o (inl e) = inl e
in_left (x ∷ os) qs o (inr h) = inr (in_left os qs o h)

in_right : (os qs : List Op) (o : Op) → In qs o → In (os ++ qs) o
in_right [] qs o h = h
in_right (x ∷ os) qs o h = inr (in_right os qs o h)

module _ (p : Whole) (c : ℕ) where
  op_found : (f : ℕ) (os : List Op) → among c (op_cells p f os) ≡ true → (o : Op) × In os o × (p.places.variable f o.result ≡ c)
  op_found f [] h = absurd (false≢true h)
  op_found f (o ∷ os) h = by (λ i. op_found f os i) (p.places.variable f o.result == c) refl h
    where
      by : (among c (op_cells p f os) ≡ true → (q : Op) × In os q × (p.places.variable f q.result ≡ c)) → (b : Bool) → (p.places.variable f o.result == c) ≡ b → (b || among c (op_cells p f os)) ≡ true → (q : Op) × In (o ∷ os) q × (p.places.variable f q.result ≡ c)
      by rest true e i = (o, inl refl, eqb-true (p.places.variable f o.result) c e)
      by rest false e i = let r = rest i in (r.0, inr r.1, r.2)

  block_found : (f : ℕ) (bs : List Block) → among c (block_cells p f bs) ≡ true → (o : Op) × In (flat_map (λ (b : Block). b.ops) bs) o × (p.places.variable f o.result ≡ c)
  block_found f [] h = absurd (false≢true h)
  block_found f (b ∷ bs) h = by (λ i. block_found f bs i) (among_split c (op_cells p f b.ops) (block_cells p f bs) h)
    where
      by : (among c (block_cells p f bs) ≡ true → (o : Op) × In (flat_map (λ (x : Block). x.ops) bs) o × (p.places.variable f o.result ≡ c)) → (among c (op_cells p f b.ops) ≡ true) ⊎ (among c (block_cells p f bs) ≡ true) → (o : Op) × In (flat_map (λ (x : Block). x.ops) (b ∷ bs)) o × (p.places.variable f o.result ≡ c)
      by rest (inl i) = let r = op_found f b.ops i in (r.0, in_left b.ops (flat_map (λ (x : Block). x.ops) bs) r.0 r.1, r.2)
      by rest (inr i) = let r = rest i in (r.0, in_right b.ops (flat_map (λ (x : Block). x.ops) bs) r.0 r.1, r.2)

  pub graph_found : (n : ℕ) (graphs : List Graph) → among c (graph_cells p n graphs) ≡ true → (i : ℕ) × (graph : Graph) × (o : Op) × (slice_get graphs i ≡ Some graph) × In (ops_of graph) o × (p.places.variable (n + i) o.result ≡ c)
  graph_found n [] h = absurd (false≢true h)
  graph_found n (graph ∷ graphs) h = by (λ i. graph_found (suc n) graphs i) (among_split c (block_cells p n graph.blocks) (graph_cells p (suc n) graphs) h)
    where
      zero_is : (n : ℕ) → n ≡ n + 0
      zero_is n = omega arith

      suc_is : (n i : ℕ) → suc n + i ≡ n + suc i
      suc_is n i = omega arith

      by : (among c (graph_cells p (suc n) graphs) ≡ true → (i : ℕ) × (g : Graph) × (o : Op) × (slice_get graphs i ≡ Some g) × In (ops_of g) o × (p.places.variable (suc n + i) o.result ≡ c)) → (among c (block_cells p n graph.blocks) ≡ true) ⊎ (among c (graph_cells p (suc n) graphs) ≡ true)
          → (i : ℕ) × (g : Graph) × (o : Op) × (slice_get (graph ∷ graphs) i ≡ Some g) × In (ops_of g) o × (p.places.variable (n + i) o.result ≡ c)
      by rest (inl i) = let r = block_found n graph.blocks i in (zero, graph, r.0, refl, r.1, subst (λ m. p.places.variable m r.0.result ≡ c) (zero_is n) r.2)
      by rest (inr i) = let r = rest i in (suc r.0, r.1, r.2, r.3, r.4, subst (λ m. p.places.variable m r.2.result ≡ c) (suc_is n r.0) r.5)

-- ---- what is not there

pub past : {A : Type 0} → (xs : List A) (i : ℕ) (d : A) → length xs ≤ i → get_or xs i d ≡ d
past [] i d le = refl
past (x ∷ xs) zero d le = absurd (omega (arith, le))
past (x ∷ xs) (suc i) d le = past xs i d (omega (arith, le))

pub all_same : {A : Type 0} → (n i : ℕ) (d : A) → get_or (replicate n d) i d ≡ d
all_same zero i d = refl
all_same (suc n) zero d = refl
all_same (suc n) (suc i) d = all_same n i d
