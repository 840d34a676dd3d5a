-- Each site and each result of an operation has its cell, and may not be in conflict.
use Rattle.std.proofs.Common.{◌≡◌, ◌<◌, ◌≤◌, ℕ, zero, suc, ◌+◌, Bool, true, false, List, [], ◌∷◌, ◌++◌, length, map, get_or, replicate, refl, sym, ap, ◌∙◌, subst, arith, ◌⊎◌, ⊎_elim}
use Rattle.std.specs.Prelude.{◌==◌, ◌||◌, max}
use Rattle.std.proofs.lemmas.List.{length-replicate, length-append, get_or_append_left, get_or_push, get_or_past}
use Rattle.std.proofs.lemmas.Bool.{eq-eqb}
use Rattle.rpy_tree.specs.declared.program.Program.{Program}
use Rattle.flow_graph.specs.declared.graph.Op.{Op}
use Rattle.flow_graph.specs.declared.graph.Block.{Block}
use Rattle.flow_graph.specs.declared.graph.Graph.{Graph}
use Rattle.flow_graph.specs.declared.graph.Graphs.{Graphs}
use Rattle.class_desc.specs.Tables.{Tables}
use Rattle.ann_element.specs.Sites.{leader, below, alone}
use Rattle.ann_lattice.specs.Shape.{Shape, Nothing}
use Rattle.ann_lattice.specs.Assign.{IsTable}
use Rattle.ann_rules.specs.Program.{Whole}
use Rattle.ann_rules.specs.Hold.{OpSpots, BlockSpots, GraphSpots, IsPlaced}
use Rattle.ann_needs.specs.View.{nowhere, place, place_in, whole}
use Rattle.ann_layout.specs.Layout.{past_all, past_ops, past_blocks, variable_count, plan, planned}
use Rattle.ann_places.specs.Placed.{count_of, ArePlaced}
use Rattle.ann_places.specs.Spots.{row_cells, all_named_cells, part_cells, op_cells, block_cells, graph_cells, spot_cells, among, spots, start}
use Rattle.ann_places.proofs.Placing.{placed}

-- ---- lists

abbrev is_no : Bool → Type 0
is_no false = Unit {0}
is_no true = ⊥

no : false ≡ true → ⊥
no e = subst is_no e tt

or_left : (a b : Bool) → a ≡ true → (a || b) ≡ true
or_left true b e = refl
or_left false b e = absurd (no e)

or_right : (a b : Bool) → b ≡ true → (a || b) ≡ true
or_right true b e = refl
or_right false b e = e

or_on : (a b c : Bool) → (b ≡ true → c ≡ true) → (a || b) ≡ true → (a || c) ≡ true
or_on true b c f e = refl
or_on false b c f e = f e

same : (n : ℕ) → (n == n) ≡ true
same n = eq-eqb n n refl

pub among_left : (c : ℕ) (xs ys : List ℕ) → among c xs ≡ true → among c (xs ++ ys) ≡ true
among_left c [] ys e = absurd (no e)
among_left c (x ∷ xs) ys e = or_on (x == c) (among c xs) (among c (xs ++ ys)) (among_left c xs ys) e

pub among_right : (c : ℕ) (xs ys : List ℕ) → among c ys ≡ true → among c (xs ++ ys) ≡ true
among_right c [] ys e = e
among_right c (x ∷ xs) ys e = or_right (x == c) (among c (xs ++ ys)) (among_right c xs ys e)

-- a place in a row stands there, or nowhere
there : (row : List ℕ) (s : ℕ) → ((place row s == nowhere) || among (place row s) row) ≡ true
there [] s = or_left (nowhere == nowhere) false (same nowhere)
there (n ∷ row) zero = or_right (n == nowhere) ((n == n) || among n row) (or_left (n == n) (among n row) (same n))
there (n ∷ row) (suc s) = or_on (place row s == nowhere) (among (place row s) row) ((n == place row s) || among (place row s) row) (or_right (n == place row s) (among (place row s) row)) (there row s)

-- ---- sites

length_below : (n : ℕ) → length (below n) ≡ n
length_below zero = refl
length_below (suc n) =
    let rest : length (below n) ≡ n = length_below n in
    let all : length (below n ++ n ∷ []) ≡ length (below n) + 1 = length-append (below n) (n ∷ []) in
    omega (arith, rest, all)

-- ---- numbers of variables

past_all_least : (vs : List ℕ) (most : ℕ) → most ≤ past_all vs most
past_all_least [] most = omega arith
past_all_least (v ∷ vs) most = let rest : max most (v + 1) ≤ past_all vs (max most (v + 1)) = past_all_least vs (max most (v + 1)) in omega (arith, rest)

past_ops_least : (os : List Op) (most : ℕ) → most ≤ past_ops os most
past_ops_least [] most = omega arith
past_ops_least (o ∷ os) most =
    let rest : max most (o.result + 1) ≤ past_ops os (max most (o.result + 1)) = past_ops_least os (max most (o.result + 1)) in omega (arith, rest)

past_blocks_least : (bs : List Block) (most : ℕ) → most ≤ past_blocks bs most
past_blocks_least [] most = omega arith
past_blocks_least (b ∷ bs) most =
    let one : most ≤ past_all b.inputs most = past_all_least b.inputs most in
    let two : past_all b.inputs most ≤ past_ops b.ops (past_all b.inputs most) = past_ops_least b.ops (past_all b.inputs most) in
    let rest : past_ops b.ops (past_all b.inputs most) ≤ past_blocks bs (past_ops b.ops (past_all b.inputs most)) = past_blocks_least bs (past_ops b.ops (past_all b.inputs most)) in
    omega (arith, one, two, rest)

-- ---- results of operations

module _ (p : Whole) (spot : ℕ → Bool) (n : ℕ) where
  ops_spots : (g most count : ℕ) (os : List Op) → past_ops os most ≤ count → ((v : ℕ) → v < count → p.places.variable g v < n)
      → ((c : ℕ) → among c (op_cells p g os) ≡ true → spot c ≡ true) → OpSpots p spot n g os
  ops_spots g most count [] le there sub = tt
  ops_spots g most count (o ∷ os) le there sub =
      let rest : max most (o.result + 1) ≤ past_ops os (max most (o.result + 1)) = past_ops_least os (max most (o.result + 1)) in (
        (
          sub (p.places.variable g o.result) (or_left (p.places.variable g o.result == p.places.variable g o.result) (among (p.places.variable g o.result) (op_cells p g os)) (same (p.places.variable g o.result))),
          there o.result (omega (arith, le, rest)),
        ),
        ops_spots g (max most (o.result + 1)) count os le there (λ c e. sub c (or_right (p.places.variable g o.result == c) (among c (op_cells p g os)) e)),
      )

  blocks_spots : (g most count : ℕ) (bs : List Block) → past_blocks bs most ≤ count → ((v : ℕ) → v < count → p.places.variable g v < n)
      → ((c : ℕ) → among c (block_cells p g bs) ≡ true → spot c ≡ true) → BlockSpots p spot n g bs
  blocks_spots g most count [] le there sub = tt
  blocks_spots g most count (b ∷ bs) le there sub =
      let rest : past_ops b.ops (past_all b.inputs most) ≤ past_blocks bs (past_ops b.ops (past_all b.inputs most)) = past_blocks_least bs (past_ops b.ops (past_all b.inputs most)) in (
        ops_spots g (past_all b.inputs most) count b.ops (omega (arith, le, rest)) there (λ c e. sub c (among_left c (op_cells p g b.ops) (block_cells p g bs) e)),
        blocks_spots g (past_ops b.ops (past_all b.inputs most)) count bs le there (λ c e. sub c (among_right c (op_cells p g b.ops) (block_cells p g bs) e)),
      )

  graphs_spots : (g : ℕ) (gs : List Graph) → ((i v : ℕ) → v < count_of (map variable_count gs) i → p.places.variable (g + i) v < n)
      → ((c : ℕ) → among c (graph_cells p g gs) ≡ true → spot c ≡ true) → GraphSpots p spot n g gs
  graphs_spots g [] there sub = tt
  graphs_spots g (graph ∷ gs) there sub = (
    blocks_spots g 0 (variable_count graph) graph.blocks (omega arith)
        (λ v lt. subst (λ m. p.places.variable m v < n) (plus_zero g) (there zero v lt)) (λ c e. sub c (among_left c (block_cells p g graph.blocks) (graph_cells p (suc g) gs) e)),
    graphs_spots (suc g) gs (λ i v lt. subst (λ m. p.places.variable m v < n) (plus_suc g i) (there (suc i) v lt))
        (λ c e. sub c (among_right c (block_cells p g graph.blocks) (graph_cells p (suc g) gs) e)),
  )
    where
      plus_zero : (g : ℕ) → g + zero ≡ g
      plus_zero g = omega arith

      plus_suc : (g i : ℕ) → g + suc i ≡ suc g + i
      plus_suc g i = omega arith

-- ---- the whole

module _ (p : Program) (gs : Graphs) (t : Tables) where
  abbrev parts : List ℕ
  parts = part_cells (plan p gs t).places

  abbrev sites : List ℕ
  sites = (plan p gs t).places.items ++ (plan p gs t).places.keys

  abbrev after_results : List ℕ
  after_results = all_named_cells (plan p gs t).places.attributes ++ sites

  abbrev after_params : List ℕ
  after_params = (plan p gs t).places.results ++ after_results

  in_parts : (c : ℕ) → among c sites ≡ true → among c (spot_cells (plan p gs t)) ≡ true
  in_parts c e =
      among_left c parts (graph_cells (whole (plan p gs t)) 0 gs.graphs)
      (among_right c (row_cells (plan p gs t).places.params) after_params
      (among_right c (plan p gs t).places.results after_results
      (among_right c (all_named_cells (plan p gs t).places.attributes) sites e)))

  pub is_placed : IsPlaced (whole (plan p gs t)) (spots (plan p gs t)) (start (planned p gs t))
  is_placed = record {
    sites = sym (length_below (length p.sites));
    items = λ s lt. subst (λ n. place (plan p gs t).places.items s < n) (sym (length-replicate (planned p gs t).cells Nothing)) ((placed p gs t).items s lt);
    keys = λ s lt. subst (λ n. place (plan p gs t).places.keys s < n) (sym (length-replicate (planned p gs t).cells Nothing)) ((placed p gs t).keys s lt);
    item_spots = λ s. or_on (place (plan p gs t).places.items s == nowhere) (among (place (plan p gs t).places.items s) (plan p gs t).places.items) (among (place (plan p gs t).places.items s) (spot_cells (plan p gs t)))
        (λ e. in_parts (place (plan p gs t).places.items s) (among_left (place (plan p gs t).places.items s) (plan p gs t).places.items (plan p gs t).places.keys e)) (there (plan p gs t).places.items s);
    key_spots = λ s. or_on (place (plan p gs t).places.keys s == nowhere) (among (place (plan p gs t).places.keys s) (plan p gs t).places.keys) (among (place (plan p gs t).places.keys s) (spot_cells (plan p gs t)))
        (λ e. in_parts (place (plan p gs t).places.keys s) (among_right (place (plan p gs t).places.keys s) (plan p gs t).places.items (plan p gs t).places.keys e)) (there (plan p gs t).places.keys s);
    results =
        graphs_spots (whole (plan p gs t)) (spots (plan p gs t)) (length (start (planned p gs t)).cells) 0 gs.graphs
        (λ i v lt. subst (λ n. place_in (plan p gs t).places.variables (0 + i) v < n) (sym (length-replicate (planned p gs t).cells Nothing))
        (subst (λ j. place_in (plan p gs t).places.variables j v < (planned p gs t).cells) (from_zero i) ((placed p gs t).variables i v lt)))
        (λ c e. or_right (c == nowhere) (among c (spot_cells (plan p gs t))) (among_right c parts (graph_cells (whole (plan p gs t)) 0 gs.graphs) e));
  }
    where
      from_zero : (i : ℕ) → i ≡ 0 + i
      from_zero i = omega arith

-- ---- each site alone

read_is : (xs : List ℕ) (s : ℕ) → leader xs s ≡ get_or xs s 0
read_is [] s = refl
read_is (x ∷ xs) zero = refl
read_is (x ∷ xs) (suc s) = read_is xs s

one_of : (s n : ℕ) → s < suc n → (s < n) ⊎ (n ≡ s)
one_of s n lt = grind arith

alone_read : (n s : ℕ) → s < n → get_or (below n) s 0 ≡ s
alone_read zero s lt = absurd (omega (arith, lt))
alone_read (suc n) s lt = ⊎_elim
    (λ (less : s < n). let inside : s < length (below n) = omega (arith, less, length_below n) in get_or_append_left (below n) (n ∷ []) 0 s inside ∙ alone_read n s less)
    (λ (e : n ≡ s). get_or_push (below n) n 0 s (length_below n ∙ e) ∙ e)
    (one_of s n lt)

alone_past : (n s : ℕ) → n ≤ s → get_or (below n) s 0 ≡ 0
alone_past n s le = get_or_past (below n) s 0 (omega (arith, le, length_below n))

first_or : (n s : ℕ) → (s < n) ⊎ (n ≤ s)
first_or n s = grind arith

-- the sites that stand alone are a table, once there is one
pub alone_table : {A : Type 0} → (sites : List A) → 0 < length sites → IsTable (length (alone sites)) (alone sites)
alone_table sites lt = record {
  count = refl;
  leads = λ s. ⊎_elim
      (λ (less : s < length sites). ap (leader (alone sites)) (is s less))
      (λ (le : length sites ≤ s). ap (leader (alone sites)) (past s le) ∙ (is 0 lt ∙ sym (past s le)))
      (first_or (length sites) s);
  sites = λ s. ⊎_elim
      (λ (less : s < length sites). inside s (leader (alone sites) s) less (is s less))
      (λ (le : length sites ≤ s). inside 0 (leader (alone sites) s) lt (past s le))
      (first_or (length sites) s);
}
  where
    is : (s : ℕ) → s < length sites → leader (alone sites) s ≡ s
    is s less = read_is (alone sites) s ∙ alone_read (length sites) s less

    past : (s : ℕ) → length sites ≤ s → leader (alone sites) s ≡ 0
    past s le = read_is (alone sites) s ∙ alone_past (length sites) s le

    inside : (s l : ℕ) → s < length sites → l ≡ s → l < length (alone sites)
    inside s l less e = omega (arith, less, e, length_below (length sites))
