-- The marks are those of the cells in which no conflict may stand.
use Rattle.std.proofs.Common.{◌≡◌, ◌≢◌, ◌<◌, ℕ, zero, suc, Bool, true, false, List, [], ◌∷◌, ◌++◌, length, set, get_or, replicate, refl, sym, ap, ◌∙◌, subst, ◌⊎◌, inl, inr, arith}
use Rattle.std.specs.Prelude.{◌==◌, ◌||◌, nat_lt, if◌then◌else◌}
use Rattle.std.proofs.lemmas.Bool.{eqb-true, eq-eqb, lt-ltb}
use Rattle.std.proofs.lemmas.List.{length-set, length-replicate, get_or-set_same, get_or-set_other}
use Rattle.flow_graph.specs.declared.graph.Op.{Op}
use Rattle.flow_graph.specs.declared.graph.Block.{Block}
use Rattle.flow_graph.specs.declared.graph.Graph.{Graph}
use Rattle.ann_laws.proofs.Pairs.{no}
use Rattle.ann_rules.specs.Program.{Whole}
use Rattle.ann_needs.specs.View.{whole}
use Rattle.ann_needs.specs.declared.plan.Plan.{Plan}
use Rattle.ann_needs.specs.declared.plan.Places.{Places}
use Rattle.ann_places.specs.Spots.{row_cells, named_cells, all_named_cells, part_cells, op_cells, block_cells, graph_cells, spot_cells, among}
use Rattle.ann_states.specs.Marked as spec

same_number : (c d : ℕ) → (c ≡ d) ⊎ (c ≢ d)
same_number c d = grind arith

-- ---- one mark

put_length_by : (b : Bool) (marks : List Bool) (c : ℕ) → length (if b then set marks c true else marks) ≡ length marks
put_length_by true marks c = length-set marks c true
put_length_by false marks c = refl

put_length : (marks : List Bool) (c : ℕ) → length (spec.put marks c) ≡ length marks
put_length marks c = put_length_by (nat_lt c (length marks)) marks c

put_other_by : (b : Bool) (marks : List Bool) (c d : ℕ) → d ≢ c → get_or (if b then set marks c true else marks) d false ≡ get_or marks d false
put_other_by true marks c d other = get_or-set_other marks c d true false other
put_other_by false marks c d other = refl

put_there : (marks : List Bool) (c : ℕ) → c < length marks → get_or (spec.put marks c) c false ≡ true
put_there marks c lt =
    ap (λ b. get_or (if b then set marks c true else marks) c false) (lt-ltb c (length marks) lt) ∙ get_or-set_same marks c true false lt

-- ---- a list of them

or_left : (b c : Bool) → b ≡ true → (b || c) ≡ true
or_left true c e = refl
or_left false c e = absurd (no e)

or_right : (b c : Bool) → c ≡ true → (b || c) ≡ true
or_right true c e = refl
or_right false c e = e

row_only : (cs : List ℕ) (marks : List Bool) (d : ℕ) → get_or (spec.row cs marks) d false ≡ true → (among d cs ≡ true) ⊎ (get_or marks d false ≡ true)
row_only [] marks d e = inr e
row_only (c ∷ cs) marks d e = by_rest (same_number d c) (row_only cs (spec.put marks c) d e)
  where
    by_rest : (d ≡ c) ⊎ (d ≢ c) → (among d cs ≡ true) ⊎ (get_or (spec.put marks c) d false ≡ true) → (among d (c ∷ cs) ≡ true) ⊎ (get_or marks d false ≡ true)
    by_rest (inl same) h = inl (or_left (c == d) (among d cs) (eq-eqb c d (sym same)))
    by_rest (inr other) (inl h) = inl (or_right (c == d) (among d cs) h)
    by_rest (inr other) (inr h) = inr (sym (put_other_by (nat_lt c (length marks)) marks c d other) ∙ h)

row_kept : (cs : List ℕ) (marks : List Bool) (d : ℕ) → d < length marks → get_or marks d false ≡ true → get_or (spec.row cs marks) d false ≡ true
row_kept [] marks d lt e = e
row_kept (c ∷ cs) marks d lt e = row_kept cs (spec.put marks c) d (omega (arith, lt, put_length marks c)) (by_cell (same_number d c))
  where
    by_cell : (d ≡ c) ⊎ (d ≢ c) → get_or (spec.put marks c) d false ≡ true
    by_cell (inl same) = ap (λ i. get_or (spec.put marks c) i false) same ∙ put_there marks c (subst (λ i. i < length marks) same lt)
    by_cell (inr other) = put_other_by (nat_lt c (length marks)) marks c d other ∙ e

long : (marks : List Bool) (c d : ℕ) → d < length marks → d < length (spec.put marks c)
long marks c d lt = omega (arith, lt, put_length marks c)

each_by : (cs : List ℕ) (marks : List Bool) (c d : ℕ) → d < length marks → d < length (spec.put marks c) → (b : Bool) → (c == d) ≡ b
    → (among d cs ≡ true → get_or (spec.row cs (spec.put marks c)) d false ≡ true) → (b || among d cs) ≡ true → get_or (spec.row cs (spec.put marks c)) d false ≡ true
each_by cs marks c d lt on true i f h =
    row_kept cs (spec.put marks c) d on
    (ap (λ j. get_or (spec.put marks c) j false) (sym (eqb-true c d i)) ∙ put_there marks c (subst (λ j. j < length marks) (sym (eqb-true c d i)) lt))
each_by cs marks c d lt on false i f h = f h

row_each : (cs : List ℕ) (marks : List Bool) (d : ℕ) → d < length marks → among d cs ≡ true → get_or (spec.row cs marks) d false ≡ true
row_each [] marks d lt e = absurd (no e)
row_each (c ∷ cs) marks d lt e =
    each_by cs marks c d lt (long marks c d lt) (c == d) refl (row_each cs (spec.put marks c) d (long marks c d lt)) e

-- ---- all of them are one list

row_append : (xs ys : List ℕ) (marks : List Bool) → spec.row (xs ++ ys) marks ≡ spec.row ys (spec.row xs marks)
row_append [] ys marks = refl
row_append (x ∷ xs) ys marks = row_append xs ys (spec.put marks x)

rows_is : (css : List (List ℕ)) (marks : List Bool) → spec.rows css marks ≡ spec.row (row_cells css) marks
rows_is [] marks = refl
rows_is (cs ∷ css) marks = rows_is css (spec.row cs marks) ∙ sym (row_append cs (row_cells css) marks)

named_is : (row : List (List ℕ × ℕ)) (marks : List Bool) → spec.named row marks ≡ spec.row (named_cells row) marks
named_is [] marks = refl
named_is (entry ∷ row) marks = named_is row (spec.put marks entry.1)

all_named_is : (rows : List (List (List ℕ × ℕ))) (marks : List Bool) → spec.all_named rows marks ≡ spec.row (all_named_cells rows) marks
all_named_is [] marks = refl
all_named_is (row ∷ rows) marks =
    all_named_is rows (spec.named row marks) ∙ (ap (spec.row (all_named_cells rows)) (named_is row marks) ∙ sym (row_append (named_cells row) (all_named_cells rows) marks))

parts_is : (p : Places) (marks : List Bool) → spec.parts p marks ≡ spec.row (part_cells p) marks
parts_is p marks =
    ap (λ m. spec.row p.keys (spec.row p.items (spec.all_named p.attributes (spec.row p.results m)))) (rows_is p.params marks)
    ∙ (ap (λ m. spec.row p.keys (spec.row p.items m)) (all_named_is p.attributes (spec.row p.results (spec.row (row_cells p.params) marks)))
    ∙ sym (row_append (row_cells p.params) (p.results ++ (all_named_cells p.attributes ++ (p.items ++ p.keys))) marks
    ∙ (row_append p.results (all_named_cells p.attributes ++ (p.items ++ p.keys)) (spec.row (row_cells p.params) marks)
    ∙ (row_append (all_named_cells p.attributes) (p.items ++ p.keys) (spec.row p.results (spec.row (row_cells p.params) marks))
    ∙ row_append p.items p.keys (spec.row (all_named_cells p.attributes) (spec.row p.results (spec.row (row_cells p.params) marks)))))))

module _ (p : Whole) where
  ops_is : (g : ℕ) (os : List Op) (marks : List Bool) → spec.ops p g os marks ≡ spec.row (op_cells p g os) marks
  ops_is g [] marks = refl
  ops_is g (o ∷ os) marks = ops_is g os (spec.put marks (p.places.variable g o.result))

  blocks_is : (g : ℕ) (bs : List Block) (marks : List Bool) → spec.blocks p g bs marks ≡ spec.row (block_cells p g bs) marks
  blocks_is g [] marks = refl
  blocks_is g (b ∷ bs) marks =
      blocks_is g bs (spec.ops p g b.ops marks) ∙ (ap (spec.row (block_cells p g bs)) (ops_is g b.ops marks) ∙ sym (row_append (op_cells p g b.ops) (block_cells p g bs) marks))

  graphs_is : (g : ℕ) (gs : List Graph) (marks : List Bool) → spec.graphs p g gs marks ≡ spec.row (graph_cells p g gs) marks
  graphs_is g [] marks = refl
  graphs_is g (graph ∷ gs) marks =
      graphs_is (suc g) gs (spec.blocks p g graph.blocks marks)
      ∙ (ap (spec.row (graph_cells p (suc g) gs)) (blocks_is g graph.blocks marks) ∙ sym (row_append (block_cells p g graph.blocks) (graph_cells p (suc g) gs) marks))

all_is : (p : Plan) (n : ℕ) → spec.all p n ≡ spec.row (spot_cells p) (replicate n false)
all_is p n =
    graphs_is (whole p) 0 p.graphs.graphs (spec.parts p.places (replicate n false))
    ∙ (ap (spec.row (graph_cells (whole p) 0 p.graphs.graphs)) (parts_is p.places (replicate n false))
    ∙ sym (row_append (part_cells p.places) (graph_cells (whole p) 0 p.graphs.graphs) (replicate n false)))

unset : (n c : ℕ) → get_or (replicate n false) c false ≡ false
unset zero c = refl
unset (suc n) zero = refl
unset (suc n) (suc c) = unset n c

one_way : (A : Type 0) (b : Bool) → b ≡ false → A ⊎ (b ≡ true) → A
one_way A b e (inl h) = h
one_way A b e (inr h) = absurd (no (sym e ∙ h))

pub spots_marked : (p : Plan) (n : ℕ) (marks : List Bool) → marks ≡ spec.all p n → spec.AreSpots p n marks
spots_marked p n marks e =
    let is : marks ≡ spec.row (spot_cells p) (replicate n false) = e ∙ all_is p n in
    record {
      only = λ c h.
          one_way (among c (spot_cells p) ≡ true) (get_or (replicate n false) c false) (unset n c)
          (row_only (spot_cells p) (replicate n false) c (sym (ap (λ m. get_or m c false) is) ∙ h));
      each = λ c lt h.
          ap (λ m. get_or m c false) is ∙ row_each (spot_cells p) (replicate n false) c (omega (arith, lt, length-replicate n false)) h;
    }
