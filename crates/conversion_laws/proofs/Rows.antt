-- What is written for the items of a tuple that is made one of another struct, and the graph that makes it.
use Rattle.std.proofs.Common.{◌≡◌, ℕ, ◌+◌, List, [], ◌∷◌, ◌++◌, length, refl, sym, ap, ◌∙◌, arith, append_assoc, length-append}
use Rattle.std.specs.Prelude.{codes}
use Rattle.std.proofs.lemmas.List.{append-nil, take_all}
use Rattle.csub_tree.specs.declared.tree.COperand.{COperand}
use Rattle.csub_tree.specs.declared.tree.COperand.TheVariants.{Var}
use Rattle.ll_code.specs.declared.program.LlType.{LlType}
use Rattle.ll_code.specs.declared.program.LlType.TheVariants as type
use Rattle.ll_code.specs.declared.program.LlGraph.{LlGraph}
use Rattle.ll_code.specs.declared.program.LlOp.{LlOp}
use Rattle.ll_code.specs.declared.program.LlOp.TheVariants as op
use Rattle.rtyper_layout.specs.declared.layout.Layout.{Layout}
use Rattle.rtyper_data.specs.declared.body.Body.{Body}
use Rattle.rtyper_data.specs.declared.found.Found.{Found}
use Rattle.rtyper_data.specs.declared.small.Small.TheVariants as small
use Rattle.rtyper_data.specs.Building.{graph_with}
use Rattle.rtyper_data.specs.Graphs.{fields_at, field_at, with_item, cast_from, cast_items, cast_blocks, cast_graph, cast_made, body_of, shared_fields}
use Rattle.rtyper_data.specs.Seen.{with_op, Writing, writing}
use Rattle.rtyper_data.specs.Smalls.{small_graph}
use Rattle.rtyper_data.specs.Tuples.{set_fields}
use Rattle.lower_laws.specs.Asked.{all_asked}
use Rattle.lower_laws.specs.Values.{IsBelow}
use Rattle.lower_laws.proofs.Kept.{below_more}
use Rattle.conversion_laws.specs.Asked.{asks_for}
use Rattle.conversion_laws.proofs.Turning.{Turn, turn, ops_of, new_of, operand_of, left_by, value_is, asks_are, under}

-- ---- items

module _ (layout : Layout) (m : ℕ) (to : List LlType) where
  abbrev pub turn_at : (i : ℕ) (t : LlType) → Turn layout t (field_at to i)
  turn_at i t = turn layout t (field_at to i)

  -- the item is read
  abbrev pub first : ℕ → LlType → Writing → Writing
  first i t w = writing w.found (record { types = w.body.types ++ t ∷ []; ops = w.body.ops ++ op.GetField (length w.body.types) m 0 i ∷ [] })

  -- and converted
  abbrev pub next : ℕ → LlType → Writing → Writing
  next i t w = left_by (turn_at i t) (Var (length w.body.types)) (first i t w)

  abbrev pub ops_from : ℕ → List LlType → Writing → List LlOp
  ops_from i [] w = []
  ops_from i (t ∷ ts) w = op.GetField (length w.body.types) m 0 i ∷ (ops_of (turn_at i t) (Var (length w.body.types)) (first i t w) ++ ops_from (i + 1) ts (next i t w))

  abbrev pub new_from : ℕ → List LlType → List LlType
  new_from i [] = []
  new_from i (t ∷ ts) = t ∷ (new_of (turn_at i t) ++ new_from (i + 1) ts)

  abbrev pub items_from : ℕ → List LlType → Writing → List COperand
  items_from i [] w = []
  items_from i (t ∷ ts) w = operand_of (turn_at i t) (Var (length w.body.types)) (first i t w) ∷ items_from (i + 1) ts (next i t w)

  abbrev pub found_from : ℕ → List LlType → Writing → Found
  found_from i [] w = w.found
  found_from i (t ∷ ts) w = found_from (i + 1) ts (next i t w)

  abbrev pub all_from : ℕ → List LlType → Writing → Writing
  all_from i ts w = writing (found_from i ts w) (record { types = w.body.types ++ new_from i ts; ops = w.body.ops ++ ops_from i ts w })

  three : {A : Type 0} (ws : List A) (x : A) (ys zs : List A) → ((ws ++ x ∷ []) ++ ys) ++ zs ≡ ws ++ (x ∷ (ys ++ zs))
  three ws x ys zs = append_assoc (ws ++ x ∷ []) ys zs ∙ append_assoc ws (x ∷ []) (ys ++ zs)

  pub cast_is : (i : ℕ) (ts : List LlType) (w : Writing) → cast_from layout m to i ts w ≡ (items_from i ts w, all_from i ts w)
  cast_is i [] w = ap (λ tys. ([], writing w.found (record { types = tys; ops = w.body.ops }))) (sym (append-nil w.body.types)) ∙ ap (λ os. ([], writing w.found (record { types = w.body.types ++ []; ops = os }))) (sym (append-nil w.body.ops))
  cast_is i (t ∷ ts) w =
      let tn : Turn layout t (field_at to i) = turn_at i t in
      let x : COperand = Var (length w.body.types) in
      let y : COperand = operand_of tn x (first i t w) in
      let last : Found = found_from (i + 1) ts (next i t w) in
      ap (λ made. with_item made (λ next. cast_from layout m to (i + 1) ts next)) (value_is tn x (first i t w))
      ∙ ap (λ (r : List COperand × Writing). (y ∷ r.0, r.1)) (cast_is (i + 1) ts (next i t w))
      ∙ ap (λ tys. (y ∷ items_from (i + 1) ts (next i t w), writing last (record { types = tys; ops = (next i t w).body.ops ++ ops_from (i + 1) ts (next i t w) }))) (three w.body.types t (new_of tn) (new_from (i + 1) ts))
      ∙ ap (λ os. (y ∷ items_from (i + 1) ts (next i t w), writing last (record { types = w.body.types ++ new_from i (t ∷ ts); ops = os }))) (three w.body.ops (op.GetField (length w.body.types) m 0 i) (ops_of tn x (first i t w)) (ops_from (i + 1) ts (next i t w)))

  -- what the first items ask for is asked for before
  pub first_asked : (i : ℕ) (t : LlType) (w : Writing) → (next i t w).found ≡ all_asked (asks_for layout t (field_at to i)) w.found
  first_asked i t w = asks_are (turn_at i t) (first i t w)

  pub items_long : (i : ℕ) (ts : List LlType) (w : Writing) → length (items_from i ts w) ≡ length ts
  items_long i [] w = refl
  items_long i (t ∷ ts) w = (let l = items_long (i + 1) ts (next i t w) in omega (arith, l))

  pub next_long : (i : ℕ) (t : LlType) (w : Writing) → length (next i t w).body.types ≡ length w.body.types + 1 + length (new_of (turn_at i t))
  next_long i t w =
      let a : length ((w.body.types ++ t ∷ []) ++ new_of (turn_at i t)) ≡ length (w.body.types ++ t ∷ []) + length (new_of (turn_at i t)) = length-append (w.body.types ++ t ∷ []) (new_of (turn_at i t)) in
      let b : length (w.body.types ++ t ∷ []) ≡ length w.body.types + 1 = length-append w.body.types (t ∷ []) in
      omega (arith, a, b)

  pub new_long : (i : ℕ) (t : LlType) (ts : List LlType) → length (new_from i (t ∷ ts)) ≡ 1 + (length (new_of (turn_at i t)) + length (new_from (i + 1) ts))
  new_long i t ts = (let a = length-append (new_of (turn_at i t)) (new_from (i + 1) ts) in omega (arith, a))

  -- the operands of the items are variables that were made
  pub item_below : (i : ℕ) (t : LlType) (w : Writing) → IsBelow (length (next i t w).body.types) (operand_of (turn_at i t) (Var (length w.body.types)) (first i t w))
  item_below i t w =
      let b : length (w.body.types ++ t ∷ []) ≡ length w.body.types + 1 = length-append w.body.types (t ∷ []) in
      let a = next_long i t w in
      below_more (omega (arith, a, b)) (operand_of (turn_at i t) (Var (length w.body.types)) (first i t w)) (under (turn_at i t) (Var (length w.body.types)) (first i t w) (omega (arith, b)))

-- ---- the graph

-- tuples of as many items share all fields
pub shared_is : (layout : Layout) (m n : ℕ) → length (fields_at layout m) ≡ length (fields_at layout n) → shared_fields layout m n ≡ fields_at layout m
shared_is layout m n same = take_all (length (fields_at layout n)) (fields_at layout m) (omega (arith, same))

-- the fields from a place on are set
abbrev pub sets_of : ℕ → ℕ → ℕ → List COperand → List LlOp
sets_of n a i [] = []
sets_of n a i (x ∷ xs) = op.SetField n a i x ∷ sets_of n a (i + 1) xs

set_fields_is : (n a i : ℕ) (xs : List COperand) (body : Body) → set_fields n a i xs body ≡ record body { ops = body.ops ++ sets_of n a i xs }
set_fields_is n a i [] body = ap (λ ops. record body { ops = ops }) (sym (append-nil body.ops))
set_fields_is n a i (x ∷ xs) body = set_fields_is n a (i + 1) xs (with_op (op.SetField n a i x) body) ∙ ap (λ ops. record body { ops = ops }) (append_assoc body.ops (op.SetField n a i x ∷ []) (sets_of n a (i + 1) xs))

module _ (layout : Layout) (m n : ℕ) (made : Found) where
  -- before the first item
  abbrev pub start : Writing
  start = writing made (body_of (type.Ptr m ∷ type.Bool ∷ []))

  abbrev pub new_types : List LlType
  new_types = new_from layout m (fields_at layout n) 0 (shared_fields layout m n)

  -- the variable of the tuple
  abbrev pub made_at : ℕ
  made_at = length (type.Ptr m ∷ type.Bool ∷ new_types)

  abbrev pub items : List COperand
  items = items_from layout m (fields_at layout n) 0 (shared_fields layout m n) start

  abbrev pub reads : List LlOp
  reads = ops_from layout m (fields_at layout n) 0 (shared_fields layout m n) start

  abbrev pub all_ops : List LlOp
  all_ops = (reads ++ op.New made_at n n ∷ []) ++ sets_of n made_at 0 items

  abbrev pub the_graph : LlGraph
  the_graph = graph_with (codes "tuple_as") (0 ∷ []) (type.Ptr n) (type.Ptr m ∷ type.Bool ∷ (new_types ++ type.Ptr n ∷ [])) (cast_blocks made_at all_ops)

  pub graph_is : (small_graph layout (small.Cast m n) made).0 ≡ the_graph
  unfolding cast_items cast_graph
  graph_is =
      ap (λ (r : List COperand × Writing). (cast_made n r).0) (cast_is layout m (fields_at layout n) 0 (shared_fields layout m n) start)
      ∙ ap (λ body. cast_graph n made_at body) (set_fields_is n made_at 0 items (record { types = (type.Ptr m ∷ type.Bool ∷ new_types) ++ type.Ptr n ∷ []; ops = reads ++ op.New made_at n n ∷ [] }))
