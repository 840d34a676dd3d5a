-- What is written for whether two tuples are equal, item by item, and the graph of that.
use Rattle.std.proofs.Common.{◌≡◌, ℕ, ◌+◌, List, [], ◌∷◌, ◌++◌, length, Some, pos, sym, ap, ◌∙◌, arith, append_assoc, length-append}
use Rattle.std.specs.Prelude.{codes}
use Rattle.std.proofs.lemmas.List.{append-nil}
use Rattle.csub_tree.specs.declared.tree.CBinary.TheVariants as binary
use Rattle.csub_tree.specs.declared.tree.CUnary.TheVariants as unary
use Rattle.csub_tree.specs.declared.tree.COperand.{COperand}
use Rattle.csub_tree.specs.declared.tree.COperand.TheVariants.{Var}
use Rattle.ll_code.specs.declared.program.LlType.{LlType}
use Rattle.ll_code.specs.declared.program.LlType.TheVariants as type
use Rattle.ll_code.specs.declared.program.LlExit.TheVariants as exit
use Rattle.ll_code.specs.declared.program.LlGraph.{LlGraph}
use Rattle.ll_code.specs.declared.program.LlOp.{LlOp}
use Rattle.ll_code.specs.declared.program.LlOp.TheVariants as op
use Rattle.rtyper_layout.specs.declared.layout.Layout.{Layout}
use Rattle.rtyper_data.specs.declared.found.Found.{Found}
use Rattle.rtyper_data.specs.declared.small.Small.TheVariants as small
use Rattle.rtyper_data.specs.Building.{block_with, graph_with}
use Rattle.rtyper_data.specs.Comparing.{zero_word, field_of}
use Rattle.rtyper_data.specs.Graphs.{fields_at, field_at, body_of, and_equal, items_equal, equal_from, equal_items, equality_graph, equality_made, shared_fields}
use Rattle.rtyper_data.specs.Numbers.{word}
use Rattle.rtyper_data.specs.Seen.{Writing, writing}
use Rattle.rtyper_data.specs.Smalls.{small_graph}
use Rattle.lower_laws.specs.Asked.{all_asked}
use Rattle.conversion_laws.specs.Asked.{equal_asks}
use Rattle.conversion_laws.proofs.Testing.{Test, test_of, ops_of, new_of, operand_of, found_of, left_by, equal_is, asks_are}

module _ (layout : Layout) (m n : ℕ) (those : List LlType) where
  abbrev pub test_at : ℕ → LlType → Test
  test_at i s = test_of layout s (field_at those i)

  -- both items are read
  abbrev pub first : ℕ → LlType → Writing → Writing
  first i s w = writing w.found (record { types = w.body.types ++ s ∷ []; ops = w.body.ops ++ op.GetField (length w.body.types) m 0 i ∷ [] })

  abbrev pub second : ℕ → LlType → Writing → Writing
  second i s w = writing w.found (record { types = (w.body.types ++ s ∷ []) ++ field_at those i ∷ []; ops = (w.body.ops ++ op.GetField (length w.body.types) m 0 i ∷ []) ++ op.GetField (length (w.body.types ++ s ∷ [])) n 1 i ∷ [] })

  abbrev pub x_at : Writing → COperand
  x_at w = Var (length w.body.types)

  abbrev pub y_at : LlType → Writing → COperand
  y_at s w = Var (length (w.body.types ++ s ∷ []))

  -- they are compared
  abbrev pub tested : ℕ → LlType → Writing → Writing
  tested i s w = left_by (test_at i s) (x_at w) (y_at s w) (second i s w)

  abbrev pub same_at : ℕ → LlType → Writing → COperand
  same_at i s w = operand_of (test_at i s) (second i s w)

  abbrev pub word_at : ℕ → LlType → Writing → ℕ
  word_at i s w = length (tested i s w).body.types

  abbrev pub all_at : ℕ → LlType → Writing → ℕ
  all_at i s w = length ((tested i s w).body.types ++ type.Signed ∷ [])

  abbrev pub last_ops : ℕ → LlType → COperand → Writing → List LlOp
  last_ops i s all w = op.Unary (word_at i s w) unary.B2S (same_at i s w) ∷ op.Binary (all_at i s w) binary.And all (Var (word_at i s w)) ∷ []

  abbrev pub round_ops : ℕ → LlType → COperand → Writing → List LlOp
  round_ops i s all w = op.GetField (length w.body.types) m 0 i ∷ op.GetField (length (w.body.types ++ s ∷ [])) n 1 i ∷ (ops_of (test_at i s) (x_at w) (y_at s w) (second i s w) ++ last_ops i s all w)

  abbrev pub round_new : ℕ → LlType → List LlType
  round_new i s = s ∷ field_at those i ∷ (new_of (test_at i s) ++ type.Signed ∷ type.Signed ∷ [])

  abbrev pub round : ℕ → LlType → COperand → Writing → Writing
  round i s all w = writing (found_of (test_at i s) (second i s w)) (record { types = w.body.types ++ round_new i s; ops = w.body.ops ++ round_ops i s all w })

  five : {A : Type 0} (ws : List A) (a b : A) (xs : List A) (c d : A) → ((((ws ++ a ∷ []) ++ b ∷ []) ++ xs) ++ c ∷ []) ++ d ∷ [] ≡ ws ++ a ∷ b ∷ (xs ++ c ∷ d ∷ [])
  five ws a b xs c d =
      append_assoc (((ws ++ a ∷ []) ++ b ∷ []) ++ xs) (c ∷ []) (d ∷ []) ∙ append_assoc ((ws ++ a ∷ []) ++ b ∷ []) xs (c ∷ d ∷ []) ∙ append_assoc (ws ++ a ∷ []) (b ∷ []) (xs ++ c ∷ d ∷ []) ∙ append_assoc ws (a ∷ []) (b ∷ (xs ++ c ∷ d ∷ []))

  round_is : (i : ℕ) (s : LlType) (all : COperand) (w : Writing) → and_equal all (items_equal layout n i (field_at those i) w.found s (field_of m 0 i s w.body)) ≡ (Var (all_at i s w), round i s all w)
  round_is i s all w =
      ap (and_equal all) (equal_is layout s (field_at those i) (x_at w) (y_at s w) (second i s w))
      ∙ ap (λ ts. (Var (all_at i s w), writing (tested i s w).found (record { types = ts; ops = ((tested i s w).body.ops ++ op.Unary (word_at i s w) unary.B2S (same_at i s w) ∷ []) ++ op.Binary (all_at i s w) binary.And all (Var (word_at i s w)) ∷ [] }))) (five w.body.types s (field_at those i) (new_of (test_at i s)) type.Signed type.Signed)
      ∙ ap (λ os. (Var (all_at i s w), writing (tested i s w).found (record { types = w.body.types ++ round_new i s; ops = os }))) (five w.body.ops (op.GetField (length w.body.types) m 0 i) (op.GetField (length (w.body.types ++ s ∷ [])) n 1 i) (ops_of (test_at i s) (x_at w) (y_at s w) (second i s w)) (op.Unary (word_at i s w) unary.B2S (same_at i s w)) (op.Binary (all_at i s w) binary.And all (Var (word_at i s w))))

  -- all rounds
  abbrev pub ops_from : ℕ → List LlType → COperand → Writing → List LlOp
  ops_from i [] all w = []
  ops_from i (s ∷ ss) all w = round_ops i s all w ++ ops_from (i + 1) ss (Var (all_at i s w)) (round i s all w)

  abbrev pub new_from : ℕ → List LlType → List LlType
  new_from i [] = []
  new_from i (s ∷ ss) = round_new i s ++ new_from (i + 1) ss

  abbrev pub last_from : ℕ → List LlType → COperand → Writing → COperand
  last_from i [] all w = all
  last_from i (s ∷ ss) all w = last_from (i + 1) ss (Var (all_at i s w)) (round i s all w)

  abbrev pub found_from : ℕ → List LlType → COperand → Writing → Found
  found_from i [] all w = w.found
  found_from i (s ∷ ss) all w = found_from (i + 1) ss (Var (all_at i s w)) (round i s all w)

  pub rounds_are : (i : ℕ) (ss : List LlType) (all : COperand) (w : Writing) → equal_from layout m n those i ss (all, w) ≡ (last_from i ss all w, writing (found_from i ss all w) (record { types = w.body.types ++ new_from i ss; ops = w.body.ops ++ ops_from i ss all w }))
  rounds_are i [] all w = ap (λ ts. (all, writing w.found (record { types = ts; ops = w.body.ops }))) (sym (append-nil w.body.types)) ∙ ap (λ os. (all, writing w.found (record { types = w.body.types ++ []; ops = os }))) (sym (append-nil w.body.ops))
  rounds_are i (s ∷ ss) all w =
      let w2 : Writing = round i s all w in
      let next : COperand = Var (all_at i s w) in
      ap (equal_from layout m n those (i + 1) ss) (round_is i s all w) ∙ rounds_are (i + 1) ss next w2
      ∙ ap (λ ts. (last_from (i + 1) ss next w2, writing (found_from (i + 1) ss next w2) (record { types = ts; ops = w2.body.ops ++ ops_from (i + 1) ss next w2 }))) (append_assoc w.body.types (round_new i s) (new_from (i + 1) ss))
      ∙ ap (λ os. (last_from (i + 1) ss next w2, writing (found_from (i + 1) ss next w2) (record { types = w.body.types ++ new_from i (s ∷ ss); ops = os }))) (append_assoc w.body.ops (round_ops i s all w) (ops_from (i + 1) ss next w2))

  pub round_asked : (i : ℕ) (s : LlType) (all : COperand) (w : Writing) → (round i s all w).found ≡ all_asked (equal_asks layout s (field_at those i)) w.found
  round_asked i s all w = asks_are layout s (field_at those i) (second i s w)

  -- ---- numbers

  pub second_long : (i : ℕ) (s : LlType) (w : Writing) → length (second i s w).body.types ≡ length w.body.types + 2
  second_long i s w =
      let a : length ((w.body.types ++ s ∷ []) ++ field_at those i ∷ []) ≡ length (w.body.types ++ s ∷ []) + 1 = length-append (w.body.types ++ s ∷ []) (field_at those i ∷ []) in
      let b : length (w.body.types ++ s ∷ []) ≡ length w.body.types + 1 = length-append w.body.types (s ∷ []) in
      omega (arith, a, b)

  pub word_long : (i : ℕ) (s : LlType) (w : Writing) → word_at i s w ≡ length (second i s w).body.types + length (new_of (test_at i s))
  word_long i s w = length-append (second i s w).body.types (new_of (test_at i s))

  pub all_long : (i : ℕ) (s : LlType) (w : Writing) → all_at i s w ≡ word_at i s w + 1
  all_long i s w = length-append (tested i s w).body.types (type.Signed ∷ [])

  pub round_long : (i : ℕ) (s : LlType) (all : COperand) (w : Writing) → length (round i s all w).body.types ≡ all_at i s w + 1
  round_long i s all w =
      let a : length (w.body.types ++ round_new i s) ≡ length w.body.types + length (round_new i s) = length-append w.body.types (round_new i s) in
      let b : length (new_of (test_at i s) ++ type.Signed ∷ type.Signed ∷ []) ≡ length (new_of (test_at i s)) + 2 = length-append (new_of (test_at i s)) (type.Signed ∷ type.Signed ∷ []) in
      let c = second_long i s w in
      let d = word_long i s w in
      let f = all_long i s w in
      omega (arith, a, b, c, d, f)

  pub rounds_long : (i : ℕ) (s : LlType) (ss : List LlType) (all : COperand) (w : Writing) → length w.body.types + length (new_from i (s ∷ ss)) ≡ length (round i s all w).body.types + length (new_from (i + 1) ss)
  rounds_long i s ss all w =
      let a : length (w.body.types ++ round_new i s) ≡ length w.body.types + length (round_new i s) = length-append w.body.types (round_new i s) in
      let b : length (round_new i s ++ new_from (i + 1) ss) ≡ length (round_new i s) + length (new_from (i + 1) ss) = length-append (round_new i s) (new_from (i + 1) ss) in
      omega (arith, a, b)

-- ---- the graph

module _ (layout : Layout) (m n : ℕ) (made : Found) where
  abbrev pub start : Writing
  start = writing made (body_of (type.Ptr m ∷ type.Ptr n ∷ []))

  abbrev pub new_types : List LlType
  new_types = new_from layout m n (fields_at layout n) 0 (shared_fields layout m n)

  abbrev pub reads : List LlOp
  reads = ops_from layout m n (fields_at layout n) 0 (shared_fields layout m n) (word (pos 1)) start

  abbrev pub last : COperand
  last = last_from layout m n (fields_at layout n) 0 (shared_fields layout m n) (word (pos 1)) start

  abbrev pub answer_at : ℕ
  answer_at = length (type.Ptr m ∷ type.Ptr n ∷ new_types)

  abbrev pub all_ops : List LlOp
  all_ops = reads ++ op.Binary answer_at binary.Ne last zero_word ∷ []

  abbrev pub the_graph : LlGraph
  the_graph = graph_with (codes "tuple_equal") (0 ∷ 1 ∷ []) type.Bool (type.Ptr m ∷ type.Ptr n ∷ (new_types ++ type.Bool ∷ [])) (block_with (0 ∷ 1 ∷ []) all_ops (exit.Return (Some (Var answer_at))) ∷ [])

  pub graph_is : (small_graph layout (small.Equal m n) made).0 ≡ the_graph
  unfolding equal_items equality_graph
  graph_is = ap (λ (r : COperand × Writing). (equality_made r).0) (rounds_are layout m n (fields_at layout n) 0 (shared_fields layout m n) (word (pos 1)) start)
