-- The loops over arrays. None of them pays a step.
use Rattle.std.specs.Prelude.{ℕ, List, [], ◌∷◌, ◌++◌, length, true, false, pos, Some, None, codes}
use Rattle.csub_tree.specs.declared.tree.CBinary.TheVariants.{Add, Sub, Lt, Gt, Ne, Peq}
use Rattle.csub_tree.specs.declared.tree.COperand.{COperand}
use Rattle.csub_tree.specs.declared.tree.COperand.TheVariants.{Var}
use Rattle.ll_code.specs.declared.program.LlType.{LlType}
use Rattle.ll_code.specs.declared.program.LlType.TheVariants.{Signed, Bool, Void, Ptr}
use Rattle.ll_code.specs.declared.program.LlOp.{LlOp}
use Rattle.ll_code.specs.declared.program.LlOp.TheVariants.{Binary, GetItem, SetItem}
use Rattle.ll_code.specs.declared.program.LlExit.TheVariants.{Goto, Return}
use Rattle.ll_code.specs.declared.program.LlBlock.{LlBlock}
use Rattle.ll_code.specs.declared.program.LlGraph.{LlGraph}
use Rattle.ll_build.specs.Build.{word, flag, null, to, fork, block_of, graph_of, done, answer}
use Rattle.rtyper_layout.specs.declared.layout.Layout.{Layout}
use Rattle.rtyper_data.specs.declared.body.Body.{Body}
use Rattle.rtyper_data.specs.declared.found.Found.{Found}
use Rattle.rtyper_data.specs.Comparing.{equal}
use Rattle.rtyper_data.specs.Converting.{value_as}
use Rattle.rtyper_data.specs.Graphs.{body_of}
use Rattle.rtyper_data.specs.Seen.{with_op, Writing, writing, push}
use Rattle.rtyper_data.specs.Tuples.{variable_of}
use Rattle.list_shape.specs.declared.shape.Shape.{Shape}
use Rattle.list_shape.specs.Shapes.{item_of, length_read, array_read, new_by, gives}

-- ---- items from one array into another: the array and a place in each, and how many

unfoldable pub copy_types : ℕ → ℕ → List LlType
copy_types a b = Ptr a ∷ Signed ∷ Ptr b ∷ Signed ∷ Signed ∷ Bool ∷ Signed ∷ Signed ∷ Signed ∷ []

-- the item is set, and the places and the number go on
abbrev pub copy_set : ℕ → COperand × Writing → Writing
copy_set b item =
    push (Binary 8 Sub (Var 4) (word (pos 1)))
    (push (Binary 7 Add (Var 3) (word (pos 1)))
    (push (Binary 6 Add (Var 1) (word (pos 1)))
    (push (SetItem b 2 (Var 3) item.0) item.1)))

abbrev pub copy_as : Layout → ℕ → ℕ → Found → COperand × Body → Writing
copy_as layout a b found item = copy_set b (value_as layout item.0 (item_of layout a) (item_of layout b) (writing found item.1))

-- the item, as one of the other array
unfoldable pub copied : Layout → ℕ → ℕ → Writing → Writing
copied layout a b w = copy_as layout a b w.found (new_by (item_of layout a) (λ v. GetItem v a 0 (Var 1)) w.body)

unfoldable pub copy_start : LlBlock
copy_start = block_of (0 ∷ 1 ∷ 2 ∷ 3 ∷ 4 ∷ []) [] (Goto (to 1 (Var 0 ∷ Var 1 ∷ Var 2 ∷ Var 3 ∷ Var 4 ∷ [])))

unfoldable pub copy_asks : LlBlock
copy_asks = block_of (0 ∷ 1 ∷ 2 ∷ 3 ∷ 4 ∷ []) (Binary 5 Gt (Var 4) (word (pos 0)) ∷ []) (fork 5 2 (Var 0 ∷ Var 1 ∷ Var 2 ∷ Var 3 ∷ Var 4 ∷ []) 3 [])

unfoldable pub copy_turn : List LlOp → LlBlock
copy_turn ops = block_of (0 ∷ 1 ∷ 2 ∷ 3 ∷ 4 ∷ []) ops (Goto (to 1 (Var 0 ∷ Var 6 ∷ Var 2 ∷ Var 7 ∷ Var 8 ∷ [])))

unfoldable pub copy_graph : Body → LlGraph
copy_graph body = graph_of (codes "copy_items") (0 ∷ 1 ∷ 2 ∷ 3 ∷ 4 ∷ []) Void body.types (copy_start ∷ copy_asks ∷ copy_turn body.ops ∷ done ∷ [])

abbrev pub of_writing : (Body → LlGraph) → Writing → LlGraph × Found
of_writing graph w = (graph w.body, w.found)

unfoldable pub copy_items : Layout → ℕ → ℕ → Found → LlGraph × Found
copy_items layout a b found = of_writing copy_graph (copied layout a b (writing found (body_of (copy_types a b))))

-- ---- so many items of an array, from a place on, one place up, the last one first

unfoldable pub up_start : LlBlock
up_start = block_of (0 ∷ 1 ∷ 2 ∷ []) [] (Goto (to 1 (Var 0 ∷ Var 1 ∷ Var 2 ∷ [])))

unfoldable pub up_asks : LlBlock
up_asks = block_of (0 ∷ 1 ∷ 2 ∷ []) (Binary 3 Gt (Var 2) (word (pos 0)) ∷ []) (fork 3 2 (Var 0 ∷ Var 1 ∷ Var 2 ∷ []) 3 [])

unfoldable pub up_turn : ℕ → LlBlock
up_turn array = block_of (0 ∷ 1 ∷ 2 ∷ []) (
    Binary 4 Sub (Var 2) (word (pos 1))
    ∷ Binary 5 Add (Var 1) (Var 4)
    ∷ GetItem 6 array 0 (Var 5)
    ∷ Binary 7 Add (Var 5) (word (pos 1))
    ∷ SetItem array 0 (Var 7) (Var 6) ∷ []) (Goto (to 1 (Var 0 ∷ Var 1 ∷ Var 4 ∷ [])))

unfoldable pub move_up : Layout → ℕ → LlGraph
move_up layout array = graph_of (codes "move_up") (0 ∷ 1 ∷ 2 ∷ []) Void (Ptr array ∷ Signed ∷ Signed ∷ Bool ∷ Signed ∷ Signed ∷ item_of layout array ∷ Signed ∷ []) (
    up_start ∷ up_asks ∷ up_turn array ∷ done ∷ [])

-- ---- the items of a list in the opposite order

unfoldable pub reverse_start : Shape → LlBlock
reverse_start s = block_of (0 ∷ []) (
    length_read 7 s 0
    ∷ Binary 3 Sub (Var 7) (word (pos 1))
    ∷ array_read 1 s 0 ∷ []) (Goto (to 1 (Var 1 ∷ word (pos 0) ∷ Var 3 ∷ [])))

unfoldable pub reverse_asks : LlBlock
reverse_asks = block_of (1 ∷ 2 ∷ 3 ∷ []) (Binary 4 Lt (Var 2) (Var 3) ∷ []) (fork 4 2 (Var 1 ∷ Var 2 ∷ Var 3 ∷ []) 3 [])

unfoldable pub reverse_turn : ℕ → LlBlock
reverse_turn array = block_of (1 ∷ 2 ∷ 3 ∷ []) (
    GetItem 5 array 1 (Var 2)
    ∷ GetItem 6 array 1 (Var 3)
    ∷ SetItem array 1 (Var 2) (Var 6)
    ∷ SetItem array 1 (Var 3) (Var 5)
    ∷ Binary 7 Add (Var 2) (word (pos 1))
    ∷ Binary 8 Sub (Var 3) (word (pos 1)) ∷ []) (Goto (to 1 (Var 1 ∷ Var 7 ∷ Var 8 ∷ [])))

unfoldable pub reverse : Shape → LlGraph
reverse s = graph_of (codes "list_reverse") (0 ∷ []) Void (Ptr s.list ∷ Ptr s.array ∷ Signed ∷ Signed ∷ Bool ∷ s.item ∷ s.item ∷ Signed ∷ Signed ∷ []) (
    reverse_start s ∷ reverse_asks ∷ reverse_turn s.array ∷ done ∷ [])

-- ---- whether a value is one of the items

unfoldable pub contains_types : LlType → Shape → List LlType
contains_types kind s = kind ∷ Ptr s.list ∷ Ptr s.array ∷ Signed ∷ Signed ∷ Bool ∷ Signed ∷ []

abbrev pub same_as : Layout → LlType → Shape → Found → COperand × Body → COperand × Writing
same_as layout kind s found item = equal layout item.0 s.item (Var 0) kind (writing found (with_op (Binary 6 Add (Var 4) (word (pos 1))) item.1))

-- whether the item at the place is equal to the value
unfoldable pub same_item : Layout → LlType → Shape → Writing → COperand × Writing
same_item layout kind s w = same_as layout kind s w.found (new_by s.item (λ v. GetItem v s.array 2 (Var 4)) w.body)

unfoldable pub contains_start : Shape → LlBlock
contains_start s = block_of (0 ∷ 1 ∷ []) (length_read 3 s 1 ∷ array_read 2 s 1 ∷ []) (Goto (to 1 (Var 0 ∷ Var 2 ∷ Var 3 ∷ word (pos 0) ∷ [])))

unfoldable pub contains_asks : LlBlock
contains_asks = block_of (0 ∷ 2 ∷ 3 ∷ 4 ∷ []) (Binary 5 Lt (Var 4) (Var 3) ∷ []) (fork 5 2 (Var 0 ∷ Var 2 ∷ Var 3 ∷ Var 4 ∷ []) 4 [])

unfoldable pub contains_turn : ℕ → List LlOp → LlBlock
contains_turn same ops = block_of (0 ∷ 2 ∷ 3 ∷ 4 ∷ []) ops (fork same 3 [] 1 (Var 0 ∷ Var 2 ∷ Var 3 ∷ Var 6 ∷ []))

unfoldable pub contains_graph : Shape → ℕ × Body → LlGraph
contains_graph s same = graph_of (codes "list_contains") (0 ∷ 1 ∷ []) Bool same.1.types (
    contains_start s ∷ contains_asks ∷ contains_turn same.0 same.1.ops ∷ answer (flag true) ∷ answer (flag false) ∷ [])

abbrev pub contains_made : Shape → COperand × Writing → LlGraph × Found
contains_made s same = (contains_graph s (variable_of same.0 Bool same.1.body), same.1.found)

unfoldable pub contains : Layout → LlType → Shape → Found → LlGraph × Found
contains layout kind s found = contains_made s (same_item layout kind s (writing found (body_of (contains_types kind s))))

-- ---- the place that an index names: one below zero counts from the end; outside there is none

unfoldable pub place_start : Shape → LlBlock
place_start s = block_of (0 ∷ 1 ∷ []) (length_read 2 s 0 ∷ Binary 3 Lt (Var 1) (word (pos 0)) ∷ []) (fork 3 1 (Var 1 ∷ Var 2 ∷ []) 2 (Var 1 ∷ Var 2 ∷ []))

unfoldable pub place_from_end : LlBlock
place_from_end = block_of (1 ∷ 2 ∷ []) (Binary 4 Add (Var 1) (Var 2) ∷ []) (Goto (to 2 (Var 4 ∷ Var 2 ∷ [])))

unfoldable pub place_low : LlBlock
place_low = block_of (1 ∷ 2 ∷ []) (Binary 3 Lt (Var 1) (word (pos 0)) ∷ []) (fork 3 4 [] 3 (Var 1 ∷ Var 2 ∷ []))

unfoldable pub place_high : LlBlock
place_high = block_of (1 ∷ 2 ∷ []) (Binary 3 Lt (Var 1) (Var 2) ∷ []) (fork 3 5 (Var 1 ∷ []) 4 [])

unfoldable pub place_tests : Shape → List LlBlock
place_tests s = place_start s ∷ place_from_end ∷ place_low ∷ place_high ∷ []

unfoldable pub place_types : Shape → List LlType
place_types s = Ptr s.list ∷ Signed ∷ Signed ∷ Bool ∷ Signed ∷ []

unfoldable pub place : Shape → LlBlock → LlGraph
place s outside = graph_of (codes "list_place") (0 ∷ 1 ∷ []) Signed (place_types s) (place_tests s ++ outside ∷ gives 1 ∷ [])

-- ---- whether a list, or `None`, has items

unfoldable pub truth_asks : LlBlock
truth_asks = block_of (0 ∷ []) (Binary 1 Peq (Var 0) null ∷ []) (fork 1 1 [] 2 (Var 0 ∷ []))

unfoldable pub truth_given : Shape → LlBlock
truth_given s = block_of (0 ∷ []) (length_read 2 s 0 ∷ Binary 1 Ne (Var 2) (word (pos 0)) ∷ []) (Return (Some (Var 1)))

unfoldable pub truth : Shape → LlGraph
truth s = graph_of (codes "list_truth") (0 ∷ []) Bool (Ptr s.list ∷ Bool ∷ Signed ∷ []) (truth_asks ∷ answer (flag false) ∷ truth_given s ∷ [])
