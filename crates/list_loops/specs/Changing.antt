-- Lists that change in their place.
use Rattle.std.specs.Prelude.{ℕ, List, [], ◌∷◌, pos, Some, None, codes}
use Rattle.csub_tree.specs.declared.tree.CBinary.TheVariants.{Add, Sub, Shr, Lt, Le}
use Rattle.csub_tree.specs.declared.tree.COperand.TheVariants.{Var}
use Rattle.ll_code.specs.declared.program.LlType.{LlType}
use Rattle.ll_code.specs.declared.program.LlType.TheVariants.{Signed, Bool, Void, Ptr}
use Rattle.ll_code.specs.declared.program.LlOp.TheVariants.{Binary, GetField, SetField, SetItem, NewArray, Step, Call}
use Rattle.ll_code.specs.declared.program.LlExit.TheVariants.{Return}
use Rattle.ll_code.specs.declared.program.LlBlock.{LlBlock}
use Rattle.ll_code.specs.declared.program.LlGraph.{LlGraph}
use Rattle.ll_build.specs.Build.{word, fork, block_of, graph_of, fails, done}
use Rattle.rtyper_data.specs.declared.found.Found.{Found}
use Rattle.rtyper_data.specs.declared.small.Listed.TheVariants.{Copy, MoveUp, Room}
use Rattle.rtyper_data.specs.Converting.{default_operand}
use Rattle.list_shape.specs.declared.shape.Shape.{Shape}
use Rattle.list_shape.specs.Shapes.{length_read, array_read, length_set, number_of, taking}
use Rattle.list_loops.specs.Making.{three}

-- ---- the item at a place is taken out, and the later ones move down; the place behind the last holds nothing

unfoldable pub remove_types : Shape → List LlType
remove_types s = Ptr s.list ∷ Signed ∷ Signed ∷ Ptr s.array ∷ Signed ∷ Signed ∷ Signed ∷ []

unfoldable pub remove_done : ℕ → Shape → LlBlock
remove_done copies s = block_of (0 ∷ 1 ∷ []) (
    length_read 2 s 0
    ∷ array_read 3 s 0
    ∷ Binary 4 Sub (Var 2) (word (pos 1))
    ∷ Binary 5 Add (Var 1) (word (pos 1))
    ∷ Binary 6 Sub (Var 4) (Var 1)
    ∷ Call None copies (Var 3 ∷ Var 5 ∷ Var 3 ∷ Var 1 ∷ Var 6 ∷ [])
    ∷ SetItem s.array 3 (Var 4) (default_operand s.item)
    ∷ length_set s 0 (Var 4) ∷ []) (Return None)

unfoldable pub remove_graph : ℕ → Shape → LlGraph
remove_graph copies s = graph_of (codes "list_remove") (0 ∷ 1 ∷ []) Void (remove_types s) (remove_done copies s ∷ [])

unfoldable pub remove : Shape → Found → LlGraph × Found
remove s found = taking (number_of (Copy s.array s.array) found) (λ copies all. (remove_graph copies s, all))

-- ---- room for so many further items: a full array is made anew, with half the length and 3 as spare places

unfoldable pub room_types : Shape → List LlType
room_types s = Ptr s.list ∷ Signed ∷ Signed ∷ Ptr s.array ∷ Signed ∷ Signed ∷ Bool ∷ Signed ∷ Ptr s.array ∷ []

unfoldable pub room_asks : Shape → LlBlock
room_asks s = block_of (0 ∷ 1 ∷ []) (
    length_read 2 s 0
    ∷ array_read 3 s 0
    ∷ GetField 4 s.array 3 0
    ∷ Binary 5 Add (Var 2) (Var 1)
    ∷ Binary 6 Le (Var 5) (Var 4) ∷ []) (fork 6 1 [] 2 (Var 0 ∷ Var 2 ∷ Var 3 ∷ Var 5 ∷ []))

unfoldable pub room_grows : ℕ → Shape → LlBlock
room_grows copies s = block_of (0 ∷ 2 ∷ 3 ∷ 5 ∷ []) (
    Binary 7 Shr (Var 2) (word (pos 1))
    ∷ Binary 7 Add (Var 5) (Var 7)
    ∷ Binary 7 Add (Var 7) (word (pos 3))
    ∷ NewArray 8 s.array s.array (Var 7)
    ∷ SetField s.array 8 0 (Var 7)
    ∷ Call None copies (Var 3 ∷ word (pos 0) ∷ Var 8 ∷ word (pos 0) ∷ Var 2 ∷ [])
    ∷ SetField s.list 0 1 (Var 8) ∷ []) (Return None)

unfoldable pub room_graph : ℕ → Shape → LlGraph
room_graph copies s = graph_of (codes "list_room") (0 ∷ 1 ∷ []) Void (room_types s) (room_asks s ∷ done ∷ room_grows copies s ∷ [])

unfoldable pub room : Shape → Found → LlGraph × Found
room s found = taking (number_of (Copy s.array s.array) found) (λ copies all. (room_graph copies s, all))

-- ---- one item more, at the end

unfoldable pub append_types : Shape → List LlType
append_types s = Ptr s.list ∷ s.item ∷ Signed ∷ Ptr s.array ∷ Signed ∷ []

unfoldable pub append_done : ℕ → Shape → LlBlock
append_done makes_room s = block_of (0 ∷ 1 ∷ []) (
    Step (word (pos 1))
    ∷ Call None makes_room (Var 0 ∷ word (pos 1) ∷ [])
    ∷ length_read 2 s 0
    ∷ array_read 3 s 0
    ∷ SetItem s.array 3 (Var 2) (Var 1)
    ∷ Binary 4 Add (Var 2) (word (pos 1))
    ∷ length_set s 0 (Var 4) ∷ []) (Return None)

unfoldable pub append_graph : ℕ → Shape → LlGraph
append_graph makes_room s = graph_of (codes "list_append") (0 ∷ 1 ∷ []) Void (append_types s) (append_done makes_room s ∷ [])

unfoldable pub append : Shape → Found → LlGraph × Found
append s found = taking (number_of (Room s.list) found) (λ makes_room all. (append_graph makes_room s, all))

-- ---- one item more, before a place; one behind the end is the end, and one below zero fails

unfoldable pub insert_types : Shape → List LlType
insert_types s = Ptr s.list ∷ Signed ∷ s.item ∷ Signed ∷ Bool ∷ Ptr s.array ∷ Signed ∷ Signed ∷ []

unfoldable pub insert_low : LlBlock
insert_low = block_of (0 ∷ 1 ∷ 2 ∷ []) (Binary 4 Lt (Var 1) (word (pos 0)) ∷ []) (fork 4 3 [] 1 three)

unfoldable pub insert_room : ℕ → Shape → LlBlock
insert_room makes_room s = block_of (0 ∷ 1 ∷ 2 ∷ []) (
    Step (word (pos 1))
    ∷ Call None makes_room (Var 0 ∷ word (pos 1) ∷ [])
    ∷ length_read 3 s 0
    ∷ Binary 4 Lt (Var 1) (Var 3) ∷ []) (fork 4 2 (Var 0 ∷ Var 1 ∷ Var 2 ∷ Var 3 ∷ []) 2 (Var 0 ∷ Var 3 ∷ Var 2 ∷ Var 3 ∷ []))

unfoldable pub insert_done : ℕ → Shape → LlBlock
insert_done moves_up s = block_of (0 ∷ 1 ∷ 2 ∷ 3 ∷ []) (
    array_read 5 s 0
    ∷ Binary 6 Sub (Var 3) (Var 1)
    ∷ Call None moves_up (Var 5 ∷ Var 1 ∷ Var 6 ∷ [])
    ∷ SetItem s.array 5 (Var 1) (Var 2)
    ∷ Binary 7 Add (Var 3) (word (pos 1))
    ∷ length_set s 0 (Var 7) ∷ []) (Return None)

unfoldable pub insert_graph : ℕ → ℕ → Shape → LlGraph
insert_graph makes_room moves_up s = graph_of (codes "list_insert") (0 ∷ 1 ∷ 2 ∷ []) Void (insert_types s) (
    insert_low ∷ insert_room makes_room s ∷ insert_done moves_up s ∷ fails 5 ∷ [])

unfoldable pub insert : Shape → Found → LlGraph × Found
insert s found =
    taking (number_of (Room s.list) found) (λ makes_room next.
    taking (number_of (MoveUp s.array) next) (λ moves_up all. (insert_graph makes_room moves_up s, all)))

-- ---- the items of another list, at the end; it may be the same list, so its array is read last

unfoldable pub extend_types : Shape → Shape → List LlType
extend_types s by = Ptr s.list ∷ Ptr by.list ∷ Signed ∷ Signed ∷ Ptr s.array ∷ Ptr by.array ∷ Signed ∷ []

unfoldable pub extend_done : ℕ → ℕ → Shape → Shape → LlBlock
extend_done makes_room copies s by = block_of (0 ∷ 1 ∷ []) (
    length_read 2 by 1
    ∷ Step (Var 2)
    ∷ Call None makes_room (Var 0 ∷ Var 2 ∷ [])
    ∷ length_read 3 s 0
    ∷ array_read 4 s 0
    ∷ array_read 5 by 1
    ∷ Call None copies (Var 5 ∷ word (pos 0) ∷ Var 4 ∷ Var 3 ∷ Var 2 ∷ [])
    ∷ Binary 6 Add (Var 3) (Var 2)
    ∷ length_set s 0 (Var 6) ∷ []) (Return None)

unfoldable pub extend_graph : ℕ → ℕ → Shape → Shape → LlGraph
extend_graph makes_room copies s by = graph_of (codes "list_extend") (0 ∷ 1 ∷ []) Void (extend_types s by) (extend_done makes_room copies s by ∷ [])

unfoldable pub extend : Shape → Shape → Found → LlGraph × Found
extend s by found =
    taking (number_of (Room s.list) found) (λ makes_room next.
    taking (number_of (Copy by.array s.array) next) (λ copies all. (extend_graph makes_room copies s by, all)))
