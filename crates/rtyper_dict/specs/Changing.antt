-- Dicts that change.
use Rattle.std.specs.Prelude.{ℕ, if◌then◌else◌, List, [], ◌∷◌, Option, Some, None, pos, codes}
use Rattle.csub_tree.specs.declared.tree.COperand.{COperand}
use Rattle.csub_tree.specs.declared.tree.COperand.TheVariants.{Var}
use Rattle.ll_code.specs.declared.program.LlType.{LlType}
use Rattle.ll_code.specs.declared.program.LlType.TheVariants.{Signed, Bool, Void, Ptr}
use Rattle.ll_code.specs.declared.program.LlOp.{LlOp}
use Rattle.ll_code.specs.declared.program.LlOp.TheVariants.{SetItem, Step, Call}
use Rattle.ll_code.specs.declared.program.LlExit.TheVariants.{Goto, Return}
use Rattle.ll_code.specs.declared.program.LlBlock.{LlBlock}
use Rattle.ll_code.specs.declared.program.LlGraph.{LlGraph}
use Rattle.ll_build.specs.Build.{word, to, fork, block_of, graph_of}
use Rattle.rtyper_data.specs.declared.found.Found.{Found}
use Rattle.rtyper_data.specs.declared.small.Keyed.TheVariants.{Find, Enter, Index, Grow, Add}
use Rattle.rtyper_data.specs.declared.small.Listed.TheVariants.{Copy}
use Rattle.rtyper_data.specs.Converting.{default_operand}
use Rattle.list_shape.specs.Shapes.{number_of, taking}
use Rattle.rtyper_dict.specs.declared.parts.DictShape.{DictShape}
use Rattle.rtyper_dict.specs.Parts.{first_item, second_item, count_read, count_set, places_read, first_read, second_read, length_read, add, sub, less, keyed_number, number_if, and_call}

-- ---- an entry behind the last, where a place is free: 0 the dict, 1 the key, 2 the value, 3 the number of entries, 4 and 5 the arrays, 6 the
-- length of the second, 7 the number of places, 8 the length of the index, 9 where the entry stands in the second array, 10 the new number

unfoldable pub add_types : DictShape → List LlType
add_types d = Ptr d.dict ∷ d.stored_key ∷ d.stored_value ∷ Signed ∷ Ptr d.first ∷ Ptr d.second ∷ Signed ∷ Signed ∷ Signed ∷ Signed ∷ Signed ∷ []

-- what stands in the first array, and what in the second
abbrev pub in_first : DictShape → COperand
in_first d = if d.keys_last then Var 2 else Var 1

abbrev pub in_second : DictShape → COperand
in_second d = if d.keys_last then Var 1 else Var 2

unfoldable pub add_ops : DictShape → List LlOp
add_ops d =
    count_read 3 d 0
    ∷ first_read 4 d 0
    ∷ second_read 5 d 0
    ∷ length_read 6 d 5
    ∷ places_read 7 d 0
    ∷ sub 8 6 (Var 7)
    ∷ add 9 8 (Var 3)
    ∷ SetItem d.first 4 (Var 3) (in_first d)
    ∷ SetItem d.second 5 (Var 9) (in_second d)
    ∷ add 10 3 (word (pos 1))
    ∷ count_set d 0 (Var 10) ∷ []

-- it comes into the index, where there is one
unfoldable pub add_done : Option ℕ → DictShape → LlBlock
add_done enters d = block_of (0 ∷ 1 ∷ 2 ∷ []) (and_call enters (Var 0 ∷ Var 3 ∷ []) (add_ops d)) (Return None)

unfoldable pub add_graph : Option ℕ → DictShape → LlGraph
add_graph enters d = graph_of (codes "dict_add") (0 ∷ 1 ∷ 2 ∷ []) Void (add_types d) (add_done enters d ∷ [])

unfoldable pub add_entry : DictShape → Found → LlGraph × Found
add_entry d found = taking (number_if d.is_indexed (Enter d.dict) found) (λ enters all. (add_graph enters d, all))

-- ---- the value of a key: 0 the dict, 1 the key, 2 the value, 3 the place of the entry, 4 a test, 5 the first array, 6 the second, 7 its length, 8
-- the number of places, 9 the length of the index, 10 where the value stands

unfoldable pub store_types : DictShape → List LlType
store_types d = Ptr d.dict ∷ d.stored_key ∷ d.stored_value ∷ Signed ∷ Bool ∷ Ptr d.first ∷ Ptr d.second ∷ Signed ∷ Signed ∷ Signed ∷ Signed ∷ []

unfoldable pub store_asks : ℕ → LlBlock
store_asks finds = block_of (0 ∷ 1 ∷ 2 ∷ []) (Call (Some 3) finds (Var 0 ∷ Var 1 ∷ []) ∷ less 4 3 (word (pos 0)) ∷ [])
    (fork 4 1 (Var 0 ∷ Var 1 ∷ Var 2 ∷ []) 2 (Var 0 ∷ Var 2 ∷ Var 3 ∷ []))

-- a key that is not there is paid
unfoldable pub store_adds : ℕ → ℕ → LlBlock
store_adds grows adds = block_of (0 ∷ 1 ∷ 2 ∷ []) (Step (word (pos 1)) ∷ Call None grows (Var 0 ∷ []) ∷ Call None adds (Var 0 ∷ Var 1 ∷ Var 2 ∷ []) ∷ []) (Return None)

abbrev pub store_in_first : DictShape → List LlOp
store_in_first d = first_read 5 d 0 ∷ SetItem d.first 5 (Var 3) (Var 2) ∷ []

abbrev pub store_in_second : DictShape → List LlOp
store_in_second d =
    second_read 6 d 0
    ∷ length_read 7 d 6
    ∷ places_read 8 d 0
    ∷ sub 9 7 (Var 8)
    ∷ add 10 9 (Var 3)
    ∷ SetItem d.second 6 (Var 10) (Var 2) ∷ []

unfoldable pub store_ops : DictShape → List LlOp
store_ops d = if d.keys_last then store_in_first d else store_in_second d

unfoldable pub store_puts : DictShape → LlBlock
store_puts d = block_of (0 ∷ 2 ∷ 3 ∷ []) (store_ops d) (Return None)

unfoldable pub store_blocks : ℕ → ℕ → ℕ → DictShape → List LlBlock
store_blocks finds grows adds d = store_asks finds ∷ store_adds grows adds ∷ store_puts d ∷ []

unfoldable pub store_graph : ℕ → ℕ → ℕ → DictShape → LlGraph
store_graph finds grows adds d = graph_of (codes "dict_store") (0 ∷ 1 ∷ 2 ∷ []) Void (store_types d) (store_blocks finds grows adds d)

-- a key that is there keeps its place
unfoldable pub store : DictShape → Found → LlGraph × Found
store d found =
    taking (keyed_number (Find d.dict) found) (λ finds next.
    taking (keyed_number (Grow d.dict) next) (λ grows last.
    taking (keyed_number (Add d.dict) last) (λ adds all. (store_graph finds grows adds d, all))))

-- ---- an entry is taken out: 0 the dict, 1 its place, 2 the number of entries, 3 the last place, 4 the place behind, 5 how many stand behind it,
-- 6 and 7 the arrays, 8 the length of the second, 9 the number of places, 10 the length of the index, 11 to 13 the places in the second array

unfoldable pub remove_types : DictShape → List LlType
remove_types d = Ptr d.dict ∷ Signed ∷ Signed ∷ Signed ∷ Signed ∷ Signed ∷ Ptr d.first ∷ Ptr d.second ∷ Signed ∷ Signed ∷ Signed ∷ Signed ∷ Signed ∷ Signed ∷ []

-- the later entries move down
unfoldable pub remove_moves : ℕ → DictShape → LlBlock
remove_moves copies d = block_of (0 ∷ 1 ∷ []) (
    count_read 2 d 0
    ∷ sub 3 2 (word (pos 1))
    ∷ add 4 1 (word (pos 1))
    ∷ sub 5 3 (Var 1)
    ∷ first_read 6 d 0
    ∷ Call None copies (Var 6 ∷ Var 4 ∷ Var 6 ∷ Var 1 ∷ Var 5 ∷ [])
    ∷ SetItem d.first 6 (Var 3) (default_operand (first_item d)) ∷ []) (Goto (to 1 (Var 0 ∷ Var 1 ∷ Var 3 ∷ Var 5 ∷ [])))

unfoldable pub remove_ops : ℕ → DictShape → List LlOp
remove_ops copies d =
    second_read 7 d 0
    ∷ length_read 8 d 7
    ∷ places_read 9 d 0
    ∷ sub 10 8 (Var 9)
    ∷ add 11 10 (Var 1)
    ∷ add 12 11 (word (pos 1))
    ∷ add 13 10 (Var 3)
    ∷ Call None copies (Var 7 ∷ Var 12 ∷ Var 7 ∷ Var 11 ∷ Var 5 ∷ [])
    ∷ SetItem d.second 7 (Var 13) (default_operand (second_item d))
    ∷ count_set d 0 (Var 3) ∷ []

-- the index is made anew, where there is one
unfoldable pub remove_ends : ℕ → Option ℕ → DictShape → LlBlock
remove_ends copies indexes d = block_of (0 ∷ 1 ∷ 3 ∷ 5 ∷ []) (and_call indexes (Var 0 ∷ []) (remove_ops copies d)) (Return None)

unfoldable pub remove_graph : ℕ → ℕ → Option ℕ → DictShape → LlGraph
remove_graph one two indexes d = graph_of (codes "dict_remove") (0 ∷ 1 ∷ []) Void (remove_types d) (remove_moves one d ∷ remove_ends two indexes d ∷ [])

unfoldable pub remove : DictShape → Found → LlGraph × Found
remove d found =
    taking (number_of (Copy d.first d.first) found) (λ one next.
    taking (number_of (Copy d.second d.second) next) (λ two last.
    taking (number_if d.is_indexed (Index d.dict) last) (λ indexes all. (remove_graph one two indexes d, all))))
