-- Room in a dict: where no place is free, both arrays are made anew from the entries. No step is paid meanwhile.
use Rattle.std.specs.Prelude.{ℕ, ℤ, Bool as Truth, true, false, not, List, [], ◌∷◌, Option, Some, None, pos, codes}
use Rattle.csub_tree.specs.declared.tree.COperand.TheVariants.{Var}
use Rattle.ll_code.specs.declared.program.LlType.{LlType}
use Rattle.ll_code.specs.declared.program.LlType.TheVariants.{Signed, Bool, Void, Ptr}
use Rattle.ll_code.specs.declared.program.LlOp.{LlOp}
use Rattle.ll_code.specs.declared.program.LlOp.TheVariants.{Set, SetField, New, NewArray, Call}
use Rattle.ll_code.specs.declared.program.LlExit.TheVariants.{Goto, Return}
use Rattle.ll_code.specs.declared.program.LlBlock.{LlBlock}
use Rattle.ll_code.specs.declared.program.LlGraph.{LlGraph}
use Rattle.ll_build.specs.declared.needs.Helper.TheVariants.{WordMin}
use Rattle.ll_build.specs.Build.{word, null, to, fork, block_of, graph_of, done}
use Rattle.rtyper_data.specs.declared.found.Found.{Found}
use Rattle.rtyper_data.specs.declared.small.Keyed.TheVariants.{Size, Fill, Index}
use Rattle.rtyper_data.specs.declared.small.Listed.TheVariants.{Copy}
use Rattle.rtyper_data.specs.Finding.{helper_number}
use Rattle.list_shape.specs.Shapes.{number_of, taking}
use Rattle.rtyper_dict.specs.declared.parts.DictShape.{DictShape}
use Rattle.rtyper_dict.specs.Parts.{first_item, second_item, count_read, places_read, first_read, second_read, length_read, add, sub, less, same, number_if, and_call}

-- ---- a dict without entries and arrays

unfoldable pub make_given : DictShape → LlBlock
make_given d = block_of [] (
    New 0 d.dict d.dict
    ∷ SetField d.dict 0 0 (word (pos 0))
    ∷ SetField d.dict 0 1 (word (pos 0))
    ∷ SetField d.dict 0 2 null
    ∷ SetField d.dict 0 3 null ∷ []) (Return (Some (Var 0)))

unfoldable pub make : DictShape → LlGraph
make d = graph_of (codes "dict_make") [] (Ptr d.dict) (Ptr d.dict ∷ []) (make_given d ∷ [])

-- ---- a place for one entry more: 0 the dict, 1 the number of entries, 2 that of places, 3 a test, 4 and 14 the number of further places, 5 the
-- new number, 6 the length of the new index, 7 that of the new second array, 8 and 9 the new arrays, 10 and 11 the old ones, 12 the length
-- of the old second one, 13 that of the old index, and where the free places begin

-- the greatest number of places, and the most that come at once
abbrev pub most_places : ℤ
most_places = pos 4611686018427387903

abbrev pub most_more : ℤ
most_more = pos 1152921504606846976

unfoldable pub grow_types : DictShape → List LlType
grow_types d =
    Ptr d.dict ∷ Signed ∷ Signed ∷ Bool ∷ Signed ∷ Signed ∷ Signed ∷ Signed ∷ Ptr d.first ∷ Ptr d.second ∷ Ptr d.first ∷ Ptr d.second
    ∷ Signed ∷ Signed ∷ Signed ∷ []

unfoldable pub grow_asks : DictShape → LlBlock
grow_asks d = block_of (0 ∷ []) (count_read 1 d 0 ∷ places_read 2 d 0 ∷ less 3 1 (Var 2) ∷ []) (fork 3 1 [] 2 (Var 0 ∷ Var 2 ∷ []))

-- the length of the new index, by the graph for it, where there is an index
abbrev pub index_length : Option ℕ → LlOp
index_length None = Set 6 (word (pos 0))
index_length (Some sizes) = Call (Some 6) sizes (Var 5 ∷ [])

-- twice as many places and 4 more, as far as that goes
unfoldable pub grow_counts : ℕ → Option ℕ → LlBlock
grow_counts least sizes = block_of (0 ∷ 2 ∷ []) (
    Call (Some 4) least (Var 2 ∷ word most_more ∷ [])
    ∷ add 4 4 (word (pos 4))
    ∷ add 14 4 (Var 2)
    ∷ Call (Some 5) least (Var 14 ∷ word most_places ∷ [])
    ∷ index_length sizes ∷ []) (Goto (to 3 (Var 0 ∷ Var 2 ∷ Var 5 ∷ Var 6 ∷ [])))

unfoldable pub grow_makes : DictShape → LlBlock
grow_makes d = block_of (0 ∷ 2 ∷ 5 ∷ 6 ∷ []) (
    add 7 6 (Var 5)
    ∷ NewArray 8 d.first d.first (Var 5)
    ∷ SetField d.first 8 0 (Var 5)
    ∷ NewArray 9 d.second d.second (Var 7)
    ∷ SetField d.second 9 0 (Var 7)
    ∷ same 3 2 (word (pos 0)) ∷ []) (fork 3 5 (Var 0 ∷ Var 2 ∷ Var 5 ∷ Var 6 ∷ Var 8 ∷ Var 9 ∷ []) 4 (Var 0 ∷ Var 2 ∷ Var 5 ∷ Var 6 ∷ Var 8 ∷ Var 9 ∷ []))

unfoldable pub grow_copies : ℕ → ℕ → DictShape → LlBlock
grow_copies one two d = block_of (0 ∷ 2 ∷ 5 ∷ 6 ∷ 8 ∷ 9 ∷ []) (
    first_read 10 d 0
    ∷ second_read 11 d 0
    ∷ length_read 12 d 11
    ∷ sub 13 12 (Var 2)
    ∷ Call None one (Var 10 ∷ word (pos 0) ∷ Var 8 ∷ word (pos 0) ∷ Var 2 ∷ [])
    ∷ Call None two (Var 11 ∷ Var 13 ∷ Var 9 ∷ Var 6 ∷ Var 2 ∷ []) ∷ []) (Goto (to 5 (Var 0 ∷ Var 2 ∷ Var 5 ∷ Var 6 ∷ Var 8 ∷ Var 9 ∷ [])))

unfoldable pub grow_sets : DictShape → List LlOp
grow_sets d = add 13 6 (Var 2) ∷ SetField d.dict 0 1 (Var 5) ∷ SetField d.dict 0 2 (Var 8) ∷ SetField d.dict 0 3 (Var 9) ∷ []

-- the new arrays take the places of the old ones, hold nothing behind the entries, and get an index
unfoldable pub grow_ends : Option ℕ → Option ℕ → Option ℕ → DictShape → LlBlock
grow_ends one two indexes d = block_of (0 ∷ 2 ∷ 5 ∷ 6 ∷ 8 ∷ 9 ∷ [])
    (and_call indexes (Var 0 ∷ []) (and_call two (Var 9 ∷ Var 13 ∷ []) (and_call one (Var 8 ∷ Var 2 ∷ []) (grow_sets d)))) (Return None)

-- ---- and what they ask for

abbrev pub is_pointer : LlType → Truth
is_pointer (Ptr n) = true
is_pointer other = false

-- the items of a new array that are references hold nothing from the start
unfoldable pub fill_number : LlType → ℕ → Found → Option ℕ × Found
fill_number item array found = number_if (not (is_pointer item)) (Fill array) found

unfoldable pub counted : DictShape → Found → LlBlock × Found
counted d found =
    taking (helper_number WordMin found) (λ least next.
    taking (number_if d.is_indexed Size next) (λ sizes all. (grow_counts least sizes, all)))

unfoldable pub copied : DictShape → Found → LlBlock × Found
copied d found =
    taking (number_of (Copy d.first d.first) found) (λ one next.
    taking (number_of (Copy d.second d.second) next) (λ two all. (grow_copies one two d, all)))

unfoldable pub ended : DictShape → Found → LlBlock × Found
ended d found =
    taking (fill_number (first_item d) d.first found) (λ one next.
    taking (fill_number (second_item d) d.second next) (λ two last.
    taking (number_if d.is_indexed (Index d.dict) last) (λ indexes all. (grow_ends one two indexes d, all))))

unfoldable pub grow_blocks : DictShape → Found → List LlBlock × Found
grow_blocks d found =
    taking (counted d found) (λ counts next.
    taking (copied d next) (λ copies last.
    taking (ended d last) (λ ends all. (grow_asks d ∷ done ∷ counts ∷ grow_makes d ∷ copies ∷ ends ∷ [], all))))

abbrev pub grow_graph : DictShape → List LlBlock → LlGraph
grow_graph d blocks = graph_of (codes "dict_grow") (0 ∷ []) Void (grow_types d) blocks

unfoldable pub grow : DictShape → Found → LlGraph × Found
grow d found = taking (grow_blocks d found) (λ blocks all. (grow_graph d blocks, all))
