-- The index of a dict. None of this pays a step.
use Rattle.std.specs.Prelude.{ℕ, ℤ, List, [], ◌∷◌, Some, None, pos, codes}
use Rattle.csub_tree.specs.declared.tree.COperand.{COperand}
use Rattle.csub_tree.specs.declared.tree.COperand.TheVariants.{Var}
use Rattle.ll_code.specs.declared.program.LlType.{LlType}
use Rattle.ll_code.specs.declared.program.LlType.TheVariants.{Signed, Bool, Void, Ptr}
use Rattle.ll_code.specs.declared.program.LlOp.TheVariants.{GetField, GetItem, SetItem, Call}
use Rattle.ll_code.specs.declared.program.LlExit.TheVariants.{Goto, Return}
use Rattle.ll_code.specs.declared.program.LlBlock.{LlBlock}
use Rattle.ll_code.specs.declared.program.LlGraph.{LlGraph}
use Rattle.ll_build.specs.Build.{word, to, fork, block_of, graph_of, done}
use Rattle.rtyper_data.specs.declared.found.Found.{Found}
use Rattle.rtyper_data.specs.declared.small.Keyed.TheVariants.{Hash, Enter}
use Rattle.rtyper_data.specs.Converting.{default_operand}
use Rattle.list_shape.specs.Shapes.{taking, gives}
use Rattle.rtyper_dict.specs.declared.parts.DictShape.{DictShape}
use Rattle.rtyper_dict.specs.Parts.{count_read, places_read, second_read, length_read, first_type, first_of_keys, key_of, key_at, add, sub, both, less, same, keyed_number}

-- ---- the length of an index for so many places: 1 twice as many, 2 a length

-- the greatest length of an index
abbrev pub most : ℤ
most = pos 4611686018427387904

unfoldable pub size_starts : LlBlock
size_starts = block_of (0 ∷ []) (add 1 0 (Var 0) ∷ []) (Goto (to 1 (Var 1 ∷ word (pos 2) ∷ [])))

unfoldable pub size_enough : LlBlock
size_enough = block_of (1 ∷ 2 ∷ []) (less 3 2 (Var 1) ∷ []) (fork 3 2 (Var 1 ∷ Var 2 ∷ []) 4 (Var 2 ∷ []))

unfoldable pub size_greatest : LlBlock
size_greatest = block_of (1 ∷ 2 ∷ []) (less 3 2 (word most) ∷ []) (fork 3 3 (Var 1 ∷ Var 2 ∷ []) 4 (Var 2 ∷ []))

unfoldable pub size_doubles : LlBlock
size_doubles = block_of (1 ∷ 2 ∷ []) (add 4 2 (Var 2) ∷ []) (Goto (to 1 (Var 1 ∷ Var 4 ∷ [])))

unfoldable pub size_blocks : List LlBlock
size_blocks = size_starts ∷ size_enough ∷ size_greatest ∷ size_doubles ∷ gives 2 ∷ []

unfoldable pub size : LlGraph
size = graph_of (codes "index_size") (0 ∷ []) Signed (Signed ∷ Signed ∷ Signed ∷ Bool ∷ Signed ∷ []) size_blocks

-- ---- the items of an array hold nothing, from a place on

unfoldable pub fill_starts : ℕ → LlBlock
fill_starts array = block_of (0 ∷ 1 ∷ []) (GetField 2 array 0 0 ∷ []) (Goto (to 1 (Var 0 ∷ Var 1 ∷ Var 2 ∷ [])))

unfoldable pub fill_asks : LlBlock
fill_asks = block_of (0 ∷ 1 ∷ 2 ∷ []) (less 3 1 (Var 2) ∷ []) (fork 3 2 (Var 0 ∷ Var 1 ∷ Var 2 ∷ []) 3 [])

unfoldable pub fill_turn : ℕ → LlType → LlBlock
fill_turn array item = block_of (0 ∷ 1 ∷ 2 ∷ []) (SetItem array 0 (Var 1) (default_operand item) ∷ add 4 1 (word (pos 1)) ∷ []) (Goto (to 1 (Var 0 ∷ Var 4 ∷ Var 2 ∷ [])))

unfoldable pub fill_blocks : ℕ → LlType → List LlBlock
fill_blocks array item = fill_starts array ∷ fill_asks ∷ fill_turn array item ∷ done ∷ []

unfoldable pub fill : ℕ → LlType → LlGraph
fill array item = graph_of (codes "fill") (0 ∷ 1 ∷ []) Void (Ptr array ∷ Signed ∷ Signed ∷ Bool ∷ Signed ∷ []) (fill_blocks array item)

-- ---- the entries from a place on come into the index: 0 the dict, 1 the place of an entry, 2 the second array, 3 its length, 4 the
-- number of places, 5 the length of the index, 6 the greatest place in it, 7 the number of entries, 8 the first array, where that holds
-- the keys, 9 a test, 10 where the key stands, 11 the key, 12 the hash, 13 a place, 14 the word there, 15 and 16 what comes next

unfoldable pub enter_types : DictShape → List LlType
enter_types d =
    Ptr d.dict ∷ Signed ∷ Ptr d.second ∷ Signed ∷ Signed ∷ Signed ∷ Signed ∷ Signed ∷ first_type d ∷ Bool ∷ Signed ∷ d.stored_key
    ∷ Signed ∷ Signed ∷ Signed ∷ Signed ∷ Signed ∷ []

-- what goes on from entry to entry, and behind it from word to word
abbrev pub entries : List ℕ
entries = 1 ∷ 2 ∷ 5 ∷ 6 ∷ 7 ∷ 8 ∷ []

abbrev pub words : List ℕ
words = 1 ∷ 2 ∷ 5 ∷ 6 ∷ 7 ∷ 8 ∷ 13 ∷ []

abbrev pub all_words : List COperand
all_words = Var 1 ∷ Var 2 ∷ Var 5 ∷ Var 6 ∷ Var 7 ∷ Var 8 ∷ Var 13 ∷ []

unfoldable pub enter_starts : DictShape → LlBlock
enter_starts d = block_of (0 ∷ 1 ∷ []) (
    second_read 2 d 0
    ∷ length_read 3 d 2
    ∷ places_read 4 d 0
    ∷ sub 5 3 (Var 4)
    ∷ sub 6 5 (word (pos 1))
    ∷ count_read 7 d 0
    ∷ first_of_keys 8 d 0 ∷ []) (Goto (to 1 (Var 1 ∷ Var 2 ∷ Var 5 ∷ Var 6 ∷ Var 7 ∷ Var 8 ∷ [])))

unfoldable pub enter_asks : LlBlock
enter_asks = block_of entries (less 9 1 (Var 7) ∷ []) (fork 9 2 (Var 1 ∷ Var 2 ∷ Var 5 ∷ Var 6 ∷ Var 7 ∷ Var 8 ∷ []) 6 [])

unfoldable pub enter_hashes : ℕ → DictShape → LlBlock
enter_hashes hashes d = block_of entries (key_at 10 d 5 1 ∷ key_of 11 d 8 2 10 ∷ Call (Some 12) hashes (Var 11 ∷ []) ∷ both 13 12 (Var 6) ∷ []) (Goto (to 3 all_words))

-- there is always an empty word
unfoldable pub enter_probes : DictShape → LlBlock
enter_probes d = block_of words (GetItem 14 d.second 2 (Var 13) ∷ same 9 14 (word (pos 0)) ∷ []) (fork 9 4 all_words 5 all_words)

-- places are counted from 1 there
unfoldable pub enter_puts : DictShape → LlBlock
enter_puts d = block_of words (add 15 1 (word (pos 1)) ∷ SetItem d.second 2 (Var 13) (Var 15) ∷ []) (Goto (to 1 (Var 15 ∷ Var 2 ∷ Var 5 ∷ Var 6 ∷ Var 7 ∷ Var 8 ∷ [])))

unfoldable pub enter_next : LlBlock
enter_next = block_of words (add 15 13 (word (pos 1)) ∷ both 16 15 (Var 6) ∷ []) (Goto (to 3 (Var 1 ∷ Var 2 ∷ Var 5 ∷ Var 6 ∷ Var 7 ∷ Var 8 ∷ Var 16 ∷ [])))

unfoldable pub enter_blocks : ℕ → DictShape → List LlBlock
enter_blocks hashes d = enter_starts d ∷ enter_asks ∷ enter_hashes hashes d ∷ enter_probes d ∷ enter_puts d ∷ enter_next ∷ done ∷ []

unfoldable pub enter_graph : ℕ → DictShape → LlGraph
enter_graph hashes d = graph_of (codes "dict_enter") (0 ∷ 1 ∷ []) Void (enter_types d) (enter_blocks hashes d)

unfoldable pub enter : DictShape → Found → LlGraph × Found
enter d found = taking (keyed_number (Hash d.stored_key) found) (λ hashes all. (enter_graph hashes d, all))

-- ---- the index is made anew: 0 the dict, 1 the second array, 2 its length, 3 the number of places, 4 the length of the index, 5 a place, 6
-- a test, 7 the next place

unfoldable pub index_starts : DictShape → LlBlock
index_starts d = block_of (0 ∷ []) (second_read 1 d 0 ∷ length_read 2 d 1 ∷ places_read 3 d 0 ∷ sub 4 2 (Var 3) ∷ []) (Goto (to 1 (Var 0 ∷ Var 1 ∷ Var 4 ∷ word (pos 0) ∷ [])))

unfoldable pub index_asks : LlBlock
index_asks = block_of (0 ∷ 1 ∷ 4 ∷ 5 ∷ []) (less 6 5 (Var 4) ∷ []) (fork 6 2 (Var 0 ∷ Var 1 ∷ Var 4 ∷ Var 5 ∷ []) 3 (Var 0 ∷ []))

unfoldable pub index_empties : DictShape → LlBlock
index_empties d = block_of (0 ∷ 1 ∷ 4 ∷ 5 ∷ []) (SetItem d.second 1 (Var 5) (word (pos 0)) ∷ add 7 5 (word (pos 1)) ∷ []) (Goto (to 1 (Var 0 ∷ Var 1 ∷ Var 4 ∷ Var 7 ∷ [])))

unfoldable pub index_enters : ℕ → LlBlock
index_enters enters = block_of (0 ∷ []) (Call None enters (Var 0 ∷ word (pos 0) ∷ []) ∷ []) (Return None)

unfoldable pub index_types : DictShape → List LlType
index_types d = Ptr d.dict ∷ Ptr d.second ∷ Signed ∷ Signed ∷ Signed ∷ Signed ∷ Bool ∷ Signed ∷ []

unfoldable pub index_blocks : ℕ → DictShape → List LlBlock
index_blocks enters d = index_starts d ∷ index_asks ∷ index_empties d ∷ index_enters enters ∷ []

unfoldable pub index_graph : ℕ → DictShape → LlGraph
index_graph enters d = graph_of (codes "dict_index") (0 ∷ []) Void (index_types d) (index_blocks enters d)

unfoldable pub index : DictShape → Found → LlGraph × Found
index d found = taking (keyed_number (Enter d.dict) found) (λ enters all. (index_graph enters d, all))
