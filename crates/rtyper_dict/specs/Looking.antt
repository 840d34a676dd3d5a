-- Looking for a key. None of this pays a step.
use Rattle.std.specs.Prelude.{ℕ, true, if◌then◌else◌, List, [], ◌∷◌, Some, pos, negsuc, codes}
use Rattle.csub_tree.specs.declared.tree.COperand.TheVariants.{Var}
use Rattle.ll_code.specs.declared.program.LlType.{LlType}
use Rattle.ll_code.specs.declared.program.LlType.TheVariants.{Signed, Bool, Ptr}
use Rattle.ll_code.specs.declared.program.LlOp.{LlOp}
use Rattle.ll_code.specs.declared.program.LlOp.TheVariants.{GetItem, Call}
use Rattle.ll_code.specs.declared.program.LlExit.TheVariants.{Goto}
use Rattle.ll_code.specs.declared.program.LlBlock.{LlBlock}
use Rattle.ll_code.specs.declared.program.LlGraph.{LlGraph}
use Rattle.ll_build.specs.Build.{word, to, fork, block_of, graph_of, answer}
use Rattle.rtyper_layout.specs.declared.layout.Layout.{Layout}
use Rattle.rtyper_data.specs.declared.body.Body.{Body}
use Rattle.rtyper_data.specs.declared.found.Found.{Found}
use Rattle.rtyper_data.specs.declared.small.Keyed.TheVariants.{Hash, Find}
use Rattle.rtyper_data.specs.Comparing.{equal}
use Rattle.rtyper_data.specs.Graphs.{failing}
use Rattle.rtyper_data.specs.Seen.{Writing, writing}
use Rattle.list_shape.specs.Shapes.{taking, gives}
use Rattle.rtyper_dict.specs.declared.parts.DictShape.{DictShape}
use Rattle.rtyper_dict.specs.Parts.{count_read, places_read, first_read, second_read, length_read, first_type, first_of_keys, key_of, key_at, add, sub, both, less, same, keyed_number, variable_in}

-- what stands for the place of a key that is not there
abbrev pub missing : LlBlock
missing = answer (word (negsuc 0))

-- whether the key that stands in a variable is the one that is looked for, in variable 1
unfoldable pub is_key : Layout → DictShape → ℕ → Writing → ℕ × Writing
is_key layout d v w = variable_in Bool (equal layout (Var v) d.stored_key (Var 1) d.stored_key w)

abbrev pub test_of : List LlType → List LlOp → Found → Writing
test_of types ops found = writing found (record { types = types; ops = ops })

-- ---- by the index: 0 the dict, 1 the key, 2 the number of places, 3 a test, 4 the first array, where that holds the keys, 5 the
-- second array, 6 its length, 7 the length of the index, 8 the hash, 9 the greatest place in the index, 10 a place in it, 11 the word
-- there, 12 the place of an entry, 13 that of its key, 14 its key, 15 and 16 the next place

unfoldable pub find_types : DictShape → List LlType
find_types d =
    Ptr d.dict ∷ d.stored_key ∷ Signed ∷ Bool ∷ first_type d ∷ Ptr d.second ∷ Signed ∷ Signed ∷ Signed ∷ Signed ∷ Signed ∷ Signed ∷ Signed ∷ Signed
    ∷ d.stored_key ∷ Signed ∷ Signed ∷ []

-- a dict without places has no index
unfoldable pub find_asks : DictShape → LlBlock
find_asks d = block_of (0 ∷ 1 ∷ []) (places_read 2 d 0 ∷ same 3 2 (word (pos 0)) ∷ []) (fork 3 1 [] 2 (Var 0 ∷ Var 1 ∷ Var 2 ∷ []))

unfoldable pub find_starts : ℕ → DictShape → LlBlock
find_starts hashes d = block_of (0 ∷ 1 ∷ 2 ∷ []) (
    first_of_keys 4 d 0
    ∷ second_read 5 d 0
    ∷ length_read 6 d 5
    ∷ sub 7 6 (Var 2)
    ∷ Call (Some 8) hashes (Var 1 ∷ [])
    ∷ sub 9 7 (word (pos 1))
    ∷ both 10 8 (Var 9) ∷ []) (Goto (to 3 (Var 1 ∷ Var 4 ∷ Var 5 ∷ Var 7 ∷ Var 9 ∷ Var 10 ∷ [])))

-- there is always an empty word
unfoldable pub find_probes : DictShape → LlBlock
find_probes d = block_of (1 ∷ 4 ∷ 5 ∷ 7 ∷ 9 ∷ 10 ∷ []) (GetItem 11 d.second 5 (Var 10) ∷ same 3 11 (word (pos 0)) ∷ [])
    (fork 3 1 [] 4 (Var 1 ∷ Var 4 ∷ Var 5 ∷ Var 7 ∷ Var 9 ∷ Var 10 ∷ Var 11 ∷ []))

unfoldable pub find_reads : DictShape → List LlOp
find_reads d = sub 12 11 (word (pos 1)) ∷ key_at 13 d 7 12 ∷ key_of 14 d 4 5 13 ∷ add 15 10 (word (pos 1)) ∷ both 16 15 (Var 9) ∷ []

unfoldable pub find_compares : ℕ → List LlOp → LlBlock
find_compares test ops = block_of (1 ∷ 4 ∷ 5 ∷ 7 ∷ 9 ∷ 10 ∷ 11 ∷ []) ops (fork test 5 (Var 12 ∷ []) 3 (Var 1 ∷ Var 4 ∷ Var 5 ∷ Var 7 ∷ Var 9 ∷ Var 16 ∷ []))

unfoldable pub find_blocks : ℕ → ℕ → DictShape → List LlOp → List LlBlock
find_blocks hashes test d ops = find_asks d ∷ missing ∷ find_starts hashes d ∷ find_probes d ∷ find_compares test ops ∷ gives 12 ∷ []

unfoldable pub find_graph : ℕ → ℕ → DictShape → Body → LlGraph
find_graph hashes test d body = graph_of (codes "dict_find") (0 ∷ 1 ∷ []) Signed body.types (find_blocks hashes test d body.ops)

unfoldable pub find_by_index : Layout → DictShape → Found → LlGraph × Found
find_by_index layout d found =
    taking (is_key layout d 14 (test_of (find_types d) (find_reads d) found)) (λ test w.
    taking (keyed_number (Hash d.stored_key) w.found) (λ hashes all. (find_graph hashes test d w.body, all)))

-- ---- from the front: 0 the dict, 1 the key, 2 the number of entries, 3 a test, 4 the array of the keys, 5 the place of an entry, 6 its
-- key, 7 the next place

unfoldable pub scan_types : DictShape → List LlType
scan_types d = Ptr d.dict ∷ d.stored_key ∷ Signed ∷ Bool ∷ Ptr d.first ∷ Signed ∷ d.stored_key ∷ Signed ∷ []

unfoldable pub scan_starts : DictShape → LlBlock
scan_starts d = block_of (0 ∷ 1 ∷ []) (first_read 4 d 0 ∷ count_read 2 d 0 ∷ []) (Goto (to 2 (Var 1 ∷ Var 2 ∷ Var 4 ∷ word (pos 0) ∷ [])))

unfoldable pub scan_asks : LlBlock
scan_asks = block_of (1 ∷ 2 ∷ 4 ∷ 5 ∷ []) (less 3 5 (Var 2) ∷ []) (fork 3 3 (Var 1 ∷ Var 2 ∷ Var 4 ∷ Var 5 ∷ []) 1 [])

unfoldable pub scan_reads : DictShape → List LlOp
scan_reads d = GetItem 6 d.first 4 (Var 5) ∷ add 7 5 (word (pos 1)) ∷ []

unfoldable pub scan_compares : ℕ → List LlOp → LlBlock
scan_compares test ops = block_of (1 ∷ 2 ∷ 4 ∷ 5 ∷ []) ops (fork test 4 (Var 5 ∷ []) 2 (Var 1 ∷ Var 2 ∷ Var 4 ∷ Var 7 ∷ []))

unfoldable pub scan_blocks : ℕ → DictShape → List LlOp → List LlBlock
scan_blocks test d ops = scan_starts d ∷ missing ∷ scan_asks ∷ scan_compares test ops ∷ gives 5 ∷ []

unfoldable pub scan_graph : ℕ → DictShape → Body → LlGraph
scan_graph test d body = graph_of (codes "dict_find") (0 ∷ 1 ∷ []) Signed body.types (scan_blocks test d body.ops)

abbrev pub scan_made : DictShape → ℕ × Writing → LlGraph × Found
scan_made d test = (scan_graph test.0 d test.1.body, test.1.found)

unfoldable pub find_by_scan : Layout → DictShape → Found → LlGraph × Found
find_by_scan layout d found = scan_made d (is_key layout d 6 (test_of (scan_types d) (scan_reads d) found))

-- the place of the entry of a key, or -1
unfoldable pub find : Layout → DictShape → Found → LlGraph × Found
find layout d found = if d.is_indexed then find_by_index layout d found else find_by_scan layout d found

-- ---- the place of the entry of a key, which has to be there

unfoldable pub entry_asks : ℕ → LlBlock
entry_asks finds = block_of (0 ∷ 1 ∷ []) (Call (Some 2) finds (Var 0 ∷ Var 1 ∷ []) ∷ less 3 2 (word (pos 0)) ∷ []) (fork 3 1 [] 2 (Var 2 ∷ []))

unfoldable pub entry_blocks : ℕ → LlBlock → List LlBlock
entry_blocks finds fails = entry_asks finds ∷ fails ∷ gives 2 ∷ []

unfoldable pub entry_graph : ℕ → LlBlock → DictShape → LlGraph
entry_graph finds fails d = graph_of (codes "dict_entry") (0 ∷ 1 ∷ []) Signed (Ptr d.dict ∷ d.stored_key ∷ Signed ∷ Bool ∷ []) (entry_blocks finds fails)

-- a key that is missing fails, by class 7
unfoldable pub entry : DictShape → Found → LlGraph × Found
entry d found =
    taking (keyed_number (Find d.dict) found) (λ finds next.
    taking (failing 1 7 true next) (λ fails all. (entry_graph finds fails d, all)))
