-- What is read from a dict: values, and lists of the keys, the values or both.
use Rattle.std.specs.Prelude.{ℕ, Bool as Truth, true, false, not, if◌then◌else◌, List, [], ◌∷◌, ◌++◌, slice_get, unwrap_or, Some, pos, codes}
use Rattle.csub_tree.specs.declared.tree.CBinary.TheVariants.{Ne, Peq}
use Rattle.csub_tree.specs.declared.tree.COperand.{COperand}
use Rattle.csub_tree.specs.declared.tree.COperand.TheVariants.{Var}
use Rattle.ll_code.specs.declared.program.LlType.{LlType}
use Rattle.ll_code.specs.declared.program.LlType.TheVariants.{Signed, Bool, Ptr}
use Rattle.ll_code.specs.declared.program.LlOp.{LlOp}
use Rattle.ll_code.specs.declared.program.LlOp.TheVariants.{Binary, GetField, SetField, GetItem, SetItem, New, Step, Call}
use Rattle.ll_code.specs.declared.program.LlExit.TheVariants.{Goto, Return}
use Rattle.ll_code.specs.declared.program.LlBlock.{LlBlock}
use Rattle.ll_code.specs.declared.program.LlGraph.{LlGraph}
use Rattle.ll_build.specs.Build.{word, flag, null, to, fork, block_of, graph_of, answer}
use Rattle.rtyper_layout.specs.declared.layout.Layout.{Layout}
use Rattle.rtyper_data.specs.declared.body.Body.{Body}
use Rattle.rtyper_data.specs.declared.found.Found.{Found}
use Rattle.rtyper_data.specs.declared.small.Keyed.TheVariants.{Find, Value}
use Rattle.rtyper_data.specs.declared.small.Listed.TheVariants.{Make}
use Rattle.rtyper_data.specs.Converting.{default_operand, value_as}
use Rattle.rtyper_data.specs.Graphs.{fields_at, body_of}
use Rattle.rtyper_data.specs.Seen.{fresh, with_op, Writing, writing, push}
use Rattle.list_shape.specs.declared.shape.Shape.{Shape}
use Rattle.list_shape.specs.Shapes.{new_by, number_of, taking, gives}
use Rattle.rtyper_dict.specs.declared.lists.Part.{Part}
use Rattle.rtyper_dict.specs.declared.lists.Part.TheVariants as part
use Rattle.rtyper_dict.specs.declared.parts.DictShape.{DictShape}
use Rattle.rtyper_dict.specs.Parts.{count_read, places_read, first_read, second_read, length_read, add, sub, less, same, keyed_number, unstored}

-- ---- the value of an entry: 0 the dict, 1 the place of the entry, 2 the first array, 3 the second, 4 its length, 5 the number of places, 6 the
-- length of the index, 7 where the value stands, 8 the value

unfoldable pub value_types : DictShape → List LlType
value_types d = Ptr d.dict ∷ Signed ∷ Ptr d.first ∷ Ptr d.second ∷ Signed ∷ Signed ∷ Signed ∷ Signed ∷ d.stored_value ∷ []

abbrev pub value_in_first : DictShape → List LlOp
value_in_first d = first_read 2 d 0 ∷ GetItem 8 d.first 2 (Var 1) ∷ []

abbrev pub value_in_second : DictShape → List LlOp
value_in_second d =
    second_read 3 d 0
    ∷ length_read 4 d 3
    ∷ places_read 5 d 0
    ∷ sub 6 4 (Var 5)
    ∷ add 7 6 (Var 1)
    ∷ GetItem 8 d.second 3 (Var 7) ∷ []

unfoldable pub value_ops : DictShape → List LlOp
value_ops d = if d.keys_last then value_in_first d else value_in_second d

unfoldable pub value_read : DictShape → LlBlock
value_read d = block_of (0 ∷ 1 ∷ []) (value_ops d) (Return (Some (Var 8)))

unfoldable pub value : DictShape → LlGraph
value d = graph_of (codes "dict_value") (0 ∷ 1 ∷ []) d.stored_value (value_types d) (value_read d ∷ [])

-- ---- the value of a key, or another: 0 the dict, 1 the key, 2 the other value, 3 the place of the entry, 4 a test, 5 the value

unfoldable pub get_types : DictShape → LlType → List LlType
get_types d kind = Ptr d.dict ∷ d.stored_key ∷ kind ∷ Signed ∷ Bool ∷ d.stored_value ∷ []

abbrev pub read_as : Layout → LlType → LlType → Found → COperand × Body → COperand × Writing
read_as layout from to found x = value_as layout x.0 from to (writing found x.1)

-- the value that is there, as one of the type that is asked
unfoldable pub got : Layout → DictShape → LlType → Writing → COperand × Writing
got layout d kind w =
    taking (keyed_number (Value d.dict) w.found) (λ values next.
    read_as layout d.value kind next (unstored d.stored_value d.value (Var 5) (with_op (Call (Some 5) values (Var 0 ∷ Var 3 ∷ [])) w.body)))

unfoldable pub get_asks : ℕ → LlBlock
get_asks finds = block_of (0 ∷ 1 ∷ 2 ∷ []) (Call (Some 3) finds (Var 0 ∷ Var 1 ∷ []) ∷ less 4 3 (word (pos 0)) ∷ []) (fork 4 1 (Var 2 ∷ []) 2 (Var 0 ∷ Var 3 ∷ []))

unfoldable pub get_given : COperand → List LlOp → LlBlock
get_given x ops = block_of (0 ∷ 3 ∷ []) ops (Return (Some x))

unfoldable pub get_blocks : ℕ → COperand → List LlOp → List LlBlock
get_blocks finds x ops = get_asks finds ∷ gives 2 ∷ get_given x ops ∷ []

unfoldable pub get_graph : ℕ → COperand → LlType → Body → LlGraph
get_graph finds x kind body = graph_of (codes "dict_get") (0 ∷ 1 ∷ 2 ∷ []) kind body.types (get_blocks finds x body.ops)

unfoldable pub get : Layout → DictShape → LlType → Found → LlGraph × Found
get layout d kind found =
    taking (got layout d kind (writing found (body_of (get_types d kind)))) (λ x w.
    taking (keyed_number (Find d.dict) w.found) (λ finds all. (get_graph finds x kind w.body, all)))

-- ---- whether a dict, or `None`, has entries

unfoldable pub truth_asks : LlBlock
truth_asks = block_of (0 ∷ []) (Binary 1 Peq (Var 0) null ∷ []) (fork 1 1 [] 2 (Var 0 ∷ []))

unfoldable pub truth_counts : DictShape → LlBlock
truth_counts d = block_of (0 ∷ []) (count_read 2 d 0 ∷ Binary 1 Ne (Var 2) (word (pos 0)) ∷ []) (Return (Some (Var 1)))

unfoldable pub truth_blocks : DictShape → List LlBlock
truth_blocks d = truth_asks ∷ answer (flag false) ∷ truth_counts d ∷ []

unfoldable pub truth : DictShape → LlGraph
truth d = graph_of (codes "dict_truth") (0 ∷ []) Bool (Ptr d.dict ∷ Bool ∷ Signed ∷ []) (truth_blocks d)

-- ---- lists: 0 the dict, 1 the number of entries, 2 the list, 3 its array, 4 a place, 5 a test, 6 the next place, 7 and 8 the arrays of the dict, 9
-- the length of the second, 10 the number of places, 11 the length of the index, 12 where an entry stands in the second array

unfoldable pub list_types : DictShape → Shape → List LlType
list_types d to =
    Ptr d.dict ∷ Signed ∷ Ptr to.list ∷ Ptr to.array ∷ Signed ∷ Bool ∷ Signed ∷ Ptr d.first ∷ Ptr d.second ∷ Signed ∷ Signed ∷ Signed ∷ Signed ∷ []

-- all is paid before: one step, and one for each item, or two where the items are tuples
unfoldable pub paid : Part → DictShape → List LlOp
paid part.Both d = count_read 1 d 0 ∷ Step (word (pos 1)) ∷ Step (Var 1) ∷ Step (Var 1) ∷ []
paid of d = count_read 1 d 0 ∷ Step (word (pos 1)) ∷ Step (Var 1) ∷ []

unfoldable pub list_makes : ℕ → Part → DictShape → Shape → LlBlock
list_makes makes of d to = block_of (0 ∷ [])
    (((paid of d ++ Call (Some 2) makes (Var 1 ∷ []) ∷ []) ++ GetField 3 to.list 2 1 ∷ []) ++ same 5 1 (word (pos 0)) ∷ [])
    (fork 5 4 (Var 2 ∷ []) 1 (Var 0 ∷ Var 1 ∷ Var 2 ∷ Var 3 ∷ []))

abbrev pub turns : List ℕ
turns = 1 ∷ 2 ∷ 3 ∷ 7 ∷ 8 ∷ 11 ∷ 4 ∷ []

unfoldable pub list_walks : DictShape → LlBlock
list_walks d = block_of (0 ∷ 1 ∷ 2 ∷ 3 ∷ []) (
    first_read 7 d 0
    ∷ second_read 8 d 0
    ∷ length_read 9 d 8
    ∷ places_read 10 d 0
    ∷ sub 11 9 (Var 10) ∷ []) (Goto (to 2 (Var 1 ∷ Var 2 ∷ Var 3 ∷ Var 7 ∷ Var 8 ∷ Var 11 ∷ word (pos 0) ∷ [])))

unfoldable pub list_asks : LlBlock
list_asks = block_of turns (less 5 4 (Var 1) ∷ []) (fork 5 3 (Var 1 ∷ Var 2 ∷ Var 3 ∷ Var 7 ∷ Var 8 ∷ Var 11 ∷ Var 4 ∷ []) 4 (Var 2 ∷ []))

unfoldable pub list_turn : List LlOp → LlBlock
list_turn ops = block_of turns ops (Goto (to 2 (Var 1 ∷ Var 2 ∷ Var 3 ∷ Var 7 ∷ Var 8 ∷ Var 11 ∷ Var 6 ∷ [])))

abbrev pub array_item : Truth → DictShape → ℕ → LlOp
array_item true d into = GetItem into d.second 8 (Var 12)
array_item false d into = GetItem into d.first 7 (Var 4)

abbrev pub item_as : LlType → LlType → COperand × Body → COperand × Body
item_as item kind x = unstored item kind x.0 x.1

-- what stands in one of the arrays, as a value of this type
unfoldable pub read : Truth → LlType → LlType → DictShape → Body → COperand × Body
read in_second item kind d body = item_as item kind (new_by item (array_item in_second d) body)

unfoldable pub key_as : Layout → DictShape → LlType → Writing → COperand × Writing
key_as layout d to w = read_as layout d.key to w.found (read d.keys_last d.stored_key d.key d w.body)

unfoldable pub value_of : Layout → DictShape → LlType → Writing → COperand × Writing
value_of layout d to w = read_as layout d.value to w.found (read (not d.keys_last) d.stored_value d.value d w.body)

abbrev pub field_at : Layout → ℕ → ℕ → LlType
field_at layout n i = unwrap_or (slice_get (fields_at layout n) i) Bool

-- a tuple of two
unfoldable pub tuple_of : ℕ → COperand → COperand → Body → COperand × Body
tuple_of n x y body = made (fresh (Ptr n) body)
  where
    made : ℕ × Body → COperand × Body
    made tuple = (Var tuple.0, with_op (SetField n tuple.0 1 y) (with_op (SetField n tuple.0 0 x) (with_op (New tuple.0 n n) tuple.1)))

abbrev pub asking : Found → COperand × Body → COperand × Writing
asking found made = (made.0, writing found made.1)

unfoldable pub pair : Layout → DictShape → ℕ → Writing → COperand × Writing
pair layout d n w =
    taking (key_as layout d (field_at layout n 0) w) (λ k next.
    taking (value_of layout d (field_at layout n 1) next) (λ v last. asking last.found (tuple_of n k v last.body)))

abbrev pub pair_as : Layout → DictShape → LlType → Writing → COperand × Writing
pair_as layout d (Ptr n) w = pair layout d n w
pair_as layout d to w = (default_operand to, w)

unfoldable pub item_of : Layout → DictShape → LlType → Part → Writing → COperand × Writing
item_of layout d to part.Key w = key_as layout d to w
item_of layout d to part.Value w = value_of layout d to w
item_of layout d to part.Both w = pair_as layout d to w

abbrev pub set_in : Shape → COperand × Writing → Writing
set_in to x = push (SetItem to.array 3 (Var 4) x.0) x.1

unfoldable pub list_reads : List LlOp
list_reads = add 12 11 (Var 4) ∷ add 6 4 (word (pos 1)) ∷ []

-- an item is set
unfoldable pub item_set : Layout → DictShape → Shape → Part → Writing → Writing
item_set layout d to of w = set_in to (item_of layout d to.item of w)

unfoldable pub list_blocks : ℕ → Part → DictShape → Shape → List LlOp → List LlBlock
list_blocks makes of d to ops = list_makes makes of d to ∷ list_walks d ∷ list_asks ∷ list_turn ops ∷ gives 2 ∷ []

unfoldable pub list_graph : ℕ → Part → DictShape → Shape → Body → LlGraph
list_graph makes of d to body = graph_of (codes "dict_list") (0 ∷ []) (Ptr to.list) body.types (list_blocks makes of d to body.ops)

abbrev pub list_over : Part → DictShape → Shape → Writing → LlGraph × Found
list_over of d to w = taking (number_of (Make to.list) w.found) (λ makes all. (list_graph makes of d to w.body, all))

-- a list of the keys, of the values, or of both
unfoldable pub list : Layout → DictShape → Shape → Part → Found → LlGraph × Found
list layout d to of found = list_over of d to (item_set layout d to of (writing found (record { types = list_types d to; ops = list_reads })))
