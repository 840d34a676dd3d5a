-- The graphs that are made for a struct which is counted, and the one that empties the exception slots. They only borrow the
-- references that they are given, and pay no step.
use Rattle.std.specs.Prelude.{ℕ, zero, suc, ◌+◌, ◌==◌, Bool, true, false, List, [], ◌∷◌, ◌++◌, length, map, Option, Some, None, pos, codes}
use Rattle.std.specs.Fmt.{decimal}
use Rattle.csub_tree.specs.declared.tree.CBinary.TheVariants.{Peq, Add, Sub, Lt, Eq}
use Rattle.csub_tree.specs.declared.tree.CConst.TheVariants as constant
use Rattle.csub_tree.specs.declared.tree.COperand.{COperand}
use Rattle.csub_tree.specs.declared.tree.COperand.TheVariants.{Var, Const}
use Rattle.ll_code.specs.declared.program.LlType.{LlType}
use Rattle.ll_code.specs.declared.program.LlType.TheVariants as type
use Rattle.ll_code.specs.declared.program.LlStruct.{LlStruct}
use Rattle.ll_code.specs.declared.program.LlLink.{LlLink}
use Rattle.ll_code.specs.declared.program.LlOp.{LlOp}
use Rattle.ll_code.specs.declared.program.LlOp.TheVariants as op
use Rattle.ll_code.specs.declared.program.LlExit.{LlExit}
use Rattle.ll_code.specs.declared.program.LlExit.TheVariants as exit
use Rattle.ll_code.specs.declared.program.LlBlock.{LlBlock}
use Rattle.ll_code.specs.declared.program.LlGraph.{LlGraph}
use Rattle.refcount_transform.specs.declared.plan.Held.{Held}
use Rattle.refcount_transform.specs.declared.slots.Slots.{Slots}
use Rattle.refcount_transform.specs.declared.made.Loop.{Loop}
use Rattle.refcount_transform.specs.Plan.{Plan, counts_at, root_of, field_number, own_held, held_of, items_referred, is_counted, own_some}

-- ---- pieces of graphs

abbrev pub null : COperand
null = Const constant.Null

abbrev pub word : ℕ → COperand
word n = Const (constant.Word (pos n))

abbrev pub link_to : ℕ → List COperand → LlLink
link_to to args = record { to = to; args = args }

abbrev pub block_with : List ℕ → List LlOp → LlExit → LlBlock
block_with inputs ops e = record { inputs = inputs; ops = ops; exit = e }

abbrev pub call : ℕ → List COperand → LlOp
call graph xs = op.Call None graph xs

abbrev pub numbers_from : ℕ → ℕ → List ℕ
numbers_from first zero = []
numbers_from first (suc count) = first ∷ numbers_from (suc first) count

abbrev pub first_variables : ℕ → List ℕ
first_variables count = numbers_from 0 count

abbrev pub first_operands : ℕ → List COperand
first_operands count = map Var (first_variables count)

abbrev pub graph_with : List ℕ → ℕ → List LlType → List LlBlock → LlGraph
graph_with name params types blocks = record { name = name; params = first_variables params; result = type.Void; types = types; blocks = blocks }

-- where variable 0 is NULL the graph ends, else it goes on with block 1; block 2 ends it
abbrev pub unless_null : LlBlock
unless_null = block_with (0 ∷ []) (op.Binary 1 Peq (Var 0) null ∷ []) (exit.If 1 (link_to 2 []) (link_to 1 (Var 0 ∷ [])))

abbrev pub ended : LlBlock
ended = block_with [] [] (exit.Return None)

-- ---- references

abbrev pub more : ℕ → LlBlock
more n = block_with (0 ∷ []) (op.GetField 2 n 0 0 ∷ op.Binary 2 Add (Var 2) (word 1) ∷ op.SetField n 0 0 (Var 2) ∷ []) (exit.Return None)

abbrev pub up_graph : ℕ → LlGraph
up_graph n = graph_with (codes "count_s" ++ decimal n) 1 (type.Ptr n ∷ type.Bool ∷ type.Signed ∷ []) (unless_null ∷ more n ∷ ended ∷ [])

-- the count falls; where none is left the block is released by the graph that it names
abbrev pub less : ℕ → LlBlock
less n =
    block_with (0 ∷ []) (op.GetField 2 n 0 0 ∷ op.Binary 2 Sub (Var 2) (word 1) ∷ op.SetField n 0 0 (Var 2) ∷ op.Binary 3 Eq (Var 2) (word 0) ∷ [])
    (exit.If 3 (link_to 3 (Var 0 ∷ [])) (link_to 2 []))

abbrev pub released : ℕ → LlBlock
released n = block_with (0 ∷ []) (op.GetField 4 n 0 1 ∷ op.CallFn None type.Void (type.Ptr n ∷ []) 4 (Var 0 ∷ []) ∷ []) (exit.Return None)

abbrev pub down_graph : ℕ → LlGraph
down_graph n =
    graph_with (codes "drop_s" ++ decimal n) 1 (type.Ptr n ∷ type.Bool ∷ type.Signed ∷ type.Bool ∷ type.Fn ∷ []) (unless_null ∷ less n ∷ ended ∷ released n ∷ [])

-- ---- fields and items that are references

-- takes a reference to the new value, sets the field, and drops the one that it held
abbrev pub put_body : Plan → Held → LlBlock
put_body plan h =
    block_with (0 ∷ 1 ∷ [])
    (call (counts_at plan h.to).up (Var 1 ∷ []) ∷ op.GetField 2 h.owner 0 h.number ∷ op.SetField h.owner 0 h.number (Var 1) ∷ call (counts_at plan h.to).down (Var 2 ∷ []) ∷ [])
    (exit.Return None)

abbrev pub put_graph : Plan → Held → LlGraph
put_graph plan h =
    graph_with (codes "put_s" ++ decimal h.owner ++ codes "_" ++ decimal h.number) 2 (type.Ptr (root_of plan h.owner) ∷ type.Ptr h.to ∷ type.Ptr h.to ∷ []) (put_body plan h ∷ [])

abbrev pub put_item_body : Plan → ℕ → ℕ → LlBlock
put_item_body plan n m =
    block_with (0 ∷ 1 ∷ 2 ∷ [])
    (call (counts_at plan m).up (Var 2 ∷ []) ∷ op.GetItem 3 n 0 (Var 1) ∷ op.SetItem n 0 (Var 1) (Var 2) ∷ call (counts_at plan m).down (Var 3 ∷ []) ∷ [])
    (exit.Return None)

-- sets an item of struct n, whose items refer to struct m
abbrev pub put_item_graph : Plan → ℕ → ℕ → LlGraph
put_item_graph plan n m =
    graph_with (codes "put_item_s" ++ decimal n) 3 (type.Ptr (root_of plan n) ∷ type.Signed ∷ type.Ptr m ∷ type.Ptr m ∷ []) (put_item_body plan n m ∷ [])

abbrev pub clear_start : LlBlock
clear_start = block_with (0 ∷ 1 ∷ []) [] (exit.Goto (link_to 1 (Var 0 ∷ Var 1 ∷ word 0 ∷ [])))

abbrev pub clear_test : LlBlock
clear_test = block_with (0 ∷ 1 ∷ 2 ∷ []) (op.Binary 3 Lt (Var 2) (Var 1) ∷ []) (exit.If 3 (link_to 2 (Var 0 ∷ Var 1 ∷ Var 2 ∷ [])) (link_to 3 []))

-- one item is NULL, and the next one follows
abbrev pub clear_one : ℕ → LlBlock
clear_one n = block_with (0 ∷ 1 ∷ 2 ∷ []) (op.SetItem n 0 (Var 2) null ∷ op.Binary 2 Add (Var 2) (word 1) ∷ []) (exit.Goto (link_to 1 (Var 0 ∷ Var 1 ∷ Var 2 ∷ [])))

-- so many items of a new block are NULL
abbrev pub clear_graph : Plan → ℕ → LlGraph
clear_graph plan n =
    graph_with (codes "clear_s" ++ decimal n) 2 (type.Ptr (root_of plan n) ∷ type.Signed ∷ type.Signed ∷ type.Bool ∷ []) (clear_start ∷ clear_test ∷ clear_one n ∷ ended ∷ [])

-- ---- release

-- what is read of the fields stands in variables v and so on
abbrev pub gets : ℕ → List Held → List LlOp → List LlOp
gets v [] rest = rest
gets v (h ∷ held) rest = op.GetField v h.owner 0 h.number ∷ gets (suc v) held rest

abbrev pub drops : Plan → ℕ → List Held → List LlOp → List LlOp
drops plan v [] rest = rest
drops plan v (h ∷ held) rest = call (counts_at plan h.to).down (Var v ∷ []) ∷ drops plan (suc v) held rest

abbrev pub held_types : List Held → List LlType
held_types held = map (λ h. type.Ptr h.to) held

-- the block is freed, and then what it held is dropped
abbrev pub freed : Plan → List Held → List LlOp
freed plan held = op.Free 0 ∷ drops plan 1 held []

abbrev pub plain_body : Plan → List Held → LlBlock
plain_body plan held = block_with (first_variables 1) (gets 1 held (freed plan held)) (exit.Return None)

abbrev pub release_plain : Plan → ℕ → List Held → LlGraph
release_plain plan n held = graph_with (codes "release_s" ++ decimal n) 1 (type.Ptr (root_of plan n) ∷ held_types held) (plain_body plan held ∷ [])

-- the variables of a release with items, behind the first one and the fields: the number of items, the place, whether one is left, and
-- an item
abbrev pub loop_behind : ℕ → Loop
loop_behind fields = record { length = fields + 1; at = fields + 2; test = fields + 3; item = fields + 4 }

abbrev pub loop_types : ℕ → List LlType
loop_types m = type.Signed ∷ type.Signed ∷ type.Bool ∷ type.Ptr m ∷ []

-- the fields are read, and the number of items
abbrev pub release_start : Plan → ℕ → List Held → Loop → LlBlock
release_start plan n held places =
    block_with (first_variables 1) (gets 1 held (op.GetField places.length n 0 (field_number plan n 0) ∷ [])) (exit.Goto (link_to 1 (first_operands places.at ++ word 0 ∷ [])))

abbrev pub release_test : Loop → LlBlock
release_test places =
    block_with (first_variables (places.at + 1)) (op.Binary places.test Lt (Var places.at) (Var places.length) ∷ [])
    (exit.If places.test (link_to 2 (first_operands places.at ++ Var places.at ∷ [])) (link_to 3 (first_operands places.length)))

-- one item is dropped, and the next one follows
abbrev pub release_one : Plan → ℕ → ℕ → Loop → LlBlock
release_one plan n m places =
    block_with (first_variables (places.at + 1))
    (op.GetItem places.item n 0 (Var places.at) ∷ call (counts_at plan m).down (Var places.item ∷ []) ∷ op.Binary places.at Add (Var places.at) (word 1) ∷ [])
    (exit.Goto (link_to 1 (first_operands places.at ++ Var places.at ∷ [])))

abbrev pub release_end : Plan → List Held → Loop → LlBlock
release_end plan held places = block_with (first_variables places.length) (freed plan held) (exit.Return None)

abbrev pub release_blocks : Plan → ℕ → ℕ → List Held → Loop → List LlBlock
release_blocks plan n m held places =
    release_start plan n held places ∷ release_test places ∷ release_one plan n m places ∷ release_end plan held places ∷ []

abbrev pub release_items : Plan → ℕ → ℕ → List Held → LlGraph
release_items plan n m held =
    graph_with (codes "release_s" ++ decimal n) 1 (type.Ptr (root_of plan n) ∷ held_types held ++ loop_types m) (release_blocks plan n m held (loop_behind (length held)))

abbrev pub release_by : Plan → ℕ → List Held → Option ℕ → LlGraph
release_by plan n held None = release_plain plan n held
release_by plan n held (Some m) = release_items plan n m held

abbrev pub release_graph : Plan → ℕ → LlGraph
release_graph plan n = release_by plan n (held_of plan n) (items_referred plan n)

-- ---- exception slots

abbrev pub kind_read : Option ℕ → List LlOp → List LlOp
kind_read None rest = rest
kind_read (Some n) rest = op.ExcType 0 n ∷ rest

abbrev pub value_read : Option ℕ → List LlOp → List LlOp
value_read None rest = rest
value_read (Some n) rest = op.ExcValue 1 n ∷ rest

abbrev pub slot_drop : Plan → ℕ → Option ℕ → List LlOp → List LlOp
slot_drop plan v None rest = rest
slot_drop plan v (Some n) rest = call (counts_at plan n).down (Var v ∷ []) ∷ rest

abbrev pub slot_type : Option ℕ → LlType
slot_type None = type.Void
slot_type (Some n) = type.Ptr n

-- empties the exception slots, and then drops what they held
abbrev pub slots_body : Plan → Slots → LlBlock
slots_body plan slots =
    block_with [] (kind_read slots.kind (value_read slots.value (op.ExcClear ∷ slot_drop plan 0 slots.kind (slot_drop plan 1 slots.value [])))) (exit.Return None)

abbrev pub slots_graph : Plan → LlGraph
slots_graph plan = graph_with (codes "clear_exception") 0 (slot_type plan.slots.kind ∷ slot_type plan.slots.value ∷ []) (slots_body plan plan.slots ∷ [])

abbrev pub slots_made : Plan → Bool → List LlGraph
slots_made plan true = slots_graph plan ∷ []
slots_made plan false = []

-- ---- all of them

abbrev pub items_made : Plan → ℕ → Option ℕ → List LlGraph
items_made plan n None = []
items_made plan n (Some m) = put_item_graph plan n m ∷ clear_graph plan n ∷ []

abbrev pub references_made : ℕ → Bool → List LlGraph
references_made n true = up_graph n ∷ down_graph n ∷ []
references_made n false = []

abbrev pub made_for : Plan → ℕ → List LlGraph
made_for plan n = release_graph plan n ∷ map (put_graph plan) (own_held plan n) ++ items_made plan n (items_referred plan n) ++ references_made n (root_of plan n == n)

abbrev pub made_if : Plan → ℕ → Bool → List LlGraph
made_if plan n true = made_for plan n
made_if plan n false = []

abbrev pub made_from : Plan → ℕ → List LlStruct → List LlGraph
made_from plan n [] = []
made_from plan n (s ∷ ss) = made_if plan n (is_counted plan n) ++ made_from plan (suc n) ss

-- the one for the slots, and those of all structs that are counted
abbrev pub all_made : Plan → List LlGraph
all_made plan = slots_made plan (own_some plan.slots) ++ made_from plan 0 plan.structs
