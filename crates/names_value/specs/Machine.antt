-- The value of a constant expression, part by part.
use Rattle.std.specs.Prelude.{ℕ, zero, suc, ◌+◌, ◌-◌, ◌*◌, ◌^◌, ℤ, pos, negsuc, Bool, true, false, not, if◌then◌else◌, nat_lt, ◌==◌, List, [], ◌∷◌, ◌++◌, length, slice_get, slice_set, Option, Some, None}
use Rattle.rpy_tree.specs.declared.syntax.BinOp.{BinOp}
use Rattle.rpy_tree.specs.declared.syntax.BinOp.TheVariants as binop
use Rattle.rpy_tree.specs.declared.syntax.UnOp.{UnOp}
use Rattle.rpy_tree.specs.declared.program.Const.{Const, out-Const}
use Rattle.rpy_tree.specs.declared.program.Const.TheVariants as const
use Rattle.rpy_tree.specs.declared.program.Const.TheOpen.{Const-F}
use Rattle.rpy_nodes.specs.declared.event.Act.{Act}
use Rattle.rpy_nodes.specs.declared.event.Act.TheVariants as act
use Rattle.names_bound.specs.Fault.{lesser, fault_if}
use Rattle.names_bound.specs.declared.fault.Fault.{Fault}
use Rattle.names_bound.specs.declared.fault.FaultKind.TheVariants as fault
use Rattle.names_bound.specs.declared.stand.Stand.{Stand}
use Rattle.names_bound.specs.declared.stand.Stand.TheVariants as stand
use Rattle.names_found.specs.Part.{is_part, taken, taken_besides}
use Rattle.names_found.specs.declared.step.Called.{Called}
use Rattle.names_found.specs.declared.step.Called.TheVariants as called
use Rattle.names_found.specs.declared.step.Step.{Step}
use Rattle.names_value.specs.Arithmetic.{word_binary, word_unary}
use Rattle.names_value.specs.Same.{same}
use Rattle.names_value.specs.Slots.{last_slot, without_last, without, take_slots, values_of}
use Rattle.names_value.specs.declared.machine.Machine.{Machine}
use Rattle.names_value.specs.declared.machine.Prebuilt.{Prebuilt}
use Rattle.names_value.specs.declared.machine.Root.{Root}
use Rattle.names_value.specs.declared.slots.Slot.{Slot}

-- a program has fewer than 2 ^ 32 things of each kind
abbrev pub narrow : ℕ → ℕ
narrow n = if nat_lt n (2 ^ 32 - 1) then n else 2 ^ 32 - 1

-- ---- names

abbrev pub value_in : Option (Option Const) → Option Const
value_in None = None
value_in (Some value) = value

abbrev pub constant_at : List (Option Const) → ℕ → Option Const
constant_at constants number = value_in (slice_get constants number)

abbrev pub stand_value : List (Option Const) → Stand → Option Const
stand_value constants stand.NoneValue = Some const.None
stand_value constants stand.TrueValue = Some (const.Bool true)
stand_value constants stand.FalseValue = Some (const.Bool false)
stand_value constants (stand.Function function) = Some (const.Function (narrow function))
stand_value constants (stand.Constant number) = constant_at constants number
stand_value constants stand.MaxInt = Some (const.Word (pos 9223372036854775807))
stand_value constants other = None

-- a name that is bound only later has no value
abbrev pub name_value : List (Option Const) → Stand → Bool → Option Const
name_value constants s late = if late then None else stand_value constants s

abbrev pub text_of : Option (List ℕ) → Option Const
text_of None = None
text_of (Some text) = Some (const.Str text)

abbrev pub text_value : List (List ℕ) → ℕ → Option Const
text_value names name = text_of (slice_get names name)

-- ---- operators

abbrev pub word : Option ℤ → Option Const
word None = None
word (Some w) = Some (const.Word w)

abbrev pub unary_layer : UnOp → Const-F Const → Option Const
unary_layer op (Const-F.Word a) = word (word_unary op a)
unary_layer op other = None

abbrev pub unary_of : UnOp → Const → Option Const
unary_of op a = unary_layer op (out-Const a)

abbrev pub unary_value : UnOp → Option Const → Option Const
unary_value op None = None
unary_value op (Some a) = unary_of op a

-- `+` joins two strings
abbrev pub joined : BinOp → List ℕ → List ℕ → Option Const
joined binop.Add a b = Some (const.Str (a ++ b))
joined op a b = None

abbrev pub word_layer : BinOp → ℤ → Const-F Const → Option Const
word_layer op a (Const-F.Word b) = word (word_binary op a b)
word_layer op a other = None

abbrev pub word_with : BinOp → ℤ → Const → Option Const
word_with op a b = word_layer op a (out-Const b)

abbrev pub text_layer : BinOp → List ℕ → Const-F Const → Option Const
text_layer op a (Const-F.Str b) = joined op a b
text_layer op a other = None

abbrev pub text_with : BinOp → List ℕ → Const → Option Const
text_with op a b = text_layer op a (out-Const b)

abbrev pub binary_layer : BinOp → Const-F Const → Const → Option Const
binary_layer op (Const-F.Word a) b = word_with op a b
binary_layer op (Const-F.Str a) b = text_with op a b
binary_layer op other b = None

abbrev pub binary_of : BinOp → Const → Const → Option Const
binary_of op a b = binary_layer op (out-Const a) b

abbrev pub binary_value : BinOp → Option Const → Option Const → Option Const
binary_value op None b = None
binary_value op (Some a) None = None
binary_value op (Some a) (Some b) = binary_of op a b

-- ---- displays

abbrev pub Pairs : Type 0
Pairs = List (Const × Const)

abbrev pub with_item : Option Pairs → Option Const → Option Pairs
with_item None item = None
with_item (Some pairs) None = None
with_item (Some pairs) (Some item) = Some (pairs ++ (const.None, item) ∷ [])

abbrev pub items_onto : ℕ → List Slot → Option Pairs → Option Pairs
items_onto zero taken pairs = pairs
items_onto (suc n) taken pairs = items_onto n (without_last taken) (with_item pairs (last_slot taken).value)

abbrev pub list_contents : List Slot → Option Pairs
list_contents taken = items_onto (length taken) taken (Some [])

abbrev pub place_from : ℕ → Pairs → Const → ℕ
place_from at [] key = at
place_from at (p ∷ ps) key = if same p.0 key then at else place_from (at + 1) ps key

-- the place of a key, or the count of the pairs
abbrev pub place_of : Pairs → Const → ℕ
place_of pairs key = place_from 0 pairs key

-- a key keeps its place, or goes last
abbrev pub store : Pairs → Const → Const → Pairs
store pairs key value = if nat_lt (place_of pairs key) (length pairs) then slice_set pairs (place_of pairs key) (key, value) else pairs ++ (key, value) ∷ []

abbrev pub with_pair : Option Pairs → Option Const → Option Const → Option Pairs
with_pair None key value = None
with_pair (Some pairs) None value = None
with_pair (Some pairs) (Some key) None = None
with_pair (Some pairs) (Some key) (Some value) = Some (store pairs key value)

abbrev pub pairs_onto : ℕ → List Slot → Option Pairs → Option Pairs
pairs_onto zero taken pairs = pairs
pairs_onto (suc n) taken pairs = pairs_onto n (without_last (without_last taken)) (with_pair pairs (last_slot taken).value (last_slot (without_last taken)).value)

abbrev pub dict_contents : List Slot → ℕ → Option Pairs
dict_contents taken count = pairs_onto count taken (Some [])

-- ---- arguments of calls

abbrev pub is_not_zero : ℤ → Bool
is_not_zero (pos n) = nat_lt 0 n
is_not_zero (negsuc n) = true

abbrev pub step_layer : Const-F Const → Bool
step_layer (Const-F.Word w) = is_not_zero w
step_layer other = false

-- a word that is not zero
abbrev pub is_step : Option Const → Bool
is_step None = false
is_step (Some c) = step_layer (out-Const c)

abbrev pub is_word_one : ℤ → Bool
is_word_one (pos n) = n == 1
is_word_one (negsuc n) = false

abbrev pub one_layer : Const-F Const → Bool
one_layer (Const-F.Word w) = is_word_one w
one_layer other = false

abbrev pub is_one : Option Const → Bool
is_one None = false
is_one (Some c) = one_layer (out-Const c)

abbrev pub step_fault : Option Slot → Option Fault
step_fault None = None
step_fault (Some slot) = fault_if (not (is_step slot.value)) slot.node fault.BadConstant

abbrev pub write_fault : Option Slot → Option Fault
write_fault None = None
write_fault (Some slot) = fault_if (not (is_one slot.value)) slot.node fault.BadConstant

-- the third argument of a range, and the first of os.write, of arguments that were taken last one first
abbrev pub call_fault : Called → List Slot → Option Fault
call_fault called.Range args = step_fault (slice_get args 0)
call_fault called.Write args = write_fault (slice_get args (length args - 1))
call_fault other args = None

abbrev pub root_of : ℕ → Option Const → Option Root
root_of node None = None
root_of node (Some c) = Some (record { node = node; value = c })

abbrev pub step_root : Option Slot → Option Root
step_root None = None
step_root (Some slot) = root_of slot.node slot.value

-- the third argument of a range is constant, and has a value where it ends
abbrev pub call_root : Called → List Slot → Option Root
call_root called.Range args = step_root (slice_get args 0)
call_root other args = None

abbrev pub with_root : Option Root → List Root → List Root
with_root None roots = roots
with_root (Some root) roots = roots ++ root ∷ []

-- ---- words in bodies

abbrev pub word_layer_of : Const-F Const → Option ℤ
word_layer_of (Const-F.Word w) = Some w
word_layer_of other = None

abbrev pub word_const : Option Const → Option ℤ
word_const None = None
word_const (Some c) = word_layer_of (out-Const c)

abbrev pub word_at : List (Option Const) → ℕ → Option ℤ
word_at constants number = word_const (constant_at constants number)

abbrev pub word_of : List (Option Const) → Stand → Option ℤ
word_of constants stand.MaxInt = Some (pos 9223372036854775807)
word_of constants (stand.Constant number) = word_at constants number
word_of constants other = None

abbrev pub word_in : List (Option Const) → Stand → Bool → Option Const
word_in constants s late = if late then None else word (word_of constants s)

-- ---- steps

-- nothing waits yet
abbrev pub start : List Prebuilt → List Root → Machine
start prebuilt roots = record { slots = []; prebuilt = prebuilt; roots = roots; fault = None }

abbrev pub push : ℕ → Option Const → Machine → Machine
push node value m = record m { slots = m.slots ++ record { node = node; value = value } ∷ [] }

abbrev pub tuple_of : Option (List Const) → Option Const
tuple_of None = None
tuple_of (Some values) = Some (const.Tuple values)

abbrev pub with_slots : List Slot → Machine → Machine
with_slots slots m = record m { slots = slots }

abbrev pub tuple_with : ℕ → List Slot × List Slot → Machine → Machine
tuple_with node taken m = push node (tuple_of (values_of taken.0)) (with_slots taken.1 m)

abbrev pub tuple : ℕ → ℕ → Machine → Machine
tuple node count m = tuple_with node (take_slots count m.slots) m

abbrev pub prebuild : ℕ → Pairs → Machine → Machine
prebuild site pairs m = record m { prebuilt = m.prebuilt ++ record { site = site; pairs = pairs } ∷ [] }

abbrev pub build : ℕ → ℕ → Const → Option Pairs → Machine → Machine
build node site made None m = push node None m
build node site made (Some pairs) m = push node (Some made) (prebuild site pairs m)

abbrev pub list_with : ℕ → ℕ → List Slot × List Slot → Machine → Machine
list_with node site taken m = build node site (const.List (narrow site)) (list_contents taken.0) (with_slots taken.1 m)

abbrev pub list : ℕ → ℕ → ℕ → Machine → Machine
list node count site m = list_with node site (take_slots count m.slots) m

abbrev pub dict_with : ℕ → ℕ → ℕ → List Slot × List Slot → Machine → Machine
dict_with node count site taken m = build node site (const.Dict (narrow site)) (dict_contents taken.0 count) (with_slots taken.1 m)

abbrev pub dict : ℕ → ℕ → ℕ → Machine → Machine
dict node count site m = dict_with node count site (take_slots (count * 2) m.slots) m

abbrev pub call_with : ℕ → Called → List Slot × List Slot → Machine → Machine
call_with node c taken m = push node None (record m { slots = without 1 taken.1; roots = with_root (call_root c taken.0) m.roots; fault = lesser m.fault (call_fault c taken.0) })

abbrev pub call : ℕ → ℕ → Called → Machine → Machine
call node count c m = call_with node c (take_slots count m.slots) m

abbrev pub push_if : Bool → ℕ → Machine → Machine
push_if is node m = if is then push node None m else m

abbrev pub other : ℕ → Act → Machine → Machine
other node a m = push_if (is_part a) node (with_slots (without (taken_besides a) (without (taken a) m.slots)) m)

abbrev pub attr : ℕ → Option Const → Machine → Machine
attr node value m = push node value (with_slots (without 1 m.slots) m)

abbrev pub unary : ℕ → UnOp → Machine → Machine
unary node op m = push node (unary_value op (last_slot m.slots).value) (with_slots (without_last m.slots) m)

abbrev pub binary : ℕ → BinOp → Machine → Machine
binary node op m = push node (binary_value op (last_slot (without_last m.slots)).value (last_slot m.slots).value) (with_slots (without_last (without_last m.slots)) m)

abbrev pub act_step : List (List ℕ) → List (Option Const) → Step → Act → Machine → Machine
act_step names constants s (act.Int v) m = push s.node (Some (const.Word v)) m
act_step names constants s (act.Str name) m = push s.node (text_value names name) m
act_step names constants s (act.Name name) m = push s.node (name_value constants s.stand s.late) m
act_step names constants s (act.Attr name) m = attr s.node (name_value constants s.stand s.late) m
act_step names constants s (act.Unary op) m = unary s.node op m
act_step names constants s (act.Binary op) m = binary s.node op m
act_step names constants s (act.Tuple count) m = tuple s.node count m
act_step names constants s (act.List count) m = list s.node count s.site m
act_step names constants s (act.Dict count) m = dict s.node count s.site m
act_step names constants s (act.Call count) m = call s.node count s.called m
act_step names constants s a m = other s.node a m

abbrev pub step : List (List ℕ) → List (Option Const) → Step → Machine → Machine
step names constants s m = act_step names constants s s.act m

-- a step of a body, where only words are constants
abbrev pub act_word : List (Option Const) → Step → Act → Machine → Machine
act_word constants s (act.Int v) m = push s.node (Some (const.Word v)) m
act_word constants s (act.Name name) m = push s.node (word_in constants s.stand s.late) m
act_word constants s (act.Attr name) m = attr s.node (word_in constants s.stand s.late) m
act_word constants s (act.Unary op) m = unary s.node op m
act_word constants s (act.Binary op) m = binary s.node op m
act_word constants s (act.Call count) m = call s.node count s.called m
act_word constants s a m = other s.node a m

abbrev pub word_step : List (Option Const) → Step → Machine → Machine
word_step constants s m = act_word constants s s.act m

abbrev pub run : List (List ℕ) → List (Option Const) → List Step → Machine → Machine
run names constants [] m = m
run names constants (s ∷ ss) m = run names constants ss (step names constants s m)

abbrev pub run_words : List (Option Const) → List Step → Machine → Machine
run_words constants [] m = m
run_words constants (s ∷ ss) m = run_words constants ss (word_step constants s m)
