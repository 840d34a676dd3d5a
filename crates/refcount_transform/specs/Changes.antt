-- What the operations of a block become, with what is counted and dropped. Each stands before the rest of the block.
use Rattle.std.specs.Prelude.{ℕ, ◌+◌, ◌||◌, Bool, true, false, List, [], ◌∷◌, ◌++◌, Option, Some, None}
use Rattle.csub_tree.specs.declared.tree.CConst.TheVariants as constant
use Rattle.csub_tree.specs.declared.tree.COperand.{COperand}
use Rattle.csub_tree.specs.declared.tree.COperand.TheVariants.{Var, Const}
use Rattle.ll_code.specs.declared.program.LlType.{LlType}
use Rattle.ll_code.specs.declared.program.LlType.TheVariants as type
use Rattle.ll_code.specs.declared.program.LlOp.{LlOp}
use Rattle.ll_code.specs.declared.program.LlOp.TheVariants as op
use Rattle.ll_code.specs.declared.program.LlExit.{LlExit}
use Rattle.ll_code.specs.declared.program.LlExit.TheVariants as exit
use Rattle.std.specs.Prelude.{slice_get}
use Rattle.ll_live.specs.Live.{among, variables_in, reads, set_by, live}
use Rattle.refcount_transform.specs.declared.plan.Held.{Held}
use Rattle.refcount_transform.specs.declared.slots.Slots.{Slots}
use Rattle.refcount_transform.specs.Plan.{Plan, counts_at, root_of, referred, reference_given, is_counted, shifted, field_number, field_referred, items_referred, put_of, held_of, own_some}
use Rattle.refcount_transform.specs.Made.{call, null, word}

-- ---- what is the same for all blocks of a graph

pub record Around : Type 0 where
  pub plan : Plan
  pub types : List LlType

abbrev pub around_of : Plan → List LlType → Around
around_of plan types = record { plan = plan; types = types }

-- ---- references

-- the struct that a variable refers to, where that is counted
abbrev pub var_referred : Around → ℕ → Option ℕ
var_referred around v = reference_given around.plan.counted (slice_get around.types v)

-- NULL refers to nothing
abbrev pub operand_referred : Around → COperand → Option ℕ
operand_referred around (Var v) = var_referred around v
operand_referred around (Const (constant.Static n g)) = referred around.plan (type.Ptr n)
operand_referred around (Const other) = None

abbrev pub up_by : Around → COperand → Option ℕ → List LlOp → List LlOp
up_by around x None rest = rest
up_by around x (Some n) rest = call (counts_at around.plan n).up (x ∷ []) ∷ rest

-- one more reference, where the operand is one
abbrev pub up : Around → COperand → List LlOp → List LlOp
up around x rest = up_by around x (operand_referred around x) rest

abbrev pub down_by : Around → ℕ → Option ℕ → List LlOp → List LlOp
down_by around v None rest = rest
down_by around v (Some n) rest = call (counts_at around.plan n).down (Var v ∷ []) ∷ rest

-- one reference less, where the variable is one
abbrev pub down : Around → ℕ → List LlOp → List LlOp
down around v rest = down_by around v (var_referred around v) rest

abbrev pub ups : Around → List COperand → List LlOp → List LlOp
ups around [] rest = rest
ups around (x ∷ xs) rest = up around x (ups around xs rest)

-- ---- new blocks

abbrev pub nulls : ℕ → List Held → List LlOp → List LlOp
nulls v [] rest = rest
nulls v (h ∷ held) rest = op.SetField h.owner v h.number null ∷ nulls v held rest

abbrev pub header_by : Plan → ℕ → ℕ → Bool → List LlOp → List LlOp
header_by plan v n false rest = rest
header_by plan v n true rest =
    op.SetField (root_of plan n) v 0 (word 1) ∷ op.SetField (root_of plan n) v 1 (Const (constant.Fun (counts_at plan n).release)) ∷ nulls v (held_of plan n) rest

-- a new block has one reference, is released by the graph of its struct, and refers to nothing
abbrev pub header : Plan → ℕ → ℕ → List LlOp → List LlOp
header plan v n rest = header_by plan v n (is_counted plan n) rest

abbrev pub cleared_by : Plan → ℕ → ℕ → COperand → Option ℕ → List LlOp → List LlOp
cleared_by plan v n count None rest = rest
cleared_by plan v n count (Some m) rest = op.SetField n v (field_number plan n 0) count ∷ call ((counts_at plan n).items + 1) (Var v ∷ count ∷ []) ∷ rest

-- where its items are references it has their number, which its release reads, and they refer to nothing
abbrev pub cleared : Plan → ℕ → ℕ → COperand → List LlOp → List LlOp
cleared plan v n count rest = cleared_by plan v n count (items_referred plan n) rest

-- ---- writes

abbrev pub set_field_by : Plan → ℕ → ℕ → ℕ → COperand → Option ℕ → LlOp
set_field_by plan n b k x None = op.SetField n b (shifted plan n k) x
set_field_by plan n b k x (Some m) = call (put_of plan n k) (Var b ∷ x ∷ [])

abbrev pub set_field : Plan → ℕ → ℕ → ℕ → COperand → LlOp
set_field plan n b k x = set_field_by plan n b k x (field_referred plan n k)

abbrev pub set_item_by : Plan → ℕ → ℕ → COperand → COperand → Option ℕ → LlOp
set_item_by plan n b i x None = op.SetItem n b i x
set_item_by plan n b i x (Some m) = call (counts_at plan n).items (Var b ∷ i ∷ x ∷ [])

abbrev pub set_item : Plan → ℕ → ℕ → COperand → COperand → LlOp
set_item plan n b i x = set_item_by plan n b i x (items_referred plan n)

-- ---- exception slots

abbrev pub exc_clear_by : Slots → Bool → LlOp
exc_clear_by slots true = call slots.clear []
exc_clear_by slots false = op.ExcClear

-- what the slots hold is dropped
abbrev pub exc_clear : Slots → LlOp
exc_clear slots = exc_clear_by slots (own_some slots)

abbrev pub emptied_by : Slots → Bool → List LlOp → List LlOp
emptied_by slots true rest = call slots.clear [] ∷ rest
emptied_by slots false rest = rest

-- where they own something
abbrev pub emptied : Slots → List LlOp → List LlOp
emptied slots rest = emptied_by slots (own_some slots) rest

-- ---- one operation

-- one that changes no count
abbrev pub plain : LlOp → List LlOp
plain (op.Unary a o x) = op.Unary a o x ∷ []
plain (op.Binary a o x y) = op.Binary a o x y ∷ []
plain (op.Free a) = op.Free a ∷ []
plain (op.Step x) = op.Step x ∷ []
plain (op.Argc a) = op.Argc a ∷ []
plain (op.ArgLen a x) = op.ArgLen a x ∷ []
plain (op.Arg a x y) = op.Arg a x y ∷ []
plain (op.Put x) = op.Put x ∷ []
plain (op.Raise a) = op.Raise a ∷ []
plain other = []

-- what is read out of a block is one reference more, a call is given references of its own, and the slots take a reference each
abbrev pub changed : Around → LlOp → List LlOp → List LlOp
changed around (op.Set a x) rest = up around x (op.Set a x ∷ rest)
changed around (op.GetField a n b k) rest = op.GetField a n b (shifted around.plan n k) ∷ up around (Var a) rest
changed around (op.GetItem a n b i) rest = op.GetItem a n b i ∷ up around (Var a) rest
changed around (op.SetField n b k x) rest = set_field around.plan n b k x ∷ rest
changed around (op.SetItem n b i x) rest = set_item around.plan n b i x ∷ rest
changed around (op.New a m n) rest = op.New a m n ∷ header around.plan a n rest
changed around (op.NewArray a m n x) rest = op.NewArray a m n x ∷ header around.plan a n (cleared around.plan a n x rest)
changed around (op.Call into f xs) rest = ups around xs (op.Call into f xs ∷ rest)
changed around (op.CallFn into result params b xs) rest = ups around xs (op.CallFn into result params b xs ∷ rest)
changed around (op.ExcType a n) rest = op.ExcType a n ∷ up around (Var a) rest
changed around (op.ExcValue a n) rest = op.ExcValue a n ∷ up around (Var a) rest
changed around (op.ExcSet a b) rest = up around (Var a) (up around (Var b) (emptied around.plan.slots (op.ExcSet a b ∷ rest)))
changed around op.ExcClear rest = exc_clear around.plan.slots ∷ rest
changed around other rest = other ∷ rest

-- ---- what is dropped

abbrev pub down_unless : Bool → Around → ℕ → List LlOp → List LlOp
down_unless true around v rest = rest
down_unless false around v rest = down around v rest

-- each of these variables once, that operations and the exit behind them do not read before they set it
abbrev pub dead : Around → List ℕ → List LlOp → LlExit → List LlOp → List LlOp
dead around [] ops e rest = rest
dead around (v ∷ variables) ops e rest = down_unless (among v variables || live ops e v) around v (dead around variables ops e rest)

abbrev pub variable_set : Option ℕ → List ℕ
variable_set None = []
variable_set (Some a) = a ∷ []

-- the variables that an operation reads, and the one that it sets
abbrev pub touched : LlOp → List ℕ
touched o = reads o ++ variable_set (set_by o)

-- ---- what an exit gives on

abbrev pub is_given_later : COperand → List COperand → Bool
is_given_later (Var v) others = among v (variables_in others)
is_given_later (Const c) others = true

abbrev pub up_if : Bool → Around → COperand → List LlOp → List LlOp
up_if true around x rest = up around x rest
up_if false around x rest = rest

-- one more reference for each operand but the last occurrence of a variable
abbrev pub given : Around → List COperand → List LlOp → List LlOp
given around [] rest = rest
given around (x ∷ xs) rest = up_if (is_given_later x xs) around x (given around xs rest)

-- before an exit that is no test
abbrev pub leaving : Around → LlExit → List LlOp
leaving around (exit.Goto link) = given around link.args []
leaving around (exit.OnRaise a by without) = given around without.args []
leaving around (exit.Return (Some x)) = given around (x ∷ []) []
leaving around other = []

-- ---- all operations

abbrev pub ops_of : Around → List LlOp → LlExit → List LlOp
ops_of around [] e = leaving around e
ops_of around (o ∷ ops) e = changed around o (dead around (touched o) ops e (ops_of around ops e))
