-- Tuples: one block each.
use Rattle.std.specs.Prelude.{ℕ, ◌+◌, ◌-◌, if◌then◌else◌, List, [], ◌∷◌, length, slice_get, unwrap_or, ℤ, pos, negsuc, suc}
use Rattle.csub_tree.specs.declared.tree.CConst.TheVariants as constant
use Rattle.csub_tree.specs.declared.tree.COperand.{COperand}
use Rattle.csub_tree.specs.declared.tree.COperand.TheVariants.{Var, Const}
use Rattle.ll_code.specs.declared.program.LlType.{LlType}
use Rattle.ll_code.specs.declared.program.LlType.TheVariants as type
use Rattle.ll_code.specs.declared.program.LlOp.TheVariants as op
use Rattle.rtyper_layout.specs.Layout.{is_tuple, fields_in}
use Rattle.rtyper_data.specs.declared.body.Body.{Body}
use Rattle.rtyper_data.specs.Converting.{given, give, give_nothing}
use Rattle.rtyper_data.specs.Seen.{Around, Operand, Place, type_of, type_at, with_op, fresh, Writing, writing, push, set}

-- a variable with the value of an operand
unfoldable pub variable_of : COperand → LlType → Body → ℕ × Body
variable_of (Var v) t body = (v, body)
variable_of (Const c) t body = ((fresh t body).0, with_op (op.Set (fresh t body).0 (Const c)) (fresh t body).1)

abbrev pub fields_of : Around → ℕ → List LlType
fields_of around n = fields_in (slice_get around.layout.structs n)

abbrev pub field_type_of : Around → ℕ → ℕ → LlType
field_type_of around n i = unwrap_or (slice_get (fields_of around n) i) type.Void

abbrev pub with_first : COperand × Writing → (Writing → List COperand × Writing) → List COperand × Writing
with_first made rest = (made.0 ∷ (rest made.1).0, (rest made.1).1)

-- the operands from a place on, as values of the fields' types
abbrev pub parts_from : Around → ℕ → ℕ → List Operand → Writing → List COperand × Writing
parts_from around n i [] w = ([], w)
parts_from around n i (a ∷ args) w = with_first (given around a (field_type_of around n i) w) (λ next. parts_from around n (i + 1) args next)

-- all fields from a place on are set
abbrev pub set_fields : ℕ → ℕ → ℕ → List COperand → Body → Body
set_fields n tuple i [] body = body
set_fields n tuple i (x ∷ xs) body = set_fields n tuple (i + 1) xs (with_op (op.SetField n tuple i x) body)

-- the block is made once its parts have their types
abbrev pub tuple_with : ℕ → List COperand × Writing → ℕ × Writing
tuple_with n parts = ((fresh (type.Ptr n) parts.1.body).0, writing parts.1.found (set_fields n (fresh (type.Ptr n) parts.1.body).0 0 parts.0 (with_op (op.New (fresh (type.Ptr n) parts.1.body).0 n n) (fresh (type.Ptr n) parts.1.body).1)))

unfoldable pub tuple_made : Around → ℕ → List Operand → Writing → ℕ × Writing
tuple_made around n args w = tuple_with n (parts_from around n 0 args w)

abbrev pub put_tuple : Place → ℕ × Writing → Writing
put_tuple place made = set place.variable (Var made.0, made.1)

abbrev pub tuple_to : Around → Place → List Operand → LlType → Writing → Writing
tuple_to around place args (type.Ptr n) w = if is_tuple around.layout n then put_tuple place (tuple_made around n args w) else w
tuple_to around place args t w = writing w.found (give_nothing around place w.body)

-- a display
abbrev pub tuple_of : Around → Place → List Operand → Writing → Writing
tuple_of around place args w = tuple_to around place args (type_at around place) (push (op.Step (Const (constant.Word (pos 1)))) w)

abbrev pub field_read : Around → Place → ℕ → ℕ → LlType → ℕ × Body → Writing → Writing
field_read around place n i type.Void tuple w = writing w.found (give_nothing around place tuple.1)
field_read around place n i t tuple w = give around place (Var (fresh t tuple.1).0) t (writing w.found (with_op (op.GetField (fresh t tuple.1).0 n tuple.0 i) (fresh t tuple.1).1))

abbrev pub item_by : Around → Place → Operand → ℕ → LlType → Writing → Writing
item_by around place a i (type.Ptr n) w = field_read around place n i (field_type_of around n i) (variable_of a.x (type.Ptr n) w.body) w
item_by around place a i t w = writing w.found (give_nothing around place w.body)

-- the item at a place
abbrev pub item_of : Around → Place → Operand → ℕ → Writing → Writing
item_of around place a i w = item_by around place a i (type_of around a) w

abbrev pub length_by : Around → LlType → ℕ
length_by around (type.Ptr n) = length (fields_of around n)
length_by around t = 0

abbrev pub length_of : Around → Operand → ℕ
length_of around a = length_by around (type_of around a)

-- the place that an index names: one below zero counts from the end
abbrev pub place_of : ℤ → ℕ → ℕ
place_of (pos i) length = i
place_of (negsuc i) length = length - suc i
