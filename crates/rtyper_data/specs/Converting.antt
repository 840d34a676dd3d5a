-- Values of one type as values of another, and where results go.
use Rattle.std.specs.Prelude.{ℕ, ◌==◌, ◌&&◌, Bool, false, if◌then◌else◌, List, [], ◌∷◌, Some, pos}
use Rattle.csub_tree.specs.declared.tree.CConst.{CConst}
use Rattle.csub_tree.specs.declared.tree.CConst.TheVariants as constant
use Rattle.csub_tree.specs.declared.tree.COperand.{COperand}
use Rattle.csub_tree.specs.declared.tree.COperand.TheVariants.{Var, Const}
use Rattle.ll_code.specs.declared.program.LlType.{LlType}
use Rattle.ll_code.specs.declared.program.LlType.TheVariants as type
use Rattle.ll_code.specs.declared.program.LlOp.{LlOp}
use Rattle.ll_code.specs.declared.program.LlOp.TheVariants as op
use Rattle.ll_build.specs.declared.needs.Helper.{Helper}
use Rattle.ll_build.specs.declared.needs.Helper.TheVariants as helper
use Rattle.rtyper_layout.specs.declared.layout.Layout.{Layout}
use Rattle.rtyper_layout.specs.Layout.{is_tuple}
use Rattle.rtyper_data.specs.declared.body.Body.{Body}
use Rattle.rtyper_data.specs.declared.found.Found.{Found}
use Rattle.rtyper_data.specs.declared.small.Small.{Small}
use Rattle.rtyper_data.specs.declared.small.Small.TheVariants as small
use Rattle.rtyper_data.specs.Finding.{same_type, helper_number, small_number}
use Rattle.rtyper_data.specs.Seen.{Around, Operand, Place, type_of, type_at, with_op, fresh, Writing, writing, set}

-- a value of a type, where none is asked
abbrev pub default_constant : LlType → CConst
default_constant type.Signed = constant.Word (pos 0)
default_constant type.Void = constant.Word (pos 0)
default_constant type.Char = constant.Char 0
default_constant type.Bool = constant.Bool false
default_constant type.Fn = constant.Null
default_constant (type.Ptr n) = constant.Null

abbrev pub default_operand : LlType → COperand
default_operand t = Const (default_constant t)

-- ---- calls, whose results have variables of their own

abbrev pub called : LlType → List COperand → ℕ × Found → Body → COperand × Writing
called gives xs number body = (Var (fresh gives body).0, writing number.1 (with_op (op.Call (Some (fresh gives body).0) number.0 xs) (fresh gives body).1))

unfoldable pub helped : Helper → LlType → List COperand → Writing → COperand × Writing
helped h gives xs w = called gives xs (helper_number h w.found) w.body

unfoldable pub by_small : Small → LlType → List COperand → Writing → COperand × Writing
by_small s gives xs w = called gives xs (small_number s w.found) w.body

-- ---- conversions

-- from one type to another
abbrev pub converted : Layout → COperand → LlType → LlType → Writing → COperand × Writing
converted layout x type.Char (type.Ptr n) w = if n == 0 then helped helper.StrOfChar (type.Ptr n) (x ∷ []) w else (default_operand (type.Ptr n), w)
converted layout x (type.Ptr m) (type.Ptr n) w =
    if is_tuple layout m && is_tuple layout n then by_small (small.Cast m n) (type.Ptr n) (x ∷ []) w else (default_operand (type.Ptr n), w)
converted layout x from to w = (default_operand to, w)

unfoldable pub value_as : Layout → COperand → LlType → LlType → Writing → COperand × Writing
value_as layout x from to w = if same_type from to then (x, w) else converted layout x from to w

-- the operand as a value of a type
abbrev pub given : Around → Operand → LlType → Writing → COperand × Writing
given around a to w = value_as around.layout a.x (type_of around a) to w

-- the value itself, where it may be `None`, as which it fails
abbrev pub present : Around → Operand → Bool → Writing → COperand × Writing
present around a or_none w = if or_none then by_small (small.Present (type_of around a) w.found.covered.attribute) (type_of around a) (a.x ∷ []) w else (a.x, w)

-- ---- results

abbrev pub give_to : Around → Place → COperand → LlType → LlType → Writing → Writing
give_to around place x from type.Void w = w
give_to around place x from to w = set place.variable (value_as around.layout x from to w)

-- the place takes a value of a type
unfoldable pub give : Around → Place → COperand → LlType → Writing → Writing
give around place x from w = give_to around place x from (type_at around place) w

abbrev pub nothing_to : Place → LlType → Body → Body
nothing_to place type.Void body = body
nothing_to place t body = with_op (op.Set place.variable (default_operand t)) body

-- a value that says nothing
abbrev pub give_nothing : Around → Place → Body → Body
give_nothing around place body = nothing_to place (type_at around place) body

-- the variable that an operation sets: the place's own, where that has the type
abbrev pub landing : Around → Place → LlType → Body → ℕ × Body
landing around place gives body = if same_type (type_at around place) gives then (place.variable, body) else fresh gives body

abbrev pub land : Around → Place → ℕ → LlType → Writing → Writing
land around place v gives w = if v == place.variable then w else give around place (Var v) gives w

-- the place takes what an operation sets
abbrev pub landed : Around → Place → LlType → (ℕ → LlOp) → Found → ℕ × Body → Writing
landed around place gives o found v = land around place v.0 gives (writing found (with_op (o v.0) v.1))

abbrev pub give_op : Around → Place → LlType → (ℕ → LlOp) → Writing → Writing
give_op around place gives o w = landed around place gives o w.found (landing around place gives w.body)

abbrev pub give_called : Around → Place → LlType → List COperand → ℕ × Found → Body → Writing
give_called around place gives xs number body = landed around place gives (λ v. op.Call (Some v) number.0 xs) number.1 (landing around place gives body)

unfoldable pub give_helped : Around → Place → Helper → LlType → List COperand → Writing → Writing
give_helped around place h gives xs w = give_called around place gives xs (helper_number h w.found) w.body

abbrev pub give_made : Around → Place → LlType → COperand × Writing → Writing
give_made around place from made = give around place made.0 from made.1
