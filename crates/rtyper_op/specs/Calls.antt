-- Calls of functions by their names.
use Rattle.std.specs.Prelude.{ℕ, ◌+◌, List, [], ◌∷◌, ◌++◌, slice_get, unwrap_or, Option, Some, None}
use Rattle.csub_tree.specs.declared.tree.CConst.{CConst}
use Rattle.csub_tree.specs.declared.tree.COperand.{COperand}
use Rattle.csub_tree.specs.declared.tree.COperand.TheVariants.{Const as held}
use Rattle.ll_code.specs.declared.program.LlType.{LlType}
use Rattle.ll_code.specs.declared.program.LlType.TheVariants as type
use Rattle.ll_code.specs.declared.program.LlOp.TheVariants as op
use Rattle.ann_element.specs.declared.element.Element.{Element}
use Rattle.rpy_resolved.specs.declared.tree.Function.{Function}
use Rattle.rpy_tree.specs.declared.program.Const.{Const}
use Rattle.rtyper_layout.specs.Types.{type_of as type_of_element, type_seen}
use Rattle.rtyper_data.specs.declared.body.Body.{Body}
use Rattle.rtyper_data.specs.declared.found.Found.{Found}
use Rattle.rtyper_op.specs.Constants.{constant_of}
use Rattle.rtyper_data.specs.Converting.{default_operand, given, give_nothing, landing, landed}
use Rattle.rtyper_data.specs.Seen.{Around, Operand, Place, with_op, Writing, writing}

abbrev pub held_constant : CConst × Found → COperand × Found
held_constant made = (held made.0, made.1)

abbrev pub constant_for : Around → Option (Option Const) → LlType → Found → COperand × Found
constant_for around (Some (Some c)) to found = held_constant (constant_of around c to found)
constant_for around (Some None) to found = (default_operand to, found)
constant_for around None to found = (default_operand to, found)

-- the constant that stands in for an argument
unfoldable pub stand_in : Around → Option Function → ℕ → LlType → Found → COperand × Found
stand_in around None i to found = (default_operand to, found)
stand_in around (Some f) i to found = constant_for around (slice_get f.defaults i) to found

abbrev pub beside : Body → COperand × Found → COperand × Writing
beside body made = (made.0, writing made.1 body)

abbrev pub argument : Around → Option Function → ℕ → Option Operand → LlType → Writing → COperand × Writing
argument around f i (Some a) to w = given around a to w
argument around f i None to w = beside w.body (stand_in around f i to w.found)

-- a parameter that no value comes to has none
unfoldable pub argument_if : Around → Option Function → ℕ → Option Operand → LlType → Writing → List COperand × Writing
argument_if around f i a type.Void w = ([], w)
argument_if around f i a to w = one (argument around f i a to w)
  where
    one : COperand × Writing → List COperand × Writing
    one made = (made.0 ∷ [], made.1)

-- those of the parameters from a place on, behind others
abbrev pub arguments_from : Around → Option Function → List Operand → ℕ → List Element → List COperand × Writing → List COperand × Writing
arguments_from around f args i [] done = done
arguments_from around f args i (p ∷ params) done = arguments_from around f args (i + 1) params (joined done.0 (argument_if around f i (slice_get args i) (type_of_element around.layout p) done.1))
  where
    joined : List COperand → List COperand × Writing → List COperand × Writing
    joined before more = (before ++ more.0, more.1)

abbrev pub number_of : Around → ℕ → ℕ
number_of around f = unwrap_or (slice_get around.numbers f) 0

abbrev pub arguments_for : Around → Option (List Element) → ℕ → List Operand → Writing → List COperand × Writing
arguments_for around None number args w = ([], w)
arguments_for around (Some params) number args w = arguments_from around (slice_get around.functions number) args 0 params ([], w)

-- the arguments as values of the parameters' types
unfoldable pub arguments : Around → ℕ → List Operand → Writing → List COperand × Writing
arguments around number args w = arguments_for around (slice_get around.params number) number args w

unfoldable pub call_giving : Around → Place → ℕ → LlType → List COperand × Writing → Writing
call_giving around place number type.Void xs = writing xs.1.found (give_nothing around place (with_op (op.Call None number xs.0) xs.1.body))
call_giving around place number gives xs = landed around place gives (λ v. op.Call (Some v) number xs.0) xs.1.found (landing around place gives xs.1.body)

-- a call of a function
abbrev pub call : Around → Place → ℕ → List Operand → Writing → Writing
call around place f args w = call_giving around place (number_of around f) (type_seen around.layout (slice_get around.results f)) (arguments around f args w)
