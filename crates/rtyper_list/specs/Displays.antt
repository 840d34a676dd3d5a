-- Lists that are made.
use Rattle.std.specs.Prelude.{ℕ, ◌+◌, Bool, true, false, List, [], ◌∷◌, length, Option, Some, None, pos}
use Rattle.csub_tree.specs.declared.tree.COperand.{COperand}
use Rattle.csub_tree.specs.declared.tree.COperand.TheVariants.{Var}
use Rattle.ll_code.specs.declared.program.LlType.{LlType}
use Rattle.ll_code.specs.declared.program.LlType.TheVariants.{Ptr}
use Rattle.ll_code.specs.declared.program.LlOp.TheVariants.{SetItem, Step}
use Rattle.rtyper_data.specs.declared.body.Body.{Body}
use Rattle.rtyper_data.specs.declared.found.Found.{Found}
use Rattle.rtyper_data.specs.declared.small.Listed.TheVariants as listed
use Rattle.rtyper_data.specs.declared.small.Small.TheVariants.{Listed}
use Rattle.rtyper_data.specs.Converting.{by_small, given}
use Rattle.rtyper_op.specs.Lowering.{failure}
use Rattle.rtyper_data.specs.Numbers.{word}
use Rattle.rtyper_op.specs.Placing.{says_nothing}
use Rattle.rtyper_data.specs.Seen.{Around, Operand, Place, with_op, Writing, writing, push, set}
use Rattle.rtyper_data.specs.Tuples.{with_first}
use Rattle.list_shape.specs.declared.shape.Shape.{Shape}
use Rattle.list_shape.specs.Shapes.{shape_of, taking}
use Rattle.rtyper_list.specs.Operands.{list_of, list_at, there, variable_in, give_listed, array_in}

-- ---- displays

-- the operands as items of this type
abbrev pub items_as : Around → LlType → List Operand → Writing → List COperand × Writing
items_as around t [] w = ([], w)
items_as around t (a ∷ args) w = with_first (given around a t w) (items_as around t args)

-- all items from a place on are set
abbrev pub set_items : ℕ → ℕ → ℕ → List COperand → Body → Body
set_items array into i [] body = body
set_items array into i (x ∷ xs) body = set_items array into (i + 1) xs (with_op (SetItem array into (word (pos i)) x) body)

abbrev pub filled_in : ℕ → List COperand → ℕ × Body → Body
filled_in array items into = set_items array into.0 0 items into.1

-- the items of a list that was made
unfoldable pub filled : Shape → ℕ → List COperand → Body → Body
filled s list items body = filled_in s.array items (array_in s list body)

-- a list of so many items
unfoldable pub made : ℕ → ℕ → Writing → ℕ × Writing
made r count w = variable_in (Ptr r) (by_small (Listed (listed.Make r)) (Ptr r) (word (pos count) ∷ []) w)

abbrev pub put_list : Place → Shape → List COperand → ℕ × Writing → Writing
put_list place s items list = set place.variable (Var list.0, writing list.1.found (filled s list.0 items list.1.body))

-- the list is made once its items have their types
unfoldable pub display_of : Around → Place → ℕ → List Operand → Writing → Writing
display_of around place r args w = taking (items_as around (shape_of around.layout r).item args w) (λ items next. put_list place (shape_of around.layout r) items (made r (length args) next))

-- one more than so many items
abbrev pub cost_of : ℕ → COperand
cost_of items = word (pos (items + 1))

abbrev pub display_to : Around → Place → List Operand → Option ℕ → Writing → Writing
display_to around place args None w = says_nothing around place w
display_to around place args (Some r) w = display_of around place r args w

-- a display costs a step, and one for each item
unfoldable pub display : Around → Place → List Operand → Writing → Writing
display around place args w = display_to around place args (list_at around place) (push (Step (cost_of (length args))) w)

abbrev pub comprehension_to : Around → Place → Option ℕ → Writing → Writing
comprehension_to around place None w = says_nothing around place w
comprehension_to around place (Some r) w = give_listed around place (listed.Make r) (Ptr r) (word (pos 0) ∷ []) w

-- a comprehension begins with no items
unfoldable pub comprehension : Around → Place → Writing → Writing
comprehension around place w = comprehension_to around place (list_at around place) (push (Step (word (pos 1))) w)

-- ---- lists of other lists; what takes no list fails

abbrev pub concat_to : Around → Place → Operand → Operand → Option ℕ → Writing → Writing
concat_to around place a b None w = failure around place w
concat_to around place a b (Some r) w =
    taking (there around a w) (λ x next.
    taking (there around b next) (λ y last. give_listed around place (listed.Concat (list_of around a) (list_of around b) r) (Ptr r) (x ∷ y ∷ []) last))

unfoldable pub concat : Around → Place → Operand → Operand → Writing → Writing
concat around place a b w = concat_to around place a b (list_at around place) w

abbrev pub repeat_to : Around → Place → Operand → COperand → Option ℕ → Writing → Writing
repeat_to around place a times None w = failure around place w
repeat_to around place a times (Some r) w = taking (there around a w) (λ x next. give_listed around place (listed.Repeat (list_of around a) r) (Ptr r) (x ∷ times ∷ []) next)

unfoldable pub repeat : Around → Place → Operand → COperand → Writing → Writing
repeat around place a times w = repeat_to around place a times (list_at around place) w

-- an absent lower bound is the start, an absent upper one the end of any list
abbrev pub bounds : Bool → Bool → List Operand → COperand × COperand
bounds true true (b ∷ c ∷ more) = (b.x, c.x)
bounds true false (b ∷ more) = (b.x, word (pos 9223372036854775807))
bounds false true (b ∷ more) = (word (pos 0), b.x)
bounds low high args = (word (pos 0), word (pos 9223372036854775807))

abbrev pub slice_between : Around → Place → Operand → COperand × COperand → Option ℕ → Writing → Writing
slice_between around place a ends None w = failure around place w
slice_between around place a ends (Some r) w = taking (there around a w) (λ x next. give_listed around place (listed.Slice (list_of around a) r) (Ptr r) (x ∷ ends.0 ∷ ends.1 ∷ []) next)

unfoldable pub slice_of : Around → Place → Operand → COperand × COperand → Writing → Writing
slice_of around place a ends w = slice_between around place a ends (list_at around place) w

unfoldable pub slice : Around → Place → Bool → Bool → List Operand → Writing → Writing
slice around place low high [] w = failure around place w
slice around place low high (a ∷ args) w = slice_of around place a (bounds low high args) w

abbrev pub but_last_to : Around → Place → Operand → Option ℕ → Writing → Writing
but_last_to around place a None w = failure around place w
but_last_to around place a (Some r) w = taking (there around a w) (λ x next. give_listed around place (listed.ButLast (list_of around a) r) (Ptr r) (x ∷ []) next)

unfoldable pub but_last : Around → Place → Operand → Writing → Writing
but_last around place a w = but_last_to around place a (list_at around place) w
