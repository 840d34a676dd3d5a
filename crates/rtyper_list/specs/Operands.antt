-- Operands that are lists, and how graphs of lists are called.
use Rattle.std.specs.Prelude.{ℕ, Bool, true, false, if◌then◌else◌, List, Option, Some, None}
use Rattle.csub_tree.specs.declared.tree.COperand.{COperand}
use Rattle.ll_code.specs.declared.program.LlType.{LlType}
use Rattle.ll_code.specs.declared.program.LlType.TheVariants.{Ptr}
use Rattle.ll_code.specs.declared.program.LlOp.TheVariants.{Call, GetItem}
use Rattle.rtyper_layout.specs.declared.kind.Kind.{Kind}
use Rattle.rtyper_layout.specs.declared.kind.Kind.TheVariants as kind
use Rattle.rtyper_layout.specs.declared.layout.Layout.{Layout}
use Rattle.rtyper_layout.specs.Layout.{is_list as is_list_struct}
use Rattle.rtyper_data.specs.declared.body.Body.{Body}
use Rattle.rtyper_data.specs.declared.found.Found.{Found}
use Rattle.rtyper_data.specs.declared.small.Listed.{Listed as Graph}
use Rattle.rtyper_data.specs.declared.small.Small.TheVariants.{Listed}
use Rattle.rtyper_data.specs.Converting.{by_small, give_made, present}
use Rattle.rtyper_data.specs.Seen.{Around, Operand, Place, type_of, type_at, kind_of, fresh, with_op, Writing, writing}
use Rattle.rtyper_data.specs.Tuples.{variable_of}
use Rattle.list_shape.specs.declared.shape.Shape.{Shape}
use Rattle.list_shape.specs.Shapes.{shape_of, array_read, new_by, number_of}

abbrev pub of_list : Kind → Bool
of_list kind.List = true
of_list kind.MaybeList = true
of_list _ = false

abbrev pub is_list : Operand → Bool
is_list a = of_list (kind_of a)

abbrev pub of_none : Kind → Bool
of_none kind.Nothing = true
of_none _ = false

abbrev pub is_none : Operand → Bool
is_none a = of_none (kind_of a)

abbrev pub of_list_or_none : Kind → Bool
of_list_or_none kind.MaybeList = true
of_list_or_none _ = false

abbrev pub pointed : LlType → ℕ
pointed (Ptr n) = n
pointed other = 0

-- the struct of a list
unfoldable pub list_of : Around → Operand → ℕ
list_of around a = pointed (type_of around a)

abbrev pub list_if : Layout → LlType → Option ℕ
list_if layout (Ptr n) = if is_list_struct layout n then Some n else None
list_if layout other = None

-- the struct of the list that a place takes, where it takes one
unfoldable pub list_at : Around → Place → Option ℕ
list_at around place = list_if around.layout (type_at around place)

-- the list itself; `None` fails
unfoldable pub there : Around → Operand → Writing → COperand × Writing
there around a w = present around a (of_list_or_none (kind_of a)) w

abbrev pub variable_in : LlType → COperand × Writing → ℕ × Writing
variable_in t made = ((variable_of made.0 t made.1.body).0, writing made.1.found (variable_of made.0 t made.1.body).1)

-- a variable with it
unfoldable pub there_in : Around → Operand → Writing → ℕ × Writing
there_in around a w = variable_in (type_of around a) (there around a w)

-- ---- calls of graphs

abbrev pub called_for_nothing : List COperand → ℕ × Found → Body → Writing
called_for_nothing xs number body = writing number.1 (with_op (Call None number.0 xs) body)

-- a graph without a result
unfoldable pub done_by : Graph → List COperand → Writing → Writing
done_by graph xs w = called_for_nothing xs (number_of graph w.found) w.body

-- the place takes what a graph gives
unfoldable pub give_listed : Around → Place → Graph → LlType → List COperand → Writing → Writing
give_listed around place graph gives xs w = give_made around place gives (by_small (Listed graph) gives xs w)

-- ---- arrays

-- a variable with the array of a list
unfoldable pub array_in : Shape → ℕ → Body → ℕ × Body
array_in s list body = ((fresh (Ptr s.array) body).0, with_op (array_read (fresh (Ptr s.array) body).0 s list) (fresh (Ptr s.array) body).1)

abbrev pub item_at : Shape → COperand → ℕ × Body → COperand × Body
item_at s at items = new_by s.item (λ v. GetItem v s.array items.0 at) items.1

-- the item at a place that is there
unfoldable pub read_item : Shape → ℕ → COperand → Body → COperand × Body
read_item s list at body = item_at s at (array_in s list body)
