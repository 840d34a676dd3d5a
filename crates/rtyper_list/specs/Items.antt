-- Items of lists, and walks.
use Rattle.std.specs.Prelude.{ℕ, Bool, List, [], ◌∷◌}
use Rattle.csub_tree.specs.declared.tree.CBinary.TheVariants.{Lt}
use Rattle.csub_tree.specs.declared.tree.COperand.{COperand}
use Rattle.csub_tree.specs.declared.tree.COperand.TheVariants.{Var}
use Rattle.ll_code.specs.declared.program.LlType.TheVariants.{Signed, Bool as Flag}
use Rattle.ll_code.specs.declared.program.LlOp.TheVariants.{SetItem}
use Rattle.rtyper_data.specs.declared.body.Body.{Body}
use Rattle.rtyper_data.specs.declared.found.Found.{Found}
use Rattle.rtyper_data.specs.declared.small.Listed.TheVariants as listed
use Rattle.rtyper_data.specs.declared.small.Small.TheVariants.{Listed}
use Rattle.rtyper_data.specs.Comparing.{opposite_of}
use Rattle.rtyper_data.specs.Converting.{by_small, given, give, give_made}
use Rattle.rtyper_data.specs.Numbers.{give_binary}
use Rattle.rtyper_op.specs.Placing.{says_nothing}
use Rattle.rtyper_data.specs.Seen.{Around, Operand, Place, type_of, with_op, Writing, writing}
use Rattle.rtyper_data.specs.Tuples.{variable_of}
use Rattle.list_shape.specs.declared.shape.Shape.{Shape}
use Rattle.list_shape.specs.Shapes.{shape_of, length_read, new_by, taking}
use Rattle.rtyper_list.specs.Operands.{list_of, there, there_in, done_by, array_in, read_item}

abbrev pub shape_in : Around → Operand → Shape
shape_in around a = shape_of around.layout (list_of around a)

-- the place that an index names
unfoldable pub placed : ℕ → ℕ → COperand → Writing → COperand × Writing
placed list x index w = by_small (Listed (listed.Place list w.found.covered.index)) Signed (Var x ∷ index ∷ []) w

-- an item of a list: the variable of the list, the place, and the item
abbrev pub give_item : Around → Place → Shape → Found → COperand × Body → Writing
give_item around place s found item = give around place item.0 s.item (writing found item.1)

unfoldable pub index : Around → Place → Operand → COperand → Writing → Writing
index around place a i w =
    taking (there_in around a w) (λ x next.
    taking (placed (list_of around a) x i next) (λ at last. give_item around place (shape_in around a) last.found (read_item (shape_in around a) x at last.body)))

abbrev pub stored_in : Shape → COperand → COperand → ℕ × Body → Body
stored_in s at value items = with_op (SetItem s.array items.0 at value) items.1

-- the item at a place is another
unfoldable pub stored : Shape → ℕ → COperand → COperand → Body → Body
stored s list at value body = stored_in s at value (array_in s list body)

unfoldable pub store : Around → Place → Operand → COperand → Operand → Writing → Writing
store around place a i c w =
    taking (there_in around a w) (λ x next.
    taking (placed (list_of around a) x i next) (λ at then.
    taking (given around c (shape_in around a).item then) (λ value last. give around place c.x (type_of around c) (writing last.found (stored (shape_in around a) x at value last.body)))))

unfoldable pub delete : Around → Place → Operand → COperand → Writing → Writing
delete around place a i w =
    taking (there_in around a w) (λ x next.
    taking (placed (list_of around a) x i next) (λ at last. says_nothing around place (done_by (listed.Remove (list_of around a)) (Var x ∷ at ∷ []) last)))

abbrev pub popped : Around → Place → Operand → ℕ → COperand → Found → COperand × Body → Writing
popped around place a x at found item = give around place item.0 (shape_in around a).item (done_by (listed.Remove (list_of around a)) (Var x ∷ at ∷ []) (writing found item.1))

-- the item is read, and then taken out
unfoldable pub pop : Around → Place → Operand → COperand → Writing → Writing
pop around place a i w =
    taking (there_in around a w) (λ x next.
    taking (placed (list_of around a) x i next) (λ at last. popped around place a x at last.found (read_item (shape_in around a) x at last.body)))

-- ---- walks: the list, and a place

abbrev pub length_in : Shape → ℕ × Body → COperand × Body
length_in s list = new_by Signed (λ v. length_read v s list.0) list.1

abbrev pub below : Around → Place → COperand → Found → COperand × Body → Writing
below around place at found end = give_binary around place Lt Flag at end.0 (writing found end.1)

-- whether an item is there
unfoldable pub has_item : Around → Place → Operand → COperand → Writing → Writing
has_item around place a at w = below around place at w.found (length_in (shape_in around a) (variable_of a.x (type_of around a) w.body))

abbrev pub walked : Around → Place → Shape → COperand → Found → ℕ × Body → Writing
walked around place s at found list = give_item around place s found (read_item s list.0 at list.1)

-- the item that is there
unfoldable pub walk_item : Around → Place → Operand → COperand → Writing → Writing
walk_item around place a at w = walked around place (shape_in around a) at w.found (variable_of a.x (type_of around a) w.body)

abbrev pub give_length : Around → Place → Found → COperand × Body → Writing
give_length around place found end = give around place end.0 Signed (writing found end.1)

unfoldable pub len : Around → Place → Operand → Writing → Writing
len around place a w = taking (there_in around a w) (λ x next. give_length around place next.found (length_in (shape_in around a) (x, next.body)))

-- what a `for` walks is the list itself
unfoldable pub walk : Around → Place → Operand → Writing → Writing
walk around place a w = taking (there around a w) (λ x next. give around place x (type_of around a) next)

-- whether a value is among the items, or is not
unfoldable pub is_within : Around → Bool → Operand → Operand → Writing → COperand × Writing
is_within around reversed a b w =
    taking (there around b w) (λ y next. opposite_of reversed (by_small (Listed (listed.Contains (type_of around a) (list_of around b))) Flag (a.x ∷ y ∷ []) next))

unfoldable pub within : Around → Place → Bool → Operand → Operand → Writing → Writing
within around place reversed a b w = give_made around place Flag (is_within around reversed a b w)
