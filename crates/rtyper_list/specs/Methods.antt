-- Lists that change, and strings and lists.
use Rattle.std.specs.Prelude.{ℕ, Bool, true, false, if◌then◌else◌, List, [], ◌∷◌, pos, negsuc, codes}
use Rattle.std.specs.Str.{bytes_eq}
use Rattle.csub_tree.specs.declared.tree.COperand.{COperand}
use Rattle.ll_code.specs.declared.program.LlType.TheVariants.{Ptr}
use Rattle.rtyper_layout.specs.declared.kind.Kind.{Kind}
use Rattle.rtyper_layout.specs.declared.kind.Kind.TheVariants as kind
use Rattle.rtyper_data.specs.declared.small.Listed.TheVariants as listed
use Rattle.rtyper_data.specs.Converting.{given, give, present}
use Rattle.rtyper_op.specs.Lowering.{failure}
use Rattle.rtyper_data.specs.Numbers.{word}
use Rattle.rtyper_op.specs.Placing.{says_nothing}
use Rattle.rtyper_data.specs.Seen.{Around, Operand, Place, type_of, kind_of, Writing}
use Rattle.std.specs.Prelude.{Option, Some, None}
use Rattle.list_shape.specs.Shapes.{taking}
use Rattle.rtyper_list.specs.Operands.{is_list, list_of, list_at, there, done_by, give_listed}
use Rattle.rtyper_list.specs.Items.{shape_in, pop}

-- an operand as an item of a list
unfoldable pub item_given : Around → Operand → Operand → Writing → COperand × Writing
item_given around a b w = given around b (shape_in around a).item w

unfoldable pub append : Around → Place → Operand → Operand → Writing → Writing
append around place a b w =
    taking (there around a w) (λ x next.
    taking (item_given around a b next) (λ y last. says_nothing around place (done_by (listed.Append (list_of around a)) (x ∷ y ∷ []) last)))

-- the item c before the place i
unfoldable pub insert : Around → Place → Operand → COperand → Operand → Writing → Writing
insert around place a i c w =
    taking (there around a w) (λ x next.
    taking (item_given around a c next) (λ y last. says_nothing around place (done_by (listed.Insert (list_of around a)) (x ∷ i ∷ y ∷ []) last)))

abbrev pub extended : Around → Place → Operand → COperand → Bool → Writing → Writing
extended around place a x true w = give around place x (type_of around a) w
extended around place a x false w = says_nothing around place w

unfoldable pub extend_by : Around → Place → Operand → COperand → Operand → Bool → Writing → Writing
extend_by around place a x b gives w =
    taking (there around b w) (λ y last. extended around place a x gives (done_by (listed.Extend (list_of around a) (list_of around b)) (x ∷ y ∷ []) last))

abbrev pub extend_if : Bool → Around → Place → Operand → COperand → Operand → Bool → Writing → Writing
extend_if true around place a x b gives w = extend_by around place a x b gives w
extend_if false around place a x b gives w = failure around place w

-- `extend`, and `+=`, which gives the list
unfoldable pub extend : Around → Place → Operand → Operand → Bool → Writing → Writing
extend around place a b gives w = taking (there around a w) (λ x next. extend_if (is_list b) around place a x b gives next)

unfoldable pub reverse : Around → Place → Operand → Writing → Writing
reverse around place a w = taking (there around a w) (λ x next. says_nothing around place (done_by (listed.Reverse (list_of around a)) (x ∷ []) next))

-- ---- methods of lists, by their names

unfoldable pub of_one : Around → Place → List ℕ → Operand → Writing → Writing
of_one around place name a w =
    if bytes_eq name (codes "pop") then pop around place a (word (negsuc 0)) w
    else if bytes_eq name (codes "reverse") then reverse around place a w
    else w

unfoldable pub of_two : Around → Place → List ℕ → Operand → Operand → Writing → Writing
of_two around place name a b w =
    if bytes_eq name (codes "append") then append around place a b w
    else if bytes_eq name (codes "extend") then extend around place a b false w
    else if bytes_eq name (codes "pop") then pop around place a b.x w
    else w

unfoldable pub of_three : Around → Place → List ℕ → Operand → Operand → Operand → Writing → Writing
of_three around place name a b c w = if bytes_eq name (codes "insert") then insert around place a b.x c w else w

unfoldable pub method : Around → Place → List ℕ → List Operand → Writing → Writing
method around place name (a ∷ []) w = of_one around place name a w
method around place name (a ∷ b ∷ []) w = of_two around place name a b w
method around place name (a ∷ b ∷ c ∷ []) w = of_three around place name a b c w
method around place name args w = w

-- ---- strings and lists

unfoldable pub join : Around → Place → Operand → Operand → Writing → Writing
join around place a b w =
    taking (given around a (Ptr 0) w) (λ x next.
    taking (there around b next) (λ y last. give_listed around place (listed.Join (list_of around b)) (Ptr 0) (x ∷ y ∷ []) last))

abbrev pub of_text_or_none : Kind → Bool
of_text_or_none kind.MaybeText = true
of_text_or_none _ = false

abbrev pub with_value : Operand → COperand → Operand
with_value a x = record { x = x; element = a.element }

-- the string itself; `None` fails
unfoldable pub text_there : Around → Operand → Writing → COperand × Writing
text_there around a w = taking (present around a (of_text_or_none (kind_of a)) w) (λ x next. given around (with_value a x) (Ptr 0) next)

abbrev pub split_to : Around → Place → Operand → COperand → Option ℕ → Writing → Writing
split_to around place a byte None w = failure around place w
split_to around place a byte (Some r) w = taking (text_there around a w) (λ x next. give_listed around place (listed.Split r) (Ptr r) (x ∷ byte ∷ []) next)

unfoldable pub split : Around → Place → Operand → COperand → Writing → Writing
split around place a byte w = split_to around place a byte (list_at around place) w
