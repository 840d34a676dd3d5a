-- The lowering of operations on lists. Where no operand is a list, an operation is lowered as others are.
use Rattle.std.specs.Prelude.{ℕ, ◌&&◌, not, Bool, true, false, if◌then◌else◌, List, [], ◌∷◌, None, codes}
use Rattle.std.specs.Str.{bytes_eq}
use Rattle.rpy_meaning.specs.declared.row.RowOp.{RowOp}
use Rattle.rpy_meaning.specs.declared.row.RowOp.TheVariants as row
use Rattle.rpy_tree.specs.declared.syntax.BinOp.{BinOp}
use Rattle.rpy_tree.specs.declared.syntax.BinOp.TheVariants as bin
use Rattle.rpy_tree.specs.declared.syntax.CmpOp.TheVariants as compared
use Rattle.rtyper_layout.specs.declared.kind.Kind.{Kind}
use Rattle.rtyper_layout.specs.declared.kind.Kind.TheVariants as kind
use Rattle.rtyper_layout.specs.Kinds.{is_text_or_none}
use Rattle.rtyper_op.specs.Lowering.{failure, is_never, lower_op}
use Rattle.rtyper_data.specs.Seen.{Around, Operand, Place, kind_of, Writing}
use Rattle.rtyper_list.specs.Operands.{is_list, is_none}
use Rattle.rtyper_list.specs.Displays.{display, comprehension, concat, repeat, slice, but_last}
use Rattle.rtyper_list.specs.Items.{index, store, delete, has_item, walk_item, len, walk, within}
use Rattle.rtyper_list.specs.Methods.{append, extend, method, join, split}

-- ---- what needs another value and meets `None`

abbrev pub first_is_none : List Operand → Bool
first_is_none [] = false
first_is_none (a ∷ args) = is_none a

abbrev pub only_second_is_none : List Operand → Bool
only_second_is_none (a ∷ b ∷ []) = is_none b && not (is_none a)
only_second_is_none args = false

abbrev pub fails : RowOp → List Operand → Bool
fails row.StoreIndex args = first_is_none args
fails row.DeleteIndex args = first_is_none args
fails (row.Compare compared.Within) args = only_second_is_none args
fails (row.Compare compared.NotWithin) args = only_second_is_none args
fails o args = false

-- ---- methods, also those of strings that take or make lists

abbrev pub joins : Operand → Operand → Bool
joins a b = is_list b && (is_text_or_none (kind_of a) && not (is_none a))

abbrev pub of_byte : Kind → Bool
of_byte kind.Byte = true
of_byte _ = false

abbrev pub is_byte : Operand → Bool
is_byte a = of_byte (kind_of a)

abbrev pub splits : Operand → Operand → Bool
splits a b = is_byte b && (not (is_none a) && not (is_list a))

abbrev pub first_is_list : List Operand → Bool
first_is_list [] = false
first_is_list (a ∷ args) = is_list a

unfoldable pub method_of_list : Around → RowOp → Place → List ℕ → List Operand → Writing → Writing
method_of_list around o place name args w = if first_is_list args then method around place name args w else lower_op around o place args w

unfoldable pub joined : Around → RowOp → Place → Operand → Operand → Writing → Writing
joined around o place a b w = if joins a b then join around place a b w else lower_op around o place (a ∷ b ∷ []) w

unfoldable pub split_by : Around → RowOp → Place → Operand → Operand → Writing → Writing
split_by around o place a b w = if splits a b then split around place a b.x w else lower_op around o place (a ∷ b ∷ []) w

unfoldable pub method_of_two : Around → RowOp → Place → List ℕ → Operand → Operand → Writing → Writing
method_of_two around o place name a b w =
    if bytes_eq name (codes "join") then joined around o place a b w
    else if bytes_eq name (codes "split") then split_by around o place a b w
    else method_of_list around o place name (a ∷ b ∷ []) w

unfoldable pub method_of : Around → RowOp → Place → List ℕ → List Operand → Writing → Writing
method_of around o place name (a ∷ b ∷ []) w = method_of_two around o place name a b w
method_of around o place name args w = method_of_list around o place name args w

-- ---- operations whose first operand is a list

unfoldable pub first_of_one : Around → RowOp → Place → Operand → Writing → Writing
first_of_one around row.Len place a w = len around place a w
first_of_one around (row.AllButLast site) place a w = but_last around place a w
first_of_one around (row.Walk site) place a w = walk around place a w
first_of_one around o place a w = lower_op around o place (a ∷ []) w

-- a sum of a list and `None` fails
unfoldable pub sum : Around → Place → Operand → Operand → Writing → Writing
sum around place a b w = if is_list a && is_list b then concat around place a b w else failure around place w

-- ---- operations whose second operand is a list

unfoldable pub within_or : Around → RowOp → Place → Bool → Operand → Operand → Writing → Writing
within_or around o place reversed a b w = if is_list b then within around place reversed a b w else lower_op around o place (a ∷ b ∷ []) w

unfoldable pub sum_or : Around → RowOp → Place → Operand → Operand → Writing → Writing
sum_or around o place a b w = if is_list b && is_none a then failure around place w else lower_op around o place (a ∷ b ∷ []) w

unfoldable pub second_of_two : Around → RowOp → Place → Operand → Operand → Writing → Writing
second_of_two around (row.Compare compared.Within) place a b w = within_or around (row.Compare compared.Within) place false a b w
second_of_two around (row.Compare compared.NotWithin) place a b w = within_or around (row.Compare compared.NotWithin) place true a b w
second_of_two around (row.Binary bin.Add site) place a b w = sum_or around (row.Binary bin.Add site) place a b w
second_of_two around row.AddTo place a b w = sum_or around row.AddTo place a b w
second_of_two around o place a b w = lower_op around o place (a ∷ b ∷ []) w

unfoldable pub first_of_two : Around → RowOp → Place → Operand → Operand → Writing → Writing
first_of_two around (row.Index i) place a b w = index around place a b.x w
first_of_two around row.DeleteIndex place a b w = delete around place a b.x w
first_of_two around (row.Binary bin.Add site) place a b w = sum around place a b w
first_of_two around (row.Binary bin.Mul site) place a b w = repeat around place a b.x w
first_of_two around row.AddTo place a b w = extend around place a b true w
first_of_two around row.AddItem place a b w = append around place a b w
first_of_two around (row.HasItem None) place a b w = has_item around place a b.x w
first_of_two around (row.Item None) place a b w = walk_item around place a b.x w
first_of_two around o place a b w = second_of_two around o place a b w

unfoldable pub of_two : Around → RowOp → Place → Operand → Operand → Writing → Writing
of_two around o place a b w = if is_list a then first_of_two around o place a b w else second_of_two around o place a b w

unfoldable pub of_one : Around → RowOp → Place → Operand → Writing → Writing
of_one around o place a w = if is_list a then first_of_one around o place a w else lower_op around o place (a ∷ []) w

-- ---- of three operands

unfoldable pub first_of_three : Around → RowOp → Place → Operand → Operand → Operand → Writing → Writing
first_of_three around row.StoreIndex place a b c w = store around place a b.x c w
first_of_three around o place a b c w = lower_op around o place (a ∷ b ∷ c ∷ []) w

unfoldable pub of_three : Around → RowOp → Place → Operand → Operand → Operand → Writing → Writing
of_three around o place a b c w = if is_list a then first_of_three around o place a b c w else lower_op around o place (a ∷ b ∷ c ∷ []) w

-- ---- all operations

-- of any other number
unfoldable pub other : Around → RowOp → Place → List Operand → Writing → Writing
other around o place args w = lower_op around o place args w

unfoldable pub of_some : Around → RowOp → Place → List Operand → Writing → Writing
of_some around o place (a ∷ []) w = of_one around o place a w
of_some around o place (a ∷ b ∷ []) w = of_two around o place a b w
of_some around o place (a ∷ b ∷ c ∷ []) w = of_three around o place a b c w
of_some around o place args w = other around o place args w

unfoldable pub slice_or : Around → RowOp → Place → Bool → Bool → List Operand → Writing → Writing
slice_or around o place low high args w = if first_is_list args then slice around place low high args w else lower_op around o place args w

unfoldable pub lowered : Around → RowOp → Place → List Operand → Writing → Writing
lowered around (row.List site) place args w = display around place args w
lowered around (row.Comprehension site) place args w = comprehension around place w
lowered around (row.Method name site) place args w = method_of around (row.Method name site) place name args w
lowered around (row.Slice site low high) place args w = slice_or around (row.Slice site low high) place low high args w
lowered around o place args w = of_some around o place args w

abbrev pub lowered_unless : Bool → Around → RowOp → Place → List Operand → Writing → Writing
lowered_unless true around o place args w = failure around place w
lowered_unless false around o place args w = lowered around o place args w

-- the low-level operations of an operation; what never comes is not operated on
abbrev pub lower_list_op : Around → RowOp → Place → List Operand → Writing → Writing
lower_list_op around o place args w = if is_never args then lower_op around o place args w else lowered_unless (fails o args) around o place args w
