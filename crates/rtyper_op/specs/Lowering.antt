-- The lowering of an operation, by its operands.
use Rattle.std.specs.Prelude.{ℕ, Bool, true, false, if◌then◌else◌, List, [], ◌∷◌, None, pos}
use Rattle.csub_tree.specs.declared.tree.CBinary.TheVariants as binary
use Rattle.csub_tree.specs.declared.tree.CUnary.TheVariants as unary
use Rattle.csub_tree.specs.declared.tree.CConst.{CConst}
use Rattle.csub_tree.specs.declared.tree.COperand.TheVariants.{Const as held}
use Rattle.ll_code.specs.declared.program.LlType.{LlType}
use Rattle.ll_code.specs.declared.program.LlType.TheVariants as type
use Rattle.ll_code.specs.declared.program.LlOp.TheVariants as op
use Rattle.ll_build.specs.declared.needs.Helper.{Helper}
use Rattle.ll_build.specs.declared.needs.Helper.TheVariants as helper
use Rattle.rpy_meaning.specs.declared.row.Covers.{Covers}
use Rattle.rpy_meaning.specs.declared.row.RowOp.{RowOp}
use Rattle.rpy_meaning.specs.declared.row.RowOp.TheVariants as row
use Rattle.rpy_tree.specs.declared.syntax.BinOp.{BinOp}
use Rattle.rpy_tree.specs.declared.syntax.BinOp.TheVariants as bin
use Rattle.rpy_tree.specs.declared.program.Const.{Const}
use Rattle.rpy_tree.specs.declared.program.Const.TheVariants as const
use Rattle.rtyper_layout.specs.declared.kind.Kind.{Kind}
use Rattle.rtyper_layout.specs.declared.kind.Kind.TheVariants as kind
use Rattle.rtyper_layout.specs.Kinds.{is_text_or_none}
use Rattle.rtyper_data.specs.declared.body.Body.{Body}
use Rattle.rtyper_data.specs.declared.found.Found.{Found}
use Rattle.rtyper_data.specs.declared.small.Small.{Small}
use Rattle.rtyper_data.specs.declared.small.Small.TheVariants as small
use Rattle.rtyper_op.specs.Calls.{call}
use Rattle.rtyper_data.specs.Comparing.{flag, compare}
use Rattle.rtyper_op.specs.Constants.{text, constant_of}
use Rattle.rtyper_data.specs.Converting.{by_small, give, give_nothing, give_helped, give_made}
use Rattle.rtyper_data.specs.Finding.{small_number}
use Rattle.rtyper_data.specs.Numbers.{word, give_unary, unary_of, binary_of, to_int}
use Rattle.rtyper_op.specs.Placing.{says_nothing, index, len, walk, has_item, walk_item, advance, sum, product}
use Rattle.rtyper_data.specs.Seen.{Around, Operand, Place, type_of, type_at, kind_of, with_op, Writing, writing, push, set}
use Rattle.rtyper_op.specs.Texts.{text_type, of_text, truth_to, print, to_str, slice, method, write}
use Rattle.rtyper_data.specs.Tuples.{tuple_of, item_of}

abbrev pub never_comes : Kind → Bool
never_comes kind.Never = true
never_comes _ = false

abbrev pub is_never : List Operand → Bool
is_never [] = false
is_never (a ∷ args) = if never_comes (kind_of a) then true else is_never args

-- the value as it is
abbrev pub same : Around → Place → Operand → Writing → Writing
same around place a w = give around place a.x (type_of around a) w

abbrev pub failed : Around → Place → ℕ × Found → Body → Writing
failed around place number body = writing number.1 (give_nothing around place (with_op (op.Call None number.0 []) body))

-- an operation on `None` that needs another value
unfoldable pub failure : Around → Place → Writing → Writing
failure around place w = failed around place (small_number (small.Fail w.found.covered.attribute) w.found) w.body

-- ---- without operands

abbrev pub set_constant : Place → Body → CConst × Found → Writing
set_constant place body made = set place.variable (held made.0, writing made.1 body)

abbrev pub constant_to : Around → Place → Const → LlType → Writing → Writing
constant_to around place c type.Void w = w
constant_to around place c to w = set_constant place w.body (constant_of around c to w.found)

abbrev pub give_constant : Around → Place → Const → Writing → Writing
give_constant around place c w = constant_to around place c (type_at around place) w

abbrev pub text_to : Around → Place → List ℕ → LlType → Writing → Writing
text_to around place bytes type.Void w = w
text_to around place bytes to w = set_constant place w.body (text bytes to w.found)

abbrev pub give_text : Around → Place → List ℕ → Writing → Writing
give_text around place bytes w = text_to around place bytes (type_at around place) w

unfoldable pub literal : Around → Place → RowOp → Writing → Writing
literal around place (row.Word z) w = give around place (word z) type.Signed w
literal around place (row.Str bytes) w = give_text around place bytes w
literal around place (row.Bool b) w = give around place (flag b) type.Bool w
literal around place row.None w = give_constant around place const.None w
literal around place (row.Constant c) w = give_constant around place c w
literal around place row.Turn w = says_nothing around place (push (op.Step (word (pos 1))) w)
literal around place other w = w

-- ---- of one operand

abbrev pub conversion_by : RowOp → Kind → Around → Place → Operand → Writing → Writing
conversion_by row.Intmask kind.Word around place a w = give around place a.x type.Signed w
conversion_by row.ToInt k around place a w = to_int around place a w
conversion_by row.ToStr k around place a w = to_str around place a w
conversion_by row.Ord kind.Byte around place a w = give_unary around place unary.C2S type.Signed a.x w
conversion_by row.Chr kind.Word around place a w = give_helped around place helper.WordChr type.Char (a.x ∷ []) w
conversion_by (row.Unary o) kind.Word around place a w = unary_of around place o a w
conversion_by row.CheckedNeg kind.Word around place a w = give_made around place type.Signed (by_small small.CheckedNeg type.Signed (a.x ∷ []) w)
conversion_by (row.IsInstance class) kind.Nothing around place a w = give around place (flag false) type.Bool w
conversion_by o k around place a w = w

unfoldable pub conversion : Around → Place → RowOp → Operand → Writing → Writing
conversion around place o a w = conversion_by o (kind_of a) around place a w

abbrev pub all_but_last : Around → Place → Operand → Writing → Writing
all_but_last around place a w = if is_text_or_none (kind_of a) then of_text around place helper.StrButLast text_type a w else w

abbrev pub unpack_by : Kind → Around → Place → Operand → ℕ → Writing → Writing
unpack_by kind.Tuple around place a i w = item_of around place a i w
unpack_by k around place a i w = w

unfoldable pub of_one : Around → Place → RowOp → Operand → Writing → Writing
of_one around place row.Copy a w = same around place a w
of_one around place row.DropNone a w = same around place a w
of_one around place row.OnlyNone a w = same around place a w
of_one around place row.FalseNone a w = same around place a w
of_one around place (row.Lower class) a w = same around place a w
of_one around place row.Not a w = truth_to around place a true w
of_one around place row.Truth a w = truth_to around place a false w
of_one around place row.Len a w = len around place a w
of_one around place (row.AllButLast site) a w = all_but_last around place a w
of_one around place (row.Walk site) a w = walk around place a w
of_one around place (row.Unpack n i) a w = unpack_by (kind_of a) around place a i w
of_one around place o a w = conversion around place o a w

-- ---- of two operands

abbrev pub if_words : Kind → Kind → Writing → Writing → Writing
if_words kind.Word kind.Word there elsewhere = there
if_words s t there elsewhere = elsewhere

unfoldable pub binary_to : Around → Place → BinOp → Operand → Operand → Writing → Writing
binary_to around place bin.Add a b w = sum around place a b w
binary_to around place bin.Mul a b w = product around place a b w
binary_to around place o a b w = if_words (kind_of a) (kind_of b) (binary_of around place o a.x b.x w) w

unfoldable pub least : Around → Place → Helper → Operand → Operand → Writing → Writing
least around place h a b w = if_words (kind_of a) (kind_of b) (give_helped around place h type.Signed (a.x ∷ b.x ∷ []) w) w

-- an operation on two words whose result has to fit
abbrev pub checked_small : BinOp → Covers → Small
checked_small bin.Add c = small.Checked binary.Add false
checked_small bin.Sub c = small.Checked binary.Sub false
checked_small bin.Mul c = small.Checked binary.Mul false
checked_small bin.Shl c = small.Checked binary.Shl c.number
checked_small bin.Mod c = small.Checked binary.Mod c.zero
checked_small other c = small.Checked binary.Div c.zero

unfoldable pub checked : Around → Place → BinOp → Operand → Operand → Writing → Writing
checked around place o a b w = give_made around place type.Signed (by_small (checked_small o w.found.covered) type.Signed (a.x ∷ b.x ∷ []) w)

unfoldable pub of_two : Around → Place → RowOp → Operand → Operand → Writing → Writing
of_two around place (row.Binary o site) a b w = binary_to around place o a b w
of_two around place row.AddTo a b w = sum around place a b w
of_two around place (row.Compare o) a b w = give_made around place type.Bool (compare around o a b w)
of_two around place row.Min a b w = least around place helper.WordMin a b w
of_two around place row.Max a b w = least around place helper.WordMax a b w
of_two around place row.Write a b w = write around place b w
of_two around place (row.Index i) a b w = index around place i a b w
of_two around place (row.HasItem step) a b w = has_item around place step a b w
of_two around place (row.Item step) a b w = walk_item around place step a b w
of_two around place (row.Advance step) a b w = advance around place step a b w
of_two around place row.NonNegative a b w = same around place a w
of_two around place (row.Checked o) a b w = checked around place o a b w
of_two around place o a b w = w

-- ---- of any number

abbrev pub method_by : Kind → Around → Place → List ℕ → List Operand → Writing → Writing
method_by kind.Nothing around place name args w = failure around place w
method_by k around place name args w = method around place name args w

-- a method of `None` fails, whatever its name
abbrev pub method_to : Around → Place → List ℕ → List Operand → Writing → Writing
method_to around place name [] w = method around place name [] w
method_to around place name (a ∷ args) w = method_by (kind_of a) around place name (a ∷ args) w

unfoldable pub of_some : Around → Place → RowOp → List Operand → Writing → Writing
of_some around place o [] w = literal around place o w
of_some around place o (a ∷ []) w = of_one around place o a w
of_some around place o (a ∷ b ∷ []) w = of_two around place o a b w
of_some around place o args w = w

abbrev pub lowered : Around → Place → RowOp → List Operand → Writing → Writing
lowered around place row.Print args w = says_nothing around place (print args w)
lowered around place row.Tuple args w = tuple_of around place args w
lowered around place (row.Call f) args w = call around place f args w
lowered around place (row.Slice site low high) args w = slice around place low high args w
lowered around place (row.Method name site) args w = method_to around place name args w
lowered around place o args w = of_some around place o args w

-- the low-level operations of an operation; what never comes is not operated on
abbrev pub lower_op : Around → RowOp → Place → List Operand → Writing → Writing
lower_op around o place args w = if is_never args then says_nothing around place w else lowered around place o args w
