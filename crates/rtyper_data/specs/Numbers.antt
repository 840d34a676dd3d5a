-- Operations on words, truth values and bytes.
use Rattle.std.specs.Prelude.{Bool, if◌then◌else◌, ◌||◌, [], ◌∷◌, Option, Some, None, ℤ, pos, negsuc, int_lt}
use Rattle.std.specs.Ordering.{int_eq}
use Rattle.csub_tree.specs.declared.tree.CBinary.{CBinary}
use Rattle.csub_tree.specs.declared.tree.CBinary.TheVariants as binary
use Rattle.csub_tree.specs.declared.tree.CUnary.{CUnary}
use Rattle.csub_tree.specs.declared.tree.CUnary.TheVariants as unary
use Rattle.csub_tree.specs.declared.tree.CConst.TheVariants as constant
use Rattle.csub_tree.specs.declared.tree.COperand.{COperand}
use Rattle.csub_tree.specs.declared.tree.COperand.TheVariants.{Const}
use Rattle.ll_code.specs.declared.program.LlType.{LlType}
use Rattle.ll_code.specs.declared.program.LlType.TheVariants as type
use Rattle.ll_code.specs.declared.program.LlOp.TheVariants as op
use Rattle.ll_build.specs.declared.needs.Helper.{Helper}
use Rattle.ll_build.specs.declared.needs.Helper.TheVariants as helper
use Rattle.rpy_tree.specs.declared.syntax.BinOp.{BinOp}
use Rattle.rpy_tree.specs.declared.syntax.BinOp.TheVariants as bin
use Rattle.rpy_tree.specs.declared.syntax.UnOp.{UnOp}
use Rattle.rpy_tree.specs.declared.syntax.UnOp.TheVariants as un
use Rattle.rtyper_layout.specs.declared.kind.Kind.{Kind}
use Rattle.rtyper_layout.specs.declared.kind.Kind.TheVariants as kind
use Rattle.rtyper_data.specs.declared.small.Small.TheVariants as small
use Rattle.rtyper_data.specs.Converting.{by_small, given, give, give_op, give_helped, give_made}
use Rattle.rtyper_data.specs.Seen.{Around, Operand, Place, kind_of, Writing}

abbrev pub word : ℤ → COperand
word n = Const (constant.Word n)

unfoldable pub give_unary : Around → Place → CUnary → LlType → COperand → Writing → Writing
give_unary around place o gives x w = give_op around place gives (λ v. op.Unary v o x) w

unfoldable pub give_binary : Around → Place → CBinary → LlType → COperand → COperand → Writing → Writing
give_binary around place o gives x y w = give_op around place gives (λ v. op.Binary v o x y) w

unfoldable pub unary_of : Around → Place → UnOp → Operand → Writing → Writing
unary_of around place un.Neg a w = give_unary around place unary.Neg type.Signed a.x w
unary_of around place un.Pos a w = give around place a.x type.Signed w
unary_of around place un.Invert a w = give_unary around place unary.Inv type.Signed a.x w

-- what is one operation, and what is a helper since it tests something
abbrev pub plain : BinOp → Option CBinary
plain bin.Add = Some binary.Add
plain bin.Sub = Some binary.Sub
plain bin.Mul = Some binary.Mul
plain bin.BitAnd = Some binary.And
plain bin.BitOr = Some binary.Or
plain bin.BitXor = Some binary.Xor
plain other = None

abbrev pub tested : BinOp → Helper
tested bin.Mod = helper.WordMod
tested bin.Shl = helper.WordShl
tested bin.Shr = helper.WordShr
tested other = helper.WordDiv

abbrev pub binary_by : Around → Place → BinOp → Option CBinary → COperand → COperand → Writing → Writing
binary_by around place o (Some c) x y w = give_binary around place c type.Signed x y w
binary_by around place o None x y w = give_helped around place (tested o) type.Signed (x ∷ y ∷ []) w

unfoldable pub binary_of : Around → Place → BinOp → COperand → COperand → Writing → Writing
binary_of around place o x y w = binary_by around place o (plain o) x y w

abbrev pub int_of_text : Around → Place → COperand × Writing → Writing
int_of_text around place made = give_made around place type.Signed (by_small small.IntOfText type.Signed (made.0 ∷ []) made.1)

abbrev pub to_int_by : Kind → Around → Place → Operand → Writing → Writing
to_int_by kind.Word around place a w = give around place a.x type.Signed w
to_int_by kind.Flag around place a w = give_unary around place unary.B2S type.Signed a.x w
to_int_by kind.Byte around place a w = int_of_text around place (given around a (type.Ptr 0) w)
to_int_by kind.Text around place a w = int_of_text around place (given around a (type.Ptr 0) w)
to_int_by _ around place a w = w

-- `int` of a word, a truth value or a string
unfoldable pub to_int : Around → Place → Operand → Writing → Writing
to_int around place a w = to_int_by (kind_of a) around place a w

-- ---- ranges: the end, and the next number

abbrev pub rises : ℤ → Bool
rises step = int_lt (pos 0) step

unfoldable pub range_has : Around → Place → ℤ → COperand → COperand → Writing → Writing
range_has around place step end next w = give_binary around place (if rises step then binary.Gt else binary.Lt) type.Bool end next w

unfoldable pub range_advance : Around → Place → ℤ → COperand → COperand → Writing → Writing
range_advance around place step end next w =
    if int_eq step (pos 1) || int_eq step (negsuc 0) then give_binary around place binary.Add type.Signed next (word step) w
    else give_helped around place (if rises step then helper.RangeUp else helper.RangeDown) type.Signed (end ∷ next ∷ word step ∷ []) w
