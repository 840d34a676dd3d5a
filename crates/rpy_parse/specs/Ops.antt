-- What the next token says.
use Rattle.std.specs.Prelude.{Bool, true, false, Option, Some, None}
use Rattle.rpy_token.specs.declared.token.TokenKind.{TokenKind}
use Rattle.rpy_token.specs.declared.token.TokenKind.TheVariants as k
use Rattle.rpy_token.specs.declared.token.Keyword.TheVariants as word
use Rattle.rpy_token.specs.declared.token.Sign.TheVariants as sign
use Rattle.rpy_tree.specs.declared.syntax.UnOp.{UnOp}
use Rattle.rpy_tree.specs.declared.syntax.UnOp.TheVariants as un
use Rattle.rpy_tree.specs.declared.syntax.BinOp.{BinOp}
use Rattle.rpy_tree.specs.declared.syntax.BinOp.TheVariants as bin
use Rattle.rpy_tree.specs.declared.syntax.CmpOp.{CmpOp}
use Rattle.rpy_tree.specs.declared.syntax.CmpOp.TheVariants as cmp

abbrev pub comparison_op : Option TokenKind → Option CmpOp
comparison_op (Some (k.Sign sign.Less)) = Some cmp.Lt
comparison_op (Some (k.Sign sign.LessEqual)) = Some cmp.Le
comparison_op (Some (k.Sign sign.Greater)) = Some cmp.Gt
comparison_op (Some (k.Sign sign.GreaterEqual)) = Some cmp.Ge
comparison_op (Some (k.Sign sign.EqualEqual)) = Some cmp.Eq
comparison_op (Some (k.Sign sign.NotEqual)) = Some cmp.Ne
comparison_op (Some (k.Word word.In)) = Some cmp.Within
comparison_op x = None

abbrev pub shift_op : Option TokenKind → Option BinOp
shift_op (Some (k.Sign sign.ShiftLeft)) = Some bin.Shl
shift_op (Some (k.Sign sign.ShiftRight)) = Some bin.Shr
shift_op x = None

abbrev pub sum_op : Option TokenKind → Option BinOp
sum_op (Some (k.Sign sign.Plus)) = Some bin.Add
sum_op (Some (k.Sign sign.Minus)) = Some bin.Sub
sum_op x = None

abbrev pub term_op : Option TokenKind → Option BinOp
term_op (Some (k.Sign sign.Star)) = Some bin.Mul
term_op (Some (k.Sign sign.Slash)) = Some bin.Div
term_op (Some (k.Sign sign.FloorDiv)) = Some bin.FloorDiv
term_op (Some (k.Sign sign.Percent)) = Some bin.Mod
term_op x = None

abbrev pub sign_op : Option TokenKind → Option UnOp
sign_op (Some (k.Sign sign.Minus)) = Some un.Neg
sign_op (Some (k.Sign sign.Plus)) = Some un.Pos
sign_op (Some (k.Sign sign.Tilde)) = Some un.Invert
sign_op x = None

abbrev pub assign_op : Option TokenKind → Option BinOp
assign_op (Some (k.Sign sign.AddAssign)) = Some bin.Add
assign_op (Some (k.Sign sign.SubAssign)) = Some bin.Sub
assign_op (Some (k.Sign sign.MulAssign)) = Some bin.Mul
assign_op (Some (k.Sign sign.DivAssign)) = Some bin.Div
assign_op (Some (k.Sign sign.FloorDivAssign)) = Some bin.FloorDiv
assign_op (Some (k.Sign sign.ModAssign)) = Some bin.Mod
assign_op (Some (k.Sign sign.ShlAssign)) = Some bin.Shl
assign_op (Some (k.Sign sign.ShrAssign)) = Some bin.Shr
assign_op (Some (k.Sign sign.AndAssign)) = Some bin.BitAnd
assign_op (Some (k.Sign sign.OrAssign)) = Some bin.BitOr
assign_op (Some (k.Sign sign.XorAssign)) = Some bin.BitXor
assign_op x = None

abbrev pub begins_expression : Option TokenKind → Bool
begins_expression (Some (k.Name x)) = true
begins_expression (Some (k.Int x)) = true
begins_expression (Some (k.Str x)) = true
begins_expression (Some (k.Word word.Not)) = true
begins_expression (Some (k.Sign sign.OpenParen)) = true
begins_expression (Some (k.Sign sign.OpenBracket)) = true
begins_expression (Some (k.Sign sign.OpenBrace)) = true
begins_expression (Some (k.Sign sign.Minus)) = true
begins_expression (Some (k.Sign sign.Plus)) = true
begins_expression (Some (k.Sign sign.Tilde)) = true
begins_expression x = false

abbrev pub begins_atom : Option TokenKind → Bool
begins_atom (Some (k.Name x)) = true
begins_atom (Some (k.Int x)) = true
begins_atom (Some (k.Str x)) = true
begins_atom (Some (k.Sign sign.OpenParen)) = true
begins_atom (Some (k.Sign sign.OpenBracket)) = true
begins_atom (Some (k.Sign sign.OpenBrace)) = true
begins_atom x = false

abbrev pub begins_name : Option TokenKind → Bool
begins_name (Some (k.Name x)) = true
begins_name x = false

abbrev pub begins_compound : Option TokenKind → Bool
begins_compound (Some (k.Word word.If)) = true
begins_compound (Some (k.Word word.While)) = true
begins_compound (Some (k.Word word.For)) = true
begins_compound (Some (k.Word word.Try)) = true
begins_compound x = false

abbrev pub begins_member : Option TokenKind → Bool
begins_member (Some (k.Word word.Import)) = true
begins_member (Some (k.Word word.From)) = true
begins_member (Some (k.Word word.Class)) = true
begins_member (Some (k.Word word.Def)) = true
begins_member (Some (k.Name x)) = true
begins_member x = false

abbrev pub begins_common : Option TokenKind → Bool
begins_common (Some (k.Word word.Def)) = true
begins_common (Some (k.Name x)) = true
begins_common x = false
