-- Where a token is seen, fewer are left behind it.
use Rattle.std.proofs.Common.{◌≡◌, ℕ, ◌<◌, [], ◌∷◌, length, Some, arith}
use Rattle.rpy_token.specs.declared.token.TokenKind.{TokenKind}
use Rattle.rpy_tree.specs.declared.syntax.UnOp.{UnOp}
use Rattle.rpy_tree.specs.declared.syntax.BinOp.{BinOp}
use Rattle.rpy_tree.specs.declared.syntax.CmpOp.{CmpOp}
use Rattle.rpy_parse.specs.Input.{Input, first_kind, next}
use Rattle.rpy_parse.specs.Ops.{comparison_op, shift_op, sum_op, term_op, sign_op}

pub kind_shorter : (i : Input) (x : TokenKind) → first_kind i ≡ Some x → length (next i) < length i
kind_shorter [] x h = absurd cc
kind_shorter (t ∷ i) x h = omega arith

pub comparison_shorter : (i : Input) (op : CmpOp) → comparison_op (first_kind i) ≡ Some op → length (next i) < length i
comparison_shorter [] op h = absurd cc
comparison_shorter (t ∷ i) op h = omega arith

pub shift_shorter : (i : Input) (op : BinOp) → shift_op (first_kind i) ≡ Some op → length (next i) < length i
shift_shorter [] op h = absurd cc
shift_shorter (t ∷ i) op h = omega arith

pub sum_shorter : (i : Input) (op : BinOp) → sum_op (first_kind i) ≡ Some op → length (next i) < length i
sum_shorter [] op h = absurd cc
sum_shorter (t ∷ i) op h = omega arith

pub term_shorter : (i : Input) (op : BinOp) → term_op (first_kind i) ≡ Some op → length (next i) < length i
term_shorter [] op h = absurd cc
term_shorter (t ∷ i) op h = omega arith

pub sign_shorter : (i : Input) (op : UnOp) → sign_op (first_kind i) ≡ Some op → length (next i) < length i
sign_shorter [] op h = absurd cc
sign_shorter (t ∷ i) op h = omega arith
