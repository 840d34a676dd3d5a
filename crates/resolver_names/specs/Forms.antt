-- What single functions of the resolver answer of the form of a tree.
use Rattle.std.specs.Prelude.{◌≡◌, ℕ, ℤ, pos, Bool, true, false, List, Option, Some, None, unwrap_or, if◌then◌else◌}
use Rattle.std.specs.Ordering.{int_eq}
use Rattle.rpy_tree.specs.declared.syntax.UnOp.TheVariants as un
use Rattle.rpy_tree.specs.declared.syntax.Expr.{Expr, out-Expr}
use Rattle.rpy_tree.specs.declared.syntax.Expr.TheOpen.{Expr-F}
use Rattle.rpy_tree.specs.declared.syntax.Target.{Target}
use Rattle.rpy_tree.specs.declared.program.Builtin.TheVariants as builtin
use Rattle.rpy_tree.specs.declared.program.Const.{Const, out-Const}
use Rattle.rpy_tree.specs.declared.program.Const.TheOpen.{Const-F}
use Rattle.rpy_tree.specs.declared.program.Const.TheVariants as const
use Rattle.rpy_tree.specs.declared.program.Use.{Use}
use Rattle.rpy_tree.specs.declared.program.Use.TheVariants as use_of
use Rattle.rpy_meaning.specs.declared.row.RowOp.{RowOp}
use Rattle.rpy_meaning.specs.declared.row.RowOp.TheVariants as row
use Rattle.rpy_meaning.specs.Resolved.{Names, meaningless}
use Rattle.rpy_meaning.specs.Tree as tree

-- of both parts of a pair
abbrev pub both : {A B : Type 0} → (A → B) → A × A → B × B
both f p = (f p.0, f p.1)

-- the integer literal that an expression is
abbrev pub literal_in : Expr-F Expr Target → Option ℤ
literal_in (Expr-F.Int n z) = Some z
literal_in other = None

abbrev pub is_one : Option ℤ → Bool
is_one None = false
is_one (Some z) = int_eq z (pos 1)

abbrev pub minus_in : Expr-F Expr Target → Bool
minus_in (Expr-F.Unary n un.Neg a) = is_one (literal_in (out-Expr a))
minus_in other = false

abbrev pub function_op : Option ℕ → ℕ → RowOp
function_op None f = row.Call f
function_op (Some c) f = row.CallOf c f

-- the operation of `ovfcheck` on this one
abbrev pub checked_op : RowOp → Option RowOp
checked_op (row.Unary un.Neg) = Some row.CheckedNeg
checked_op (row.Binary op site) = Some (row.Checked op)
checked_op other = None

-- the step of a range, where this is its constant
abbrev pub word_in : Const-F Const → ℤ
word_in (Const-F.Word z) = z
word_in other = pos 1

abbrev pub step_in : Use → ℤ
step_in (use_of.Value c) = word_in (out-Const c)
step_in other = pos 1

abbrev pub is_range_use : Use → Bool
is_range_use (use_of.Builtin builtin.Range) = true
is_range_use (use_of.Builtin builtin.Xrange) = true
is_range_use other = false

abbrev pub is_range : Names → Expr-F Expr Target → Bool
is_range names (Expr-F.Expr::Name n name) = is_range_use (names.meant n)
is_range names other = false

-- the arguments of a call of `range` or `xrange`
abbrev pub range_args : Names → Expr-F Expr Target → Option (List Expr)
range_args names (Expr-F.Call n f args) = if is_range names (out-Expr f) then Some args else None
range_args names other = None

-- a range, or what no program that is accepted walks
abbrev pub range_or : ℕ → Option tree.Subject → tree.Subject
range_or site range = unwrap_or range (tree.Over site meaningless)

-- the constant that a default is
abbrev pub default_in : Use → Const
default_in (use_of.Value c) = c
default_in other = const.None
