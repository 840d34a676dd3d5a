-- What a test tells of a local in each of its branches; `not`, `and` and `or` pass it on.
use Rattle.std.specs.Prelude.{ℕ, ◌==◌, ◌||◌, not, if◌then◌else◌, Bool, true, false, Option, Some, None, is_some}
use Rattle.rpy_tree.specs.Value as value
use Rattle.rpy_tree.specs.declared.syntax.CmpOp.{CmpOp}
use Rattle.rpy_tree.specs.declared.syntax.CmpOp.TheVariants as cmp
use Rattle.rpy_meaning.specs.declared.row.RowOp.{RowOp}
use Rattle.rpy_meaning.specs.declared.row.RowOp.TheVariants as row
use Rattle.flow_trees.specs.Tree.{Expr, Local, Constant, Apply, And, Or, Display, Comprehension, Exprs, none, more, Pairs, no_pairs, pair, Subject, Over, UpTo, FromTo, Condition, Always, Where, Target, Name, Attribute, Item, Parts, Targets, no_targets, more_targets}

-- the operation that narrows the local, and which operand of the comparison stands beside it, if one does
pub record Telling : Type 0 where
  pub local : ℕ
  pub op : RowOp
  pub beside : Option ℕ

-- ---- `not`

-- what is tested part by part
abbrev pub has_ways : Expr → Bool
has_ways (And node a e) = true
has_ways (Or node a e) = true
has_ways (Apply node value row.Not es) = true
has_ways other = false

-- a test of the one operand, which is false where that is true
abbrev pub negates : RowOp → Exprs → Bool
negates row.Not (more a none) = true
negates o es = false

-- as a value, too, where the operand is tested part by part
abbrev pub by_ways : RowOp → Exprs → Bool
by_ways row.Not (more a none) = has_ways a
by_ways o es = false

-- ---- whether a comprehension in an expression binds a local

abbrev mutual
  pub binds : Expr → ℕ → Bool
  binds (Local node j) i = false
  binds (Constant node c v) i = false
  binds (Apply node value o es) i = some_bind es i
  binds (And node a e) i = binds a i || binds e i
  binds (Or node a e) i = binds a i || binds e i
  binds (Display node site pairs) i = pairs_bind pairs i
  binds (Comprehension node site item target subject condition) i = binds item i || (target_binds target i || (subject_binds subject i || condition_binds condition i))

  pub some_bind : Exprs → ℕ → Bool
  some_bind none i = false
  some_bind (more e es) i = binds e i || some_bind es i

  pub pairs_bind : Pairs → ℕ → Bool
  pairs_bind no_pairs i = false
  pairs_bind (pair key e rest) i = binds key i || (binds e i || pairs_bind rest i)

  pub subject_binds : Subject → ℕ → Bool
  subject_binds (Over site e) i = binds e i
  subject_binds (UpTo e) i = binds e i
  subject_binds (FromTo a e step) i = binds a i || binds e i

  pub condition_binds : Condition → ℕ → Bool
  condition_binds Always i = false
  condition_binds (Where e) i = binds e i

  pub target_binds : Target → ℕ → Bool
  target_binds (Name node j) i = j == i
  target_binds (Attribute node e name) i = binds e i
  target_binds (Item node a e) i = binds a i || binds e i
  target_binds (Parts node parts) i = targets_bind parts i

  pub targets_bind : Targets → ℕ → Bool
  targets_bind no_targets i = false
  targets_bind (more_targets t ts) i = target_binds t i || targets_bind ts i

-- ---- tests of one local

abbrev pub is_none : Expr → Bool
is_none (Constant node c value.Nothing) = true
is_none (Apply node value row.None es) = true
is_none other = false

abbrev pub says : ℕ → RowOp → Option Telling
says i o = Some (record { local = i; op = o; beside = None })

-- the truth of a local: without `None`, or `None` of an instance or functions
abbrev pub of_truth : ℕ → Bool → Option Telling
of_truth i true = says i row.DropNone
of_truth i false = says i row.FalseNone

-- `v is None`
abbrev pub of_none : Expr → Bool → Bool → Option Telling
of_none (Local node i) true true = says i row.OnlyNone
of_none (Local node i) true false = says i row.DropNone
of_none other named way = None

-- `isinstance(v, C)`
abbrev pub of_class : ℕ → Expr → Bool → Option Telling
of_class c (Local node i) true = says i (row.Lower c)
of_class c other way = None

-- the local is at least as large as another operand, which is not evaluated after it with a comprehension that binds the local
abbrev pub at_least : Expr → Expr → ℕ → Option Telling
at_least (Local node i) e place = if binds e i then None else Some (record { local = i; op = row.NonNegative; beside = Some place })
at_least other e place = None

-- `a < b` and `a <= b`, and else `a >= b` and `a > b`
abbrev pub of_less : Expr → Expr → Bool → Option Telling
of_less a b true = at_least b a 0
of_less a b false = at_least a b 1

abbrev pub of_comparison : CmpOp → Expr → Expr → Bool → Option Telling
of_comparison cmp.Lt a b way = of_less a b way
of_comparison cmp.Le a b way = of_less a b way
of_comparison cmp.Gt a b way = of_less a b (not way)
of_comparison cmp.Ge a b way = of_less a b (not way)
of_comparison cmp.Is a b way = of_none a (is_none b) way
of_comparison cmp.IsNot a b way = of_none a (is_none b) (not way)
of_comparison other a b way = None

abbrev pub of_operation : RowOp → Exprs → Bool → Option Telling
of_operation (row.IsInstance c) (more a none) way = of_class c a way
of_operation (row.Compare o) (more a (more b none)) way = of_comparison o a b way
of_operation o es way = None

-- where the test is true, or where it is false
abbrev pub tells : Expr → Bool → Option Telling
tells (Local node i) way = of_truth i way
tells (Apply node value o es) way = of_operation o es way
tells other way = None

-- something stands beside the local that is told of
abbrev pub has_beside : Option Telling → Bool
has_beside None = false
has_beside (Some t) = is_some t.beside

-- where the test is true, or where it is false
abbrev pub asks_beside : Expr → Bool
asks_beside e = has_beside (tells e true) || has_beside (tells e false)
