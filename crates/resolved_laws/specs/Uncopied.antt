-- A program without the copies of checked operations: `ovfcheck` of an operation is that operation with its test, and of its result a
-- copy may be made, which pays nothing.
use Rattle.std.specs.Prelude.{Bool, true, false, if◌then◌else◌, map}
use Rattle.rpy_meaning.specs.declared.row.RowOp.{RowOp}
use Rattle.rpy_meaning.specs.declared.row.RowOp.TheVariants as row
use Rattle.rpy_meaning.specs.Tree.{Expr, Local, Constant, Apply, And, Or, Display, Comprehension, Exprs, none, more, Pairs, no_pairs, pair, Subject, Over, UpTo, FromTo, Condition, Always, Where, Target, Name, Attribute, Item, Parts, Targets, no_targets, more_targets, Stmt, Pass, Break, Continue, Return, Do, Assign, Augment, If, While, For, Try, Finally, Block, done, line, Clauses, no_clauses, clause, Function, Program}

abbrev pub is_checked : Expr → Bool
is_checked (Apply row.CheckedNeg es) = true
is_checked (Apply (row.Checked op) es) = true
is_checked e = false

abbrev pub copy_of : Exprs → Expr
copy_of (more e none) = if is_checked e then e else Apply row.Copy (more e none)
copy_of es = Apply row.Copy es

-- an operation on operands
abbrev pub bare : RowOp → Exprs → Expr
bare row.Copy es = copy_of es
bare op es = Apply op es

abbrev mutual
  pub uncopied_expr : Expr → Expr
  uncopied_expr (Local i) = Local i
  uncopied_expr (Constant v) = Constant v
  uncopied_expr (Apply op es) = bare op (uncopied_exprs es)
  uncopied_expr (And a b) = And (uncopied_expr a) (uncopied_expr b)
  uncopied_expr (Or a b) = Or (uncopied_expr a) (uncopied_expr b)
  uncopied_expr (Display site ps) = Display site (uncopied_pairs ps)
  uncopied_expr (Comprehension site item target subject condition) =
      Comprehension site (uncopied_expr item) (uncopied_target target) (uncopied_subject subject) (uncopied_condition condition)

  pub uncopied_exprs : Exprs → Exprs
  uncopied_exprs none = none
  uncopied_exprs (more e es) = more (uncopied_expr e) (uncopied_exprs es)

  pub uncopied_pairs : Pairs → Pairs
  uncopied_pairs no_pairs = no_pairs
  uncopied_pairs (pair k v ps) = pair (uncopied_expr k) (uncopied_expr v) (uncopied_pairs ps)

  pub uncopied_subject : Subject → Subject
  uncopied_subject (Over site e) = Over site (uncopied_expr e)
  uncopied_subject (UpTo e) = UpTo (uncopied_expr e)
  uncopied_subject (FromTo a b step) = FromTo (uncopied_expr a) (uncopied_expr b) step

  pub uncopied_condition : Condition → Condition
  uncopied_condition Always = Always
  uncopied_condition (Where e) = Where (uncopied_expr e)

  pub uncopied_target : Target → Target
  uncopied_target (Name i) = Name i
  uncopied_target (Attribute e name) = Attribute (uncopied_expr e) name
  uncopied_target (Item a i) = Item (uncopied_expr a) (uncopied_expr i)
  uncopied_target (Parts ts) = Parts (uncopied_targets ts)

  pub uncopied_targets : Targets → Targets
  uncopied_targets no_targets = no_targets
  uncopied_targets (more_targets t ts) = more_targets (uncopied_target t) (uncopied_targets ts)

abbrev mutual
  pub uncopied_stmt : Stmt → Stmt
  uncopied_stmt Pass = Pass
  uncopied_stmt Break = Break
  uncopied_stmt Continue = Continue
  uncopied_stmt (Return e) = Return (uncopied_expr e)
  uncopied_stmt (Do e) = Do (uncopied_expr e)
  uncopied_stmt (Assign ts e) = Assign (uncopied_targets ts) (uncopied_expr e)
  uncopied_stmt (Augment t op e) = Augment (uncopied_target t) op (uncopied_expr e)
  uncopied_stmt (If e a b) = If (uncopied_expr e) (uncopied_block a) (uncopied_block b)
  uncopied_stmt (While e body) = While (uncopied_expr e) (uncopied_block body)
  uncopied_stmt (For t subject body) = For (uncopied_target t) (uncopied_subject subject) (uncopied_block body)
  uncopied_stmt (Try body clauses other) = Try (uncopied_block body) (uncopied_clauses clauses) (uncopied_block other)
  uncopied_stmt (Finally body last) = Finally (uncopied_block body) (uncopied_block last)

  pub uncopied_block : Block → Block
  uncopied_block done = done
  uncopied_block (line s rest) = line (uncopied_stmt s) (uncopied_block rest)

  pub uncopied_clauses : Clauses → Clauses
  uncopied_clauses no_clauses = no_clauses
  uncopied_clauses (clause classes name body rest) = clause classes name (uncopied_block body) (uncopied_clauses rest)

abbrev pub uncopied_function : Function → Function
uncopied_function f = record { defaults = f.defaults; takes_more = f.takes_more; locals = f.locals; body = uncopied_block f.body }

abbrev pub uncopied : Program → Program
uncopied p = record { functions = map uncopied_function p.functions; classes = p.classes; sites = p.sites; entry = p.entry }
