-- Trees that narrow nothing: what tests tell stands in flow graphs alone.
use Rattle.std.specs.Prelude.{◌≡◌, ℕ, Bool, true, false, List, slice_get, Some}
use Rattle.rpy_meaning.specs.declared.row.RowOp.{RowOp}
use Rattle.rpy_meaning.specs.declared.row.RowOp.TheVariants as row
use Rattle.flow_trees.specs.Tree.{Expr, Local, Constant, Apply, And, Or, Display, Comprehension, Exprs, none, more, Pairs, no_pairs, pair, Subject, Over, UpTo, FromTo, Condition, Always, Where, Target, Name, Attribute, Item, Parts, Targets, no_targets, more_targets, Stmt, Pass, Break, Continue, Return, Do, Assign, Augment, If, While, For, Try, Finally, Block, done, line, Clauses, no_clauses, clause, Function}

-- an operation that says what a test found of its first operand
abbrev pub narrows : RowOp → Bool
narrows row.DropNone = true
narrows row.OnlyNone = true
narrows row.FalseNone = true
narrows (row.Lower class) = true
narrows row.NonNegative = true
narrows o = false

abbrev mutual
  pub PlainExpr : Expr → Type 0
  PlainExpr (Local node i) = Unit {0}
  PlainExpr (Constant node c v) = Unit {0}
  PlainExpr (Apply node value o es) = (narrows o ≡ false) × PlainExprs es
  PlainExpr (And node a e) = PlainExpr a × PlainExpr e
  PlainExpr (Or node a e) = PlainExpr a × PlainExpr e
  PlainExpr (Display node site pairs) = PlainPairs pairs
  PlainExpr (Comprehension node site item target subject condition) = PlainExpr item × PlainTarget target × PlainSubject subject × PlainCondition condition

  pub PlainExprs : Exprs → Type 0
  PlainExprs none = Unit {0}
  PlainExprs (more e es) = PlainExpr e × PlainExprs es

  pub PlainPairs : Pairs → Type 0
  PlainPairs no_pairs = Unit {0}
  PlainPairs (pair key e rest) = PlainExpr key × PlainExpr e × PlainPairs rest

  pub PlainSubject : Subject → Type 0
  PlainSubject (Over site e) = PlainExpr e
  PlainSubject (UpTo e) = PlainExpr e
  PlainSubject (FromTo a e step) = PlainExpr a × PlainExpr e

  pub PlainCondition : Condition → Type 0
  PlainCondition Always = Unit {0}
  PlainCondition (Where e) = PlainExpr e

  pub PlainTarget : Target → Type 0
  PlainTarget (Name node i) = Unit {0}
  PlainTarget (Attribute node e name) = PlainExpr e
  PlainTarget (Item node a i) = PlainExpr a × PlainExpr i
  PlainTarget (Parts node parts) = PlainTargets parts

  pub PlainTargets : Targets → Type 0
  PlainTargets no_targets = Unit {0}
  PlainTargets (more_targets t ts) = PlainTarget t × PlainTargets ts

abbrev mutual
  pub PlainStmt : Stmt → Type 0
  PlainStmt (Pass node) = Unit {0}
  PlainStmt (Break node) = Unit {0}
  PlainStmt (Continue node) = Unit {0}
  PlainStmt (Return node e) = PlainExpr e
  PlainStmt (Do node e) = PlainExpr e
  PlainStmt (Assign node ts e) = PlainTargets ts × PlainExpr e
  PlainStmt (Augment node target o e) = (narrows o ≡ false) × PlainTarget target × PlainExpr e
  PlainStmt (If node e so other_way) = PlainExpr e × PlainBlock so × PlainBlock other_way
  PlainStmt (While node e body) = PlainExpr e × PlainBlock body
  PlainStmt (For node target subject body) = PlainTarget target × PlainSubject subject × PlainBlock body
  PlainStmt (Try node body clauses other) = PlainBlock body × PlainClauses clauses × PlainBlock other
  PlainStmt (Finally node body last) = PlainBlock body × PlainBlock last

  pub PlainBlock : Block → Type 0
  PlainBlock done = Unit {0}
  PlainBlock (line s rest) = PlainStmt s × PlainBlock rest

  pub PlainClauses : Clauses → Type 0
  PlainClauses no_clauses = Unit {0}
  PlainClauses (clause classes local body rest) = PlainBlock body × PlainClauses rest

-- no operation of these functions narrows
abbrev pub ArePlain : List Function → Type 0
ArePlain functions = (f : ℕ) (function : Function) → slice_get functions f ≡ Some function → PlainBlock function.body
