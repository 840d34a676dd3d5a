-- What stands in a tree, in node order: an expression, a target or a statement after its parts, and a compound
-- statement after those of its first header and before its blocks. The number of a node is the count of the nodes before it.
use Rattle.std.specs.Prelude.{ℕ, ◌+◌, ℤ, List, [], ◌∷◌, ◌++◌, length, map, Option, Some, None}
use Rattle.rpy_tree.specs.declared.syntax.BinOp.{BinOp}
use Rattle.rpy_tree.specs.declared.syntax.BinOp.TheVariants as binary
use Rattle.rpy_tree.specs.declared.syntax.UnOp.{UnOp}
use Rattle.rpy_tree.specs.declared.syntax.Expr.{Expr, fold-Expr}
use Rattle.rpy_tree.specs.declared.syntax.Expr.TheFolds.{fold-Target}
use Rattle.rpy_tree.specs.declared.syntax.Expr.TheOpen.{Expr-F, Target-F}
use Rattle.rpy_tree.specs.declared.syntax.Target.{Target}
use Rattle.rpy_tree.specs.declared.syntax.Stmt.{Stmt, fold-Stmt}
use Rattle.rpy_tree.specs.declared.syntax.Stmt.TheFolds.{fold-Clause}
use Rattle.rpy_tree.specs.declared.syntax.Stmt.TheOpen.{Stmt-F, Clause-F}
use Rattle.rpy_tree.specs.declared.syntax.Clause.{Clause}

-- names are byte strings, and numbers are counts of parts
pub data Item : Type 0 where
  -- expressions
  Int : ℤ → Item
  Str : List ℕ → Item
  Name : List ℕ → Item
  Attr : List ℕ → Item
  Unary : UnOp → Item
  Binary : BinOp → Item
  Call : ℕ → Item
  Tuple : ℕ → Item
  List_of : ℕ → Item
  Dict : ℕ → Item
  Slice : ℕ → Item
  Comp : ℕ → Item
  -- comparisons, `and`, `or`, `not`, an index, and targets with parts
  Other : ℕ → Item
  -- targets
  Bind : List ℕ → Item
  BindAttr : List ℕ → Item
  -- statements
  Done : ℕ → Item
  For : Item
  Multiply : Item
  Clause_of : Item
  -- what has no node of its own: the test of an `elif`, and in the head of a clause the names of a class, its end, and what is bound
  Elif : Item
  Caught : List ℕ → Item
  CaughtOf : List ℕ → Item
  CaughtEnd : Item
  Catch : List ℕ → Item

abbrev pub Items : Type 0
Items = List Item

abbrev pub all : List Items → Items
all [] = []
all (part ∷ parts) = part ++ all parts

abbrev pub optional : Option Items → Items
optional None = []
optional (Some part) = part

abbrev pub count : Option Items → ℕ
count None = 0
count (Some part) = 1

-- the key of a pair before its value
abbrev pub all_pairs : List (Items × Items) → Items
all_pairs [] = []
all_pairs (p ∷ ps) = p.0 ++ (p.1 ++ all_pairs ps)

-- ---- expressions and targets, with what stands in each part in its place

abbrev pub in_expr : Expr-F Items Items → Items
in_expr (Expr-F.Int n v) = Int v ∷ []
in_expr (Expr-F.Str n text) = Str text ∷ []
in_expr (Expr-F.Expr::Name n name) = Name name ∷ []
in_expr (Expr-F.Unary n op a) = a ++ Unary op ∷ []
in_expr (Expr-F.Binary n op a b) = a ++ (b ++ Binary op ∷ [])
in_expr (Expr-F.Compare n op a b) = a ++ (b ++ Other 2 ∷ [])
in_expr (Expr-F.Logic n is_and a b) = a ++ (b ++ Other 2 ∷ [])
in_expr (Expr-F.Not n a) = a ++ Other 1 ∷ []
in_expr (Expr-F.Call n f args) = f ++ (all args ++ Call (length args) ∷ [])
in_expr (Expr-F.Expr::Attr n a name) = a ++ Attr name ∷ []
in_expr (Expr-F.Index n a i) = a ++ (i ++ Other 2 ∷ [])
in_expr (Expr-F.Slice n a from to) = a ++ (optional from ++ (optional to ++ Slice (1 + count from + count to) ∷ []))
in_expr (Expr-F.Expr::Tuple n items) = all items ++ Tuple (length items) ∷ []
in_expr (Expr-F.List n items) = all items ++ List_of (length items) ∷ []
in_expr (Expr-F.Dict n pairs) = all_pairs pairs ++ Dict (length pairs) ∷ []
in_expr (Expr-F.Comp n item target over test) = item ++ (target ++ (over ++ (optional test ++ Comp (3 + count test) ∷ [])))

abbrev pub in_target : Target-F Items Items → Items
in_target (Target-F.Target::Name n name) = Bind name ∷ []
in_target (Target-F.Target::Attr n a name) = a ++ BindAttr name ∷ []
in_target (Target-F.Item n a i) = a ++ (i ++ Other 2 ∷ [])
in_target (Target-F.Target::Tuple n parts) = all parts ++ Other (length parts) ∷ []

abbrev pub expr : Expr → Items
expr = fold-Expr Items Items in_expr in_target

abbrev pub target : Target → Items
target = fold-Target Items Items in_expr in_target

-- ---- statements

abbrev pub returned : Option Expr → Items
returned None = Done 0 ∷ []
returned (Some e) = expr e ++ Done 1 ∷ []

-- only `*=` may make a list
abbrev pub augmented : BinOp → Item
augmented binary.Mul = Multiply
augmented op = Done 2

-- the first test stands before the statement's node, the others behind the block before them
abbrev pub further_arms : List (Expr × List Items) → Items
further_arms [] = []
further_arms (arm ∷ arms) = expr arm.0 ++ (Elif ∷ (all arm.1 ++ further_arms arms))

abbrev pub all_arms : List (Expr × List Items) → Items
all_arms [] = Done 0 ∷ []
all_arms (arm ∷ arms) = expr arm.0 ++ (Done 1 ∷ (all arm.1 ++ further_arms arms))

abbrev pub finally : Option (List Items) → Items
finally None = []
finally (Some body) = all body

abbrev pub in_stmt : Stmt-F Items Items → Items
in_stmt (Stmt-F.Pass n) = Done 0 ∷ []
in_stmt (Stmt-F.Break n) = Done 0 ∷ []
in_stmt (Stmt-F.Continue n) = Done 0 ∷ []
in_stmt (Stmt-F.Return n e) = returned e
in_stmt (Stmt-F.Raise n e) = expr e ++ Done 1 ∷ []
in_stmt (Stmt-F.Assert n e) = expr e ++ Done 1 ∷ []
in_stmt (Stmt-F.Del n a i) = expr a ++ (expr i ++ Done 2 ∷ [])
in_stmt (Stmt-F.Print n es) = all (map expr es) ++ Done (length es) ∷ []
in_stmt (Stmt-F.Assign n ts e) = all (map target ts) ++ (expr e ++ Done (length ts + 1) ∷ [])
in_stmt (Stmt-F.Aug n t op e) = target t ++ (expr e ++ augmented op ∷ [])
in_stmt (Stmt-F.Expr n e) = expr e ++ Done 1 ∷ []
in_stmt (Stmt-F.If n arms other) = all_arms arms ++ all other
in_stmt (Stmt-F.While n e body) = expr e ++ (Done 1 ∷ all body)
in_stmt (Stmt-F.For n t e body) = target t ++ (expr e ++ (For ∷ all body))
in_stmt (Stmt-F.Try n body clauses other final) = Done 0 ∷ (all body ++ (all clauses ++ (all other ++ finally final)))

-- the names of a class in the head of a clause
abbrev pub further_names : List (List ℕ) → Items
further_names [] = []
further_names (name ∷ names) = CaughtOf name ∷ further_names names

abbrev pub class_names : List (List ℕ) → Items
class_names [] = []
class_names (name ∷ names) = Caught name ∷ (further_names names ++ CaughtEnd ∷ [])

abbrev pub catches : List (List (List ℕ)) → Items
catches [] = []
catches (path ∷ paths) = class_names path ++ catches paths

abbrev pub bound_by : Option (List ℕ) → Items
bound_by None = []
bound_by (Some name) = Catch name ∷ []

-- a clause before its block
abbrev pub in_clause : Clause-F Items Items → Items
in_clause c = catches c.classes ++ (bound_by c.bind ++ (Clause_of ∷ all c.body))

abbrev pub stmt : Stmt → Items
stmt = fold-Stmt Items Items in_stmt in_clause

abbrev pub clause : Clause → Items
clause = fold-Clause Items Items in_stmt in_clause

abbrev pub block : List Stmt → Items
block body = all (map stmt body)
