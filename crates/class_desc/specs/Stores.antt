-- Which attributes of its first parameter a function assigns to. It does so where a target `p.x` stands, p the parameter: in an assignment,
-- an augmented one, a `for` or a comprehension, at any depth.
use Rattle.std.specs.Prelude.{ℕ, Bool, true, false, if◌then◌else◌, List, [], ◌∷◌, map, Option, Some, None}
use Rattle.std.specs.Str.{bytes_eq}
use Rattle.std.specs.List.{list_any}
use Rattle.indexmap.specs.IndexSet.{insert_key}
use Rattle.rpy_tree.specs.declared.syntax.Expr.{Expr, fold-Expr}
use Rattle.rpy_tree.specs.declared.syntax.Expr.TheFolds.{fold-Target}
use Rattle.rpy_tree.specs.declared.syntax.Expr.TheOpen.{Expr-F, Target-F}
use Rattle.rpy_tree.specs.declared.syntax.Target.{Target}
use Rattle.rpy_tree.specs.declared.syntax.Stmt.{Stmt, fold-Stmt}
use Rattle.rpy_tree.specs.declared.syntax.Stmt.TheFolds.{fold-Clause}
use Rattle.rpy_tree.specs.declared.syntax.Stmt.TheOpen.{Stmt-F, Clause-F}
use Rattle.rpy_tree.specs.declared.syntax.Clause.{Clause}
use Rattle.rpy_tree.specs.declared.syntax.Param.{Param}
use Rattle.class_desc.specs.declared.stores.Stores.{Stores}

abbrev pub with_name : List (List ℕ) → List ℕ → List (List ℕ)
with_name names name = insert_key bytes_eq names name

abbrev pub has : List (List ℕ) → List ℕ → Bool
has names name = list_any (bytes_eq name) names

-- the tree is read in the order of the text: here the expression read last is another one than the parameter alone
abbrev pub pass : Stores → Stores
pass s = record { at_first = false; names = s.names }

-- a name
abbrev pub read : List ℕ → List ℕ → Stores → Stores
read first name s = record { at_first = bytes_eq name first; names = s.names }

-- a target that is an attribute of the expression read last
abbrev pub store : List ℕ → Stores → Stores
store attribute s = record { at_first = false; names = if s.at_first then with_name s.names attribute else s.names }

-- one part after the other
abbrev pub all : List (Stores → Stores) → Stores → Stores
all [] s = s
all (part ∷ parts) s = all parts (part s)

abbrev pub optional : Option (Stores → Stores) → Stores → Stores
optional None s = s
optional (Some part) s = part s

abbrev pub all_pairs : List ((Stores → Stores) × (Stores → Stores)) → Stores → Stores
all_pairs [] s = s
all_pairs (p ∷ ps) s = all_pairs ps (p.1 (p.0 s))

module _ (first : List ℕ) where
  abbrev pub expr_step : Expr-F (Stores → Stores) (Stores → Stores) → Stores → Stores
  expr_step (Expr-F.Int n v) s = pass s
  expr_step (Expr-F.Str n text) s = pass s
  expr_step (Expr-F.Expr::Name n name) s = read first name s
  expr_step (Expr-F.Unary n op a) s = pass (a s)
  expr_step (Expr-F.Binary n op a b) s = pass (b (a s))
  expr_step (Expr-F.Compare n op a b) s = pass (b (a s))
  expr_step (Expr-F.Logic n is_and a b) s = pass (b (a s))
  expr_step (Expr-F.Not n a) s = pass (a s)
  expr_step (Expr-F.Call n f args) s = pass (all args (f s))
  expr_step (Expr-F.Expr::Attr n a name) s = pass (a s)
  expr_step (Expr-F.Index n a i) s = pass (i (a s))
  expr_step (Expr-F.Slice n a from to) s = pass (optional to (optional from (a s)))
  expr_step (Expr-F.Expr::Tuple n items) s = pass (all items s)
  expr_step (Expr-F.List n items) s = pass (all items s)
  expr_step (Expr-F.Dict n pairs) s = pass (all_pairs pairs s)
  expr_step (Expr-F.Comp n item target over test) s = pass (optional test (over (target (item s))))

  abbrev pub target_step : Target-F (Stores → Stores) (Stores → Stores) → Stores → Stores
  target_step (Target-F.Target::Name n name) s = s
  target_step (Target-F.Target::Attr n a name) s = store name (a s)
  target_step (Target-F.Item n a i) s = i (a s)
  target_step (Target-F.Target::Tuple n parts) s = all parts s

  abbrev pub expr : Expr → Stores → Stores
  expr = fold-Expr (Stores → Stores) (Stores → Stores) expr_step target_step

  abbrev pub target : Target → Stores → Stores
  target = fold-Target (Stores → Stores) (Stores → Stores) expr_step target_step

  abbrev pub exprs : List Expr → Stores → Stores
  exprs es s = all (map expr es) s

  abbrev pub targets : List Target → Stores → Stores
  targets ts s = all (map target ts) s

  abbrev pub option_expr : Option Expr → Stores → Stores
  option_expr None s = s
  option_expr (Some e) s = expr e s

  abbrev pub pair : Expr × Expr → Stores → Stores
  pair p s = expr p.1 (expr p.0 s)

  abbrev pub pairs : List (Expr × Expr) → Stores → Stores
  pairs ps s = all_pairs (map (λ p. (expr p.0, expr p.1)) ps) s

  -- ---- statements

  abbrev pub return_expr : Option Expr → Stores → Stores
  return_expr None s = s
  return_expr (Some e) s = expr e s

  abbrev pub arm_steps : List (Expr × List (Stores → Stores)) → Stores → Stores
  arm_steps [] s = s
  arm_steps (arm ∷ arms) s = arm_steps arms (all arm.1 (expr arm.0 s))

  abbrev pub finally_step : Option (List (Stores → Stores)) → Stores → Stores
  finally_step None s = s
  finally_step (Some body) s = all body s

  abbrev pub stmt_step : Stmt-F (Stores → Stores) (Stores → Stores) → Stores → Stores
  stmt_step (Stmt-F.Pass n) s = s
  stmt_step (Stmt-F.Break n) s = s
  stmt_step (Stmt-F.Continue n) s = s
  stmt_step (Stmt-F.Return n e) s = return_expr e s
  stmt_step (Stmt-F.Raise n e) s = expr e s
  stmt_step (Stmt-F.Assert n e) s = expr e s
  stmt_step (Stmt-F.Del n a i) s = expr i (expr a s)
  stmt_step (Stmt-F.Print n es) s = exprs es s
  stmt_step (Stmt-F.Assign n ts e) s = expr e (targets ts s)
  stmt_step (Stmt-F.Aug n t op e) s = expr e (target t s)
  stmt_step (Stmt-F.Expr n e) s = expr e s
  stmt_step (Stmt-F.If n arms other) s = all other (arm_steps arms s)
  stmt_step (Stmt-F.While n e body) s = all body (expr e s)
  stmt_step (Stmt-F.For n t e body) s = all body (expr e (target t s))
  stmt_step (Stmt-F.Try n body clauses other final) s = finally_step final (all other (all clauses (all body s)))

  abbrev pub clause_step : Clause-F (Stores → Stores) (Stores → Stores) → Stores → Stores
  clause_step c s = all c.body s

  abbrev pub stmt : Stmt → Stores → Stores
  stmt = fold-Stmt (Stores → Stores) (Stores → Stores) stmt_step clause_step

  abbrev pub clause : Clause → Stores → Stores
  clause = fold-Clause (Stores → Stores) (Stores → Stores) stmt_step clause_step

  abbrev pub block : List Stmt → Stores → Stores
  block body s = all (map stmt body) s

  abbrev pub clauses : List Clause → Stores → Stores
  clauses cs s = all (map clause cs) s

  abbrev pub arm : Expr × List Stmt → Stores → Stores
  arm a s = block a.1 (expr a.0 s)

  abbrev pub arms : List (Expr × List Stmt) → Stores → Stores
  arms xs s = arm_steps (map (λ a. (a.0, map stmt a.1)) xs) s

  abbrev pub finally : Option (List Stmt) → Stores → Stores
  finally None s = s
  finally (Some body) s = block body s

-- ---- a function without parameters assigns to no attribute of its first one

abbrev pub start : List (List ℕ) → Stores
start names = record { at_first = false; names = names }

-- the attributes of its first parameter that a function assigns to, after those before
abbrev pub stored : List Param → List Stmt → List (List ℕ) → List (List ℕ)
stored [] body names = names
stored (first ∷ others) body names = (block first.name body (start names)).names
