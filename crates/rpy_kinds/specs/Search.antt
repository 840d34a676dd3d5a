-- What stands at a node: the tree is read in the order of the text, and the first thing with this number is found.
use Rattle.std.specs.Prelude.{ℕ, ◌==◌, true, false, if◌then◌else◌, List, [], ◌∷◌, map, Option, Some, None}
use Rattle.rpy_tree.specs.declared.syntax.Expr.{Expr, fold-Expr}
use Rattle.rpy_tree.specs.declared.syntax.Expr.TheFolds.{fold-Target}
use Rattle.rpy_tree.specs.declared.syntax.Expr.TheOpen.{Expr-F, Target-F}
use Rattle.rpy_tree.specs.declared.syntax.Target.{Target}
use Rattle.rpy_tree.specs.declared.syntax.Stmt.{Stmt, fold-Stmt}
use Rattle.rpy_tree.specs.declared.syntax.Stmt.TheFolds.{fold-Clause}
use Rattle.rpy_tree.specs.declared.syntax.Stmt.TheOpen.{Stmt-F, Clause-F}
use Rattle.rpy_tree.specs.declared.syntax.Clause.{Clause}
use Rattle.rpy_kinds.specs.declared.kind.Kind.{Kind}
use Rattle.rpy_kinds.specs.declared.kind.Kind.TheVariants as kind
use Rattle.rpy_kinds.specs.declared.search.Search.{Search}

module _ (node : ℕ) where
  abbrev pub found_at : ℕ → Kind → Option Kind → Option Kind
  found_at n k (Some other) = Some other
  found_at n k None = if n == node then Some k else None

  -- something that is no plain name was read last
  abbrev pub note : ℕ → Kind → Search → Search
  note n k s = record { last = n; named = false; found = found_at n k s.found }

  abbrev pub note_name : ℕ → Search → Search
  note_name n s = record { last = n; named = true; found = found_at n kind.Name s.found }

  abbrev pub note_logic : ℕ → ℕ → Search → Search
  note_logic n left s = note n (kind.Logic left s.last) s

  -- one part after the other
  abbrev pub all : List (Search → Search) → Search → Search
  all [] s = s
  all (part ∷ parts) s = all parts (part s)

  abbrev pub optional : Option (Search → Search) → Search → Search
  optional None s = s
  optional (Some part) s = part s

  abbrev pub all_pairs : List ((Search → Search) × (Search → Search)) → Search → Search
  all_pairs [] s = s
  all_pairs (p ∷ ps) s = all_pairs ps (p.1 (p.0 s))

  abbrev pub all_targets : List (Kind → Search → Search) → Kind → Search → Search
  all_targets [] k s = s
  all_targets (part ∷ parts) k s = all_targets parts k (part k s)

  abbrev pub expr_step : Expr-F (Search → Search) (Kind → Search → Search) → Search → Search
  expr_step (Expr-F.Int n v) s = note n kind.Int s
  expr_step (Expr-F.Str n text) s = note n kind.Str s
  expr_step (Expr-F.Expr::Name n name) s = note_name n s
  expr_step (Expr-F.Unary n op a) s = note n kind.Unary (a s)
  expr_step (Expr-F.Binary n op a b) s = note n kind.Binary (b (a s))
  expr_step (Expr-F.Compare n op a b) s = note n kind.Compare (b (a s))
  expr_step (Expr-F.Logic n is_and a b) s = note_logic n (a s).last (b (a s))
  expr_step (Expr-F.Not n a) s = note n kind.Not (a s)
  expr_step (Expr-F.Call n f args) s = note n (kind.Call (f s).named) (all args (f s))
  expr_step (Expr-F.Expr::Attr n a name) s = note n kind.Attr (a s)
  expr_step (Expr-F.Index n a i) s = note n kind.Index (i (a s))
  expr_step (Expr-F.Slice n a from to) s = note n kind.Slice (optional to (optional from (a s)))
  expr_step (Expr-F.Expr::Tuple n items) s = note n kind.Tuple (all items s)
  expr_step (Expr-F.List n items) s = note n kind.List (all items s)
  expr_step (Expr-F.Dict n pairs) s = note n kind.Dict (all_pairs pairs s)
  expr_step (Expr-F.Comp n item target over test) s = note n kind.Comp (optional test (over (target kind.Comp (item s))))

  -- a target counts as the statement or comprehension that it stands in
  abbrev pub target_step : Target-F (Search → Search) (Kind → Search → Search) → Kind → Search → Search
  target_step (Target-F.Target::Name n name) k s = note n k s
  target_step (Target-F.Target::Attr n a name) k s = note n k (a s)
  target_step (Target-F.Item n a i) k s = note n k (i (a s))
  target_step (Target-F.Target::Tuple n parts) k s = note n k (all_targets parts k s)

  abbrev pub expr : Expr → Search → Search
  expr = fold-Expr (Search → Search) (Kind → Search → Search) expr_step target_step

  abbrev pub target : Target → Kind → Search → Search
  target = fold-Target (Search → Search) (Kind → Search → Search) expr_step target_step

  abbrev pub exprs : List Expr → Search → Search
  exprs es s = all (map expr es) s

  abbrev pub targets : List Target → Kind → Search → Search
  targets ts k s = all_targets (map target ts) k s

  abbrev pub option_expr : Option Expr → Search → Search
  option_expr None s = s
  option_expr (Some e) s = expr e s

  abbrev pub pair : Expr × Expr → Search → Search
  pair p s = expr p.1 (expr p.0 s)

  abbrev pub pairs : List (Expr × Expr) → Search → Search
  pairs ps s = all_pairs (map (λ p. (expr p.0, expr p.1)) ps) s

  -- ---- statements

  abbrev pub return_expr : Option Expr → Search → Search
  return_expr None s = s
  return_expr (Some e) s = expr e s

  abbrev pub arm_steps : List (Expr × List (Search → Search)) → Search → Search
  arm_steps [] s = s
  arm_steps (arm ∷ arms) s = arm_steps arms (all arm.1 (expr arm.0 s))

  abbrev pub finally_step : Option (List (Search → Search)) → Search → Search
  finally_step None s = s
  finally_step (Some body) s = all body s

  abbrev pub stmt_step : Stmt-F (Search → Search) (Search → Search) → Search → Search
  stmt_step (Stmt-F.Pass n) s = note n kind.Pass s
  stmt_step (Stmt-F.Break n) s = note n kind.Break s
  stmt_step (Stmt-F.Continue n) s = note n kind.Continue s
  stmt_step (Stmt-F.Return n e) s = note n kind.Return (return_expr e s)
  stmt_step (Stmt-F.Raise n e) s = note n kind.Raise (expr e s)
  stmt_step (Stmt-F.Assert n e) s = note n kind.Assert (expr e s)
  stmt_step (Stmt-F.Del n a i) s = note n kind.Del (expr i (expr a s))
  stmt_step (Stmt-F.Print n es) s = note n kind.Print (exprs es s)
  stmt_step (Stmt-F.Assign n ts e) s = note n kind.Assign (expr e (targets ts kind.Assign s))
  stmt_step (Stmt-F.Aug n t op e) s = note n kind.Aug (expr e (target t kind.Aug s))
  stmt_step (Stmt-F.Expr n e) s = note n kind.Expr (expr e s)
  stmt_step (Stmt-F.If n arms other) s = note n kind.If (all other (arm_steps arms s))
  stmt_step (Stmt-F.While n e body) s = note n kind.While (all body (expr e s))
  stmt_step (Stmt-F.For n t e body) s = note n kind.For (all body (expr e (target t kind.For s)))
  stmt_step (Stmt-F.Try n body clauses other final) s = note n kind.Try (finally_step final (all other (all clauses (all body s))))

  abbrev pub clause_step : Clause-F (Search → Search) (Search → Search) → Search → Search
  clause_step c s = all c.body s

  abbrev pub stmt : Stmt → Search → Search
  stmt = fold-Stmt (Search → Search) (Search → Search) stmt_step clause_step

  abbrev pub clause : Clause → Search → Search
  clause = fold-Clause (Search → Search) (Search → Search) stmt_step clause_step

  abbrev pub block : List Stmt → Search → Search
  block body s = all (map stmt body) s

  abbrev pub clauses : List Clause → Search → Search
  clauses cs s = all (map clause cs) s

  abbrev pub arm : Expr × List Stmt → Search → Search
  arm a s = block a.1 (expr a.0 s)

  abbrev pub arms : List (Expr × List Stmt) → Search → Search
  arms xs s = arm_steps (map (λ a. (a.0, map stmt a.1)) xs) s

  abbrev pub finally : Option (List Stmt) → Search → Search
  finally None s = s
  finally (Some body) s = block body s
