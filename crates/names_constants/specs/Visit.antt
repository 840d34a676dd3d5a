-- Trees visited in node order: the parts of a node from left to right, then the node. What a visit has of a part is handed on
-- to its node; what it keeps is handed on from each visit to the next.
use Rattle.std.specs.Prelude.{◌+◌, List, [], ◌∷◌, ◌++◌, length, map, Option, Some, None}
use Rattle.rpy_tree.specs.declared.syntax.Expr.{Expr, fold-Expr}
use Rattle.rpy_tree.specs.declared.syntax.Expr.TheFolds.{fold-Target}
use Rattle.rpy_tree.specs.declared.syntax.Expr.TheOpen.{Expr-F, Target-F}
use Rattle.rpy_tree.specs.declared.syntax.Target.{Target}
use Rattle.rpy_tree.specs.declared.syntax.Stmt.{Stmt, fold-Stmt}
use Rattle.rpy_tree.specs.declared.syntax.Stmt.TheOpen.{Stmt-F, Clause-F}
use Rattle.names_rules.specs.Order.{Item, Done, For, Elif, Clause_of, augmented}
use Rattle.names_rules.specs.Parts.{expr_parts, target_parts, expr_item, target_item}

-- what is had of a part, what is kept, and what a node has and keeps, by those of its parts
module _ (Piece Kept : Type 0) (at_node : Item → List Piece → Kept → Piece × Kept) where
  abbrev pub Visit : Type 0
  Visit = Kept → Piece × Kept

  abbrev pub in_front : Piece → List Piece × Kept → List Piece × Kept
  in_front p r = (p ∷ r.0, r.1)

  abbrev pub parts : List Visit → Kept → List Piece × Kept
  parts [] k = ([], k)
  parts (v ∷ vs) k = in_front (v k).0 (parts vs (v k).1)

  abbrev pub node_after : Item → List Piece × Kept → Piece × Kept
  node_after i r = at_node i r.0 r.1

  abbrev pub in_expr : Expr-F Visit Visit → Visit
  in_expr x k = node_after (expr_item x) (parts (expr_parts x) k)

  abbrev pub in_target : Target-F Visit Visit → Visit
  in_target x k = node_after (target_item x) (parts (target_parts x) k)

  abbrev pub expr : Expr → Visit
  expr = fold-Expr Visit Visit in_expr in_target

  abbrev pub target : Target → Visit
  target = fold-Target Visit Visit in_expr in_target

  -- ---- statements only keep

  abbrev pub closed : Item → List Visit → Kept → Kept
  closed i vs k = (node_after i (parts vs k)).1

  abbrev pub all : List (Kept → Kept) → Kept → Kept
  all [] k = k
  all (v ∷ vs) k = all vs (v k)

  abbrev pub returned : Option Expr → Kept → Kept
  returned None k = closed (Done 0) [] k
  returned (Some e) k = closed (Done 1) (expr e ∷ []) k

  -- the first test stands before the statement's node, the others behind the block before them
  abbrev pub further_arms : List (Expr × List (Kept → Kept)) → Kept → Kept
  further_arms [] k = k
  further_arms (arm ∷ arms) k = further_arms arms (all arm.1 (closed Elif (expr arm.0 ∷ []) k))

  abbrev pub all_arms : List (Expr × List (Kept → Kept)) → Kept → Kept
  all_arms [] k = closed (Done 0) [] k
  all_arms (arm ∷ arms) k = further_arms arms (all arm.1 (closed (Done 1) (expr arm.0 ∷ []) k))

  abbrev pub finally : Option (List (Kept → Kept)) → Kept → Kept
  finally None k = k
  finally (Some body) k = all body k

  abbrev pub in_stmt : Stmt-F (Kept → Kept) (Kept → Kept) → Kept → Kept
  in_stmt (Stmt-F.Pass n) k = closed (Done 0) [] k
  in_stmt (Stmt-F.Break n) k = closed (Done 0) [] k
  in_stmt (Stmt-F.Continue n) k = closed (Done 0) [] k
  in_stmt (Stmt-F.Return n e) k = returned e k
  in_stmt (Stmt-F.Raise n e) k = closed (Done 1) (expr e ∷ []) k
  in_stmt (Stmt-F.Assert n e) k = closed (Done 1) (expr e ∷ []) k
  in_stmt (Stmt-F.Del n a i) k = closed (Done 2) (expr a ∷ expr i ∷ []) k
  in_stmt (Stmt-F.Print n es) k = closed (Done (length es)) (map expr es) k
  in_stmt (Stmt-F.Assign n ts e) k = closed (Done (length ts + 1)) (map target ts ++ expr e ∷ []) k
  in_stmt (Stmt-F.Aug n t op e) k = closed (augmented op) (target t ∷ expr e ∷ []) k
  in_stmt (Stmt-F.Expr n e) k = closed (Done 1) (expr e ∷ []) k
  in_stmt (Stmt-F.If n arms other) k = all other (all_arms arms k)
  in_stmt (Stmt-F.While n e body) k = all body (closed (Done 1) (expr e ∷ []) k)
  in_stmt (Stmt-F.For n t e body) k = all body (closed For (target t ∷ expr e ∷ []) k)
  in_stmt (Stmt-F.Try n body clauses other final) k = finally final (all other (all clauses (all body (closed (Done 0) [] k))))

  -- what stands in the head of a clause has no node of its own
  abbrev pub in_clause : Clause-F (Kept → Kept) (Kept → Kept) → Kept → Kept
  in_clause c k = all c.body (closed Clause_of [] k)

  abbrev pub stmt : Stmt → Kept → Kept
  stmt = fold-Stmt (Kept → Kept) (Kept → Kept) in_stmt in_clause

  abbrev pub block : List Stmt → Kept → Kept
  block body k = all (map stmt body) k
