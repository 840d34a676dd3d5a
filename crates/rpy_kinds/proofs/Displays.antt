-- What is said of the layer of an expression, a target or a statement is said of it.
use Rattle.std.proofs.Common.{◌≡◌, Option, Some, None, ℕ, List, sym, ap, ◌∙◌, subst}
use Rattle.rpy_tree.specs.declared.syntax.Expr.{Expr, roll-Expr, map-Expr, fold-roll-Expr}
use Rattle.rpy_tree.specs.declared.syntax.Expr.TheOpen.{Expr-F}
use Rattle.rpy_tree.specs.declared.syntax.Target.{Target}
use Rattle.rpy_tree.specs.declared.syntax.Stmt.{Stmt, roll-Stmt, map-Stmt, fold-roll-Stmt}
use Rattle.rpy_tree.specs.declared.syntax.Stmt.TheOpen.{Stmt-F}
use Rattle.rpy_tree.specs.declared.syntax.Clause.{Clause}
use Rattle.rpy_kinds.specs.declared.kind.Kind.{Kind}
use Rattle.rpy_kinds.specs.declared.kind.Kind.TheVariants as kind
use Rattle.rpy_kinds.specs.declared.search.Search.{Search}
use Rattle.rpy_kinds.specs.Search.{note, expr, target, option_expr, expr_step, target_step, stmt, clause, block, clauses, finally, stmt_step, clause_step}

module _ (node : ℕ) where
  abbrev pub expr_layer : Expr-F Expr Target → Search → Search
  expr_layer layer = expr_step node (map-Expr Expr Target (Search → Search) (Kind → Search → Search) (expr node) (target node) layer)

  pub expr_said : (e : Expr) (layer : Expr-F Expr Target) (new old : Search) → e ≡ roll-Expr layer → new ≡ expr_layer layer old → new ≡ expr node e old
  expr_said e layer new old is said =
      subst (λ f. new ≡ f old) (sym (ap (expr node) is ∙ fold-roll-Expr (Search → Search) (Kind → Search → Search) (expr_step node) (target_step node) layer)) said

  -- where a part may be missing
  pub slice_said : (n : ℕ) (a : Expr) (from to : Option Expr) (new old : Search)
      → new ≡ note node n kind.Slice (option_expr node to (option_expr node from (expr node a old))) → new ≡ expr_layer (Expr-F.Slice n a from to) old
  slice_said n a None None new old said = said
  slice_said n a None (Some to) new old said = said
  slice_said n a (Some from) None new old said = said
  slice_said n a (Some from) (Some to) new old said = said

  pub comp_said : (n : ℕ) (item : Expr) (aim : Target) (over : Expr) (test : Option Expr) (new old : Search)
      → new ≡ note node n kind.Comp (option_expr node test (expr node over (target node aim kind.Comp (expr node item old)))) → new ≡ expr_layer (Expr-F.Comp n item aim over test) old
  comp_said n item aim over None new old said = said
  comp_said n item aim over (Some test) new old said = said

  abbrev pub stmt_layer : Stmt-F Stmt Clause → Search → Search
  stmt_layer layer = stmt_step node (map-Stmt Stmt Clause (Search → Search) (Search → Search) (stmt node) (clause node) layer)

  pub stmt_said : (s : Stmt) (layer : Stmt-F Stmt Clause) (new old : Search) → s ≡ roll-Stmt layer → new ≡ stmt_layer layer old → new ≡ stmt node s old
  stmt_said s layer new old is said =
      subst (λ f. new ≡ f old) (sym (ap (stmt node) is ∙ fold-roll-Stmt (Search → Search) (Search → Search) (stmt_step node) (clause_step node) layer)) said

  pub try_said : (n : ℕ) (body : List Stmt) (handlers : List Clause) (other : List Stmt) (last : Option (List Stmt)) (new old : Search)
      → new ≡ note node n kind.Try (finally node last (block node other (clauses node handlers (block node body old)))) → new ≡ stmt_layer (Stmt-F.Try n body handlers other last) old
  try_said n body handlers other None new old said = said
  try_said n body handlers other (Some last) new old said = said
