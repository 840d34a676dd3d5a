-- What is said of the layer of an expression, a target or a statement is said of it.
use Rattle.std.proofs.Common.{◌≡◌, OnOk, Result, Option, Some, None, ℕ, List, sym, ap, ◌∙◌, subst}
use Rattle.rpy_base.specs.declared.fault.NoMem.{NoMem}
use Rattle.rpy_tree.specs.declared.syntax.Expr.{Expr, roll-Expr, map-Expr, fold-roll-Expr}
use Rattle.rpy_tree.specs.declared.syntax.Expr.TheOpen.{Expr-F}
use Rattle.rpy_tree.specs.declared.syntax.Target.{Target}
use Rattle.rpy_tree.specs.declared.syntax.Stmt.{Stmt, roll-Stmt, map-Stmt, fold-roll-Stmt}
use Rattle.rpy_tree.specs.declared.syntax.Stmt.TheOpen.{Stmt-F}
use Rattle.rpy_tree.specs.declared.syntax.Clause.{Clause}
use Rattle.class_desc.specs.declared.stores.Stores.{Stores}
use Rattle.class_desc.specs.Stores.{pass, expr, target, option_expr, expr_step, target_step, stmt, clause, block, clauses, finally, stmt_step, clause_step}

module _ (first : List ℕ) where
  abbrev pub expr_layer : Expr-F Expr Target → Stores → Stores
  expr_layer layer = expr_step first (map-Expr Expr Target (Stores → Stores) (Stores → Stores) (expr first) (target first) layer)

  pub expr_said : (e : Expr) (layer : Expr-F Expr Target) (result : Result Unit NoMem) (new old : Stores) → e ≡ roll-Expr layer → OnOk result (new ≡ expr_layer layer old) → OnOk result (new ≡ expr first e old)
  expr_said e layer result new old is said =
      subst (λ f. OnOk result (new ≡ f old)) (sym (ap (expr first) is ∙ fold-roll-Expr (Stores → Stores) (Stores → Stores) (expr_step first) (target_step first) layer)) said

  -- where a part may be missing
  pub slice_said : (n : ℕ) (a : Expr) (from to : Option Expr) (result : Result Unit NoMem) (new old : Stores)
      → OnOk result (new ≡ pass (option_expr first to (option_expr first from (expr first a old)))) → OnOk result (new ≡ expr_layer (Expr-F.Slice n a from to) old)
  slice_said n a None None result new old said = said
  slice_said n a None (Some to) result new old said = said
  slice_said n a (Some from) None result new old said = said
  slice_said n a (Some from) (Some to) result new old said = said

  pub comp_said : (n : ℕ) (item : Expr) (aim : Target) (over : Expr) (test : Option Expr) (result : Result Unit NoMem) (new old : Stores)
      → OnOk result (new ≡ pass (option_expr first test (expr first over (target first aim (expr first item old))))) → OnOk result (new ≡ expr_layer (Expr-F.Comp n item aim over test) old)
  comp_said n item aim over None result new old said = said
  comp_said n item aim over (Some test) result new old said = said

  abbrev pub stmt_layer : Stmt-F Stmt Clause → Stores → Stores
  stmt_layer layer = stmt_step first (map-Stmt Stmt Clause (Stores → Stores) (Stores → Stores) (stmt first) (clause first) layer)

  pub stmt_said : (s : Stmt) (layer : Stmt-F Stmt Clause) (result : Result Unit NoMem) (new old : Stores) → s ≡ roll-Stmt layer → OnOk result (new ≡ stmt_layer layer old) → OnOk result (new ≡ stmt first s old)
  stmt_said s layer result new old is said =
      subst (λ f. OnOk result (new ≡ f old)) (sym (ap (stmt first) is ∙ fold-roll-Stmt (Stores → Stores) (Stores → Stores) (stmt_step first) (clause_step first) layer)) said

  pub try_said : (n : ℕ) (body : List Stmt) (handlers : List Clause) (other : List Stmt) (last : Option (List Stmt)) (result : Result Unit NoMem) (new old : Stores)
      → OnOk result (new ≡ finally first last (block first other (clauses first handlers (block first body old)))) → OnOk result (new ≡ stmt_layer (Stmt-F.Try n body handlers other last) old)
  try_said n body handlers other None result new old said = said
  try_said n body handlers other (Some last) result new old said = said
