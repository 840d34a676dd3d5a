-- How many nodes the forms of statements have: what the measures of their cycle count.
use Rattle.std.proofs.Common.{◌≡◌, ℕ, ◌+◌, List, map, Option, Some, None, sym, ap, ◌∙◌}
use Rattle.std.specs.Prelude.{sum, sum_by}
use Rattle.std.specs.Option.{option_map_or}
use Rattle.rpy_tree.specs.declared.syntax.Clause as syntax_clause
use Rattle.rpy_tree.specs.declared.syntax.Expr as syntax
use Rattle.rpy_tree.specs.declared.syntax.Target as aim
use Rattle.rpy_tree.specs.declared.syntax.Stmt as code
use Rattle.rpy_tree.specs.declared.syntax.Stmt.TheFolds as folds
use Rattle.rpy_tree.specs.declared.syntax.Stmt.TheOpen as layer
use Rattle.rpy_tree.specs.declared.syntax.Stmt.TheVariants as s
use Rattle.rpy_tree.specs.declared.syntax.Stmt.TheViews as views
use Rattle.rpy_tree.specs.Size.{expr_nodes, target_nodes, stmt_step, clause_step, stmt_nodes, clause_nodes, body_nodes}
use Rattle.rpy_resolver.proofs.Sizes.{summed_map}

abbrev pub arm_size : syntax.Expr × List code.Stmt → ℕ
arm_size arm = expr_nodes arm.0 + body_nodes arm.1

body_is : (ss : List code.Stmt) → sum (map stmt_nodes ss) ≡ body_nodes ss
body_is ss = summed_map stmt_nodes (λ m. m) 0 ss

pub while_size : (n : ℕ) (e : syntax.Expr) (ss : List code.Stmt) → stmt_nodes (s.While n e ss) ≡ expr_nodes e + body_nodes ss + 1
while_size n e ss =
    ap stmt_nodes (sym (views.rolls-While n e ss)) ∙ code.fold-roll-Stmt ℕ ℕ stmt_step clause_step (layer.Stmt-F.While n e ss) ∙ ap (λ b. expr_nodes e + b + 1) (body_is ss)

pub for_size : (n : ℕ) (t : aim.Target) (e : syntax.Expr) (ss : List code.Stmt) → stmt_nodes (s.For n t e ss) ≡ target_nodes t + expr_nodes e + body_nodes ss + 1
for_size n t e ss =
    ap stmt_nodes (sym (views.rolls-For n t e ss)) ∙ code.fold-roll-Stmt ℕ ℕ stmt_step clause_step (layer.Stmt-F.For n t e ss) ∙ ap (λ b. target_nodes t + expr_nodes e + b + 1) (body_is ss)

abbrev clauses_size : List syntax_clause.Clause → ℕ
clauses_size cs = sum_by clause_nodes cs

pub try_size : (n : ℕ) (ss : List code.Stmt) (cs : List syntax_clause.Clause) (other : List code.Stmt) (last : Option (List code.Stmt)) → stmt_nodes (s.Try n ss cs other last) ≡ body_nodes ss + clauses_size cs + body_nodes other + option_map_or body_nodes last 0 + 1
try_size n ss cs other None =
    ap stmt_nodes (sym (views.rolls-Try n ss cs other None))
    ∙ code.fold-roll-Stmt ℕ ℕ stmt_step clause_step (layer.Stmt-F.Try n ss cs other None)
    ∙ (λ i. body_is ss i + summed_map clause_nodes (λ m. m) 0 cs i + body_is other i + 0 + 1)
try_size n ss cs other (Some last) =
    ap stmt_nodes (sym (views.rolls-Try n ss cs other (Some last)))
    ∙ code.fold-roll-Stmt ℕ ℕ stmt_step clause_step (layer.Stmt-F.Try n ss cs other (Some last))
    ∙ (λ i. body_is ss i + summed_map clause_nodes (λ m. m) 0 cs i + body_is other i + body_is last i + 1)

pub clause_is : (x : syntax_clause.Clause) → clause_nodes x ≡ body_nodes x.body + 1
clause_is x =
    ap clause_nodes (sym (views.rolls-struct-Clause (record { node = x.node; classes = x.classes; bare = x.bare; bind = x.bind; body = x.body })))
    ∙ folds.fold-roll-Clause ℕ ℕ stmt_step clause_step (record { node = x.node; classes = x.classes; bare = x.bare; bind = x.bind; body = x.body })
    ∙ ap (λ b. b + 1) (body_is x.body)
