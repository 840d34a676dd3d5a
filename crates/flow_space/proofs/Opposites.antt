-- `not`: which operands are tested part by part.
use Rattle.std.proofs.Common.{◌≡◌, ℕ, ◌≤◌, ◌⊎◌, inl, inr, Bool, true, false, List, [], ◌∷◌, length, refl, arith}
use Rattle.std.specs.Prelude.{◌&&◌}
use Rattle.std.proofs.lemmas.Bool.{false≢true}
use Rattle.rpy_meaning.specs.declared.row.RowOp.{RowOp}
use Rattle.rpy_meaning.specs.declared.row.RowOp.TheVariants as row
use Rattle.rpy_meaning.specs.Tree as meant
use Rattle.rpy_resolved.specs.declared.tree.Expr.{Expr as Code}
use Rattle.rpy_tree.specs.declared.program.Site.{Site}
use Rattle.flow_graph.specs.declared.graph.Graphs.{Graphs}
use Rattle.flow_stands.specs.Places.{Scope}
use Rattle.flow_trees.specs.Tree.{Expr, Apply, Exprs, none, more}
use Rattle.flow_trees.specs.Tells.{has_ways, negates, by_ways}
use Rattle.flow_trees.specs.Marks as marks
use Rattle.flow_trees.specs.Ops.{Meets, Helps, InExpr}
use Rattle.flow_space.specs.Trees.{exprs_of}

-- ---- of one operand, and of more

pub negates_one : (o : RowOp) (a : Expr) → negates o (more a none) ≡ has_ways (Apply 0 false o none)
negates_one row.Not a = refl
negates_one o a = refl

pub ways_one : (o : RowOp) (a : Expr) → by_ways o (more a none) ≡ (has_ways (Apply 0 false o none) && has_ways a)
ways_one row.Not a = refl
ways_one o a = refl

pub negates_wide : (sites : List Site) (o : RowOp) (a : Expr) (es : List Code) → 1 ≤ length es → negates o (more a (exprs_of sites es)) ≡ false
negates_wide sites o a [] le = absurd (omega arith)
negates_wide sites row.Not a (x ∷ es) le = refl
negates_wide sites o a (x ∷ es) le = refl

pub ways_wide : (sites : List Site) (o : RowOp) (a : Expr) (es : List Code) → 1 ≤ length es → by_ways o (more a (exprs_of sites es)) ≡ false
ways_wide sites o a [] le = absurd (omega arith)
ways_wide sites row.Not a (x ∷ es) le = refl
ways_wide sites o a (x ∷ es) le = refl

pub negates_no_operand : (o : RowOp) → negates o none ≡ false
negates_no_operand row.Not = refl
negates_no_operand o = refl

pub ways_of_no_operand : (o : RowOp) → by_ways o none ≡ false
ways_of_no_operand row.Not = refl
ways_of_no_operand o = refl

-- ---- what stands there

module _ (p : meant.Program) (gs : Graphs) (f n : ℕ) (sc : Scope) (node : ℕ) (value : Bool) where
  pub not_stands : (o : RowOp) (a : Expr) (es : Exprs) → by_ways o (more a es) ≡ true → (b m q lo hi : ℕ) → marks.NotAt p gs f n sc node (marks.HasTest p gs f n sc node a) b m q lo hi → marks.HasExpr p gs f n sc (Apply node value o (more a es)) b m q lo hi
  not_stands row.Not a none w b m q lo hi h = inr (w, refl, h)
  not_stands row.Not a (more e es) w b m q lo hi h = absurd (false≢true w)
  not_stands o a es w b m q lo hi h = absurd (false≢true w)

  pub not_tests : (outer : ℕ) (o : RowOp) (a : Expr) (es : Exprs) → negates o (more a es) ≡ true → (b m so other lo hi : ℕ) → marks.HasTest p gs f n sc node a b m other so lo hi → marks.HasTest p gs f n sc outer (Apply node value o (more a es)) b m so other lo hi
  not_tests outer row.Not a none w b m so other lo hi h = inr (w, refl, h)
  not_tests outer row.Not a (more e es) w b m so other lo hi h = absurd (false≢true w)
  not_tests outer o a es w b m so other lo hi h = absurd (false≢true w)

module _ (x : ℕ) (g : Bool) (v : RowOp) (node : ℕ) (value : Bool) where
  pub not_has : (o : RowOp) (a : Expr) (es : Exprs) → by_ways o (more a es) ≡ true → Meets x g v node ⊎ InExpr x g v a → InExpr x g v (Apply node value o (more a es))
  not_has row.Not a none w (inl h) = inr (inl (refl, h))
  not_has row.Not a none w (inr h) = inr (inr (inl h))
  not_has row.Not a (more e es) w h = absurd (false≢true w)
  not_has o a es w h = absurd (false≢true w)

  pub test_has : (outer : ℕ) (o : RowOp) (a : Expr) (es : Exprs) → negates o (more a es) ≡ true → Helps x g v node ⊎ InExpr x g v a → Helps x g v outer ⊎ InExpr x g v (Apply node value o (more a es))
  test_has outer row.Not a none w (inl h) = inr (inr (inl (refl, inr h)))
  test_has outer row.Not a none w (inr h) = inr (inr (inr (inl h)))
  test_has outer row.Not a (more e es) w h = absurd (false≢true w)
  test_has outer o a es w h = absurd (false≢true w)
