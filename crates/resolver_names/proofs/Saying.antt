-- What the meaning makes of expressions whose parts are lists or may be missing.
use Rattle.std.proofs.Common.{◌≡◌, ℕ, List, map, Option, Some, None, refl, sym, ap, ◌∙◌}
use Rattle.std.specs.Prelude.{option_map}
use Rattle.rpy_tree.specs.declared.syntax.Expr as syntax
use Rattle.rpy_tree.specs.declared.syntax.Expr.TheVariants as e
use Rattle.rpy_meaning.specs.declared.row.RowOp.TheVariants as row
use Rattle.rpy_meaning.specs.Tree as tree
use Rattle.rpy_meaning.specs.Resolved as meaning
use Rattle.rpy_meaning.specs.Resolved.{Names, Said, said_by, expr_by}
use Rattle.rpy_meaning.proofs.Unrolled.{slice_is, tuple_is, list_is}
use Rattle.resolver_names.proofs.Making.{values_are}

module _ (names : Names) where
  pub slice_said : (n : ℕ) (a : syntax.Expr) (low high : Option syntax.Expr)
      → expr_by names (e.Slice n a low high) ≡ meaning.slice_of (meaning.made_at names n) (expr_by names a) (option_map (expr_by names) low) (option_map (expr_by names) high)
  slice_said n a None None = ap (λ (s : Said). s.value) (slice_is names n a None None)
  slice_said n a (Some low) None = ap (λ (s : Said). s.value) (slice_is names n a (Some low) None)
  slice_said n a None (Some high) = ap (λ (s : Said). s.value) (slice_is names n a None (Some high))
  slice_said n a (Some low) (Some high) = ap (λ (s : Said). s.value) (slice_is names n a (Some low) (Some high))

  pub tuple_said : (n : ℕ) (items : List syntax.Expr) → expr_by names (e.Tuple n items) ≡ tree.Apply row.Tuple (meaning.exprs (map (expr_by names) items))
  tuple_said n items = ap (λ (s : Said). s.value) (tuple_is names n items) ∙ ap (tree.Apply row.Tuple) (values_are names items)

  pub list_said : (n : ℕ) (items : List syntax.Expr) → expr_by names (e.List n items) ≡ tree.Apply (row.List (meaning.made_at names n)) (meaning.exprs (map (expr_by names) items))
  list_said n items = ap (λ (s : Said). s.value) (list_is names n items) ∙ ap (tree.Apply (row.List (meaning.made_at names n))) (values_are names items)
