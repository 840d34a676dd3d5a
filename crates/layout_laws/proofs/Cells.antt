-- What stands in the cells of a static.
use Rattle.std.proofs.Common.{◌≡◌, ℕ, suc, true, false, List, [], ◌∷◌, ◌++◌, length, map, Option, Some, None, refl, sym, ap, ◌∙◌, append_assoc}
use Rattle.std.specs.Prelude.{Bool, slice_get}
use Rattle.std.proofs.lemmas.List.{map-append, append-nil}
use Rattle.csub_tree.specs.Layout.{constant, joined, cell_step, cell_constants}
use Rattle.csub_tree.specs.declared.tree.CCell.{CCell, fold-roll-CCell}
use Rattle.csub_tree.specs.declared.tree.CCell.TheOpen.{CCell-F}
use Rattle.csub_tree.specs.declared.tree.CCell.TheVariants as cell
use Rattle.csub_tree.specs.declared.tree.CConst.{CConst}
use Rattle.csub_tree.specs.declared.tree.CConst.TheVariants as fixed
use Rattle.rtyper_class.specs.Seen.{World}
use Rattle.rtyper_class.specs.Vtables.{function_if, function_cell, method_cells}
use Rattle.class_desc.specs.Line.{method}
use Rattle.layout_laws.specs.Knowing.{values}

pub const_cell : (c : CConst) → cell_constants (cell.Const c) ≡ c ∷ []
const_cell c = ap cell_constants (sym (cell.rolls-Const c)) ∙ fold-roll-CCell (List CConst) cell_step (CCell-F.Const c)

pub braces_cell : (cells : List CCell) → cell_constants (cell.Braces cells) ≡ joined (map cell_constants cells)
braces_cell cells = ap cell_constants (sym (cell.rolls-Braces cells)) ∙ fold-roll-CCell (List CConst) cell_step (CCell-F.Braces cells)

joined_both : (xs ys : List CCell) → joined (map cell_constants (xs ++ ys)) ≡ joined (map cell_constants xs) ++ joined (map cell_constants ys)
joined_both [] ys = refl
joined_both (x ∷ xs) ys = ap (λ cs. cell_constants x ++ cs) (joined_both xs ys) ∙ sym (append_assoc (cell_constants x) (joined (map cell_constants xs)) (joined (map cell_constants ys)))

pub values_both : (xs ys : List CCell) → values (xs ++ ys) ≡ values xs ++ values ys
values_both xs ys = ap (map constant) (joined_both xs ys) ∙ map-append constant (joined (map cell_constants xs)) (joined (map cell_constants ys))

pub value_first : (c : CConst) (cells : List CCell) → values (cell.Const c ∷ cells) ≡ constant c ∷ values cells
value_first c cells = ap (λ cs. map constant (cs ++ joined (map cell_constants cells))) (const_cell c)

pub values_in : (cells : List CCell) → values (cell.Braces cells ∷ []) ≡ values cells
values_in cells = ap (λ cs. map constant (cs ++ [])) (braces_cell cells) ∙ ap (map constant) (append-nil (joined (map cell_constants cells)))

-- ---- each method is one value

module _ (world : World) (reached : List Bool) where
  one_value : (o : Option Bool) (n : Option ℕ) (cells : List CCell) → length (values (function_if o n ∷ cells)) ≡ suc (length (values cells))
  one_value None n cells = ap length (value_first fixed.Null cells)
  one_value (Some false) n cells = ap length (value_first fixed.Null cells)
  one_value (Some true) None cells = ap length (value_first fixed.Null cells)
  one_value (Some true) (Some f) cells = ap length (value_first (fixed.Fun f) cells)

  one_method : (o : Option ℕ) (cells : List CCell) → length (values (function_cell world reached o ∷ cells)) ≡ suc (length (values cells))
  one_method None cells = ap length (value_first fixed.Null cells)
  one_method (Some f) cells = one_value (slice_get reached f) (slice_get world.around.numbers f) cells

  pub count_methods : (class : ℕ) (names : List (List ℕ)) → length (values (method_cells world reached class names)) ≡ length names
  count_methods class [] = refl
  count_methods class (name ∷ names) = one_method (method world.classes.classes class name) (method_cells world reached class names) ∙ ap suc (count_methods class names)
