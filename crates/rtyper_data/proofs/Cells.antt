-- Cells of statics that are the same.
use Rattle.std.proofs.Common.{◌≡◌, Bool, false, List, map, sym, ap, ◌∙◌}
use Rattle.csub_tree.specs.declared.tree.CCell.{CCell, fold-roll-CCell}
use Rattle.csub_tree.specs.declared.tree.CCell.TheVariants as cell
use Rattle.csub_tree.specs.declared.tree.CCell.TheOpen.{CCell-F}
use Rattle.csub_tree.specs.declared.tree.CCell.TheViews.{outs-Const, outs-Braces}
use Rattle.csub_tree.specs.declared.tree.CConst.{CConst}
use Rattle.rtyper_data.specs.Finding.{same_constant, is_constant, are_braces, same_step, same_cell, same_cells}

of_constant : (a : CConst) (c : CCell) → same_cell (cell.Const a) c ≡ same_step (CCell-F.Const a) c
of_constant a c = ap (λ x. same_cell x c) (sym (cell.rolls-Const a)) ∙ ap (λ f. f c) (fold-roll-CCell (CCell → Bool) same_step (CCell-F.Const a))

of_braces : (xs : List CCell) (c : CCell) → same_cell (cell.Braces xs) c ≡ same_step (CCell-F.Braces (map same_cell xs)) c
of_braces xs c = ap (λ x. same_cell x c) (sym (cell.rolls-Braces xs)) ∙ ap (λ f. f c) (fold-roll-CCell (CCell → Bool) same_step (CCell-F.Braces xs))

pub constants_are : (a b : CConst) → same_cell (cell.Const a) (cell.Const b) ≡ same_constant a b
constants_are a b = of_constant a (cell.Const b) ∙ ap (is_constant a) (outs-Const b)

pub braces_are : (xs ys : List CCell) → same_cell (cell.Braces xs) (cell.Braces ys) ≡ same_cells xs ys
braces_are xs ys = of_braces xs (cell.Braces ys) ∙ ap (are_braces (map same_cell xs)) (outs-Braces ys)

pub constant_is_no_brace : (a : CConst) (ys : List CCell) → same_cell (cell.Const a) (cell.Braces ys) ≡ false
constant_is_no_brace a ys = of_constant a (cell.Braces ys) ∙ ap (is_constant a) (outs-Braces ys)

pub brace_is_no_constant : (xs : List CCell) (b : CConst) → same_cell (cell.Braces xs) (cell.Const b) ≡ false
brace_is_no_constant xs b = of_braces xs (cell.Const b) ∙ ap (are_braces (map same_cell xs)) (outs-Const b)
