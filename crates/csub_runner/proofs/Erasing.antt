-- Lists of values, with and without keys.
use Rattle.std.proofs.Common.{◌≡◌, ℕ, ◌+◌, ◌<◌, List, [], ◌∷◌, length, drop, map, get_or, refl, sym, ap, ◌∙◌, add-one, ◌||◌}
use Rattle.std.proofs.Math.Seq.{drop-cons}
use Rattle.csub_tree.specs.Operation.{is_unset}
use Rattle.csub_tree.specs.Statement.{operand, operands, any_unset}
use Rattle.csub_tree.specs.Layout.{constant}
use Rattle.csub_tree.specs.declared.tree.CConst.{CConst}
use Rattle.csub_tree.specs.declared.tree.CConst.TheVariants.{Word, Char, Bool as CBool, Null, Static, Fun}
use Rattle.csub_tree.specs.declared.tree.COperand.{COperand}
use Rattle.csub_tree.specs.declared.tree.COperand.TheVariants.{Var, Const}
use Rattle.csub_runner.specs.Erased.{erase, erase_all, raw_constant, raw_operand}
use Rattle.csub_runner.specs.declared.val.Val.{Val}
use Rattle.csub_runner.proofs.Blocks.{read_erased}

pub drop_at : {X : Type 0} (xs : List X) (i : ℕ) (d : X) → i < length xs → drop i xs ≡ get_or xs i d ∷ drop (i + 1) xs
drop_at xs i d lt = drop-cons xs i d lt ∙ ap (λ j. get_or xs i d ∷ drop j xs) (sym (add-one i))

pub constant_erased : (c : CConst) → erase (raw_constant c) ≡ constant c
constant_erased (Word n) = refl
constant_erased (Char b) = refl
constant_erased (CBool b) = refl
constant_erased Null = refl
constant_erased (Static n g) = refl
constant_erased (Fun f) = refl

pub operand_erased : (vars : List Val) (x : COperand) → erase (raw_operand vars x) ≡ operand (erase_all vars) x
operand_erased vars (Var a) = read_erased vars a
operand_erased vars (Const c) = constant_erased c

pub operands_erased : (vars : List Val) (xs : List COperand) → erase_all (map (raw_operand vars) xs) ≡ operands (erase_all vars) xs
operands_erased vars [] = refl
operands_erased vars (x ∷ xs) = ap (λ v. v ∷ erase_all (map (raw_operand vars) xs)) (operand_erased vars x) ∙ ap (λ vs. operand (erase_all vars) x ∷ vs) (operands_erased vars xs)

-- whether one of the operands from a place on is unset
pub any_step : (vars : List Val) (xs : List COperand) (i : ℕ) (d : COperand) (v : Val) → i < length xs → v ≡ raw_operand vars (get_or xs i d)
    → any_unset (operands (erase_all vars) (drop i xs)) ≡ (is_unset (erase v) || any_unset (operands (erase_all vars) (drop (i + 1) xs)))
any_step vars xs i d v lt is = ap (λ ys. any_unset (operands (erase_all vars) ys)) (drop_at xs i d lt)
    ∙ ap (λ u. is_unset u || any_unset (operands (erase_all vars) (drop (i + 1) xs))) (sym (ap erase is ∙ operand_erased vars (get_or xs i d)))
