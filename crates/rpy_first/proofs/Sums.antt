-- The sum that an expression is, case by case.
use Rattle.std.proofs.Common.{◌≡◌, ℕ, ℤ, Bool, List, Option, Some, None, sym, ap, ◌∙◌}
use Rattle.rpy_tree.specs.declared.syntax.UnOp.{UnOp}
use Rattle.rpy_tree.specs.declared.syntax.BinOp.{BinOp}
use Rattle.rpy_tree.specs.declared.syntax.CmpOp.{CmpOp}
use Rattle.rpy_tree.specs.declared.syntax.Expr.{Expr, fold-roll-Expr}
use Rattle.rpy_tree.specs.declared.syntax.Expr.TheVariants as e
use Rattle.rpy_tree.specs.declared.syntax.Expr.TheOpen.{Expr-F}
use Rattle.rpy_tree.specs.declared.syntax.Target.{Target}
use Rattle.rpy_first.specs.declared.body.Sum.{Sum}
use Rattle.rpy_first.specs.declared.body.Sum.TheVariants.{Word}
use Rattle.rpy_first.specs.FirstPath.{Names, local, arith_of, both, sum_step, no_step, sum_of}

module _ (p : List ℕ) (names : Names) where
  pub sum_int : (n : ℕ) (v : ℤ) → sum_of p names (e.Int n v) ≡ Some (Word v)
  sum_int n v = ap (sum_of p names) (sym (e.rolls-Int n v)) ∙ fold-roll-Expr (Option Sum) (Unit {0}) (sum_step p names) no_step (Expr-F.Int n v)

  pub sum_name : (n : ℕ) (x : List ℕ) → sum_of p names (e.Name n x) ≡ local p names x
  sum_name n x = ap (sum_of p names) (sym (e.rolls-Name n x)) ∙ fold-roll-Expr (Option Sum) (Unit {0}) (sum_step p names) no_step (Expr-F.Expr::Name n x)

  pub sum_str : (n : ℕ) (x : List ℕ) → sum_of p names (e.Str n x) ≡ None
  sum_str n x = ap (sum_of p names) (sym (e.rolls-Str n x)) ∙ fold-roll-Expr (Option Sum) (Unit {0}) (sum_step p names) no_step (Expr-F.Str n x)

  pub sum_unary : (n : ℕ) (op : UnOp) (a : Expr) → sum_of p names (e.Unary n op a) ≡ None
  sum_unary n op a = ap (sum_of p names) (sym (e.rolls-Unary n op a)) ∙ fold-roll-Expr (Option Sum) (Unit {0}) (sum_step p names) no_step (Expr-F.Unary n op a)

  pub sum_binary : (n : ℕ) (op : BinOp) (a b : Expr) → sum_of p names (e.Binary n op a b) ≡ both (arith_of op) (sum_of p names a) (sum_of p names b)
  sum_binary n op a b = ap (sum_of p names) (sym (e.rolls-Binary n op a b)) ∙ fold-roll-Expr (Option Sum) (Unit {0}) (sum_step p names) no_step (Expr-F.Binary n op a b)

  pub sum_compare : (n : ℕ) (op : CmpOp) (a b : Expr) → sum_of p names (e.Compare n op a b) ≡ None
  sum_compare n op a b = ap (sum_of p names) (sym (e.rolls-Compare n op a b)) ∙ fold-roll-Expr (Option Sum) (Unit {0}) (sum_step p names) no_step (Expr-F.Compare n op a b)

  pub sum_logic : (n : ℕ) (f : Bool) (a b : Expr) → sum_of p names (e.Logic n f a b) ≡ None
  sum_logic n f a b = ap (sum_of p names) (sym (e.rolls-Logic n f a b)) ∙ fold-roll-Expr (Option Sum) (Unit {0}) (sum_step p names) no_step (Expr-F.Logic n f a b)

  pub sum_not : (n : ℕ) (a : Expr) → sum_of p names (e.Not n a) ≡ None
  sum_not n a = ap (sum_of p names) (sym (e.rolls-Not n a)) ∙ fold-roll-Expr (Option Sum) (Unit {0}) (sum_step p names) no_step (Expr-F.Not n a)

  pub sum_call : (n : ℕ) (a : Expr) (xs : List Expr) → sum_of p names (e.Call n a xs) ≡ None
  sum_call n a xs = ap (sum_of p names) (sym (e.rolls-Call n a xs)) ∙ fold-roll-Expr (Option Sum) (Unit {0}) (sum_step p names) no_step (Expr-F.Call n a xs)

  pub sum_attr : (n : ℕ) (a : Expr) (x : List ℕ) → sum_of p names (e.Attr n a x) ≡ None
  sum_attr n a x = ap (sum_of p names) (sym (e.rolls-Attr n a x)) ∙ fold-roll-Expr (Option Sum) (Unit {0}) (sum_step p names) no_step (Expr-F.Expr::Attr n a x)

  pub sum_index : (n : ℕ) (a i : Expr) → sum_of p names (e.Index n a i) ≡ None
  sum_index n a i = ap (sum_of p names) (sym (e.rolls-Index n a i)) ∙ fold-roll-Expr (Option Sum) (Unit {0}) (sum_step p names) no_step (Expr-F.Index n a i)

  pub sum_slice : (n : ℕ) (a : Expr) (f t : Option Expr) → sum_of p names (e.Slice n a f t) ≡ None
  sum_slice n a f t = ap (sum_of p names) (sym (e.rolls-Slice n a f t)) ∙ fold-roll-Expr (Option Sum) (Unit {0}) (sum_step p names) no_step (Expr-F.Slice n a f t)

  pub sum_tuple : (n : ℕ) (xs : List Expr) → sum_of p names (e.Tuple n xs) ≡ None
  sum_tuple n xs = ap (sum_of p names) (sym (e.rolls-Tuple n xs)) ∙ fold-roll-Expr (Option Sum) (Unit {0}) (sum_step p names) no_step (Expr-F.Expr::Tuple n xs)

  pub sum_list : (n : ℕ) (xs : List Expr) → sum_of p names (e.List n xs) ≡ None
  sum_list n xs = ap (sum_of p names) (sym (e.rolls-List n xs)) ∙ fold-roll-Expr (Option Sum) (Unit {0}) (sum_step p names) no_step (Expr-F.List n xs)

  pub sum_dict : (n : ℕ) (ps : List (Expr × Expr)) → sum_of p names (e.Dict n ps) ≡ None
  sum_dict n ps = ap (sum_of p names) (sym (e.rolls-Dict n ps)) ∙ fold-roll-Expr (Option Sum) (Unit {0}) (sum_step p names) no_step (Expr-F.Dict n ps)

  pub sum_comp : (n : ℕ) (a : Expr) (g : Target) (s : Expr) (c : Option Expr) → sum_of p names (e.Comp n a g s c) ≡ None
  sum_comp n a g s c = ap (sum_of p names) (sym (e.rolls-Comp n a g s c)) ∙ fold-roll-Expr (Option Sum) (Unit {0}) (sum_step p names) no_step (Expr-F.Comp n a g s c)
