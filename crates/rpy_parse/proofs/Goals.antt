-- The target that an expression is, case by case.
use Rattle.std.proofs.Common.{◌≡◌, ℕ, ℤ, Bool, List, [], ◌∷◌, Option, map, refl, sym, ap, ◌∙◌}
use Rattle.rpy_tree.specs.declared.syntax.UnOp.{UnOp}
use Rattle.rpy_tree.specs.declared.syntax.BinOp.{BinOp}
use Rattle.rpy_tree.specs.declared.syntax.CmpOp.{CmpOp}
use Rattle.rpy_tree.specs.declared.syntax.Expr.{Expr, para-roll-Expr}
use Rattle.rpy_tree.specs.declared.syntax.Expr.TheVariants as e
use Rattle.rpy_tree.specs.declared.syntax.Expr.TheOpen.{Expr-F}
use Rattle.rpy_tree.specs.declared.syntax.Target.{Target}
use Rattle.rpy_tree.specs.declared.syntax.Target.TheVariants as target
use Rattle.rpy_parse.specs.Build.{goal_of, target_step, no_step}

pub goal_name : (n : ℕ) (x : List ℕ) → goal_of (e.Name n x) ≡ target.Name n x
goal_name n x = ap goal_of (sym (e.rolls-Name n x)) ∙ para-roll-Expr Target (Unit {0}) target_step no_step (Expr-F.Expr::Name n x)

pub goal_attr : (n : ℕ) (a : Expr) (x : List ℕ) → goal_of (e.Attr n a x) ≡ target.Attr n a x
goal_attr n a x = ap goal_of (sym (e.rolls-Attr n a x)) ∙ para-roll-Expr Target (Unit {0}) target_step no_step (Expr-F.Expr::Attr n a x)

pub goal_index : (n : ℕ) (a i : Expr) → goal_of (e.Index n a i) ≡ target.Item n a i
goal_index n a i = ap goal_of (sym (e.rolls-Index n a i)) ∙ para-roll-Expr Target (Unit {0}) target_step no_step (Expr-F.Index n a i)

pub goal_int : (n : ℕ) (v : ℤ) → goal_of (e.Int n v) ≡ target.Name 0 []
goal_int n v = ap goal_of (sym (e.rolls-Int n v)) ∙ para-roll-Expr Target (Unit {0}) target_step no_step (Expr-F.Int n v)

pub goal_str : (n : ℕ) (x : List ℕ) → goal_of (e.Str n x) ≡ target.Name 0 []
goal_str n x = ap goal_of (sym (e.rolls-Str n x)) ∙ para-roll-Expr Target (Unit {0}) target_step no_step (Expr-F.Str n x)

pub goal_unary : (n : ℕ) (op : UnOp) (a : Expr) → goal_of (e.Unary n op a) ≡ target.Name 0 []
goal_unary n op a = ap goal_of (sym (e.rolls-Unary n op a)) ∙ para-roll-Expr Target (Unit {0}) target_step no_step (Expr-F.Unary n op a)

pub goal_binary : (n : ℕ) (op : BinOp) (a b : Expr) → goal_of (e.Binary n op a b) ≡ target.Name 0 []
goal_binary n op a b = ap goal_of (sym (e.rolls-Binary n op a b)) ∙ para-roll-Expr Target (Unit {0}) target_step no_step (Expr-F.Binary n op a b)

pub goal_compare : (n : ℕ) (op : CmpOp) (a b : Expr) → goal_of (e.Compare n op a b) ≡ target.Name 0 []
goal_compare n op a b = ap goal_of (sym (e.rolls-Compare n op a b)) ∙ para-roll-Expr Target (Unit {0}) target_step no_step (Expr-F.Compare n op a b)

pub goal_logic : (n : ℕ) (f : Bool) (a b : Expr) → goal_of (e.Logic n f a b) ≡ target.Name 0 []
goal_logic n f a b = ap goal_of (sym (e.rolls-Logic n f a b)) ∙ para-roll-Expr Target (Unit {0}) target_step no_step (Expr-F.Logic n f a b)

pub goal_not : (n : ℕ) (a : Expr) → goal_of (e.Not n a) ≡ target.Name 0 []
goal_not n a = ap goal_of (sym (e.rolls-Not n a)) ∙ para-roll-Expr Target (Unit {0}) target_step no_step (Expr-F.Not n a)

pub goal_call : (n : ℕ) (a : Expr) (xs : List Expr) → goal_of (e.Call n a xs) ≡ target.Name 0 []
goal_call n a xs = ap goal_of (sym (e.rolls-Call n a xs)) ∙ para-roll-Expr Target (Unit {0}) target_step no_step (Expr-F.Call n a xs)

pub goal_slice : (n : ℕ) (a : Expr) (f t : Option Expr) → goal_of (e.Slice n a f t) ≡ target.Name 0 []
goal_slice n a f t = ap goal_of (sym (e.rolls-Slice n a f t)) ∙ para-roll-Expr Target (Unit {0}) target_step no_step (Expr-F.Slice n a f t)

pub goal_list : (n : ℕ) (xs : List Expr) → goal_of (e.List n xs) ≡ target.Name 0 []
goal_list n xs = ap goal_of (sym (e.rolls-List n xs)) ∙ para-roll-Expr Target (Unit {0}) target_step no_step (Expr-F.List n xs)

pub goal_dict : (n : ℕ) (ps : List (Expr × Expr)) → goal_of (e.Dict n ps) ≡ target.Name 0 []
goal_dict n ps = ap goal_of (sym (e.rolls-Dict n ps)) ∙ para-roll-Expr Target (Unit {0}) target_step no_step (Expr-F.Dict n ps)

pub goal_comp : (n : ℕ) (a : Expr) (g : Target) (s : Expr) (c : Option Expr) → goal_of (e.Comp n a g s c) ≡ target.Name 0 []
goal_comp n a g s c = ap goal_of (sym (e.rolls-Comp n a g s c)) ∙ para-roll-Expr Target (Unit {0}) target_step no_step (Expr-F.Comp n a g s c)

seconds : (xs : List Expr) → map (λ (p : Expr × Target). p.1) (map (λ y. (y, goal_of y)) xs) ≡ map goal_of xs
seconds [] = refl
seconds (x ∷ xs) = ap (λ (w : List Target). goal_of x ∷ w) (seconds xs)

pub goal_tuple : (n : ℕ) (xs : List Expr) → goal_of (e.Tuple n xs) ≡ target.Tuple n (map goal_of xs)
goal_tuple n xs =
    ap goal_of (sym (e.rolls-Tuple n xs)) ∙ para-roll-Expr Target (Unit {0}) target_step no_step (Expr-F.Expr::Tuple n xs) ∙ ap (λ (w : List Target). target.Tuple n w) (seconds xs)
