-- How many nodes the forms of expressions and targets have: what the measures of their cycle count.
use Rattle.std.proofs.Common.{◌≡◌, ℕ, zero, suc, ◌+◌, ◌<◌, ◌≤◌, Bool, List, [], ◌∷◌, map, length, get_or, Option, Some, None, refl, sym, ap, ◌∙◌, arith}
use Rattle.std.specs.Prelude.{sum_by, fold}
use Rattle.std.specs.Option.{option_map_or}
use Rattle.std.proofs.lemmas.List.Sums.{sum_by-cons}
use Rattle.rpy_tree.specs.declared.syntax.BinOp.{BinOp}
use Rattle.rpy_tree.specs.declared.syntax.CmpOp.{CmpOp}
use Rattle.rpy_tree.specs.declared.syntax.UnOp.{UnOp}
use Rattle.rpy_tree.specs.declared.syntax.Expr as syntax
use Rattle.rpy_tree.specs.declared.syntax.Expr.TheFolds as folds
use Rattle.rpy_tree.specs.declared.syntax.Expr.TheOpen as layer
use Rattle.rpy_tree.specs.declared.syntax.Expr.TheVariants as s
use Rattle.rpy_tree.specs.declared.syntax.Expr.TheViews as views
use Rattle.rpy_tree.specs.declared.syntax.Target as aim
use Rattle.rpy_tree.specs.declared.syntax.Target.TheVariants as at
use Rattle.rpy_tree.specs.Size.{expr_step, target_step, expr_nodes, target_nodes}
use Rattle.resolver_names.specs.Forms.{both}

-- ---- lists

pub summed_map : {A B : Type 0} (h : A → B) (f : B → ℕ) (a : ℕ) (xs : List A) → fold (λ n x. n + f x) a (map h xs) ≡ fold (λ n x. n + f (h x)) a xs
summed_map h f a [] = refl
summed_map h f a (x ∷ xs) = summed_map h f (a + f (h x)) xs

pub item_less : {A : Type 0} (f : A → ℕ) (xs : List A) (i : ℕ) (x : A) → i < length xs → x ≡ get_or xs i x → f x ≤ sum_by f xs
item_less f [] i x lt e = absurd (omega (arith, lt))
item_less f (y ∷ xs) zero x lt e = let a = sum_by-cons f y xs in let b : f x ≡ f y = ap f e in omega (arith, a, b)
item_less f (y ∷ xs) (suc i) x lt e = let a = sum_by-cons f y xs in let b = item_less f xs i x (omega (arith, lt)) e in omega (arith, a, b)

-- ---- forms

abbrev pair_nodes : syntax.Expr × syntax.Expr → ℕ
pair_nodes p = expr_nodes p.0 + expr_nodes p.1

pub unary_size : (n : ℕ) (op : UnOp) (a : syntax.Expr) → expr_nodes (s.Unary n op a) ≡ expr_nodes a + 1
unary_size n op a = ap expr_nodes (sym (views.rolls-Unary n op a)) ∙ syntax.fold-roll-Expr ℕ ℕ expr_step target_step (layer.Expr-F.Unary n op a)

pub binary_size : (n : ℕ) (op : BinOp) (a b : syntax.Expr) → expr_nodes (s.Binary n op a b) ≡ expr_nodes a + expr_nodes b + 1
binary_size n op a b = ap expr_nodes (sym (views.rolls-Binary n op a b)) ∙ syntax.fold-roll-Expr ℕ ℕ expr_step target_step (layer.Expr-F.Binary n op a b)

pub compare_size : (n : ℕ) (op : CmpOp) (a b : syntax.Expr) → expr_nodes (s.Compare n op a b) ≡ expr_nodes a + expr_nodes b + 1
compare_size n op a b = ap expr_nodes (sym (views.rolls-Compare n op a b)) ∙ syntax.fold-roll-Expr ℕ ℕ expr_step target_step (layer.Expr-F.Compare n op a b)

pub logic_size : (n : ℕ) (is_and : Bool) (a b : syntax.Expr) → expr_nodes (s.Logic n is_and a b) ≡ expr_nodes a + expr_nodes b + 1
logic_size n is_and a b = ap expr_nodes (sym (views.rolls-Logic n is_and a b)) ∙ syntax.fold-roll-Expr ℕ ℕ expr_step target_step (layer.Expr-F.Logic n is_and a b)

pub not_size : (n : ℕ) (a : syntax.Expr) → expr_nodes (s.Not n a) ≡ expr_nodes a + 1
not_size n a = ap expr_nodes (sym (views.rolls-Not n a)) ∙ syntax.fold-roll-Expr ℕ ℕ expr_step target_step (layer.Expr-F.Not n a)

pub call_size : (n : ℕ) (f : syntax.Expr) (args : List syntax.Expr) → expr_nodes (s.Call n f args) ≡ expr_nodes f + sum_by expr_nodes args + 1
call_size n f args =
    ap expr_nodes (sym (views.rolls-Call n f args))
    ∙ syntax.fold-roll-Expr ℕ ℕ expr_step target_step (layer.Expr-F.Call n f args)
    ∙ ap (λ m. expr_nodes f + m + 1) (summed_map expr_nodes (λ m. m) 0 args)

pub attr_size : (n : ℕ) (a : syntax.Expr) (name : List ℕ) → expr_nodes (s.Attr n a name) ≡ expr_nodes a + 1
attr_size n a name = ap expr_nodes (sym (views.rolls-Expr::Attr n a name)) ∙ syntax.fold-roll-Expr ℕ ℕ expr_step target_step (layer.Expr-F.Expr::Attr n a name)

pub index_size : (n : ℕ) (a i : syntax.Expr) → expr_nodes (s.Index n a i) ≡ expr_nodes a + expr_nodes i + 1
index_size n a i = ap expr_nodes (sym (views.rolls-Index n a i)) ∙ syntax.fold-roll-Expr ℕ ℕ expr_step target_step (layer.Expr-F.Index n a i)

pub slice_size : (n : ℕ) (a : syntax.Expr) (low high : Option syntax.Expr) → expr_nodes (s.Slice n a low high) ≡ expr_nodes a + option_map_or expr_nodes low 0 + option_map_or expr_nodes high 0 + 1
slice_size n a None None = ap expr_nodes (sym (views.rolls-Slice n a None None)) ∙ syntax.fold-roll-Expr ℕ ℕ expr_step target_step (layer.Expr-F.Slice n a None None)
slice_size n a None (Some high) = ap expr_nodes (sym (views.rolls-Slice n a None (Some high))) ∙ syntax.fold-roll-Expr ℕ ℕ expr_step target_step (layer.Expr-F.Slice n a None (Some high))
slice_size n a (Some low) None = ap expr_nodes (sym (views.rolls-Slice n a (Some low) None)) ∙ syntax.fold-roll-Expr ℕ ℕ expr_step target_step (layer.Expr-F.Slice n a (Some low) None)
slice_size n a (Some low) (Some high) = ap expr_nodes (sym (views.rolls-Slice n a (Some low) (Some high))) ∙ syntax.fold-roll-Expr ℕ ℕ expr_step target_step (layer.Expr-F.Slice n a (Some low) (Some high))

pub tuple_size : (n : ℕ) (items : List syntax.Expr) → expr_nodes (s.Tuple n items) ≡ sum_by expr_nodes items + 1
tuple_size n items =
    ap expr_nodes (sym (views.rolls-Expr::Tuple n items))
    ∙ syntax.fold-roll-Expr ℕ ℕ expr_step target_step (layer.Expr-F.Expr::Tuple n items)
    ∙ ap (λ m. m + 1) (summed_map expr_nodes (λ m. m) 0 items)

pub list_size : (n : ℕ) (items : List syntax.Expr) → expr_nodes (s.List n items) ≡ sum_by expr_nodes items + 1
list_size n items =
    ap expr_nodes (sym (views.rolls-List n items))
    ∙ syntax.fold-roll-Expr ℕ ℕ expr_step target_step (layer.Expr-F.List n items)
    ∙ ap (λ m. m + 1) (summed_map expr_nodes (λ m. m) 0 items)

pub dict_size : (n : ℕ) (ps : List (syntax.Expr × syntax.Expr)) → expr_nodes (s.Dict n ps) ≡ sum_by pair_nodes ps + 1
dict_size n ps =
    ap expr_nodes (sym (views.rolls-Dict n ps))
    ∙ syntax.fold-roll-Expr ℕ ℕ expr_step target_step (layer.Expr-F.Dict n ps)
    ∙ ap (λ m. m + 1) (summed_map (both expr_nodes) (λ p. p.0 + p.1) 0 ps)

pub comp_size : (n : ℕ) (item : syntax.Expr) (t : aim.Target) (over : syntax.Expr) (test : Option syntax.Expr) → expr_nodes (s.Comp n item t over test) ≡ expr_nodes item + target_nodes t + expr_nodes over + option_map_or expr_nodes test 0 + 1
comp_size n item t over None = ap expr_nodes (sym (views.rolls-Comp n item t over None)) ∙ syntax.fold-roll-Expr ℕ ℕ expr_step target_step (layer.Expr-F.Comp n item t over None)
comp_size n item t over (Some e) = ap expr_nodes (sym (views.rolls-Comp n item t over (Some e))) ∙ syntax.fold-roll-Expr ℕ ℕ expr_step target_step (layer.Expr-F.Comp n item t over (Some e))

pub aim_attr_size : (n : ℕ) (a : syntax.Expr) (name : List ℕ) → target_nodes (at.Attr n a name) ≡ expr_nodes a + 1
aim_attr_size n a name = ap target_nodes (sym (views.rolls-Target::Attr n a name)) ∙ folds.fold-roll-Target ℕ ℕ expr_step target_step (layer.Target-F.Target::Attr n a name)

pub aim_item_size : (n : ℕ) (a i : syntax.Expr) → target_nodes (at.Item n a i) ≡ expr_nodes a + expr_nodes i + 1
aim_item_size n a i = ap target_nodes (sym (views.rolls-Item n a i)) ∙ folds.fold-roll-Target ℕ ℕ expr_step target_step (layer.Target-F.Item n a i)

pub aim_tuple_size : (n : ℕ) (ts : List aim.Target) → target_nodes (at.Tuple n ts) ≡ sum_by target_nodes ts + 1
aim_tuple_size n ts =
    ap target_nodes (sym (views.rolls-Target::Tuple n ts))
    ∙ folds.fold-roll-Target ℕ ℕ expr_step target_step (layer.Target-F.Target::Tuple n ts)
    ∙ ap (λ m. m + 1) (summed_map target_nodes (λ m. m) 0 ts)
