-- Lists that are turned.
use Rattle.std.proofs.Common.{◌≡◌, List, [], ◌∷◌, ◌++◌, map, reverse, sym, ap, ◌∙◌, append_assoc}
use Rattle.std.specs.Prelude.{sum_by}
use Rattle.std.proofs.lemmas.List.{reverse-append, reverse-reverse}
use Rattle.std.proofs.lemmas.List.Sorted.{sum_by-IsPermutation, IsPermutation-reverse}
use Rattle.rpy_tree.specs.declared.syntax.Expr.{Expr}
use Rattle.rpy_tree.specs.declared.syntax.Target.{Target}
use Rattle.rpy_parse.specs.Build.{goal_of}
use Rattle.rpy_parse.specs.Target.{size}

pub size_turned : (xs : List Expr) → sum_by size (reverse xs) ≡ sum_by size xs
size_turned xs = sum_by-IsPermutation size xs (reverse xs) (IsPermutation-reverse xs)

-- the last of some expressions is the next of them turned
pub turned_step : (ts : List Target) (xs : List Expr) (x : Expr) → (ts ++ goal_of x ∷ []) ++ map goal_of (reverse xs) ≡ ts ++ map goal_of (reverse (xs ++ x ∷ []))
turned_step ts xs x = append_assoc ts (goal_of x ∷ []) (map goal_of (reverse xs)) ∙ sym (ap (λ (w : List Expr). ts ++ map goal_of w) (reverse-append xs (x ∷ [])))

pub turned_back : (xs : List Expr) → reverse (reverse xs) ≡ xs
turned_back xs = reverse-reverse xs
