-- Lists of values with more and more of them.
use Rattle.std.specs.Prelude.{◌≡◌, List, [], ◌∷◌, Option, Some, None}
use Rattle.rpy_tree.specs.declared.program.Const.{Const}

-- a value stays, and a place without one may get one
abbrev pub Below : {A : Type 0} → Option A → Option A → Type 0
Below None y = Unit {0}
Below (Some c) y = y ≡ Some c

abbrev pub Values : Type 0
Values = List (Option Const)

abbrev pub AllBelow : Values → Values → Type 0
AllBelow [] [] = Unit {0}
AllBelow [] (y ∷ ys) = ⊥
AllBelow (x ∷ xs) [] = ⊥
AllBelow (x ∷ xs) (y ∷ ys) = Below x y × AllBelow xs ys
