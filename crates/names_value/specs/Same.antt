-- Whether two constants are one key of a dict.
use Rattle.std.specs.Prelude.{ℕ, ℤ, Bool, true, false, not, if◌then◌else◌, ◌==◌, List, [], ◌∷◌, map}
use Rattle.std.specs.Ordering.{int_eq}
use Rattle.std.specs.Str.{bytes_eq}
use Rattle.rpy_tree.specs.declared.program.Const.{Const, fold-Const, out-Const}
use Rattle.rpy_tree.specs.declared.program.Const.TheOpen.{Const-F}

abbrev pub is_empty : List Const → Bool
is_empty [] = true
is_empty (c ∷ cs) = false

-- part by part, each with its test
abbrev pub all_same : List (Const → Bool) → List Const → Bool
all_same [] ys = is_empty ys
all_same (test ∷ tests) [] = false
all_same (test ∷ tests) (y ∷ ys) = if test y then all_same tests ys else false

-- one kind of constant, and equal in it
abbrev pub same_with : Const-F (Const → Bool) → Const-F Const → Bool
same_with (Const-F.Word x) (Const-F.Word y) = int_eq x y
same_with (Const-F.Bool x) (Const-F.Bool y) = (if x then y else not y)
same_with (Const-F.Str x) (Const-F.Str y) = bytes_eq x y
same_with Const-F.None Const-F.None = true
same_with (Const-F.Function x) (Const-F.Function y) = x == y
same_with (Const-F.Tuple tests) (Const-F.Tuple ys) = all_same tests ys
same_with (Const-F.List x) (Const-F.List y) = x == y
same_with (Const-F.Dict x) (Const-F.Dict y) = x == y
same_with a b = false

abbrev pub same_step : Const-F (Const → Bool) → Const → Bool
same_step a b = same_with a (out-Const b)

abbrev pub same : Const → Const → Bool
same = fold-Const (Const → Bool) same_step

abbrev pub are_same : List Const → List Const → Bool
are_same xs ys = all_same (map same xs) ys
