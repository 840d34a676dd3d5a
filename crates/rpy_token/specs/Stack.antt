-- A stack is seen as a list, with the last one first.
use Rattle.std.specs.Prelude.{ℕ, List, [], ◌∷◌, Option, Some, None}

abbrev pub first : List ℕ → Option ℕ
first [] = None
first (x ∷ xs) = Some x
