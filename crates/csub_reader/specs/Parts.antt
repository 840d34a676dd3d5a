-- Parts that were read before others.
use Rattle.std.specs.Prelude.{List, [], ◌∷◌, ◌++◌, Bool, true, false, Some, None}
use Rattle.csub_text.specs.Read.{Got}

abbrev pub extended : {A : Type 0} → List A → Got (List A) → Got (List A)
extended xs None = None
extended xs (Some p) = Some (xs ++ p.0, p.1)

-- nothing was read yet
abbrev pub none_yet : {A : Type 0} → List A → Bool
none_yet [] = true
none_yet (x ∷ xs) = false
