-- Blocks that are pushed behind others.
use Rattle.std.proofs.Common.{◌≡◌, List, [], ◌∷◌, ◌++◌, reverse, sym, ap, ◌∙◌, append_assoc}
use Rattle.std.proofs.lemmas.List.{reverse-append}

-- the last block of what is left stands first in the other order
pub last_first : {A : Type 0} (made left : List A) (x : A) → (made ++ x ∷ []) ++ reverse left ≡ made ++ reverse (left ++ x ∷ [])
last_first made left x = append_assoc made (x ∷ []) (reverse left) ∙ ap (λ l. made ++ l) (sym (reverse-append left (x ∷ [])))
