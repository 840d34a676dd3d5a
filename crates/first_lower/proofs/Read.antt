-- Texts that are read.
use Rattle.std.proofs.Common.{◌≡◌, ℕ, List, subst, Result, IfOk}

-- a text that is known by another name
pub known_as : {E : Type 0} (r : Result (List ℕ) E) (a b : List ℕ) → a ≡ b → IfOk r (λ text. text ≡ a) → IfOk r (λ text. text ≡ b)
known_as r a b e h = let P : List ℕ → Type 0 = λ x. IfOk r (λ text. text ≡ x) in subst P e h
