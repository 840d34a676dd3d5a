-- The parts of a list with their numbers, one more at the end.
use Rattle.std.proofs.Common.{◌≡◌, ℕ, zero, suc, ◌+◌, ◌<◌, List, [], ◌∷◌, ◌++◌, length, take, get_or, sym, ap, ◌∙◌, arith, append_assoc}
use Rattle.std.proofs.lemmas.List.{append-nil}
use Rattle.flow_graph.specs.GraphText.{numbered}

numbered_upto : {A : Type 0} (f : ℕ → A → List ℕ) (k : ℕ) (xs : List A) (i : ℕ) (d : A) → i < length xs
    → numbered f k (take (suc i) xs) ≡ numbered f k (take i xs) ++ f (k + i) (get_or xs i d)
numbered_upto f k [] i d inside = absurd (omega arith)
numbered_upto f k (y ∷ ys) zero d inside =
    let e : k ≡ k + 0 = omega arith in
    append-nil (f k y) ∙ ap (λ n. f n y) e
numbered_upto f k (y ∷ ys) (suc i) d inside =
    let e : (k + 1) + i ≡ k + suc i = omega arith in
    ap (λ text. f k y ++ text) (numbered_upto f (k + 1) ys i d (omega arith))
    ∙ sym (append_assoc (f k y) (numbered f (k + 1) (take i ys)) (f ((k + 1) + i) (get_or ys i d)))
    ∙ ap (λ n. (f k y ++ numbered f (k + 1) (take i ys)) ++ f n (get_or ys i d)) e

-- a loop that writes part i after those before it
pub numbered_next : {A : Type 0} (f : ℕ → A → List ℕ) (k n : ℕ) (xs : List A) (i : ℕ) (d : A) (start text now : List ℕ) → i < length xs → n ≡ k + i
    → text ≡ start ++ numbered f k (take i xs) → now ≡ text ++ f n (get_or xs i d) → now ≡ start ++ numbered f k (take (i + 1) xs)
numbered_next f k n xs i d start text now inside number before is =
    let e : suc i ≡ i + 1 = omega arith in
    is ∙ ap (λ m. text ++ f m (get_or xs i d)) number
    ∙ ap (λ t. t ++ f (k + i) (get_or xs i d)) before ∙ append_assoc start (numbered f k (take i xs)) (f (k + i) (get_or xs i d))
    ∙ ap (λ t. start ++ t) (sym (numbered_upto f k xs i d inside))
    ∙ ap (λ n. start ++ numbered f k (take n xs)) e
