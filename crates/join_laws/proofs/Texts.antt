-- What strings are joined to, and what that costs.
use Rattle.std.proofs.Common.{◌≡◌, ℕ, zero, suc, ◌+◌, List, [], ◌∷◌, ◌++◌, length, flat_map, refl, sym, ap, ◌∙◌, arith, append_assoc, length-append}
use Rattle.std.specs.List.{join_by}

-- before the first string stands nothing, and before each other one the string between
abbrev pub gap : List ℕ → ℕ → List ℕ
gap between zero = []
gap between (suc i) = between

abbrev pub joined_from : List ℕ → ℕ → List (List ℕ) → List ℕ
joined_from between i [] = []
joined_from between i (t ∷ texts) = gap between i ++ (t ++ joined_from between (i + 1) texts)

abbrev pub cost_from : List ℕ → ℕ → List (List ℕ) → ℕ
cost_from between i [] = 0
cost_from between i (t ∷ texts) = length t + (length (gap between i) + cost_from between (i + 1) texts)

pub costs_length : (between : List ℕ) (i : ℕ) (texts : List (List ℕ)) → length (joined_from between i texts) ≡ cost_from between i texts
costs_length between i [] = refl
costs_length between i (t ∷ texts) =
    let a = length-append (gap between i) (t ++ joined_from between (i + 1) texts) in
    let b = length-append t (joined_from between (i + 1) texts) in
    let h : length (joined_from between (i + 1) texts) ≡ cost_from between (i + 1) texts = costs_length between (i + 1) texts in
    omega (arith, a, b, h)

others : (between : List ℕ) (i : ℕ) (texts : List (List ℕ)) → flat_map (λ y. between ++ y) texts ≡ joined_from between (i + 1) texts
others between i [] = refl
others between i (t ∷ texts) =
    let e : i + 1 ≡ suc i = omega arith in
    append_assoc between t (flat_map (λ y. between ++ y) texts) ∙ ap (λ l. between ++ (t ++ l)) (others between (i + 1) texts) ∙ ap (λ q. gap between q ++ (t ++ joined_from between (i + 1 + 1) texts)) (sym e)

pub joined_is : (between : List ℕ) (texts : List (List ℕ)) → join_by (λ t. t) between texts ≡ joined_from between 0 texts
joined_is between [] = refl
joined_is between (t ∷ texts) = ap (λ l. t ++ l) (others between 0 texts)
