-- Lists that begin with others.
use Rattle.std.proofs.Common.{◌≡◌, ◌≤◌, ℕ, zero, suc, ◌+◌, List, [], ◌∷◌, ◌++◌, length, slice_get, Some, None, refl, sym, ap, subst, ◌∙◌, arith, append_assoc, length-append}
use Rattle.std.proofs.lemmas.List.{append-nil}
use Rattle.growth_laws.specs.Growing.{Begins}

pub itself : {A : Type 0} (xs : List A) → Begins xs xs
itself xs = ([], append-nil xs)

pub one_more : {A : Type 0} (xs : List A) (x : A) → Begins xs (xs ++ x ∷ [])
one_more xs x = (x ∷ [], refl)

pub further : {A : Type 0} (xs ys zs : List A) → Begins xs ys → Begins ys zs → Begins xs zs
further xs ys zs a b = (a.0 ++ b.0, sym (append_assoc xs a.0 b.0) ∙ (ap (λ l. l ++ b.0) a.1 ∙ b.1))

-- what stands at a place stays there
pub in_front : {A : Type 0} (xs more : List A) (n : ℕ) (x : A) → slice_get xs n ≡ Some x → slice_get (xs ++ more) n ≡ Some x
in_front [] more n x e = absurd (let f : None ≡ Some x = e in cc)
in_front (y ∷ xs) more zero x e = e
in_front (y ∷ xs) more (suc n) x e = in_front xs more n x e

pub stays : {A : Type 0} (xs ys : List A) (n : ℕ) (x : A) → Begins xs ys → slice_get xs n ≡ Some x → slice_get ys n ≡ Some x
stays xs ys n x b e = subst (λ l. slice_get l n ≡ Some x) b.1 (in_front xs b.0 n x e)

pub last_one : {A : Type 0} (xs : List A) (x : A) → slice_get (xs ++ x ∷ []) (length xs) ≡ Some x
last_one [] x = refl
last_one (y ∷ xs) x = last_one xs x

pub longer : {A : Type 0} (xs : List A) (x : A) → length (xs ++ x ∷ []) ≡ length xs + 1
longer [] x = omega arith
longer (y ∷ xs) x = let e : length (xs ++ x ∷ []) ≡ length xs + 1 = longer xs x in omega (arith, e)

-- a list that begins with another of its length is that
pub whole : {A : Type 0} (xs ys : List A) → Begins xs ys → length ys ≡ length xs → xs ≡ ys
whole xs ys b e = sym (append-nil xs) ∙ (ap (λ l. xs ++ l) (sym (empty b.0 (let q : length xs + length b.0 ≡ length xs = sym (length-append xs b.0) ∙ (ap length b.1 ∙ e) in omega (arith, q)))) ∙ b.1)
  where
    empty : {A : Type 0} (more : List A) → length more ≡ 0 → more ≡ []
    empty [] h = refl
    empty (x ∷ more) h = absurd (omega (arith, h))

pub no_shorter : {A : Type 0} (xs ys : List A) → Begins xs ys → length xs ≤ length ys
no_shorter xs ys b = let q : length xs + length b.0 ≡ length ys = sym (length-append xs b.0) ∙ ap length b.1 in omega (arith, q)
