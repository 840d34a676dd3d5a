-- Lists that grow at the end, in what they spell.
use Rattle.std.proofs.Common.{◌≡◌, ℕ, ◌+◌, ◌<◌, List, [], ◌∷◌, ◌++◌, length, sym, ap, ◌∙◌, arith, append_assoc}
use Rattle.std.proofs.lemmas.List.{append-nil}
use Rattle.std.specs.List.{flat_map}
use Rattle.csub_tree.specs.declared.tree.CType.{CType}
use Rattle.csub_tree.specs.Spelling.{numbered, more, listed, listed_or_void, parameter, more_parameter, parameters}

numbered_more : {A : Type 0} (f : ℕ → A → List ℕ) (k : ℕ) (xs : List A) (x : A)
    → numbered f k (xs ++ x ∷ []) ≡ numbered f k xs ++ f (k + length xs) x
numbered_more f k [] x =
    let e : k ≡ k + 0 = omega arith in
    append-nil (f k x) ∙ ap (λ n. f n x) e
numbered_more f k (y ∷ ys) x =
    let e : (k + 1) + length ys ≡ k + length (y ∷ ys) = omega arith in
    ap (λ text. f k y ++ text) (numbered_more f (k + 1) ys x)
    ∙ sym (append_assoc (f k y) (numbered f (k + 1) ys) (f ((k + 1) + length ys) x))
    ∙ ap (λ n. (f k y ++ numbered f (k + 1) ys) ++ f n x) e

pub flat_map_more : {A : Type 0} (f : A → List ℕ) (xs : List A) (x : A) → flat_map f (xs ++ x ∷ []) ≡ flat_map f xs ++ f x
flat_map_more f [] x = append-nil (f x)
flat_map_more f (y ∷ ys) x = ap (λ text. f y ++ text) (flat_map_more f ys x) ∙ sym (append_assoc (f y) (flat_map f ys) (f x))

-- what has been read, and then one part more
grown : (before part text start old now : List ℕ) → text ≡ before ++ part → start ≡ before ++ old → old ≡ part ++ now → start ≡ text ++ now
grown before part text start old now e was is =
    was ∙ ap (λ t. before ++ t) is ∙ sym (append_assoc before part now) ∙ ap (λ t. t ++ now) (sym e)

-- a loop that reads part n after those before it
pub numbered_next : {A : Type 0} (f : ℕ → A → List ℕ) (k n : ℕ) (xs : List A) (x : A) (longer : List A) (start old now : List ℕ)
    → longer ≡ xs ++ x ∷ [] → n ≡ k + length xs → start ≡ numbered f k xs ++ old → old ≡ f n x ++ now → start ≡ numbered f k longer ++ now
numbered_next f k n xs x longer start old now e number was is =
    grown (numbered f k xs) (f n x) (numbered f k longer) start old now
    (ap (λ ys. numbered f k ys) e ∙ numbered_more f k xs x ∙ ap (λ m. numbered f k xs ++ f m x) (sym number)) was is

pub flat_map_next : {A : Type 0} (f : A → List ℕ) (xs : List A) (x : A) (longer : List A) (start old now : List ℕ)
    → longer ≡ xs ++ x ∷ [] → start ≡ flat_map f xs ++ old → old ≡ f x ++ now → start ≡ flat_map f longer ++ now
flat_map_next f xs x longer start old now e was is =
    grown (flat_map f xs) (f x) (flat_map f longer) start old now (ap (λ ys. flat_map f ys) e ∙ flat_map_more f xs x) was is

listed_more : {A : Type 0} (f : A → List ℕ) (xs : List A) (x : A) → 0 < length xs → listed f (xs ++ x ∷ []) ≡ listed f xs ++ more f x
listed_more f [] x some = absurd (omega arith)
listed_more f (y ∷ ys) x some =
    ap (λ text. f y ++ text) (flat_map_more (more f) ys x) ∙ sym (append_assoc (f y) (flat_map (more f) ys) (more f x))

listed_or_void_more : {A : Type 0} (f : A → List ℕ) (xs : List A) (x : A) → 0 < length xs → listed_or_void f (xs ++ x ∷ []) ≡ listed_or_void f xs ++ more f x
listed_or_void_more f [] x some = absurd (omega arith)
listed_or_void_more f (y ∷ ys) x some =
    ap (λ text. f y ++ text) (flat_map_more (more f) ys x) ∙ sym (append_assoc (f y) (flat_map (more f) ys) (more f x))

pub listed_next : {A : Type 0} (f : A → List ℕ) (xs : List A) (x : A) (longer : List A) (start old now : List ℕ)
    → longer ≡ xs ++ x ∷ [] → 0 < length xs → start ≡ listed f xs ++ old → old ≡ more f x ++ now → start ≡ listed f longer ++ now
listed_next f xs x longer start old now e some was is =
    grown (listed f xs) (more f x) (listed f longer) start old now (ap (λ ys. listed f ys) e ∙ listed_more f xs x some) was is

pub listed_or_void_next : {A : Type 0} (f : A → List ℕ) (xs : List A) (x : A) (longer : List A) (start old now : List ℕ)
    → longer ≡ xs ++ x ∷ [] → 0 < length xs → start ≡ listed_or_void f xs ++ old → old ≡ more f x ++ now → start ≡ listed_or_void f longer ++ now
listed_or_void_next f xs x longer start old now e some was is =
    grown (listed_or_void f xs) (more f x) (listed_or_void f longer) start old now (ap (λ ys. listed_or_void f ys) e ∙ listed_or_void_more f xs x some) was is

parameters_more : (ts : List CType) (t : CType) → 0 < length ts → parameters (ts ++ t ∷ []) ≡ parameters ts ++ more_parameter (length ts) t
parameters_more [] t some = absurd (omega arith)
parameters_more (y ∷ ys) t some =
    let e : 1 + length ys ≡ length (y ∷ ys) = omega arith in
    ap (λ text. parameter 0 y ++ text) (numbered_more more_parameter 1 ys t)
    ∙ sym (append_assoc (parameter 0 y) (numbered more_parameter 1 ys) (more_parameter (1 + length ys) t))
    ∙ ap (λ n. (parameter 0 y ++ numbered more_parameter 1 ys) ++ more_parameter n t) e

pub parameters_next : (n : ℕ) (ts : List CType) (t : CType) (longer : List CType) (start old now : List ℕ)
    → longer ≡ ts ++ t ∷ [] → 0 < length ts → n ≡ length ts → start ≡ parameters ts ++ old → old ≡ more_parameter n t ++ now → start ≡ parameters longer ++ now
parameters_next n ts t longer start old now e some number was is =
    grown (parameters ts) (more_parameter n t) (parameters longer) start old now
    (ap (λ us. parameters us) e ∙ parameters_more ts t some ∙ ap (λ m. parameters ts ++ more_parameter m t) (sym number)) was is
