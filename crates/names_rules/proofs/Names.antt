-- The number of a name in a table of names stays as the table grows.
use Rattle.std.proofs.Common.{◌≡◌, ℕ, ◌+◌, suc, List, [], ◌∷◌, ◌++◌, length, Bool, true, false, append_assoc, append-nil, sym, ap, ◌∙◌, refl, arith, cond}
use Rattle.std.specs.Prelude.{not, ◌||◌}
use Rattle.std.specs.List.{list_any, position_or_len}
use Rattle.std.specs.Str.{bytes_eq}
use Rattle.std.proofs.lemmas.List.Folds.{list_any-append}
use Rattle.std.proofs.lemmas.Slice.Eq.{bytes_eq-Decides}
use Rattle.std.proofs.lemmas.Grind.{common_steps}
use Rattle.rpy_nodes.specs.Names.{number, with_name}
use Rattle.names_rules.specs.Events.{Names, see}

kept_cons : (b rest : Bool) (m n : ℕ) → (rest ≡ true → m ≡ n) → (b || rest) ≡ true → cond (not b) (1 + m) 0 ≡ cond (not b) (1 + n) 0
kept_cons true rest m n e h = refl
kept_cons false rest m n e h = ap (λ k. 1 + k) (e h)

kept : (p : List ℕ → Bool) (xs ys : Names) → list_any p xs ≡ true → position_or_len p (xs ++ ys) ≡ position_or_len p xs
kept p [] ys h = absurd cc
kept p (x ∷ xs) ys h = kept_cons (p x) (list_any p xs) (position_or_len p (xs ++ ys)) (position_or_len p xs) (kept p xs ys) h

lacking_cons : (b rest : Bool) (m n : ℕ) → (rest ≡ false → m ≡ n) → (b || rest) ≡ false → cond (not b) (1 + m) 0 ≡ suc n
lacking_cons true rest m n e h = absurd cc
lacking_cons false rest m n e h = let k : m ≡ n = e h in omega arith

lacking : (p : List ℕ → Bool) (xs : Names) → list_any p xs ≡ false → position_or_len p xs ≡ length xs
lacking p [] h = refl
lacking p (x ∷ xs) h = lacking_cons (p x) (list_any p xs) (position_or_len p xs) (length xs) (lacking p xs) h

found_cons : (b rest : Bool) (m n : ℕ) → (rest ≡ false → m ≡ n) → (b || rest) ≡ false → cond (not b) (1 + m) 0 ≡ suc n
found_cons true rest m n e h = absurd cc
found_cons false rest m n e h = let k : m ≡ n = e h in omega arith

-- a name that goes last has the place at which none was found
last : (p : List ℕ → Bool) (xs : Names) (x : List ℕ) → p x ≡ true → list_any p xs ≡ false → position_or_len p (xs ++ x ∷ []) ≡ length xs
last p [] x is h = ap (λ b. cond (not b) 1 0) is
last p (y ∷ ys) x is h = found_cons (p y) (list_any p ys) (position_or_len p (ys ++ x ∷ [])) (length ys) (last p ys x is) h

or_true : (a b : Bool) → b ≡ true → (a || b) ≡ true
or_true true b h = refl
or_true false b h = h

pub has_last : (p : List ℕ → Bool) (xs : Names) (x : List ℕ) → p x ≡ true → list_any p (xs ++ x ∷ []) ≡ true
has_last p [] x is = ap (λ b. b || false) is
has_last p (y ∷ ys) x is = or_true (p y) (list_any p (ys ++ x ∷ [])) (has_last p ys x is)

pub same_name : (name : List ℕ) → bytes_eq name name ≡ true
same_name name = grind (arith, common_steps, bytes_eq-Decides)

first_true : (a b : Bool) → a ≡ true → (a || b) ≡ true
first_true true b h = refl
first_true false b h = absurd cc

pub has_more : (p : List ℕ → Bool) (xs ys : Names) → list_any p xs ≡ true → list_any p (xs ++ ys) ≡ true
has_more p xs ys h = list_any-append p xs ys ∙ first_true (list_any p xs) (list_any p ys) h

-- ---- tables that grow

abbrev inserted : Bool → Names → List ℕ → Names
inserted b names name = cond b names (names ++ name ∷ [])

number_kept : (b : Bool) (names rest : Names) (name : List ℕ) → list_any (bytes_eq name) names ≡ b → number (inserted b names name ++ rest) name ≡ number names name
number_kept true names rest name h = kept (bytes_eq name) names rest h
number_kept false names rest name h = kept (bytes_eq name) (names ++ name ∷ []) rest (has_last (bytes_eq name) names name (same_name name)) ∙ last (bytes_eq name) names name (same_name name) h ∙ sym (lacking (bytes_eq name) names h)

grown_by : (b : Bool) (names : Names) (name : List ℕ) → (rest : Names) × (inserted b names name ≡ names ++ rest)
grown_by true names name = ([], sym (append-nil names))
grown_by false names name = (name ∷ [], refl)

more_of : (names : Names) (name : List ℕ) (later : Names) (one : (rest : Names) × (with_name names name ≡ names ++ rest)) (rest : (rest : Names) × (see later (with_name names name) ≡ with_name names name ++ rest)) → (rest : Names) × (see later (with_name names name) ≡ names ++ rest)
more_of names name later (a, one) (b, rest) = (a ++ b, rest ∙ ap (λ ns. ns ++ b) one ∙ append_assoc names a b)

-- a table after names were seen begins with what it was
pub grown : (later names : Names) → (rest : Names) × (see later names ≡ names ++ rest)
grown [] names = ([], sym (append-nil names))
grown (name ∷ later) names = more_of names name later (grown_by (list_any (bytes_eq name) names) names name) (grown later (with_name names name))

stays : (names : Names) (name : List ℕ) (later : Names) → ((rest : Names) × (see later (with_name names name) ≡ with_name names name ++ rest)) → number (see later (with_name names name)) name ≡ number names name
stays names name later (rest, e) = ap (λ ns. number ns name) e ∙ number_kept (list_any (bytes_eq name) names) names rest name refl

-- the number that a name had when it was seen
pub number_stays : (names : Names) (name : List ℕ) (later : Names) → number (see later (with_name names name)) name ≡ number names name
number_stays names name later = stays names name later (grown later (with_name names name))

pub see_append : (xs ys names : Names) → see (xs ++ ys) names ≡ see ys (see xs names)
see_append [] ys names = refl
see_append (x ∷ xs) ys names = see_append xs ys (with_name names x)
