-- Names that stand in a table have numbers of their own.
use Rattle.std.proofs.Common.{◌≡◌, ℕ, ◌+◌, List, [], ◌∷◌, Bool, true, false, sym, ap, ◌∙◌, refl, arith, cond}
use Rattle.std.specs.Prelude.{not, ◌||◌, nat_eq}
use Rattle.std.specs.List.{list_any}
use Rattle.std.specs.Str.{bytes_eq}
use Rattle.std.specs.Cmp.Lexicographic.{same_text}
use Rattle.std.proofs.lemmas.Grind.{common_steps}
use Rattle.rpy_nodes.specs.Names.{number}
use Rattle.names_rules.specs.Events.{Names}
use Rattle.names_rules.specs.Locals.{Has}
use Rattle.names_rules.proofs.Names.{same_name}

same_cons : (s t r : Bool) (m n : ℕ) (x a b : List ℕ) → (s ≡ true → a ≡ x) → (t ≡ true → b ≡ x) → (r ≡ true → m ≡ n → a ≡ b) → (s || r) ≡ true → cond (not s) (1 + m) 0 ≡ cond (not t) (1 + n) 0 → a ≡ b
same_cons true true r m n x a b p q rest has e = p refl ∙ sym (q refl)
same_cons true false r m n x a b p q rest has e = absurd (omega arith)
same_cons false true r m n x a b p q rest has e = absurd (omega arith)
same_cons false false r m n x a b p q rest has e = rest has (omega arith)

pub same_number : (names : Names) (a b : List ℕ) → Has names a → number names a ≡ number names b → a ≡ b
same_number [] a b has e = absurd cc
same_number (x ∷ xs) a b has e = same_cons (bytes_eq a x) (bytes_eq b x) (list_any (bytes_eq a) xs) (number xs a) (number xs b) x a b (λ h. same_text a x (sym h)) (λ h. same_text b x (sym h)) (same_number xs a b) has e

pub bool_same : (s t : Bool) → (s ≡ true → t ≡ true) → (t ≡ true → s ≡ true) → s ≡ t
bool_same true true p q = refl
bool_same true false p q = sym (p refl)
bool_same false true p q = q refl
bool_same false false p q = refl

pub eq_yes : (m n : ℕ) → nat_eq m n ≡ true → m ≡ n
eq_yes m n h = grind (arith, common_steps)

pub yes_eq : (n : ℕ) → nat_eq n n ≡ true
yes_eq n = grind (arith, common_steps)

-- to compare numbers is to compare names
pub compared : (names : Names) (a b : List ℕ) → Has names a → nat_eq (number names a) (number names b) ≡ bytes_eq a b
compared names a b has = bool_same (nat_eq (number names a) (number names b)) (bytes_eq a b)
    (λ h. ap (bytes_eq a) (sym (same_number names a b has (eq_yes (number names a) (number names b) h))) ∙ same_name a)
    (λ h. ap (λ c. nat_eq (number names a) (number names c)) (sym (same_text a b (sym h))) ∙ yes_eq (number names a))
