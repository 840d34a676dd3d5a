-- Which names of methods are known.
use Rattle.std.proofs.Common.{◌≡◌, ℕ, ◌||◌, ◌==◌, Bool, true, false, List, [], ◌∷◌, ◌++◌, map, Option, Some, None, is_some, refl, sym, ap, subst, ◌∙◌, bytes_eq}
use Rattle.std.specs.Prelude.{if◌then◌else◌}
use Rattle.std.specs.List.{list_any}
use Rattle.std.proofs.lemmas.List.Folds.{list_any-append}
use Rattle.std.proofs.lemmas.Slice.Eq.{bytes_eq-Decides}
use Rattle.rpy_tree.specs.declared.program.ClassInfo.{ClassInfo}
use Rattle.rpy_tree.specs.declared.program.Program.{Program}
use Rattle.rpy_meaning.specs.Classes.{named, no_covers}
use Rattle.rpy_meaning.specs.Methods.{text_methods, list_methods, dict_methods}
use Rattle.rpy_meaning.specs.Resolved.{Further, has_method, is_method}
use Rattle.resolver_names.specs.Tables.{with_name, known_methods, words_onto, methods_onto, classes_onto}
use Rattle.resolver_names.specs.Told.{has}

bytes_sym : (a b : List ℕ) → bytes_eq a b ≡ bytes_eq b a
bytes_sym a b = by (bytes_eq a b) (bytes_eq b a) refl refl
  where
    by : (x y : Bool) → bytes_eq a b ≡ x → bytes_eq b a ≡ y → x ≡ y
    by true true e f = refl
    by false false e f = refl
    by true false e f = sym ((bytes_eq-Decides b a).1 (sym ((bytes_eq-Decides a b).0 e))) ∙ f
    by false true e f = sym e ∙ (bytes_eq-Decides a b).1 (sym ((bytes_eq-Decides b a).0 f))

or_swap : (a b : Bool) → (a || (b || false)) ≡ (b || a)
or_swap true true = refl
or_swap true false = refl
or_swap false true = refl
or_swap false false = refl

or_assoc : (a b c : Bool) → (a || (b || c)) ≡ ((a || b) || c)
or_assoc true b c = refl
or_assoc false b c = refl

or_comm : (a b : Bool) → (a || b) ≡ (b || a)
or_comm true true = refl
or_comm true false = refl
or_comm false true = refl
or_comm false false = refl

or_false : (a : Bool) → (a || false) ≡ a
or_false true = refl
or_false false = refl

absorbed : (a b : Bool) → (a ≡ true → b ≡ true) → b ≡ (a || b)
absorbed true b h = h refl
absorbed false b h = refl

module _ (q : List ℕ) where
  abbrev is_name : List ℕ → Bool
  is_name k = bytes_eq k q

  has_with : (names : List (List ℕ)) (k : List ℕ) → has (with_name names k) q ≡ (is_name k || has names q)
  has_with names k = by (list_any (bytes_eq k) names) refl
    where
      by : (b : Bool) → list_any (bytes_eq k) names ≡ b → has (if b then names else names ++ k ∷ []) q ≡ (is_name k || has names q)
      by true e = absorbed (is_name k) (has names q) (λ h. subst (λ (r : List ℕ). has names r ≡ true) ((bytes_eq-Decides k q).0 h) e)
      by false e =
          list_any-append (bytes_eq q) names (k ∷ [])
          ∙ or_swap (has names q) (bytes_eq q k)
          ∙ ap (λ (b : Bool). b || has names q) (bytes_sym q k)

  methods_have : (ms : List (List ℕ × ℕ)) (names : List (List ℕ)) → has (methods_onto ms names) q ≡ (is_some (named q ms) || has names q)
  methods_have [] names = refl
  methods_have (m ∷ ms) names =
      methods_have ms (with_name names m.0)
      ∙ ap (λ (b : Bool). is_some (named q ms) || b) (has_with names m.0)
      ∙ or_assoc (is_some (named q ms)) (is_name m.0) (has names q)
      ∙ ap (λ (b : Bool). b || has names q) (or_comm (is_some (named q ms)) (is_name m.0) ∙ named_first (is_name m.0) (named q ms))
    where
      named_first : (b : Bool) (o : Option ℕ) → (b || is_some o) ≡ is_some (if b then Some m.1 else o)
      named_first true o = refl
      named_first false o = refl

  module _ (p : Program) (f : Further) where
    classes_have : (cs : List ClassInfo) (names : List (List ℕ)) → has (classes_onto cs names) q ≡ (has names q || list_any (has_method p f q) cs)
    classes_have [] names = sym (or_false (has names q))
    classes_have (c ∷ cs) names =
        classes_have cs (methods_onto c.methods names)
        ∙ ap (λ (b : Bool). b || list_any (has_method p f q) cs) (methods_have c.methods names ∙ or_comm (has_method p f q c) (has names q))
        ∙ sym (or_assoc (has names q) (has_method p f q c) (list_any (has_method p f q) cs))

  -- ---- those of strings, lists and dicts

  abbrev among : List (List ℕ) → Bool
  among names = list_any is_name names

  named_among : {A : Type 0} (entries : List (List ℕ × A)) → is_some (named q entries) ≡ among (map (λ (e : List ℕ × A). e.0) entries)
  named_among [] = refl
  named_among (e ∷ entries) = first (is_name e.0) (named q entries) e.1 ∙ ap (λ (b : Bool). is_name e.0 || b) (named_among entries)
    where
      first : {A : Type 0} (b : Bool) (o : Option A) (a : A) → is_some (if b then Some a else o) ≡ (b || is_some o)
      first true o a = refl
      first false o a = refl

abbrev texts : List (List ℕ)
texts = map (λ e. e.0) text_methods

abbrev lists : List (List ℕ)
lists = map (λ e. e.0) (list_methods no_covers)

abbrev dicts : List (List ℕ)
dicts = map (λ e. e.0) dict_methods

-- the words of a text
abbrev words_of : List ℕ → List ℕ → List (List ℕ)
words_of [] word = []
words_of (b ∷ bytes) word = if b == 32 then word ∷ words_of bytes [] else words_of bytes (word ++ b ∷ [])

words_are : words_of known_methods [] ≡ texts ++ (lists ++ dicts)
unfolding known_methods
words_are = refl

module _ (q : List ℕ) where
  sorted : (a b c : Bool) → (a || (b || c)) ≡ ((b || a) || c)
  sorted true true c = refl
  sorted true false c = refl
  sorted false true c = refl
  sorted false false c = refl

  words_have : (bytes word : List ℕ) (names : List (List ℕ)) → has (words_onto bytes word names) q ≡ (among q (words_of bytes word) || has names q)
  words_have [] word names = refl
  words_have (b ∷ bytes) word names = by (b == 32) (words_have bytes [] (with_name names word)) (words_have bytes (word ++ b ∷ []) names)
    where
      by : (c : Bool) → has (words_onto bytes [] (with_name names word)) q ≡ (among q (words_of bytes []) || has (with_name names word) q)
          → has (words_onto bytes (word ++ b ∷ []) names) q ≡ (among q (words_of bytes (word ++ b ∷ [])) || has names q)
          → has (if c then words_onto bytes [] (with_name names word) else words_onto bytes (word ++ b ∷ []) names) q
          ≡ (among q (if c then word ∷ words_of bytes [] else words_of bytes (word ++ b ∷ [])) || has names q)
      by true here on = here ∙ ap (λ (x : Bool). among q (words_of bytes []) || x) (has_with q names word) ∙ sorted (among q (words_of bytes [])) (is_name q word) (has names q)
      by false here on = on

pub methods_told : (p : Program) (f : Further) (q : List ℕ) → has (classes_onto p.classes (words_onto known_methods [] [])) q ≡ is_method p f q
methods_told p f q =
    classes_have q p f p.classes (words_onto known_methods [] [])
    ∙ ap (λ (b : Bool). b || list_any (has_method p f q) p.classes) known
    ∙ shape (is_some (named q text_methods)) (is_some (named q (list_methods no_covers))) (is_some (named q dict_methods)) (list_any (has_method p f q) p.classes)
  where
    known : has (words_onto known_methods [] []) q ≡ (is_some (named q text_methods) || (is_some (named q (list_methods no_covers)) || is_some (named q dict_methods)))
    known =
        words_have q known_methods [] []
        ∙ or_false (among q (words_of known_methods []))
        ∙ ap (λ (names : List (List ℕ)). among q names) words_are
        ∙ list_any-append (is_name q) texts (lists ++ dicts)
        ∙ ap (λ (b : Bool). among q texts || b) (list_any-append (is_name q) lists dicts)
        ∙ (λ i. sym (named_among q text_methods) i || (sym (named_among q (list_methods no_covers)) i || sym (named_among q dict_methods) i))

    shape : (a b c d : Bool) → ((a || (b || c)) || d) ≡ (a || b || c || d)
    shape true b c d = refl
    shape false true c d = refl
    shape false false true d = refl
    shape false false false d = refl
