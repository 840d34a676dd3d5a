-- The locals of the code are those of the rules.
use Rattle.std.proofs.Common.{◌≡◌, ℕ, List, [], ◌∷◌, ◌++◌, Bool, true, false, map, sym, ap, ◌∙◌, refl, cond}
use Rattle.std.specs.Prelude.{◌||◌, nat_eq}
use Rattle.std.specs.List.{AllByRecursion, list_any}
use Rattle.std.specs.Str.{bytes_eq}
use Rattle.rpy_nodes.specs.Names.{number, with_name}
use Rattle.names_found.specs.Locals.{add, add_parameters, add_events}
use Rattle.names_rules.specs.Order.{Items, Bind, Catch, block}
use Rattle.names_rules.specs.Numbering.{next}
use Rattle.names_rules.specs.Events.{Names, see, events}
use Rattle.names_rules.specs.Locals.{Has, bound, names_bound, locals}
use Rattle.names_rules.specs.Members.{Formal, Body}
use Rattle.names_rules.specs.Listed.{parameter}
use Rattle.names_rules.specs.ProgramSites.{locals_of}
use Rattle.names_rules.proofs.Injective.{compared}
use Rattle.names_rules.proofs.Names.{see_append}

map_end : {A B : Type 0} (f : A → B) (xs : List A) (x : A) → map f xs ++ f x ∷ [] ≡ map f (xs ++ x ∷ [])
map_end f [] x = refl
map_end f (y ∷ ys) x = ap (λ zs. f y ∷ zs) (map_end f ys x)

pub all_first : {A : Type 0} (P : A → Type 0) (xs ys : List A) → AllByRecursion P (xs ++ ys) → AllByRecursion P xs
all_first P [] ys h = tt
all_first P (x ∷ xs) ys h = (h.0, all_first P xs ys h.1)

pub all_rest : {A : Type 0} (P : A → Type 0) (xs ys : List A) → AllByRecursion P (xs ++ ys) → AllByRecursion P ys
all_rest P [] ys h = h
all_rest P (x ∷ xs) ys h = all_rest P xs ys h.1

module _ (names : Names) where
  abbrev pub numbered : Names → List ℕ
  numbered of = map (number names) of

  any_same : (of : Names) (name : List ℕ) → Has names name → list_any (nat_eq (number names name)) (numbered of) ≡ list_any (bytes_eq name) of
  any_same [] name has = refl
  any_same (x ∷ of) name has = λ j. compared names name x has j || any_same of name has j

  by_any : (b : Bool) (of : Names) (name : List ℕ) → cond b (numbered of) (numbered of ++ number names name ∷ []) ≡ numbered (cond b of (of ++ name ∷ []))
  by_any true of name = refl
  by_any false of name = map_end (number names) of name

  pub added : (of : Names) (name : List ℕ) → Has names name → add (numbered of) (number names name) ≡ numbered (with_name of name)
  added of name has = ap (λ b. cond b (numbered of) (numbered of ++ number names name ∷ [])) (any_same of name has) ∙ by_any (list_any (bytes_eq name) of) of name

  parameters_added : (ps : List Formal) (of : Names) → AllByRecursion (Has names) (map (λ p. p.name) ps) → add_parameters (numbered of) (map (parameter names) ps) ≡ numbered (see (map (λ p. p.name) ps) of)
  parameters_added [] of all = refl
  parameters_added (p ∷ ps) of all = ap (λ ls. add_parameters ls (map (parameter names) ps)) (added of p.name all.0) ∙ parameters_added ps (with_name of p.name) all.1

  items_added : (is : Items) (n : ℕ) (of : Names) → AllByRecursion (Has names) (bound is) → add_events (numbered of) (events names n is) ≡ numbered (see (bound is) of)
  items_added [] n of all = refl
  items_added (Bind name ∷ is) n of all = ap (λ ls. add_events ls (events names (next (Bind name) n) is)) (added of name all.0) ∙ items_added is (next (Bind name) n) (with_name of name) all.1
  items_added (Catch name ∷ is) n of all = ap (λ ls. add_events ls (events names (next (Catch name) n) is)) (added of name all.0) ∙ items_added is (next (Catch name) n) (with_name of name) all.1
  items_added (i ∷ is) n of all = items_added is (next i n) of all

  pub locals_are : (params : List Formal) (body : Body) → AllByRecursion (Has names) (names_bound params body.of) → locals_of names params body ≡ numbered (locals params body.of)
  locals_are params body all =
      ap (λ ls. add_events ls (events names body.first (block body.of))) (parameters_added params [] (all_first (Has names) (map (λ p. p.name) params) (bound (block body.of)) all))
      ∙ items_added (block body.of) body.first (see (map (λ p. p.name) params) []) (all_rest (Has names) (map (λ p. p.name) params) (bound (block body.of)) all)
      ∙ ap numbered (sym (see_append (map (λ p. p.name) params) (bound (block body.of)) []))
