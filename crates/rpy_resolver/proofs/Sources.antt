-- Functions that are made one by one give values of the nodes of their texts.
use Rattle.std.proofs.Common.{◌≡◌, List, [], ◌∷◌, ◌++◌, sym, ap, ◌∙◌, subst, append_assoc}
use Rattle.std.specs.List.{flat_map}
use Rattle.std.proofs.lemmas.List.{append-nil}
use Rattle.rpy_resolved.specs.declared.tree.Function.{Function}
use Rattle.resolver_laws.specs.Made.{Source, IsFrom, AreFrom}

pub from_push : (old : List Function) (done : List Source) (f : Function) (s : Source) → AreFrom old done → IsFrom f s → AreFrom (old ++ f ∷ []) (done ++ s ∷ [])
from_push [] [] f s h is = (is, tt)
from_push [] (t ∷ done) f s h is = absurd h
from_push (g ∷ old) [] f s h is = absurd h
from_push (g ∷ old) (t ∷ done) f s h is = (h.0, from_push old done f s h.1 is)

pub from_pushed : (old new : List Function) (done : List Source) (f : Function) (s : Source) → new ≡ old ++ f ∷ [] → AreFrom old done → IsFrom f s → AreFrom new (done ++ s ∷ [])
from_pushed old new done f s is h g = subst (λ (fs : List Function). AreFrom fs (done ++ s ∷ [])) (sym is) (from_push old done f s h g)

pub from_none : (fs : List Function) (done more : List Source) → more ≡ [] → AreFrom fs done → AreFrom fs (done ++ more)
from_none fs done more is h = subst (λ (ss : List Source). AreFrom fs ss) (sym (append-nil done) ∙ ap (λ (ss : List Source). done ++ ss) (sym is)) h

-- functions were added to those before them
abbrev pub Adds : List Function → List Function → List Source → Type 0
Adds old new more = (done : List Source) → AreFrom old done → AreFrom new (done ++ more)

pub adds_none : (fs : List Function) → Adds fs fs []
adds_none fs done h = from_none fs done [] (λ i. []) h

pub adds_on : (old mid new : List Function) (more next : List Source) → Adds old mid more → Adds mid new next → Adds old new (more ++ next)
adds_on old mid new more next g h done a = subst (λ (ss : List Source). AreFrom new ss) (append_assoc done more next) (h (done ++ more) (g done a))

-- so far, and what is left
module _ {A : Type 0} (src : A → List Source) where
  pub left_on : (more whole : List Source) (x : A) (rest tail : List A) → rest ≡ x ∷ tail → more ++ flat_map src rest ≡ whole → (more ++ src x) ++ flat_map src tail ≡ whole
  left_on more whole x rest tail split e = append_assoc more (src x) (flat_map src tail) ∙ ap (λ us. more ++ flat_map src us) (sym split) ∙ e

  pub all_done : (more whole : List Source) (rest : List A) → rest ≡ [] → more ++ flat_map src rest ≡ whole → more ≡ whole
  all_done more whole rest is e = sym (append-nil more) ∙ ap (λ us. more ++ flat_map src us) (sym is) ∙ e
