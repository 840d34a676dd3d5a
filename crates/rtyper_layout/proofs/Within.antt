-- The sites and the tuples in a tuple.
use Rattle.std.proofs.Common.{◌≡◌, ℕ, List, [], ◌∷◌, ◌++◌, map, Bool, refl, sym, ap, ◌∙◌, subst}
use Rattle.std.specs.List.{flat_map}
use Rattle.std.proofs.lemmas.List.Folds.{flat_map-map}
use Rattle.ann_element.specs.declared.element.Element.{Element, fold-roll-Element, ind-Element, roll-Element, map-Element}
use Rattle.ann_element.specs.declared.element.Element.TheVariants as e
use Rattle.ann_element.specs.declared.element.Element.TheOpen.{Element-F}
use Rattle.rtyper_layout.specs.declared.layout.Layout.{Layout}
use Rattle.rtyper_layout.specs.Sites.{same, sites_step, sites_of, sites_in, with_site, with_sites, tuples_step, tuples_with, tuples_of, with_shape, with_shapes, shapes_in}

-- those of two stretches, one after the other
more_sites : (sites xs ys : List ℕ) → with_sites sites (xs ++ ys) ≡ with_sites (with_sites sites xs) ys
more_sites sites [] ys = refl
more_sites sites (x ∷ xs) ys = more_sites (with_site sites x) xs ys

more_shapes : (layout : Layout) (xs ys : List (List Element)) → with_shapes layout (xs ++ ys) ≡ with_shapes (with_shapes layout xs) ys
more_shapes layout [] ys = refl
more_shapes layout (x ∷ xs) ys = more_shapes (with_shape layout x) xs ys

-- one element after the other
all_sites_in : (of_dicts : Bool) (sites : List ℕ) (es : List Element) → with_sites sites (flat_map (sites_of of_dicts) es) ≡ sites_in of_dicts sites es
all_sites_in of_dicts sites [] = refl
all_sites_in of_dicts sites (e ∷ es) = more_sites sites (sites_of of_dicts e) (flat_map (sites_of of_dicts) es) ∙ all_sites_in of_dicts (with_sites sites (sites_of of_dicts e)) es

all_shapes_in : (layout : Layout) (es : List Element) → with_shapes layout (flat_map tuples_of es) ≡ shapes_in layout es
all_shapes_in layout [] = refl
all_shapes_in layout (e ∷ es) = more_shapes layout (tuples_of e) (flat_map tuples_of es) ∙ all_shapes_in (with_shapes layout (tuples_of e)) es

sites_inside : (of_dicts : Bool) (parts : List Element) → sites_of of_dicts (e.Tuple parts) ≡ flat_map (sites_of of_dicts) parts
sites_inside of_dicts parts =
    ap (sites_of of_dicts) (sym (e.rolls-Tuple parts)) ∙ fold-roll-Element (List ℕ) (sites_step of_dicts) (Element-F.Tuple parts)
    ∙ flat_map-map same (sites_of of_dicts) parts

pub sites_of_tuple : (of_dicts : Bool) (sites : List ℕ) (parts : List Element) → with_sites sites (sites_of of_dicts (e.Tuple parts)) ≡ sites_in of_dicts sites parts
sites_of_tuple of_dicts sites parts = ap (with_sites sites) (sites_inside of_dicts parts) ∙ all_sites_in of_dicts sites parts

-- the element that goes with the tuples is the element
abbrev Kept : Element → Type 0
Kept x = (tuples_with x).0 ≡ x

by_layer : (x : Element-F Element) → map-Element (Element × List (List Element)) Element (λ p. p.0) (map-Element Element (Element × List (List Element)) tuples_with x) ≡ x → Kept (roll-Element x)
by_layer x h = ap (λ p. p.0) (fold-roll-Element (Element × List (List Element)) tuples_step x) ∙ ap roll-Element h

firsts_kept : (ys : List ((x : Element) × Kept x)) → map (λ p. p.0) (map tuples_with (map (λ p. p.0) ys)) ≡ map (λ p. p.0) ys
firsts_kept [] = refl
firsts_kept (y ∷ ys) = ap (λ z. z ∷ map (λ p. p.0) (map tuples_with (map (λ p. p.0) ys))) y.1 ∙ ap (λ zs. y.0 ∷ zs) (firsts_kept ys)

kept : (x : Element) → Kept x
kept = ind-Element Kept (λ x y is. (elim y as (λ z. map-Element _ Element (λ e. e.0) z ≡ x → Kept (roll-Element x)) [
  | Element-F.Tuple ys ↦ λ e. subst (λ z. Kept (roll-Element z)) e (by_layer (Element-F.Tuple (map (λ p. p.0) ys)) (ap Element-F.Tuple (firsts_kept ys)))
  | Element-F.Unreached ↦ λ e. subst (λ z. Kept (roll-Element z)) e (by_layer (Element-F.Unreached) refl)
  | Element-F.NoneOnly ↦ λ e. subst (λ z. Kept (roll-Element z)) e (by_layer (Element-F.NoneOnly) refl)
  | Element-F.KnownTrue ↦ λ e. subst (λ z. Kept (roll-Element z)) e (by_layer (Element-F.KnownTrue) refl)
  | Element-F.KnownFalse ↦ λ e. subst (λ z. Kept (roll-Element z)) e (by_layer (Element-F.KnownFalse) refl)
  | Element-F.Bool ↦ λ e. subst (λ z. Kept (roll-Element z)) e (by_layer (Element-F.Bool) refl)
  | Element-F.IntPos ↦ λ e. subst (λ z. Kept (roll-Element z)) e (by_layer (Element-F.IntPos) refl)
  | Element-F.Int ↦ λ e. subst (λ z. Kept (roll-Element z)) e (by_layer (Element-F.Int) refl)
  | Element-F.Char ↦ λ e. subst (λ z. Kept (roll-Element z)) e (by_layer (Element-F.Char) refl)
  | Element-F.Str ↦ λ e. subst (λ z. Kept (roll-Element z)) e (by_layer (Element-F.Str) refl)
  | Element-F.StrOrNone ↦ λ e. subst (λ z. Kept (roll-Element z)) e (by_layer (Element-F.StrOrNone) refl)
  | Element-F.List site none ↦ λ e. subst (λ z. Kept (roll-Element z)) e (by_layer (Element-F.List site none) refl)
  | Element-F.Dict site none ↦ λ e. subst (λ z. Kept (roll-Element z)) e (by_layer (Element-F.Dict site none) refl)
  | Element-F.Instance class none ↦ λ e. subst (λ z. Kept (roll-Element z)) e (by_layer (Element-F.Instance class none) refl)
  | Element-F.Func functions none ↦ λ e. subst (λ z. Kept (roll-Element z)) e (by_layer (Element-F.Func functions none) refl)
  | Element-F.Conflict lists dicts ↦ λ e. subst (λ z. Kept (roll-Element z)) e (by_layer (Element-F.Conflict lists dicts) refl)
]) is)

all_kept : (parts : List Element) → map (λ p. p.0) (map tuples_with parts) ≡ parts
all_kept [] = refl
all_kept (x ∷ xs) = ap (λ z. z ∷ map (λ p. p.0) (map tuples_with xs)) (kept x) ∙ ap (λ zs. x ∷ zs) (all_kept xs)

tuples_inside : (parts : List Element) → tuples_of (e.Tuple parts) ≡ flat_map tuples_of parts ++ parts ∷ []
tuples_inside parts =
    ap tuples_of (sym (e.rolls-Tuple parts)) ∙ ap (λ p. p.1) (fold-roll-Element (Element × List (List Element)) tuples_step (Element-F.Tuple parts))
    ∙ ap (λ more. more ++ map (λ p. p.0) (map tuples_with parts) ∷ []) (flat_map-map (λ p. p.1) tuples_with parts)
    ∙ ap (λ zs. flat_map tuples_of parts ++ zs ∷ []) (all_kept parts)

pub shapes_of_tuple : (layout : Layout) (parts : List Element) → with_shapes layout (tuples_of (e.Tuple parts)) ≡ with_shape (shapes_in layout parts) parts
shapes_of_tuple layout parts =
    ap (with_shapes layout) (tuples_inside parts) ∙ more_shapes layout (flat_map tuples_of parts) (parts ∷ [])
    ∙ ap (λ layout. with_shape layout parts) (all_shapes_in layout parts)
