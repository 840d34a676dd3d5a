-- What stands in an annotation stands in a cell.
use Rattle.std.proofs.Common.{◌≡◌, ℕ, zero, suc, Bool, true, false, List, [], ◌∷◌, ◌++◌, map, get_or, Some, None, refl, sym, ap, ◌∙◌, subst}
use Rattle.std.specs.Prelude.{slice_get, if◌then◌else◌}
use Rattle.class_desc.specs.Tables.{Tables, home}
use Rattle.ann_element.specs.declared.element.Element.{Element}
use Rattle.ann_element.specs.declared.annotation.Annotation.{Annotation}
use Rattle.ann_lattice.specs.Shape.{Shape, Nothing}
use Rattle.ann_needs.specs.declared.plan.Places.{Places}
use Rattle.ann_needs.specs.declared.state.State.{State}
use Rattle.ann_settled.specs.Read as read
use Rattle.laid_laws.specs.Laid.{InRow, StandsIn, Param, Result, Variable, Attribute, Item, Key}

no_some : {A : Type 0} {x : A} → None ≡ Some x → ⊥
no_some h = cc

same_some : {A : Type 0} {x y : A} → Some x ≡ Some y → x ≡ y
same_some h = cc

module _ (s : State) where
  abbrev pub InCell : Element → Type 0
  InCell e = (c : ℕ) × (e ≡ read.cell s c)

  of_row : (row : List ℕ) (e : Element) (i : ℕ) → slice_get (read.cells s row) i ≡ Some e → InCell e
  of_row [] e i h = absurd (no_some h)
  of_row (c ∷ row) e zero h = (c, sym (same_some h))
  of_row (c ∷ row) e (suc i) h = of_row row e i h

  of_rows : (rows : List (List ℕ)) (e : Element) (i : ℕ) (row : List Element) → slice_get (map (read.cells s) rows) i ≡ Some row → InRow row e → InCell e
  of_rows [] e i row h it = absurd (no_some h)
  of_rows (cs ∷ rows) e zero row h it = of_row cs e it.0 (ap (λ es. slice_get es it.0) (same_some h) ∙ it.1)
  of_rows (cs ∷ rows) e (suc i) row h it = of_rows rows e i row h it

  -- ---- attributes

  abbrev AllCells : List (ℕ × List ℕ × Element) → Type 0
  AllCells [] = Unit {0}
  AllCells (x ∷ xs) = InCell x.2 × AllCells xs

  both : (xs ys : List (ℕ × List ℕ × Element)) → AllCells xs → AllCells ys → AllCells (xs ++ ys)
  both [] ys h g = g
  both (x ∷ xs) ys h g = (h.0, both xs ys h.1 g)

  own_cell : (b : Bool) (c : ℕ) (entry : List ℕ × ℕ) → AllCells (if b then (c, entry.0, read.cell s entry.1) ∷ [] else [])
  own_cell true c entry = ((entry.1, refl), tt)
  own_cell false c entry = tt

  of_class : (t : Tables) (c : ℕ) (entries : List (List ℕ × ℕ)) → AllCells (read.attributes_of s t c entries)
  of_class t c [] = tt
  of_class t c (entry ∷ entries) = both (read.own s t c entry) (read.attributes_of s t c entries) (own_cell (read.at_home c (home t c entry.0)) c entry) (of_class t c entries)

  of_classes : (t : Tables) (c : ℕ) (rows : List (List (List ℕ × ℕ))) → AllCells (read.attributes s t c rows)
  of_classes t c [] = tt
  of_classes t c (row ∷ rows) = both (read.attributes_of s t c row) (read.attributes s t (suc c) rows) (of_class t c row) (of_classes t (suc c) rows)

  found : (xs : List (ℕ × List ℕ × Element)) → AllCells xs → (i home : ℕ) (name : List ℕ) (e : Element) → slice_get xs i ≡ Some (home, name, e) → InCell e
  found [] h i home name e g = absurd (no_some g)
  found (x ∷ xs) h zero home name e g = subst (λ (y : ℕ × List ℕ × Element). InCell y.2) (same_some g) h.0
  found (x ∷ xs) h (suc i) home name e g = found xs h.1 i home name e g

  -- ---- the whole

  in_cell : (t : Tables) (nodes : List Element) (p : Places) (e : Element) → StandsIn (read.annotation s t nodes p) e → InCell e
  in_cell t nodes p e (Param h) = of_rows p.params e h.0 h.1.0 h.1.1.0 h.1.1.1
  in_cell t nodes p e (Result h) = of_row p.results e h.0 h.1
  in_cell t nodes p e (Variable h) = of_rows p.variables e h.0 h.1.0 h.1.1.0 h.1.1.1
  in_cell t nodes p e (Attribute h) = found (read.attributes s t 0 p.attributes) (of_classes t 0 p.attributes) h.0 h.1.0 h.1.1.0 e h.1.1.1
  in_cell t nodes p e (Item h) = of_row p.items e h.0 h.1
  in_cell t nodes p e (Key h) = of_row p.keys e h.0 h.1

  pub stands_in_cell : (t : Tables) (p : Places) (n : Annotation) → n ≡ read.annotation s t n.nodes p → (e : Element) → StandsIn n e → InCell e
  stands_in_cell t p n is e h = in_cell t n.nodes p e (subst (λ (m : Annotation). StandsIn m e) is h)

-- an element that is written so stands where it stood
pub mapped_at : (f : Shape → Shape) → f Nothing ≡ Nothing → (xs : List Shape) (c : ℕ) → get_or (map f xs) c Nothing ≡ f (get_or xs c Nothing)
mapped_at f h [] c = sym h
mapped_at f h (x ∷ xs) zero = refl
mapped_at f h (x ∷ xs) (suc c) = mapped_at f h xs c
