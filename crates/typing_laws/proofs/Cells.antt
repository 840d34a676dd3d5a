-- What an annotation shows of cells and marks.
use Rattle.std.proofs.Common.{◌≡◌, ◌≤◌, ℕ, zero, suc, Bool, false, List, [], ◌∷◌, length, map, get_or, refl, sym, ap, ◌∙◌, arith}
use Rattle.std.specs.Prelude.{slice_get, unwrap_or}
use Rattle.std.proofs.lemmas.List.{length-map}
use Rattle.ann_element.specs.declared.element.Element as forms
use Rattle.ann_element.specs.declared.element.Element.{Element}
use Rattle.ann_element.specs.declared.element.Element.TheVariants as element
use Rattle.ann_element.specs.declared.element.Element.TheOpen.{Element-F}
use Rattle.ann_element.specs.declared.element.Element.TheFolds.{fold-roll-Element}
use Rattle.ann_lattice.specs.Shape.{Shape, Nothing, shape, shape_step}
use Rattle.ann_lattice.specs.Assign.{at, mark}
use Rattle.ann_needs.specs.View.{nowhere, place, row_of, place_in, assignment}
use Rattle.ann_needs.specs.declared.state.State.{State}
use Rattle.ann_settled.specs.Read as read
use Rattle.ann_settled.specs.Read.{element_at, mark_at}
use Rattle.rtyper_core.specs.Modify.{is_marked}
use Rattle.rtyper_core.specs.Typing.{elements_at, marks_at}
use Rattle.typing_laws.proofs.Operands.{seen}

past : {A : Type 0} → (xs : List A) (i : ℕ) (x : A) → length xs ≤ i → get_or xs i x ≡ x
past [] i x le = refl
past (y ∷ xs) zero x le = absurd (omega (arith, le))
past (y ∷ xs) (suc i) x le = past xs i x (omega (arith, le))

pub unreached_shape : shape element.Unreached ≡ Nothing
unfolding forms.roll-Element denote.Hole.Carrier.roll
unreached_shape = fold-roll-Element Shape shape_step Element-F.Unreached

pub shape_at : (cells : List Element) (c : ℕ) → shape (element_at cells c) ≡ get_or (map shape cells) c Nothing
shape_at [] c = unreached_shape
shape_at (x ∷ xs) zero = refl
shape_at (x ∷ xs) (suc c) = shape_at xs c

mark_is : (marks : List Bool) (m : ℕ) → mark_at marks m ≡ get_or marks m false
mark_is [] m = refl
mark_is (x ∷ xs) zero = refl
mark_is (x ∷ xs) (suc m) = mark_is xs m

module _ (s : State) (few_cells : length s.cells ≤ nowhere) (few_marks : length s.marks ≤ nowhere) where
  pub cell_seen : (row : List ℕ) (v : ℕ) → seen (slice_get (read.cells s row) v) ≡ at (assignment s) (place row v)
  cell_seen [] v = let l = length-map s.cells shape in sym (past (map shape s.cells) nowhere Nothing (omega (arith, l, few_cells)))
  cell_seen (c ∷ row) zero = shape_at s.cells c
  cell_seen (c ∷ row) (suc v) = cell_seen row v

  pub mark_seen : (row : List ℕ) (m : ℕ) → unwrap_or (slice_get (read.marks s row) m) false ≡ mark (assignment s) (place row m)
  mark_seen [] m = sym (past s.marks nowhere false few_marks)
  mark_seen (c ∷ row) zero = mark_is s.marks c
  mark_seen (c ∷ row) (suc m) = mark_seen row m

  elements_are : (rows : List (List ℕ)) (g : ℕ) → elements_at (map (read.cells s) rows) g ≡ read.cells s (row_of rows g)
  elements_are [] g = refl
  elements_are (row ∷ rows) zero = refl
  elements_are (row ∷ rows) (suc g) = elements_are rows g

  marks_are : (rows : List (List ℕ)) (g : ℕ) → marks_at (map (read.marks s) rows) g ≡ read.marks s (row_of rows g)
  marks_are [] g = refl
  marks_are (row ∷ rows) zero = refl
  marks_are (row ∷ rows) (suc g) = marks_are rows g

  pub variable_seen : (rows : List (List ℕ)) (g v : ℕ) → seen (slice_get (elements_at (map (read.cells s) rows) g) v) ≡ at (assignment s) (place_in rows g v)
  variable_seen rows g v = ap (λ es. seen (slice_get es v)) (elements_are rows g) ∙ cell_seen (row_of rows g) v

  pub block_seen : (rows : List (List ℕ)) (g b : ℕ) → is_marked (marks_at (map (read.marks s) rows) g) b ≡ mark (assignment s) (place_in rows g b)
  block_seen rows g b = ap (λ marks. is_marked marks b) (marks_are rows g) ∙ mark_seen (row_of rows g) b
