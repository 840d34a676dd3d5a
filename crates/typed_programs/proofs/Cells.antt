-- What stands in the lists of an annotation stands in cells and marks at their places.
use Rattle.std.proofs.Common.{◌≡◌, ℕ, zero, suc, Bool, false, List, [], ◌∷◌, map, Option, Some, None, refl, sym, ap, ◌∙◌}
use Rattle.std.specs.Prelude.{slice_get, unwrap_or, get_or}
use Rattle.ann_element.specs.declared.element.Element.{Element}
use Rattle.ann_lattice.specs.Assign.{at, mark}
use Rattle.ann_lattice.specs.Shape.{shape}
use Rattle.ann_needs.specs.View.{assignment, nowhere, place, place_in}
use Rattle.ann_needs.specs.declared.state.State.{State}
use Rattle.ann_settled.specs.Read as read
use Rattle.typing_laws.proofs.Cells.{shape_at}

pub no_some : {A : Type 0} {x : A} → None ≡ Some x → ⊥
no_some h = cc

pub same_some : {A : Type 0} {x y : A} → Some x ≡ Some y → x ≡ y
same_some h = cc

-- what stands in a list that is made one by one
pub record Mapped {A B : Type 0} (f : A → B) (xs : List A) (i : ℕ) (y : B) : Type 0 where
  pub from : A
  pub there : slice_get xs i ≡ Some from
  pub is : y ≡ f from

pub mapped : {A B : Type 0} (f : A → B) (xs : List A) (i : ℕ) (y : B) → slice_get (map f xs) i ≡ Some y → Mapped f xs i y
mapped f [] i y h = absurd (no_some h)
mapped f (x ∷ xs) zero y h = record { from = x; there = refl; is = sym (same_some h) }
mapped f (x ∷ xs) (suc i) y h = let it = mapped f xs i y h in record { from = it.from; there = it.there; is = it.is }

mark_is : (marks : List Bool) (m : ℕ) → get_or marks m false ≡ unwrap_or (slice_get marks m) false
mark_is [] m = refl
mark_is (b ∷ marks) zero = refl
mark_is (b ∷ marks) (suc m) = mark_is marks m

module _ (s : State) where
  pub cell_seen : (c : ℕ) → shape (read.cell s c) ≡ at (assignment s) c
  cell_seen c = shape_at s.cells c

  pub mark_seen : (m : ℕ) → read.mark s m ≡ mark (assignment s) m
  mark_seen m = sym (mark_is s.marks m)

  -- in a row, and in rows
  pub in_row : (row : List ℕ) (i : ℕ) (e : Element) → slice_get (read.cells s row) i ≡ Some e → at (assignment s) (place row i) ≡ shape e
  in_row row i e h =
      let it = mapped (read.cell s) row i e h in
      ap (λ (o : Option ℕ). at (assignment s) (unwrap_or o nowhere)) it.there ∙ sym (cell_seen it.from) ∙ ap shape (sym it.is)

  pub in_rows : (rows : List (List ℕ)) (g i : ℕ) (row : List Element) (e : Element) → slice_get (map (read.cells s) rows) g ≡ Some row → slice_get row i ≡ Some e → at (assignment s) (place_in rows g i) ≡ shape e
  in_rows rows g i row e h k =
      let it = mapped (read.cells s) rows g row h in
      ap (λ (o : Option (List ℕ)). at (assignment s) (place (unwrap_or o []) i)) it.there ∙ in_row it.from i e (ap (λ r. slice_get r i) (sym it.is) ∙ k)

  -- marks in a row that stands in the marks
  pub marked_in : (row : List ℕ) (i : ℕ) → mark (assignment s) nowhere ≡ false → mark (assignment s) (place row i) ≡ unwrap_or (slice_get (read.marks s row) i) false
  marked_in [] i h = h
  marked_in (m ∷ row) zero h = sym (mark_seen m)
  marked_in (m ∷ row) (suc i) h = marked_in row i h
