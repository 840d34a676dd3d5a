-- Rows of an annotation.
use Rattle.std.proofs.Common.{◌≡◌, ℕ, zero, suc, ◌+◌, List, [], ◌∷◌, length, map, Option, Some, None, refl, ap, ◌∙◌}
use Rattle.std.specs.Prelude.{slice_get, option_map}
use Rattle.std.proofs.lemmas.List.{length-map}
use Rattle.std.proofs.lemmas.Option.{slice_get-map}
use Rattle.ann_element.specs.declared.element.Element.{Element}
use Rattle.ann_layout.specs.Layout.{numbers, rows}

abbrev pub row : Option (List Element) → List Element
row None = []
row (Some elements) = elements

numbers_count : (n count : ℕ) → length (numbers n count) ≡ count
numbers_count n zero = refl
numbers_count n (suc count) = ap suc (numbers_count (suc n) count)

-- a row has as many as its count
pub row_at : (n : ℕ) (counts : List ℕ) (i c : ℕ) → slice_get counts i ≡ Some c → (first : ℕ) × (slice_get (rows n counts) i ≡ Some (numbers first c))
row_at n [] i c e = cc
row_at n (count ∷ counts) zero c e = let same : count ≡ c = cc in (n, ap (λ k. Some (numbers n k)) same)
row_at n (count ∷ counts) (suc i) c e = row_at (n + count) counts i c e

abbrev cells : (ℕ → Element) → List ℕ → List Element
cells cell row = map cell row

pub count_of_row : {A : Type 0} (g : A → ℕ) (xs : List A) (n : ℕ) (cell : ℕ → Element) (i : ℕ) (x : A) → slice_get xs i ≡ Some x → (elements : List Element) × (slice_get (map (λ row. map cell row) (rows n (map g xs))) i ≡ Some elements) × (length elements ≡ g x)
count_of_row g xs n cell i x e =
    let counted : slice_get (map g xs) i ≡ Some (g x) = slice_get-map g xs i ∙ ap (option_map g) e in
    let found = row_at n (map g xs) i (g x) counted in
    (map cell (numbers found.0 (g x)), slice_get-map (cells cell) (rows n (map g xs)) i ∙ ap (option_map (cells cell)) found.1, length-map (numbers found.0 (g x)) cell ∙ numbers_count found.0 (g x))
