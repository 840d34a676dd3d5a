-- Lists of cells that go on and end.
use Rattle.std.proofs.Common.{◌≡◌, ℕ, List, [], ◌∷◌, ◌++◌, sym, ap, ◌∙◌, append_assoc, codes, map, refl}
use Rattle.std.proofs.lemmas.List.{append-nil}
use Rattle.std.specs.List.{flat_map}
use Rattle.csub_tree.specs.declared.tree.CCell.{CCell}
use Rattle.csub_tree.specs.Spelling.{listed, cell_text, cells_text}
use Rattle.csub_reader.specs.OpenCells.{followed, open_list, open_text}
use Rattle.csub_reader.proofs.Longer.{flat_map_more}

regroup : (a b c d e : List ℕ) → (a ++ b) ++ (c ++ (d ++ e)) ≡ a ++ (((b ++ c) ++ d) ++ e)
regroup a b c d e =
    append_assoc a b (c ++ (d ++ e))
    ∙ ap (λ t. a ++ t) (sym (append_assoc b c (d ++ e)) ∙ sym (append_assoc (b ++ c) d e))

-- a separator before each is the same as one after each but the last
moved : {A : Type 0} (g : A → List ℕ) (s : List ℕ) (ys : List A) (x : A)
    → flat_map (λ t. s ++ t) (map g (ys ++ x ∷ [])) ≡ s ++ (flat_map (λ y. g y ++ s) ys ++ g x)
moved g s [] x = append-nil (s ++ g x)
moved g s (z ∷ zs) x =
    ap (λ t. (s ++ g z) ++ t) (moved g s zs x) ∙ regroup s (g z) s (flat_map (λ y. g y ++ s) zs) (g x)

listed_last : {A : Type 0} (g : A → List ℕ) (xs : List A) (x : A)
    → listed (λ t. t) (map g (xs ++ x ∷ [])) ≡ flat_map (λ y. g y ++ codes ", ") xs ++ g x
listed_last g [] x = append-nil (g x)
listed_last g (y ∷ ys) x =
    ap (λ t. g y ++ t) (moved g (codes ", ") ys x)
    ∙ sym (append_assoc (g y) (codes ", ") (flat_map (λ z. g z ++ codes ", ") ys ++ g x))
    ∙ sym (append_assoc (g y ++ codes ", ") (flat_map (λ z. g z ++ codes ", ") ys) (g x))

cells_text_last : (xs : List CCell) (x : CCell)
    → cells_text (map cell_text (xs ++ x ∷ [])) ≡ codes "{ " ++ (listed (λ t. t) (map cell_text (xs ++ x ∷ [])) ++ codes " }")
cells_text_last [] x = refl
cells_text_last (y ∷ ys) x = refl

-- a list that has begun
pub begun : (outer longer : List (List CCell)) (old now : List ℕ)
    → longer ≡ outer ++ [] ∷ [] → old ≡ codes "{ " ++ now → open_text outer ++ old ≡ open_text longer ++ now
begun outer longer old now e is =
    ap (λ t. open_text outer ++ t) is
    ∙ sym (append_assoc (open_text outer) (codes "{ ") now)
    ∙ ap (λ t. t ++ now) (sym (flat_map_more open_list outer []))
    ∙ ap (λ ls. open_text ls ++ now) (sym e)

-- a list with one cell more, which another one follows
pub gone_on : (outer longer : List (List CCell)) (cells more : List CCell) (cell : CCell) (old now : List ℕ)
    → more ≡ cells ++ cell ∷ [] → longer ≡ outer ++ more ∷ [] → old ≡ codes ", " ++ now
    → open_text (outer ++ cells ∷ []) ++ (cell_text cell ++ old) ≡ open_text longer ++ now
gone_on outer longer cells more cell old now em el is =
    let o : List ℕ = open_text outer in
    let f : List ℕ = flat_map followed cells in
    let c : List ℕ = cell_text cell in
    ap (λ t. t ++ (c ++ old)) (flat_map_more open_list outer cells)
    ∙ ap (λ t. (o ++ open_list cells) ++ (c ++ t)) is
    ∙ ap (λ t. (o ++ open_list cells) ++ t) (sym (append_assoc c (codes ", ") now))
    ∙ sym (append_assoc (o ++ open_list cells) (followed cell) now)
    ∙ ap (λ t. t ++ now) (append_assoc o (open_list cells) (followed cell)
    ∙ ap (λ t. o ++ (codes "{ " ++ t)) (sym (flat_map_more followed cells cell))
    ∙ ap (λ xs. o ++ open_list xs) (sym em)
    ∙ sym (flat_map_more open_list outer more)
    ∙ ap (λ ls. open_text ls) (sym el))

-- a list that has ended, and is a cell
pub ended : (outer : List (List CCell)) (cells more : List CCell) (cell : CCell) (old now whole : List ℕ)
    → more ≡ cells ++ cell ∷ [] → old ≡ codes " }" ++ now → whole ≡ cells_text (map cell_text more)
    → open_text (outer ++ cells ∷ []) ++ (cell_text cell ++ old) ≡ open_text outer ++ (whole ++ now)
ended outer cells more cell old now whole em is iw =
    let o : List ℕ = open_text outer in
    let f : List ℕ = flat_map followed cells in
    let c : List ℕ = cell_text cell in
    ap (λ t. t ++ (c ++ old)) (flat_map_more open_list outer cells)
    ∙ ap (λ t. (o ++ open_list cells) ++ (c ++ t)) is
    ∙ append_assoc o (open_list cells) (c ++ (codes " }" ++ now))
    ∙ ap (λ t. o ++ t)
    (ap (λ t. codes "{ " ++ t)
    (sym (append_assoc f c (codes " }" ++ now))
    ∙ sym (append_assoc (f ++ c) (codes " }") now)
    ∙ ap (λ t. (t ++ codes " }") ++ now) (sym (listed_last cell_text cells cell)))
    ∙ ap (λ t. t ++ now) (sym (cells_text_last cells cell))
    ∙ ap (λ xs. cells_text (map cell_text xs) ++ now) (sym em)
    ∙ ap (λ t. t ++ now) (sym iw))
