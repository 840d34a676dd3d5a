-- At first each static holds the same.
use Rattle.std.proofs.Common.{◌≡◌, ℕ, zero, suc, List, [], ◌∷◌, ◌++◌, map, take, drop, refl, sym, ap, ◌∙◌, subst}
use Rattle.std.proofs.lemmas.List.{map-append}
use Rattle.csub_tree.specs.Layout as layout
use Rattle.csub_tree.specs.Layout.{Shape, shape_at, constant, joined, cell_constants, static_values, static_block}
use Rattle.csub_tree.specs.declared.tree.CConst.{CConst}
use Rattle.csub_tree.specs.declared.tree.CStatic.{CStatic}
use Rattle.csub_tree.specs.declared.tree.CCell.{CCell, roll-CCell, map-CCell}
use Rattle.csub_tree.specs.declared.tree.CCell.TheOpen.{CCell-F}
use Rattle.csub_tree.specs.declared.tree.CCell.TheVariants.{rolls-Const, rolls-Braces}
use Rattle.csub_tree.specs.declared.tree.CCell.TheFolds.{fold-roll-CCell, ind-CCell}
use Rattle.genc_lower.specs.declared.order.Order.{Order}
use Rattle.genc_lower.specs.Lower as lower
use Rattle.genc_lower.specs.Lower.{cell_code, cell_step, static_code}
use Rattle.genc_laws.specs.Same.{renamed, block_renamed}
use Rattle.genc_laws.proofs.Values.{constant_same}

abbrev All : {A : Type 0} → (A → Type 0) → List A → Type 0
All P [] = Unit {0}
All P (x ∷ xs) = P x × All P xs

map_twice : {A B C : Type 0} (f : B → C) (g : A → B) (xs : List A) → map f (map g xs) ≡ map (λ x. f (g x)) xs
map_twice f g [] = refl
map_twice f g (x ∷ xs) = ap (λ l. f (g x) ∷ l) (map_twice f g xs)

pub map_alike : {A B : Type 0} (f g : A → B) (xs : List A) → ((x : A) → f x ≡ g x) → map f xs ≡ map g xs
map_alike f g [] h = refl
map_alike f g (x ∷ xs) h = ap (λ y. y ∷ map f xs) (h x) ∙ ap (λ l. g x ∷ l) (map_alike f g xs h)

take_map : {A B : Type 0} (f : A → B) (n : ℕ) (xs : List A) → take n (map f xs) ≡ map f (take n xs)
take_map f zero [] = refl
take_map f zero (x ∷ xs) = refl
take_map f (suc n) [] = refl
take_map f (suc n) (x ∷ xs) = ap (λ l. f x ∷ l) (take_map f n xs)

drop_map : {A B : Type 0} (f : A → B) (n : ℕ) (xs : List A) → drop n (map f xs) ≡ map f (drop n xs)
drop_map f zero [] = refl
drop_map f zero (x ∷ xs) = refl
drop_map f (suc n) [] = refl
drop_map f (suc n) (x ∷ xs) = drop_map f n xs

module _ (order : Order) where
  -- ---- the constants of a cell

  abbrev Renames : CCell → Type 0
  Renames c = cell_constants (cell_code order c) ≡ map (lower.constant order) (cell_constants c)

  of_const : (c : CConst) → Renames (roll-CCell (CCell-F.Const c))
  of_const c =
      ap cell_constants (fold-roll-CCell CCell (cell_step order) (CCell-F.Const c) ∙ sym (rolls-Const (lower.constant order c))) ∙ fold-roll-CCell (List CConst) layout.cell_step (CCell-F.Const (lower.constant order c))
      ∙ sym (ap (map (lower.constant order)) (fold-roll-CCell (List CConst) layout.cell_step (CCell-F.Const c)))

  of_cells : (cs : List CCell) → All Renames cs → joined (map cell_constants (map (cell_code order) cs)) ≡ map (lower.constant order) (joined (map cell_constants cs))
  of_cells [] all = refl
  of_cells (c ∷ cs) all =
      ap (λ l. l ++ joined (map cell_constants (map (cell_code order) cs))) all.0 ∙ ap (λ l. map (lower.constant order) (cell_constants c) ++ l) (of_cells cs all.1)
      ∙ sym (map-append (lower.constant order) (cell_constants c) (joined (map cell_constants cs)))

  of_braces : (cs : List CCell) → All Renames cs → Renames (roll-CCell (CCell-F.Braces cs))
  of_braces cs all =
      ap cell_constants (fold-roll-CCell CCell (cell_step order) (CCell-F.Braces cs) ∙ sym (rolls-Braces (map (cell_code order) cs))) ∙ fold-roll-CCell (List CConst) layout.cell_step (CCell-F.Braces (map (cell_code order) cs)) ∙ of_cells cs all
      ∙ sym (ap (map (lower.constant order)) (fold-roll-CCell (List CConst) layout.cell_step (CCell-F.Braces cs)))

  all_same : (ys : List ((c : CCell) × Renames c)) → All Renames (map (λ p. p.0) ys)
  all_same [] = tt
  all_same (y ∷ ys) = (y.1, all_same ys)

  of_cell : (c : CCell) → Renames c
  of_cell = ind-CCell Renames (λ x y is. (elim y as (λ z. map-CCell _ CCell (λ e. e.0) z ≡ x → Renames (roll-CCell x)) [ CCell-F.Const c ↦ λ e. subst (λ z. Renames (roll-CCell z)) e (of_const c) | CCell-F.Braces ys ↦ λ e. subst (λ z. Renames (roll-CCell z)) e (of_braces (map (λ p. p.0) ys) (all_same ys)) ]) is)

  each : (cs : List CCell) → All Renames cs
  each [] = tt
  each (c ∷ cs) = (of_cell c, each cs)

  -- ---- statics

  constants : (cs : List CConst) → map constant (map (lower.constant order) cs) ≡ map (renamed order) (map constant cs)
  constants [] = refl
  constants (c ∷ cs) = ap (λ v. v ∷ map constant (map (lower.constant order) cs)) (constant_same order c) ∙ ap (λ l. renamed order (constant c) ∷ l) (constants cs)

  values_same : (g : CStatic) → static_values (static_code order g) ≡ map (renamed order) (static_values g)
  values_same g = ap (map constant) (of_cells g.cells (each g.cells)) ∙ constants (joined (map cell_constants g.cells))

  static_same : (shapes : List Shape) (g : CStatic) → static_block shapes (static_code order g) ≡ block_renamed order (static_block shapes g)
  static_same shapes g =
      ap (λ vs. record { kind = g.kind; fields = take (shape_at shapes g.kind).size vs; items = drop (shape_at shapes g.kind).size vs }) (values_same g)
      ∙ ap (λ fs. record { kind = g.kind; fields = fs; items = drop (shape_at shapes g.kind).size (map (renamed order) (static_values g)) }) (take_map (renamed order) (shape_at shapes g.kind).size (static_values g))
      ∙ ap (λ is. record { kind = g.kind; fields = map (renamed order) (take (shape_at shapes g.kind).size (static_values g)); items = is }) (drop_map (renamed order) (shape_at shapes g.kind).size (static_values g))

  pub statics_same : (shapes : List Shape) (gs : List CStatic) → map (static_block shapes) (map (static_code order) gs) ≡ map (block_renamed order) (map (static_block shapes) gs)
  statics_same shapes gs =
      map_twice (static_block shapes) (static_code order) gs ∙ map_alike (λ g. static_block shapes (static_code order g)) (λ g. block_renamed order (static_block shapes g)) gs (static_same shapes)
      ∙ sym (map_twice (block_renamed order) (static_block shapes) gs)
