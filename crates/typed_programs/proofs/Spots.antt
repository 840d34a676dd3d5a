-- What stands at a cell that must not be in conflict is in none.
use Rattle.std.proofs.Common.{◌≡◌, ℕ, zero, suc, ◌==◌, ◌||◌, Bool, true, false, List, [], ◌∷◌, Some, refl, sym, ap, ◌∙◌, subst, arith}
use Rattle.std.proofs.lemmas.Bool.Decides.{nat_tests}
use Rattle.std.specs.Prelude.{slice_get}
use Rattle.ann_element.specs.declared.element.Element.{Element, fold-roll-Element, out-Element, roll-Element, roll-out-Element}
use Rattle.ann_element.specs.declared.element.Element.TheOpen.{Element-F}
use Rattle.ann_element.specs.declared.element.Element.TheVariants as element
use Rattle.ann_lattice.specs.Join.{is_clash}
use Rattle.ann_lattice.specs.Shape.{Shape, shape, shape_step}
use Rattle.ann_places.specs.Spots.{among, row_cells}
use Rattle.ann_places.proofs.Spotting.{among_left, among_right}
use Rattle.run_laws.specs.Points.{of_conflict, is_conflict}
use Rattle.typed_programs.proofs.Cells.{no_some, same_some}

conflict_layer : (x : Element-F Element) → of_conflict (roll-Element x) ≡ is_clash (shape (roll-Element x))
conflict_layer Element-F.Unreached = ap of_conflict element.rolls-Unreached ∙ sym (ap is_clash (fold-roll-Element Shape shape_step Element-F.Unreached))
conflict_layer Element-F.NoneOnly = ap of_conflict element.rolls-NoneOnly ∙ sym (ap is_clash (fold-roll-Element Shape shape_step Element-F.NoneOnly))
conflict_layer Element-F.KnownTrue = ap of_conflict element.rolls-KnownTrue ∙ sym (ap is_clash (fold-roll-Element Shape shape_step Element-F.KnownTrue))
conflict_layer Element-F.KnownFalse = ap of_conflict element.rolls-KnownFalse ∙ sym (ap is_clash (fold-roll-Element Shape shape_step Element-F.KnownFalse))
conflict_layer Element-F.Bool = ap of_conflict element.rolls-Bool ∙ sym (ap is_clash (fold-roll-Element Shape shape_step Element-F.Bool))
conflict_layer Element-F.IntPos = ap of_conflict element.rolls-IntPos ∙ sym (ap is_clash (fold-roll-Element Shape shape_step Element-F.IntPos))
conflict_layer Element-F.Int = ap of_conflict element.rolls-Int ∙ sym (ap is_clash (fold-roll-Element Shape shape_step Element-F.Int))
conflict_layer Element-F.Char = ap of_conflict element.rolls-Char ∙ sym (ap is_clash (fold-roll-Element Shape shape_step Element-F.Char))
conflict_layer Element-F.Str = ap of_conflict element.rolls-Str ∙ sym (ap is_clash (fold-roll-Element Shape shape_step Element-F.Str))
conflict_layer Element-F.StrOrNone = ap of_conflict element.rolls-StrOrNone ∙ sym (ap is_clash (fold-roll-Element Shape shape_step Element-F.StrOrNone))
conflict_layer (Element-F.Tuple parts) = ap of_conflict (element.rolls-Tuple parts) ∙ sym (ap is_clash (fold-roll-Element Shape shape_step (Element-F.Tuple parts)))
conflict_layer (Element-F.List s r) = ap of_conflict (element.rolls-List s r) ∙ sym (ap is_clash (fold-roll-Element Shape shape_step (Element-F.List s r)))
conflict_layer (Element-F.Dict s r) = ap of_conflict (element.rolls-Dict s r) ∙ sym (ap is_clash (fold-roll-Element Shape shape_step (Element-F.Dict s r)))
conflict_layer (Element-F.Instance c r) = ap of_conflict (element.rolls-Instance c r) ∙ sym (ap is_clash (fold-roll-Element Shape shape_step (Element-F.Instance c r)))
conflict_layer (Element-F.Func fs r) = ap of_conflict (element.rolls-Func fs r) ∙ sym (ap is_clash (fold-roll-Element Shape shape_step (Element-F.Func fs r)))
conflict_layer (Element-F.Conflict o p) = ap of_conflict (element.rolls-Conflict o p) ∙ sym (ap is_clash (fold-roll-Element Shape shape_step (Element-F.Conflict o p)))

pub conflict_seen : (e : Element) → is_conflict (Some e) ≡ is_clash (shape e)
conflict_seen e = subst (λ e. of_conflict e ≡ is_clash (shape e)) (roll-out-Element e) (conflict_layer (out-Element e))

-- ---- cells among others

pub itself : (c : ℕ) → (c == c) ≡ true
itself c = grind (arith, nat_tests)

pub in_list : (row : List ℕ) (i c : ℕ) → slice_get row i ≡ Some c → among c row ≡ true
in_list [] i c h = absurd (no_some h)
in_list (d ∷ row) zero c h = ap (λ b. b || among c row) (ap (λ x. x == c) (same_some h) ∙ itself c)
in_list (d ∷ row) (suc i) c h = by (d == c) (in_list row i c h)
  where
    by : (b : Bool) → among c row ≡ true → (b || among c row) ≡ true
    by true k = refl
    by false k = k

pub in_lists : (rows : List (List ℕ)) (g i : ℕ) (row : List ℕ) (c : ℕ) → slice_get rows g ≡ Some row → slice_get row i ≡ Some c → among c (row_cells rows) ≡ true
in_lists [] g i row c h k = absurd (no_some h)
in_lists (first ∷ rows) zero i row c h k = among_left c first (row_cells rows) (in_list first i c (ap (λ r. slice_get r i) (same_some h) ∙ k))
in_lists (first ∷ rows) (suc g) i row c h k = among_right c first (row_cells rows) (in_lists rows g i row c h k)
