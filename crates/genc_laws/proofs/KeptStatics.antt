-- The statics of a C file keep its rules where those of its program do.
use Rattle.std.proofs.Common.{◌≡◌, ◌<◌, ℕ, zero, suc, Bool, true, List, [], ◌∷◌, length, map, Option, Some, None, refl, sym, ap, ◌∙◌, subst}
use Rattle.std.specs.Prelude.{slice_get, option_map}
use Rattle.csub_tree.specs.Checked as ck
use Rattle.csub_tree.specs.Checked.{Cell, Cells, Plain, Braced, end, then_cell, cells_of, plain_cell, plain_cells, cells_within as c_cells_within}
use Rattle.csub_tree.specs.declared.tree.CConst.{CConst}
use Rattle.csub_tree.specs.declared.tree.CStatic.{CStatic}
use Rattle.csub_tree.specs.declared.tree.CCell.{CCell, roll-CCell, map-CCell}
use Rattle.csub_tree.specs.declared.tree.CCell.TheOpen.{CCell-F}
use Rattle.csub_tree.specs.declared.tree.CCell.TheVariants.{rolls-Const, rolls-Braces}
use Rattle.csub_tree.specs.declared.tree.CCell.TheFolds.{fold-roll-CCell, ind-CCell}
use Rattle.ll_code.specs.Machine.{c_type}
use Rattle.ll_code.specs.Typed as typed
use Rattle.ll_code.specs.Typed.{cells_within}
use Rattle.ll_code.specs.declared.program.LlType.{LlType}
use Rattle.ll_code.specs.declared.program.LlStruct.{LlStruct}
use Rattle.ll_code.specs.declared.program.LlGraph.{LlGraph}
use Rattle.ll_code.specs.declared.program.LlProgram.{LlProgram}
use Rattle.ll_laws.proofs.Values.{and_left, and_right}
use Rattle.genc_lower.specs.declared.order.Order.{Order}
use Rattle.genc_lower.specs.Lower as lower
use Rattle.genc_lower.specs.Lower.{order_of, lowered, c_struct, cell_code, cell_step, static_code}
use Rattle.genc_laws.proofs.Values.{get_map}
use Rattle.genc_laws.proofs.Kept.{and_both, is_of_kept}

abbrev All : {A : Type 0} → (A → Type 0) → List A → Type 0
All P [] = Unit {0}
All P (x ∷ xs) = P x × All P xs

-- ---- cells with the numbers of functions

module _ (order : Order) where
  abbrev mutual
    renamed_cell : Cell → Cell
    renamed_cell (Plain c) = Plain (lower.constant order c)
    renamed_cell (Braced cells) = Braced (renamed_cells cells)

    renamed_cells : Cells → Cells
    renamed_cells end = end
    renamed_cells (then_cell c cells) = then_cell (renamed_cell c) (renamed_cells cells)

  abbrev Renames : CCell → Type 0
  Renames c = plain_cell (cell_code order c) ≡ renamed_cell (plain_cell c)

  of_const : (c : CConst) → Renames (roll-CCell (CCell-F.Const c))
  of_const c =
      ap plain_cell (fold-roll-CCell CCell (cell_step order) (CCell-F.Const c) ∙ sym (rolls-Const (lower.constant order c))) ∙ fold-roll-CCell Cell ck.cell_step (CCell-F.Const (lower.constant order c))
      ∙ sym (ap renamed_cell (fold-roll-CCell Cell ck.cell_step (CCell-F.Const c)))

  of_cells : (cs : List CCell) → All Renames cs → cells_of (map plain_cell (map (cell_code order) cs)) ≡ renamed_cells (cells_of (map plain_cell cs))
  of_cells [] all = refl
  of_cells (c ∷ cs) all = ap (λ x. then_cell x (cells_of (map plain_cell (map (cell_code order) cs)))) all.0 ∙ ap (then_cell (renamed_cell (plain_cell c))) (of_cells cs all.1)

  of_braces : (cs : List CCell) → All Renames cs → Renames (roll-CCell (CCell-F.Braces cs))
  of_braces cs all =
      ap plain_cell (fold-roll-CCell CCell (cell_step order) (CCell-F.Braces cs) ∙ sym (rolls-Braces (map (cell_code order) cs))) ∙ fold-roll-CCell Cell ck.cell_step (CCell-F.Braces (map (cell_code order) cs))
      ∙ ap Braced (of_cells cs all) ∙ sym (ap renamed_cell (fold-roll-CCell Cell ck.cell_step (CCell-F.Braces cs)))

  all_same : (ys : List ((c : CCell) × Renames c)) → All Renames (map (λ p. p.0) ys)
  all_same [] = tt
  all_same (y ∷ ys) = (y.1, all_same ys)

  of_cell : (c : CCell) → Renames c
  of_cell = ind-CCell Renames (λ x y is. (elim y as (λ z. map-CCell _ CCell (λ e. e.0) z ≡ x → Renames (roll-CCell x)) [ CCell-F.Const c ↦ λ e. subst (λ z. Renames (roll-CCell z)) e (of_const c) | CCell-F.Braces ys ↦ λ e. subst (λ z. Renames (roll-CCell z)) e (of_braces (map (λ p. p.0) ys) (all_same ys)) ]) is)

  each : (cs : List CCell) → All Renames cs
  each [] = tt
  each (c ∷ cs) = (of_cell c, each cs)

-- ---- cells that keep the rules

module _ (p : LlProgram) (entry : LlGraph) (is : slice_get p.graphs p.entry ≡ Some entry) (le : p.entry < length p.graphs) (n : ℕ) where
  plain_kept : (t : LlType) (x : Cell) → typed.is_plain p n t x ≡ true → ck.is_plain (lowered p) n (c_type t) (renamed_cell (order_of p) x) ≡ true
  plain_kept t (Plain c) h = is_of_kept p entry is le n t c h
  plain_kept t (Braced cells) h = absurd (cc)

  all_plain_kept : (t : LlType) (cells : Cells) → typed.all_plain p n t cells ≡ true → ck.all_plain (lowered p) n (c_type t) (renamed_cells (order_of p) cells) ≡ true
  all_plain_kept t end h = refl
  all_plain_kept t (then_cell x cells) h = and_both _ _ (plain_kept t x (and_left _ _ h)) (all_plain_kept t cells (and_right (typed.is_plain p n t x) _ h))

  items_kept : (items : Option LlType) (cells : Cells) → typed.items_ok p n items cells ≡ true → ck.items_ok (lowered p) n (option_map c_type items) (renamed_cells (order_of p) cells) ≡ true
  items_kept None end h = refl
  items_kept None (then_cell x cells) h = absurd (cc)
  items_kept (Some t) (then_cell (Braced cells) end) h = all_plain_kept t cells h
  items_kept (Some t) end h = absurd (cc)
  items_kept (Some t) (then_cell (Plain x) cells) h = absurd (cc)
  items_kept (Some t) (then_cell (Braced cells) (then_cell x more)) h = absurd (cc)

  fields_kept : (ts : List LlType) (items : Option LlType) (cells : Cells) → typed.fields_ok p n ts items cells ≡ true
      → ck.fields_ok (lowered p) n (map c_type ts) (option_map c_type items) (renamed_cells (order_of p) cells) ≡ true
  fields_kept [] items cells h = items_kept items cells h
  fields_kept (t ∷ ts) items end h = absurd (cc)
  fields_kept (t ∷ ts) items (then_cell x cells) h = and_both _ _ (plain_kept t x (and_left _ _ h)) (fields_kept ts items cells (and_right (typed.is_plain p n t x) _ h))

  module _ (base_ok c_base_ok : ℕ → Cells → Bool) (kept : (m : ℕ) (cells : Cells) → base_ok m cells ≡ true → c_base_ok m (renamed_cells (order_of p) cells) ≡ true) where
    based_kept : (s : LlStruct) (base : Option ℕ) (cells : Cells) → typed.based_ok p n base_ok s base cells ≡ true → ck.based_ok (lowered p) n c_base_ok (c_struct s) base (renamed_cells (order_of p) cells) ≡ true
    based_kept s None cells h = fields_kept s.fields s.items cells h
    based_kept s (Some m) end h = absurd (cc)
    based_kept s (Some m) (then_cell (Plain x) cells) h = absurd (cc)
    based_kept s (Some m) (then_cell (Braced base) cells) h = and_both _ _ (kept m base (and_left _ _ h)) (fields_kept s.fields s.items cells (and_right (base_ok m base) _ h))

    shaped_kept : (o : Option LlStruct) (cells : Cells) → typed.shaped_ok p n base_ok o cells ≡ true → ck.shaped_ok (lowered p) n c_base_ok (option_map c_struct o) (renamed_cells (order_of p) cells) ≡ true
    shaped_kept None cells h = absurd (cc)
    shaped_kept (Some s) cells h = based_kept s s.base cells h

  within_kept : (k kind : ℕ) (cells : Cells) → cells_within p n k kind cells ≡ true → c_cells_within (lowered p) n k kind (renamed_cells (order_of p) cells) ≡ true
  unfolding cells_within c_cells_within
  within_kept zero kind cells h = absurd (cc)
  within_kept (suc k) kind cells h =
      ap (λ o. ck.shaped_ok (lowered p) n (c_cells_within (lowered p) n k) o (renamed_cells (order_of p) cells)) (get_map c_struct p.structs kind)
      ∙ shaped_kept (cells_within p n k) (c_cells_within (lowered p) n k) (λ m cells. within_kept k m cells) (slice_get p.structs kind) cells h

  pub static_kept : (g : CStatic) → typed.static_ok p n g ≡ true → ck.static_ok (lowered p) n (static_code (order_of p) g) ≡ true
  static_kept g h = ap (c_cells_within (lowered p) n (suc g.kind) g.kind) (of_cells (order_of p) g.cells (each (order_of p) g.cells)) ∙ within_kept (suc g.kind) g.kind (plain_cells g.cells) h
