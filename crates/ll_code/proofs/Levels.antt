-- Steps of the walks over the cells of a static.
use Rattle.std.proofs.Common.{◌≡◌, ℕ, zero, suc, ◌+◌, ◌-◌, ◌<◌, ◌≤◌, Bool, true, false, ◌&&◌, List, [], ◌∷◌, length, drop, get_or, Option, Some, None, refl, sym, ap, ◌∙◌, arith}
use Rattle.std.specs.Prelude.{slice_get, is_none}
use Rattle.ll_code.specs.declared.program.LlProgram.{LlProgram}
use Rattle.ll_code.specs.declared.program.LlType.{LlType}
use Rattle.ll_code.specs.declared.program.LlStruct.{LlStruct}
use Rattle.csub_tree.specs.declared.tree.CCell.{CCell}
use Rattle.csub_tree.specs.Checked.{Cell, Cells, Plain, Braced, end, then_cell, plain_cell, plain_cells}
use Rattle.ll_code.specs.Typed.{is_plain, items_ok, fields_ok, based_ok, shaped_ok, cells_within}
use Rattle.csub_tree.specs.Levels.{base_cells}
use Rattle.ll_code.specs.Levels.{own_ok}
use Rattle.ll_code.proofs.Walks.{from_place, false_end}

pub fields_step : (program : LlProgram) (n : ℕ) (ts : List LlType) (items : Option LlType) (cells : List CCell) (i : ℕ) (d : LlType) (e : CCell) → i < length ts → i < length cells
    → fields_ok program n (drop i ts) items (plain_cells (drop i cells))
    ≡ (is_plain program n (get_or ts i d) (plain_cell (get_or cells i e)) && fields_ok program n (drop (i + 1) ts) items (plain_cells (drop (i + 1) cells)))
fields_step program n ts items cells i d e lt within =
    ap (λ ts. fields_ok program n ts items (plain_cells (drop i cells))) (from_place ts i d lt)
    ∙ ap (λ cells. fields_ok program n (get_or ts i d ∷ drop (i + 1) ts) items (plain_cells cells)) (from_place cells i e within)

none_left : (cells : List CCell) (i : ℕ) → length cells ≤ i → drop i cells ≡ []
none_left [] zero le = refl
none_left [] (suc i) le = refl
none_left (c ∷ cells) zero le = absurd (omega (arith, le))
none_left (c ∷ cells) (suc i) le = none_left cells i (omega (arith, le))

pub fields_short : (program : LlProgram) (n : ℕ) (ts : List LlType) (items : Option LlType) (cells : List CCell) (i : ℕ) (d : LlType) → i < length ts → length cells ≤ i
    → fields_ok program n (drop i ts) items (plain_cells (drop i cells)) ≡ false
fields_short program n ts items cells i d lt le =
    ap (λ ts. fields_ok program n ts items (plain_cells (drop i cells))) (from_place ts i d lt)
    ∙ ap (λ cells. fields_ok program n (get_or ts i d ∷ drop (i + 1) ts) items (plain_cells cells)) (none_left cells i le)

two_cells : (program : LlProgram) (n : ℕ) (t : LlType) (x y : Cell) (more : Cells) → items_ok program n (Some t) (then_cell x (then_cell y more)) ≡ false
two_cells program n t (Plain c) y more = refl
two_cells program n t (Braced cells) y more = refl

pub items_many : (program : LlProgram) (n : ℕ) (t : LlType) (cells : List CCell) → 2 ≤ length cells → items_ok program n (Some t) (plain_cells cells) ≡ false
items_many program n t [] le = absurd (omega (arith, le))
items_many program n t (x ∷ []) le = absurd (omega (arith, le))
items_many program n t (x ∷ y ∷ cells) le = two_cells program n t (plain_cell x) (plain_cell y) (plain_cells cells)

one_cell : (program : LlProgram) (n : ℕ) (x : Cell) (more : Cells) → items_ok program n None (then_cell x more) ≡ false
one_cell program n (Plain c) more = refl
one_cell program n (Braced cells) more = refl

pub items_none : (program : LlProgram) (n : ℕ) (cells : List CCell) → 1 ≤ length cells → items_ok program n None (plain_cells cells) ≡ false
items_none program n [] le = absurd (omega (arith, le))
items_none program n (x ∷ cells) le = one_cell program n (plain_cell x) (plain_cells cells)

-- ---- a struct and its bases

true_end : (a : Bool) → (a && true) ≡ a
true_end true = refl
true_end false = refl

module _ (program : LlProgram) (n : ℕ) where
  based_bad : (base_ok : ℕ → Cells → Bool) (s : LlStruct) (b : Option ℕ) (cells : Cells) → own_ok program n s b cells ≡ false → based_ok program n base_ok s b cells ≡ false
  based_bad base_ok s None cells h = h
  based_bad base_ok s (Some m) end h = refl
  based_bad base_ok s (Some m) (then_cell (Plain c) cells) h = refl
  based_bad base_ok s (Some m) (then_cell (Braced base) cells) h = ap (λ x. base_ok m base && x) h ∙ false_end (base_ok m base)

  based_last : (base_ok : ℕ → Cells → Bool) (s : LlStruct) (b : Option ℕ) (cells : Cells) → is_none b ≡ true → based_ok program n base_ok s b cells ≡ own_ok program n s b cells
  based_last base_ok s None cells e = refl
  based_last base_ok s (Some m) cells e = absurd cc

  based_next : (base_ok : ℕ → Cells → Bool) (s : LlStruct) (b : Option ℕ) (m : ℕ) (cells : Cells) → b ≡ Some m → own_ok program n s b cells ≡ true
      → based_ok program n base_ok s b cells ≡ base_ok m (base_cells cells)
  based_next base_ok s b m cells e h = ap (λ b. based_ok program n base_ok s b cells) e ∙ next cells (sym (ap (λ b. own_ok program n s b cells) e) ∙ h)
    where
      next : (cells : Cells) → own_ok program n s (Some m) cells ≡ true → based_ok program n base_ok s (Some m) cells ≡ base_ok m (base_cells cells)
      next end h = absurd cc
      next (then_cell (Plain c) cells) h = absurd cc
      next (then_cell (Braced base) cells) h = ap (λ x. base_ok m base && x) h ∙ true_end (base_ok m base)

  based_no_more : (base_ok : ℕ → Cells → Bool) (s : LlStruct) (b : Option ℕ) (cells : Cells) → ((m : ℕ) (cells : Cells) → base_ok m cells ≡ false) → is_none b ≡ false
      → based_ok program n base_ok s b cells ≡ false
  based_no_more base_ok s None cells none e = absurd cc
  based_no_more base_ok s (Some m) end none e = refl
  based_no_more base_ok s (Some m) (then_cell (Plain c) cells) none e = refl
  based_no_more base_ok s (Some m) (then_cell (Braced base) cells) none e = ap (λ x. x && fields_ok program n s.fields s.items cells) (none m base)

  shaped : (k kind : ℕ) (cells : Cells) (found : Option LlStruct) → slice_get program.structs kind ≡ found → cells_within program n (suc k) kind cells ≡ shaped_ok program n (cells_within program n k) found cells
  unfolding cells_within
  shaped k kind cells found e = ap (λ found. shaped_ok program n (cells_within program n k) found cells) e

  nothing_within : (m : ℕ) (cells : Cells) → cells_within program n 0 m cells ≡ false
  unfolding cells_within
  nothing_within m cells = refl

  pub within_missing : (k kind : ℕ) (cells : Cells) → None ≡ slice_get program.structs kind → cells_within program n (suc k) kind cells ≡ false
  within_missing k kind cells e = shaped k kind cells None (sym e)

  pub within_bad : (k kind : ℕ) (cells : Cells) (s : LlStruct) → Some s ≡ slice_get program.structs kind → own_ok program n s s.base cells ≡ false → cells_within program n (suc k) kind cells ≡ false
  within_bad k kind cells s e h = shaped k kind cells (Some s) (sym e) ∙ based_bad (cells_within program n k) s s.base cells h

  pub within_last : (k kind : ℕ) (cells : Cells) (s : LlStruct) → Some s ≡ slice_get program.structs kind → is_none s.base ≡ true
      → cells_within program n (suc k) kind cells ≡ own_ok program n s s.base cells
  within_last k kind cells s e last = shaped k kind cells (Some s) (sym e) ∙ based_last (cells_within program n k) s s.base cells last

  pub within_one : (kind : ℕ) (cells : Cells) (s : LlStruct) → Some s ≡ slice_get program.structs kind → is_none s.base ≡ false → cells_within program n 1 kind cells ≡ false
  within_one kind cells s e more = shaped 0 kind cells (Some s) (sym e) ∙ based_no_more (cells_within program n 0) s s.base cells nothing_within more

  -- where i of the steps down are done
  pub within_next : (most i kind m : ℕ) (cells : Cells) (s : LlStruct) → i < most → Some s ≡ slice_get program.structs kind → s.base ≡ Some m → own_ok program n s s.base cells ≡ true
      → cells_within program n (suc (most - i)) kind cells ≡ cells_within program n (suc (most - (i + 1))) m (base_cells cells)
  within_next most i kind m cells s lt e base h =
      let less : most - i ≡ suc (most - (i + 1)) = omega arith in
      shaped (most - i) kind cells (Some s) (sym e) ∙ based_next (cells_within program n (most - i)) s s.base m cells base h ∙ ap (λ k. cells_within program n k m (base_cells cells)) less

  pub within_end : (most i kind : ℕ) (cells : Cells) → most ≤ i → cells_within program n (suc (most - i)) kind cells ≡ cells_within program n 1 kind cells
  within_end most i kind cells le = let none : most - i ≡ 0 = omega arith in ap (λ k. cells_within program n (suc k) kind cells) none
