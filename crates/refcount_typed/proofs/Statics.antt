-- Statics with their counts keep the rules.
use Rattle.std.proofs.Common.{◌≡◌, ℕ, zero, suc, ◌+◌, Bool, true, false, ◌&&◌, List, [], ◌∷◌, map, Option, Some, None, refl, sym, ap, ◌∙◌, subst, pos}
use Rattle.std.specs.Prelude.{slice_get, option_map, is_none}
use Rattle.csub_tree.specs.Checked as ck
use Rattle.csub_tree.specs.Checked.{Cell, Cells, Plain, Braced, end, then_cell, plain_cell, plain_cells}
use Rattle.csub_tree.specs.declared.tree.CConst.{CConst}
use Rattle.csub_tree.specs.declared.tree.CConst.TheVariants as constant
use Rattle.csub_tree.specs.declared.tree.CStatic.{CStatic}
use Rattle.csub_tree.specs.declared.tree.CCell.{CCell, roll-CCell, map-CCell}
use Rattle.csub_tree.specs.declared.tree.CCell.TheOpen.{CCell-F}
use Rattle.csub_tree.specs.declared.tree.CCell.TheVariants as cell
use Rattle.csub_tree.specs.declared.tree.CCell.TheVariants.{rolls-Const, rolls-Braces}
use Rattle.csub_tree.specs.declared.tree.CCell.TheFolds.{fold-roll-CCell, ind-CCell}
use Rattle.ll_code.specs.declared.program.LlType.{LlType}
use Rattle.ll_code.specs.declared.program.LlStruct.{LlStruct}
use Rattle.ll_code.specs.declared.program.LlProgram.{LlProgram}
use Rattle.ll_code.specs.Typed.{is_plain, all_plain, items_ok, fields_ok, based_ok, shaped_ok, cells_within, static_ok, statics_ok, base_of}
use Rattle.ll_laws.proofs.Values.{and_left, and_right}
use Rattle.refcount_transform.specs.Plan.{Plan, plan_of, has_count, is_counted, base_at}
use Rattle.refcount_transform.specs.Counted as spec
use Rattle.refcount_transform.specs.Counted.{struct_by, struct_at, first_cells, as_they_are, cells_by, cell_step, counted_cell, static_of, counted}
use Rattle.refcount_typed.proofs.Tests.{and_both}
use Rattle.refcount_typed.proofs.Structs.{get_struct}
use Rattle.refcount_typed.proofs.Kept.{constant_kept}
use Rattle.refcount_laws.proofs.Places.{base_of_struct}

abbrev All : {A : Type 0} → (A → Type 0) → List A → Type 0
All P [] = Unit {0}
All P (x ∷ xs) = P x × All P xs

plain_const : (c : CConst) → plain_cell (cell.Const c) ≡ Plain c
plain_const c = ap plain_cell (sym (rolls-Const c)) ∙ fold-roll-CCell Cell ck.cell_step (CCell-F.Const c)

plain_braces : (cs : List CCell) → plain_cell (cell.Braces cs) ≡ Braced (plain_cells cs)
plain_braces cs = ap plain_cell (sym (rolls-Braces cs)) ∙ fold-roll-CCell Cell ck.cell_step (CCell-F.Braces cs)

-- ---- the cells with their counts

module _ (plan : Plan) where
  abbrev first : Bool → Cells → Cells
  first true cells = then_cell (Plain (constant.Word (pos 1))) (then_cell (Plain constant.Null) cells)
  first false cells = cells

  abbrev mutual
    in_role : Option ℕ → Cell → Cell
    in_role r (Plain c) = Plain c
    in_role None (Braced cells) = Braced cells
    in_role (Some n) (Braced cells) = Braced (in_struct n (base_at plan n) cells)

    in_struct : ℕ → Option ℕ → Cells → Cells
    in_struct n None cells = first (has_count plan n) cells
    in_struct n (Some m) end = end
    in_struct n (Some m) (then_cell c cells) = then_cell (in_role (Some m) c) cells

  abbrev Plays : CCell → Type 0
  Plays c = (r : Option ℕ) → plain_cell (counted_cell plan c r) ≡ in_role r (plain_cell c)

  of_const : (c : CConst) → Plays (roll-CCell (CCell-F.Const c))
  of_const c r = ap (λ f. plain_cell (f r)) (fold-roll-CCell spec.Cell (cell_step plan) (CCell-F.Const c)) ∙ plain_const c ∙ sym (ap (in_role r) (fold-roll-CCell Cell ck.cell_step (CCell-F.Const c)))

  none_same : (cs : List CCell) → All Plays cs → plain_cells (as_they_are (map (counted_cell plan) cs)) ≡ plain_cells cs
  none_same [] all = refl
  none_same (c ∷ cs) all = ap (λ x. then_cell x (plain_cells (as_they_are (map (counted_cell plan) cs)))) (all.0 None ∙ as_it_is (plain_cell c)) ∙ ap (then_cell (plain_cell c)) (none_same cs all.1)
    where
      as_it_is : (x : Cell) → in_role None x ≡ x
      as_it_is (Plain c) = refl
      as_it_is (Braced cells) = refl

  first_same : (b : Bool) (cs : List CCell) → plain_cells (first_cells b cs) ≡ first b (plain_cells cs)
  first_same true cs =
      ap (λ x. then_cell x (then_cell (plain_cell (cell.Const constant.Null)) (plain_cells cs))) (plain_const (constant.Word (pos 1)))
      ∙ ap (λ x. then_cell (Plain (constant.Word (pos 1))) (then_cell x (plain_cells cs))) (plain_const constant.Null)
  first_same false cs = refl

  by_same : (n : ℕ) (o : Option ℕ) (cs : List CCell) → All Plays cs → plain_cells (cells_by plan n o (map (counted_cell plan) cs)) ≡ in_struct n o (plain_cells cs)
  by_same n None cs all = first_same (has_count plan n) (as_they_are (map (counted_cell plan) cs)) ∙ ap (first (has_count plan n)) (none_same cs all)
  by_same n (Some m) [] all = refl
  by_same n (Some m) (c ∷ cs) all =
      ap (λ x. then_cell x (plain_cells (as_they_are (map (counted_cell plan) cs)))) (all.0 (Some m)) ∙ ap (then_cell (in_role (Some m) (plain_cell c))) (none_same cs all.1)

  of_braces : (cs : List CCell) → All Plays cs → Plays (roll-CCell (CCell-F.Braces cs))
  of_braces cs all r = ap (λ f. plain_cell (f r)) (fold-roll-CCell spec.Cell (cell_step plan) (CCell-F.Braces cs)) ∙ by r ∙ sym (ap (in_role r) (fold-roll-CCell Cell ck.cell_step (CCell-F.Braces cs)))
    where
      by : (r : Option ℕ) → plain_cell (cell_step plan (CCell-F.Braces (map (counted_cell plan) cs)) r) ≡ in_role r (Braced (plain_cells cs))
      by None = plain_braces (as_they_are (map (counted_cell plan) cs)) ∙ ap Braced (none_same cs all)
      by (Some n) = plain_braces (cells_by plan n (base_at plan n) (map (counted_cell plan) cs)) ∙ ap Braced (by_same n (base_at plan n) cs all)

  all_play : (ys : List ((c : CCell) × Plays c)) → All Plays (map (λ p. p.0) ys)
  all_play [] = tt
  all_play (y ∷ ys) = (y.1, all_play ys)

  plays : (c : CCell) → Plays c
  plays = ind-CCell Plays (λ x y is. (elim y as (λ z. map-CCell _ CCell (λ e. e.0) z ≡ x → Plays (roll-CCell x)) [ CCell-F.Const c ↦ λ e. subst (λ z. Plays (roll-CCell z)) e (of_const c) | CCell-F.Braces ys ↦ λ e. subst (λ z. Plays (roll-CCell z)) e (of_braces (map (λ p. p.0) ys) (all_play ys)) ]) is)

  each : (cs : List CCell) → All Plays cs
  each [] = tt
  each (c ∷ cs) = (plays c, each cs)

-- ---- they keep the rules

module _ (p : LlProgram) where
  abbrev plan : Plan
  plan = plan_of p

  module _ (n : ℕ) where
    plain_kept : (t : LlType) (x : Cell) → is_plain p n t x ≡ true → is_plain (counted p) n t x ≡ true
    plain_kept t (Plain c) h = constant_kept p n t c h
    plain_kept t (Braced cells) h = h

    all_kept : (t : LlType) (cells : Cells) → all_plain p n t cells ≡ true → all_plain (counted p) n t cells ≡ true
    all_kept t end h = refl
    all_kept t (then_cell x cells) h = and_both (is_plain (counted p) n t x) (all_plain (counted p) n t cells) (plain_kept t x (and_left _ _ h)) (all_kept t cells (and_right (is_plain p n t x) _ h))

    items_kept : (items : Option LlType) (cells : Cells) → items_ok p n items cells ≡ true → items_ok (counted p) n items cells ≡ true
    items_kept None end h = refl
    items_kept None (then_cell x cells) h = absurd (cc)
    items_kept (Some t) end h = absurd (cc)
    items_kept (Some t) (then_cell (Plain c) cells) h = absurd (cc)
    items_kept (Some t) (then_cell (Braced cells) end) h = all_kept t cells h
    items_kept (Some t) (then_cell (Braced cells) (then_cell x more)) h = absurd (cc)

    fields_kept : (ts : List LlType) (items : Option LlType) (cells : Cells) → fields_ok p n ts items cells ≡ true → fields_ok (counted p) n ts items cells ≡ true
    fields_kept [] items cells h = items_kept items cells h
    fields_kept (t ∷ ts) items end h = absurd (cc)
    fields_kept (t ∷ ts) items (then_cell x cells) h = and_both (is_plain (counted p) n t x) (fields_ok (counted p) n ts items cells) (plain_kept t x (and_left _ _ h)) (fields_kept ts items cells (and_right (is_plain p n t x) _ h))

    first_kept : (b : Bool) (s : LlStruct) (cells : Cells) → fields_ok p n s.fields s.items cells ≡ true → fields_ok (counted p) n (struct_by b s).fields (struct_by b s).items (first plan b cells) ≡ true
    first_kept true s cells h = fields_kept s.fields s.items cells h
    first_kept false s cells h = fields_kept s.fields s.items cells h

    -- a struct with a base begins with no count of its own
    own_kept : (b : Bool) (s : LlStruct) (cells : Cells) → b ≡ false → fields_ok p n s.fields s.items cells ≡ true → fields_ok (counted p) n (struct_by b s).fields (struct_by b s).items cells ≡ true
    own_kept true s cells e h = absurd (cc)
    own_kept false s cells e h = fields_kept s.fields s.items cells h

    within_kept : (k kind : ℕ) (cells : Cells) → cells_within p n k kind cells ≡ true → cells_within (counted p) n k kind (in_struct plan kind (base_at plan kind) cells) ≡ true
    unfolding cells_within
    within_kept zero kind cells h = absurd (cc)
    within_kept (suc k) kind cells h =
        ap (λ o. shaped_ok (counted p) n (cells_within (counted p) n k) o (in_struct plan kind (base_at plan kind) cells)) (get_struct plan kind) ∙ shaped (λ m base i. within_kept k m base i) (slice_get p.structs kind) refl h
      where
        on : ((m : ℕ) (base : Cells) → cells_within p n k m base ≡ true → cells_within (counted p) n k m (in_struct plan m (base_at plan m) base) ≡ true) → (s : LlStruct) (o : Option ℕ) → base_at plan kind ≡ o → (cells : Cells) → based_ok p n (cells_within p n k) s o cells ≡ true
            → based_ok (counted p) n (cells_within (counted p) n k) (struct_at plan kind s) o (in_struct plan kind o cells) ≡ true
        on go s None e cells h = first_kept (has_count plan kind) s cells h
        on go s (Some m) e end h = absurd (cc)
        on go s (Some m) e (then_cell (Plain c) cells) h = absurd (cc)
        on go s (Some m) e (then_cell (Braced base) cells) h =
            and_both (cells_within (counted p) n k m (in_struct plan m (base_at plan m) base)) _ (go m base (and_left _ _ h))
            (own_kept (has_count plan kind) s cells (ap (λ o. is_counted plan kind && is_none o) e ∙ never (is_counted plan kind)) (and_right (cells_within p n k m base) _ h))
          where
            never : (b : Bool) → (b && false) ≡ false
            never true = refl
            never false = refl

        shaped : ((m : ℕ) (base : Cells) → cells_within p n k m base ≡ true → cells_within (counted p) n k m (in_struct plan m (base_at plan m) base) ≡ true) → (o : Option LlStruct) → slice_get p.structs kind ≡ o → shaped_ok p n (cells_within p n k) o cells ≡ true
            → shaped_ok (counted p) n (cells_within (counted p) n k) (option_map (struct_at plan kind) o) (in_struct plan kind (base_at plan kind) cells) ≡ true
        shaped go None e h = absurd (cc)
        shaped go (Some s) e h =
            let b : base_at plan kind ≡ s.base = ap base_of e in
            ap (λ o. based_ok (counted p) n (cells_within (counted p) n k) (struct_at plan kind s) o (in_struct plan kind (base_at plan kind) cells)) (base_of_struct (has_count plan kind) s)
            ∙ ap (λ o. based_ok (counted p) n (cells_within (counted p) n k) (struct_at plan kind s) s.base (in_struct plan kind o cells)) b ∙ on go s s.base b cells h

  pub statics_kept : (n : ℕ) (statics : List CStatic) → statics_ok p n statics ≡ true → statics_ok (counted p) n (map (static_of plan) statics) ≡ true
  statics_kept n [] h = refl
  statics_kept n (g ∷ statics) h =
      and_both (static_ok (counted p) n (static_of plan g)) (statics_ok (counted p) (n + 1) (map (static_of plan) statics))
      (ap (cells_within (counted p) n (suc g.kind) g.kind) (by_same plan g.kind (base_at plan g.kind) g.cells (each plan g.cells)) ∙ within_kept n (suc g.kind) g.kind (plain_cells g.cells) (and_left _ _ h))
      (statics_kept (n + 1) statics (and_right (static_ok p n g) _ h))
