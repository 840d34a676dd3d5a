-- At first each static holds what that of the program holds, behind a count of one.
use Rattle.std.proofs.Common.{◌≡◌, ℕ, zero, suc, true, false, ◌&&◌, List, [], ◌∷◌, ◌++◌, map, Option, Some, None, refl, sym, ap, ◌∙◌, subst}
use Rattle.std.specs.Prelude.{slice_get, is_none, pos}
use Rattle.csub_tree.specs.State.{Word, Null}
use Rattle.csub_tree.specs.Layout as layout
use Rattle.csub_tree.specs.Layout.{shape_at, constant, joined, cell_constants, static_values, static_block}
use Rattle.csub_tree.specs.Checked as checked
use Rattle.csub_tree.specs.Checked.{Cell, Cells, Plain, Braced, end, then_cell, cells_of, plain_cell, plain_cells}
use Rattle.csub_tree.specs.declared.tree.CConst.{CConst}
use Rattle.csub_tree.specs.declared.tree.CConst.TheVariants as const
use Rattle.csub_tree.specs.declared.tree.CStatic.{CStatic}
use Rattle.csub_tree.specs.declared.tree.CCell.{CCell, roll-CCell, map-CCell}
use Rattle.csub_tree.specs.declared.tree.CCell.TheOpen.{CCell-F}
use Rattle.csub_tree.specs.declared.tree.CCell.TheFolds.{fold-roll-CCell, ind-CCell}
use Rattle.ll_code.specs.declared.program.LlStruct.{LlStruct}
use Rattle.ll_code.specs.declared.program.LlProgram.{LlProgram}
use Rattle.ll_code.specs.Typed as typed
use Rattle.ll_code.specs.Typed.{based_ok, shaped_ok, cells_within, static_ok, statics_ok, fields_ok}
use Rattle.ll_laws.proofs.Values.{and_left}
use Rattle.refcount_transform.specs.Plan.{Plan, plan_of, is_counted, base_at}
use Rattle.refcount_transform.specs.Counted as made
use Rattle.refcount_transform.specs.Counted.{as_they_are, behind_base, cells_by, first_cells, cell_step, counted_cell}
use Rattle.refcount_laws.proofs.Numbers.{Based}
use Rattle.refcount_laws.proofs.Standing.{StructAt, marked_there}
use Rattle.refcount_laws.proofs.Places.{counted_base, has_count_is, earlier}

abbrev flat : List CCell → List CConst
flat cs = joined (map cell_constants cs)

abbrev header : List CConst → List CConst
header l = const.Word (pos 1) ∷ const.Null ∷ l

braces_flat : (cs : List CCell) → cell_constants (roll-CCell (CCell-F.Braces cs)) ≡ flat cs
braces_flat cs = fold-roll-CCell (List CConst) layout.cell_step (CCell-F.Braces cs)

const_flat : (c : CConst) → cell_constants (roll-CCell (CCell-F.Const c)) ≡ c ∷ []
const_flat c = fold-roll-CCell (List CConst) layout.cell_step (CCell-F.Const c)

module _ (p : LlProgram) (based : Based p.structs) (n0 : ℕ) where
  abbrev plan : Plan
  plan = plan_of p

  -- a cell that is no base's keeps its constants; one of a base that is counted begins with the count; one of another base keeps them
  record Same (c : CCell) : Type 0 where
    plain : cell_constants (counted_cell plan c None) ≡ cell_constants c
    counted : (k kind : ℕ) (cells : Cells) → is_counted plan kind ≡ true → plain_cell c ≡ Braced cells → cells_within p n0 k kind cells ≡ true → cell_constants (counted_cell plan c (Some kind)) ≡ header (cell_constants c)
    other : (k kind : ℕ) (cells : Cells) → is_counted plan kind ≡ false → plain_cell c ≡ Braced cells → cells_within p n0 k kind cells ≡ true → cell_constants (counted_cell plan c (Some kind)) ≡ cell_constants c

  abbrev AllSame : List CCell → Type 0
  AllSame [] = Unit {0}
  AllSame (c ∷ cs) = Same c × AllSame cs

  all_plain : (cs : List CCell) → AllSame cs → flat (as_they_are (map (counted_cell plan) cs)) ≡ flat cs
  all_plain [] all = refl
  all_plain (c ∷ cs) all = ap (λ l. l ++ flat (as_they_are (map (counted_cell plan) cs))) all.0.plain ∙ ap (λ l. cell_constants c ++ l) (all_plain cs all.1)

  within_zero : (kind : ℕ) (cells : Cells) → cells_within p n0 zero kind cells ≡ true → ⊥
  unfolding cells_within
  within_zero kind cells e = cc

  pub within_suc : (k kind : ℕ) (cells : Cells) → cells_within p n0 (suc k) kind cells ≡ true → shaped_ok p n0 (cells_within p n0 k) (slice_get p.structs kind) cells ≡ true
  unfolding cells_within
  within_suc k kind cells e = e

  -- the cell of a base is in braces, and keeps the rules there
  record Base (m k : ℕ) (c : Cell) : Type 0 where
    inner : Cells
    is : c ≡ Braced inner
    ok : cells_within p n0 k m inner ≡ true

  first_base : (s : LlStruct) (m k : ℕ) (c : Cell) (cells : Cells) → based_ok p n0 (cells_within p n0 k) s (Some m) (then_cell c cells) ≡ true → Base m k c
  first_base s m k (Plain x) cells e = absurd (cc)
  first_base s m k (Braced inner) cells e = record { inner = inner; is = refl; ok = and_left _ _ e }

  -- the cells of a block of this struct
  counted_cells : (cs : List CCell) → AllSame cs → (k kind : ℕ) → is_counted plan kind ≡ true → cells_within p n0 k kind (cells_of (map plain_cell cs)) ≡ true → flat (cells_by plan kind (base_at plan kind) (map (counted_cell plan) cs)) ≡ header (flat cs)
  unfolding roll-CCell denote.Hole.Carrier.roll
  counted_cells cs all zero kind c e = absurd (within_zero kind (cells_of (map plain_cell cs)) e)
  counted_cells cs all (suc k) kind c e = let w : StructAt p.structs kind = marked_there p.structs p.graphs 0 p.structs kind c in by w.s w.is w.s.base refl cs all
      (subst (λ o. shaped_ok p n0 (cells_within p n0 k) o (cells_of (map plain_cell cs)) ≡ true) w.is (within_suc k kind (cells_of (map plain_cell cs)) e))
    where
      by : (s : LlStruct) → slice_get p.structs kind ≡ Some s → (o : Option ℕ) → s.base ≡ o → (cs : List CCell) → AllSame cs → based_ok p n0 (cells_within p n0 k) s s.base (cells_of (map plain_cell cs)) ≡ true
          → flat (cells_by plan kind (base_at plan kind) (map (counted_cell plan) cs)) ≡ header (flat cs)
      by s is None b cs all e =
          ap (λ o. flat (cells_by plan kind o (map (counted_cell plan) cs))) (ap typed.base_of is ∙ b)
          ∙ ap (λ y. flat (first_cells y (as_they_are (map (counted_cell plan) cs)))) (has_count_is p based kind s true is c (ap is_none b))
          ∙ ap (λ l. l ++ (cell_constants (roll-CCell (CCell-F.Const const.Null)) ++ flat (as_they_are (map (counted_cell plan) cs)))) (const_flat (const.Word (pos 1)))
          ∙ ap (λ l. const.Word (pos 1) ∷ (l ++ flat (as_they_are (map (counted_cell plan) cs)))) (const_flat const.Null) ∙ ap header (all_plain cs all)
      by s is (Some m) b [] all e = absurd (let f : based_ok p n0 (cells_within p n0 k) s (Some m) end ≡ true = subst (λ o. based_ok p n0 (cells_within p n0 k) s o end ≡ true) b e in cc)
      by s is (Some m) b (x ∷ cs) all e =
          let d : Base m k (plain_cell x) = first_base s m k (plain_cell x) (cells_of (map plain_cell cs)) (subst (λ o. based_ok p n0 (cells_within p n0 k) s o (then_cell (plain_cell x) (cells_of (map plain_cell cs))) ≡ true) b e) in
          let t : StructAt p.structs m = earlier p.structs kind m s is (based.before kind m s is b) in
          let cm : is_counted plan m ≡ true = sym (counted_base p based kind m (record { s = s; is = is; base = b }) t.s t.is) ∙ c in
          ap (λ o. flat (cells_by plan kind o (map (counted_cell plan) (x ∷ cs)))) (ap typed.base_of is ∙ b)
          ∙ ap (λ l. l ++ flat (as_they_are (map (counted_cell plan) cs))) (all.0.counted k m d.inner cm d.is d.ok) ∙ ap (λ l. header (cell_constants x ++ l)) (all_plain cs all.1)

  other_cells : (cs : List CCell) → AllSame cs → (k kind : ℕ) → is_counted plan kind ≡ false → cells_within p n0 k kind (cells_of (map plain_cell cs)) ≡ true → flat (cells_by plan kind (base_at plan kind) (map (counted_cell plan) cs)) ≡ flat cs
  other_cells cs all zero kind c e = absurd (within_zero kind (cells_of (map plain_cell cs)) e)
  other_cells cs all (suc k) kind c e = by (slice_get p.structs kind) refl (within_suc k kind (cells_of (map plain_cell cs)) e)
    where
      on : (s : LlStruct) → slice_get p.structs kind ≡ Some s → (o : Option ℕ) → s.base ≡ o → (cs : List CCell) → AllSame cs → based_ok p n0 (cells_within p n0 k) s s.base (cells_of (map plain_cell cs)) ≡ true
          → flat (cells_by plan kind (base_at plan kind) (map (counted_cell plan) cs)) ≡ flat cs
      on s is None b cs all e =
          ap (λ o. flat (cells_by plan kind o (map (counted_cell plan) cs))) (ap typed.base_of is ∙ b)
          ∙ ap (λ y. flat (first_cells (y && is_none (base_at plan kind)) (as_they_are (map (counted_cell plan) cs)))) c ∙ all_plain cs all
      on s is (Some m) b [] all e = absurd (let f : based_ok p n0 (cells_within p n0 k) s (Some m) end ≡ true = subst (λ o. based_ok p n0 (cells_within p n0 k) s o end ≡ true) b e in cc)
      on s is (Some m) b (x ∷ cs) all e =
          let d : Base m k (plain_cell x) = first_base s m k (plain_cell x) (cells_of (map plain_cell cs)) (subst (λ o. based_ok p n0 (cells_within p n0 k) s o (then_cell (plain_cell x) (cells_of (map plain_cell cs))) ≡ true) b e) in
          let t : StructAt p.structs m = earlier p.structs kind m s is (based.before kind m s is b) in
          let cm : is_counted plan m ≡ false = sym (counted_base p based kind m (record { s = s; is = is; base = b }) t.s t.is) ∙ c in
          ap (λ o. flat (cells_by plan kind o (map (counted_cell plan) (x ∷ cs)))) (ap typed.base_of is ∙ b)
          ∙ ap (λ l. l ++ flat (as_they_are (map (counted_cell plan) cs))) (all.0.other k m d.inner cm d.is d.ok) ∙ ap (λ l. cell_constants x ++ l) (all_plain cs all.1)

      by : (o : Option LlStruct) → slice_get p.structs kind ≡ o → shaped_ok p n0 (cells_within p n0 k) o (cells_of (map plain_cell cs)) ≡ true → flat (cells_by plan kind (base_at plan kind) (map (counted_cell plan) cs)) ≡ flat cs
      by None is e = absurd (cc)
      by (Some s) is e = on s is s.base refl cs all e

  -- ---- every cell

  const_same : (c : CConst) → Same (roll-CCell (CCell-F.Const c))
  unfolding roll-CCell denote.Hole.Carrier.roll
  const_same c = record {
    plain = stays None;
    counted = λ k kind cells x e ok. absurd (let f : Plain c ≡ Braced cells = sym (fold-roll-CCell Cell checked.cell_step (CCell-F.Const c)) ∙ e in cc);
    other = λ k kind cells x e ok. stays (Some kind);
  }
    where
      stays : (as_ : Option ℕ) → cell_constants (counted_cell plan (roll-CCell (CCell-F.Const c)) as_) ≡ cell_constants (roll-CCell (CCell-F.Const c))
      stays as_ = ap (λ f. cell_constants (f as_)) (fold-roll-CCell made.Cell (cell_step plan) (CCell-F.Const c))

  braces_same : (cs : List CCell) → AllSame cs → Same (roll-CCell (CCell-F.Braces cs))
  unfolding roll-CCell denote.Hole.Carrier.roll
  braces_same cs all = record {
    plain = ap (λ f. cell_constants (f None)) step ∙ braces_flat (as_they_are (map (counted_cell plan) cs)) ∙ all_plain cs all ∙ sym (braces_flat cs);
    counted = λ k kind cells x e ok.
        ap (λ f. cell_constants (f (Some kind))) step ∙ braces_flat (cells_by plan kind (base_at plan kind) (map (counted_cell plan) cs))
        ∙ counted_cells cs all k kind x (subst (λ l. cells_within p n0 k kind l ≡ true) (same_cells cells e) ok) ∙ ap header (sym (braces_flat cs));
    other = λ k kind cells x e ok.
        ap (λ f. cell_constants (f (Some kind))) step ∙ braces_flat (cells_by plan kind (base_at plan kind) (map (counted_cell plan) cs))
        ∙ other_cells cs all k kind x (subst (λ l. cells_within p n0 k kind l ≡ true) (same_cells cells e) ok) ∙ sym (braces_flat cs);
  }
    where
      step : counted_cell plan (roll-CCell (CCell-F.Braces cs)) ≡ cell_step plan (CCell-F.Braces (map (counted_cell plan) cs))
      step = fold-roll-CCell made.Cell (cell_step plan) (CCell-F.Braces cs)

      same_cells : (cells : Cells) → plain_cell (roll-CCell (CCell-F.Braces cs)) ≡ Braced cells → cells ≡ cells_of (map plain_cell cs)
      same_cells cells e = let f : Braced (cells_of (map plain_cell cs)) ≡ Braced cells = sym (fold-roll-CCell Cell checked.cell_step (CCell-F.Braces cs)) ∙ e in cc

  all_same : (ys : List ((c : CCell) × Same c)) → AllSame (map (λ p. p.0) ys)
  all_same [] = tt
  all_same (y ∷ ys) = (y.1, all_same ys)

  same_cell : (c : CCell) → Same c
  same_cell = ind-CCell Same (λ x y is. (elim y as (λ z. map-CCell _ CCell (λ e. e.0) z ≡ x → Same (roll-CCell x)) [ CCell-F.Const c ↦ λ e. subst (λ z. Same (roll-CCell z)) e (const_same c) | CCell-F.Braces ys ↦ λ e. subst (λ z. Same (roll-CCell z)) e (braces_same (map (λ p. p.0) ys) (all_same ys)) ]) is)

  every_same : (cs : List CCell) → AllSame cs
  every_same [] = tt
  every_same (c ∷ cs) = (same_cell c, every_same cs)

  -- the values of a static
  pub counted_values : (g : CStatic) → is_counted plan g.kind ≡ true → static_ok p n0 g ≡ true → static_values (made.static_of plan g) ≡ Word (pos 1) ∷ Null ∷ static_values g
  counted_values g c ok = ap (map constant) (counted_cells g.cells (every_same g.cells) (suc g.kind) g.kind c ok)

  pub other_values : (g : CStatic) → is_counted plan g.kind ≡ false → static_ok p n0 g ≡ true → static_values (made.static_of plan g) ≡ static_values g
  other_values g c ok = ap (map constant) (other_cells g.cells (every_same g.cells) (suc g.kind) g.kind c ok)
