-- At first each static is of its struct, and the pointers in it lead to statics.
use Rattle.std.proofs.Common.{◌≡◌, ◌<◌, ℕ, zero, suc, ◌+◌, Bool, true, List, [], ◌∷◌, ◌++◌, length, map, take, drop, Option, Some, None, refl, sym, ap, ◌∙◌, subst, arith}
use Rattle.std.specs.Prelude.{slice_get, is_none}
use Rattle.std.proofs.lemmas.List.{append-nil, map-append}
use Rattle.std.proofs.lemmas.Option.{slice_get_within}
use Rattle.csub_tree.specs.State.{Value, Block}
use Rattle.csub_tree.specs.Layout as layout
use Rattle.csub_tree.specs.Layout.{shape_at, constant, joined, cell_constants, static_values, static_block}
use Rattle.csub_tree.specs.Checked.{Cell, Cells, Plain, Braced, end, then_cell, cells_of, plain_cell, plain_cells, cell_step}
use Rattle.csub_tree.specs.Statement.{read}
use Rattle.csub_tree.specs.declared.tree.CConst.{CConst}
use Rattle.csub_tree.specs.declared.tree.CStatic.{CStatic}
use Rattle.csub_tree.specs.declared.tree.CCell.{CCell, roll-CCell, map-CCell}
use Rattle.csub_tree.specs.declared.tree.CCell.TheOpen.{CCell-F}
use Rattle.csub_tree.specs.declared.tree.CCell.TheFolds.{fold-roll-CCell, ind-CCell}
use Rattle.ll_code.specs.declared.program.LlType.{LlType}
use Rattle.ll_code.specs.declared.program.LlStruct.{LlStruct}
use Rattle.ll_code.specs.declared.program.LlProgram.{LlProgram}
use Rattle.ll_code.specs.Machine.{shapes_of}
use Rattle.ll_code.specs.Typed.{items_of, is_plain, all_plain, items_ok, fields_ok, based_ok, shaped_ok, cells_within, static_ok, statics_ok, structs_ok}
use Rattle.ll_laws.specs.Fields.{base_fields, fields_from, fields_of}
use Rattle.ll_laws.proofs.Values.{and_left, and_right}
use Rattle.ll_laws.proofs.Cells.{Laid, all_laid, shapes_all}
use Rattle.ll_points.specs.Points.{LeadsBy, BlockLeads, StaticsStand}
use Rattle.ll_points.proofs.Leading.{unset_leads, constant_leads}

-- ---- the constants of cells, in order

abbrev mutual
  flat : Cell → List CConst
  flat (Plain c) = c ∷ []
  flat (Braced cells) = flats cells

  flats : Cells → List CConst
  flats end = []
  flats (then_cell c cells) = flat c ++ flats cells

abbrev All : {A : Type 0} → (A → Type 0) → List A → Type 0
All P [] = Unit {0}
All P (x ∷ xs) = P x × All P xs

abbrev SameCell : CCell → Type 0
SameCell c = cell_constants c ≡ flat (plain_cell c)

same_const : (c : CConst) → SameCell (roll-CCell (CCell-F.Const c))
same_const c = fold-roll-CCell (List CConst) layout.cell_step (CCell-F.Const c) ∙ sym (ap flat (fold-roll-CCell Cell cell_step (CCell-F.Const c)))

same_cells : (cs : List CCell) → All SameCell cs → joined (map cell_constants cs) ≡ flats (cells_of (map plain_cell cs))
same_cells [] all = refl
same_cells (c ∷ cs) all = ap (λ l. l ++ joined (map cell_constants cs)) all.0 ∙ ap (λ l. flat (plain_cell c) ++ l) (same_cells cs all.1)

same_braces : (cs : List CCell) → All SameCell cs → SameCell (roll-CCell (CCell-F.Braces cs))
same_braces cs all = fold-roll-CCell (List CConst) layout.cell_step (CCell-F.Braces cs) ∙ same_cells cs all ∙ sym (ap flat (fold-roll-CCell Cell cell_step (CCell-F.Braces cs)))

all_same : (ys : List ((c : CCell) × SameCell c)) → All SameCell (map (λ p. p.0) ys)
all_same [] = tt
all_same (y ∷ ys) = (y.1, all_same ys)

same_cell : (c : CCell) → SameCell c
same_cell = ind-CCell SameCell (λ x y is. (elim y as (λ z. map-CCell _ CCell (λ e. e.0) z ≡ x → SameCell (roll-CCell x)) [ CCell-F.Const c ↦ λ e. subst (λ z. SameCell (roll-CCell z)) e (same_const c) | CCell-F.Braces ys ↦ λ e. subst (λ z. SameCell (roll-CCell z)) e (same_braces (map (λ p. p.0) ys) (all_same ys)) ]) is)

every_same : (cs : List CCell) → All SameCell cs
every_same [] = tt
every_same (c ∷ cs) = (same_cell c, every_same cs)

values_are : (g : CStatic) → static_values g ≡ map constant (flats (plain_cells g.cells))
values_are g = ap (map constant) (same_cells g.cells (every_same g.cells))

-- ---- values that fill a struct

module _ (p : LlProgram) (blocks : List (Option Block)) (statics : List Block) (structs : structs_ok p.structs 0 p.structs ≡ true) (stand : StaticsStand p statics) where
  abbrev By : LlType → Value → Type 0
  By t value = LeadsBy p blocks statics t value

  abbrev ItemsFill : Option LlType → List Value → Type 0
  ItemsFill None [] = Unit {0}
  ItemsFill None (v ∷ vs) = ⊥
  ItemsFill (Some t) vs = All (By t) vs

  abbrev Fill : List LlType → Option LlType → List Value → Type 0
  Fill [] items vs = ItemsFill items vs
  Fill (t ∷ ts) items [] = ⊥
  Fill (t ∷ ts) items (v ∷ vs) = By t v × Fill ts items vs

  fill_both : (ts ss : List LlType) (items : Option LlType) (us vs : List Value) → Fill ts None us → Fill ss items vs → Fill (ts ++ ss) items (us ++ vs)
  fill_both [] ss items [] vs h k = k
  fill_both [] ss items (u ∷ us) vs h k = absurd h
  fill_both (t ∷ ts) ss items [] vs h k = absurd h
  fill_both (t ∷ ts) ss items (u ∷ us) vs h k = (h.0, fill_both ts ss items us vs h.1 k)

  all_at : (t : LlType) (vs : List Value) (i : ℕ) → All (By t) vs → By t (read vs i)
  all_at t [] i h = unset_leads p blocks statics t
  all_at t (v ∷ vs) zero h = h.0
  all_at t (v ∷ vs) (suc i) h = all_at t vs i h.1

  items_fill : (items : Option LlType) (t : LlType) (vs : List Value) (i : ℕ) → items ≡ Some t → ItemsFill items vs → By t (read vs i)
  items_fill None t vs i e h = absurd (cc)
  items_fill (Some u) t vs i e h = let f : u ≡ t = cc in subst (λ t. By t (read vs i)) f (all_at u vs i h)

  fill_items : (ts : List LlType) (items : Option LlType) (t : LlType) (vs : List Value) (i : ℕ) → items ≡ Some t → Fill ts items vs → By t (read (drop (length ts) vs) i)
  fill_items [] items t vs i e h = items_fill items t vs i e h
  fill_items (u ∷ ts) items t [] i e h = absurd h
  fill_items (u ∷ ts) items t (v ∷ vs) i e h = fill_items ts items t vs i e h.1

  fill_fields : (ts : List LlType) (items : Option LlType) (vs : List Value) (i : ℕ) (t : LlType) → slice_get ts i ≡ Some t → Fill ts items vs → By t (read (take (length ts) vs) i)
  fill_fields [] items vs i t e h = absurd (cc)
  fill_fields (u ∷ ts) items [] i t e h = absurd h
  fill_fields (u ∷ ts) items (v ∷ vs) zero t e h = let f : u ≡ t = cc in subst (λ t. By t v) f h.0
  fill_fields (u ∷ ts) items (v ∷ vs) (suc i) t e h = fill_fields ts items vs i t e h.1

  -- ---- cells that keep the rules fill their struct

  laid : Laid p.structs (shapes_of p.structs) (fields_from [] p.structs)
  laid = all_laid p.structs structs

  module _ (n : ℕ) where
    plain_leads : (t : LlType) (c : Cell) (cells : Cells) → is_plain p n t c ≡ true → (P : List Value → Type 0) → ((v : Value) → By t v → P (v ∷ map constant (flats cells))) → P (map constant (flat c ++ flats cells))
    plain_leads t (Plain c) cells ok P h = h (constant c) (constant_leads p blocks statics structs stand n t c ok)
    plain_leads t (Braced inner) cells ok P h = absurd (cc)

    all_lead : (t : LlType) (cells : Cells) → all_plain p n t cells ≡ true → All (By t) (map constant (flats cells))
    all_lead t end ok = tt
    all_lead t (then_cell c cells) ok = plain_leads t c cells (and_left _ _ ok) (All (By t)) (λ v h. (h, all_lead t cells (and_right _ _ ok)))

    items_lead : (items : Option LlType) (cells : Cells) → items_ok p n items cells ≡ true → ItemsFill items (map constant (flats cells))
    items_lead None end ok = tt
    items_lead (Some t) (then_cell (Braced cells) end) ok = subst (λ l. All (By t) (map constant l)) (sym (append-nil (flats cells))) (all_lead t cells ok)
    items_lead items cells ok = absurd (cc)

    fields_lead : (ts : List LlType) (items : Option LlType) (cells : Cells) → fields_ok p n ts items cells ≡ true → Fill ts items (map constant (flats cells))
    fields_lead [] items cells ok = items_lead items cells ok
    fields_lead (t ∷ ts) items end ok = absurd (cc)
    fields_lead (t ∷ ts) items (then_cell c cells) ok = plain_leads t c cells (and_left _ _ ok) (Fill (t ∷ ts) items) (λ v h. (h, fields_lead ts items cells (and_right _ _ ok)))

    -- cells of struct kind fill it
    abbrev Fills : ℕ → Cells → Type 0
    Fills kind cells = Fill (fields_of p.structs kind) (items_of (slice_get p.structs kind)) (map constant (flats cells))

    nothing : (o : Option LlType) → is_none o ≡ true → o ≡ None
    nothing None h = refl
    nothing (Some t) h = absurd (cc)

    based_lead : (base_ok : ℕ → Cells → Bool) → ((kind : ℕ) (cells : Cells) → base_ok kind cells ≡ true → Fills kind cells) → (s : LlStruct) (b : Option ℕ) → ((m : ℕ) → b ≡ Some m → is_none (items_of (slice_get p.structs m)) ≡ true)
        → (cells : Cells) → based_ok p n base_ok s b cells ≡ true → Fill (base_fields (fields_from [] p.structs) b ++ s.fields) s.items (map constant (flats cells))
    based_lead base_ok go s None none cells ok = fields_lead s.fields s.items cells ok
    based_lead base_ok go s (Some m) none (then_cell (Braced base) cells) ok =
        subst (Fill (fields_of p.structs m ++ s.fields) s.items) (sym (map-append constant (flats base) (flats cells)))
        (fill_both (fields_of p.structs m) s.fields s.items (map constant (flats base)) (map constant (flats cells))
        (subst (λ o. Fill (fields_of p.structs m) o (map constant (flats base))) (nothing (items_of (slice_get p.structs m)) (none m refl)) (go m base (and_left _ _ ok)))
        (fields_lead s.fields s.items cells (and_right _ _ ok)))
    based_lead base_ok go s (Some m) none other ok = absurd (cc)

    shaped_lead : (base_ok : ℕ → Cells → Bool) → ((kind : ℕ) (cells : Cells) → base_ok kind cells ≡ true → Fills kind cells) → (kind : ℕ) (o : Option LlStruct) → slice_get p.structs kind ≡ o
        → (cells : Cells) → shaped_ok p n base_ok o cells ≡ true → Fill (fields_of p.structs kind) (items_of o) (map constant (flats cells))
    shaped_lead base_ok go kind None e cells ok = absurd (cc)
    shaped_lead base_ok go kind (Some s) e cells ok =
        let lt : kind < length (shapes_of p.structs) = omega (arith, shapes_all p.structs, slice_get_within p.structs kind s e) in
        subst (λ l. Fill l s.items (map constant (flats cells))) (sym (laid.whole kind s lt e)) (based_lead base_ok go s s.base (λ m b. (laid.base kind m s lt e b).1) cells ok)

    within_lead : (k kind : ℕ) (cells : Cells) → cells_within p n k kind cells ≡ true → Fills kind cells
    unfolding cells_within
    within_lead zero kind cells ok = absurd (cc)
    within_lead (suc k) kind cells ok = shaped_lead (cells_within p n k) (within_lead k) kind (slice_get p.structs kind) refl cells ok

    static_leads : (g : CStatic) → static_ok p n g ≡ true → BlockLeads p blocks statics (static_block (shapes_of p.structs) g)
    static_leads g ok = subst (λ size. BlockLeads p blocks statics (record { kind = g.kind; fields = take size (static_values g); items = drop size (static_values g) })) (sym (laid.size g.kind)) (record {
      fields = λ i t e. fill_fields (fields_of p.structs g.kind) (items_of (slice_get p.structs g.kind)) (static_values g) i t e filled;
      items = λ i t e. fill_items (fields_of p.structs g.kind) (items_of (slice_get p.structs g.kind)) t (static_values g) i e filled;
    })
      where
        filled : Fill (fields_of p.structs g.kind) (items_of (slice_get p.structs g.kind)) (static_values g)
        filled = subst (Fill (fields_of p.structs g.kind) (items_of (slice_get p.structs g.kind))) (sym (values_are g)) (within_lead (suc g.kind) g.kind (plain_cells g.cells) ok)

  pub statics_lead : (n : ℕ) (rest : List CStatic) → statics_ok p n rest ≡ true → (g : ℕ) (block : Block) → slice_get (map (static_block (shapes_of p.structs)) rest) g ≡ Some block → BlockLeads p blocks statics block
  statics_lead n [] ok g block e = absurd (cc)
  statics_lead n (s ∷ rest) ok zero block e = let f : static_block (shapes_of p.structs) s ≡ block = cc in subst (BlockLeads p blocks statics) f (static_leads n s (and_left _ _ ok))
  statics_lead n (s ∷ rest) ok (suc g) block e = statics_lead (n + 1) rest (and_right _ _ ok) g block e

-- ---- each static is there

found_at : (p : LlProgram) (rest : List CStatic) (s : ℕ) (static : CStatic) → slice_get rest s ≡ Some static → slice_get (map (static_block (shapes_of p.structs)) rest) s ≡ Some (static_block (shapes_of p.structs) static)
found_at p [] s static e = absurd (cc)
found_at p (g ∷ rest) zero static e = let f : g ≡ static = cc in ap (λ g. Some (static_block (shapes_of p.structs) g)) f
found_at p (g ∷ rest) (suc s) static e = found_at p rest s static e

pub statics_stand : (p : LlProgram) → StaticsStand p (map (static_block (shapes_of p.structs)) p.statics)
statics_stand p = λ s static e. (static_block (shapes_of p.structs) static, found_at p p.statics s static e, refl)
