-- What is written for values calls only graphs that are told not to raise, and so do the graphs of values.
use Rattle.std.proofs.Common.{◌≡◌, ℕ, ◌+◌, ◌==◌, ◌&&◌, Bool, true, false, List, [], ◌∷◌, pos, refl}
use Rattle.csub_tree.specs.declared.tree.COperand.{COperand}
use Rattle.csub_tree.specs.declared.tree.COperand.TheVariants.{Var, Const}
use Rattle.ll_code.specs.declared.program.LlType.{LlType}
use Rattle.ll_code.specs.declared.program.LlType.TheVariants as type
use Rattle.ll_code.specs.declared.program.LlOp.TheVariants as op
use Rattle.ll_build.specs.declared.needs.Helper.TheVariants as helper
use Rattle.rtyper_layout.specs.declared.layout.Layout.{Layout}
use Rattle.rtyper_layout.specs.Layout.{is_tuple}
use Rattle.rtyper_data.specs.declared.body.Body.{Body}
use Rattle.rtyper_data.specs.declared.found.Found.{Found}
use Rattle.rtyper_data.specs.declared.small.Small.{Small}
use Rattle.rtyper_data.specs.declared.small.Small.TheVariants as small
use Rattle.rtyper_data.specs.Comparing.{equal, field_of, pointers_equal, texts_equal}
use Rattle.rtyper_data.specs.Converting.{converted, value_as}
use Rattle.rtyper_data.specs.Finding.{same_type}
use Rattle.rtyper_data.specs.Graphs.{and_equal, body_of, cast, cast_from, cast_graph, cast_items, equal_from, equal_items, equality, equality_graph, failing, failure, field_at, fields_at, item_as, items_equal, present, shared_fields}
use Rattle.rtyper_data.specs.Numbers.{word}
use Rattle.rtyper_data.specs.Seen.{Writing, fresh, with_op, writing}
use Rattle.rtyper_data.specs.Smalls.{small_graph}
use Rattle.rtyper_data.specs.Tuples.{set_fields, variable_of}
use Rattle.rtyper_program.specs.Cuts.{small_raises}
use Rattle.told_graphs.proofs.Keeping.{Calm, Keeps, Quiet, Telling, by_small_keeps, calm, helped_keeps, if_kept, kept, chain, more, writes}

module _ (t : Telling) where
  -- ---- conversions

  converted_keeps : (layout : Layout) (x : COperand) (from to : LlType) (w : Writing) → Keeps t w (converted layout x from to w).1
  converted_keeps layout x type.Char (type.Ptr n) w = if_kept t _ _ (n == 0) (helped_keeps t helper.StrOfChar (type.Ptr n) (x ∷ []) w refl) (kept t w)
  converted_keeps layout x (type.Ptr m) (type.Ptr n) w = if_kept t _ _ (is_tuple layout m && is_tuple layout n) (by_small_keeps t (small.Cast m n) (type.Ptr n) (x ∷ []) w refl) (kept t w)
  converted_keeps layout x _ _ w = kept t w

  pub value_as_keeps : (layout : Layout) (x : COperand) (from to : LlType) (w : Writing) → Keeps t w (value_as layout x from to w).1
  unfolding value_as
  value_as_keeps layout x from to w = if_kept t _ _ (same_type from to) (kept t w) (converted_keeps layout x from to w)

  -- ---- comparisons

  texts_equal_keeps : (layout : Layout) (x : COperand) (a : LlType) (y : COperand) (b : LlType) (w : Writing) → Keeps t w (texts_equal layout x a y b w).1
  unfolding texts_equal
  texts_equal_keeps layout x a y b w =
      chain t (value_as_keeps layout x a (type.Ptr 0) w) (chain t (value_as_keeps layout y b (type.Ptr 0) (value_as layout x a (type.Ptr 0) w).1) (helped_keeps t helper.StrEqual type.Bool _ _ refl))

  pointers_equal_keeps : (layout : Layout) (x : COperand) (m : ℕ) (y : COperand) (n : ℕ) (w : Writing) → Keeps t w (pointers_equal layout x m y n w).1
  pointers_equal_keeps layout x m y n w =
      if_kept t _ _ ((m == 0) && (n == 0)) (helped_keeps t helper.StrEqual type.Bool (x ∷ y ∷ []) w refl)
      (if_kept t _ _ (is_tuple layout m && is_tuple layout n) (by_small_keeps t (small.Equal m n) type.Bool (x ∷ y ∷ []) w refl) (kept t w))

  pub equal_keeps : (layout : Layout) (x : COperand) (a : LlType) (y : COperand) (b : LlType) (w : Writing) → Keeps t w (equal layout x a y b w).1
  unfolding equal
  equal_keeps layout x type.Signed y type.Signed w = writes t w _ (λ q. more t w.body.ops _ q refl)
  equal_keeps layout x type.Bool y type.Bool w = writes t w _ (λ q. more t w.body.ops _ q refl)
  equal_keeps layout x type.Char y type.Char w = writes t w _ (λ q. more t _ _ (more t _ _ (more t w.body.ops _ q refl) refl) refl)
  equal_keeps layout x type.Char y (type.Ptr n) w = if_kept t _ _ (n == 0) (texts_equal_keeps layout x type.Char y (type.Ptr n) w) (kept t w)
  equal_keeps layout x (type.Ptr m) y type.Char w = if_kept t _ _ (m == 0) (texts_equal_keeps layout x (type.Ptr m) y type.Char w) (kept t w)
  equal_keeps layout x type.Bool y (type.Ptr n) w = writes t w _ (λ q. more t w.body.ops _ q refl)
  equal_keeps layout x (type.Ptr m) y type.Bool w = writes t w _ (λ q. more t w.body.ops _ q refl)
  equal_keeps layout x (type.Ptr m) y (type.Ptr n) w = pointers_equal_keeps layout x m y n w
  equal_keeps layout x _ y _ w = kept t w

  pub field_keeps : (n tuple i : ℕ) (a : LlType) (w : Writing) → Keeps t w (writing w.found (field_of n tuple i a w.body).1)
  field_keeps n tuple i a w = writes t w _ (λ q. more t w.body.ops _ q refl)

  pub variable_keeps : (x : COperand) (a : LlType) (w : Writing) → Keeps t w (writing w.found (variable_of x a w.body).1)
  unfolding variable_of
  variable_keeps (Var v) a w = kept t w
  variable_keeps (Const c) a w = writes t w _ (λ q. more t w.body.ops _ q refl)

  -- ---- casts

  cast_from_keeps : (layout : Layout) (m : ℕ) (to : List LlType) (i : ℕ) (ts : List LlType) (w : Writing) → Keeps t w (cast_from layout m to i ts w).1
  cast_from_keeps layout m to i [] w = kept t w
  cast_from_keeps layout m to i (a ∷ ts) w =
      chain t (field_keeps m 0 i a w) (chain t (value_as_keeps layout (field_of m 0 i a w.body).0 a (field_at to i) (writing w.found (field_of m 0 i a w.body).1))
      (cast_from_keeps layout m to (i + 1) ts (item_as layout a (field_at to i) w.found (field_of m 0 i a w.body)).1))

  cast_items_keeps : (layout : Layout) (m n : ℕ) (w : Writing) → Keeps t w (cast_items layout m n w).1
  unfolding cast_items
  cast_items_keeps layout m n w = cast_from_keeps layout m (fields_at layout n) 0 (shared_fields layout m n) w

  pub set_fields_stay : (n tuple i : ℕ) (xs : List COperand) (body : Body) → Quiet t body → Quiet t (set_fields n tuple i xs body)
  set_fields_stay n tuple i [] body q = q
  set_fields_stay n tuple i (x ∷ xs) body q = set_fields_stay n tuple (i + 1) xs (with_op (op.SetField n tuple i x) body) (more t body.ops _ q refl)

  cast_calm : (layout : Layout) (m n : ℕ) (found : Found) → Calm t (cast layout m n found)
  unfolding cast_graph
  cast_calm layout m n found late =
      let w : Writing = writing found (body_of (type.Ptr m ∷ type.Bool ∷ [])) in
      let items : List COperand × Writing = cast_items layout m n w in
      let made : ℕ × Body = fresh (type.Ptr n) items.1.body in (
        calm t _ refl tt,
        (
          calm t _ refl tt,
          (
            record { ops = set_fields_stay n made.0 0 items.0 (with_op (op.New made.0 n n) made.1) (more t items.1.body.ops _ ((cast_items_keeps layout m n w).stays late tt) refl); exit = tt },
            tt,
          ),
        ),
      )

  -- ---- equality

  and_equal_keeps : (all : COperand) (same : COperand × Writing) → Keeps t same.1 (and_equal all same).1
  and_equal_keeps all same = writes t same.1 _ (λ q. more t _ _ (more t same.1.body.ops _ q refl) refl)

  equal_from_keeps : (layout : Layout) (m n : ℕ) (those : List LlType) (i : ℕ) (ss : List LlType) (all : COperand × Writing) → Keeps t all.1 (equal_from layout m n those i ss all).1
  equal_from_keeps layout m n those i [] all = kept t all.1
  equal_from_keeps layout m n those i (s ∷ ss) all =
      let a : COperand × Body = field_of m 0 i s all.1.body in
      let b : COperand × Body = field_of n 1 i (field_at those i) a.1 in
      let same : COperand × Writing = items_equal layout n i (field_at those i) all.1.found s a in
      chain t (field_keeps m 0 i s all.1) (chain t (field_keeps n 1 i (field_at those i) (writing all.1.found a.1))
      (chain t (equal_keeps layout a.0 s b.0 (field_at those i) (writing all.1.found b.1)) (chain t (and_equal_keeps all.0 same) (equal_from_keeps layout m n those (i + 1) ss (and_equal all.0 same)))))

  equal_items_keeps : (layout : Layout) (m n : ℕ) (w : Writing) → Keeps t w (equal_items layout m n w).1
  unfolding equal_items
  equal_items_keeps layout m n w = equal_from_keeps layout m n (fields_at layout n) 0 (shared_fields layout m n) (word (pos 1), w)

  equality_calm : (layout : Layout) (m n : ℕ) (found : Found) → Calm t (equality layout m n found)
  unfolding equality_graph
  equality_calm layout m n found late =
      let w : Writing = writing found (body_of (type.Ptr m ∷ type.Ptr n ∷ [])) in
      (record { ops = more t (equal_items layout m n w).1.body.ops _ ((equal_items_keeps layout m n w).stays late tt) refl; exit = tt }, tt)

  -- ---- all

  failure_calm : (raises : Bool) (found : Found) → raises ≡ false → Calm t (failure raises found)
  unfolding failing
  failure_calm true found h late = absurd (cc)
  failure_calm false found h late = (calm t _ refl tt, tt)

  present_calm : (a : LlType) (raises : Bool) (found : Found) → raises ≡ false → Calm t (present a raises found)
  unfolding failing
  present_calm a true found h late = absurd (cc)
  present_calm a false found h late = (calm t _ refl tt, (calm t _ refl tt, (calm t _ refl tt, tt)))

  pub small_graph_calm : (layout : Layout) (s : Small) (found : Found) → small_raises s ≡ false → Calm t (small_graph layout s found)
  small_graph_calm layout (small.Cast m n) found h = cast_calm layout m n found
  small_graph_calm layout (small.Equal m n) found h = equality_calm layout m n found
  small_graph_calm layout (small.Fail raises) found h = failure_calm raises found h
  small_graph_calm layout (small.Present a raises) found h = present_calm a raises found h
  small_graph_calm layout (small.Checked o raises) found h = absurd (cc)
  small_graph_calm layout small.CheckedNeg found h = absurd (cc)
  small_graph_calm layout small.IntOfText found h = absurd (cc)
  small_graph_calm layout _ found h = failure_calm false found refl
