-- The state at which a counted program starts stands for that at which its program does.
use Rattle.std.proofs.Common.{◌≡◌, ◌<◌, inl, ℕ, zero, suc, ◌+◌, Bool, true, false, ◌&&◌, List, [], ◌∷◌, length, map, take, drop, Option, Some, None, refl, sym, ap, ◌∙◌, subst, arith}
use Rattle.std.specs.Prelude.{slice_get, is_none, pos}
use Rattle.csub_tree.specs.State.{Value, Word, Null, Ptr, Static, Block, Core}
use Rattle.csub_tree.specs.Layout.{Shape, shape_at, static_values, static_block}
use Rattle.csub_tree.specs.Checked.{plain_cells}
use Rattle.csub_tree.specs.declared.tree.CStatic.{CStatic}
use Rattle.ll_code.specs.State.{Calling}
use Rattle.ll_code.specs.Machine.{shapes_of, start}
use Rattle.ll_code.specs.declared.program.LlStruct.{LlStruct}
use Rattle.ll_code.specs.declared.program.LlGraph.{LlGraph}
use Rattle.ll_code.specs.declared.program.LlProgram.{LlProgram}
use Rattle.ll_code.specs.Typed.{shaped_ok, cells_within, static_ok, statics_ok, structs_ok, graphs_ok, begins_run, IsWellTyped}
use Rattle.ll_laws.proofs.Values.{and_left, and_right}
use Rattle.refcount_transform.specs.Plan.{Plan, plan_of, is_counted, base_at, has_count}
use Rattle.refcount_transform.specs.Counted as made
use Rattle.refcount_transform.specs.Counted.{counted, struct_by}
use Rattle.refcount_laws.specs.Made.{shapes_counted, counts_of}
use Rattle.refcount_laws.specs.Ghost.{Ghost, no_slot, slot_at, count, count_of, shown, Fixed, Alone, F, IsFixed, IsSmall, shown_fixed, fixed_at}
use Rattle.refcount_laws.specs.Owned.{hits_by}
use Rattle.refcount_laws.specs.Matches.{AllNear, NearStatic}
use Rattle.refcount_laws.specs.Whole.{BothCalling}
use Rattle.refcount_laws.proofs.Numbers.{Based, all_based}
use Rattle.refcount_laws.proofs.Standing.{StructAt}
use Rattle.refcount_laws.proofs.Places.{counted_base, earlier}
use Rattle.refcount_laws.proofs.Alike.{size_fuel, plain_shape, wide_shape}
use Rattle.refcount_laws.proofs.Beginning.{counted_values, other_values, within_suc}
use Rattle.refcount_laws.proofs.Operations.{structs_typed}
use Rattle.refcount_laws.proofs.Copying.{no_null}
use Rattle.refcount_laws.proofs.Cells.{past}

-- no reference is owned by NULL
hits_null : (o : Option ℕ) (r : Value) → hits_by o Null r ≡ 0
hits_null None r = refl
hits_null (Some n) r = no_null r

near_all : (xs : List Value) → AllNear xs xs
near_all xs = record { size = refl; at = λ k. inl refl }

module _ (p : LlProgram) (based : Based p.structs) where
  abbrev plan : Plan
  plan = plan_of p

  abbrev plain : List Shape
  plain = shapes_of p.structs

  abbrev wide : List Shape
  wide = shapes_counted plan

  -- a struct that is not counted is as large as it was
  size_other : (f n : ℕ) (s : LlStruct) → n < f → slice_get p.structs n ≡ Some s → is_counted plan n ≡ false → (shape_at wide n).size ≡ (shape_at plain n).size
  size_other zero n s lt e c = absurd (omega (arith, lt))
  size_other (suc f) n s lt e c = on (λ m t l i d. size_other f m t l i d) s.base refl
    where
      on : ((m : ℕ) (t : LlStruct) → m < f → slice_get p.structs m ≡ Some t → is_counted plan m ≡ false → (shape_at wide m).size ≡ (shape_at plain m).size) → (o : Option ℕ) → s.base ≡ o → (shape_at wide n).size ≡ (shape_at plain n).size
      on go None b =
          let y : has_count plan n ≡ false = ap (λ b. b && is_none (base_at plan n)) c in
          ap (λ x. x.size) (wide_shape p based n s None false e b y) ∙ sym (ap (λ x. x.size) (plain_shape p based n s None e b))
      on go (Some m) b =
          let y : has_count plan n ≡ false = ap (λ b. b && is_none (base_at plan n)) c in
          let less : m < n = based.before n m s e b in
          let t : StructAt p.structs m = earlier p.structs n m s e less in
          let cm : is_counted plan m ≡ false = sym (counted_base p based n m (record { s = s; is = e; base = b }) t.s t.is) ∙ c in
          let a : (shape_at wide n).size ≡ (shape_at wide m).size + length s.fields = ap (λ x. x.size) (wide_shape p based n s (Some m) false e b y) in
          let d : (shape_at plain n).size ≡ (shape_at plain m).size + length s.fields = ap (λ x. x.size) (plain_shape p based n s (Some m) e b) in
          omega (arith, a, d, go m t.s (omega (arith, less, lt)) t.is cm)

  -- ---- one static

  abbrev pub fixed_by : Bool → CStatic → Fixed
  fixed_by true g = F 1 g.kind (take (shape_at plain g.kind).size (static_values g)) (drop (shape_at plain g.kind).size (static_values g))
  fixed_by false g = Alone (static_block plain g)

  abbrev pub fixed : CStatic → Fixed
  fixed g = fixed_by (is_counted plan g.kind) g

  struct_of : (n0 : ℕ) (g : CStatic) → static_ok p n0 g ≡ true → StructAt p.structs g.kind
  struct_of n0 g ok = by (slice_get p.structs g.kind) refl (within_suc p based n0 g.kind g.kind (plain_cells g.cells) ok)
    where
      by : (o : Option LlStruct) → slice_get p.structs g.kind ≡ o → shaped_ok p n0 (cells_within p n0 g.kind) o (plain_cells g.cells) ≡ true → StructAt p.structs g.kind
      by None is e = absurd (cc)
      by (Some s) is e = record { s = s; is = is }

  shown_as : (n0 : ℕ) (g : CStatic) → static_ok p n0 g ≡ true → shown_fixed (fixed g) ≡ static_block wide (made.static_of plan g)
  shown_as n0 g ok = by (is_counted plan g.kind) refl
    where
      by : (y : Bool) → is_counted plan g.kind ≡ y → shown_fixed (fixed_by y g) ≡ static_block wide (made.static_of plan g)
      by true c =
          let t : StructAt p.structs g.kind = struct_of n0 g ok in
          ap (λ k. record { kind = g.kind; fields = take k (Word (pos 1) ∷ Null ∷ static_values g); items = drop k (Word (pos 1) ∷ Null ∷ static_values g) }) (sym (size_fuel p based (suc g.kind) g.kind t.s (omega arith) t.is c))
          ∙ ap (λ vs. record { kind = g.kind; fields = take (shape_at wide g.kind).size vs; items = drop (shape_at wide g.kind).size vs }) (sym (counted_values p based n0 g c ok))
      by false c =
          let t : StructAt p.structs g.kind = struct_of n0 g ok in
          ap (λ k. record { kind = g.kind; fields = take k (static_values g); items = drop k (static_values g) }) (sym (size_other (suc g.kind) g.kind t.s (omega arith) t.is c))
          ∙ ap (λ vs. record { kind = g.kind; fields = take (shape_at wide g.kind).size vs; items = drop (shape_at wide g.kind).size vs }) (sym (other_values p based n0 g c ok))

  near_as : (g : CStatic) → NearStatic plan (static_block plain g) (fixed g)
  near_as g = by (is_counted plan g.kind) refl
    where
      by : (y : Bool) → is_counted plan g.kind ≡ y → NearStatic plan (static_block plain g) (fixed_by y g)
      by true c = (record { kind = refl; fields = near_all _; items = near_all _ }, c)
      by false c = (refl, c)

  one_fixed : (g : CStatic) → IsFixed (counts_of plan) (fixed g) 0 × IsSmall (fixed g)
  one_fixed g = by (is_counted plan g.kind)
    where
      by : (y : Bool) → IsFixed (counts_of plan) (fixed_by y g) 0 × IsSmall (fixed_by y g)
      by true = (refl, omega arith)
      by false = (tt, tt)

  -- ---- all statics

  shown_all : (n : ℕ) (gs : List CStatic) → statics_ok p n gs ≡ true → map shown_fixed (map fixed gs) ≡ map (static_block wide) (map (made.static_of plan) gs)
  shown_all n [] ok = refl
  shown_all n (g ∷ gs) ok = ap (λ b. b ∷ map shown_fixed (map fixed gs)) (shown_as n g (and_left _ _ ok)) ∙ ap (λ l. static_block wide (made.static_of plan g) ∷ l) (shown_all (n + 1) gs (and_right (static_ok p n g) _ ok))

  same_size : (gs : List CStatic) → length (map (static_block plain) gs) ≡ length (map fixed gs)
  same_size [] = refl
  same_size (g ∷ gs) = ap suc (same_size gs)

  near_each : (gs : List CStatic) (s : ℕ) (block : Block) → slice_get (map (static_block plain) gs) s ≡ Some block → NearStatic plan block (fixed_at (map fixed gs) s)
  near_each [] s block e = absurd (cc)
  near_each (g ∷ gs) zero block e = let f : static_block plain g ≡ block = cc in subst (λ b. NearStatic plan b (fixed g)) f (near_as g)
  near_each (g ∷ gs) (suc s) block e = near_each gs s block e

  ones : (gs : List CStatic) (s : ℕ) → IsFixed (counts_of plan) (fixed_at (map fixed gs) s) 0 × IsSmall (fixed_at (map fixed gs) s)
  ones [] s = (tt, tt)
  ones (g ∷ gs) zero = one_fixed g
  ones (g ∷ gs) (suc s) = ones gs s

-- ---- the start

module _ (p : LlProgram) (w : IsWellTyped p) (steps : ℕ) where
  pub based : Based p.structs
  based = all_based p.structs (structs_typed p w)

  abbrev pub ghost : Ghost
  ghost = record { blocks = []; statics = map (fixed p based) p.statics }

  record Enters : Type 0 where
    graph : LlGraph
    there : slice_get p.graphs p.entry ≡ Some graph

  parts : (statics_ok p 0 p.statics ≡ true) × (begins_run (slice_get p.graphs p.entry) ≡ true)
  parts = (and_right (structs_ok p.structs 0 p.structs) _ (and_left _ _ (and_left _ _ w)), and_right (structs_ok p.structs 0 p.structs && statics_ok p 0 p.statics && graphs_ok p p.graphs) _ w)

  enters : Enters
  enters = by (slice_get p.graphs p.entry) refl parts.1
    where
      by : (o : Option LlGraph) → slice_get p.graphs p.entry ≡ o → begins_run o ≡ true → Enters
      by None is e = absurd (cc)
      by (Some g) is e = record { graph = g; there = is }

  none_own : (r : Value) → hits_by (plan_of p).slots.kind Null r + hits_by (plan_of p).slots.value Null r + 0 ≡ 0
  none_own r = let a : hits_by (plan_of p).slots.kind Null r ≡ 0 = hits_null (plan_of p).slots.kind r in let b : hits_by (plan_of p).slots.value Null r ≡ 0 = hits_null (plan_of p).slots.value r in omega (arith, a, b)

  none_left : (r : Value) → 0 + (0 + ((hits_by (plan_of p).slots.kind Null r + hits_by (plan_of p).slots.value Null r) + 0)) ≡ 0
  none_left r = let a : hits_by (plan_of p).slots.kind Null r + hits_by (plan_of p).slots.value Null r + 0 ≡ 0 = none_own r in omega (arith, a)

  nothing : (b : ℕ) → slot_at [] b ≡ no_slot
  nothing b = past [] b no_slot (omega arith)

  abbrev pub first : LlProgram → Core
  first q = record {
    function = q.entry;
    block = 0;
    at = 0;
    vars = [];
    callers = [];
    blocks = [];
    statics = map (static_block (shapes_of q.structs)) q.statics;
    exc_type = Null;
    exc_value = Null;
    steps = steps;
  }

  pub starts_stand : BothCalling p [] [] p.entry [] [] (first p) (start (counted p) steps) ghost []
  starts_stand = record {
    graph = enters.graph;
    there = enters.there;
    waits = tt;
    qcore = first (counted p);
    stands = record {
      near = record {
        size = refl;
        each = λ a lt. absurd (omega (arith, lt));
        size_statics = same_size p based p.statics;
        each_static = near_each p based p.statics;
      };
      shown = record { at = λ a. past [] a None (omega arith) ∙ sym (ap (shown (counts_of (plan_of p))) (nothing a)); size = refl };
      steps = refl;
      exc_type = refl;
      exc_value = refl;
    };
    counts = record {
      blocks = λ b. ap count_of (nothing b) ∙ sym (none_left (Ptr b));
      statics = λ s. subst (λ n. IsFixed (counts_of (plan_of p)) (fixed_at ghost.statics s) n) (sym (none_left (Static s))) (ones p based p.statics s).0;
      small = λ b. let z : count ghost.blocks b ≡ 0 = ap count_of (nothing b) in omega (arith, z);
      small_static = λ s. (ones p based p.statics s).1;
      whole = λ b lt. let z : count ghost.blocks b ≡ 0 = ap count_of (nothing b) in absurd (omega (arith, lt, z));
    };
    is = ap (λ l. Calling p.entry [] [] (record (first (counted p)) { statics = l })) (sym (shown_all p based 0 p.statics parts.0));
  }
