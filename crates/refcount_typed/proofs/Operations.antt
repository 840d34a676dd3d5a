-- What operations that keep the rules become keeps them.
use Rattle.std.proofs.Common.{◌≡◌, ℕ, zero, suc, ◌+◌, Bool, true, false, ◌&&◌, List, [], ◌∷◌, length, map, Option, Some, None, refl, sym, ap, ◌∙◌, subst, arith}
use Rattle.std.specs.Prelude.{slice_get, option_map}
use Rattle.csub_tree.specs.declared.tree.CConst.TheVariants as constant
use Rattle.csub_tree.specs.declared.tree.COperand.{COperand}
use Rattle.csub_tree.specs.declared.tree.COperand.TheVariants.{Var, Const}
use Rattle.ll_code.specs.declared.program.LlStage.TheVariants as stage
use Rattle.ll_code.specs.declared.program.LlType.{LlType}
use Rattle.ll_code.specs.declared.program.LlType.TheVariants as type
use Rattle.ll_code.specs.declared.program.LlStruct.{LlStruct}
use Rattle.ll_code.specs.declared.program.LlOp.{LlOp}
use Rattle.ll_code.specs.declared.program.LlOp.TheVariants as op
use Rattle.ll_code.specs.declared.program.LlGraph.{LlGraph}
use Rattle.ll_code.specs.declared.program.LlProgram.{LlProgram}
use Rattle.ll_code.specs.Typed.{IsWellTyped, base_of, items_of, field_of, own_field, has_type, takes, given_takes, points, operation_ok, operations_ok}
use Rattle.ll_laws.proofs.Values.{and_left}
use Rattle.refcount_transform.specs.declared.plan.Held.{Held}
use Rattle.refcount_transform.specs.Plan.{Plan, plan_of, reference_given, fields_given, fields_of, field_number, place_behind, place_of, field_referred, items_referred, put_of, held_of, is_counted, counts_at, root_of, shifted, own_some}
use Rattle.refcount_transform.specs.Made.{call, null, word, put_item_graph, clear_graph, slots_graph}
use Rattle.refcount_transform.specs.Changes.{Around, around_of, nulls, header, header_by, cleared, cleared_by, set_field, set_field_by, set_item, set_item_by, exc_clear, exc_clear_by, emptied, emptied_by}
use Rattle.refcount_transform.specs.Counted.{counted}
use Rattle.refcount_laws.specs.Graphs.{StandsWith, Stands}
use Rattle.refcount_laws.specs.Made.{all_lead, leads_to_roots}
use Rattle.refcount_laws.proofs.Numbers.{Based, all_based}
use Rattle.refcount_laws.proofs.Putting.{counted_puts}
use Rattle.refcount_typed.specs.Leads.{stands_in_root}
use Rattle.refcount_typed.proofs.Tests.{and_both, is_below, get_map, length_map}
use Rattle.refcount_typed.proofs.Structs.{items_same}
use Rattle.refcount_typed.proofs.Kept.{taken_kept, given_kept}
use Rattle.refcount_typed.proofs.Fields.{given_is, field_kept, AllRight, held_right}
use Rattle.refcount_typed.proofs.Roots.{inside, count_field, release_field}
use Rattle.refcount_typed.proofs.Items.{put_item_there, clear_there, slots_there}
use Rattle.refcount_typed.proofs.Calls.{counting, call_given, one_more}
use Rattle.refcount_transform.specs.Blocks.{graph_of}
use Rattle.refcount_transform.specs.Made.{all_made}
use Rattle.refcount_laws.proofs.Numbers.{get_left}

module _ (p : LlProgram) (ok : IsWellTyped p) (explicit : p.stage ≡ stage.Explicit) (leads : leads_to_roots p ≡ true) where
  abbrev plan : Plan
  plan = plan_of p

  pub based : Based p.structs
  based = all_based p.structs (and_left _ _ (and_left _ _ (and_left _ _ ok)))

  -- the graphs of the program keep their places
  pub graph_there : (f : ℕ) (g : LlGraph) → slice_get p.graphs f ≡ Some g → slice_get (counted p).graphs f ≡ Some (graph_of plan g)
  graph_there f g e =
      get_left (map (graph_of plan) p.graphs) (all_made plan) f (let l : length (map (graph_of plan) p.graphs) ≡ length p.graphs = length_map (graph_of plan) p.graphs in omega (arith, l, inside p.graphs f g e))
      ∙ get_map (graph_of plan) p.graphs f ∙ ap (option_map (graph_of plan)) e

  -- a field of the whole block is one of the struct's own
  own_place : (n k : ℕ) (t : LlType) → field_of (slice_get p.structs n) k ≡ Some t → slice_get (fields_of plan n) (place_of plan n k) ≡ Some t
  own_place n k t e = by (slice_get p.structs n) refl e
    where
      on : (s : LlStruct) (o : Option ℕ) (k : ℕ) → own_field s o k ≡ Some t → slice_get s.fields (place_behind o k) ≡ Some t
      on s None k e = e
      on s (Some m) zero e = absurd (cc)
      on s (Some m) (suc k) e = e

      by : (o : Option LlStruct) → slice_get p.structs n ≡ o → field_of o k ≡ Some t → slice_get (fields_given o) (place_behind (base_of o) k) ≡ Some t
      by None e h = absurd (cc)
      by (Some s) e h = on s s.base k h

  module _ (types : List LlType) (lead : all_lead plan types ≡ true) where
    abbrev around : Around
    around = around_of plan types

    abbrev Fine : List LlOp → Type 0
    Fine ops = operations_ok (counted p) types ops ≡ true

    abbrev more : (o : LlOp) (rest : List LlOp) → operation_ok (counted p) types o ≡ true → Fine rest → Fine (o ∷ rest)
    more o rest h k = one_more p ok leads types o rest h k

    -- ---- new blocks

    nulls_fine : (v : ℕ) → points (slice_get types v) ≡ true → (held : List Held) (rest : List LlOp) → AllRight p held → Fine rest → Fine (nulls v held rest)
    nulls_fine v pt [] rest right k = k
    nulls_fine v pt (h ∷ held) rest right k =
        more (op.SetField h.owner v h.number null) (nulls v held rest)
        (and_both (points (slice_get types v)) (given_takes (counted p) types (field_of (slice_get (counted p).structs h.owner) h.number) null) pt (ap (λ o. given_takes (counted p) types o null) right.0.field))
        (nulls_fine v pt held rest right.1 k)

    pub header_fine : (v n : ℕ) (rest : List LlOp) → points (slice_get types v) ≡ true → Fine rest → Fine (header plan v n rest)
    header_fine v n rest pt k = by (is_counted plan n) refl
      where
        by : (b : Bool) → is_counted plan n ≡ b → Fine (header_by plan v n b rest)
        by false c = k
        by true c =
            let s : Stands (counted p) (counts_at plan n).release _ _ = (counting p ok leads).release n c in
            let r : LlOp = op.SetField (root_of plan n) v 1 (Const (constant.Fun (counts_at plan n).release)) in
            let l : List LlOp = nulls v (held_of plan n) rest in
            more (op.SetField (root_of plan n) v 0 (word 1)) (r ∷ l)
            (and_both (points (slice_get types v)) _ pt (ap (λ o. given_takes (counted p) types o (word 1)) (count_field p based n c)))
            (more r l
            (and_both (points (slice_get types v)) _ pt
            (ap (λ o. given_takes (counted p) types o (Const (constant.Fun (counts_at plan n).release))) (release_field p based n c)
            ∙ is_below (counts_at plan n).release (length (counted p).graphs) (inside (counted p).graphs (counts_at plan n).release s.graph s.there)))
            (nulls_fine v pt (held_of plan n) rest (held_right p leads n) k))

    pub cleared_fine : (v n : ℕ) (x : COperand) (rest : List LlOp) → is_counted plan n ≡ true → stands_in_root plan types n v (items_referred plan n) ≡ true → points (slice_get types v) ≡ true
        → ((m : ℕ) → items_referred plan n ≡ Some m → field_of (slice_get (counted p).structs n) (field_number plan n 0) ≡ Some type.Signed) → takes (counted p) types type.Signed x ≡ true → Fine rest → Fine (cleared plan v n x rest)
    cleared_fine v n x rest c r pt number h k = by (items_referred plan n) refl r
      where
        by : (o : Option ℕ) → items_referred plan n ≡ o → stands_in_root plan types n v o ≡ true → Fine (cleared_by plan v n x o rest)
        by None e r = k
        by (Some m) e r =
            more (op.SetField n v (field_number plan n 0) x) (call ((counts_at plan n).items + 1) (Var v ∷ x ∷ []) ∷ rest)
            (and_both (points (slice_get types v)) (given_takes (counted p) types (field_of (slice_get (counted p).structs n) (field_number plan n 0)) x) pt (ap (λ o. given_takes (counted p) types o x) (number m e) ∙ h))
            (more (call ((counts_at plan n).items + 1) (Var v ∷ x ∷ [])) rest
            (call_given p ok leads types ((counts_at plan n).items + 1) (clear_graph plan n) (clear_graph plan n).types (0 ∷ 1 ∷ []) (Var v ∷ x ∷ []) (clear_there p based n m c e) refl refl
            (and_both (has_type (type.Ptr (root_of plan n)) (slice_get types v)) _ r (and_both (takes (counted p) types type.Signed x) true h refl))) k)

    -- ---- writes

    pub set_field_fine : (n b k : ℕ) (x : COperand) → is_counted plan n ≡ true → stands_in_root plan types n b (field_referred plan n k) ≡ true → points (slice_get types b) ≡ true
        → given_takes p types (field_of (slice_get p.structs n) k) x ≡ true → operation_ok (counted p) types (set_field plan n b k x) ≡ true
    set_field_fine n b k x c r pt h = by (field_referred plan n k) refl r
      where
        taken : (o : Option LlType) (m : ℕ) → field_of (slice_get p.structs n) k ≡ o → field_referred plan n k ≡ Some m → given_takes p types o x ≡ true → takes (counted p) types (type.Ptr m) x ≡ true
        taken None m e f h = absurd (cc)
        taken (Some t) m e f h =
            let g : slice_get (fields_of plan n) (place_of plan n k) ≡ Some t = own_place n k t e in
            let i : Some t ≡ Some (type.Ptr m) = sym g ∙ given_is plan.counted (slice_get (fields_of plan n) (place_of plan n k)) m f in
            let j : t ≡ type.Ptr m = cc in
            subst (λ t. takes (counted p) types t x ≡ true) j (taken_kept p types t x h)

        by : (o : Option ℕ) → field_referred plan n k ≡ o → stands_in_root plan types n b o ≡ true → operation_ok (counted p) types (set_field_by plan n b k x o) ≡ true
        by None e r =
            and_both (points (slice_get types b)) (given_takes (counted p) types (field_of (slice_get (counted p).structs n) (shifted plan n k)) x) pt
            (ap (λ o. given_takes (counted p) types o x) (field_kept p n k) ∙ given_kept p types (field_of (slice_get p.structs n) k) x h)
        by (Some m) e r =
            let f : slice_get (fields_of plan n) (place_of plan n k) ≡ Some (type.Ptr m) = given_is plan.counted (slice_get (fields_of plan n) (place_of plan n k)) m e in
            let s : StandsWith (counted p) (put_of plan n k) (0 ∷ 1 ∷ []) _ _ = counted_puts p ok n c (place_of plan n k) (type.Ptr m) m f (sym (ap (reference_given plan.counted) f) ∙ e) in
            call_given p ok leads types (put_of plan n k) s.graph _ (0 ∷ 1 ∷ []) (Var b ∷ x ∷ []) s.there s.typed s.taken
            (and_both (has_type (type.Ptr (root_of plan n)) (slice_get types b)) _ r (and_both (takes (counted p) types (type.Ptr m) x) true (taken (field_of (slice_get p.structs n) k) m refl e h) refl))

    pub set_item_fine : (n b : ℕ) (i x : COperand) → is_counted plan n ≡ true → stands_in_root plan types n b (items_referred plan n) ≡ true → points (slice_get types b) ≡ true
        → takes p types type.Signed i ≡ true → given_takes p types (items_of (slice_get p.structs n)) x ≡ true → operation_ok (counted p) types (set_item plan n b i x) ≡ true
    set_item_fine n b i x c r pt hi h = by (items_referred plan n) refl r
      where
        signed : takes (counted p) types type.Signed i ≡ true
        signed = taken_kept p types type.Signed i hi

        by : (o : Option ℕ) → items_referred plan n ≡ o → stands_in_root plan types n b o ≡ true → operation_ok (counted p) types (set_item_by plan n b i x o) ≡ true
        by None e r =
            and_both (points (slice_get types b) && takes (counted p) types type.Signed i) (given_takes (counted p) types (items_of (slice_get (counted p).structs n)) x)
            (and_both (points (slice_get types b)) (takes (counted p) types type.Signed i) pt signed)
            (ap (λ o. given_takes (counted p) types o x) (items_same p n) ∙ given_kept p types (items_of (slice_get p.structs n)) x h)
        by (Some m) e r =
            let f : items_of (slice_get p.structs n) ≡ Some (type.Ptr m) = given_is plan.counted (items_of (slice_get p.structs n)) m e in
            let g : takes (counted p) types (type.Ptr m) x ≡ true = taken_kept p types (type.Ptr m) x (sym (ap (λ o. given_takes p types o x) f) ∙ h) in
            call_given p ok leads types (counts_at plan n).items (put_item_graph plan n m) (put_item_graph plan n m).types (0 ∷ 1 ∷ 2 ∷ []) (Var b ∷ i ∷ x ∷ []) (put_item_there p based n m c e) refl refl
            (and_both (has_type (type.Ptr (root_of plan n)) (slice_get types b)) _ r
            (and_both (takes (counted p) types type.Signed i) _ signed (and_both (takes (counted p) types (type.Ptr m) x) true g refl)))

    -- ---- exception slots

    clear_call : own_some plan.slots ≡ true → operation_ok (counted p) types (call plan.slots.clear []) ≡ true
    clear_call own = call_given p ok leads types plan.slots.clear (slots_graph plan) (slots_graph plan).types [] [] (slots_there p own) refl refl refl

    pub exc_clear_fine : operation_ok (counted p) types (exc_clear plan.slots) ≡ true
    exc_clear_fine = by (own_some plan.slots) refl
      where
        by : (b : Bool) → own_some plan.slots ≡ b → operation_ok (counted p) types (exc_clear_by plan.slots b) ≡ true
        by true e = clear_call e
        by false e = refl

    pub emptied_fine : (rest : List LlOp) → Fine rest → Fine (emptied plan.slots rest)
    emptied_fine rest k = by (own_some plan.slots) refl
      where
        by : (b : Bool) → own_some plan.slots ≡ b → Fine (emptied_by plan.slots b rest)
        by true e = more (call plan.slots.clear []) rest (clear_call e) k
        by false e = k
