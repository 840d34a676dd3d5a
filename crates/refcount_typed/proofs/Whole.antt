-- The counted program of a well-typed one is well typed.
use Rattle.std.proofs.Common.{◌≡◌, ◌<◌, ℕ, zero, suc, ◌+◌, Bool, true, false, ◌&&◌, ◌||◌, ◌==◌, List, [], ◌∷◌, ◌++◌, length, map, Option, Some, None, refl, sym, ap, ◌∙◌, subst, arith}
use Rattle.std.specs.Prelude.{slice_get, nat_lt, is_none}
use Rattle.csub_tree.specs.Checked.{is_name}
use Rattle.ll_code.specs.declared.program.LlStage.TheVariants as stage
use Rattle.ll_code.specs.declared.program.LlType.{LlType}
use Rattle.ll_code.specs.declared.program.LlType.TheVariants as type
use Rattle.ll_code.specs.declared.program.LlStruct.{LlStruct}
use Rattle.ll_code.specs.declared.program.LlBlock.{LlBlock}
use Rattle.ll_code.specs.declared.program.LlGraph.{LlGraph}
use Rattle.ll_code.specs.declared.program.LlProgram.{LlProgram}
use Rattle.ll_code.specs.Typed.{IsWellTyped, are_types, is_type_if_any, is_base, items_of, field_of, struct_ok, structs_ok, are_kinds, is_kind, is_type_given, params_ok, has_type, blocks_ok, graph_ok, graphs_ok, statics_ok, begins_run}
use Rattle.ll_laws.proofs.Values.{and_left, and_right, is_same, is_less}
use Rattle.refcount_transform.specs.declared.plan.Held.{Held}
use Rattle.refcount_transform.specs.Plan.{Plan, plan_of, blocks_make, graphs_make, set_by_blocks, referred_by, or_slots, slots_of, own_some, is_counted, root_of, reference_given, referred, items_referred, fields_given, fields_of, field_number, held_if, held_from, own_held, held_of}
use Rattle.refcount_transform.specs.Made.{put_graph, release_by, release_graph, slots_graph, slots_made, items_made, references_made, made_for, made_if, made_from, all_made}
use Rattle.refcount_transform.specs.Blocks.{blocks_of, graph_of}
use Rattle.refcount_transform.specs.Changes.{around_of}
use Rattle.refcount_transform.specs.Counted.{struct_by, struct_at, structs_from, counted}
use Rattle.refcount_laws.specs.Graphs.{IsRoot}
use Rattle.refcount_laws.specs.Made.{counts_of, is_root_given, all_lead, structs_lead, leads_to_roots}
use Rattle.refcount_laws.proofs.Numbers.{Based}
use Rattle.refcount_laws.proofs.Places.{given_marked}
use Rattle.refcount_typed.specs.Leads.{graph_leads, graphs_lead, LeadsToRoots}
use Rattle.refcount_typed.specs.Numbered.{number_first, structs_numbered, HasNumbers}
use Rattle.refcount_typed.proofs.Tests.{and_both, is_below}
use Rattle.refcount_typed.proofs.Structs.{structs_many, items_same}
use Rattle.refcount_typed.proofs.Kept.{type_same, types_same, kind_same, kinds_same}
use Rattle.refcount_typed.proofs.Fields.{given_is, given_root, placed, AllRight, own_all_right, held_right}
use Rattle.refcount_typed.proofs.Calls.{lead_at}
use Rattle.refcount_typed.proofs.Roots.{counted_inside, root_counted, count_field, release_field}
use Rattle.refcount_typed.proofs.Operations.{based, graph_there}
use Rattle.refcount_typed.proofs.Numbering.{number_typed}
use Rattle.refcount_typed.proofs.Blocks.{blocks_fine}
use Rattle.refcount_typed.proofs.Made.{Inside, up_good, down_good, clear_good, put_good, put_item_good, slots_good}
use Rattle.refcount_typed.proofs.Released.{AllInside, plain_good, items_good}
use Rattle.refcount_typed.proofs.Statics.{statics_kept}

or_first : (a b : Bool) → a ≡ true → (a || b) ≡ true
or_first true b e = refl
or_first false b e = absurd (cc)

or_second : (a b : Bool) → b ≡ true → (a || b) ≡ true
or_second true b e = refl
or_second false b e = e

module _ (p : LlProgram) (ok : IsWellTyped p) (explicit : p.stage ≡ stage.Explicit) (lead : LeadsToRoots p) (numbers : HasNumbers p) where
  abbrev plan : Plan
  plan = plan_of p

  leads : leads_to_roots p ≡ true
  leads = and_left _ _ lead

  graphs_do : graphs_lead plan p.graphs ≡ true
  graphs_do = and_right (leads_to_roots p) _ lead

  stands : Based p.structs
  stands = based p ok explicit leads

  structs_are : structs_ok p.structs 0 p.structs ≡ true
  structs_are = and_left _ _ (and_left _ _ (and_left _ _ ok))

  statics_are : statics_ok p 0 p.statics ≡ true
  statics_are = and_right (structs_ok p.structs 0 p.structs) _ (and_left _ _ (and_left _ _ ok))

  graphs_are : graphs_ok p p.graphs ≡ true
  graphs_are = and_right (structs_ok p.structs 0 p.structs && statics_ok p 0 p.statics) _ (and_left _ _ ok)

  -- ---- structs

  any_same : (o : Option LlType) → is_type_if_any (counted p).structs o ≡ is_type_if_any p.structs o
  any_same None = refl
  any_same (Some t) = type_same p t

  base_kept : (n : ℕ) (o : Option ℕ) → is_base (counted p).structs n o ≡ is_base p.structs n o
  base_kept n None = refl
  base_kept n (Some m) = ap (λ o. nat_lt m n && is_none o) (items_same p m)

  struct_kept : (b : Bool) (n : ℕ) (s : LlStruct) → struct_ok p.structs n s ≡ true → struct_ok (counted p).structs n (struct_by b s) ≡ true
  struct_kept true n s h =
      ap (λ b. (b && are_types (counted p).structs s.fields) && is_type_if_any (counted p).structs s.items) (base_kept n s.base)
      ∙ ap (λ b. (is_base p.structs n s.base && b) && is_type_if_any (counted p).structs s.items) (types_same p s.fields) ∙ ap (λ b. (is_base p.structs n s.base && are_types p.structs s.fields) && b) (any_same s.items) ∙ h
  struct_kept false n s h =
      ap (λ b. (b && are_types (counted p).structs s.fields) && is_type_if_any (counted p).structs s.items) (base_kept n s.base)
      ∙ ap (λ b. (is_base p.structs n s.base && b) && is_type_if_any (counted p).structs s.items) (types_same p s.fields) ∙ ap (λ b. (is_base p.structs n s.base && are_types p.structs s.fields) && b) (any_same s.items) ∙ h

  structs_kept : (k n : ℕ) (ss : List LlStruct) → structs_ok p.structs n ss ≡ true → structs_ok (counted p).structs n (structs_from plan k ss) ≡ true
  structs_kept k n [] h = refl
  structs_kept k n (s ∷ ss) h =
      and_both (struct_ok (counted p).structs n (struct_at plan k s)) (structs_ok (counted p).structs (n + 1) (structs_from plan (suc k) ss)) (struct_kept _ n s (and_left _ _ h)) (structs_kept (suc k) (n + 1) ss (and_right (struct_ok p.structs n s) _ h))

  -- ---- the graphs of the program

  given_same : (o : Option LlType) → is_type_given (counted p).structs o ≡ is_type_given p.structs o
  given_same None = refl
  given_same (Some t) = type_same p t

  params_same : (types : List LlType) (n : ℕ) (vs : List ℕ) → params_ok (counted p) types n vs ≡ params_ok p types n vs
  params_same types n [] = refl
  params_same types n (v ∷ vs) =
      ap (λ b. ((v == n) && b) && params_ok (counted p) types (n + 1) vs) (given_same (slice_get types v)) ∙ ap (λ b. ((v == n) && is_type_given p.structs (slice_get types v)) && b) (params_same types (n + 1) vs)

  some_block : (g : LlGraph) → nat_lt 0 (length g.blocks) ≡ true → nat_lt 0 (length (graph_of plan g).blocks) ≡ true
  some_block g h = is_below 0 (length (graph_of plan g).blocks) (by g.blocks (is_less 0 (length g.blocks) h))
    where
      by : (bs : List LlBlock) → 0 < length bs → 0 < length (blocks_of (around_of plan g.types) bs)
      by [] h = absurd (omega (arith, h))
      by (b ∷ bs) h = omega arith

  graph_kept : (g : LlGraph) → graph_ok p g ≡ true → graph_leads plan g ≡ true → ((r : ℕ) → blocks_make p.structs r g.blocks ≡ true → graphs_make p.structs r p.graphs ≡ true) → graph_ok (counted p) (graph_of plan g) ≡ true
  graph_kept g h l within =
      let five : ((((is_name g.name && are_kinds p.structs g.types) && is_kind p.structs g.result) && params_ok p g.types 0 g.params) && nat_lt 0 (length g.blocks)) ≡ true = and_left _ _ h in
      let four : (((is_name g.name && are_kinds p.structs g.types) && is_kind p.structs g.result) && params_ok p g.types 0 g.params) ≡ true = and_left _ _ five in
      and_both ((((is_name g.name && are_kinds (counted p).structs g.types) && is_kind (counted p).structs g.result) && params_ok (counted p) g.types 0 g.params) && nat_lt 0 (length (graph_of plan g).blocks)) (blocks_ok (counted p) (graph_of plan g) (graph_of plan g).blocks)
      (and_both (((is_name g.name && are_kinds (counted p).structs g.types) && is_kind (counted p).structs g.result) && params_ok (counted p) g.types 0 g.params) (nat_lt 0 (length (graph_of plan g).blocks))
      (ap (λ b. ((is_name g.name && b) && is_kind (counted p).structs g.result) && params_ok (counted p) g.types 0 g.params) (kinds_same p g.types)
      ∙ ap (λ b. ((is_name g.name && are_kinds p.structs g.types) && b) && params_ok (counted p) g.types 0 g.params) (kind_same p g.result)
      ∙ ap (λ b. ((is_name g.name && are_kinds p.structs g.types) && is_kind p.structs g.result) && b) (params_same g.types 0 g.params) ∙ four)
      (some_block g (and_right (((is_name g.name && are_kinds p.structs g.types) && is_kind p.structs g.result) && params_ok p g.types 0 g.params) _ five)))
      (blocks_fine p ok explicit leads graphs_do numbers g (and_left _ _ (and_left _ _ l)) (and_right (all_lead plan g.types) _ (and_left _ _ l))
      (and_right ((((is_name g.name && are_kinds p.structs g.types) && is_kind p.structs g.result) && params_ok p g.types 0 g.params) && nat_lt 0 (length g.blocks)) _ h)
      (and_right (all_lead plan g.types && is_root_given plan (referred plan g.result)) _ l) within)

  own_kept : (gs : List LlGraph) → graphs_ok p gs ≡ true → graphs_lead plan gs ≡ true → ((r : ℕ) → graphs_make p.structs r gs ≡ true → graphs_make p.structs r p.graphs ≡ true) → graphs_ok (counted p) (map (graph_of plan) gs) ≡ true
  own_kept [] h l within = refl
  own_kept (g ∷ gs) h l within =
      and_both (graph_ok (counted p) (graph_of plan g)) (graphs_ok (counted p) (map (graph_of plan) gs))
      (graph_kept g (and_left _ _ h) (and_left _ _ l) (λ r m. within r (or_first (blocks_make p.structs r g.blocks) (graphs_make p.structs r gs) m)))
      (own_kept gs (and_right (graph_ok p g) _ h) (and_right (graph_leads plan g) _ l) (λ r m. within r (or_second (blocks_make p.structs r g.blocks) (graphs_make p.structs r gs) m)))

  -- ---- the graphs that are made

  both_kept : (xs ys : List LlGraph) → graphs_ok (counted p) xs ≡ true → graphs_ok (counted p) ys ≡ true → graphs_ok (counted p) (xs ++ ys) ≡ true
  both_kept [] ys h k = k
  both_kept (x ∷ xs) ys h k = and_both (graph_ok (counted p) x) (graphs_ok (counted p) (xs ++ ys)) (and_left _ _ h) (both_kept xs ys (and_right (graph_ok (counted p) x) _ h) k)

  inside_of : (n : ℕ) → is_counted plan n ≡ true → Inside (counted p) n
  inside_of n c = is_below n (length (counted p).structs) (let l : length (counted p).structs ≡ length p.structs = structs_many p in omega (arith, l, counted_inside p stands n c))

  root_inside : (n : ℕ) → is_counted plan n ≡ true → Inside (counted p) (root_of plan n)
  root_inside n c = inside_of (root_of plan n) (root_counted p stands n c)

  all_inside : (held : List Held) → AllRight p held → AllInside p ok leads held
  all_inside [] right = tt
  all_inside (h ∷ held) right = (inside_of h.to right.0.root.0, all_inside held right.1)

  -- the fields of one struct are its own
  abbrev AllOwn : ℕ → List Held → Type 0
  AllOwn n [] = Unit {0}
  AllOwn n (h ∷ held) = (h.owner ≡ n) × AllOwn n held

  all_own : (n place : ℕ) (ts : List LlType) → AllOwn n (held_from plan n place ts)
  all_own n place [] = tt
  all_own n place (t ∷ ts) = by (referred plan t) (all_own n (suc place) ts)
    where
      by : (o : Option ℕ) → AllOwn n (held_from plan n (suc place) ts) → AllOwn n (held_if n (field_number plan n place) o (held_from plan n (suc place) ts))
      by None rest = rest
      by (Some m) rest = (refl, rest)

  module _ (n : ℕ) (c : is_counted plan n ≡ true) where
    puts_kept : (held : List Held) → AllRight p held → AllOwn n held → graphs_ok (counted p) (map (put_graph plan) held) ≡ true
    puts_kept [] right own = refl
    puts_kept (h ∷ held) right own =
        and_both (graph_ok (counted p) (put_graph plan h)) (graphs_ok (counted p) (map (put_graph plan) held))
        (put_good p ok leads h right.0 (subst (λ k. Inside (counted p) (root_of plan k)) (sym own.0) (root_inside n c)) (inside_of h.to right.0.root.0)) (puts_kept held right.1 own.1)

    items_root : (m : ℕ) → items_referred plan n ≡ Some m → IsRoot (counts_of plan) m
    items_root m e = (given_marked plan.counted (items_of (slice_get p.structs n)) m e, given_root plan (items_referred plan n) m e (lead_items p.structs n leads))
      where
        lead_items : (ss : List LlStruct) (j : ℕ) → structs_lead plan ss ≡ true → is_root_given plan (reference_given plan.counted (items_of (slice_get ss j))) ≡ true
        lead_items [] j h = refl
        lead_items (s ∷ ss) zero h = and_right (all_lead plan s.fields) _ (and_left _ _ h)
        lead_items (s ∷ ss) (suc j) h = lead_items ss j (and_right _ _ h)

    items_typed : (m : ℕ) → items_referred plan n ≡ Some m → items_of (slice_get (counted p).structs n) ≡ Some (type.Ptr m)
    items_typed m e = items_same p n ∙ given_is plan.counted (items_of (slice_get p.structs n)) m e

    release_kept : graph_ok (counted p) (release_graph plan n) ≡ true
    release_kept = by (items_referred plan n) refl
      where
        right : AllRight p (held_of plan n)
        right = held_right p leads n

        by : (o : Option ℕ) → items_referred plan n ≡ o → graph_ok (counted p) (release_by plan n (held_of plan n) o) ≡ true
        by None e = plain_good p ok leads n (held_of plan n) right (all_inside (held_of plan n) right) (root_inside n c)
        by (Some m) e =
            items_good p ok leads n m (held_of plan n) right (items_root m e) (items_typed m e) (number_typed p numbers n m e) (all_inside (held_of plan n) right) (root_inside n c) (inside_of m (items_root m e).0)

    items_kept : graphs_ok (counted p) (items_made plan n (items_referred plan n)) ≡ true
    items_kept = by (items_referred plan n) refl
      where
        by : (o : Option ℕ) → items_referred plan n ≡ o → graphs_ok (counted p) (items_made plan n o) ≡ true
        by None e = refl
        by (Some m) e =
            and_both _ _ (put_item_good p ok leads n m (items_root m e) (items_typed m e) (root_inside n c) (inside_of m (items_root m e).0)) (and_both _ true (clear_good p n m (root_inside n c) (items_typed m e)) refl)

    references_kept : graphs_ok (counted p) (references_made n (root_of plan n == n)) ≡ true
    references_kept = by (root_of plan n == n) refl
      where
        by : (b : Bool) → (root_of plan n == n) ≡ b → graphs_ok (counted p) (references_made n b) ≡ true
        by false e = refl
        by true e =
            let r : root_of plan n ≡ n = is_same (root_of plan n) n e in
            let count : field_of (slice_get (counted p).structs n) 0 ≡ Some type.Signed = subst (λ k. field_of (slice_get (counted p).structs k) 0 ≡ Some type.Signed) r (count_field p stands n c) in
            let release : field_of (slice_get (counted p).structs n) 1 ≡ Some type.Fn = subst (λ k. field_of (slice_get (counted p).structs k) 1 ≡ Some type.Fn) r (release_field p stands n c) in
            and_both _ _ (up_good p n (inside_of n c) count) (and_both _ true (down_good p n (inside_of n c) count release) refl)

    made_kept : graphs_ok (counted p) (made_for plan n) ≡ true
    made_kept =
        and_both (graph_ok (counted p) (release_graph plan n)) _ release_kept
        (both_kept (map (put_graph plan) (own_held plan n) ++ items_made plan n (items_referred plan n)) (references_made n (root_of plan n == n))
        (both_kept (map (put_graph plan) (own_held plan n)) (items_made plan n (items_referred plan n)) (puts_kept (own_held plan n) (own_all_right p leads n) (all_own n 0 (fields_of plan n))) items_kept) references_kept)

  from_kept : (n : ℕ) (ss : List LlStruct) → graphs_ok (counted p) (made_from plan n ss) ≡ true
  from_kept n [] = refl
  from_kept n (s ∷ ss) = both_kept (made_if plan n (is_counted plan n)) (made_from plan (suc n) ss) (by (is_counted plan n) refl) (from_kept (suc n) ss)
    where
      by : (b : Bool) → is_counted plan n ≡ b → graphs_ok (counted p) (made_if plan n b) ≡ true
      by true c = made_kept n c
      by false c = refl

  -- what the slots refer to is the type of some variable
  record Slot (o : Option ℕ) : Type 0 where
    by : (n : ℕ) → o ≡ Some n → IsRoot (counts_of plan) n × Inside (counted p) n

  var_slot : (g : LlGraph) (v : ℕ) → graph_leads plan g ≡ true → Slot (referred_by plan.counted g.types v)
  var_slot g v l = record {
    by = λ n e. (
        let r : IsRoot (counts_of plan) n = (given_marked plan.counted (slice_get g.types v) n e, given_root plan (reference_given plan.counted (slice_get g.types v)) n e (lead_at plan g.types v (and_left _ _ (and_left _ _ l)))) in
        (r, inside_of n r.0));
  }

  both_slots : (gs : List LlGraph) (k : ℕ) → graphs_lead plan gs ≡ true → Slot (slots_of plan.counted gs k).kind × Slot (slots_of plan.counted gs k).value
  both_slots [] k l = (record { by = λ n e. absurd (cc) }, record { by = λ n e. absurd (cc) })
  both_slots (g ∷ gs) k l = by (set_by_blocks g.blocks) (both_slots gs k (and_right (graph_leads plan g) _ l))
    where
      by : (o : Option (ℕ × ℕ)) → Slot (slots_of plan.counted gs k).kind × Slot (slots_of plan.counted gs k).value
          → Slot (or_slots plan.counted g.types k o (slots_of plan.counted gs k)).kind × Slot (or_slots plan.counted g.types k o (slots_of plan.counted gs k)).value
      by None rest = rest
      by (Some x) rest = (var_slot g x.0 (and_left _ _ l), var_slot g x.1 (and_left _ _ l))

  slots_kept : (b : Bool) → graphs_ok (counted p) (slots_made plan b) ≡ true
  slots_kept false = refl
  slots_kept true =
      let w : Slot plan.slots.kind × Slot plan.slots.value = both_slots p.graphs (length p.graphs) graphs_do in
      and_both (graph_ok (counted p) (slots_graph plan)) true (slots_good p ok leads plan.slots.kind plan.slots.value w.0.by w.1.by refl refl) refl

  -- ---- the program

  begins_kept : (o : Option LlGraph) → slice_get p.graphs p.entry ≡ o → begins_run o ≡ true → begins_run (slice_get (counted p).graphs p.entry) ≡ true
  begins_kept None e h = absurd (cc)
  begins_kept (Some g) e h = ap begins_run (graph_there p ok explicit leads p.entry g e) ∙ h

  pub counted_typed : IsWellTyped (counted p)
  counted_typed =
      and_both _ (begins_run (slice_get (counted p).graphs p.entry))
      (and_both _ (graphs_ok (counted p) (counted p).graphs)
      (and_both (structs_ok (counted p).structs 0 (counted p).structs) (statics_ok (counted p) 0 (counted p).statics) (structs_kept 0 0 p.structs structs_are) (statics_kept p 0 p.statics statics_are))
      (both_kept (map (graph_of plan) p.graphs) (all_made plan) (own_kept p.graphs graphs_are graphs_do (λ r m. m))
      (both_kept (slots_made plan (own_some plan.slots)) (made_from plan 0 plan.structs) (slots_kept (own_some plan.slots)) (from_kept 0 p.structs))))
      (begins_kept (slice_get p.graphs p.entry) refl (and_right _ _ ok))
