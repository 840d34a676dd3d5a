-- Each operation that keeps the rules becomes operations that keep them.
use Rattle.std.proofs.Common.{◌≡◌, ◌<◌, ℕ, zero, suc, Bool, true, false, ◌&&◌, List, [], ◌∷◌, length, Option, Some, None, refl, sym, ap, ◌∙◌}
use Rattle.std.specs.Prelude.{slice_get, is_none, is_some, nat_lt}
use Rattle.csub_tree.specs.declared.tree.CBinary.{CBinary}
use Rattle.csub_tree.specs.declared.tree.CBinary.TheVariants as two
use Rattle.csub_tree.specs.declared.tree.COperand.{COperand}
use Rattle.csub_tree.specs.declared.tree.COperand.TheVariants.{Var}
use Rattle.ll_code.specs.declared.program.LlStage.TheVariants as stage
use Rattle.ll_code.specs.declared.program.LlType.{LlType}
use Rattle.ll_code.specs.declared.program.LlType.TheVariants as type
use Rattle.ll_code.specs.declared.program.LlStruct.{LlStruct}
use Rattle.ll_code.specs.declared.program.LlOp.{LlOp}
use Rattle.ll_code.specs.declared.program.LlOp.TheVariants as op
use Rattle.ll_code.specs.declared.program.LlGraph.{LlGraph}
use Rattle.ll_code.specs.declared.program.LlProgram.{LlProgram}
use Rattle.ll_code.specs.Typed as rules
use Rattle.ll_code.specs.Typed.{IsWellTyped, items_of, field_of, begins, is_kind, are_types, has_type, has_given, takes, given_takes, all_given, all_taken, points, pointed, same_pointers, both_taken, unary_takes, unary_gives, binary_gives, result_ok, call_ok, operation_ok, operations_ok}
use Rattle.ll_laws.proofs.Values.{and_left, and_right, is_less}
use Rattle.refcount_transform.specs.Plan.{Plan, plan_of, made_by, has_root, graphs_make, root, is_counted, shifted}
use Rattle.refcount_transform.specs.Changes.{Around, around_of, up, header, cleared, set_field, set_item, exc_clear, emptied, changed}
use Rattle.refcount_transform.specs.Counted.{counted}
use Rattle.refcount_laws.specs.Made.{all_lead, leads_to_roots}
use Rattle.refcount_typed.specs.Numbered.{HasNumbers}
use Rattle.refcount_typed.proofs.Numbering.{number_typed}
use Rattle.refcount_typed.specs.Leads.{op_leads, graph_leads, graphs_lead}
use Rattle.refcount_typed.proofs.Tests.{and_both, equals}
use Rattle.refcount_typed.proofs.Structs.{structs_many, items_same}
use Rattle.refcount_typed.proofs.Kept.{types_same, kind_same, begins_same, taken_kept, given_kept, all_given_kept, all_taken_kept, pointed_same}
use Rattle.refcount_typed.proofs.Fields.{field_kept}
use Rattle.refcount_typed.proofs.Roots.{inside, made_counted}
use Rattle.refcount_typed.proofs.Calls.{lead_at, AllReady, var_ready, given_ready, all_given_ready, all_taken_ready, up_fine, ups_fine, one_more}
use Rattle.refcount_typed.proofs.Operations.{based, graph_there, header_fine, cleared_fine, set_field_fine, set_item_fine, exc_clear_fine, emptied_fine}

points_of : (t : Option LlType) (n : ℕ) → has_type (type.Ptr n) t ≡ true → points t ≡ true
points_of None n h = absurd (cc)
points_of (Some type.Signed) n h = absurd (cc)
points_of (Some type.Char) n h = absurd (cc)
points_of (Some type.Bool) n h = absurd (cc)
points_of (Some type.Void) n h = absurd (cc)
points_of (Some type.Fn) n h = absurd (cc)
points_of (Some (type.Ptr m)) n h = refl

module _ (p : LlProgram) (ok : IsWellTyped p) (explicit : p.stage ≡ stage.Explicit) (leads : leads_to_roots p ≡ true) (graphs_do : graphs_lead (plan_of p) p.graphs ≡ true) (numbers : HasNumbers p) where
  abbrev plan : Plan
  plan = plan_of p

  pub graph_lead : (gs : List LlGraph) (f : ℕ) (g : LlGraph) → graphs_lead plan gs ≡ true → slice_get gs f ≡ Some g → graph_leads plan g ≡ true
  graph_lead [] f g h e = absurd (cc)
  graph_lead (x ∷ gs) zero g h e = let i : x ≡ g = cc in ap (graph_leads plan) (sym i) ∙ and_left _ _ h
  graph_lead (x ∷ gs) (suc f) g h e = graph_lead gs f g (and_right _ _ h) e

  -- blocks of what it makes or writes are counted
  abbrev pub Mine : LlOp → Type 0
  Mine o = (r : ℕ) → has_root p.structs r (made_by o) ≡ true → graphs_make p.structs r p.graphs ≡ true

  module _ (types : List LlType) (lead : all_lead plan types ≡ true) where
    abbrev around : Around
    around = around_of plan types

    abbrev Fine : List LlOp → Type 0
    Fine ops = operations_ok (counted p) types ops ≡ true

    abbrev Good : LlOp → Type 0
    Good o = operation_ok (counted p) types o ≡ true

    more : (o : LlOp) (rest : List LlOp) → Good o → Fine rest → Fine (o ∷ rest)
    more o rest h k = one_more p ok leads types o rest h k

    counted_one : (n : ℕ) → n < length p.structs → ((r : ℕ) → has_root p.structs r (Some n) ≡ true → graphs_make p.structs r p.graphs ≡ true) → is_counted plan n ≡ true
    counted_one n lt mine = made_counted p (based p ok explicit leads) n lt (mine (root p.structs n) (equals (root p.structs n) (root p.structs n) refl))

    in_field : (n k : ℕ) (x : COperand) → given_takes p types (field_of (slice_get p.structs n) k) x ≡ true → n < length p.structs
    in_field n k x h = by (slice_get p.structs n) refl h
      where
        by : (o : Option LlStruct) → slice_get p.structs n ≡ o → given_takes p types (field_of o k) x ≡ true → n < length p.structs
        by None e h = absurd (cc)
        by (Some s) e h = inside p.structs n s e

    in_items : (n : ℕ) (x : COperand) → given_takes p types (items_of (slice_get p.structs n)) x ≡ true → n < length p.structs
    in_items n x h = by (slice_get p.structs n) refl h
      where
        by : (o : Option LlStruct) → slice_get p.structs n ≡ o → given_takes p types (items_of o) x ≡ true → n < length p.structs
        by None e h = absurd (cc)
        by (Some s) e h = inside p.structs n s e

    in_begins : (n m : ℕ) → begins p.structs n m ≡ true → n < length p.structs
    in_begins n m h = is_less n (length p.structs) (and_left _ _ h)

    -- ---- operations that stay

    two_kept : (t : LlType) (x y : COperand) → (takes p types t x && takes p types t y) ≡ true → (takes (counted p) types t x && takes (counted p) types t y) ≡ true
    two_kept t x y h = and_both (takes (counted p) types t x) (takes (counted p) types t y) (taken_kept p types t x (and_left _ _ h)) (taken_kept p types t y (and_right (takes p types t x) _ h))

    both_kept : (o : CBinary) (x y : COperand) → both_taken p types o x y ≡ true → both_taken (counted p) types o x y ≡ true
    both_kept two.Beq x y h = two_kept type.Bool x y h
    both_kept two.Peq x y h = ap (λ a. same_pointers a (pointed (counted p) types y)) (pointed_same p types x) ∙ ap (same_pointers (pointed p types x)) (pointed_same p types y) ∙ h
    both_kept two.Feq x y h = two_kept type.Fn x y h
    both_kept other x y h = two_kept type.Signed x y h

    get_field_kept : (a n b k : ℕ) → operation_ok p types (op.GetField a n b k) ≡ true → Good (op.GetField a n b (shifted plan n k))
    get_field_kept a n b k h =
        and_both (points (slice_get types b)) (has_given types a (field_of (slice_get (counted p).structs n) (shifted plan n k))) (and_left _ _ h)
        (ap (has_given types a) (field_kept p n k) ∙ and_right (points (slice_get types b)) _ h)

    get_item_kept : (a n b : ℕ) (i : COperand) → operation_ok p types (op.GetItem a n b i) ≡ true → Good (op.GetItem a n b i)
    get_item_kept a n b i h =
        and_both (points (slice_get types b) && takes (counted p) types type.Signed i) (has_given types a (items_of (slice_get (counted p).structs n)))
        (and_both (points (slice_get types b)) (takes (counted p) types type.Signed i) (and_left _ _ (and_left _ _ h)) (taken_kept p types type.Signed i (and_right (points (slice_get types b)) _ (and_left _ _ h))))
        (ap (has_given types a) (items_same p n) ∙ and_right (points (slice_get types b) && takes p types type.Signed i) _ h)

    new_kept : (a m n : ℕ) → operation_ok p types (op.New a m n) ≡ true → Good (op.New a m n)
    new_kept a m n h =
        ap (λ b. (has_type (type.Ptr m) (slice_get types a) && b) && is_none (items_of (slice_get (counted p).structs n))) (begins_same p n m)
        ∙ ap (λ o. (has_type (type.Ptr m) (slice_get types a) && begins p.structs n m) && is_none o) (items_same p n) ∙ h

    new_array_kept : (a m n : ℕ) (x : COperand) → operation_ok p types (op.NewArray a m n x) ≡ true → Good (op.NewArray a m n x)
    new_array_kept a m n x h =
        ap (λ b. ((has_type (type.Ptr m) (slice_get types a) && b) && is_some (items_of (slice_get (counted p).structs n))) && takes (counted p) types type.Signed x) (begins_same p n m)
        ∙ ap (λ o. ((has_type (type.Ptr m) (slice_get types a) && begins p.structs n m) && is_some o) && takes (counted p) types type.Signed x) (items_same p n)
        ∙ and_both ((has_type (type.Ptr m) (slice_get types a) && begins p.structs n m) && is_some (items_of (slice_get p.structs n))) (takes (counted p) types type.Signed x) (and_left _ _ h)
        (taken_kept p types type.Signed x (and_right ((has_type (type.Ptr m) (slice_get types a) && begins p.structs n m) && is_some (items_of (slice_get p.structs n))) _ h))

    slot_kept : (a n : ℕ) → (nat_lt n (length p.structs) && has_type (type.Ptr n) (slice_get types a)) ≡ true → (nat_lt n (length (counted p).structs) && has_type (type.Ptr n) (slice_get types a)) ≡ true
    slot_kept a n h = ap (λ l. nat_lt n l && has_type (type.Ptr n) (slice_get types a)) (structs_many p) ∙ h

    -- ---- calls

    call_kept : (into : Option ℕ) (f : ℕ) (xs : List COperand) → call_ok p types into (slice_get p.graphs f) xs ≡ true → Good (op.Call into f xs) × AllReady p ok leads types lead xs
    call_kept into f xs h = by (slice_get p.graphs f) refl h
      where
        by : (o : Option LlGraph) → slice_get p.graphs f ≡ o → call_ok p types into o xs ≡ true → Good (op.Call into f xs) × AllReady p ok leads types lead xs
        by None e h = absurd (cc)
        by (Some g) e h = (
          ap (λ o. call_ok (counted p) types into o xs) (graph_there p ok explicit leads f g e)
              ∙ and_both (result_ok types into g.result) (all_given (counted p) types g.types g.params xs) (and_left _ _ h) (all_given_kept p types g.types g.params xs (and_right (result_ok types into g.result) _ h)),
          all_given_ready p ok leads types lead g.types (and_left _ _ (and_left _ _ (graph_lead p.graphs f g graphs_do e))) g.params xs (and_right (result_ok types into g.result) _ h),
        )

    call_fn_kept : (into : Option ℕ) (result : LlType) (params : List LlType) (b : ℕ) (xs : List COperand) → operation_ok p types (op.CallFn into result params b xs) ≡ true → Good (op.CallFn into result params b xs)
    call_fn_kept into result params b xs h =
        ap (λ k. (((has_type type.Fn (slice_get types b) && k) && are_types (counted p).structs params) && result_ok types into result) && all_taken (counted p) types params xs) (kind_same p result)
        ∙ ap (λ k. (((has_type type.Fn (slice_get types b) && is_kind p.structs result) && k) && result_ok types into result) && all_taken (counted p) types params xs) (types_same p params)
        ∙ and_both (((has_type type.Fn (slice_get types b) && is_kind p.structs result) && are_types p.structs params) && result_ok types into result) (all_taken (counted p) types params xs) (and_left _ _ h)
        (all_taken_kept p types params xs (and_right (((has_type type.Fn (slice_get types b) && is_kind p.structs result) && are_types p.structs params) && result_ok types into result) _ h))

    taken_result : (a : ℕ) (rest : List LlOp) → Fine rest → Fine (up around (Var a) rest)
    taken_result a rest k = up_fine p ok leads types lead (Var a) rest (var_ready p ok leads types lead a) k

    no_stage : (b : Bool) (q : Bool) → b ≡ false → (b && q) ≡ true → true ≡ false
    no_stage true q e h = e
    no_stage false q e h = sym h

    -- ---- one operation

    pub changed_fine : (o : LlOp) → operation_ok p types o ≡ true → op_leads plan types o ≡ true → Mine o → (rest : List LlOp) → Fine rest → Fine (changed around o rest)
    changed_fine (op.Set a x) h l mine rest k =
        up_fine p ok leads types lead x (op.Set a x ∷ rest) (given_ready p ok leads types lead (slice_get types a) x h (lead_at plan types a lead)) (more (op.Set a x) rest (given_kept p types (slice_get types a) x h) k)
    changed_fine (op.Unary a o x) h l mine rest k =
        more (op.Unary a o x) rest (and_both (has_type (unary_gives o) (slice_get types a)) (takes (counted p) types (unary_takes o) x) (and_left _ _ h) (taken_kept p types (unary_takes o) x (and_right (has_type (unary_gives o) (slice_get types a)) _ h))) k
    changed_fine (op.Binary a o x y) h l mine rest k =
        more (op.Binary a o x y) rest (and_both (has_type (binary_gives o) (slice_get types a)) (both_taken (counted p) types o x y) (and_left _ _ h) (both_kept o x y (and_right (has_type (binary_gives o) (slice_get types a)) _ h))) k
    changed_fine (op.GetField a n b j) h l mine rest k = more (op.GetField a n b (shifted plan n j)) (up around (Var a) rest) (get_field_kept a n b j h) (taken_result a rest k)
    changed_fine (op.SetField n b j x) h l mine rest k =
        let taken : given_takes p types (field_of (slice_get p.structs n) j) x ≡ true = and_right (points (slice_get types b)) _ h in
        more (set_field plan n b j x) rest (set_field_fine p ok explicit leads types lead n b j x (counted_one n (in_field n j x taken) mine) l (and_left _ _ h) taken) k
    changed_fine (op.GetItem a n b i) h l mine rest k = more (op.GetItem a n b i) (up around (Var a) rest) (get_item_kept a n b i h) (taken_result a rest k)
    changed_fine (op.SetItem n b i x) h l mine rest k =
        let taken : given_takes p types (items_of (slice_get p.structs n)) x ≡ true = and_right (points (slice_get types b) && takes p types type.Signed i) _ h in
        more (set_item plan n b i x) rest
        (set_item_fine p ok explicit leads types lead n b i x (counted_one n (in_items n x taken) mine) l (and_left _ _ (and_left _ _ h)) (and_right (points (slice_get types b)) _ (and_left _ _ h)) taken) k
    changed_fine (op.New a m n) h l mine rest k =
        more (op.New a m n) (header plan a n rest) (new_kept a m n h) (header_fine p ok explicit leads types lead a n rest (points_of (slice_get types a) m (and_left _ _ (and_left _ _ h))) k)
    changed_fine (op.NewArray a m n x) h l mine rest k =
        let size : takes p types type.Signed x ≡ true = and_right ((has_type (type.Ptr m) (slice_get types a) && begins p.structs n m) && is_some (items_of (slice_get p.structs n))) _ h in
        let lt : n < length p.structs = in_begins n m (and_right (has_type (type.Ptr m) (slice_get types a)) _ (and_left _ _ (and_left _ _ h))) in
        more (op.NewArray a m n x) (header plan a n (cleared plan a n x rest)) (new_array_kept a m n x h)
        (header_fine p ok explicit leads types lead a n (cleared plan a n x rest) (points_of (slice_get types a) m (and_left _ _ (and_left _ _ (and_left _ _ h))))
        (cleared_fine p ok explicit leads types lead a n x rest (counted_one n lt mine) l (points_of (slice_get types a) m (and_left _ _ (and_left _ _ (and_left _ _ h)))) (number_typed p numbers n) (taken_kept p types type.Signed x size) k))
    changed_fine (op.Free a) h l mine rest k = absurd (let f : true ≡ false = no_stage (rules.is_counted p.stage) (points (slice_get types a)) (ap rules.is_counted explicit) h in cc)
    changed_fine (op.Step x) h l mine rest k = more (op.Step x) rest (taken_kept p types type.Signed x h) k
    changed_fine (op.Call into f xs) h l mine rest k =
        let w : Good (op.Call into f xs) × AllReady p ok leads types lead xs = call_kept into f xs h in ups_fine p ok leads types lead xs (op.Call into f xs ∷ rest) w.1 (more (op.Call into f xs) rest w.0 k)
    changed_fine (op.CallFn into result params b xs) h l mine rest k =
        ups_fine p ok leads types lead xs (op.CallFn into result params b xs ∷ rest)
        (all_taken_ready p ok leads types lead params l xs (and_right (((has_type type.Fn (slice_get types b) && is_kind p.structs result) && are_types p.structs params) && result_ok types into result) _ h))
        (more (op.CallFn into result params b xs) rest (call_fn_kept into result params b xs h) k)
    changed_fine (op.ExcType a n) h l mine rest k = more (op.ExcType a n) (up around (Var a) rest) (slot_kept a n h) (taken_result a rest k)
    changed_fine (op.ExcValue a n) h l mine rest k = more (op.ExcValue a n) (up around (Var a) rest) (slot_kept a n h) (taken_result a rest k)
    changed_fine (op.ExcSet a b) h l mine rest k =
        taken_result a (up around (Var b) (emptied plan.slots (op.ExcSet a b ∷ rest)))
        (taken_result b (emptied plan.slots (op.ExcSet a b ∷ rest)) (emptied_fine p ok explicit leads types lead (op.ExcSet a b ∷ rest) (more (op.ExcSet a b) rest h k)))
    changed_fine op.ExcClear h l mine rest k = more (exc_clear plan.slots) rest (exc_clear_fine p ok explicit leads types lead) k
    changed_fine (op.Argc a) h l mine rest k = more (op.Argc a) rest h k
    changed_fine (op.ArgLen a x) h l mine rest k =
        more (op.ArgLen a x) rest (and_both (has_type type.Signed (slice_get types a)) (takes (counted p) types type.Signed x) (and_left _ _ h) (taken_kept p types type.Signed x (and_right (has_type type.Signed (slice_get types a)) _ h))) k
    changed_fine (op.Arg a x y) h l mine rest k =
        more (op.Arg a x y) rest
        (and_both (has_type type.Signed (slice_get types a) && takes (counted p) types type.Signed x) (takes (counted p) types type.Signed y)
        (and_both (has_type type.Signed (slice_get types a)) (takes (counted p) types type.Signed x) (and_left _ _ (and_left _ _ h)) (taken_kept p types type.Signed x (and_right (has_type type.Signed (slice_get types a)) _ (and_left _ _ h))))
        (taken_kept p types type.Signed y (and_right (has_type type.Signed (slice_get types a) && takes p types type.Signed x) _ h))) k
    changed_fine (op.Put x) h l mine rest k = more (op.Put x) rest (taken_kept p types type.Signed x h) k
    changed_fine (op.Raise a) h l mine rest k = absurd (let f : true ≡ false = no_stage (rules.is_raw p.stage) (points (slice_get types a)) (ap rules.is_raw explicit) h in cc)
