-- Calls of graphs that are made keep the rules.
use Rattle.std.proofs.Common.{◌≡◌, ℕ, zero, suc, Bool, true, false, ◌||◌, List, [], ◌∷◌, Option, Some, None, refl, ap, ◌∙◌, subst}
use Rattle.std.specs.Prelude.{slice_get}
use Rattle.csub_tree.specs.declared.tree.CConst.TheVariants as constant
use Rattle.csub_tree.specs.declared.tree.COperand.{COperand}
use Rattle.csub_tree.specs.declared.tree.COperand.TheVariants.{Var, Const}
use Rattle.ll_code.specs.declared.program.LlType.{LlType}
use Rattle.ll_code.specs.declared.program.LlType.TheVariants as type
use Rattle.ll_code.specs.declared.program.LlOp.{LlOp}
use Rattle.ll_code.specs.declared.program.LlExit.{LlExit}
use Rattle.ll_code.specs.declared.program.LlBlock.{LlBlock}
use Rattle.ll_code.specs.declared.program.LlGraph.{LlGraph}
use Rattle.ll_code.specs.declared.program.LlProgram.{LlProgram}
use Rattle.ll_code.specs.Typed.{IsWellTyped, has_type, takes, given_takes, all_given, all_taken, call_ok, operation_ok, operations_ok}
use Rattle.ll_laws.proofs.Values.{and_left, and_right, is_same}
use Rattle.ll_live.specs.Live.{among, variables_in, live}
use Rattle.refcount_transform.specs.Plan.{Plan, plan_of, reference_given, referred, counts_at}
use Rattle.refcount_transform.specs.Made.{call}
use Rattle.refcount_transform.specs.Changes.{Around, around_of, var_referred, operand_referred, up_by, up, down_by, down, ups, down_unless, dead, is_given_later, up_if, given}
use Rattle.refcount_transform.specs.Blocks.{left}
use Rattle.refcount_transform.specs.Counted.{counted}
use Rattle.refcount_laws.specs.Graphs.{IsRoot, Stands, Counting}
use Rattle.refcount_laws.specs.Made.{counts_of, is_root_given, all_lead, leads_to_roots}
use Rattle.refcount_laws.proofs.Places.{given_marked, counted_counting}
use Rattle.refcount_typed.proofs.Tests.{and_both, equals}
use Rattle.refcount_typed.proofs.Kept.{taken_kept}
use Rattle.refcount_typed.proofs.Fields.{given_is, given_root}

pub lead_at : (plan : Plan) (ts : List LlType) (v : ℕ) → all_lead plan ts ≡ true → is_root_given plan (reference_given plan.counted (slice_get ts v)) ≡ true
lead_at plan [] v h = refl
lead_at plan (t ∷ ts) zero h = and_left _ _ h
lead_at plan (t ∷ ts) (suc v) h = lead_at plan ts v (and_right _ _ h)

module _ (p : LlProgram) (ok : IsWellTyped p) (leads : leads_to_roots p ≡ true) where
  abbrev plan : Plan
  plan = plan_of p

  pub counting : Counting (counted p) (counts_of plan)
  counting = counted_counting p ok leads

  module _ (types : List LlType) where
    -- a call without a result, of a graph that takes these operands
    pub call_given : (f : ℕ) (g : LlGraph) (others : List LlType) (params : List ℕ) (xs : List COperand) → slice_get (counted p).graphs f ≡ Some g → g.types ≡ others → g.params ≡ params
        → all_given (counted p) types others params xs ≡ true → operation_ok (counted p) types (call f xs) ≡ true
    call_given f g others params xs there typed taken h =
        ap (λ o. call_ok (counted p) types None o xs) there ∙ ap (λ ts. all_given (counted p) types ts g.params xs) typed ∙ ap (λ vs. all_given (counted p) types others vs xs) taken ∙ h

    call_one : (f : ℕ) (t : LlType) (ts : List LlType) (blocks : List LlBlock) (x : COperand) → Stands (counted p) f (t ∷ ts) blocks → takes (counted p) types t x ≡ true
        → operation_ok (counted p) types (call f (x ∷ [])) ≡ true
    call_one f t ts blocks x s h = call_given f s.graph (t ∷ ts) (0 ∷ []) (x ∷ []) s.there s.typed s.params (and_both (takes (counted p) types t x) true h refl)

    pub up_call : (n : ℕ) (x : COperand) → IsRoot (counts_of plan) n → takes (counted p) types (type.Ptr n) x ≡ true → operation_ok (counted p) types (call (counts_at plan n).up (x ∷ [])) ≡ true
    up_call n x root h = call_one (counts_at plan n).up (type.Ptr n) (type.Bool ∷ type.Signed ∷ []) _ x (counting.up n root) h

    pub down_call : (n : ℕ) (x : COperand) → IsRoot (counts_of plan) n → takes (counted p) types (type.Ptr n) x ≡ true → operation_ok (counted p) types (call (counts_at plan n).down (x ∷ [])) ≡ true
    down_call n x root h = call_one (counts_at plan n).down (type.Ptr n) (type.Bool ∷ type.Signed ∷ type.Bool ∷ type.Fn ∷ []) _ x (counting.down n root) h

    pub one_more : (o : LlOp) (rest : List LlOp) → operation_ok (counted p) types o ≡ true → operations_ok (counted p) types rest ≡ true → operations_ok (counted p) types (o ∷ rest) ≡ true
    one_more o rest h k = and_both (operation_ok (counted p) types o) (operations_ok (counted p) types rest) h k

    -- ---- variables and operands that are references

    module _ (lead : all_lead plan types ≡ true) where
      abbrev around : Around
      around = around_of plan types

      -- an operand that may be counted
      pub record Ready (x : COperand) : Type 0 where
        pub by : (n : ℕ) → operand_referred around x ≡ Some n → IsRoot (counts_of plan) n × (takes (counted p) types (type.Ptr n) x ≡ true)

      var_root : (v n : ℕ) → var_referred around v ≡ Some n → IsRoot (counts_of plan) n
      var_root v n e = (given_marked plan.counted (slice_get types v) n e, given_root plan (var_referred around v) n e (lead_at plan types v lead))

      var_typed : (v n : ℕ) → var_referred around v ≡ Some n → has_type (type.Ptr n) (slice_get types v) ≡ true
      var_typed v n e = ap (has_type (type.Ptr n)) (given_is plan.counted (slice_get types v) n e) ∙ equals n n refl

      pub var_ready : (v : ℕ) → Ready (Var v)
      var_ready v = record { by = λ n e. (var_root v n e, var_typed v n e) }

      -- a static is of the type that takes it
      static_ready : (t : LlType) (s g : ℕ) → takes p types t (Const (constant.Static s g)) ≡ true → is_root_given plan (referred plan t) ≡ true → Ready (Const (constant.Static s g))
      static_ready type.Signed s g h r = absurd (cc)
      static_ready type.Char s g h r = absurd (cc)
      static_ready type.Bool s g h r = absurd (cc)
      static_ready type.Void s g h r = absurd (cc)
      static_ready type.Fn s g h r = absurd (cc)
      static_ready (type.Ptr n) s g h r =
          let f : n ≡ s = is_same n s (and_left _ _ (and_left _ _ h)) in
          let h2 : takes p types (type.Ptr s) (Const (constant.Static s g)) ≡ true = subst (λ n. takes p types (type.Ptr n) (Const (constant.Static s g)) ≡ true) f h in
          let r2 : is_root_given plan (referred plan (type.Ptr s)) ≡ true = subst (λ n. is_root_given plan (referred plan (type.Ptr n)) ≡ true) f r in
          record {
            by = λ m e. (
                let k : Some (type.Ptr s) ≡ Some (type.Ptr m) = given_is plan.counted (Some (type.Ptr s)) m e in
                let l : s ≡ m = cc in
                ((given_marked plan.counted (Some (type.Ptr s)) m e, given_root plan (referred plan (type.Ptr s)) m e r2), subst (λ m. takes (counted p) types (type.Ptr m) (Const (constant.Static s g)) ≡ true) l (taken_kept p types (type.Ptr s) (Const (constant.Static s g)) h2)));
          }

      pub taken_ready : (t : LlType) (x : COperand) → takes p types t x ≡ true → is_root_given plan (referred plan t) ≡ true → Ready x
      taken_ready t (Var v) h r = var_ready v
      taken_ready t (Const (constant.Static s g)) h r = static_ready t s g h r
      taken_ready t (Const (constant.Word z)) h r = record { by = λ n e. absurd (cc) }
      taken_ready t (Const (constant.Char b)) h r = record { by = λ n e. absurd (cc) }
      taken_ready t (Const (constant.Bool b)) h r = record { by = λ n e. absurd (cc) }
      taken_ready t (Const constant.Null) h r = record { by = λ n e. absurd (cc) }
      taken_ready t (Const (constant.Fun f)) h r = record { by = λ n e. absurd (cc) }

      pub given_ready : (o : Option LlType) (x : COperand) → given_takes p types o x ≡ true → is_root_given plan (reference_given plan.counted o) ≡ true → Ready x
      given_ready None x h r = absurd (cc)
      given_ready (Some t) x h r = taken_ready t x h r

      abbrev pub AllReady : List COperand → Type 0
      AllReady [] = Unit {0}
      AllReady (x ∷ xs) = Ready x × AllReady xs

      pub all_given_ready : (others : List LlType) → all_lead plan others ≡ true → (vs : List ℕ) (xs : List COperand) → all_given p types others vs xs ≡ true → AllReady xs
      all_given_ready others l [] [] h = tt
      all_given_ready others l [] (x ∷ xs) h = absurd (cc)
      all_given_ready others l (v ∷ vs) [] h = absurd (cc)
      all_given_ready others l (v ∷ vs) (x ∷ xs) h =
          (given_ready (slice_get others v) x (and_left _ _ h) (lead_at plan others v l), all_given_ready others l vs xs (and_right (given_takes p types (slice_get others v) x) _ h))

      pub all_taken_ready : (ts : List LlType) → all_lead plan ts ≡ true → (xs : List COperand) → all_taken p types ts xs ≡ true → AllReady xs
      all_taken_ready [] l [] h = tt
      all_taken_ready [] l (x ∷ xs) h = absurd (cc)
      all_taken_ready (t ∷ ts) l [] h = absurd (cc)
      all_taken_ready (t ∷ ts) l (x ∷ xs) h = (taken_ready t x (and_left _ _ h) (and_left _ _ l), all_taken_ready ts (and_right _ _ l) xs (and_right (takes p types t x) _ h))

      -- ---- what is counted and dropped

      abbrev Fine : List LlOp → Type 0
      Fine ops = operations_ok (counted p) types ops ≡ true

      pub up_fine : (x : COperand) (rest : List LlOp) → Ready x → Fine rest → Fine (up around x rest)
      up_fine x rest ready k = by (operand_referred around x) refl
        where
          by : (o : Option ℕ) → operand_referred around x ≡ o → Fine (up_by around x o rest)
          by None e = k
          by (Some n) e = let r : IsRoot (counts_of plan) n × (takes (counted p) types (type.Ptr n) x ≡ true) = ready.by n e in one_more (call (counts_at plan n).up (x ∷ [])) rest (up_call n x r.0 r.1) k

      pub down_fine : (v : ℕ) (rest : List LlOp) → Fine rest → Fine (down around v rest)
      down_fine v rest k = by (var_referred around v) refl
        where
          by : (o : Option ℕ) → var_referred around v ≡ o → Fine (down_by around v o rest)
          by None e = k
          by (Some n) e = one_more (call (counts_at plan n).down (Var v ∷ [])) rest (down_call n (Var v) (var_root v n e) (var_typed v n e)) k

      pub ups_fine : (xs : List COperand) (rest : List LlOp) → AllReady xs → Fine rest → Fine (ups around xs rest)
      ups_fine [] rest ready k = k
      ups_fine (x ∷ xs) rest ready k = up_fine x (ups around xs rest) ready.0 (ups_fine xs rest ready.1 k)

      unless_fine : (b : Bool) (v : ℕ) (rest : List LlOp) → Fine rest → Fine (down_unless b around v rest)
      unless_fine true v rest k = k
      unless_fine false v rest k = down_fine v rest k

      pub dead_fine : (variables : List ℕ) (ops : List LlOp) (e : LlExit) (rest : List LlOp) → Fine rest → Fine (dead around variables ops e rest)
      dead_fine [] ops e rest k = k
      dead_fine (v ∷ variables) ops e rest k = unless_fine (among v variables || live ops e v) v (dead around variables ops e rest) (dead_fine variables ops e rest k)

      pub left_fine : (xs : List COperand) (variables : List ℕ) (rest : List LlOp) → Fine rest → Fine (left around xs variables rest)
      left_fine xs [] rest k = k
      left_fine xs (v ∷ variables) rest k = unless_fine (among v variables || among v (variables_in xs)) v (left around xs variables rest) (left_fine xs variables rest k)

      if_fine : (b : Bool) (x : COperand) (rest : List LlOp) → Ready x → Fine rest → Fine (up_if b around x rest)
      if_fine true x rest ready k = up_fine x rest ready k
      if_fine false x rest ready k = k

      pub given_fine : (xs : List COperand) (rest : List LlOp) → AllReady xs → Fine rest → Fine (given around xs rest)
      given_fine [] rest ready k = k
      given_fine (x ∷ xs) rest ready k = if_fine (is_given_later x xs) x (given around xs rest) ready.0 (given_fine xs rest ready.1 k)
