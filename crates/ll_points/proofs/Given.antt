-- What a core that leads gives to blocks, to graphs and back leads.
use Rattle.std.proofs.Common.{◌≡◌, ℕ, zero, suc, ◌+◌, true, List, [], ◌∷◌, ◌++◌, map, replicate, Option, Some, None, refl, sym, ap, ◌∙◌, subst, arith}
use Rattle.std.specs.Prelude.{slice_get, slice_set}
use Rattle.csub_tree.specs.State.{Value, Unset, Core}
use Rattle.csub_tree.specs.Statement.{read, operand, operands, taken_by, same_result, same_types, same_type}
use Rattle.csub_tree.specs.declared.tree.COperand.{COperand}
use Rattle.ll_code.specs.declared.program.LlType.{LlType}
use Rattle.ll_code.specs.declared.program.LlType.TheVariants as type
use Rattle.ll_code.specs.declared.program.LlStruct.{LlStruct}
use Rattle.ll_code.specs.declared.program.LlGraph.{LlGraph}
use Rattle.ll_code.specs.declared.program.LlProgram.{LlProgram}
use Rattle.ll_code.specs.Machine.{c_type, c_result, set_all, type_or_word}
use Rattle.ll_code.specs.Typed.{given_takes, all_given, all_taken, takes, result_ok, structs_ok, params_ok, is_type, are_types, is_kind, is_type_given}
use Rattle.ll_laws.proofs.Values.{and_left, and_right, is_same, has_type_is}
use Rattle.ll_laws.proofs.Heap.{unset_at}
use Rattle.ll_points.specs.Agrees.{Slots}
use Rattle.ll_points.specs.Points.{LeadsBy, AllLead}
use Rattle.ll_points.proofs.Leading.{vars_set, unset_leads, operand_leads}
use Rattle.ll_points.proofs.Cores.{CoreLeads}

-- ---- values behind which nothing is set

pub read_filled : (values : List Value) (n k : ℕ) → read (values ++ replicate n Unset) k ≡ read values k
read_filled [] n k = unset_at n k
read_filled (v ∷ values) n zero = refl
read_filled (v ∷ values) n (suc k) = read_filled values n k

-- ---- types of a file

same_c : (structs : List LlStruct) (t u : LlType) → is_type structs t ≡ true → is_type structs u ≡ true → same_type (c_type t) (c_type u) ≡ true → t ≡ u
same_c structs type.Signed type.Signed h k e = refl
same_c structs type.Char type.Char h k e = refl
same_c structs type.Bool type.Bool h k e = refl
same_c structs type.Fn type.Fn h k e = refl
same_c structs (type.Ptr m) (type.Ptr n) h k e = ap type.Ptr (is_same m n e)
same_c structs t u h k e = absurd (cc)

pub same_given : (structs : List LlStruct) (t u : LlType) → is_kind structs t ≡ true → is_kind structs u ≡ true → same_result (c_result t) (c_result u) ≡ true → t ≡ u
same_given structs type.Signed type.Signed h k e = refl
same_given structs type.Char type.Char h k e = refl
same_given structs type.Bool type.Bool h k e = refl
same_given structs type.Void type.Void h k e = refl
same_given structs type.Fn type.Fn h k e = refl
same_given structs (type.Ptr m) (type.Ptr n) h k e = ap type.Ptr (is_same m n e)
same_given structs t u h k e = absurd (cc)

module _ (p : LlProgram) (slots : Slots) (structs : structs_ok p.structs 0 p.structs ≡ true) where
  module _ (types : List LlType) (core : Core) (fit : CoreLeads p slots types core) where
    pub takes_leads : (t : LlType) (x : COperand) → takes p types t x ≡ true → LeadsBy p core.blocks core.statics t (operand core.vars x)
    takes_leads t x h = operand_leads p core.blocks core.statics structs fit.memory.stand types core.vars fit.vars t x h

    set_given : (vars : List Value) (v : ℕ) (o : Option LlType) (x : COperand) → AllLead p core.blocks core.statics types vars → slice_get types v ≡ o → given_takes p types o x ≡ true
        → AllLead p core.blocks core.statics types (slice_set vars v (operand core.vars x))
    set_given vars v None x h e k = absurd (cc)
    set_given vars v (Some t) x h e k = vars_set p core.blocks core.statics types vars v t (operand core.vars x) h e (takes_leads t x k)

    pub inputs_lead : (vars : List Value) (vs : List ℕ) (xs : List COperand) → AllLead p core.blocks core.statics types vars → all_given p types types vs xs ≡ true
        → AllLead p core.blocks core.statics types (set_all vars vs (operands core.vars xs))
    inputs_lead vars [] xs h k = h
    inputs_lead vars (v ∷ vs) [] h k = h
    inputs_lead vars (v ∷ vs) (x ∷ xs) h k = inputs_lead (slice_set vars v (operand core.vars x)) vs xs (set_given vars v (slice_get types v) x h refl (and_left _ _ k)) (and_right _ _ k)

  -- values that are given to the parameters lead as the first variables do
  pub parameters_lead : (others : List LlType) (n : ℕ) (g : LlGraph) (core : Core) → CoreLeads p slots g.types core → (vs : List ℕ) (xs : List COperand) → params_ok p others n vs ≡ true
      → all_given p g.types others vs xs ≡ true → (k : ℕ) (t : LlType) → slice_get others (n + k) ≡ Some t → LeadsBy p core.blocks core.statics t (read (operands core.vars xs) k)
  parameters_lead others n g core fit [] [] ok h k t e = unset_leads p core.blocks core.statics t
  parameters_lead others n g core fit [] (x ∷ xs) ok h k t e = absurd (cc)
  parameters_lead others n g core fit (v ∷ vs) [] ok h k t e = absurd (cc)
  parameters_lead others n g core fit (v ∷ vs) (x ∷ xs) ok h zero t e =
      let same : v ≡ n + 0 = omega (arith, is_same v n (and_left _ _ (and_left _ _ ok))) in first (slice_get others v) (ap (slice_get others) same ∙ e) (and_left _ _ h)
    where
      first : (o : Option LlType) → o ≡ Some t → given_takes p g.types o x ≡ true → LeadsBy p core.blocks core.statics t (operand core.vars x)
      first None f h = absurd (cc)
      first (Some u) f h =
          let i : u ≡ t = cc in subst (λ t. LeadsBy p core.blocks core.statics t (operand core.vars x)) i (operand_leads p core.blocks core.statics structs fit.memory.stand g.types core.vars fit.vars u x h)
  parameters_lead others n g core fit (v ∷ vs) (x ∷ xs) ok h (suc k) t e =
      let same : n + 1 + k ≡ n + suc k = omega arith in parameters_lead others (n + 1) g core fit vs xs (and_right _ _ ok) (and_right _ _ h) k t (ap (slice_get others) same ∙ e)

  -- the same where the types of the parameters are those that are asked for
  pub asked_lead : (others : List LlType) (n : ℕ) (g : LlGraph) (core : Core) → CoreLeads p slots g.types core → (vs : List ℕ) (ts : List LlType) (xs : List COperand) → params_ok p others n vs ≡ true
      → are_types p.structs ts ≡ true → same_types (map (λ v. type_or_word (slice_get others v)) vs) (map c_type ts) ≡ true → all_taken p g.types ts xs ≡ true
      → (k : ℕ) (t : LlType) → slice_get others (n + k) ≡ Some t → LeadsBy p core.blocks core.statics t (read (operands core.vars xs) k)
  asked_lead others n g core fit [] [] [] ok kinds same h k t e = unset_leads p core.blocks core.statics t
  asked_lead others n g core fit [] [] (x ∷ xs) ok kinds same h k t e = absurd (cc)
  asked_lead others n g core fit [] (u ∷ ts) xs ok kinds same h k t e = absurd (cc)
  asked_lead others n g core fit (v ∷ vs) [] xs ok kinds same h k t e = absurd (cc)
  asked_lead others n g core fit (v ∷ vs) (u ∷ ts) [] ok kinds same h k t e = absurd (cc)
  asked_lead others n g core fit (v ∷ vs) (u ∷ ts) (x ∷ xs) ok kinds same h zero t e =
      let here : v ≡ n + 0 = omega (arith, is_same v n (and_left _ _ (and_left _ _ ok))) in
      first (slice_get others v) (ap (slice_get others) here ∙ e) (and_right _ _ (and_left _ _ ok)) (and_left _ _ same)
    where
      first : (o : Option LlType) → o ≡ Some t → is_type_given p.structs o ≡ true → same_type (type_or_word o) (c_type u) ≡ true → LeadsBy p core.blocks core.statics t (operand core.vars x)
      first None f i j = absurd (cc)
      first (Some w) f i j =
          let a : w ≡ u = same_c p.structs w u i (and_left _ _ kinds) j in let b : w ≡ t = cc in let d : u ≡ t = sym a ∙ b in
          subst (λ t. LeadsBy p core.blocks core.statics t (operand core.vars x)) d (operand_leads p core.blocks core.statics structs fit.memory.stand g.types core.vars fit.vars u x (and_left _ _ h))
  asked_lead others n g core fit (v ∷ vs) (u ∷ ts) (x ∷ xs) ok kinds same h (suc k) t e =
      let on : n + 1 + k ≡ n + suc k = omega arith in
      asked_lead others (n + 1) g core fit vs ts xs (and_right _ _ ok) (and_right _ _ kinds) (and_right _ _ same) (and_right _ _ h) k t (ap (slice_get others) on ∙ e)

  pub taken_leads : (core : Core) (types : List LlType) (vars : List Value) (into : Option ℕ) (t : LlType) (value : Value) → AllLead p core.blocks core.statics types vars → result_ok types into t ≡ true
      → LeadsBy p core.blocks core.statics t value → AllLead p core.blocks core.statics types (taken_by vars into value)
  taken_leads core types vars None t value fit h k = fit
  taken_leads core types vars (Some a) t value fit h k = vars_set p core.blocks core.statics types vars a t value fit (has_type_is t (slice_get types a) h) k
