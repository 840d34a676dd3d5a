-- Variables that are written, and links that pass variables to themselves.
use Rattle.std.proofs.Common.{◌≡◌, ◌<◌, ℕ, Bool, true, false, ◌||◌, ◌==◌, List, [], ◌∷◌, length, Option, Some, None, refl, sym, ap, ◌∙◌, subst, ◌⊎◌, inl, inr}
use Rattle.std.specs.Prelude.{slice_get, slice_set}
use Rattle.std.proofs.lemmas.Option.{slice_get_within}
use Rattle.csub_tree.specs.State.{Value, Unset}
use Rattle.csub_tree.specs.Operation.{is_unset}
use Rattle.csub_tree.specs.Statement.{read, operands, any_unset, taken_by}
use Rattle.csub_tree.specs.declared.tree.COperand.{COperand}
use Rattle.ll_code.specs.Machine.{set_all}
use Rattle.ll_code.specs.Typed.{unary_gives, binary_gives, has_type, given_takes, has_given, result_ok, call_ok, operation_ok, field_of, items_of}
use Rattle.ll_code.specs.declared.program.LlType.{LlType}
use Rattle.ll_code.specs.declared.program.LlType.TheVariants as type
use Rattle.ll_code.specs.declared.program.LlGraph.{LlGraph}
use Rattle.ll_code.specs.declared.program.LlOp.{LlOp}
use Rattle.ll_code.specs.declared.program.LlOp.TheVariants as op
use Rattle.ll_code.specs.declared.program.LlProgram.{LlProgram}
use Rattle.ll_laws.proofs.Values.{and_left, and_right, is_same}
use Rattle.ll_laws.proofs.Operations.{length_set, set_at}
use Rattle.ll_live.specs.Live.{among, set_by}
use Rattle.exc_transform.specs.Live.{as_operands}
use Rattle.ll_live.specs.Live.{sets}
use Rattle.exc_laws.proofs.Tests.{or_first, or_second, equals}
use Rattle.exc_laws.proofs.Slots.{set_here, set_elsewhere}
use Rattle.exc_laws.proofs.Jumps.{not_same}

-- ---- the variable that an operation sets is there

typed_within : (types : List LlType) (t : LlType) (a : ℕ) → has_type t (slice_get types a) ≡ true → a < length types
typed_within types t a h = one (slice_get types a) refl h
  where
    one : (o : Option LlType) → slice_get types a ≡ o → has_type t o ≡ true → a < length types
    one None e h = absurd (cc)
    one (Some u) e h = slice_get_within types a u e

pub result_within : (types : List LlType) (into : Option ℕ) (t : LlType) (v : ℕ) → result_ok types into t ≡ true → sets into v ≡ true → v < length types
result_within types None t v h s = absurd (cc)
result_within types (Some a) t v h s = subst (λ v. v < length types) (is_same a v s) (typed_within types t a h)

module _ (p : LlProgram) (types : List LlType) where
  set_within : (a : ℕ) → a < length types → (v : ℕ) → sets (Some a) v ≡ true → v < length types
  set_within a lt v s = subst (λ v. v < length types) (is_same a v s) lt

  given_has : (a : ℕ) (o : Option LlType) → has_given types a o ≡ true → a < length types
  given_has a None h = absurd (cc)
  given_has a (Some t) h = typed_within types t a h

  taken_has : (a : ℕ) (x : COperand) → given_takes p types (slice_get types a) x ≡ true → a < length types
  taken_has a x h = one (slice_get types a) refl h
    where
      one : (o : Option LlType) → slice_get types a ≡ o → given_takes p types o x ≡ true → a < length types
      one None e h = absurd (cc)
      one (Some t) e h = slice_get_within types a t e

  called_has : (into : Option ℕ) (o : Option LlGraph) (xs : List COperand) → call_ok p types into o xs ≡ true → (v : ℕ) → sets into v ≡ true → v < length types
  called_has into None xs h v s = absurd (cc)
  called_has into (Some g) xs h v s = result_within types into g.result v (and_left _ _ h) s

  pub sets_within : (o : LlOp) → operation_ok p types o ≡ true → (v : ℕ) → sets (set_by o) v ≡ true → v < length types
  sets_within (op.Set a x) h = set_within a (taken_has a x h)
  sets_within (op.Unary a o x) h = set_within a (typed_within types (unary_gives o) a (and_left _ _ h))
  sets_within (op.Binary a o x y) h = set_within a (typed_within types (binary_gives o) a (and_left _ _ h))
  sets_within (op.GetField a s b k) h = set_within a (given_has a (field_of (slice_get p.structs s) k) (and_right _ _ h))
  sets_within (op.GetItem a s b i) h = set_within a (given_has a (items_of (slice_get p.structs s)) (and_right _ _ h))
  sets_within (op.New a m s) h = set_within a (typed_within types (type.Ptr m) a (and_left _ _ (and_left _ _ h)))
  sets_within (op.NewArray a m s x) h = set_within a (typed_within types (type.Ptr m) a (and_left _ _ (and_left _ _ (and_left _ _ h))))
  sets_within (op.Call into f xs) h = called_has into (slice_get p.graphs f) xs h
  sets_within (op.CallFn into given params b xs) h = λ v s. result_within types into given v (and_right _ _ (and_left _ _ h)) s
  sets_within (op.ExcType a s) h = set_within a (typed_within types (type.Ptr s) a (and_right _ _ h))
  sets_within (op.ExcValue a s) h = set_within a (typed_within types (type.Ptr s) a (and_right _ _ h))
  sets_within (op.Argc a) h = set_within a (typed_within types type.Signed a h)
  sets_within (op.ArgLen a x) h = set_within a (typed_within types type.Signed a (and_left _ _ h))
  sets_within (op.Arg a x y) h = set_within a (typed_within types type.Signed a (and_left _ _ (and_left _ _ h)))
  sets_within (op.SetField s b k x) h = λ v s. absurd (cc)
  sets_within (op.SetItem s b i x) h = λ v s. absurd (cc)
  sets_within (op.Free a) h = λ v s. absurd (cc)
  sets_within (op.Step x) h = λ v s. absurd (cc)
  sets_within (op.ExcSet a b) h = λ v s. absurd (cc)
  sets_within op.ExcClear h = λ v s. absurd (cc)
  sets_within (op.Put x) h = λ v s. absurd (cc)
  sets_within (op.Raise a) h = λ v s. absurd (cc)

-- ---- a variable that is written, or none

pub taken_size : (vars : List Value) (into : Option ℕ) (w : Value) → length (taken_by vars into w) ≡ length vars
taken_size vars None w = refl
taken_size vars (Some a) w = length_set vars a w

pub taken_apart : (vars : List Value) (into : Option ℕ) (w : Value) (v : ℕ) → sets into v ≡ false → read (taken_by vars into w) v ≡ read vars v
taken_apart vars None w v s = refl
taken_apart vars (Some a) w v s = set_elsewhere vars a v w Unset (not_same a v s)

taken_here : (vars : List Value) (into : Option ℕ) (w : Value) (v : ℕ) → sets into v ≡ true → v < length vars → read (taken_by vars into w) v ≡ w
taken_here vars None w v s lt = absurd (cc)
taken_here vars (Some a) w v s lt = ap (λ k. read (slice_set vars k w) v) (is_same a v s) ∙ set_here vars v w Unset lt

-- the same is written on both sides
pub taken_same : (vars x_vars : List Value) (into : Option ℕ) (w : Value) (v : ℕ) → (sets into v ≡ true → (v < length vars) × (v < length x_vars)) → (sets into v ≡ false → read x_vars v ≡ read vars v)
    → read (taken_by x_vars into w) v ≡ read (taken_by vars into w) v
taken_same vars x_vars into w v within same = one (sets into v) refl
  where
    one : (b : Bool) → sets into v ≡ b → read (taken_by x_vars into w) v ≡ read (taken_by vars into w) v
    one true s = let lt = within s in taken_here x_vars into w v s lt.1 ∙ sym (taken_here vars into w v s lt.0)
    one false s = taken_apart x_vars into w v s ∙ same s ∙ sym (taken_apart vars into w v s)

-- ---- variables that are passed to themselves

own_value : (vars old : List Value) (w v : ℕ) → ((v : ℕ) → read vars v ≡ read old v) → read (slice_set vars w (read old w)) v ≡ read old v
own_value vars old w v same = one (set_at vars w v (read old w) Unset)
  where
    one : (read (slice_set vars w (read old w)) v ≡ read vars v) ⊎ ((w ≡ v) × (read (slice_set vars w (read old w)) v ≡ read old w)) → read (slice_set vars w (read old w)) v ≡ read old v
    one (inl e) = e ∙ same v
    one (inr e) = e.1 ∙ ap (read old) e.0

pub own_values : (vars old : List Value) (vs : List ℕ) → ((v : ℕ) → read vars v ≡ read old v) → (v : ℕ) → read (set_all vars vs (operands old (as_operands vs))) v ≡ read old v
own_values vars old [] same v = same v
own_values vars old (w ∷ vs) same v = own_values (slice_set vars w (read old w)) old vs (λ v. own_value vars old w v same) v

pub none_unset : (vars : List Value) (vs : List ℕ) → ((v : ℕ) → among v vs ≡ true → is_unset (read vars v) ≡ false) → any_unset (operands vars (as_operands vs)) ≡ false
none_unset vars [] h = refl
none_unset vars (w ∷ vs) h =
    ap (λ b. b || any_unset (operands vars (as_operands vs))) (h w (or_first (w == w) (among w vs) (equals w w refl))) ∙ none_unset vars vs (λ v e. h v (or_second (w == v) (among v vs) e))
