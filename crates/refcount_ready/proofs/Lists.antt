-- Values that are set stay so on links, and the first variables of a graph are those that are given.
use Rattle.std.proofs.Common.{◌≡◌, ◌⊎◌, inl, inr, ⊎_elim, ◌<◌, ◌≤◌, ℕ, zero, suc, ◌+◌, Bool, true, false, ◌||◌, ◌==◌, List, [], ◌∷◌, ◌++◌, length, Option, Some, None, refl, sym, ap, ◌∙◌, subst, arith}
use Rattle.std.specs.Prelude.{slice_get, slice_set}
use Rattle.csub_tree.specs.State.{Value, Unset}
use Rattle.csub_tree.specs.Operation.{is_unset}
use Rattle.csub_tree.specs.Statement.{read, operands, any_unset, same_result}
use Rattle.csub_tree.specs.declared.tree.COperand.{COperand}
use Rattle.ll_code.specs.Machine.{c_result, set_all}
use Rattle.ll_code.specs.Typed.{is_kind, all_given, params_ok, is_type_given}
use Rattle.ll_code.specs.declared.program.LlType.{LlType}
use Rattle.ll_code.specs.declared.program.LlType.TheVariants as type
use Rattle.ll_code.specs.declared.program.LlStruct.{LlStruct}
use Rattle.ll_code.specs.declared.program.LlProgram.{LlProgram}
use Rattle.ll_held.proofs.Keeping.{or_one}
use Rattle.ll_laws.proofs.Operations.{set_at}
use Rattle.ll_laws.proofs.Values.{and_left, and_right, is_same}
use Rattle.ll_live.specs.Live.{among}
use Rattle.refcount_laws.proofs.Cells.{set_here, set_length}
use Rattle.refcount_checks.specs.Countable.{all_among}

-- ---- values that are set

or_none : (a b : Bool) → (a || b) ≡ false → (a ≡ false) × (b ≡ false)
or_none true b e = absurd (cc)
or_none false b e = (refl, e)

pub each_set : (values : List Value) (i : ℕ) → any_unset values ≡ false → i < length values → is_unset (read values i) ≡ false
each_set [] i h lt = absurd (omega (arith, lt))
each_set (x ∷ values) zero h lt = (or_none (is_unset x) (any_unset values) h).0
each_set (x ∷ values) (suc i) h lt = each_set values i (or_none (is_unset x) (any_unset values) h).1 (omega (arith, lt))

pub read_first : (values others : List Value) (i : ℕ) → i < length values → read (values ++ others) i ≡ read values i
read_first [] others i lt = absurd (omega (arith, lt))
read_first (x ∷ values) others zero lt = refl
read_first (x ∷ values) others (suc i) lt = read_first values others i (omega (arith, lt))

still_set : (vs : List ℕ) (vars values : List Value) (v : ℕ) → any_unset values ≡ false → is_unset (read vars v) ≡ false → is_unset (read (set_all vars vs values) v) ≡ false
still_set [] vars values v none set = set
still_set (w ∷ vs) vars [] v none set = set
still_set (w ∷ vs) vars (x ∷ values) v none set =
    let n : (is_unset x ≡ false) × (any_unset values ≡ false) = or_none (is_unset x) (any_unset values) none in
    still_set vs (slice_set vars w x) values v n.1 (⊎_elim (λ q. ap is_unset q ∙ set) (λ q. ap is_unset q.1 ∙ n.0) (set_at vars w v x Unset))

-- inputs that are given values are set
pub inputs_set : (vs : List ℕ) (vars values : List Value) (v : ℕ) → length vs ≡ length values → any_unset values ≡ false → v < length vars → among v vs ≡ true → is_unset (read (set_all vars vs values) v) ≡ false
inputs_set [] vars values v same none lt h = absurd (cc)
inputs_set (w ∷ vs) vars [] v same none lt h = absurd (omega (arith, same))
inputs_set (w ∷ vs) vars (x ∷ values) v same none lt h =
    let n : (is_unset x ≡ false) × (any_unset values ≡ false) = or_none (is_unset x) (any_unset values) none in
    first n (inputs_set vs (slice_set vars w x) values v (omega (arith, same)) n.1 (omega (arith, lt, set_length vars w x))) (or_one (w == v) (among v vs) h)
  where
    first : (is_unset x ≡ false) × (any_unset values ≡ false) → (among v vs ≡ true → is_unset (read (set_all (slice_set vars w x) vs values) v) ≡ false) → ((w == v) ≡ true) ⊎ (among v vs ≡ true) → is_unset (read (set_all (slice_set vars w x) vs values) v) ≡ false
    first n go (inl e) = still_set vs (slice_set vars w x) values v n.1 (ap is_unset (ap (read (slice_set vars w x)) (sym (is_same w v e)) ∙ set_here vars w x Unset (let f : w ≡ v = is_same w v e in omega (arith, lt, f))) ∙ n.0)
    first n go (inr k) = go k

pub set_all_length : (vs : List ℕ) (vars values : List Value) → length (set_all vars vs values) ≡ length vars
set_all_length [] vars values = refl
set_all_length (w ∷ vs) vars [] = refl
set_all_length (w ∷ vs) vars (x ∷ values) = set_all_length vs (slice_set vars w x) values ∙ set_length vars w x

-- ---- operands that are given

pub length_operands : (vars : List Value) (xs : List COperand) → length (operands vars xs) ≡ length xs
length_operands vars [] = refl
length_operands vars (x ∷ xs) = ap suc (length_operands vars xs)

pub given_count : (p : LlProgram) (types others : List LlType) (vs : List ℕ) (xs : List COperand) → all_given p types others vs xs ≡ true → length xs ≡ length vs
given_count p types others [] [] h = refl
given_count p types others [] (x ∷ xs) h = absurd (cc)
given_count p types others (v ∷ vs) [] h = absurd (cc)
given_count p types others (v ∷ vs) (x ∷ xs) h = ap suc (given_count p types others vs xs (and_right _ _ h))

pub all_are : (vs ws : List ℕ) (v : ℕ) → all_among vs ws ≡ true → among v vs ≡ true → among v ws ≡ true
all_are [] ws v h a = absurd (cc)
all_are (w ∷ vs) ws v h a = by (λ k. all_are vs ws v (and_right _ _ h) k) (or_one (w == v) (among v vs) a)
  where
    by : (among v vs ≡ true → among v ws ≡ true) → ((w == v) ≡ true) ⊎ (among v vs ≡ true) → among v ws ≡ true
    by go (inl e) = subst (λ k. among k ws ≡ true) (is_same w v e) (and_left _ _ h)
    by go (inr k) = go k

-- ---- parameters

params_from : (p : LlProgram) (types : List LlType) (n : ℕ) (vs : List ℕ) (v : ℕ) → params_ok p types n vs ≡ true → among v vs ≡ true → (n ≤ v) × (v < n + length vs)
params_from p types n [] v ok h = absurd (cc)
params_from p types n (w ∷ vs) v ok h = by (λ k. params_from p types (n + 1) vs v (and_right _ _ ok) k) (or_one (w == v) (among v vs) h)
  where
    by : (among v vs ≡ true → (n + 1 ≤ v) × (v < n + 1 + length vs)) → ((w == v) ≡ true) ⊎ (among v vs ≡ true) → (n ≤ v) × (v < n + suc (length vs))
    by go (inl e) = let f : w ≡ v = is_same w v e in let g : w ≡ n = is_same w n (and_left _ _ (and_left _ _ ok)) in (omega (arith, f, g), omega (arith, f, g))
    by go (inr k) = let r : (n + 1 ≤ v) × (v < n + 1 + length vs) = go k in let a : n + 1 ≤ v = r.0 in let b : v < n + 1 + length vs = r.1 in (omega (arith, a), omega (arith, b))

pub params_below : (p : LlProgram) (types : List LlType) (vs : List ℕ) (v : ℕ) → params_ok p types 0 vs ≡ true → among v vs ≡ true → v < length vs
params_below p types vs v ok h = let r : v < 0 + length vs = (params_from p types 0 vs v ok h).1 in omega (arith, r)

above_params : (p : LlProgram) (types : List LlType) (n : ℕ) (vs : List ℕ) (i : ℕ) → params_ok p types n vs ≡ true → i < length vs → among (n + i) vs ≡ true
above_params p types n [] i ok lt = absurd (omega (arith, lt))
above_params p types n (w ∷ vs) zero ok lt = let g : w ≡ n + 0 = omega (arith, is_same w n (and_left _ _ (and_left _ _ ok))) in
    subst (λ k. ((w == k) || among k vs) ≡ true) g (ap (λ b. b || among w vs) (Rattle.ll_held.proofs.Keeping.same_number w))
above_params p types n (w ∷ vs) (suc i) ok lt = let e : n + 1 + i ≡ n + suc i = omega arith in
    subst (λ k. ((w == k) || among k vs) ≡ true) e (Rattle.ll_held.proofs.Keeping.or_right (w == (n + 1 + i)) (among (n + 1 + i) vs) (above_params p types (n + 1) vs i (and_right _ _ ok) (omega (arith, lt))))

pub each_param : (p : LlProgram) (types : List LlType) (vs : List ℕ) (i : ℕ) → params_ok p types 0 vs ≡ true → i < length vs → among i vs ≡ true
each_param p types vs i ok lt = let e : 0 + i ≡ i = omega arith in subst (λ k. among k vs ≡ true) e (above_params p types 0 vs i ok lt)

params_short_ : (p : LlProgram) (types : List LlType) (n : ℕ) (vs : List ℕ) → params_ok p types n vs ≡ true → n ≤ length types → n + length vs ≤ length types
params_short_ p types n [] ok le = omega (arith, le)
params_short_ p types n (v ∷ vs) ok le = there (params_short_ p types (n + 1) vs (and_right _ _ ok)) (slice_get types v) refl (and_right _ _ (and_left _ _ ok))
  where
    inside : (types : List LlType) (v : ℕ) (t : LlType) → slice_get types v ≡ Some t → v < length types
    inside [] v t e = absurd (cc)
    inside (x ∷ types) zero t e = omega arith
    inside (x ∷ types) (suc v) t e = omega (arith, inside types v t e)

    there : (n + 1 ≤ length types → n + 1 + length vs ≤ length types) → (o : Option LlType) → slice_get types v ≡ o → is_type_given p.structs o ≡ true → n + suc (length vs) ≤ length types
    there go None e h = absurd (cc)
    there go (Some t) e h = let lt : v < length types = inside types v t e in let same : v ≡ n = is_same v n (and_left _ _ (and_left _ _ ok)) in let k : n + 1 + length vs ≤ length types = go (omega (arith, lt, same)) in omega (arith, k)

pub params_short : (p : LlProgram) (types : List LlType) (vs : List ℕ) → params_ok p types 0 vs ≡ true → length vs ≤ length types
params_short p types vs ok = let r : 0 + length vs ≤ length types = params_short_ p types 0 vs ok (omega arith) in omega (arith, r)

-- ---- results

pub same_given : (structs : List LlStruct) (t u : LlType) → is_kind structs t ≡ true → is_kind structs u ≡ true → same_result (c_result t) (c_result u) ≡ true → t ≡ u
same_given structs type.Signed type.Signed h k e = refl
same_given structs type.Char type.Char h k e = refl
same_given structs type.Bool type.Bool h k e = refl
same_given structs type.Void type.Void h k e = refl
same_given structs type.Fn type.Fn h k e = refl
same_given structs (type.Ptr m) (type.Ptr n) h k e = ap type.Ptr (is_same m n e)
same_given structs t u h k e = absurd (cc)
