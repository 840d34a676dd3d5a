-- What the variables of a block are called that is joined to those before it.
use Rattle.std.proofs.Common.{◌≡◌, ◌<◌, ◌≤◌, ℕ, zero, suc, ◌+◌, Bool, true, false, ◌||◌, ◌&&◌, not, ◌==◌, cond, List, [], ◌∷◌, ◌++◌, length, Option, Some, None, refl, sym, ap, ◌∙◌, subst, arith, ◌⊎◌, inl, inr}
use Rattle.std.specs.Prelude.{slice_get}
use Rattle.csub_tree.specs.declared.tree.COperand.{COperand}
use Rattle.csub_tree.specs.declared.tree.COperand.TheVariants.{Var, Const}
use Rattle.ll_code.specs.Typed.{given_takes, all_given, has_type}
use Rattle.ll_code.specs.declared.program.LlType.{LlType}
use Rattle.ll_code.specs.declared.program.LlOp.{LlOp}
use Rattle.ll_code.specs.declared.program.LlExit.{LlExit}
use Rattle.ll_code.specs.declared.program.LlProgram.{LlProgram}
use Rattle.ll_laws.proofs.Values.{and_left, and_right, is_same, has_type_is}
use Rattle.ll_live.specs.Live.{among, variables_of, variables_in, reads, set_by, sets, live}
use Rattle.ll_joined.specs.Named.{Naming, ByPairs, by_pairs, name_of}
use Rattle.ll_joined.specs.Joined.{pairs_of}
use Rattle.turned_laws.specs.Ordered.{are_apart}
use Rattle.turned_laws.proofs.Lists.{known, differ, none_true, opposite, same, either_of, both, or_left, or_right, not_is, is_not, neither_left, neither_right, unequal}
use Rattle.turned_laws.proofs.Relation.{among_left, among_right, among_first}
use Rattle.straight_laws.proofs.Counting.{if_any, op_sets}

-- ---- what is read at the end of a block

-- it is read from the beginning, or an operation sets it
pub set_or_live : (ops : List LlOp) (e : LlExit) (v : ℕ) → live [] e v ≡ true → (among v (op_sets ops) ≡ true) ⊎ (live ops e v ≡ true)
set_or_live [] e v l = inr l
set_or_live (o ∷ ops) e v l = one (set_or_live ops e v l)
  where
    here : (s : Option ℕ) → sets s v ≡ true → among v (if_any s) ≡ true
    here None h = none_true (sym h)
    here (Some a) h = or_left (a == v) false h

    two : live ops e v ≡ true → (sets (set_by o) v ≡ true) ⊎ (sets (set_by o) v ≡ false) → (among v (op_sets (o ∷ ops)) ≡ true) ⊎ (live (o ∷ ops) e v ≡ true)
    two h (inl s) = inl (among_left v (if_any (set_by o)) (op_sets ops) (here (set_by o) s))
    two h (inr s) = inr (or_right (among v (reads o)) _ (both (not (sets (set_by o) v)) (live ops e v) (is_not (sets (set_by o) v) s) h))

    one : (among v (op_sets ops) ≡ true) ⊎ (live ops e v ≡ true) → (among v (op_sets (o ∷ ops)) ≡ true) ⊎ (live (o ∷ ops) e v ≡ true)
    one (inl h) = inl (among_right v (if_any (set_by o)) (op_sets ops) h)
    one (inr h) = two h (known (sets (set_by o) v))

-- ---- pairs

module _ (names : Naming) where
  -- what is no input keeps its name
  pub no_input : (vs : List ℕ) (xs : List COperand) (v : ℕ) → among v vs ≡ false → by_pairs (pairs_of names vs xs) v ≡ v
  no_input [] [] v h = refl
  no_input [] (x ∷ xs) v h = refl
  no_input (w ∷ vs) [] v h = refl
  no_input (w ∷ vs) (Var u ∷ xs) v h = ap (λ b. cond b (name_of names u) (by_pairs (pairs_of names vs xs) v)) (neither_left (w == v) (among v vs) h) ∙ no_input vs xs v (neither_right (w == v) (among v vs) h)
  no_input (w ∷ vs) (Const c ∷ xs) v h = no_input vs xs v (neither_right (w == v) (among v vs) h)

  -- each input is called as what is passed on, or, where that is a constant, as it was
  abbrev pub Calls : List (ℕ × ℕ) → List ℕ → List COperand → Type 0
  Calls pairs (v ∷ vs) (Var w ∷ xs) = (by_pairs pairs v ≡ name_of names w) × Calls pairs vs xs
  Calls pairs (v ∷ vs) (Const c ∷ xs) = (by_pairs pairs v ≡ v) × Calls pairs vs xs
  Calls pairs vs xs = Unit {0}

  calls_behind : (pairs : List (ℕ × ℕ)) (w u : ℕ) (vs : List ℕ) (xs : List COperand) → among w vs ≡ false → Calls pairs vs xs → Calls ((w, u) ∷ pairs) vs xs
  calls_behind pairs w u [] xs h c = tt
  calls_behind pairs w u (v ∷ vs) [] h c = tt
  calls_behind pairs w u (v ∷ vs) (Var t ∷ xs) h (e, c) = (ap (λ b. cond b u (by_pairs pairs v)) (other w v (neither_left (v == w) (among w vs) h)) ∙ e, calls_behind pairs w u vs xs (neither_right (v == w) (among w vs) h) c)
    where
      other : (w v : ℕ) → (v == w) ≡ false → (w == v) ≡ false
      other w v e = unequal w v (λ s. differ v w e (sym s))
  calls_behind pairs w u (v ∷ vs) (Const t ∷ xs) h (e, c) = (ap (λ b. cond b u (by_pairs pairs v)) (other w v (neither_left (v == w) (among w vs) h)) ∙ e, calls_behind pairs w u vs xs (neither_right (v == w) (among w vs) h) c)
    where
      other : (w v : ℕ) → (v == w) ≡ false → (w == v) ≡ false
      other w v e = unequal w v (λ s. differ v w e (sym s))

  pub calls : (vs : List ℕ) (xs : List COperand) → are_apart vs ≡ true → Calls (pairs_of names vs xs) vs xs
  calls [] xs h = tt
  calls (v ∷ vs) [] h = tt
  calls (v ∷ vs) (Var w ∷ xs) h = (
    ap (λ b. cond b (name_of names w) (by_pairs (pairs_of names vs xs) v)) (same v),
    calls_behind (pairs_of names vs xs) v (name_of names w) vs xs (not_is (among v vs) (and_left _ _ h)) (calls vs xs (and_right (not (among v vs)) _ h)),
  )
  calls (v ∷ vs) (Const c ∷ xs) h = (no_input vs xs v (not_is (among v vs) (and_left _ _ h)), calls vs xs (and_right (not (among v vs)) _ h))

  -- what holds of each name that is passed on, or of the own one, holds of each input's
  pub each_call : (good : ℕ → Type 0) (pairs : List (ℕ × ℕ)) (vs : List ℕ) (xs : List COperand) → Calls pairs vs xs → length vs ≡ length xs → ((w : ℕ) → among w (variables_in xs) ≡ true → good (name_of names w)) → (v : ℕ) → among v vs ≡ true → (by_pairs pairs v ≡ v) ⊎ good (by_pairs pairs v)
  each_call good pairs [] xs c n h v l = none_true (sym l)
  each_call good pairs (u ∷ vs) [] c n h v l = absurd (omega (arith, n))
  each_call good pairs (u ∷ vs) (Var w ∷ xs) (e, c) n h v l = one (λ k. each_call good pairs vs xs c (omega (arith, n)) (λ t m. h t (or_right (w == t) (among t (variables_in xs)) m)) v k) (either_of (u == v) (among v vs) l)
    where
      one : (among v vs ≡ true → (by_pairs pairs v ≡ v) ⊎ good (by_pairs pairs v)) → (u == v) ≡ true ⊎ among v vs ≡ true → (by_pairs pairs v ≡ v) ⊎ good (by_pairs pairs v)
      one go (inl s) = inr (subst (λ v. good (by_pairs pairs v)) (is_same u v s) (subst good (sym e) (h w (among_first w (variables_in xs)))))
      one go (inr k) = go k
  each_call good pairs (u ∷ vs) (Const t ∷ xs) (e, c) n h v l = one (λ k. each_call good pairs vs xs c (omega (arith, n)) h v k) (either_of (u == v) (among v vs) l)
    where
      one : (among v vs ≡ true → (by_pairs pairs v ≡ v) ⊎ good (by_pairs pairs v)) → (u == v) ≡ true ⊎ among v vs ≡ true → (by_pairs pairs v ≡ v) ⊎ good (by_pairs pairs v)
      one go (inl s) = inl (subst (λ v. by_pairs pairs v ≡ v) (is_same u v s) e)
      one go (inr k) = go k

  -- the names of inputs have their types
  pub call_types : (p : LlProgram) (types : List LlType) (pairs : List (ℕ × ℕ)) (vs : List ℕ) (xs : List COperand) → Calls pairs vs xs → all_given p types types vs xs ≡ true → ((w : ℕ) → slice_get types (name_of names w) ≡ slice_get types w) → (v : ℕ) → among v vs ≡ true → slice_get types (by_pairs pairs v) ≡ slice_get types v
  call_types p types pairs [] xs c g h v l = none_true (sym l)
  call_types p types pairs (u ∷ vs) [] c g h v l = none_true (sym g)
  call_types p types pairs (u ∷ vs) (Var w ∷ xs) (e, c) g h v l = one (λ k. call_types p types pairs vs xs c (and_right _ _ g) h v k) (either_of (u == v) (among v vs) l)
    where
      given : (o : Option LlType) → given_takes p types o (Var w) ≡ true → slice_get types w ≡ o
      given None k = none_true (sym k)
      given (Some t) k = has_type_is t (slice_get types w) k

      one : (among v vs ≡ true → slice_get types (by_pairs pairs v) ≡ slice_get types v) → (u == v) ≡ true ⊎ among v vs ≡ true → slice_get types (by_pairs pairs v) ≡ slice_get types v
      one go (inl s) = subst (λ v. slice_get types (by_pairs pairs v) ≡ slice_get types v) (is_same u v s) (ap (slice_get types) e ∙ h w ∙ given (slice_get types u) (and_left _ _ g))
      one go (inr k) = go k
  call_types p types pairs (u ∷ vs) (Const t ∷ xs) (e, c) g h v l = one (λ k. call_types p types pairs vs xs c (and_right _ _ g) h v k) (either_of (u == v) (among v vs) l)
    where
      one : (among v vs ≡ true → slice_get types (by_pairs pairs v) ≡ slice_get types v) → (u == v) ≡ true ⊎ among v vs ≡ true → slice_get types (by_pairs pairs v) ≡ slice_get types v
      one go (inl s) = subst (λ v. slice_get types (by_pairs pairs v) ≡ slice_get types v) (is_same u v s) (ap (slice_get types) e)
      one go (inr k) = go k
