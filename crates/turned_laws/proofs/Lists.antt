-- Variables that take their values all at once, and what is given to them.
use Rattle.std.proofs.Common.{◌≡◌, ◌<◌, ◌≤◌, ℕ, zero, suc, ◌+◌, Bool, true, false, ◌||◌, ◌&&◌, not, ◌==◌, List, [], ◌∷◌, ◌++◌, length, Option, Some, None, refl, sym, ap, ◌∙◌, subst, arith, ◌⊎◌, inl, inr}
use Rattle.std.specs.Prelude.{slice_get, slice_set, slice_index_or}
use Rattle.csub_tree.specs.State.{Value, Unset}
use Rattle.csub_tree.specs.Operation.{is_unset}
use Rattle.csub_tree.specs.Statement.{read, any_unset}
use Rattle.csub_tree.specs.declared.tree.COperand.{COperand}
use Rattle.ll_code.specs.Machine.{set_all}
use Rattle.ll_code.specs.Typed.{given_takes, all_given, params_ok, is_type_given, has_type, same_type}
use Rattle.ll_code.specs.declared.program.LlType.{LlType}
use Rattle.ll_code.specs.declared.program.LlProgram.{LlProgram}
use Rattle.ll_laws.proofs.Values.{and_left, and_right, is_same}
use Rattle.ll_live.specs.Live.{among}

abbrev pub IsSet : Value → Type 0
IsSet value = is_unset value ≡ false

-- ---- tests

pub either_of : (a b : Bool) → (a || b) ≡ true → (a ≡ true) ⊎ (b ≡ true)
either_of true b h = inl refl
either_of false b h = inr h

pub both : (a b : Bool) → a ≡ true → b ≡ true → (a && b) ≡ true
both true b e f = f
both false b e f = absurd (cc)

pub neither_left : (a b : Bool) → (a || b) ≡ false → a ≡ false
neither_left true b h = h
neither_left false b h = refl

pub neither_right : (a b : Bool) → (a || b) ≡ false → b ≡ false
neither_right true b h = absurd (cc)
neither_right false b h = h

pub or_left : (a b : Bool) → a ≡ true → (a || b) ≡ true
or_left true b e = refl
or_left false b e = absurd (cc)

pub or_right : (a b : Bool) → b ≡ true → (a || b) ≡ true
or_right true b e = refl
or_right false b e = e

pub not_is : (a : Bool) → not a ≡ true → a ≡ false
not_is true h = absurd (cc)
not_is false h = refl

pub is_not : (a : Bool) → a ≡ false → not a ≡ true
is_not true h = absurd (cc)
is_not false h = refl

pub known : (b : Bool) → (b ≡ true) ⊎ (b ≡ false)
known true = inl refl
known false = inr refl

pub same : (n : ℕ) → (n == n) ≡ true
same n = grind arith

pub equal : (m n : ℕ) → m ≡ n → (m == n) ≡ true
equal m n e = grind (arith, e)

pub differ : (a v : ℕ) → (a == v) ≡ false → a ≡ v → ⊥
differ a v e f = grind (arith, e, f)

pub unequal : (a v : ℕ) → (a ≡ v → ⊥) → (a == v) ≡ false
unequal a v ne = one (known (a == v))
  where
    one : ((a == v) ≡ true) ⊎ ((a == v) ≡ false) → (a == v) ≡ false
    one (inl e) = absurd (ne (is_same a v e))
    one (inr e) = e

pub none_true : {A : Type 0} → true ≡ false → A
none_true e = absurd (cc)

pub opposite : {A : Type 0} (b : Bool) → b ≡ true → b ≡ false → A
opposite true e f = none_true f
opposite false e f = none_true (sym e)

-- ---- places

pub set_here : {A : Type 0} (xs : List A) (a : ℕ) (x d : A) → a < length xs → slice_index_or (slice_set xs a x) a d ≡ x
set_here [] a x d lt = absurd (omega (arith, lt))
set_here (y ∷ xs) zero x d lt = refl
set_here (y ∷ xs) (suc a) x d lt = set_here xs a x d (omega (arith, lt))

pub set_elsewhere : {A : Type 0} (xs : List A) (a b : ℕ) (x d : A) → (a ≡ b → ⊥) → slice_index_or (slice_set xs a x) b d ≡ slice_index_or xs b d
set_elsewhere [] a b x d ne = refl
set_elsewhere (y ∷ xs) zero zero x d ne = absurd (ne refl)
set_elsewhere (y ∷ xs) zero (suc b) x d ne = refl
set_elsewhere (y ∷ xs) (suc a) zero x d ne = refl
set_elsewhere (y ∷ xs) (suc a) (suc b) x d ne = set_elsewhere xs a b x d (λ e. ne (ap suc e))

pub set_size : {A : Type 0} (xs : List A) (a : ℕ) (x : A) → length (slice_set xs a x) ≡ length xs
set_size [] a x = refl
set_size (y ∷ xs) zero x = refl
set_size (y ∷ xs) (suc a) x = ap suc (set_size xs a x)

set_in_both : {A : Type 0} (xs ys : List A) (a : ℕ) (x d : A) → length xs ≡ length ys → slice_index_or (slice_set xs a x) a d ≡ slice_index_or (slice_set ys a x) a d
set_in_both [] [] a x d e = refl
set_in_both [] (y ∷ ys) a x d e = absurd (omega (arith, e))
set_in_both (z ∷ xs) [] a x d e = absurd (omega (arith, e))
set_in_both (z ∷ xs) (y ∷ ys) zero x d e = refl
set_in_both (z ∷ xs) (y ∷ ys) (suc a) x d e = set_in_both xs ys a x d (omega (arith, e))

pub within_list : {A : Type 0} (xs : List A) (n : ℕ) (x : A) → slice_get xs n ≡ Some x → n < length xs
within_list [] n x e = absurd (cc)
within_list (y ∷ xs) zero x e = omega arith
within_list (y ∷ xs) (suc n) x e = let h : n < length xs = within_list xs n x e in omega (arith, h)

pub front_at : {A : Type 0} (xs ys : List A) (v : ℕ) (d : A) → v < length xs → slice_index_or (xs ++ ys) v d ≡ slice_index_or xs v d
front_at [] ys v d lt = absurd (omega (arith, lt))
front_at (x ∷ xs) ys zero d lt = refl
front_at (x ∷ xs) ys (suc v) d lt = front_at xs ys v d (omega (arith, lt))

pub value_set : (values : List Value) (v : ℕ) → any_unset values ≡ false → v < length values → IsSet (read values v)
value_set [] v h lt = absurd (omega (arith, lt))
value_set (x ∷ values) zero h lt = neither_left (is_unset x) (any_unset values) h
value_set (x ∷ values) (suc v) h lt = value_set values v (neither_right (is_unset x) (any_unset values) h) (omega (arith, lt))

-- ---- all at once

pub all_size : (vars : List Value) (vs : List ℕ) (values : List Value) → length (set_all vars vs values) ≡ length vars
all_size vars [] values = refl
all_size vars (w ∷ vs) [] = refl
all_size vars (w ∷ vs) (x ∷ values) = all_size (slice_set vars w x) vs values ∙ set_size vars w x

pub all_elsewhere : (vars : List Value) (vs : List ℕ) (values : List Value) (v : ℕ) → among v vs ≡ false → read (set_all vars vs values) v ≡ read vars v
all_elsewhere vars [] values v h = refl
all_elsewhere vars (w ∷ vs) [] v h = refl
all_elsewhere vars (w ∷ vs) (x ∷ values) v h =
    all_elsewhere (slice_set vars w x) vs values v (neither_right (w == v) (among v vs) h) ∙ set_elsewhere vars w v x Unset (differ w v (neither_left (w == v) (among v vs) h))

pub all_set : (vars : List Value) (vs : List ℕ) (values : List Value) → length vs ≡ length values → any_unset values ≡ false → (v : ℕ) → v < length vars → among v vs ≡ true → IsSet (read (set_all vars vs values) v)
all_set vars [] values e h v lt is = none_true (sym is)
all_set vars (w ∷ vs) [] e h v lt is = absurd (omega (arith, e))
all_set vars (w ∷ vs) (x ∷ values) e h v lt is = one (λ k. all_set (slice_set vars w x) vs values (omega (arith, e)) (neither_right (is_unset x) (any_unset values) h) v (let s : length (slice_set vars w x) ≡ length vars = set_size vars w x in omega (arith, s, lt)) k) (known (among v vs))
  where
    one : (among v vs ≡ true → IsSet (read (set_all (slice_set vars w x) vs values) v)) → (among v vs ≡ true) ⊎ (among v vs ≡ false) → IsSet (read (set_all (slice_set vars w x) vs values) v)
    one go (inl k) = go k
    one go (inr k) = here (either_of (w == v) (among v vs) is)
      where
        here : (w == v) ≡ true ⊎ among v vs ≡ true → IsSet (read (set_all (slice_set vars w x) vs values) v)
        here (inl s) =
            ap is_unset (all_elsewhere (slice_set vars w x) vs values v k ∙ subst (λ w. read (slice_set vars w x) v ≡ x) (sym (is_same w v s)) (set_here vars v x Unset lt))
            ∙ neither_left (is_unset x) (any_unset values) h
        here (inr s) = opposite (among v vs) s k

pub all_same : (xs ys : List Value) (vs : List ℕ) (values : List Value) → length vs ≡ length values → length xs ≡ length ys → (v : ℕ) → among v vs ≡ true → read (set_all xs vs values) v ≡ read (set_all ys vs values) v
all_same xs ys [] values e s v is = none_true (sym is)
all_same xs ys (w ∷ vs) [] e s v is = absurd (omega (arith, e))
all_same xs ys (w ∷ vs) (x ∷ values) e s v is =
    one (λ k. all_same (slice_set xs w x) (slice_set ys w x) vs values (omega (arith, e)) (set_size xs w x ∙ s ∙ sym (set_size ys w x)) v k) (known (among v vs))
  where
    one : (among v vs ≡ true → read (set_all (slice_set xs w x) vs values) v ≡ read (set_all (slice_set ys w x) vs values) v) → (among v vs ≡ true) ⊎ (among v vs ≡ false)
        → read (set_all (slice_set xs w x) vs values) v ≡ read (set_all (slice_set ys w x) vs values) v
    one go (inl k) = go k
    one go (inr k) = here (either_of (w == v) (among v vs) is)
      where
        here : (w == v) ≡ true ⊎ among v vs ≡ true → read (set_all (slice_set xs w x) vs values) v ≡ read (set_all (slice_set ys w x) vs values) v
        here (inl t) =
            all_elsewhere (slice_set xs w x) vs values v k
            ∙ subst (λ w. read (slice_set xs w x) v ≡ read (slice_set ys w x) v) (sym (is_same w v t)) (set_in_both xs ys v x Unset s)
            ∙ sym (all_elsewhere (slice_set ys w x) vs values v k)
        here (inr t) = opposite (among v vs) t k

-- ---- what is typed

pub typed_within : (t : LlType) (types : List LlType) (a : ℕ) → has_type t (slice_get types a) ≡ true → a < length types
typed_within t types a h = one (slice_get types a) refl h
  where
    one : (o : Option LlType) → slice_get types a ≡ o → has_type t o ≡ true → a < length types
    one None e h = none_true (sym h)
    one (Some u) e h = within_list types a u e

given_within : (p : LlProgram) (types others : List LlType) (v : ℕ) (x : COperand) → given_takes p types (slice_get others v) x ≡ true → v < length others
given_within p types others v x h = one (slice_get others v) refl h
  where
    one : (o : Option LlType) → slice_get others v ≡ o → given_takes p types o x ≡ true → v < length others
    one None e h = none_true (sym h)
    one (Some t) e h = within_list others v t e

pub all_given_size : (p : LlProgram) (types others : List LlType) (vs : List ℕ) (xs : List COperand) → all_given p types others vs xs ≡ true → length vs ≡ length xs
all_given_size p types others [] [] h = refl
all_given_size p types others [] (x ∷ xs) h = none_true (sym h)
all_given_size p types others (v ∷ vs) [] h = none_true (sym h)
all_given_size p types others (v ∷ vs) (x ∷ xs) h = ap suc (all_given_size p types others vs xs (and_right _ _ h))

pub all_given_within : (p : LlProgram) (types others : List LlType) (vs : List ℕ) (xs : List COperand) → all_given p types others vs xs ≡ true → (v : ℕ) → among v vs ≡ true → v < length others
all_given_within p types others [] xs h v is = none_true (sym is)
all_given_within p types others (w ∷ vs) [] h v is = none_true (sym h)
all_given_within p types others (w ∷ vs) (x ∷ xs) h v is = one (λ k. all_given_within p types others vs xs (and_right _ _ h) v k) (either_of (w == v) (among v vs) is)
  where
    one : (among v vs ≡ true → v < length others) → (w == v) ≡ true ⊎ among v vs ≡ true → v < length others
    one go (inl e) = subst (λ v. v < length others) (is_same w v e) (given_within p types others w x (and_left _ _ h))
    one go (inr k) = go k

pub params_within : (p : LlProgram) (types : List LlType) (n : ℕ) (vs : List ℕ) → params_ok p types n vs ≡ true → (v : ℕ) → among v vs ≡ true → v < n + length vs
params_within p types n [] h v is = none_true (sym is)
params_within p types n (w ∷ vs) h v is = one (λ k. params_within p types (n + 1) vs (and_right _ _ h) v k) (either_of (w == v) (among v vs) is)
  where
    one : (among v vs ≡ true → v < n + 1 + length vs) → (w == v) ≡ true ⊎ among v vs ≡ true → v < n + length (w ∷ vs)
    one go (inl e) = let f : w ≡ v = is_same w v e in let g : w ≡ n = is_same w n (and_left _ _ (and_left _ _ h)) in omega (arith, f, g)
    one go (inr k) = let l : v < n + 1 + length vs = go k in omega (arith, l)
