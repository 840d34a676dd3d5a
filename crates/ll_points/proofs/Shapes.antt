-- A struct that the rules let begin with another has it among the structs that its shape begins with.
use Rattle.std.proofs.Common.{◌≡◌, ◌⊎◌, inl, inr, ◌<◌, ℕ, zero, suc, ◌+◌, Bool, true, false, ◌==◌, ◌||◌, List, [], ◌∷◌, ◌++◌, length, Option, Some, None, refl, sym, ap, ◌∙◌, subst, arith}
use Rattle.std.specs.Prelude.{slice_get, nat_lt, is_none, cond}
use Rattle.std.proofs.lemmas.Bool.Decides.{nat_tests}
use Rattle.csub_tree.specs.Layout.{Shape, no_shape, shape_at, shape_over, base_of, is_among, begins_with}
use Rattle.csub_tree.specs.Checked.{if_any}
use Rattle.ll_code.specs.declared.program.LlStruct.{LlStruct}
use Rattle.ll_code.specs.Machine.{next_shape, shapes_from, shapes_of}
use Rattle.ll_code.specs.Typed as typed
use Rattle.ll_code.specs.Typed.{begins_within, begins, is_base, struct_ok, structs_ok}
use Rattle.ll_laws.proofs.Cells.{new_at, old_at, length_both}
use Rattle.ll_laws.proofs.Values.{and_left, and_right, is_same, is_less}

-- ---- a base is an earlier struct

base_before : (structs : List LlStruct) (n m : ℕ) (b : Option ℕ) → b ≡ Some m → is_base structs n b ≡ true → m < n
base_before structs n m None e ok = absurd (cc)
base_before structs n m (Some k) e ok = let f : k ≡ m = cc in let lt : k < n = is_less k n (and_left (nat_lt k n) (is_none (typed.items_of (slice_get structs k))) ok) in omega (arith, f, lt)

based_from : (structs : List LlStruct) (n : ℕ) (ss : List LlStruct) → structs_ok structs n ss ≡ true → (j m : ℕ) (s : LlStruct) → slice_get ss j ≡ Some s → s.base ≡ Some m → m < n + j
based_from structs n [] ok j m s e b = absurd (cc)
based_from structs n (t ∷ ss) ok zero m s e b =
    let f : t ≡ s = cc in let lt : m < n = base_before structs n m t.base (ap (λ t. t.base) f ∙ b) (and_left _ _ (and_left _ _ (and_left _ _ ok))) in omega (arith, lt)
based_from structs n (t ∷ ss) ok (suc j) m s e b = let rest : structs_ok structs (n + 1) ss ≡ true = and_right (struct_ok structs n t) (structs_ok structs (n + 1) ss) ok in let lt : m < n + 1 + j = based_from structs (n + 1) ss rest j m s e b in omega (arith, lt)

-- ---- shapes

length_more : (shapes : List Shape) (x : Shape) → length (shapes ++ x ∷ []) ≡ suc (length shapes)
length_more shapes x = omega (arith, length_both shapes (x ∷ []))

-- earlier shapes stay
kept_shapes : (ss : List LlStruct) (shapes : List Shape) (k : ℕ) → k < length shapes → shape_at (shapes_from shapes ss) k ≡ shape_at shapes k
unfolding shapes_from
kept_shapes [] shapes k lt = refl
kept_shapes (s ∷ ss) shapes k lt =
    kept_shapes ss (shapes ++ next_shape shapes s ∷ []) k (omega (arith, lt, length_more shapes (next_shape shapes s))) ∙ old_at shapes (next_shape shapes s) no_shape k (λ e. absurd (omega (arith, e, lt)))

base_same : (ss : List LlStruct) (shapes : List Shape) (b : Option ℕ) → ((m : ℕ) → b ≡ Some m → m < length shapes) → base_of shapes b ≡ base_of (shapes_from shapes ss) b
base_same ss shapes None lt = refl
base_same ss shapes (Some m) lt = ap Some (sym (kept_shapes ss shapes m (lt m refl)))

shape_from : (ss : List LlStruct) (shapes : List Shape) (j : ℕ) (s : LlStruct) → slice_get ss j ≡ Some s → ((m : ℕ) → s.base ≡ Some m → m < length shapes + j)
    → shape_at (shapes_from shapes ss) (length shapes + j) ≡ shape_over (length shapes + j) (length s.fields) (base_of (shapes_from shapes ss) s.base)
unfolding shapes_from
shape_from [] shapes j s e lt = absurd (cc)
shape_from (t ∷ ss) shapes zero s e lt =
    let f : t ≡ s = cc in
    let z : length shapes + 0 ≡ length shapes = omega arith in
    let x : Shape = next_shape shapes t in
    ap (shape_at (shapes_from (shapes ++ x ∷ []) ss)) z ∙ kept_shapes ss (shapes ++ x ∷ []) (length shapes) (omega (arith, length_more shapes x)) ∙ new_at shapes x no_shape
    ∙ ap (λ t. next_shape shapes t) f ∙ ap (λ n. shape_over n (length s.fields) (base_of shapes s.base)) (sym z)
    ∙ ap (shape_over (length shapes + 0) (length s.fields)) (base_same (t ∷ ss) shapes s.base (λ m b. let l : m < length shapes + 0 = lt m b in omega (arith, l)))
shape_from (t ∷ ss) shapes (suc j) s e lt =
    let x : Shape = next_shape shapes t in
    let z : length shapes + suc j ≡ length (shapes ++ x ∷ []) + j = omega (arith, length_more shapes x) in
    ap (shape_at (shapes_from (shapes ++ x ∷ []) ss)) z ∙ shape_from ss (shapes ++ x ∷ []) j s e (λ m b. let l : m < length shapes + suc j = lt m b in omega (arith, l, z))
    ∙ ap (λ n. shape_over n (length s.fields) (base_of (shapes_from (shapes ++ x ∷ []) ss) s.base)) (sym z)

-- ---- what a shape begins with

among_first : (n : ℕ) (ms : List ℕ) → is_among n (n ∷ ms) ≡ true
among_first n ms = ap (λ b. cond b true (is_among n ms)) (let e : (n == n) ≡ true = grind (arith, nat_tests) in e)

among_later : (n m : ℕ) (ms : List ℕ) → is_among n ms ≡ true → is_among n (m ∷ ms) ≡ true
among_later n m ms h = by (m == n)
  where
    by : (b : Bool) → cond b true (is_among n ms) ≡ true
    by true = refl
    by false = h

either : (a b : Bool) → (a || b) ≡ true → (a ≡ true) ⊎ (b ≡ true)
either true b e = inl refl
either false b e = inr e

found : {A : Type 0} (xs : List A) (n : ℕ) → n < length xs → slice_get xs n ≡ None → ⊥
found [] n lt e = omega (arith, lt)
found (x ∷ xs) zero lt e = cc
found (x ∷ xs) (suc n) lt e = found xs n (omega (arith, lt)) e

module _ (structs : List LlStruct) (ok : structs_ok structs 0 structs ≡ true) where
  before : (n m : ℕ) (s : LlStruct) → slice_get structs n ≡ Some s → s.base ≡ Some m → m < n
  before n m s e b = let lt : m < 0 + n = based_from structs 0 structs ok n m s e b in omega (arith, lt)

  bases_are : (n : ℕ) (s : LlStruct) → slice_get structs n ≡ Some s → (b : Option ℕ) → s.base ≡ b → (shape_at (shapes_of structs) n).bases ≡ (shape_over n (length s.fields) (base_of (shapes_of structs) b)).bases
  bases_are n s e b is =
      let z : n ≡ 0 + n = omega arith in
      ap (λ n. (shape_at (shapes_of structs) n).bases) z ∙ ap (λ x. x.bases) (shape_from structs [] n s e (λ m b. let l : m < n = before n m s e b in omega (arith, l)))
      ∙ ap (λ n. (shape_over n (length s.fields) (base_of (shapes_of structs) s.base)).bases) (sym z) ∙ ap (λ o. (shape_over n (length s.fields) (base_of (shapes_of structs) o)).bases) is

  itself : (n : ℕ) (s : LlStruct) → slice_get structs n ≡ Some s → (b : Option ℕ) → s.base ≡ b → begins_with (shapes_of structs) n n ≡ true
  itself n s e None is = ap (is_among n) (bases_are n s e None is) ∙ among_first n []
  itself n s e (Some m) is = ap (is_among n) (bases_are n s e (Some m) is) ∙ among_first n (shape_at (shapes_of structs) m).bases

  same_begins : (n m : ℕ) → n < length structs → (n == m) ≡ true → begins_with (shapes_of structs) n m ≡ true
  same_begins n m lt h = by (slice_get structs n) refl
    where
      by : (o : Option LlStruct) → slice_get structs n ≡ o → begins_with (shapes_of structs) n m ≡ true
      by None e = absurd (found structs n lt e)
      by (Some s) e = subst (λ m. begins_with (shapes_of structs) n m ≡ true) (is_same n m h) (itself n s e s.base refl)

  within : (k n m : ℕ) → n < length structs → begins_within structs k n m ≡ true → begins_with (shapes_of structs) n m ≡ true
  unfolding begins_within
  within zero n m lt h = same_begins n m lt h
  within (suc k) n m lt h = by (λ b. within k b m) (either (n == m) (if_any (λ b. begins_within structs k b m) (typed.base_of (slice_get structs n))) h)
    where
      on : ((b : ℕ) → b < length structs → begins_within structs k b m ≡ true → begins_with (shapes_of structs) b m ≡ true) → (s : LlStruct) (b : Option ℕ) → slice_get structs n ≡ Some s → s.base ≡ b
          → if_any (λ b. begins_within structs k b m) b ≡ true → begins_with (shapes_of structs) n m ≡ true
      on go s None e is g = absurd (cc)
      on go s (Some b) e is g =
          let less : b < n = before n b s e is in ap (is_among m) (bases_are n s e (Some b) is) ∙ among_later m n (shape_at (shapes_of structs) b).bases (go b (omega (arith, less, lt)) g)

      there : ((b : ℕ) → b < length structs → begins_within structs k b m ≡ true → begins_with (shapes_of structs) b m ≡ true) → (o : Option LlStruct) → slice_get structs n ≡ o
          → if_any (λ b. begins_within structs k b m) (typed.base_of o) ≡ true → begins_with (shapes_of structs) n m ≡ true
      there go None e g = absurd (cc)
      there go (Some s) e g = on go s s.base e refl g

      by : ((b : ℕ) → b < length structs → begins_within structs k b m ≡ true → begins_with (shapes_of structs) b m ≡ true)
          → ((n == m) ≡ true) ⊎ (if_any (λ b. begins_within structs k b m) (typed.base_of (slice_get structs n)) ≡ true) → begins_with (shapes_of structs) n m ≡ true
      by go (inl e) = same_begins n m lt e
      by go (inr g) = there go (slice_get structs n) refl g

  pub begins_so : (n m : ℕ) → begins structs n m ≡ true → begins_with (shapes_of structs) n m ≡ true
  begins_so n m h = within n n m (is_less n _ (and_left _ _ h)) (and_right _ _ h)
