-- Shapes of structs, and the structs that they begin with.
use Rattle.std.proofs.Common.{◌≡◌, ◌⊎◌, inl, inr, ⊎_elim, ◌<◌, ◌≤◌, ℕ, zero, suc, ◌+◌, Bool, true, false, List, [], ◌∷◌, ◌++◌, length, Option, Some, None, refl, sym, ap, ◌∙◌, subst, arith}
use Rattle.std.specs.Prelude.{slice_get, ◌==◌, cond}
use Rattle.std.proofs.lemmas.Bool.Decides.{nat_tests}
use Rattle.csub_tree.specs.Layout.{Shape, no_shape, shape_at, shape_over, base_of, is_among, begins_with}
use Rattle.ll_code.specs.declared.program.LlStruct.{LlStruct}
use Rattle.ll_code.specs.Machine.{next_shape, shapes_from, shapes_of}
use Rattle.ll_laws.proofs.Cells.{new_at, old_at}
use Rattle.ll_laws.proofs.Values.{is_same}
use Rattle.refcount_laws.proofs.Cells.{past}
use Rattle.refcount_laws.proofs.Numbers.{Based, length_two}

length_more : (shapes : List Shape) (x : Shape) → length (shapes ++ x ∷ []) ≡ suc (length shapes)
length_more shapes x = omega (arith, length_two shapes (x ∷ []))

-- earlier shapes stay
kept_shapes : (ss : List LlStruct) (shapes : List Shape) (k : ℕ) → k < length shapes → shape_at (shapes_from shapes ss) k ≡ shape_at shapes k
unfolding shapes_from
kept_shapes [] shapes k lt = refl
kept_shapes (s ∷ ss) shapes k lt =
    kept_shapes ss (shapes ++ next_shape shapes s ∷ []) k (omega (arith, lt, length_more shapes (next_shape shapes s))) ∙ old_at shapes (next_shape shapes s) no_shape k (λ e. absurd (omega (arith, e, lt)))

base_same : (ss : List LlStruct) (shapes : List Shape) (b : Option ℕ) → ((m : ℕ) → b ≡ Some m → m < length shapes) → base_of shapes b ≡ base_of (shapes_from shapes ss) b
base_same ss shapes None lt = refl
base_same ss shapes (Some m) lt = ap Some (sym (kept_shapes ss shapes m (lt m refl)))

shape_from : (ss : List LlStruct) (shapes : List Shape) (j : ℕ) (s : LlStruct) → slice_get ss j ≡ Some s → ((m : ℕ) → s.base ≡ Some m → m < length shapes + j)
    → shape_at (shapes_from shapes ss) (length shapes + j) ≡ shape_over (length shapes + j) (length s.fields) (base_of (shapes_from shapes ss) s.base)
unfolding shapes_from
shape_from [] shapes j s e lt = absurd (cc)
shape_from (t ∷ ss) shapes zero s e lt =
    let f : t ≡ s = cc in
    let z : length shapes + 0 ≡ length shapes = omega arith in
    let x : Shape = next_shape shapes t in
    ap (shape_at (shapes_from (shapes ++ x ∷ []) ss)) z ∙ kept_shapes ss (shapes ++ x ∷ []) (length shapes) (omega (arith, length_more shapes x)) ∙ new_at shapes x no_shape
    ∙ ap (λ t. next_shape shapes t) f ∙ ap (λ n. shape_over n (length s.fields) (base_of shapes s.base)) (sym z)
    ∙ ap (shape_over (length shapes + 0) (length s.fields)) (base_same (t ∷ ss) shapes s.base (λ m b. let l : m < length shapes + 0 = lt m b in omega (arith, l)))
shape_from (t ∷ ss) shapes (suc j) s e lt =
    let x : Shape = next_shape shapes t in
    let z : length shapes + suc j ≡ length (shapes ++ x ∷ []) + j = omega (arith, length_more shapes x) in
    ap (shape_at (shapes_from (shapes ++ x ∷ []) ss)) z ∙ shape_from ss (shapes ++ x ∷ []) j s e (λ m b. let l : m < length shapes + suc j = lt m b in omega (arith, l, z))
    ∙ ap (λ n. shape_over n (length s.fields) (base_of (shapes_from (shapes ++ x ∷ []) ss) s.base)) (sym z)

length_shapes : (ss : List LlStruct) (shapes : List Shape) → length (shapes_from shapes ss) ≡ length shapes + length ss
unfolding shapes_from
length_shapes [] shapes = omega arith
length_shapes (s ∷ ss) shapes = omega (arith, length_shapes ss (shapes ++ next_shape shapes s ∷ []), length_more shapes (next_shape shapes s))

among_cases : (n m : ℕ) (ms : List ℕ) → is_among n (m ∷ ms) ≡ true → (n ≡ m) ⊎ (is_among n ms ≡ true)
among_cases n m ms h = by (m == n) refl h
  where
    by : (b : Bool) → (m == n) ≡ b → cond b true (is_among n ms) ≡ true → (n ≡ m) ⊎ (is_among n ms ≡ true)
    by true e h = inl (sym (is_same m n e))
    by false e h = inr h

among_first : (n : ℕ) (ms : List ℕ) → is_among n (n ∷ ms) ≡ true
among_first n ms = ap (λ b. cond b true (is_among n ms)) (let e : (n == n) ≡ true = grind (arith, nat_tests) in e)

among_later : (n m : ℕ) (ms : List ℕ) → is_among n ms ≡ true → is_among n (m ∷ ms) ≡ true
among_later n m ms h = by (m == n)
  where
    by : (b : Bool) → cond b true (is_among n ms) ≡ true
    by true = refl
    by false = h

record In (l : List LlStruct) (n : ℕ) : Type 0 where
  s : LlStruct
  is : slice_get l n ≡ Some s

earlier : (l : List LlStruct) (n m : ℕ) (s : LlStruct) → slice_get l n ≡ Some s → m < n → In l m
earlier [] n m s e lt = absurd (cc)
earlier (x ∷ l) zero m s e lt = absurd (omega (arith, lt))
earlier (x ∷ l) (suc n) zero s e lt = record { s = x; is = refl }
earlier (x ∷ l) (suc n) (suc m) s e lt = let w : In l m = earlier l n m s e (omega (arith, lt)) in record { s = w.s; is = w.is }

module _ (structs : List LlStruct) (based : Based structs) where
  pub shape_is : (n : ℕ) (s : LlStruct) → slice_get structs n ≡ Some s → shape_at (shapes_of structs) n ≡ shape_over n (length s.fields) (base_of (shapes_of structs) s.base)
  shape_is n s e =
      let z : n ≡ 0 + n = omega arith in
      ap (shape_at (shapes_of structs)) z ∙ shape_from structs [] n s e (λ m b. let l : m < n = based.before n m s e b in omega (arith, l)) ∙ ap (λ n. shape_over n (length s.fields) (base_of (shapes_of structs) s.base)) (sym z)

  -- the struct that this one has inline
  pub record HasBase (n m : ℕ) : Type 0 where
    pub s : LlStruct
    pub is : slice_get structs n ≡ Some s
    pub base : s.base ≡ Some m

  pub bases_on : (n m : ℕ) → HasBase n m → (shape_at (shapes_of structs) n).bases ≡ n ∷ (shape_at (shapes_of structs) m).bases
  bases_on n m b = ap (λ x. x.bases) (shape_is n b.s b.is ∙ ap (λ o. shape_over n (length b.s.fields) (base_of (shapes_of structs) o)) b.base)

  pub bases_end : (n : ℕ) (s : LlStruct) → slice_get structs n ≡ Some s → s.base ≡ None → (shape_at (shapes_of structs) n).bases ≡ n ∷ []
  bases_end n s e b = ap (λ x. x.bases) (shape_is n s e ∙ ap (λ o. shape_over n (length s.fields) (base_of (shapes_of structs) o)) b)

  -- a struct begins with itself
  pub begins_itself : (n : ℕ) (s : LlStruct) → slice_get structs n ≡ Some s → begins_with (shapes_of structs) n n ≡ true
  begins_itself n s e = by s.base refl
    where
      by : (o : Option ℕ) → s.base ≡ o → is_among n (shape_at (shapes_of structs) n).bases ≡ true
      by None b = ap (is_among n) (bases_end n s e b) ∙ among_first n []
      by (Some m) b = ap (is_among n) (bases_on n m (record { s = s; is = e; base = b })) ∙ among_first n (shape_at (shapes_of structs) m).bases

  pub none_past : (n : ℕ) → slice_get structs n ≡ None → (shape_at (shapes_of structs) n).bases ≡ []
  none_past n e = ap (λ x. x.bases) (past (shapes_of structs) n no_shape (let l : length structs ≤ n = outside structs n e in omega (arith, length_shapes structs [], l)))
    where
      outside : (l : List LlStruct) (n : ℕ) → slice_get l n ≡ None → length l ≤ n
      outside [] n e = omega arith
      outside (x ∷ l) zero e = absurd (cc)
      outside (x ∷ l) (suc n) e = omega (arith, outside l n e)

  -- what a struct begins with: itself, or what its base begins with
  pub data Begins (k n : ℕ) : Type 0 where
    Itself : (s : LlStruct) → slice_get structs k ≡ Some s → n ≡ k → Begins k n
    ByBase : (m : ℕ) → HasBase k m → m < k → begins_with (shapes_of structs) m n ≡ true → Begins k n

  pub begins_by : (k n : ℕ) → begins_with (shapes_of structs) k n ≡ true → Begins k n
  begins_by k n h = by (slice_get structs k) refl
    where
      on : (s : LlStruct) → slice_get structs k ≡ Some s → (o : Option ℕ) → s.base ≡ o → Begins k n
      on s e None b = ⊎_elim (λ q. Itself s e q) (λ x. absurd (cc)) (among_cases n k [] (ap (is_among n) (sym (bases_end k s e b)) ∙ h))
      on s e (Some m) b =
          let w : HasBase k m = record { s = s; is = e; base = b } in
          ⊎_elim (λ q. Itself s e q) (λ x. ByBase m w (based.before k m s e b) x) (among_cases n k (shape_at (shapes_of structs) m).bases (ap (is_among n) (sym (bases_on k m w)) ∙ h))

      by : (o : Option LlStruct) → slice_get structs k ≡ o → Begins k n
      by None e = absurd (let f : false ≡ true = ap (is_among n) (sym (none_past k e)) ∙ h in cc)
      by (Some s) e = on s e s.base refl

  -- what stands before a struct is there
  pub record Present (n : ℕ) : Type 0 where
    pub s : LlStruct
    pub is : slice_get structs n ≡ Some s

  pub base_there : (n m : ℕ) → HasBase n m → Present m
  base_there n m b = let w : In structs m = earlier structs n m b.s b.is (based.before n m b.s b.is b.base) in record { s = w.s; is = w.is }

  -- and with what one of those begins with
  begins_fuel : (f k n m : ℕ) → k < f → begins_with (shapes_of structs) k n ≡ true → HasBase n m → begins_with (shapes_of structs) k m ≡ true
  begins_fuel zero k n m lt h b = absurd (omega (arith, lt))
  begins_fuel (suc f) k n m lt h b = by (λ j l x. begins_fuel f j n m l x b) (begins_by k n h)
    where
      among_bases : is_among m (shape_at (shapes_of structs) n).bases ≡ true
      among_bases = let w : Present m = base_there n m b in ap (is_among m) (bases_on n m b) ∙ among_later m n (shape_at (shapes_of structs) m).bases (begins_itself m w.s w.is)

      by : ((j : ℕ) → j < f → begins_with (shapes_of structs) j n ≡ true → begins_with (shapes_of structs) j m ≡ true) → Begins k n → begins_with (shapes_of structs) k m ≡ true
      by go (Itself s e q) = subst (λ n. is_among m (shape_at (shapes_of structs) n).bases ≡ true) q among_bases
      by go (ByBase j w l x) = ap (is_among m) (bases_on k j w) ∙ among_later m k (shape_at (shapes_of structs) j).bases (go j (omega (arith, l, lt)) x)

  pub begins_on : (k n m : ℕ) → begins_with (shapes_of structs) k n ≡ true → HasBase n m → begins_with (shapes_of structs) k m ≡ true
  begins_on k n m h b = begins_fuel (suc k) k n m (omega arith) h b
