-- Where the fields of a struct stand: a struct that begins with another has its fields in the same places.
use Rattle.std.proofs.Common.{◌≡◌, ◌≢◌, ◌<◌, ℕ, zero, suc, ◌+◌, ◌-◌, Bool, true, false, ◌==◌, List, [], ◌∷◌, ◌++◌, length, Option, Some, None, refl, sym, ap, ◌∙◌, subst, arith, ◌⊎◌, inl, inr}
use Rattle.std.specs.Prelude.{slice_get, slice_index_or, cond, is_none}
use Rattle.csub_tree.specs.Layout.{Shape, no_shape, shape_at, shape_over, base_of, is_among, place}
use Rattle.ll_code.specs.declared.program.LlType.{LlType}
use Rattle.ll_code.specs.declared.program.LlStruct.{LlStruct}
use Rattle.ll_code.specs.Machine.{next_shape, shapes_from, shapes_of}
use Rattle.ll_code.specs.Typed.{items_of, field_of, own_field, is_base, structs_ok}
use Rattle.ll_laws.specs.Fields.{fields_at, base_fields, fields_from}
use Rattle.ll_laws.proofs.Values.{and_left, and_right, is_less, is_same}

-- ---- lists

pub new_at : {A : Type 0} (xs : List A) (x d : A) → slice_index_or (xs ++ x ∷ []) (length xs) d ≡ x
new_at [] x d = refl
new_at (y ∷ xs) x d = new_at xs x d

pub old_at : {A : Type 0} (xs : List A) (x d : A) (k : ℕ) → k ≢ length xs → slice_index_or (xs ++ x ∷ []) k d ≡ slice_index_or xs k d
old_at [] x d zero ne = absurd (ne refl)
old_at [] x d (suc k) ne = refl
old_at (y ∷ xs) x d zero ne = refl
old_at (y ∷ xs) x d (suc k) ne = old_at xs x d k (λ e. ne (ap suc e))

pub is_new : (k n : ℕ) → (k ≡ n) ⊎ (k ≢ n)
is_new k n = grind arith

length_new : {A : Type 0} (xs : List A) (x : A) → length (xs ++ x ∷ []) ≡ suc (length xs)
length_new [] x = refl
length_new (y ∷ xs) x = ap suc (length_new xs x)

get_left : {A : Type 0} (xs ys : List A) (i : ℕ) (x : A) → slice_get xs i ≡ Some x → slice_get (xs ++ ys) i ≡ Some x
get_left [] ys i x e = absurd (cc)
get_left (y ∷ xs) ys zero x e = e
get_left (y ∷ xs) ys (suc i) x e = get_left xs ys i x e

get_right : {A : Type 0} (xs ys : List A) (i : ℕ) → slice_get (xs ++ ys) (length xs + i) ≡ slice_get ys i
get_right [] ys i = ap (slice_get ys) (omega arith)
get_right (y ∷ xs) ys i = let e : suc (length xs) + i ≡ suc (length xs + i) = omega arith in ap (slice_get (y ∷ xs ++ ys)) e ∙ get_right xs ys i

pub length_both : {A : Type 0} (xs ys : List A) → length (xs ++ ys) ≡ length xs + length ys
length_both [] ys = omega arith
length_both (x ∷ xs) ys = omega (arith, length_both xs ys)

-- ---- what is known of the shapes of the first structs, and of the types of their fields

module _ (structs : List LlStruct) where
  pub record Laid (shapes : List Shape) (earlier : List (List LlType)) : Type 0 where
    pub same : length shapes ≡ length earlier
    pub size : (n : ℕ) → (shape_at shapes n).size ≡ length (fields_at earlier n)
    pub below : (kind n : ℕ) → is_among n (shape_at shapes kind).bases ≡ true → n < length shapes
    pub field : (kind n k : ℕ) (t : LlType) → is_among n (shape_at shapes kind).bases ≡ true → field_of (slice_get structs n) k ≡ Some t
        → slice_get (fields_at earlier kind) (place (shape_at shapes n) k) ≡ Some t
    pub items : (kind n : ℕ) (t : LlType) → is_among n (shape_at shapes kind).bases ≡ true → items_of (slice_get structs n) ≡ Some t → n ≡ kind
    pub base : (kind m : ℕ) (s : LlStruct) → kind < length shapes → slice_get structs kind ≡ Some s → s.base ≡ Some m → (m < length shapes) × (is_none (items_of (slice_get structs m)) ≡ true)
    pub whole : (kind : ℕ) (s : LlStruct) → kind < length shapes → slice_get structs kind ≡ Some s → fields_at earlier kind ≡ base_fields earlier s.base ++ s.fields

  -- the same of the next one
  record IsNext (shapes : List Shape) (earlier : List (List LlType)) (x : Shape) (types : List LlType) : Type 0 where
    size : x.size ≡ length types
    below : (n : ℕ) → is_among n x.bases ≡ true → n < suc (length shapes)
    field : (n k : ℕ) (t : LlType) → is_among n x.bases ≡ true → field_of (slice_get structs n) k ≡ Some t → slice_get types (place (shape_at (shapes ++ x ∷ []) n) k) ≡ Some t
    items : (n : ℕ) (t : LlType) → is_among n x.bases ≡ true → items_of (slice_get structs n) ≡ Some t → n ≡ length shapes
    base : (m : ℕ) (s : LlStruct) → slice_get structs (length shapes) ≡ Some s → s.base ≡ Some m → (m < length shapes) × (is_none (items_of (slice_get structs m)) ≡ true)
    whole : (s : LlStruct) → slice_get structs (length shapes) ≡ Some s → types ≡ base_fields earlier s.base ++ s.fields

  module _ (shapes : List Shape) (earlier : List (List LlType)) (laid : Laid shapes earlier) where
    module _ (x : Shape) (types : List LlType) (next : IsNext shapes earlier x types) where
      earlier_kind : (kind : ℕ) → kind ≢ length shapes → kind < length (shapes ++ x ∷ []) → kind < length shapes
      earlier_kind kind ne lt = sharp (length (shapes ++ x ∷ [])) (length_new shapes x) lt
        where
          sharp : (n : ℕ) → n ≡ suc (length shapes) → kind < n → kind < length shapes
          sharp n e lt = grind arith

      new_shape : (kind : ℕ) → kind ≡ length shapes → shape_at (shapes ++ x ∷ []) kind ≡ x
      new_shape kind e = ap (shape_at (shapes ++ x ∷ [])) e ∙ new_at shapes x no_shape

      new_types : (kind : ℕ) → kind ≡ length shapes → fields_at (earlier ++ types ∷ []) kind ≡ types
      new_types kind e = ap (fields_at (earlier ++ types ∷ [])) (e ∙ laid.same) ∙ new_at earlier types []

      old_shape : (kind : ℕ) → kind ≢ length shapes → shape_at (shapes ++ x ∷ []) kind ≡ shape_at shapes kind
      old_shape kind ne = old_at shapes x no_shape kind ne

      old_types : (kind : ℕ) → kind ≢ length shapes → fields_at (earlier ++ types ∷ []) kind ≡ fields_at earlier kind
      old_types kind ne = old_at earlier types [] kind (λ e. ne (e ∙ sym laid.same))

      more_size : (n : ℕ) → (n ≡ length shapes) ⊎ (n ≢ length shapes) → (shape_at (shapes ++ x ∷ []) n).size ≡ length (fields_at (earlier ++ types ∷ []) n)
      more_size n (inl e) = ap (λ s. s.size) (new_shape n e) ∙ next.size ∙ sym (ap length (new_types n e))
      more_size n (inr ne) = ap (λ s. s.size) (old_shape n ne) ∙ laid.size n ∙ sym (ap length (old_types n ne))

      more_below : (kind n : ℕ) → (kind ≡ length shapes) ⊎ (kind ≢ length shapes) → is_among n (shape_at (shapes ++ x ∷ []) kind).bases ≡ true → n < length (shapes ++ x ∷ [])
      more_below kind n (inl e) h = let g : n < suc (length shapes) = next.below n (subst (λ s. is_among n s.bases ≡ true) (new_shape kind e) h) in omega (arith, g, length_new shapes x)
      more_below kind n (inr ne) h = let g : n < length shapes = laid.below kind n (subst (λ s. is_among n s.bases ≡ true) (old_shape kind ne) h) in omega (arith, g, length_new shapes x)

      more_field : (kind n k : ℕ) (t : LlType) → (kind ≡ length shapes) ⊎ (kind ≢ length shapes) → is_among n (shape_at (shapes ++ x ∷ []) kind).bases ≡ true
          → field_of (slice_get structs n) k ≡ Some t → slice_get (fields_at (earlier ++ types ∷ []) kind) (place (shape_at (shapes ++ x ∷ []) n) k) ≡ Some t
      more_field kind n k t (inl e) h f =
          ap (λ l. slice_get l (place (shape_at (shapes ++ x ∷ []) n) k)) (new_types kind e) ∙ next.field n k t (subst (λ s. is_among n s.bases ≡ true) (new_shape kind e) h) f
      more_field kind n k t (inr ne) h f =
          let g : is_among n (shape_at shapes kind).bases ≡ true = subst (λ s. is_among n s.bases ≡ true) (old_shape kind ne) h in
          let lt : n < length shapes = laid.below kind n g in
          let differ : n ≢ length shapes = λ e. absurd (omega (arith, lt, e)) in
          ap (λ l. slice_get l (place (shape_at (shapes ++ x ∷ []) n) k)) (old_types kind ne) ∙ ap (λ s. slice_get (fields_at earlier kind) (place s k)) (old_shape n differ) ∙ laid.field kind n k t g f

      more_items : (kind n : ℕ) (t : LlType) → (kind ≡ length shapes) ⊎ (kind ≢ length shapes) → is_among n (shape_at (shapes ++ x ∷ []) kind).bases ≡ true
          → items_of (slice_get structs n) ≡ Some t → n ≡ kind
      more_items kind n t (inl e) h f = next.items n t (subst (λ s. is_among n s.bases ≡ true) (new_shape kind e) h) f ∙ sym e
      more_items kind n t (inr ne) h f = laid.items kind n t (subst (λ s. is_among n s.bases ≡ true) (old_shape kind ne) h) f

      more_base : (kind m : ℕ) (s : LlStruct) → (kind ≡ length shapes) ⊎ (kind ≢ length shapes) → kind < length (shapes ++ x ∷ []) → slice_get structs kind ≡ Some s → s.base ≡ Some m
          → (m < length (shapes ++ x ∷ [])) × (is_none (items_of (slice_get structs m)) ≡ true)
      more_base kind m s (inl e) lt is b =
          let h : (m < length shapes) × (is_none (items_of (slice_get structs m)) ≡ true) = next.base m s (ap (slice_get structs) (sym e) ∙ is) b in (omega (arith, h.0, length_new shapes x), h.1)
      more_base kind m s (inr ne) lt is b =
          let h : (m < length shapes) × (is_none (items_of (slice_get structs m)) ≡ true) = laid.base kind m s (earlier_kind kind ne lt) is b in (omega (arith, h.0, length_new shapes x), h.1)

      base_kept : (b : Option ℕ) → ((m : ℕ) → b ≡ Some m → m < length shapes) → base_fields (earlier ++ types ∷ []) b ≡ base_fields earlier b
      base_kept None h = refl
      base_kept (Some m) h = let lt : m < length shapes = h m refl in old_types m (λ e. absurd (omega (arith, lt, e)))

      more_whole : (kind : ℕ) (s : LlStruct) → (kind ≡ length shapes) ⊎ (kind ≢ length shapes) → kind < length (shapes ++ x ∷ []) → slice_get structs kind ≡ Some s
          → fields_at (earlier ++ types ∷ []) kind ≡ base_fields (earlier ++ types ∷ []) s.base ++ s.fields
      more_whole kind s (inl e) lt is =
          let here : slice_get structs (length shapes) ≡ Some s = ap (slice_get structs) (sym e) ∙ is in
          new_types kind e ∙ next.whole s here ∙ ap (λ l. l ++ s.fields) (sym (base_kept s.base (λ m b. (next.base m s here b).0)))
      more_whole kind s (inr ne) lt is =
          old_types kind ne ∙ laid.whole kind s (earlier_kind kind ne lt) is ∙ ap (λ l. l ++ s.fields) (sym (base_kept s.base (λ m b. (laid.base kind m s (earlier_kind kind ne lt) is b).0)))

      laid_on : Laid (shapes ++ x ∷ []) (earlier ++ types ∷ [])
      laid_on = record {
        same = omega (arith, length_new shapes x, length_new earlier types, laid.same);
        size = λ n. more_size n (is_new n (length shapes));
        below = λ kind n. more_below kind n (is_new kind (length shapes));
        field = λ kind n k t. more_field kind n k t (is_new kind (length shapes));
        items = λ kind n t. more_items kind n t (is_new kind (length shapes));
        base = λ kind m s. more_base kind m s (is_new kind (length shapes));
        whole = λ kind s. more_whole kind s (is_new kind (length shapes));
      }

    -- ---- the next struct

    first_among : (n m : ℕ) (b : Bool) (ms : List ℕ) → (m == n) ≡ b → cond b true (is_among n ms) ≡ true → (n ≡ m) ⊎ (is_among n ms ≡ true)
    first_among n m true ms e h = inl (sym (is_same m n e))
    first_among n m false ms e h = inr h

    among : (n m : ℕ) (ms : List ℕ) → is_among n (m ∷ ms) ≡ true → (n ≡ m) ⊎ (is_among n ms ≡ true)
    among n m ms h = first_among n m (m == n) ms refl h

    module _ (s : LlStruct) (here : slice_get structs (length shapes) ≡ Some s) where
      own : (n k : ℕ) (b : Option ℕ) (t : LlType) → s.base ≡ b → n ≡ length shapes → field_of (slice_get structs n) k ≡ Some t → own_field s b k ≡ Some t
      own n k b t is e f = ap (λ b. own_field s b k) (sym is) ∙ ap (λ o. field_of o k) (sym here) ∙ ap (λ n. field_of (slice_get structs n) k) (sym e) ∙ f

      base_place : (m : ℕ) (size : ℕ) → size ≡ length (fields_at earlier m) → (k : ℕ) (t : LlType) → own_field s (Some m) k ≡ Some t → slice_get (fields_at earlier m ++ s.fields) (size + (k - 1)) ≡ Some t
      base_place m size e zero t f = absurd (cc)
      base_place m size e (suc k) t f =
          let g : size + (suc k - 1) ≡ length (fields_at earlier m) + k = omega (arith, e) in ap (slice_get (fields_at earlier m ++ s.fields)) g ∙ get_right (fields_at earlier m) s.fields k ∙ f

      no_base : s.base ≡ None → IsNext shapes earlier (shape_over (length shapes) (length s.fields) None) s.fields
      no_base is = record {
        size = refl;
        below = λ n h. at_end n (among n (length shapes) [] h);
        field = λ n k t h f. field n k t (among n (length shapes) [] h) f;
        items = λ n t h f. last n (among n (length shapes) [] h);
        base = λ m other f g. let a : Some s ≡ Some other = sym here ∙ f in let b : s ≡ other = cc in let c : None ≡ Some m = sym is ∙ ap (λ s. s.base) b ∙ g in absurd (cc);
        whole = λ other f. let a : Some s ≡ Some other = sym here ∙ f in let b : s ≡ other = cc in ap (λ o. base_fields earlier o ++ s.fields) (sym is) ∙ ap (λ s. base_fields earlier s.base ++ s.fields) b;
      }
        where
          at_end : (n : ℕ) → (n ≡ length shapes) ⊎ (is_among n [] ≡ true) → n < suc (length shapes)
          at_end n (inl e) = omega (arith, e)
          at_end n (inr h) = absurd (cc)

          last : (n : ℕ) → (n ≡ length shapes) ⊎ (is_among n [] ≡ true) → n ≡ length shapes
          last n (inl e) = e
          last n (inr h) = absurd (cc)

          x : Shape
          x = shape_over (length shapes) (length s.fields) None

          field : (n k : ℕ) (t : LlType) → (n ≡ length shapes) ⊎ (is_among n [] ≡ true) → field_of (slice_get structs n) k ≡ Some t
              → slice_get s.fields (place (shape_at (shapes ++ shape_over (length shapes) (length s.fields) None ∷ []) n) k) ≡ Some t
          field n k t (inl e) f =
              let g : 0 + (k - 0) ≡ k = omega arith in
              ap (λ x. slice_get s.fields (place x k)) (ap (shape_at (shapes ++ shape_over (length shapes) (length s.fields) None ∷ [])) e ∙ new_at shapes (shape_over (length shapes) (length s.fields) None) no_shape)
              ∙ ap (slice_get s.fields) g ∙ own n k None t is e f
          field n k t (inr h) f = absurd (cc)

      with_base : (m : ℕ) → s.base ≡ Some m → m < length shapes → is_none (items_of (slice_get structs m)) ≡ true
          → IsNext shapes earlier (shape_over (length shapes) (length s.fields) (Some (shape_at shapes m))) (fields_at earlier m ++ s.fields)
      with_base m is lower none = record {
        size = omega (arith, laid.size m, length_both (fields_at earlier m) s.fields);
        below = λ n h. at_end n (among n (length shapes) (shape_at shapes m).bases h);
        field = λ n k t h f. field n k t (among n (length shapes) (shape_at shapes m).bases h) f;
        items = λ n t h f. last n t (among n (length shapes) (shape_at shapes m).bases h) f;
        base = λ k other f g. based k other f g;
        whole = λ other f. let a : Some s ≡ Some other = sym here ∙ f in let b : s ≡ other = cc in ap (λ o. base_fields earlier o ++ s.fields) (sym is) ∙ ap (λ s. base_fields earlier s.base ++ s.fields) b;
      }
        where
          based : (k : ℕ) (other : LlStruct) → slice_get structs (length shapes) ≡ Some other → other.base ≡ Some k → (k < length shapes) × (is_none (items_of (slice_get structs k)) ≡ true)
          based k other f g =
              let a : Some s ≡ Some other = sym here ∙ f in let b : s ≡ other = cc in let c : Some m ≡ Some k = sym is ∙ ap (λ s. s.base) b ∙ g in let d : m ≡ k = cc in
              (subst (λ k. k < length shapes) d lower, subst (λ k. is_none (items_of (slice_get structs k)) ≡ true) d none)

          at_end : (n : ℕ) → (n ≡ length shapes) ⊎ (is_among n (shape_at shapes m).bases ≡ true) → n < suc (length shapes)
          at_end n (inl e) = omega (arith, e)
          at_end n (inr h) = omega (arith, laid.below m n h)

          no_items : (o : Option LlType) (t : LlType) → is_none o ≡ true → o ≡ Some t → ⊥
          no_items None t h e = cc
          no_items (Some u) t h e = cc

          last : (n : ℕ) (t : LlType) → (n ≡ length shapes) ⊎ (is_among n (shape_at shapes m).bases ≡ true) → items_of (slice_get structs n) ≡ Some t → n ≡ length shapes
          last n t (inl e) f = e
          last n t (inr h) f = absurd (no_items (items_of (slice_get structs m)) t none (ap (λ n. items_of (slice_get structs n)) (sym (laid.items m n t h f)) ∙ f))

          field : (n k : ℕ) (t : LlType) → (n ≡ length shapes) ⊎ (is_among n (shape_at shapes m).bases ≡ true) → field_of (slice_get structs n) k ≡ Some t
              → slice_get (fields_at earlier m ++ s.fields) (place (shape_at (shapes ++ shape_over (length shapes) (length s.fields) (Some (shape_at shapes m)) ∷ []) n) k) ≡ Some t
          field n k t (inl e) f =
              ap (λ x. slice_get (fields_at earlier m ++ s.fields) (place x k))
              (ap (shape_at (shapes ++ shape_over (length shapes) (length s.fields) (Some (shape_at shapes m)) ∷ [])) e ∙ new_at shapes (shape_over (length shapes) (length s.fields) (Some (shape_at shapes m))) no_shape)
              ∙ base_place m (shape_at shapes m).size (laid.size m) k t (own n k (Some m) t is e f)
          field n k t (inr h) f =
              let lt : n < length shapes = laid.below m n h in
              let differ : n ≢ length shapes = λ e. absurd (omega (arith, lt, e)) in
              ap (λ x. slice_get (fields_at earlier m ++ s.fields) (place x k)) (old_at shapes (shape_over (length shapes) (length s.fields) (Some (shape_at shapes m))) no_shape n differ)
              ∙ get_left (fields_at earlier m) s.fields (place (shape_at shapes n) k) t (laid.field m n k t h f)

      next_fits : (b : Option ℕ) → s.base ≡ b → is_base structs (length shapes) b ≡ true → IsNext shapes earlier (shape_over (length shapes) (length s.fields) (base_of shapes b)) (base_fields earlier b ++ s.fields)
      next_fits None is ok = no_base is
      next_fits (Some m) is ok = with_base m is (is_less m _ (and_left _ _ ok)) (and_right _ _ ok)

  laid_from : (rest : List LlStruct) (shapes : List Shape) (earlier : List (List LlType)) → Laid shapes earlier → ((j : ℕ) → slice_get structs (length shapes + j) ≡ slice_get rest j)
      → structs_ok structs (length shapes) rest ≡ true → Laid (shapes_from shapes rest) (fields_from earlier rest)
  unfolding shapes_from fields_from
  laid_from [] shapes earlier laid stands ok = laid
  laid_from (s ∷ rest) shapes earlier laid stands ok =
      laid_from rest (shapes ++ next_shape shapes s ∷ []) (earlier ++ (base_fields earlier s.base ++ s.fields) ∷ [])
      (laid_on shapes earlier laid (next_shape shapes s) (base_fields earlier s.base ++ s.fields)
      (next_fits shapes earlier laid s (ap (slice_get structs) (omega arith) ∙ stands 0) s.base refl (and_left _ _ (and_left _ _ (and_left _ _ ok)))))
      (λ j. let e : length (shapes ++ next_shape shapes s ∷ []) + j ≡ length shapes + suc j = omega (arith, length_new shapes (next_shape shapes s)) in ap (slice_get structs) e ∙ stands (suc j))
      (let e : length shapes + 1 ≡ length (shapes ++ next_shape shapes s ∷ []) = omega (arith, length_new shapes (next_shape shapes s)) in subst (λ n. structs_ok structs n rest ≡ true) e (and_right _ _ ok))

  none_laid : Laid [] []
  none_laid = record {
    same = refl;
    size = λ n. refl;
    below = λ kind n h. absurd (cc);
    field = λ kind n k t h f. absurd (cc);
    items = λ kind n t h f. absurd (cc);
    base = λ kind m s lt. absurd (omega (arith, lt));
    whole = λ kind s lt. absurd (omega (arith, lt));
  }

  pub all_laid : structs_ok structs 0 structs ≡ true → Laid (shapes_of structs) (fields_from [] structs)
  all_laid ok = laid_from structs [] [] none_laid (λ j. ap (slice_get structs) (omega arith)) ok

  -- a shape for each struct
  length_from : (rest : List LlStruct) (shapes : List Shape) → length (shapes_from shapes rest) ≡ length shapes + length rest
  unfolding shapes_from
  length_from [] shapes = omega arith
  length_from (s ∷ rest) shapes = omega (arith, length_from rest (shapes ++ next_shape shapes s ∷ []), length_new shapes (next_shape shapes s))

  pub shapes_all : length (shapes_of structs) ≡ length structs
  shapes_all = omega (arith, length_from structs [])
