-- Structs have their shapes, by those of their bases.
use Rattle.std.proofs.Common.{◌≡◌, ◌<◌, ℕ, zero, suc, ◌+◌, List, [], ◌∷◌, ◌++◌, length, Option, Some, None, refl, sym, ap, ◌∙◌, arith, length-append}
use Rattle.std.specs.Prelude.{slice_get, slice_index_or}
use Rattle.csub_tree.specs.Layout.{Shape, no_shape, shape_at, shape_over, base_of}
use Rattle.ll_code.specs.declared.program.LlStruct.{LlStruct}
use Rattle.ll_code.specs.Machine.{next_shape, shapes_from, shapes_of}
use Rattle.layout_laws.proofs.Places.{same_some, no_some, get_left, get_right}

index_first : {A : Type 0} (xs more : List A) (k : ℕ) (d : A) → k < length xs → slice_index_or (xs ++ more) k d ≡ slice_index_or xs k d
index_first [] more k d h = absurd (omega (arith, h))
index_first (x ∷ xs) more zero d h = refl
index_first (x ∷ xs) more (suc k) d h = index_first xs more k d (omega (arith, h))

index_last : {A : Type 0} (xs : List A) (x d : A) → slice_index_or (xs ++ x ∷ []) (length xs) d ≡ x
index_last [] x d = refl
index_last (y ∷ xs) x d = index_last xs x d

length_more : (shapes : List Shape) (x : Shape) → length (shapes ++ x ∷ []) ≡ suc (length shapes)
length_more shapes x = omega (arith, length-append shapes (x ∷ []))

-- later structs change no shape
kept : (ss : List LlStruct) (shapes : List Shape) (k : ℕ) → k < length shapes → shape_at (shapes_from shapes ss) k ≡ shape_at shapes k
unfolding shapes_from
kept [] shapes k lt = refl
kept (s ∷ ss) shapes k lt =
    kept ss (shapes ++ next_shape shapes s ∷ []) k (omega (arith, lt, length_more shapes (next_shape shapes s))) ∙ index_first shapes (next_shape shapes s ∷ []) k no_shape lt

base_same : (ss : List LlStruct) (shapes : List Shape) (b : Option ℕ) → ((m : ℕ) → b ≡ Some m → m < length shapes) → base_of shapes b ≡ base_of (shapes_from shapes ss) b
base_same ss shapes None lt = refl
base_same ss shapes (Some m) lt = ap Some (sym (kept ss shapes m (lt m refl)))

shape_from : (ss : List LlStruct) (shapes : List Shape) (j : ℕ) (s : LlStruct) → slice_get ss j ≡ Some s → ((m : ℕ) → s.base ≡ Some m → m < length shapes + j)
    → shape_at (shapes_from shapes ss) (length shapes + j) ≡ shape_over (length shapes + j) (length s.fields) (base_of (shapes_from shapes ss) s.base)
unfolding shapes_from
shape_from [] shapes j s e lt = absurd (no_some e)
shape_from (t ∷ ss) shapes zero s e lt =
    let f : t ≡ s = same_some e in
    let z : length shapes + 0 ≡ length shapes = omega arith in
    let x : Shape = next_shape shapes t in
    ap (shape_at (shapes_from (shapes ++ x ∷ []) ss)) z ∙ kept ss (shapes ++ x ∷ []) (length shapes) (omega (arith, length_more shapes x)) ∙ index_last shapes x no_shape
    ∙ ap (λ t. next_shape shapes t) f ∙ ap (λ n. shape_over n (length s.fields) (base_of shapes s.base)) (sym z)
    ∙ ap (shape_over (length shapes + 0) (length s.fields)) (base_same (t ∷ ss) shapes s.base (λ m b. let l : m < length shapes + 0 = lt m b in omega (arith, l)))
shape_from (t ∷ ss) shapes (suc j) s e lt =
    let x : Shape = next_shape shapes t in
    let z : length shapes + suc j ≡ length (shapes ++ x ∷ []) + j = omega (arith, length_more shapes x) in
    ap (shape_at (shapes_from (shapes ++ x ∷ []) ss)) z ∙ shape_from ss (shapes ++ x ∷ []) j s e (λ m b. let l : m < length shapes + suc j = lt m b in omega (arith, l, z))
    ∙ ap (λ n. shape_over n (length s.fields) (base_of (shapes_from (shapes ++ x ∷ []) ss) s.base)) (sym z)

-- a base is an earlier struct
pub shape_is : (structs : List LlStruct) (n : ℕ) (s : LlStruct) → slice_get structs n ≡ Some s → ((m : ℕ) → s.base ≡ Some m → m < n) → shape_at (shapes_of structs) n ≡ shape_over n (length s.fields) (base_of (shapes_of structs) s.base)
shape_is structs n s e lt =
    let z : 0 + n ≡ n = omega arith in
    ap (shape_at (shapes_of structs)) (sym z) ∙ shape_from structs [] n s e (λ m b. let l : m < n = lt m b in omega (arith, l)) ∙ ap (λ k. shape_over k (length s.fields) (base_of (shapes_of structs) s.base)) z

length_all : (ss : List LlStruct) (shapes : List Shape) → length (shapes_from shapes ss) ≡ length shapes + length ss
unfolding shapes_from
length_all [] shapes = omega arith
length_all (s ∷ ss) shapes = omega (arith, length_all ss (shapes ++ next_shape shapes s ∷ []), length_more shapes (next_shape shapes s))

both : (ss more : List LlStruct) (shapes : List Shape) → shapes_from shapes (ss ++ more) ≡ shapes_from (shapes_from shapes ss) more
unfolding shapes_from
both [] more shapes = refl
both (s ∷ ss) more shapes = both ss more (shapes ++ next_shape shapes s ∷ [])

-- structs behind others change none of these
pub shape_kept : (ss more : List LlStruct) (n : ℕ) → n < length ss → shape_at (shapes_of (ss ++ more)) n ≡ shape_at (shapes_of ss) n
shape_kept ss more n lt = ap (λ shapes. shape_at shapes n) (both ss more []) ∙ kept more (shapes_of ss) n (omega (arith, lt, length_all ss []))

-- a struct without a base, of so many fields
pub record Plain (structs : List LlStruct) (n fields : ℕ) : Type 0 where
  pub struct : LlStruct
  pub is : slice_get structs n ≡ Some struct
  pub base : struct.base ≡ None
  pub count : length struct.fields ≡ fields

pub plain_shape : (structs : List LlStruct) (n fields : ℕ) → Plain structs n fields → shape_at (shapes_of structs) n ≡ shape_over n fields None
plain_shape structs n fields p =
    shape_is structs n p.struct p.is (λ m b. absurd (no_some (sym p.base ∙ b)))
    ∙ ap (λ b. shape_over n (length p.struct.fields) (base_of (shapes_of structs) b)) p.base ∙ ap (λ k. shape_over n k None) p.count

pub plain_left : (xs ys : List LlStruct) (n fields : ℕ) → Plain xs n fields → Plain (xs ++ ys) n fields
plain_left xs ys n fields p = record { struct = p.struct; is = get_left xs ys n p.struct p.is; base = p.base; count = p.count }

pub plain_right : (xs ys : List LlStruct) (n i fields : ℕ) → n ≡ length xs + i → Plain ys i fields → Plain (xs ++ ys) n fields
plain_right xs ys n i fields e p = record { struct = p.struct; is = get_right xs ys n i e ∙ p.is; base = p.base; count = p.count }
