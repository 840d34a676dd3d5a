-- The structs of strings and of their table.
use Rattle.std.proofs.Common.{◌≡◌, ◌<◌, ℕ, zero, suc, ◌+◌, List, [], ◌∷◌, ◌++◌, length, None, refl, sym, ap, ◌∙◌, subst, arith, length-append}
use Rattle.std.specs.Prelude.{slice_index_or}
use Rattle.csub_tree.specs.Layout.{Shape, shape_at, no_shape, shape_over, base_of}
use Rattle.ll_code.specs.Machine.{next_shape, shapes_from, shapes_of}
use Rattle.ll_code.specs.declared.program.LlStruct.{LlStruct}
use Rattle.ll_texts.specs.Texts.{counted_shape}
use Rattle.ll_helpers.specs.Helpers.{table_struct}

module _ {A : Type 0} where
  index_first : (xs more : List A) (k : ℕ) (d : A) → k < length xs → slice_index_or (xs ++ more) k d ≡ slice_index_or xs k d
  index_first [] more k d h = absurd (omega arith)
  index_first (x ∷ xs) more zero d h = refl
  index_first (x ∷ xs) more (suc k) d h = index_first xs more k d (omega arith)

  index_last : (xs : List A) (x d : A) → slice_index_or (xs ++ x ∷ []) (length xs) d ≡ x
  index_last [] x d = refl
  index_last (y ∷ xs) x d = index_last xs x d

-- later structs change no shape
kept : (shapes : List Shape) (structs : List LlStruct) (n : ℕ) → n < length shapes → shape_at (shapes_from shapes structs) n ≡ shape_at shapes n
unfolding shapes_from
kept shapes [] n h = refl
kept shapes (s ∷ structs) n h = kept (shapes ++ next_shape shapes s ∷ []) structs n (omega (arith, h, length-append shapes (next_shape shapes s ∷ []))) ∙ index_first shapes (next_shape shapes s ∷ []) n no_shape h

at_number : (shapes : List Shape) (before more : List LlStruct) (s : LlStruct) → ((shapes : List Shape) → next_shape shapes s ≡ counted_shape (length shapes)) → shape_at (shapes_from shapes (before ++ s ∷ more)) (length shapes + length before) ≡ counted_shape (length shapes + length before)
unfolding shapes_from
at_number shapes [] more s is =
    let next : List Shape = shapes ++ next_shape shapes s ∷ [] in
    let e : length shapes + 0 ≡ length shapes = omega arith in
    ap (shape_at (shapes_from next more)) e
    ∙ kept next more (length shapes) (let l : length next ≡ length shapes + 1 = length-append shapes (next_shape shapes s ∷ []) in omega (arith, l))
    ∙ index_last shapes (next_shape shapes s) no_shape ∙ is shapes ∙ ap counted_shape (sym e)
at_number shapes (x ∷ before) more s is =
    let next : List Shape = shapes ++ next_shape shapes x ∷ [] in
    let e : length next + length before ≡ length shapes + length (x ∷ before) = (let l : length next ≡ length shapes + 1 = length-append shapes (next_shape shapes x ∷ []) in omega (arith, l)) in
    subst (λ n. shape_at (shapes_from next (before ++ s ∷ more)) n ≡ counted_shape n) e (at_number next before more s is)

pub table_shape : (structs more : List LlStruct) → shape_at (shapes_of (structs ++ table_struct ∷ more)) (length structs) ≡ counted_shape (length structs)
table_shape structs more = (let e : 0 + length structs ≡ length structs = omega arith in subst (λ n. shape_at (shapes_of (structs ++ table_struct ∷ more)) n ≡ counted_shape n) e (at_number [] structs more table_struct (λ shapes. refl)))

pub text_shape : (s : LlStruct) (more : List LlStruct) → s.base ≡ None → length s.fields ≡ 1 → shape_at (shapes_of (s ∷ more)) 0 ≡ counted_shape 0
text_shape s more base fields = at_number [] [] more s (λ shapes. ap (λ b. shape_over (length shapes) (length s.fields) (base_of shapes b)) base ∙ ap (λ n. shape_over (length shapes) n None) fields)
