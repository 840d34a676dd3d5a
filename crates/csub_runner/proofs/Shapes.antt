-- Shapes, one struct after another.
use Rattle.std.proofs.Common.{◌≡◌, ℕ, zero, suc, ◌+◌, ◌<◌, ◌≤◌, min, List, [], ◌∷◌, ◌++◌, length, drop, get_or, set, refl, ap, ◌∙◌, sym, arith, subst, Some, None, Bool, true, false, cond, ◌==◌}
use Rattle.std.specs.Prelude.{Option}
use Rattle.std.proofs.lemmas.Bool.Decides.{nat_tests}
use Rattle.csub_tree.specs.Layout.{Shape, shape_at, shape_over, base_of, is_among, begins_with, shapes_from, shapes_of, next_shape}
use Rattle.csub_tree.specs.declared.tree.CStruct.{CStruct}

shapes_cons : (shapes : List Shape) (s : CStruct) (structs : List CStruct) → shapes_from shapes (s ∷ structs) ≡ shapes_from (shapes ++ next_shape shapes s ∷ []) structs
unfolding shapes_from
shapes_cons shapes s structs = refl

shapes_nil : (shapes : List Shape) → shapes_from shapes [] ≡ shapes
unfolding shapes_from
shapes_nil shapes = refl

pub shapes_more : (shapes : List Shape) (structs : List CStruct) (i : ℕ) (s : CStruct) → i < length structs → s ≡ get_or structs i s
    → shapes_from shapes (drop i structs) ≡ shapes_from (shapes ++ next_shape shapes s ∷ []) (drop (i + 1) structs)
shapes_more shapes [] i s lt is = absurd (omega (arith, lt))
shapes_more shapes (t ∷ structs) zero s lt is = shapes_cons shapes t structs ∙ ap (λ x. shapes_from (shapes ++ next_shape shapes x ∷ []) structs) (sym is)
shapes_more shapes (t ∷ structs) (suc i) s lt is = let e : suc i + 1 ≡ suc (i + 1) = omega arith in
    shapes_more shapes structs i s (omega (arith, lt)) is ∙ ap (λ j. shapes_from (shapes ++ next_shape shapes s ∷ []) (drop j (t ∷ structs))) (sym e)

pub shapes_end : (shapes : List Shape) (structs : List CStruct) (i : ℕ) → length structs ≤ i → shapes_from shapes (drop i structs) ≡ shapes
shapes_end shapes [] zero le = shapes_nil shapes
shapes_end shapes [] (suc i) le = shapes_nil shapes
shapes_end shapes (t ∷ structs) zero le = absurd (omega (arith, le))
shapes_end shapes (t ∷ structs) (suc i) le = shapes_end shapes structs i (omega (arith, le))

-- from the number i on, each struct begins with itself
abbrev Own : ℕ → List Shape → Type 0
Own i [] = Unit {0}
Own i (shape ∷ shapes) = (is_among i shape.bases ≡ true) × Own (i + 1) shapes

own_push : (i : ℕ) (shapes : List Shape) (shape : Shape) → Own i shapes → is_among (i + length shapes) shape.bases ≡ true → Own i (shapes ++ shape ∷ [])
own_push i [] shape own e = let at : i + 0 ≡ i = omega arith in (subst (λ j. is_among j shape.bases ≡ true) at e, tt)
own_push i (s ∷ shapes) shape own e =
    let at : i + suc (length shapes) ≡ (i + 1) + length shapes = omega arith in
    (own.0, own_push (i + 1) shapes shape own.1 (subst (λ j. is_among j shape.bases ≡ true) at e))

own_at : (i n : ℕ) (shapes : List Shape) → Own i shapes → n < length shapes → is_among (i + n) (shape_at shapes n).bases ≡ true
own_at i n [] own lt = absurd (omega (arith, lt))
own_at i zero (s ∷ shapes) own lt = let at : i ≡ i + 0 = omega arith in subst (λ j. is_among j s.bases ≡ true) at own.0
own_at i (suc n) (s ∷ shapes) own lt =
    let at : (i + 1) + n ≡ i + suc n = omega arith in
    subst (λ j. is_among j (shape_at shapes n).bases ≡ true) at (own_at (i + 1) n shapes own.1 (omega (arith, lt)))

among_by : (n : ℕ) (rest t : Bool) → (n == n) ≡ t → cond t true rest ≡ true
among_by n rest true e = refl
among_by n rest false e = absurd (grind (arith, nat_tests))

shape_own : (n fields : ℕ) (base : Option Shape) → is_among n (shape_over n fields base).bases ≡ true
shape_own n fields None = among_by n (is_among n []) (n == n) refl
shape_own n fields (Some base) = among_by n (is_among n base.bases) (n == n) refl

own_from : (shapes : List Shape) (structs : List CStruct) → Own 0 shapes → Own 0 (shapes_from shapes structs)
own_from shapes [] own = subst (Own 0) (sym (shapes_nil shapes)) own
own_from shapes (s ∷ structs) own =
    let at : length shapes ≡ 0 + length shapes = omega arith in
    subst (Own 0) (sym (shapes_cons shapes s structs)) (own_from (shapes ++ next_shape shapes s ∷ []) structs
    (own_push 0 shapes (next_shape shapes s) own
    (subst (λ j. is_among j (next_shape shapes s).bases ≡ true) at (shape_own (length shapes) (length s.fields) (base_of shapes s.base)))))

-- each struct begins with itself
pub begins_itself : (shapes : List Shape) (structs : List CStruct) (n : ℕ) → shapes ≡ shapes_of structs → n < length shapes → begins_with shapes n n ≡ true
begins_itself shapes structs n e lt =
    let at : 0 + n ≡ n = omega arith in
    subst (λ j. is_among j (shape_at shapes n).bases ≡ true) at (own_at 0 n shapes (subst (Own 0) (sym e) (own_from [] structs tt)) lt)

-- a place behind the values
module _ {X : Type 0} where
  pub get_min : (xs : List X) (p : ℕ) (d : X) → get_or xs (min p (length xs)) d ≡ get_or xs p d
  get_min [] zero d = refl
  get_min [] (suc p) d = refl
  get_min (x ∷ xs) zero d = let e : min 0 (length (x ∷ xs)) ≡ 0 = omega arith in ap (λ j. get_or (x ∷ xs) j d) e
  get_min (x ∷ xs) (suc p) d = let e : min (suc p) (length (x ∷ xs)) ≡ suc (min p (length xs)) = omega arith in ap (λ j. get_or (x ∷ xs) j d) e ∙ get_min xs p d

  pub set_min : (xs : List X) (p : ℕ) (v : X) → set xs (min p (length xs)) v ≡ set xs p v
  set_min [] zero v = refl
  set_min [] (suc p) v = refl
  set_min (x ∷ xs) zero v = let e : min 0 (length (x ∷ xs)) ≡ 0 = omega arith in ap (λ j. set (x ∷ xs) j v) e
  set_min (x ∷ xs) (suc p) v = let e : min (suc p) (length (x ∷ xs)) ≡ suc (min p (length xs)) = omega arith in ap (λ j. set (x ∷ xs) j v) e ∙ ap (λ ys. x ∷ ys) (set_min xs p v)
