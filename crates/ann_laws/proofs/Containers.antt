-- Rows of tuples, indexes and displays.
use Rattle.std.proofs.Common.{◌≡◌, ◌≤◌, ℕ, zero, suc, Bool, true, false, List, [], ◌∷◌, length, Option, Some, None, refl, ap, ◌∙◌, arith}
use Rattle.std.specs.Prelude.{ℤ, pos, negsuc, ◌==◌, ◌||◌, not, nat_le}
use Rattle.std.proofs.lemmas.Bool.{leb-true, le-leb}
use Rattle.rpy_tree.specs.declared.program.ClassInfo.{ClassInfo}
use Rattle.ann_lattice.specs.Shape.{One, Shape, NoneOnly, Str, Tup, Shapes, shapes_of, items}
use Rattle.ann_lattice.specs.Order.{Below, least, none, str, tuple, clash, Each, no_more, and_more}
use Rattle.ann_lattice.specs.Join.{is_clash, no_clash, depth, depths}
use Rattle.ann_lattice.specs.Laws.{IsFormed, is_sound, are_sound}
use Rattle.ann_lattice.specs.Kind.{given, is_int, is_positive, is_bool, is_str, all_positive}
use Rattle.ann_lattice.specs.Row as row
use Rattle.ann_laws.proofs.Pairs.{no, yes, Pair, nones, or_str, or_list, or_dict, strs, tups, lsts, dcts, Rises, unpair, given_rises, given_below, and_down, or_down, and_left, and_right, both}
use Rattle.ann_laws.proofs.Smaller.{int_down, positive_down, bool_down, str_down}
use Rattle.ann_laws.proofs.Numbers.{slice_rises}

-- an element that is reached, one above it that is free of conflict, and is well-formed
pub record Operand (k : List ClassInfo) (u : List ℕ) (x y : Shape) : Type 0 where
  pub pair : Pair k u x y
  pub formed : IsFormed y

abbrev pub AllPairs : List ClassInfo → List ℕ → List Shape → List Shape → Type 0
AllPairs k u [] [] = Unit {0}
AllPairs k u [] (y ∷ ys) = ⊥
AllPairs k u (x ∷ xs) [] = ⊥
AllPairs k u (x ∷ xs) (y ∷ ys) = Operand k u x y × AllPairs k u xs ys

not_true : (b : Bool) → not b ≡ true → b ≡ false
not_true true e = absurd (no e)
not_true false e = refl

module _ (k : List ClassInfo) (u : List ℕ) where
  -- ---- items

  nth_rises : (xs ys : Shapes) (n : ℕ) → Each k u xs ys → Rises k u (row.nth xs n) (row.nth ys n)
  nth_rises _ _ n no_more = λ e. absurd (yes e)
  nth_rises _ _ zero (and_more x y xs ys h hs) = λ e. h
  nth_rises _ _ (suc n) (and_more x y xs ys h hs) = nth_rises xs ys n hs

  literal_rises : (literal : Option ℤ) (xs ys : Shapes) → Each k u xs ys → Rises k u (row.at_literal literal xs) (row.at_literal literal ys)
  literal_rises None xs ys h = λ e. absurd (yes e)
  literal_rises (Some (pos n)) xs ys h = nth_rises xs ys n h
  literal_rises (Some (negsuc n)) xs ys h = λ e. absurd (yes e)

  pub index_rises : (literal : Option ℤ) (x y v w a b : Shape) → Pair k u x y → Pair k u v w → Below k u a b → Rises k u (row.index literal x v a) (row.index literal y w b)
  index_rises literal _ _ v w a b nones q h = λ e. least _
  index_rises literal _ _ v w a b or_str q h = λ e. least _
  index_rises literal _ _ v w a b (or_list s) q h = λ e. least _
  index_rises literal _ _ v w a b (or_dict s) q h = λ e. least _
  index_rises literal _ _ v w a b (dcts s t c d i j) q h = λ e. h
  index_rises literal _ _ v w a b (tups xs ys i) q h = literal_rises literal xs ys i
  index_rises literal _ _ v w a b (lsts s t c d i j) q h = given_below k u (is_int v) (is_int w) a b (int_down k u v w q) h
  index_rises literal _ _ v w a b (strs c d i) q h = given_below k u (is_int v) (is_int w) (Str One) (Str One) (int_down k u v w q) (str One One tt)
  index_rises literal _ _ v w a b p q h = λ e. absurd (yes e)

  count_same : (xs ys : Shapes) → Each k u xs ys → length (items xs) ≡ length (items ys)
  count_same _ _ no_more = refl
  count_same _ _ (and_more x y xs ys h hs) = ap suc (count_same xs ys hs)

  pub unpack_rises : (n place : ℕ) (x y : Shape) → Pair k u x y → Rises k u (row.unpack n place x) (row.unpack n place y)
  unpack_rises n place _ _ (tups xs ys h) =
      given_rises k u (length (items xs) == n) (length (items ys) == n) (row.nth xs place) (row.nth ys place) (λ e. ap (λ m. m == n) (count_same xs ys h) ∙ e) (λ e. nth_rises xs ys place h)
  unpack_rises n place _ _ p = λ e. absurd (yes e)

  -- ---- how many tuples stand inside one another

  mutual
    depth_down : (x y : Shape) → Below k u x y → is_sound y ≡ true → is_clash y ≡ false → depth x ≤ depth y
    depth_down _ _ (least y) s f = omega arith
    depth_down _ _ (tuple xs ys h) s f =
        let i : depths xs ≤ depths ys = depths_down xs ys h (and_right (no_clash ys) (are_sound ys) s) (and_left (no_clash ys) (are_sound ys) s) in
        omega (arith, i)
    depth_down _ _ (clash x o p h j) s f = absurd (yes f)
    depth_down _ _ h s f = omega arith

    depths_down : (xs ys : Shapes) → Each k u xs ys → are_sound ys ≡ true → no_clash ys ≡ true → depths xs ≤ depths ys
    depths_down _ _ no_more s f = omega arith
    depths_down _ _ (and_more x y xs ys h hs) s f =
        let i : depth x ≤ depth y = depth_down x y h (and_left (is_sound y) (are_sound ys) s) (not_true (is_clash y) (and_left (not (is_clash y)) (no_clash ys) f)) in
        let j : depths xs ≤ depths ys = depths_down xs ys hs (and_right (is_sound y) (are_sound ys) s) (and_right (not (is_clash y)) (no_clash ys) f) in
        omega (arith, i, j)

  free : (x y : Shape) → Pair k u x y → is_clash y ≡ false
  free _ _ nones = refl
  free _ _ p = refl

  all_free : (xs ys : List Shape) → AllPairs k u xs ys → no_clash (shapes_of ys) ≡ true
  all_free [] [] h = refl
  all_free [] (y ∷ ys) h = absurd h
  all_free (x ∷ xs) [] h = absurd h
  all_free (x ∷ xs) (y ∷ ys) h = both (not (is_clash y)) (no_clash (shapes_of ys)) (ap not (free x y h.0.pair)) (all_free xs ys h.1)

  all_sound : (xs ys : List Shape) → AllPairs k u xs ys → are_sound (shapes_of ys) ≡ true
  all_sound [] [] h = refl
  all_sound [] (y ∷ ys) h = absurd h
  all_sound (x ∷ xs) [] h = absurd h
  all_sound (x ∷ xs) (y ∷ ys) h = both (is_sound y) (are_sound (shapes_of ys)) h.0.formed.sound (all_sound xs ys h.1)

  each_of : (xs ys : List Shape) → AllPairs k u xs ys → Each k u (shapes_of xs) (shapes_of ys)
  each_of [] [] h = no_more
  each_of [] (y ∷ ys) h = absurd h
  each_of (x ∷ xs) [] h = absurd h
  each_of (x ∷ xs) (y ∷ ys) h = and_more x y (shapes_of xs) (shapes_of ys) (unpair k u x y h.0.pair) (each_of xs ys h.1)

  pub tuple_rises : (xs ys : List Shape) → AllPairs k u xs ys → Rises k u (row.tuple xs) (row.tuple ys)
  tuple_rises xs ys h =
      let t : Below k u (Tup (shapes_of xs)) (Tup (shapes_of ys)) = tuple (shapes_of xs) (shapes_of ys) (each_of xs ys h) in
      let d : depth (Tup (shapes_of xs)) ≤ depth (Tup (shapes_of ys)) =
      depth_down (Tup (shapes_of xs)) (Tup (shapes_of ys)) t (both (no_clash (shapes_of ys)) (are_sound (shapes_of ys)) (all_free xs ys h) (all_sound xs ys h)) refl in
      given_below k u (nat_le (depth (Tup (shapes_of xs))) 8) (nat_le (depth (Tup (shapes_of ys))) 8) (Tup (shapes_of xs)) (Tup (shapes_of ys))
      (λ e. le-leb (depth (Tup (shapes_of xs))) 8 (omega (arith, d, leb-true (depth (Tup (shapes_of ys))) 8 e))) t

  -- ---- slices and printing

  positive_all : (xs ys : List Shape) → AllPairs k u xs ys → all_positive ys ≡ true → all_positive xs ≡ true
  positive_all [] [] h e = refl
  positive_all [] (y ∷ ys) h e = absurd h
  positive_all (x ∷ xs) [] h e = absurd h
  positive_all (x ∷ xs) (y ∷ ys) h e = and_down (is_positive x) (all_positive xs) (is_positive y) (all_positive ys) (positive_down k u x y h.0.pair) (positive_all xs ys h.1) e

  pub bounded_rises : (site : ℕ) (xs ys : List Shape) → AllPairs k u xs ys → Rises k u (row.bounded_slice site xs) (row.bounded_slice site ys)
  bounded_rises site [] [] h = λ e. absurd (yes e)
  bounded_rises site [] (y ∷ ys) h = absurd h
  bounded_rises site (x ∷ xs) [] h = absurd h
  bounded_rises site (x ∷ xs) (y ∷ ys) h =
      given_rises k u (all_positive xs) (all_positive ys) (row.slice site x) (row.slice site y) (positive_all xs ys h.1) (λ e. slice_rises k u site x y h.0.pair)

  printed_down : (x y : Shape) → Pair k u x y → (is_int y || is_bool y || is_str y) ≡ true → (is_int x || is_bool x || is_str x) ≡ true
  printed_down x y p = or_down (is_int x || is_bool x) (is_str x) (is_int y || is_bool y) (is_str y)
      (or_down (is_int x) (is_bool x) (is_int y) (is_bool y) (int_down k u x y p) (bool_down k u x y p)) (str_down k u x y p)

  printed_all : (xs ys : List Shape) → AllPairs k u xs ys → row.can_be_printed ys ≡ true → row.can_be_printed xs ≡ true
  printed_all [] [] h e = refl
  printed_all [] (y ∷ ys) h e = absurd h
  printed_all (x ∷ xs) [] h e = absurd h
  printed_all (x ∷ xs) (y ∷ ys) h e =
      and_down (is_int x || is_bool x || is_str x) (row.can_be_printed xs) (is_int y || is_bool y || is_str y) (row.can_be_printed ys)
      (printed_down x y h.0.pair) (printed_all xs ys h.1) e

  pub print_rises : (xs ys : List Shape) → AllPairs k u xs ys → Rises k u (given (row.can_be_printed xs) NoneOnly) (given (row.can_be_printed ys) NoneOnly)
  print_rises xs ys h = given_below k u (row.can_be_printed xs) (row.can_be_printed ys) NoneOnly NoneOnly (printed_all xs ys h) none
