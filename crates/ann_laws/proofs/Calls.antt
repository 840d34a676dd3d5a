-- Rows of methods.
use Rattle.std.proofs.Common.{◌≡◌, ◌≤◌, ◌<◌, ◌≢◌, ◌+◌, ℕ, zero, suc, Bool, true, false, List, [], ◌∷◌, length, min, Option, Some, None, refl, sym, ap, ◌∙◌, arith}
use Rattle.std.specs.Prelude.{◌==◌, ◌&&◌, ◌||◌, is_some, slice_get, nat_lt}
use Rattle.std.proofs.lemmas.Bool.{eqb-true, eqb-false, ltb-true, ltb-false}
use Rattle.std.proofs.lemmas.Option.{slice_get_past}
use Rattle.rpy_tree.specs.declared.program.ClassInfo.{ClassInfo}
use Rattle.class_desc.specs.Line as line
use Rattle.ann_lattice.specs.declared.method.Method.{Method}
use Rattle.ann_lattice.specs.declared.method.Method.TheVariants as m
use Rattle.ann_lattice.specs.Shape.{One, Any, OrNone, Shape, Nothing, NoneOnly, Truth, Num, Str, Lst}
use Rattle.ann_lattice.specs.Order.{Below, least, none, truth, num, str, list, clash}
use Rattle.ann_lattice.specs.Join.{is_clash}
use Rattle.ann_lattice.specs.Laws.{IsTree}
use Rattle.ann_lattice.specs.Assign.{Under}
use Rattle.ann_lattice.specs.Kind.{misfit, given, is_char, is_str}
use Rattle.ann_lattice.specs.Methods.{method_named, no_args, one_str, one_char, one_arg, one_or_two, place_and_value, none_or_int, one_list_or_none, can_be_joined, joined, own_list, text_method, extended, list_method, got, dict_method, takes_none, has_method, some_method, is_class_method, method}
use Rattle.ann_lattice.proofs.Ordered.{below_on}
use Rattle.ann_laws.proofs.Pairs.{no, yes, Pair, nones, or_str, or_list, or_dict, or_inst, strs, lsts, dcts, insts, Rises, unpair, given_below, and_down, or_down, or_first, or_second}
use Rattle.ann_laws.proofs.Smaller.{int_down, positive_down, str_down, char_down}
use Rattle.ann_laws.proofs.Containers.{AllPairs}
use Rattle.ann_laws.proofs.Instances.{method_down}

module _ (k : List ClassInfo) (u : List ℕ) where
  -- ---- arguments

  no_args_down : (xs ys : List Shape) → AllPairs k u xs ys → no_args ys ≡ true → no_args xs ≡ true
  no_args_down [] [] h e = refl
  no_args_down [] (y ∷ ys) h e = absurd h
  no_args_down (x ∷ xs) [] h e = absurd h
  no_args_down (x ∷ xs) (y ∷ ys) h e = absurd (no e)

  one_str_down : (xs ys : List Shape) → AllPairs k u xs ys → one_str ys ≡ true → one_str xs ≡ true
  one_str_down [] [] h e = e
  one_str_down [] (y ∷ ys) h e = absurd h
  one_str_down (x ∷ xs) [] h e = absurd h
  one_str_down (x ∷ []) (y ∷ []) h e = str_down k u x y h.0.pair e
  one_str_down (x ∷ []) (y ∷ w ∷ ys) h e = absurd h.1
  one_str_down (x ∷ v ∷ xs) (y ∷ []) h e = absurd h.1
  one_str_down (x ∷ v ∷ xs) (y ∷ w ∷ ys) h e = absurd (no e)

  one_char_down : (xs ys : List Shape) → AllPairs k u xs ys → one_char ys ≡ true → one_char xs ≡ true
  one_char_down [] [] h e = e
  one_char_down [] (y ∷ ys) h e = absurd h
  one_char_down (x ∷ xs) [] h e = absurd h
  one_char_down (x ∷ []) (y ∷ []) h e = char_down k u x y h.0.pair e
  one_char_down (x ∷ []) (y ∷ w ∷ ys) h e = absurd h.1
  one_char_down (x ∷ v ∷ xs) (y ∷ []) h e = absurd h.1
  one_char_down (x ∷ v ∷ xs) (y ∷ w ∷ ys) h e = absurd (no e)

  one_arg_down : (xs ys : List Shape) → AllPairs k u xs ys → one_arg ys ≡ true → one_arg xs ≡ true
  one_arg_down [] [] h e = e
  one_arg_down [] (y ∷ ys) h e = absurd h
  one_arg_down (x ∷ xs) [] h e = absurd h
  one_arg_down (x ∷ []) (y ∷ []) h e = refl
  one_arg_down (x ∷ []) (y ∷ w ∷ ys) h e = absurd h.1
  one_arg_down (x ∷ v ∷ xs) (y ∷ []) h e = absurd h.1
  one_arg_down (x ∷ v ∷ xs) (y ∷ w ∷ ys) h e = absurd (no e)

  place_down : (xs ys : List Shape) → AllPairs k u xs ys → place_and_value ys ≡ true → place_and_value xs ≡ true
  place_down [] [] h e = e
  place_down [] (y ∷ ys) h e = absurd h
  place_down (x ∷ xs) [] h e = absurd h
  place_down (x ∷ []) (y ∷ []) h e = absurd (no e)
  place_down (x ∷ []) (y ∷ w ∷ ys) h e = absurd h.1
  place_down (x ∷ v ∷ xs) (y ∷ []) h e = absurd h.1
  place_down (x ∷ v ∷ []) (y ∷ w ∷ []) h e = positive_down k u x y h.0.pair e
  place_down (x ∷ v ∷ []) (y ∷ w ∷ b ∷ ys) h e = absurd h.1.1
  place_down (x ∷ v ∷ a ∷ xs) (y ∷ w ∷ []) h e = absurd h.1.1
  place_down (x ∷ v ∷ a ∷ xs) (y ∷ w ∷ b ∷ ys) h e = absurd (no e)

  none_or_int_down : (xs ys : List Shape) → AllPairs k u xs ys → none_or_int ys ≡ true → none_or_int xs ≡ true
  none_or_int_down [] [] h e = e
  none_or_int_down [] (y ∷ ys) h e = absurd h
  none_or_int_down (x ∷ xs) [] h e = absurd h
  none_or_int_down (x ∷ []) (y ∷ []) h e = int_down k u x y h.0.pair e
  none_or_int_down (x ∷ []) (y ∷ w ∷ ys) h e = absurd h.1
  none_or_int_down (x ∷ v ∷ xs) (y ∷ []) h e = absurd h.1
  none_or_int_down (x ∷ v ∷ xs) (y ∷ w ∷ ys) h e = absurd (no e)

  -- ---- strings

  joined_item : (a b : Shape) → Below k u a b → can_be_joined b ≡ true → can_be_joined a ≡ true
  joined_item _ _ (least y) e = refl
  joined_item _ _ (str One b h) e = refl
  joined_item _ _ (str Any b h) e = refl
  joined_item _ _ (str OrNone OrNone h) e = absurd (no e)
  joined_item _ _ (str OrNone One h) e = absurd h
  joined_item _ _ (str OrNone Any h) e = absurd h
  joined_item _ _ h e = absurd (no e)

  a_str : Below k u (Str Any) (Str Any)
  a_str = str Any Any tt

  join_pair : (x y v w a b : Shape) → Pair k u x y → Pair k u v w → Below k u a b → Rises k u (joined x (v ∷ []) a) (joined y (w ∷ []) b)
  join_pair x y _ _ a b p (lsts s t false false i j) h =
      given_below k u (is_str x && can_be_joined a) (is_str y && can_be_joined b) (Str Any) (Str Any)
      (and_down (is_str x) (can_be_joined a) (is_str y) (can_be_joined b) (str_down k u x y p) (joined_item a b h)) a_str
  join_pair x y _ _ a b p (lsts s t true false i j) h = absurd j
  join_pair x y _ _ a b p q h = λ e. absurd (yes e)

  join_rises : (x y : Shape) (xs ys : List Shape) (a b : Shape) → Pair k u x y → AllPairs k u xs ys → Below k u a b → Rises k u (joined x xs a) (joined y ys b)
  join_rises x y [] [] a b p h i = λ e. absurd (yes e)
  join_rises x y [] (w ∷ ys) a b p h i = absurd h
  join_rises x y (v ∷ xs) [] a b p h i = absurd h
  join_rises x y (v ∷ []) (w ∷ []) a b p h i = join_pair x y v w a b p h.0.pair i
  join_rises x y (v ∷ []) (w ∷ d ∷ ys) a b p h i = absurd h.1
  join_rises x y (v ∷ c ∷ xs) (w ∷ []) a b p h i = absurd h.1
  join_rises x y (v ∷ c ∷ xs) (w ∷ d ∷ ys) a b p h i = long w d ys
    where
      long : (w d : Shape) (ys : List Shape) → Rises k u (joined x (v ∷ c ∷ xs) a) (joined y (w ∷ d ∷ ys) b)
      long (Lst s false) d ys = λ e. absurd (yes e)
      long w d ys = λ e. absurd (yes e)

  own_list_rises : (site : Option ℕ) (b c : Bool) → (c ≡ true → b ≡ true) → Rises k u (own_list site b) (own_list site c)
  own_list_rises None b c f = λ e. absurd (yes e)
  own_list_rises (Some s) b c f = given_below k u b c (Lst s false) (Lst s false) f (list s s false false refl tt)

  bool_rises : (b c : Bool) → (c ≡ true → b ≡ true) → Rises k u (given b (Truth None)) (given c (Truth None))
  bool_rises b c f = given_below k u b c (Truth None) (Truth None) f (truth None None tt)

  char_rises : (x y : Shape) (xs ys : List Shape) → Pair k u x y → AllPairs k u xs ys → Rises k u (given (is_char x && no_args xs) (Truth None)) (given (is_char y && no_args ys) (Truth None))
  char_rises x y xs ys p h = bool_rises (is_char x && no_args xs) (is_char y && no_args ys)
      (and_down (is_char x) (no_args xs) (is_char y) (no_args ys) (char_down k u x y p) (no_args_down xs ys h))

  text_rises : (n : Method) (site : Option ℕ) (x y : Shape) (xs ys : List Shape) (a b : Shape) → Pair k u x y → AllPairs k u xs ys → Below k u a b
      → Rises k u (text_method n site x xs a) (text_method n site y ys b)
  text_rises m.Join site x y xs ys a b p h i = join_rises x y xs ys a b p h i
  text_rises m.Split site x y xs ys a b p h i = own_list_rises site (one_char xs) (one_char ys) (one_char_down xs ys h)
  text_rises m.Find site x y xs ys a b p h i = given_below k u (one_str xs) (one_str ys) (Num true) (Num true) (one_str_down xs ys h) (num true true tt)
  text_rises m.StartsWith site x y xs ys a b p h i = bool_rises (one_str xs) (one_str ys) (one_str_down xs ys h)
  text_rises m.EndsWith site x y xs ys a b p h i = bool_rises (one_str xs) (one_str ys) (one_str_down xs ys h)
  text_rises m.Strip site x y xs ys a b p h i = given_below k u (no_args xs) (no_args ys) (Str Any) (Str Any) (no_args_down xs ys h) a_str
  text_rises m.IsDigit site x y xs ys a b p h i = char_rises x y xs ys p h
  text_rises m.IsAlpha site x y xs ys a b p h i = char_rises x y xs ys p h
  text_rises m.IsSpace site x y xs ys a b p h i = char_rises x y xs ys p h
  text_rises n site x y xs ys a b p h i = λ e. absurd (yes e)

  -- ---- lists

  extended_pair : (x y : Shape) → Pair k u x y → Rises k u (extended (x ∷ [])) (extended (y ∷ []))
  extended_pair _ _ nones = λ e. least _
  extended_pair _ _ (or_list s) = λ e. least _
  extended_pair _ _ (lsts s v a b i j) = λ e. none
  extended_pair _ _ p = λ e. absurd (yes e)

  extended_long : (x y : Shape) (ys : List Shape) (z : Shape) → Rises k u z (extended (x ∷ y ∷ ys))
  extended_long NoneOnly y ys z = λ e. absurd (yes e)
  extended_long (Lst s n) y ys z = λ e. absurd (yes e)
  extended_long x y ys z = λ e. absurd (yes e)

  extended_rises : (xs ys : List Shape) → AllPairs k u xs ys → Rises k u (extended xs) (extended ys)
  extended_rises [] [] h = λ e. absurd (yes e)
  extended_rises [] (y ∷ ys) h = absurd h
  extended_rises (x ∷ xs) [] h = absurd h
  extended_rises (x ∷ []) (y ∷ []) h = extended_pair x y h.0.pair
  extended_rises (x ∷ []) (y ∷ w ∷ ys) h = absurd h.1
  extended_rises (x ∷ v ∷ xs) (y ∷ []) h = absurd h.1
  extended_rises (x ∷ v ∷ xs) (y ∷ w ∷ ys) h = extended_long y w ys (extended (x ∷ v ∷ xs))

  list_rises : (n : Method) (xs ys : List Shape) (a b : Shape) → AllPairs k u xs ys → Below k u a b → Rises k u (list_method n xs a) (list_method n ys b)
  list_rises m.Append xs ys a b h i = given_below k u (one_arg xs) (one_arg ys) NoneOnly NoneOnly (one_arg_down xs ys h) none
  list_rises m.Insert xs ys a b h i = given_below k u (place_and_value xs) (place_and_value ys) NoneOnly NoneOnly (place_down xs ys h) none
  list_rises m.Extend xs ys a b h i = extended_rises xs ys h
  list_rises m.Reverse xs ys a b h i = given_below k u (no_args xs) (no_args ys) NoneOnly NoneOnly (no_args_down xs ys h) none
  list_rises m.Pop xs ys a b h i = given_below k u (none_or_int xs) (none_or_int ys) a b (none_or_int_down xs ys h) i
  list_rises n xs ys a b h i = λ e. absurd (yes e)

  -- ---- what is free and above the pieces

  pub no_misfit : (z : Shape) → is_clash z ≡ false → Below k u misfit z → ⊥
  no_misfit z f (clash _ o p h j) = yes f

  pub above_clash : (y z : Shape) → is_clash z ≡ false → Below k u y z → is_clash y ≡ false
  above_clash _ _ f (least y) = refl
  above_clash _ _ f (clash y o p h j) = absurd (yes f)
  above_clash _ _ f h = refl

  module _ (tree : IsTree k) where
    pub on_one : (x y z : Shape) → is_clash z ≡ false → Rises k u x y → Under k u (y ∷ []) z → Under k u (x ∷ []) z
    on_one x y z f r h = (below_on k tree u x y (r (above_clash y z f h.0)) z h.0, tt)

    -- ---- dicts

    got_down : (xs ys : List Shape) (a b z : Shape) → AllPairs k u xs ys → Below k u a b → is_clash z ≡ false → Under k u (got ys b) z → Under k u (got xs a) z
    got_down [] [] a b z h i f g = g
    got_down [] (y ∷ ys) a b z h i f g = absurd h
    got_down (x ∷ xs) [] a b z h i f g = absurd h
    got_down (x ∷ []) (y ∷ []) a b z h i f g = (below_on k tree u a b i z g.0, g.1)
    got_down (x ∷ []) (y ∷ w ∷ ys) a b z h i f g = absurd h.1
    got_down (x ∷ v ∷ xs) (y ∷ []) a b z h i f g = absurd h.1
    got_down (x ∷ v ∷ []) (y ∷ w ∷ []) a b z h i f g =
        (below_on k tree u a b i z g.0, (below_on k tree u v w (unpair k u v w h.1.0.pair) z g.1.0, tt))
    got_down (x ∷ v ∷ []) (y ∷ w ∷ d ∷ ys) a b z h i f g = absurd h.1.1
    got_down (x ∷ v ∷ c ∷ xs) (y ∷ w ∷ []) a b z h i f g = absurd h.1.1
    got_down (x ∷ v ∷ c ∷ xs) (y ∷ w ∷ d ∷ ys) a b z h i f g = absurd (no_misfit z f g.0)

    dict_down : (n : Method) (site : Option ℕ) (xs ys : List Shape) (a b z : Shape) → AllPairs k u xs ys → Below k u a b → is_clash z ≡ false
        → Under k u (dict_method n site ys b) z → Under k u (dict_method n site xs a) z
    dict_down m.Get site xs ys a b z h i f g = got_down xs ys a b z h i f g
    dict_down m.Keys site xs ys a b z h i f g = on_one (own_list site (no_args xs)) (own_list site (no_args ys)) z f (own_list_rises site (no_args xs) (no_args ys) (no_args_down xs ys h)) g
    dict_down m.Values site xs ys a b z h i f g = on_one (own_list site (no_args xs)) (own_list site (no_args ys)) z f (own_list_rises site (no_args xs) (no_args ys) (no_args_down xs ys h)) g
    dict_down m.Items site xs ys a b z h i f g = on_one (own_list site (no_args xs)) (own_list site (no_args ys)) z f (own_list_rises site (no_args xs) (no_args ys) (no_args_down xs ys h)) g
    dict_down n site xs ys a b z h i f g = absurd (no_misfit z f g.0)

    -- ---- `None` as the receiver

    one_or_two_down : (xs ys : List Shape) → AllPairs k u xs ys → one_or_two ys ≡ true → one_or_two xs ≡ true
    one_or_two_down [] [] h e = e
    one_or_two_down [] (y ∷ ys) h e = absurd h
    one_or_two_down (x ∷ xs) [] h e = absurd h
    one_or_two_down (x ∷ []) (y ∷ []) h e = refl
    one_or_two_down (x ∷ []) (y ∷ w ∷ ys) h e = absurd h.1
    one_or_two_down (x ∷ v ∷ xs) (y ∷ []) h e = absurd h.1
    one_or_two_down (x ∷ v ∷ []) (y ∷ w ∷ []) h e = refl
    one_or_two_down (x ∷ v ∷ []) (y ∷ w ∷ d ∷ ys) h e = absurd h.1.1
    one_or_two_down (x ∷ v ∷ c ∷ xs) (y ∷ w ∷ []) h e = absurd h.1.1
    one_or_two_down (x ∷ v ∷ c ∷ xs) (y ∷ w ∷ d ∷ ys) h e = absurd (no e)

    list_pair : (x y : Shape) → Pair k u x y → one_list_or_none (y ∷ []) ≡ true → one_list_or_none (x ∷ []) ≡ true
    list_pair _ _ nones e = refl
    list_pair _ _ (or_list s) e = refl
    list_pair _ _ (lsts s v a b i j) e = refl
    list_pair _ _ p e = absurd (no e)

    list_long : (y w : Shape) (ys : List Shape) → one_list_or_none (y ∷ w ∷ ys) ≡ false
    list_long NoneOnly w ys = refl
    list_long (Lst s n) w ys = refl
    list_long y w ys = refl

    one_list_down : (xs ys : List Shape) → AllPairs k u xs ys → one_list_or_none ys ≡ true → one_list_or_none xs ≡ true
    one_list_down [] [] h e = e
    one_list_down [] (y ∷ ys) h e = absurd h
    one_list_down (x ∷ xs) [] h e = absurd h
    one_list_down (x ∷ []) (y ∷ []) h e = list_pair x y h.0.pair e
    one_list_down (x ∷ []) (y ∷ w ∷ ys) h e = absurd h.1
    one_list_down (x ∷ v ∷ xs) (y ∷ []) h e = absurd h.1
    one_list_down (x ∷ v ∷ xs) (y ∷ w ∷ ys) h e = absurd (no (sym (list_long y w ys) ∙ e))

    takes_down : (n : Method) (xs ys : List Shape) → AllPairs k u xs ys → takes_none n ys ≡ true → takes_none n xs ≡ true
    takes_down m.Split xs ys h e = one_char_down xs ys h e
    takes_down m.Find xs ys h e = one_str_down xs ys h e
    takes_down m.StartsWith xs ys h e = one_str_down xs ys h e
    takes_down m.EndsWith xs ys h e = one_str_down xs ys h e
    takes_down m.Strip xs ys h e = no_args_down xs ys h e
    takes_down m.Append xs ys h e = one_arg_down xs ys h e
    takes_down m.Insert xs ys h e = place_down xs ys h e
    takes_down m.Extend xs ys h e = one_list_down xs ys h e
    takes_down m.Reverse xs ys h e = no_args_down xs ys h e
    takes_down m.Pop xs ys h e = none_or_int_down xs ys h e
    takes_down m.Get xs ys h e = one_or_two_down xs ys h e
    takes_down m.Keys xs ys h e = no_args_down xs ys h e
    takes_down m.Values xs ys h e = no_args_down xs ys h e
    takes_down m.Items xs ys h e = no_args_down xs ys h e
    takes_down n xs ys h e = absurd (no e)

    pub given_free : (b : Bool) (x : Shape) → is_clash (given b x) ≡ false → b ≡ true
    given_free true x e = refl
    given_free false x e = absurd (yes e)

    own_free : (site : Option ℕ) (b : Bool) → is_clash (own_list site b) ≡ false → b ≡ true
    own_free None b e = absurd (yes e)
    own_free (Some s) b e = given_free b (Lst s false) e

    -- `join` takes no `None`
    no_join : (ys : List Shape) (b : Shape) → is_clash (joined (Str OrNone) ys b) ≡ true
    no_join [] b = refl
    no_join (Lst s false ∷ []) b = refl
    no_join (Lst s false ∷ d ∷ ys) b = refl
    no_join (y ∷ ys) b = refl

    text_takes : (n : Method) (site : Option ℕ) (ys : List Shape) (b : Shape) → is_clash (text_method n site (Str OrNone) ys b) ≡ false → takes_none n ys ≡ true
    text_takes m.Join site ys b e = absurd (yes (sym (no_join ys b) ∙ e))
    text_takes m.Split site ys b e = own_free site (one_char ys) e
    text_takes m.Find site ys b e = given_free (one_str ys) (Num true) e
    text_takes m.StartsWith site ys b e = given_free (one_str ys) (Truth None) e
    text_takes m.EndsWith site ys b e = given_free (one_str ys) (Truth None) e
    text_takes m.Strip site ys b e = given_free (no_args ys) (Str Any) e
    text_takes n site ys b e = absurd (yes e)

    extended_free : (ys : List Shape) → is_clash (extended ys) ≡ false → one_list_or_none ys ≡ true
    extended_free [] e = absurd (yes e)
    extended_free (NoneOnly ∷ []) e = refl
    extended_free (NoneOnly ∷ y ∷ ys) e = absurd (yes e)
    extended_free (Lst s n ∷ []) e = refl
    extended_free (Lst s n ∷ y ∷ ys) e = absurd (yes e)
    extended_free (y ∷ ys) e = absurd (yes e)

    list_takes : (n : Method) (ys : List Shape) (b : Shape) → is_clash (list_method n ys b) ≡ false → takes_none n ys ≡ true
    list_takes m.Append ys b e = given_free (one_arg ys) NoneOnly e
    list_takes m.Insert ys b e = given_free (place_and_value ys) NoneOnly e
    list_takes m.Extend ys b e = extended_free ys e
    list_takes m.Reverse ys b e = given_free (no_args ys) NoneOnly e
    list_takes m.Pop ys b e = given_free (none_or_int ys) b e
    list_takes n ys b e = absurd (yes e)

    got_takes : (ys : List Shape) (b z : Shape) → is_clash z ≡ false → Under k u (got ys b) z → one_or_two ys ≡ true
    got_takes [] b z f g = absurd (no_misfit z f g.0)
    got_takes (y ∷ []) b z f g = refl
    got_takes (y ∷ w ∷ []) b z f g = refl
    got_takes (y ∷ w ∷ d ∷ ys) b z f g = absurd (no_misfit z f g.0)

    dict_takes : (n : Method) (site : Option ℕ) (ys : List Shape) (b z : Shape) → is_clash z ≡ false → Under k u (dict_method n site ys b) z → takes_none n ys ≡ true
    dict_takes m.Get site ys b z f g = got_takes ys b z f g
    dict_takes m.Keys site ys b z f g = own_free site (no_args ys) (above_clash (own_list site (no_args ys)) z f g.0)
    dict_takes m.Values site ys b z f g = own_free site (no_args ys) (above_clash (own_list site (no_args ys)) z f g.0)
    dict_takes m.Items site ys b z f g = own_free site (no_args ys) (above_clash (own_list site (no_args ys)) z f g.0)
    dict_takes n site ys b z f g = absurd (no_misfit z f g.0)

    -- ---- methods of classes

    past : (name : List ℕ) (n c : ℕ) → slice_get k c ≡ None → is_some (line.nearest (line.own_method k name) (line.line k n c)) ≡ false
    past name zero c e = refl
    past name (suc n) c e =
        ap (λ o. is_some (line.either_of (line.named name (line.methods_in o)) (line.nearest (line.own_method k name) (line.onward (line.line k n) (line.base_in o))))) e

    within_by : (name : List ℕ) (c : ℕ) (b : Bool) → nat_lt c (length k) ≡ b → has_method k name c ≡ true → c < length k
    within_by name c true e h = ltb-true c (length k) e
    within_by name c false e h = absurd (no (sym (past name (length k) c (slice_get_past k c (ltb-false c (length k) e))) ∙ h))

    some_by : (name : List ℕ) (n c d : ℕ) → (b : Bool) → (d == c) ≡ b → has_method k name c ≡ true → (b ≡ false → some_method k name (suc d) n ≡ true)
        → (has_method k name d || some_method k name (suc d) n) ≡ true
    some_by name n c d true e h f = or_first (has_method k name d) (some_method k name (suc d) n) (ap (has_method k name) (eqb-true d c e) ∙ h)
    some_by name n c d false e h f = or_second (has_method k name d) (some_method k name (suc d) n) (f refl)

    some_at : (name : List ℕ) (n c d : ℕ) → d ≤ c → c < d + n → has_method k name c ≡ true → some_method k name d n ≡ true
    some_at name zero c d le lt h = absurd (omega (arith, le, lt))
    some_at name (suc n) c d le lt h =
        some_by name n c d (d == c) refl h (λ e. let apart : d ≢ c = eqb-false d c e in some_at name n c (suc d) (omega (arith, le, apart)) (omega (arith, lt)) h)

    class_method : length k ≤ 4294967296 → (name : List ℕ) (c : ℕ) → has_method k name c ≡ true → is_class_method k name ≡ true
    class_method few name c h =
        let lt : c < length k = within_by name c (nat_lt c (length k)) refl h in
        some_at name (min (length k) 4294967296) c 0 (omega arith) (omega (arith, lt, few)) h

    -- ---- a method of whatever the receiver is

    nothing_on : (b : Bool) (z : Shape) → b ≡ true → Under k u (given b Nothing ∷ []) z
    nothing_on true z e = (least z, tt)
    nothing_on false z e = absurd (no e)

    module _ (few : length k ≤ 4294967296) (name : List ℕ) (site : Option ℕ) (xs ys : List Shape) (a b z : Shape) (h : AllPairs k u xs ys) (i : Below k u a b) (f : is_clash z ≡ false) where
      receives : takes_none (method_named name) ys ≡ true → Under k u (given (takes_none (method_named name) xs || is_class_method k name) Nothing ∷ []) z
      receives e = nothing_on (takes_none (method_named name) xs || is_class_method k name) z
          (or_first (takes_none (method_named name) xs) (is_class_method k name) (takes_down (method_named name) xs ys h e))

      pub whole_method : (x y : Shape) → Pair k u x y → Under k u (method k name site y ys b) z → Under k u (method k name site x xs a) z
      whole_method _ _ nones g =
          on_one (given (takes_none (method_named name) xs || is_class_method k name) Nothing) (given (takes_none (method_named name) ys || is_class_method k name) Nothing) z f
          (given_below k u (takes_none (method_named name) xs || is_class_method k name) (takes_none (method_named name) ys || is_class_method k name) Nothing Nothing
          (or_down (takes_none (method_named name) xs) (is_class_method k name) (takes_none (method_named name) ys) (is_class_method k name)
          (takes_down (method_named name) xs ys h) (λ e. e)) (least Nothing)) g
      whole_method _ _ or_str g =
          receives (text_takes (method_named name) site ys b (above_clash (text_method (method_named name) site (Str OrNone) ys b) z f g.0))
      whole_method _ _ (or_list s) g = receives (list_takes (method_named name) ys b (above_clash (list_method (method_named name) ys b) z f g.0))
      whole_method _ _ (or_dict s) g = receives (dict_takes (method_named name) site ys b z f g)
      whole_method _ _ (or_inst c) g =
          nothing_on (takes_none (method_named name) xs || is_class_method k name) z
          (or_second (takes_none (method_named name) xs) (is_class_method k name)
          (class_method few name c (given_free (has_method k name c) b (above_clash (given (has_method k name c) b) z f g.0))))
      whole_method _ _ (strs c d j) g =
          on_one (text_method (method_named name) site (Str c) xs a) (text_method (method_named name) site (Str d) ys b) z f
          (text_rises (method_named name) site (Str c) (Str d) xs ys a b (strs c d j) h i) g
      whole_method _ _ (lsts s t c d j l) g =
          on_one (list_method (method_named name) xs a) (list_method (method_named name) ys b) z f (list_rises (method_named name) xs ys a b h i) g
      whole_method _ _ (dcts s t c d j l) g = dict_down (method_named name) site xs ys a b z h i f g
      whole_method _ _ (insts c d n o j l) g =
          on_one (given (has_method k name c) a) (given (has_method k name d) b) z f
          (given_below k u (has_method k name c) (has_method k name d) a b (method_down k tree u name c d j) i) g
      whole_method _ _ p g = absurd (no_misfit z f g.0)
