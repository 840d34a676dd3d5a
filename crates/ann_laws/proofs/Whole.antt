-- The table as a whole: for each operation, from kinds of operands to all operands.
use Rattle.std.proofs.Common.{◌≡◌, ℕ, Bool, true, false, List, [], ◌∷◌, Option, None, refl, sym, ap, ◌∙◌, subst}
use Rattle.std.specs.Prelude.{◌||◌, if◌then◌else◌}
use Rattle.rpy_tree.specs.declared.syntax.UnOp.TheVariants as un
use Rattle.rpy_tree.specs.declared.syntax.BinOp.TheVariants as bin
use Rattle.rpy_tree.specs.declared.program.ClassInfo.{ClassInfo}
use Rattle.rpy_meaning.specs.declared.row.RowOp.{RowOp}
use Rattle.rpy_meaning.specs.declared.row.RowOp.TheVariants as op
use Rattle.class_desc.specs.Tables.{Tables}
use Rattle.ann_lattice.specs.Shape.{One, Shape, NoneOnly, Truth, Num, Str}
use Rattle.ann_lattice.specs.Order.{Below, none, num, str}
use Rattle.ann_lattice.specs.Join.{is_clash}
use Rattle.ann_lattice.specs.Assign.{Under}
use Rattle.ann_lattice.specs.Kind.{misfit, given, is_nothing, is_int, is_str, is_char, some_nothing, some_clash}
use Rattle.ann_lattice.specs.Row.{of_none, narrowed, of_one, of_two, of_three, counted, called, fitting, pieces, tuple, can_be_printed, bounded_slice, call_of, call_value, new, truth_of}
use Rattle.ann_lattice.proofs.Ordered.{below_self}
use Rattle.ann_laws.specs.Rows.{HasClasses, Operands, AreMonotone}
use Rattle.ann_laws.proofs.Pairs.{no, yes, Pair, nones, Rises, pair, unpair, given_below, or_down}
use Rattle.ann_laws.proofs.Smaller.{int_down, char_down, str_down}
use Rattle.ann_laws.proofs.Numbers.{unary_rises, checked_rises, min_rises, max_rises, intmask_rises, to_int_rises, to_str_rises, binary_rises, len_rises, store_rises, delete_rises, slice_rises, walk_rises, has_item_rises, item_rises, advance_rises, add_item_rises}
use Rattle.ann_laws.proofs.Equal.{nothing_down, compare_rises, truth_rises, negated_rises}
use Rattle.ann_laws.proofs.Containers.{AllPairs, index_rises, unpack_rises, tuple_rises, bounded_rises, print_rises}
use Rattle.ann_laws.proofs.Instances.{is_instance_rises, attribute_rises, store_attribute_rises, raised_rises, call_of_rises, call_value_rises, new_rises, drop_rises, false_rises, lower_rises, non_negative_rises}
use Rattle.ann_laws.proofs.Calls.{no_misfit, on_one, whole_method}

or_left_false : (a b : Bool) → (a || b) ≡ false → a ≡ false
or_left_false true b e = absurd (yes e)
or_left_false false b e = refl

or_right_false : (a b : Bool) → (a || b) ≡ false → b ≡ false
or_right_false true b e = absurd (yes e)
or_right_false false b e = e

module _ (t : Tables) (classes : HasClasses t) (u : List ℕ) where
  abbrev k : List ClassInfo
  k = t.classes

  narrowed_rises : (o : RowOp) (x y : Shape) → Pair k u x y → Rises k u (narrowed k o x) (narrowed k o y)
  narrowed_rises op.DropNone x y p = drop_rises k classes.tree u x y p
  narrowed_rises op.OnlyNone x y p = λ e. none
  narrowed_rises op.FalseNone x y p = false_rises k classes.tree u x y p
  narrowed_rises (op.Lower d) x y p = lower_rises k classes.tree u d x y p
  narrowed_rises o x y p = λ e. absurd (yes e)

  one_rises : (o : RowOp) (x y a b : Shape) → Pair k u x y → Below k u a b → Rises k u (of_one t o x a) (of_one t o y b)
  one_rises op.Copy x y a b p h = λ e. unpair k u x y p
  one_rises (op.Unary o) x y a b p h = unary_rises k u o x y p
  one_rises op.CheckedNeg x y a b p h = unary_rises k u un.Neg x y p
  one_rises op.Not x y a b p h = negated_rises k u (truth_of x) (truth_of y) (truth_rises k u x y p)
  one_rises op.Truth x y a b p h = truth_rises k u x y p
  one_rises op.Intmask x y a b p h = intmask_rises k u x y p
  one_rises op.Len x y a b p h = len_rises k u x y p
  one_rises op.Ord x y a b p h = given_below k u (is_char x) (is_char y) (Num false) (Num false) (char_down k u x y p) (num false false tt)
  one_rises op.Chr x y a b p h = given_below k u (is_int x) (is_int y) (Str One) (Str One) (int_down k u x y p) (str One One tt)
  one_rises op.ToStr x y a b p h = to_str_rises k u x y p
  one_rises op.ToInt x y a b p h = to_int_rises k u x y p
  one_rises (op.IsInstance d) x y a b p h = is_instance_rises k classes.tree u d x y p
  one_rises (op.Attr name) x y a b p h = attribute_rises k classes.tree u t refl name x y a b p h
  one_rises (op.AllButLast s) x y a b p h = slice_rises k u s x y p
  one_rises op.Raise x y a b p h = raised_rises k classes.tree u x y p
  one_rises (op.Walk s) x y a b p h = walk_rises k u s x y p
  one_rises (op.Unpack n place) x y a b p h = unpack_rises k u n place x y p
  one_rises o x y a b p h = narrowed_rises o x y p

  two_rises : (o : RowOp) (x y v w a b : Shape) → Pair k u x y → Pair k u v w → Below k u a b → Rises k u (of_two t o x v a) (of_two t o y w b)
  two_rises (op.Binary o site) x y v w a b p q h = binary_rises k u o site x y v w p q
  two_rises op.AddTo x y v w a b p q h = binary_rises k u bin.Add None x y v w p q
  two_rises (op.Checked o) x y v w a b p q h = checked_rises k u x y v w p q o
  two_rises (op.Compare o) x y v w a b p q h = compare_rises k u classes.tree o x y v w a b p q (unpair k u x y p) (unpair k u v w q) h
  two_rises op.Min x y v w a b p q h = min_rises k u x y v w p q
  two_rises op.Max x y v w a b p q h = max_rises k u x y v w p q
  two_rises op.Write x y v w a b p q h = given_below k u (is_str v) (is_str w) (Num false) (Num false) (str_down k u v w q) (num false false tt)
  two_rises (op.Index literal) x y v w a b p q h = index_rises k u literal x y v w a b p q h
  two_rises op.DeleteIndex x y v w a b p q h = delete_rises k u x y v w p q
  two_rises (op.StoreAttr name) x y v w a b p q h = store_attribute_rises k classes.tree u t refl name x y v w p (unpair k u v w q)
  two_rises op.AddItem x y v w a b p q h = add_item_rises k u x y p
  two_rises (op.HasItem step) x y v w a b p q h = has_item_rises k u step x y v w p q
  two_rises (op.Item step) x y v w a b p q h = item_rises k u step x y v w a b p q h
  two_rises (op.Advance step) x y v w a b p q h = advance_rises k u step x y v w p q
  two_rises op.NonNegative x y v w a b p q h = non_negative_rises k classes.tree u x y v w p q
  two_rises o x y v w a b p q h = λ e. absurd (yes e)

  three_rises : (o : RowOp) (x y v w c d : Shape) → Pair k u x y → Pair k u v w → Pair k u c d → Rises k u (of_three o x v c) (of_three o y w d)
  three_rises op.StoreIndex x y v w c d p q r = store_rises k u x y v w c d p q (unpair k u c d r)
  three_rises o x y v w c d p q r = λ e. absurd (yes e)

  counted_rises : (o : RowOp) (xs ys : List Shape) (a b : Shape) → AllPairs k u xs ys → Below k u a b → Rises k u (counted t o xs a) (counted t o ys b)
  counted_rises o [] [] a b h i = λ e. below_self k classes.tree u (of_none o)
  counted_rises o [] (y ∷ ys) a b h i = absurd h
  counted_rises o (x ∷ xs) [] a b h i = absurd h
  counted_rises o (x ∷ []) (y ∷ []) a b h i = one_rises o x y a b h.0.pair i
  counted_rises o (x ∷ []) (y ∷ w ∷ ys) a b h i = absurd h.1
  counted_rises o (x ∷ v ∷ xs) (y ∷ []) a b h i = absurd h.1
  counted_rises o (x ∷ v ∷ []) (y ∷ w ∷ []) a b h i = two_rises o x y v w a b h.0.pair h.1.0.pair i
  counted_rises o (x ∷ v ∷ []) (y ∷ w ∷ d ∷ ys) a b h i = absurd h.1.1
  counted_rises o (x ∷ v ∷ c ∷ xs) (y ∷ w ∷ []) a b h i = absurd h.1.1
  counted_rises o (x ∷ v ∷ c ∷ []) (y ∷ w ∷ d ∷ []) a b h i = three_rises o x y v w c d h.0.pair h.1.0.pair h.1.1.0.pair
  counted_rises o (x ∷ v ∷ c ∷ []) (y ∷ w ∷ d ∷ g ∷ ys) a b h i = absurd h.1.1.1
  counted_rises o (x ∷ v ∷ c ∷ e ∷ xs) (y ∷ w ∷ d ∷ []) a b h i = absurd h.1.1.1
  counted_rises o (x ∷ v ∷ c ∷ e ∷ xs) (y ∷ w ∷ d ∷ g ∷ ys) a b h i = λ f. absurd (yes f)

  module _ (xs ys : List Shape) (a b z : Shape) (i : Below k u a b) (f : is_clash z ≡ false) where
    called_down : (vs ws : List Shape) → AllPairs k u vs ws → (name : List ℕ) (site : Option ℕ) → Under k u (called t name site ws b) z → Under k u (called t name site vs a) z
    called_down [] [] h name site g = g
    called_down [] (w ∷ ws) h name site g = absurd h
    called_down (v ∷ vs) [] h name site g = absurd h
    called_down (v ∷ vs) (w ∷ ws) h name site g = whole_method k u classes.tree classes.few name site vs ws a b z h.1 i f v w h.0.pair g

    pub fitting_down : (o : RowOp) → AllPairs k u xs ys → Under k u (fitting t o ys b) z → Under k u (fitting t o xs a) z
    fitting_down op.Tuple h g = on_one k u classes.tree (tuple xs) (tuple ys) z f (tuple_rises k u xs ys h) g
    fitting_down (op.List s) h g = g
    fitting_down op.Print h g = on_one k u classes.tree (given (can_be_printed xs) NoneOnly) (given (can_be_printed ys) NoneOnly) z f (print_rises k u xs ys h) g
    fitting_down (op.Slice s from to) h g = on_one k u classes.tree (bounded_slice s xs) (bounded_slice s ys) z f (bounded_rises k u s xs ys h) g
    fitting_down (op.Call c) h g = on_one k u classes.tree a b z f (λ e. i) g
    fitting_down (op.CallOf c m) h g = on_one k u classes.tree (call_of k c xs a) (call_of k c ys b) z f (call_of_rises k classes.tree u c xs ys a b h i) g
    fitting_down op.CallValue h g = on_one k u classes.tree (call_value xs a) (call_value ys b) z f (call_value_rises k classes.tree u xs ys a b h i) g
    fitting_down (op.New c) h g = on_one k u classes.tree (new k c xs) (new k c ys) z f (new_rises k classes.tree u c xs ys h) g
    fitting_down (op.Method name site) h g = called_down xs ys h name site g
    fitting_down o h g = on_one k u classes.tree (counted t o xs a) (counted t o ys b) z f (counted_rises o xs ys a b h i) g

  -- ---- operands that are not reached or in conflict

  pub nothing_all : (xs ys : List Shape) → Operands k u xs ys → some_nothing ys ≡ true → some_nothing xs ≡ true
  nothing_all [] [] h e = e
  nothing_all [] (y ∷ ys) h e = absurd h
  nothing_all (x ∷ xs) [] h e = absurd h
  nothing_all (x ∷ xs) (y ∷ ys) h e =
      or_down (is_nothing x) (some_nothing xs) (is_nothing y) (some_nothing ys) (nothing_down k u x y h.0.0) (nothing_all xs ys h.1) e

  pub pairs_of : (xs ys : List Shape) → Operands k u xs ys → some_nothing xs ≡ false → some_clash ys ≡ false → AllPairs k u xs ys
  pairs_of [] [] h e f = tt
  pairs_of [] (y ∷ ys) h e f = absurd h
  pairs_of (x ∷ xs) [] h e f = absurd h
  pairs_of (x ∷ xs) (y ∷ ys) h e f = (
    record {
      pair = pair k u x y h.0.0 (or_left_false (is_nothing x) (some_nothing xs) e) (or_left_false (is_clash y) (some_clash ys) f);
      formed = h.0.1;
    },
    pairs_of xs ys h.1 (or_right_false (is_nothing x) (some_nothing xs) e) (or_right_false (is_clash y) (some_clash ys) f),
  )

  free_below : (x y : Shape) → Pair k u x y → is_clash x ≡ false
  free_below _ _ nones = refl
  free_below _ _ p = refl

  pub none_clash : (xs ys : List Shape) → AllPairs k u xs ys → some_clash xs ≡ false
  none_clash [] [] h = refl
  none_clash [] (y ∷ ys) h = absurd h
  none_clash (x ∷ xs) [] h = absurd h
  none_clash (x ∷ xs) (y ∷ ys) h = ap (λ b. b || some_clash xs) (free_below x y h.0.pair) ∙ none_clash xs ys h.1

  module _ (o : RowOp) (xs ys : List Shape) (a b z : Shape) (h : Operands k u xs ys) (i : Below k u a b) (f : is_clash z ≡ false) where
    abbrev cases : Bool → Bool → List Shape → List Shape
    cases c d l = if c then [] else if d then misfit ∷ [] else l

    unreached : some_nothing xs ≡ true → pieces t o xs a ≡ []
    unreached e = ap (λ c. cases c (some_clash xs) (fitting t o xs a)) e

    in_conflict : some_nothing ys ≡ false → some_clash ys ≡ true → pieces t o ys b ≡ misfit ∷ []
    in_conflict e g = ap (λ c. cases c (some_clash ys) (fitting t o ys b)) e ∙ ap (λ d. cases false d (fitting t o ys b)) g

    fits : (vs : List Shape) (c : Shape) → some_nothing vs ≡ false → some_clash vs ≡ false → pieces t o vs c ≡ fitting t o vs c
    fits vs c e g = ap (λ d. cases d (some_clash vs) (fitting t o vs c)) e ∙ ap (λ d. cases false d (fitting t o vs c)) g

    all_fit : some_nothing xs ≡ false → some_nothing ys ≡ false → some_clash ys ≡ false → Under k u (pieces t o ys b) z → Under k u (pieces t o xs a) z
    all_fit c d e g =
        let p = pairs_of xs ys h c e in
        subst (λ l. Under k u l z) (sym (fits xs a c (none_clash xs ys p)))
        (fitting_down xs ys a b z i f o p (subst (λ l. Under k u l z) (fits ys b d e) g))

    by_kind : (l m n : Bool) → some_nothing xs ≡ l → some_nothing ys ≡ m → some_clash ys ≡ n → Under k u (pieces t o ys b) z → Under k u (pieces t o xs a) z
    by_kind true m n c d e g = subst (λ l. Under k u l z) (sym (unreached c)) tt
    by_kind false true n c d e g = absurd (no (sym c ∙ nothing_all xs ys h d))
    by_kind false false true c d e g = let bad = subst (λ l. Under k u l z) (in_conflict d e) g in absurd (no_misfit k u z f bad.0)
    by_kind false false false c d e g = all_fit c d e g

    pub pieces_down : Under k u (pieces t o ys b) z → Under k u (pieces t o xs a) z
    pieces_down g = by_kind (some_nothing xs) (some_nothing ys) (some_clash ys) refl refl refl g

pub are_monotone : (t : Tables) → HasClasses t → (same : List ℕ) → AreMonotone t same
are_monotone t classes same o xs ys p q z h i f g = pieces_down t classes same o xs ys p q z h i f g
