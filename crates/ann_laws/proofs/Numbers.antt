-- Rows of numbers, conversions, lengths, indexes and walks.
use Rattle.std.proofs.Common.{◌≡◌, ℕ, Bool, true, false, List, Option, Some, None, refl, ap, ◌∙◌}
use Rattle.std.specs.Prelude.{ℤ, pos, int_lt, ◌&&◌, ◌||◌, if◌then◌else◌}
use Rattle.rpy_tree.specs.declared.syntax.UnOp.{UnOp}
use Rattle.rpy_tree.specs.declared.syntax.UnOp.TheVariants as un
use Rattle.rpy_tree.specs.declared.syntax.BinOp.{BinOp}
use Rattle.rpy_tree.specs.declared.syntax.BinOp.TheVariants as bin
use Rattle.rpy_tree.specs.declared.program.ClassInfo.{ClassInfo}
use Rattle.ann_element.specs.Sites.{leader}
use Rattle.ann_lattice.specs.Shape.{One, Any, OrNone, Shape, Nothing, NoneOnly, Truth, Num, Lst}
use Rattle.ann_lattice.specs.Order.{Below, least, none, none_str, none_list, truth, num, str, list}
use Rattle.ann_lattice.specs.Kind.{given, is_int, is_positive, positive_if}
use Rattle.ann_lattice.specs.Row.{number, both_int, unary, can_be_checked, checked, intmask, min_of, max_of, to_int, to_str, is_sequence, own_site, add, multiply, binary_other, binary, len, store_index, delete_index, slice, walk, has_item, range_item, sequence_item, item, advance, add_item}
use Rattle.ann_laws.proofs.Pairs.{no, yes, Pair, nones, or_str, or_list, or_dict, truths, nums, strs, tups, lsts, dcts, Rises, given_rises, given_below, and_down, or_down}
use Rattle.ann_laws.proofs.Smaller.{int_down, positive_down, sequence_down, both_int_down, positive_rises}

module _ (k : List ClassInfo) (u : List ℕ) where
  module _ (x y v w : Shape) (p : Pair k u x y) (q : Pair k u v w) where
    both_rise : Below k u (positive_if (is_positive x && is_positive v)) (positive_if (is_positive y && is_positive w))
    both_rise = positive_rises k u (is_positive x && is_positive v) (is_positive y && is_positive w)
        (and_down (is_positive x) (is_positive v) (is_positive y) (is_positive w) (positive_down k u x y p) (positive_down k u v w q))

    one_rises : Below k u (positive_if (is_positive x || is_positive v)) (positive_if (is_positive y || is_positive w))
    one_rises = positive_rises k u (is_positive x || is_positive v) (is_positive y || is_positive w)
        (or_down (is_positive x) (is_positive v) (is_positive y) (is_positive w) (positive_down k u x y p) (positive_down k u v w q))

    pub number_rises : (op : BinOp) → Below k u (number op x v) (number op y w)
    number_rises bin.Add = both_rise
    number_rises bin.Mul = both_rise
    number_rises bin.Div = both_rise
    number_rises bin.FloorDiv = both_rise
    number_rises bin.BitOr = both_rise
    number_rises bin.BitXor = both_rise
    number_rises bin.Mod = positive_rises k u (is_positive v) (is_positive w) (positive_down k u v w q)
    number_rises bin.BitAnd = one_rises
    number_rises bin.Shr = positive_rises k u (is_positive x) (is_positive y) (positive_down k u x y p)
    number_rises bin.Sub = num true true tt
    number_rises bin.Shl = num true true tt

    ints : both_int y w ≡ true → both_int x v ≡ true
    ints = both_int_down k u x y v w p q

    pub checked_rises : (op : BinOp) → Rises k u (checked op x v) (checked op y w)
    checked_rises op = given_below k u (both_int x v && can_be_checked op) (both_int y w && can_be_checked op) (number op x v) (number op y w)
        (and_down (both_int x v) (can_be_checked op) (both_int y w) (can_be_checked op) ints (λ e. e)) (number_rises op)

    pub min_rises : Rises k u (min_of x v) (min_of y w)
    min_rises = given_below k u (both_int x v) (both_int y w) (positive_if (is_positive x && is_positive v)) (positive_if (is_positive y && is_positive w)) ints both_rise

    pub max_rises : Rises k u (max_of x v) (max_of y w)
    max_rises = given_below k u (both_int x v) (both_int y w) (positive_if (is_positive x || is_positive v)) (positive_if (is_positive y || is_positive w)) ints one_rises

  pub unary_rises : (op : UnOp) (x y : Shape) → Pair k u x y → Rises k u (unary op x) (unary op y)
  unary_rises un.Neg x y p = given_below k u (is_int x) (is_int y) (Num true) (Num true) (int_down k u x y p) (num true true tt)
  unary_rises un.Invert x y p = given_below k u (is_int x) (is_int y) (Num true) (Num true) (int_down k u x y p) (num true true tt)
  unary_rises un.Pos x y p = given_below k u (is_int x) (is_int y) (positive_if (is_positive x)) (positive_if (is_positive y)) (int_down k u x y p)
      (positive_rises k u (is_positive x) (is_positive y) (positive_down k u x y p))

  pub intmask_rises : (x y : Shape) → Pair k u x y → Rises k u (intmask x) (intmask y)
  intmask_rises x y p = given_below k u (is_int x) (is_int y) (positive_if (is_positive x)) (positive_if (is_positive y)) (int_down k u x y p)
      (positive_rises k u (is_positive x) (is_positive y) (positive_down k u x y p))

  pub to_int_rises : (x y : Shape) → Pair k u x y → Rises k u (to_int x) (to_int y)
  to_int_rises _ _ (nums a b h) = λ e. num a b h
  to_int_rises _ _ (truths a b h) = λ e. num false false tt
  to_int_rises _ _ (strs One One h) = λ e. num true true tt
  to_int_rises _ _ (strs One Any h) = λ e. num true true tt
  to_int_rises _ _ (strs Any One h) = absurd h
  to_int_rises _ _ (strs Any Any h) = λ e. num true true tt
  to_int_rises _ _ (strs OrNone One h) = absurd h
  to_int_rises _ _ (strs OrNone Any h) = absurd h
  to_int_rises _ _ p = λ e. absurd (yes e)

  pub to_str_rises : (x y : Shape) → Pair k u x y → Rises k u (to_str x) (to_str y)
  to_str_rises _ _ (nums a b h) = λ e. str Any Any tt
  to_str_rises _ _ (truths a b h) = λ e. str Any Any tt
  to_str_rises _ _ (strs One One h) = λ e. str One One tt
  to_str_rises _ _ (strs One Any h) = λ e. str One Any tt
  to_str_rises _ _ (strs Any One h) = absurd h
  to_str_rises _ _ (strs Any Any h) = λ e. str Any Any tt
  to_str_rises _ _ (strs OrNone One h) = absurd h
  to_str_rises _ _ (strs OrNone Any h) = absurd h
  to_str_rises _ _ p = λ e. absurd (yes e)

  -- ---- `+` and `*`

  nothing_if : (b : Bool) (y : Shape) → b ≡ true → Below k u (given b Nothing) y
  nothing_if true y e = least y
  nothing_if false y e = absurd (no e)

  own_rises : (site : Option ℕ) (s v : ℕ) → leader u s ≡ leader u v → Below k u (Lst (own_site site s) false) (Lst (own_site site v) false)
  own_rises None s v h = list s v false false h tt
  own_rises (Some t) s v h = list t t false false refl tt

  pub add_rises : (site : Option ℕ) (x y v w : Shape) → Pair k u x y → Pair k u v w → Rises k u (add site x v) (add site y w)
  add_rises site _ _ v w nones q = given_below k u (is_sequence v) (is_sequence w) Nothing Nothing (sequence_down k u v w q) (least Nothing)
  add_rises site _ _ _ _ or_str nones = λ e. least _
  add_rises site _ _ _ _ or_str or_str = λ e. least _
  add_rises site _ _ _ _ or_str (strs a b h) = λ e. least _
  add_rises site _ _ _ _ (or_list s) nones = λ e. least _
  add_rises site _ _ _ _ (or_list s) (or_list v) = λ e. least _
  add_rises site _ _ _ _ (or_list s) (lsts v w a b i h) = λ e. least _
  add_rises site _ _ _ _ (strs a b h) nones = λ e. least _
  add_rises site _ _ _ _ (strs a b h) or_str = λ e. least _
  add_rises site _ _ _ _ (strs a b h) (strs c d i) = λ e. str Any Any tt
  add_rises site _ _ _ _ (lsts s v a b i h) nones = λ e. least _
  add_rises site _ _ _ _ (lsts s v a b i h) (or_list w) = λ e. least _
  add_rises site _ _ _ _ (lsts s v a b i h) (lsts t w c d j l) = λ e. own_rises site s v i
  add_rises site _ _ _ _ p q = λ e. absurd (yes e)

  pub multiply_rises : (site : Option ℕ) (x y : Shape) → Pair k u x y → Rises k u (multiply site x) (multiply site y)
  multiply_rises site _ _ nones = λ e. least _
  multiply_rises site _ _ or_str = λ e. least _
  multiply_rises site _ _ (or_list s) = λ e. least _
  multiply_rises site _ _ (strs a b h) = λ e. str Any Any tt
  multiply_rises site _ _ (lsts s v a b i h) = λ e. own_rises site s v i
  multiply_rises site _ _ p = λ e. absurd (yes e)

  pub other_rises : (op : BinOp) (site : Option ℕ) (x y v w : Shape) → Pair k u x y → Pair k u v w → Rises k u (binary_other op site x v) (binary_other op site y w)
  other_rises bin.Add site x y v w p q = add_rises site x y v w p q
  other_rises bin.Mul site x y v w p q = given_rises k u (is_int v) (is_int w) (multiply site x) (multiply site y) (int_down k u v w q) (λ e. multiply_rises site x y p)
  other_rises op site x y v w p q = λ e. absurd (yes e)

  int_same : (x y : Shape) → Pair k u x y → is_int x ≡ is_int y
  int_same _ _ (nums a b h) = refl
  int_same _ _ p = refl

  choice_rises : (b c : Bool) (n m s t : Shape) → b ≡ c → Below k u n m → Rises k u s t → Rises k u (if b then n else s) (if c then m else t)
  choice_rises true true n m s t e h i = λ f. h
  choice_rises false false n m s t e h i = i
  choice_rises true false n m s t e h i = absurd (yes e)
  choice_rises false true n m s t e h i = absurd (no e)

  pub binary_rises : (op : BinOp) (site : Option ℕ) (x y v w : Shape) → Pair k u x y → Pair k u v w → Rises k u (binary op site x v) (binary op site y w)
  binary_rises op site x y v w p q =
      choice_rises (both_int x v) (both_int y w) (number op x v) (number op y w) (binary_other op site x v) (binary_other op site y w)
      (ap (λ b. b && is_int v) (int_same x y p) ∙ ap (λ b. is_int y && b) (int_same v w q))
      (number_rises x y v w p q op) (other_rises op site x y v w p q)

  -- ---- lengths, stores and slices

  pub len_rises : (x y : Shape) → Pair k u x y → Rises k u (len x) (len y)
  len_rises _ _ nones = λ e. least _
  len_rises _ _ or_str = λ e. least _
  len_rises _ _ (or_list s) = λ e. least _
  len_rises _ _ (or_dict s) = λ e. least _
  len_rises _ _ (strs a b h) = λ e. num false false tt
  len_rises _ _ (lsts s v a b i h) = λ e. num false false tt
  len_rises _ _ (dcts s v a b i h) = λ e. num false false tt
  len_rises _ _ (tups xs ys h) = λ e. num false false tt
  len_rises _ _ p = λ e. absurd (yes e)

  pub store_rises : (x y v w a b : Shape) → Pair k u x y → Pair k u v w → Below k u a b → Rises k u (store_index x v a) (store_index y w b)
  store_rises _ _ v w a b nones q h = λ e. least _
  store_rises _ _ v w a b (or_list s) q h = λ e. least _
  store_rises _ _ v w a b (or_dict s) q h = λ e. least _
  store_rises _ _ v w a b (dcts s t c d i j) q h = λ e. h
  store_rises _ _ v w a b (lsts s t c d i j) q h = given_below k u (is_int v) (is_int w) a b (int_down k u v w q) h
  store_rises _ _ v w a b p q h = λ e. absurd (yes e)

  pub delete_rises : (x y v w : Shape) → Pair k u x y → Pair k u v w → Rises k u (delete_index x v) (delete_index y w)
  delete_rises _ _ v w nones q = λ e. least _
  delete_rises _ _ v w (or_list s) q = λ e. least _
  delete_rises _ _ v w (or_dict s) q = λ e. least _
  delete_rises _ _ v w (dcts s t c d i j) q = λ e. none
  delete_rises _ _ v w (lsts s t c d i j) q = given_below k u (is_int v) (is_int w) NoneOnly NoneOnly (int_down k u v w q) none
  delete_rises _ _ v w p q = λ e. absurd (yes e)

  pub slice_rises : (site : ℕ) (x y : Shape) → Pair k u x y → Rises k u (slice site x) (slice site y)
  slice_rises site _ _ nones = λ e. least _
  slice_rises site _ _ or_str = λ e. least _
  slice_rises site _ _ (or_list s) = λ e. least _
  slice_rises site _ _ (strs a b h) = λ e. str Any Any tt
  slice_rises site _ _ (lsts s v a b i h) = λ e. list site site false false refl tt
  slice_rises site _ _ p = λ e. absurd (yes e)

  -- ---- walks

  pub walk_rises : (site : ℕ) (x y : Shape) → Pair k u x y → Rises k u (walk site x) (walk site y)
  walk_rises site _ _ nones = λ e. none
  walk_rises site _ _ or_str = λ e. none_str
  walk_rises site _ _ (or_list s) = λ e. none_list s
  walk_rises site _ _ (or_dict s) = λ e. none_list site
  walk_rises site _ _ (strs a b h) = λ e. str a b h
  walk_rises site _ _ (lsts s v a b i h) = λ e. list s v a b i h
  walk_rises site _ _ (dcts s v a b i h) = λ e. list site site a b refl h
  walk_rises site _ _ p = λ e. absurd (yes e)

  pub has_item_rises : (step : Option ℤ) (x y v w : Shape) → Pair k u x y → Pair k u v w → Rises k u (has_item step x v) (has_item step y w)
  has_item_rises None x y v w p q = given_below k u (is_sequence x && is_int v) (is_sequence y && is_int w) (Truth None) (Truth None)
      (and_down (is_sequence x) (is_int v) (is_sequence y) (is_int w) (sequence_down k u x y p) (int_down k u v w q)) (truth None None tt)
  has_item_rises (Some step) x y v w p q = given_below k u (both_int x v) (both_int y w) (Truth None) (Truth None) (both_int_down k u x y v w p q) (truth None None tt)

  range_by : (up : Bool) (x y v w : Shape) → Pair k u x y → Pair k u v w → Below k u (positive_if (is_positive (if up then v else x))) (positive_if (is_positive (if up then w else y)))
  range_by true x y v w p q = positive_rises k u (is_positive v) (is_positive w) (positive_down k u v w q)
  range_by false x y v w p q = positive_rises k u (is_positive x) (is_positive y) (positive_down k u x y p)

  pub range_rises : (step : ℤ) (x y v w : Shape) → Pair k u x y → Pair k u v w → Rises k u (range_item step x v) (range_item step y w)
  range_rises step x y v w p q = given_below k u (both_int x v) (both_int y w)
      (positive_if (is_positive (if int_lt (pos 0) step then v else x))) (positive_if (is_positive (if int_lt (pos 0) step then w else y)))
      (both_int_down k u x y v w p q) (range_by (int_lt (pos 0) step) x y v w p q)

  pub sequence_item_rises : (x y a b : Shape) → Pair k u x y → Below k u a b → Rises k u (sequence_item x a) (sequence_item y b)
  sequence_item_rises _ _ a b nones h = λ e. least _
  sequence_item_rises _ _ a b or_str h = λ e. least _
  sequence_item_rises _ _ a b (or_list s) h = λ e. least _
  sequence_item_rises _ _ a b (strs c d i) h = λ e. str One One tt
  sequence_item_rises _ _ a b (lsts s v c d i j) h = λ e. h
  sequence_item_rises _ _ a b p h = λ e. absurd (yes e)

  pub item_rises : (step : Option ℤ) (x y v w a b : Shape) → Pair k u x y → Pair k u v w → Below k u a b → Rises k u (item step x v a) (item step y w b)
  item_rises None x y v w a b p q h = sequence_item_rises x y a b p h
  item_rises (Some step) x y v w a b p q h = range_rises step x y v w p q

  pub advance_rises : (step : Option ℤ) (x y v w : Shape) → Pair k u x y → Pair k u v w → Rises k u (advance step x v) (advance step y w)
  advance_rises None x y v w p q = λ e. num false false tt
  advance_rises (Some step) x y v w p q = given_below k u (both_int x v) (both_int y w)
      (positive_if (int_lt (pos 0) step && is_positive v)) (positive_if (int_lt (pos 0) step && is_positive w)) (both_int_down k u x y v w p q)
      (positive_rises k u (int_lt (pos 0) step && is_positive v) (int_lt (pos 0) step && is_positive w)
      (and_down (int_lt (pos 0) step) (is_positive v) (int_lt (pos 0) step) (is_positive w) (λ e. e) (positive_down k u v w q)))

  pub add_item_rises : (x y : Shape) → Pair k u x y → Rises k u (add_item x) (add_item y)
  add_item_rises _ _ (lsts s v a b i h) = λ e. none
  add_item_rises _ _ nones = λ e. least _
  add_item_rises _ _ (or_list s) = λ e. least _
  add_item_rises _ _ p = λ e. absurd (yes e)
