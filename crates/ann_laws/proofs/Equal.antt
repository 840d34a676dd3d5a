-- Rows of comparisons and of truth.
use Rattle.std.proofs.Common.{◌≡◌, ℕ, Bool, true, false, List, Option, Some, None, refl, sym, ap, ◌∙◌}
use Rattle.std.specs.Prelude.{◌&&◌, ◌||◌, is_some}
use Rattle.rpy_tree.specs.declared.syntax.CmpOp.{CmpOp}
use Rattle.rpy_tree.specs.declared.syntax.CmpOp.TheVariants as cmp
use Rattle.rpy_tree.specs.declared.program.ClassInfo.{ClassInfo}
use Rattle.class_desc.specs.Line as line
use Rattle.ann_lattice.specs.Shape.{One, Any, OrNone, Shape, Nothing, NoneOnly, Truth, Num, Str, Tup, Lst, Dct, Inst, Fun, Clash, Shapes}
use Rattle.ann_lattice.specs.Order.{LessKnown, Sub, Below, least, truth, tuple, clash, Each, no_more, and_more}
use Rattle.ann_lattice.specs.Join.{is_clash}
use Rattle.ann_lattice.specs.Laws.{IsTree}
use Rattle.ann_lattice.specs.Kind.{given, is_nothing, is_bool, is_str, is_text, known_unless}
use Rattle.ann_lattice.specs.Row.{both_int, less, plain_equal, has_equality, have_equality, equals_each, negated, is_none, identical, within, compare, truth_of}
use Rattle.ann_lattice.proofs.Tree.{common_above, common_least, sub_on}
use Rattle.ann_laws.proofs.Pairs.{no, yes, Pair, nones, or_str, or_list, or_dict, or_inst, or_fun, truths, nums, strs, tups, lsts, dcts, insts, funs, Rises, pair, given_below, below_given, and_down, or_down, or_second, and_left, and_right, both}
use Rattle.ann_laws.proofs.Smaller.{bool_down, str_down, text_down, both_int_down, known_rises, known_top}

equal_nothing : (x : Shape) → has_equality x Nothing ≡ true
equal_nothing Nothing = refl
equal_nothing NoneOnly = refl
equal_nothing (Truth a) = refl
equal_nothing (Num a) = refl
equal_nothing (Str a) = refl
equal_nothing (Tup xs) = refl
equal_nothing (Lst s a) = refl
equal_nothing (Dct s a) = refl
equal_nothing (Inst c a) = refl
equal_nothing (Fun fs a) = refl
equal_nothing (Clash o p) = refl

equal_by : (x y : Shape) → is_nothing y ≡ true → has_equality x y ≡ true
equal_by x Nothing e = equal_nothing x
equal_by x y e = absurd (no e)

module _ (k : List ClassInfo) (u : List ℕ) where
  pub nothing_down : (x y : Shape) → Below k u x y → is_nothing y ≡ true → is_nothing x ≡ true
  nothing_down _ _ (least y) e = refl
  nothing_down _ _ h e = absurd (no e)

  pub less_rises : (x y v w : Shape) → Pair k u x y → Pair k u v w → Rises k u (less x v) (less y w)
  less_rises x y v w p q = given_below k u (both_int x v || (is_str x && is_str v)) (both_int y w || (is_str y && is_str w)) (Truth None) (Truth None)
      (or_down (both_int x v) (is_str x && is_str v) (both_int y w) (is_str y && is_str w) (both_int_down k u x y v w p q)
      (and_down (is_str x) (is_str v) (is_str y) (is_str w) (str_down k u x y p) (str_down k u v w q))) (truth None None tt)

  pair_nothing : (x y : Shape) → Pair k u x y → is_nothing y ≡ true → is_nothing x ≡ true
  pair_nothing _ _ nones e = absurd (no e)
  pair_nothing _ _ p e = absurd (no e)

  plain_down : (x y v w : Shape) → Pair k u x y → Pair k u v w → plain_equal y w ≡ true → plain_equal x v ≡ true
  plain_down x y v w p q =
      or_down (both_int x v || (is_bool x && is_bool v) || (is_text x && is_text v) || is_nothing x) (is_nothing v)
      (both_int y w || (is_bool y && is_bool w) || (is_text y && is_text w) || is_nothing y) (is_nothing w)
      (or_down (both_int x v || (is_bool x && is_bool v) || (is_text x && is_text v)) (is_nothing x)
      (both_int y w || (is_bool y && is_bool w) || (is_text y && is_text w)) (is_nothing y)
      (or_down (both_int x v || (is_bool x && is_bool v)) (is_text x && is_text v) (both_int y w || (is_bool y && is_bool w)) (is_text y && is_text w)
      (or_down (both_int x v) (is_bool x && is_bool v) (both_int y w) (is_bool y && is_bool w) (both_int_down k u x y v w p q)
      (and_down (is_bool x) (is_bool v) (is_bool y) (is_bool w) (bool_down k u x y p) (bool_down k u v w q)))
      (and_down (is_text x) (is_text v) (is_text y) (is_text w) (text_down k u x y p) (text_down k u v w q)))
      (pair_nothing x y p)) (pair_nothing v w q)

  nothing_right : (x v : Shape) → is_nothing v ≡ true → plain_equal x v ≡ true
  nothing_right x v e = or_second (both_int x v || (is_bool x && is_bool v) || (is_text x && is_text v) || is_nothing x) (is_nothing v) e

  no_clash : (y w : Shape) → is_clash w ≡ true → is_nothing y ≡ false → plain_equal y w ≡ true → ⊥
  no_clash Nothing (Clash o p) c n e = yes n
  no_clash NoneOnly (Clash o p) c n e = no e
  no_clash (Truth a) (Clash o p) c n e = no e
  no_clash (Num a) (Clash o p) c n e = no e
  no_clash (Str a) (Clash o p) c n e = no e
  no_clash (Tup xs) (Clash o p) c n e = no e
  no_clash (Lst s a) (Clash o p) c n e = no e
  no_clash (Dct s a) (Clash o p) c n e = no e
  no_clash (Inst d a) (Clash o p) c n e = no e
  no_clash (Fun fs a) (Clash o p) c n e = no e
  no_clash (Clash q r) (Clash o p) c n e = no e
  no_clash y w c n e = no c

  pub reached_above : (x y : Shape) → Below k u x y → is_nothing x ≡ false → (b : Bool) → is_nothing y ≡ b → is_nothing y ≡ false
  reached_above x y h r true e = absurd (yes (sym (nothing_down x y h e) ∙ r))
  reached_above x y h r false e = e

  plain_by : (x y v w : Shape) → is_nothing x ≡ false → is_clash y ≡ false → Below k u x y → Below k u v w → (b c : Bool) → is_nothing v ≡ b → is_clash w ≡ c
      → plain_equal y w ≡ true → plain_equal x v ≡ true
  plain_by x y v w r f h j true c g i e = nothing_right x v g
  plain_by x y v w r f h j false true g i e = absurd (no_clash y w i (reached_above x y h r (is_nothing y) refl) e)
  plain_by x y v w r f h j false false g i e = plain_down x y v w (pair k u x y h r f) (pair k u v w j g i) e

  plain_case : (x y v w : Shape) → is_nothing x ≡ false → is_clash y ≡ false → Below k u x y → Below k u v w → plain_equal y w ≡ true → plain_equal x v ≡ true
  plain_case x y v w r f h j e = plain_by x y v w r f h j (is_nothing v) (is_clash w) refl refl e

  mutual
    pub equal_down : (x y v w : Shape) → Below k u x y → Below k u v w → has_equality y w ≡ true → has_equality x v ≡ true
    equal_down _ _ v w (least y) j e = refl
    equal_down _ _ _ _ (tuple xs ys h) (least w) e = refl
    equal_down _ _ _ _ (tuple xs ys h) (tuple vs ws j) e = each_down xs ys vs ws h j e
    equal_down _ _ _ _ (tuple xs ys h) j e = absurd (no e)
    equal_down x _ v w (clash _ o p i l) j e = equal_by x v (nothing_down v w j e)
    equal_down x y v w h j e = plain_case x y v w refl refl h j e

    each_down : (xs ys vs ws : Shapes) → Each k u xs ys → Each k u vs ws → have_equality ys ws ≡ true → have_equality xs vs ≡ true
    each_down _ _ _ _ no_more no_more e = refl
    each_down _ _ _ _ no_more (and_more v w vs ws j js) e = absurd (no e)
    each_down _ _ _ _ (and_more x y xs ys h hs) no_more e = absurd (no e)
    each_down _ _ _ _ (and_more x y xs ys h hs) (and_more v w vs ws j js) e =
        both (has_equality x v) (have_equality xs vs) (equal_down x y v w h j (and_left (has_equality y w) (have_equality ys ws) e))
        (each_down xs ys vs ws hs js (and_right (has_equality y w) (have_equality ys ws) e))

  equals_down : (x y : Shape) (vs ws : Shapes) → Below k u x y → Each k u vs ws → equals_each y ws ≡ true → equals_each x vs ≡ true
  equals_down x y _ _ h no_more e = refl
  equals_down x y _ _ h (and_more v w vs ws j js) e =
      both (has_equality x v) (equals_each x vs) (equal_down x y v w h j (and_left (has_equality y w) (equals_each y ws) e))
      (equals_down x y vs ws h js (and_right (has_equality y w) (equals_each y ws) e))

  a_bool : Below k u (Truth None) (Truth None)
  a_bool = truth None None tt

  pub equal_rises : (x y v w : Shape) → Below k u x y → Below k u v w → Rises k u (given (has_equality x v) (Truth None)) (given (has_equality y w) (Truth None))
  equal_rises x y v w h j = given_below k u (has_equality x v) (has_equality y w) (Truth None) (Truth None) (equal_down x y v w h j) a_bool

  -- ---- `in`

  pub within_rises : (x y v w a b : Shape) → Pair k u x y → Below k u x y → Pair k u v w → Below k u a b → Rises k u (within x v a) (within y w b)
  within_rises x y _ _ a b p l nones h = λ e. least _
  within_rises x y _ _ a b p l or_str h = λ e. least _
  within_rises x y _ _ a b p l (or_list s) h = λ e. least _
  within_rises x y _ _ a b p l (or_dict s) h = λ e. least _
  within_rises x y _ _ a b p l (strs c d i) h = given_below k u (is_str x) (is_str y) (Truth None) (Truth None) (str_down k u x y p) a_bool
  within_rises x y _ _ a b p l (dcts s t c d i j) h = λ e. a_bool
  within_rises x y _ _ a b p l (lsts s t c d i j) h = equal_rises a b a b h h
  within_rises x y _ _ a b p l (tups vs ws js) h = given_below k u (equals_each x vs) (equals_each y ws) (Truth None) (Truth None) (equals_down x y vs ws l js) a_bool
  within_rises x y _ _ a b p l q h = λ e. absurd (yes e)

  -- ---- truth

  negated_by : (a b : Option Bool) → LessKnown a b → Below k u (negated (Truth a)) (negated (Truth b))
  negated_by (Some true) (Some true) h = truth (Some false) (Some false) tt
  negated_by (Some false) (Some false) h = truth (Some true) (Some true) tt
  negated_by (Some true) (Some false) h = absurd h
  negated_by (Some false) (Some true) h = absurd h
  negated_by (Some true) None h = truth (Some false) None tt
  negated_by (Some false) None h = truth (Some true) None tt
  negated_by None None h = a_bool
  negated_by None (Some b) h = absurd h

  negated_clash : (y : Shape) → is_clash (negated y) ≡ is_clash y
  negated_clash (Truth (Some true)) = refl
  negated_clash (Truth (Some false)) = refl
  negated_clash (Truth None) = refl
  negated_clash y = refl

  negated_same : (x y : Shape) → Below k u x y → is_clash y ≡ false → Below k u (negated x) (negated y)
  negated_same _ _ (least y) f = least (negated y)
  negated_same _ _ (truth a b h) f = negated_by a b h
  negated_same _ _ (clash x o p i j) f = absurd (yes f)
  negated_same _ _ h f = h

  pub negated_rises : (x y : Shape) → Rises k u x y → Rises k u (negated x) (negated y)
  negated_rises x y h = λ e. let f : is_clash y ≡ false = sym (negated_clash y) ∙ e in negated_same x y (h f) f

  pub truth_rises : (x y : Shape) → Pair k u x y → Rises k u (truth_of x) (truth_of y)
  truth_rises _ _ nones = λ e. truth (Some false) (Some false) tt
  truth_rises _ _ or_str = λ e. truth (Some false) None tt
  truth_rises _ _ (or_list s) = λ e. truth (Some false) None tt
  truth_rises _ _ (or_dict s) = λ e. truth (Some false) None tt
  truth_rises _ _ (or_inst c) = λ e. truth (Some false) None tt
  truth_rises _ _ (or_fun fs) = λ e. truth (Some false) None tt
  truth_rises _ _ (truths a b h) = λ e. truth a b h
  truth_rises _ _ (nums a b h) = λ e. a_bool
  truth_rises _ _ (strs a b h) = λ e. a_bool
  truth_rises _ _ (lsts s v a b i h) = λ e. a_bool
  truth_rises _ _ (dcts s v a b i h) = λ e. a_bool
  truth_rises _ _ (insts c d a b i h) = λ e. known_rises k u true a b h
  truth_rises _ _ (funs fs gs a b i h) = λ e. known_rises k u true a b h
  truth_rises _ _ (tups xs ys h) = λ e. absurd (yes e)

  -- ---- `is`

  pub none_rises : (x y : Shape) → Pair k u x y → Below k u (is_none x) (is_none y)
  none_rises _ _ nones = truth (Some true) (Some true) tt
  none_rises _ _ or_str = truth (Some true) None tt
  none_rises _ _ (or_list s) = truth (Some true) None tt
  none_rises _ _ (or_dict s) = truth (Some true) None tt
  none_rises _ _ (or_inst c) = truth (Some true) None tt
  none_rises _ _ (or_fun fs) = truth (Some true) None tt
  none_rises _ _ (strs One One h) = truth (Some false) (Some false) tt
  none_rises _ _ (strs One Any h) = truth (Some false) (Some false) tt
  none_rises _ _ (strs One OrNone h) = truth (Some false) None tt
  none_rises _ _ (strs Any One h) = absurd h
  none_rises _ _ (strs Any Any h) = truth (Some false) (Some false) tt
  none_rises _ _ (strs Any OrNone h) = truth (Some false) None tt
  none_rises _ _ (strs OrNone One h) = absurd h
  none_rises _ _ (strs OrNone Any h) = absurd h
  none_rises _ _ (strs OrNone OrNone h) = a_bool
  none_rises _ _ (lsts s v a b i h) = known_rises k u false a b h
  none_rises _ _ (dcts s v a b i h) = known_rises k u false a b h
  none_rises _ _ (insts c d a b i h) = known_rises k u false a b h
  none_rises _ _ (funs fs gs a b i h) = known_rises k u false a b h
  none_rises _ _ (truths a b h) = truth (Some false) (Some false) tt
  none_rises _ _ (nums a b h) = truth (Some false) (Some false) tt
  none_rises _ _ (tups xs ys h) = truth (Some false) (Some false) tt

  module _ (tree : IsTree k) where
    some_by : (o : Option ℕ) (n : ℕ) → o ≡ Some n → is_some o ≡ true
    some_by o n e = ap is_some e

    base_by : (c d e f : ℕ) (o : Option ℕ) → Sub k c d → Sub k e f → line.common_base k d f ≡ o → is_some o ≡ true → is_some (line.common_base k c e) ≡ true
    base_by c d e f None h j i g = absurd (no g)
    base_by c d e f (Some m) h j i g =
        let a = common_above k d f m i in
        let n = common_least k tree c e m (sub_on k tree c d m h a.0) (sub_on k tree e f m j a.1) in
        ap is_some n.is

    base_down : (c d e f : ℕ) → Sub k c d → Sub k e f → is_some (line.common_base k d f) ≡ true → is_some (line.common_base k c e) ≡ true
    base_down c d e f h j g = base_by c d e f (line.common_base k d f) h j refl g

    a_truth : (b : Bool) → Below k u (Truth (Some b)) (Truth None)
    a_truth true = truth (Some true) None tt
    a_truth false = truth (Some false) None tt

    pub identical_rises : (x y v w : Shape) → Pair k u x y → Pair k u v w → Rises k u (identical k x v) (identical k y w)
    identical_rises _ _ v w nones q = λ e. none_rises v w q
    identical_rises _ _ _ _ or_str nones = λ e. a_truth true
    identical_rises _ _ _ _ (or_list s) nones = λ e. a_truth true
    identical_rises _ _ _ _ (or_list s) (or_list t) = λ e. a_truth true
    identical_rises _ _ _ _ (or_list s) (lsts t v c d j h) = λ e. known_top k u false c
    identical_rises _ _ _ _ (or_dict s) nones = λ e. a_truth true
    identical_rises _ _ _ _ (or_dict s) (or_dict t) = λ e. a_truth true
    identical_rises _ _ _ _ (or_dict s) (dcts t v c d j h) = λ e. known_top k u false c
    identical_rises _ _ _ _ (or_inst c) nones = λ e. a_truth true
    identical_rises _ _ _ _ (or_inst c) (or_inst d) = below_given k u (is_some (line.common_base k c d)) (Truth (Some true)) (Truth None) (a_truth true)
    identical_rises _ _ _ _ (or_inst c) (insts d e a b i h) = below_given k u (is_some (line.common_base k c e)) (known_unless false a) (Truth None) (known_top k u false a)
    identical_rises _ _ _ _ (or_fun fs) nones = λ e. a_truth true
    identical_rises _ _ _ _ (lsts s t a b i h) nones = λ e. known_rises k u false a b h
    identical_rises _ _ _ _ (lsts s t a b i h) (or_list v) = λ e. known_top k u false a
    identical_rises _ _ _ _ (lsts s t a b i h) (lsts v w c d j l) = λ e. a_bool
    identical_rises _ _ _ _ (dcts s t a b i h) nones = λ e. known_rises k u false a b h
    identical_rises _ _ _ _ (dcts s t a b i h) (or_dict v) = λ e. known_top k u false a
    identical_rises _ _ _ _ (dcts s t a b i h) (dcts v w c d j l) = λ e. a_bool
    identical_rises _ _ _ _ (insts c d a b i h) nones = λ e. known_rises k u false a b h
    identical_rises _ _ _ _ (insts c d a b i h) (or_inst f) = below_given k u (is_some (line.common_base k d f)) (known_unless false a) (Truth None) (known_top k u false a)
    identical_rises _ _ _ _ (insts c d a b i h) (insts e f g m j l) =
        given_below k u (is_some (line.common_base k c e)) (is_some (line.common_base k d f)) (Truth None) (Truth None) (base_down c d e f i j) a_bool
    identical_rises _ _ _ _ (funs fs gs a b i h) nones = λ e. known_rises k u false a b h
    identical_rises _ _ _ _ (truths a b h) nones = λ e. truth (Some false) (Some false) tt
    identical_rises _ _ _ _ (nums a b h) nones = λ e. truth (Some false) (Some false) tt
    identical_rises _ _ _ _ (tups xs ys h) nones = λ e. truth (Some false) (Some false) tt
    identical_rises _ _ _ _ (strs a b h) nones = λ e. none_rises (Str a) (Str b) (strs a b h)
    identical_rises _ _ _ _ p q = λ e. absurd (yes e)

    pub compare_rises : (op : CmpOp) (x y v w a b : Shape) → Pair k u x y → Pair k u v w → Below k u x y → Below k u v w → Below k u a b
        → Rises k u (compare k op x v a) (compare k op y w b)
    compare_rises cmp.Eq x y v w a b p q h j i = equal_rises x y v w h j
    compare_rises cmp.Ne x y v w a b p q h j i = equal_rises x y v w h j
    compare_rises cmp.Within x y v w a b p q h j i = within_rises x y v w a b p h q i
    compare_rises cmp.NotWithin x y v w a b p q h j i = within_rises x y v w a b p h q i
    compare_rises cmp.Is x y v w a b p q h j i = identical_rises x y v w p q
    compare_rises cmp.IsNot x y v w a b p q h j i = negated_rises (identical k x v) (identical k y w) (identical_rises x y v w p q)
    compare_rises op x y v w a b p q h j i = less_rises x y v w p q
