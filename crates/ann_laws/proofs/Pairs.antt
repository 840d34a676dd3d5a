-- Elements that are reached and free of conflict, one below the other: pair by pair.
use Rattle.std.proofs.Common.{◌≡◌, ℕ, Bool, true, false, List, Option, refl}
use Rattle.std.specs.Prelude.{◌&&◌, ◌||◌}
use Rattle.rpy_tree.specs.declared.program.ClassInfo.{ClassInfo}
use Rattle.ann_element.specs.Sites.{Same}
use Rattle.ann_lattice.specs.Shape.{Width, OrNone, Shape, NoneOnly, Truth, Num, Str, Tup, Lst, Dct, Inst, Fun, Shapes}
use Rattle.ann_lattice.specs.Order.{Implies, Wider, LessKnown, Sub, Among, Below, least, none, none_str, none_list, none_dict, none_inst, none_fun, truth, num, str, tuple, list, dict, inst, fun, clash, Each}
use Rattle.ann_lattice.specs.Join.{is_clash}
use Rattle.ann_lattice.specs.Kind.{given, is_nothing}

pub no : false ≡ true → ⊥
no e = cc

pub yes : true ≡ false → ⊥
yes e = cc

pub data Pair (k : List ClassInfo) (u : List ℕ) : Shape → Shape → Type 0 where
  nones : Pair k u NoneOnly NoneOnly
  or_str : Pair k u NoneOnly (Str OrNone)
  or_list : (s : ℕ) → Pair k u NoneOnly (Lst s true)
  or_dict : (s : ℕ) → Pair k u NoneOnly (Dct s true)
  or_inst : (c : ℕ) → Pair k u NoneOnly (Inst c true)
  or_fun : (fs : List ℕ) → Pair k u NoneOnly (Fun fs true)
  truths : (a b : Option Bool) → LessKnown a b → Pair k u (Truth a) (Truth b)
  nums : (a b : Bool) → Implies a b → Pair k u (Num a) (Num b)
  strs : (a b : Width) → Wider a b → Pair k u (Str a) (Str b)
  tups : (xs ys : Shapes) → Each k u xs ys → Pair k u (Tup xs) (Tup ys)
  lsts : (s v : ℕ) (a b : Bool) → Same u s v → Implies a b → Pair k u (Lst s a) (Lst v b)
  dcts : (s v : ℕ) (a b : Bool) → Same u s v → Implies a b → Pair k u (Dct s a) (Dct v b)
  insts : (c d : ℕ) (a b : Bool) → Sub k c d → Implies a b → Pair k u (Inst c a) (Inst d b)
  funs : (fs gs : List ℕ) (a b : Bool) → Among fs gs → Implies a b → Pair k u (Fun fs a) (Fun gs b)

-- y is in conflict, or x is below it
abbrev pub Rises : List ClassInfo → List ℕ → Shape → Shape → Type 0
Rises k u x y = is_clash y ≡ false → Below k u x y

module _ (k : List ClassInfo) (u : List ℕ) where
  pub pair : (x y : Shape) → Below k u x y → is_nothing x ≡ false → is_clash y ≡ false → Pair k u x y
  pair _ _ (least y) r f = absurd (yes r)
  pair _ _ none r f = nones
  pair _ _ none_str r f = or_str
  pair _ _ (none_list s) r f = or_list s
  pair _ _ (none_dict s) r f = or_dict s
  pair _ _ (none_inst c) r f = or_inst c
  pair _ _ (none_fun fs) r f = or_fun fs
  pair _ _ (truth a b h) r f = truths a b h
  pair _ _ (num a b h) r f = nums a b h
  pair _ _ (str a b h) r f = strs a b h
  pair _ _ (tuple xs ys h) r f = tups xs ys h
  pair _ _ (list s v a b e h) r f = lsts s v a b e h
  pair _ _ (dict s v a b e h) r f = dcts s v a b e h
  pair _ _ (inst c d a b e h) r f = insts c d a b e h
  pair _ _ (fun fs gs a b e h) r f = funs fs gs a b e h
  pair _ _ (clash x o p h j) r f = absurd (yes f)

  pub unpair : (x y : Shape) → Pair k u x y → Below k u x y
  unpair _ _ nones = none
  unpair _ _ or_str = none_str
  unpair _ _ (or_list s) = none_list s
  unpair _ _ (or_dict s) = none_dict s
  unpair _ _ (or_inst c) = none_inst c
  unpair _ _ (or_fun fs) = none_fun fs
  unpair _ _ (truths a b h) = truth a b h
  unpair _ _ (nums a b h) = num a b h
  unpair _ _ (strs a b h) = str a b h
  unpair _ _ (tups xs ys h) = tuple xs ys h
  unpair _ _ (lsts s v a b e h) = list s v a b e h
  unpair _ _ (dcts s v a b e h) = dict s v a b e h
  unpair _ _ (insts c d a b e h) = inst c d a b e h
  unpair _ _ (funs fs gs a b e h) = fun fs gs a b e h

  -- what fits for larger operands fits for smaller ones, and there the result is below
  pub given_rises : (b c : Bool) (x y : Shape) → (c ≡ true → b ≡ true) → (c ≡ true → Rises k u x y) → Rises k u (given b x) (given c y)
  given_rises b false x y f g = λ e. absurd (yes e)
  given_rises true true x y f g = g refl
  given_rises false true x y f g = absurd (no (f refl))

  pub given_below : (b c : Bool) (x y : Shape) → (c ≡ true → b ≡ true) → Below k u x y → Rises k u (given b x) (given c y)
  given_below b c x y f h = given_rises b c x y f (λ e f. h)

  -- an element below all that fits
  pub below_given : (c : Bool) (x y : Shape) → Below k u x y → Rises k u x (given c y)
  below_given false x y h = λ e. absurd (yes e)
  below_given true x y h = λ e. h

pub and_left : (a b : Bool) → (a && b) ≡ true → a ≡ true
and_left true b e = refl
and_left false b e = absurd (no e)

pub and_right : (a b : Bool) → (a && b) ≡ true → b ≡ true
and_right true b e = e
and_right false b e = absurd (no e)

pub both : (a b : Bool) → a ≡ true → b ≡ true → (a && b) ≡ true
both true b e f = f
both false b e f = absurd (no e)

pub and_down : (a b c d : Bool) → (c ≡ true → a ≡ true) → (d ≡ true → b ≡ true) → (c && d) ≡ true → (a && b) ≡ true
and_down a b c d f g e = both a b (f (and_left c d e)) (g (and_right c d e))

pub or_first : (a b : Bool) → a ≡ true → (a || b) ≡ true
or_first true b e = refl
or_first false b e = absurd (no e)

pub or_second : (a b : Bool) → b ≡ true → (a || b) ≡ true
or_second true b e = refl
or_second false b e = e

pub or_down : (a b c d : Bool) → (c ≡ true → a ≡ true) → (d ≡ true → b ≡ true) → (c || d) ≡ true → (a || b) ≡ true
or_down a b true d f g e = or_first a b (f refl)
or_down a b false d f g e = or_second a b (g e)
