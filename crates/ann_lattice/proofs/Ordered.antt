-- The order of elements is one.
use Rattle.std.proofs.Common.{◌≡◌, ℕ, ◌<◌, Bool, true, false, List, [], ◌∷◌, ◌++◌, Option, Some, None, refl, sym, ap, ◌∙◌, arith, subst}
use Rattle.std.specs.Prelude.{◌==◌, ◌||◌, ◌&&◌, nat_lt}
use Rattle.std.proofs.lemmas.Bool.{eqb-true, eq-eqb, ltb-true}
use Rattle.rpy_tree.specs.declared.program.ClassInfo.{ClassInfo}
use Rattle.ann_element.specs.Sites.{leader, Same}
use Rattle.ann_lattice.specs.Shape.{Width, One, Any, OrNone, Shape, Nothing, NoneOnly, Truth, Num, Str, Tup, Lst, Dct, Inst, Fun, Clash, Shapes, end, more}
use Rattle.ann_lattice.specs.Order.{kept, lists, all_lists, dicts, all_dicts, In, Held, Implies, Wider, LessKnown, Sub, has, Among, Below, least, none, none_str, none_list, none_dict, none_inst, none_fun, truth, num, str, tuple, list, dict, inst, fun, clash, Each, no_more, and_more}
use Rattle.ann_lattice.specs.Join.{Within, no_clash}
use Rattle.ann_lattice.specs.Laws.{IsTree, IsOrder, name_of, named, all_named, from, rising, is_sound, are_sound}
use Rattle.ann_lattice.proofs.Tree.{sub_self, sub_on, sub_both}

-- ---- each kind

pub implies_self : (a : Bool) → Implies a a
implies_self true = tt
implies_self false = tt

pub implies_on : (a b c : Bool) → Implies a b → Implies b c → Implies a c
implies_on false b c h j = tt
implies_on true false c h j = absurd h
implies_on true true c h j = j

pub wider_self : (a : Width) → Wider a a
wider_self One = tt
wider_self Any = tt
wider_self OrNone = tt

wider_on : (a b c : Width) → Wider a b → Wider b c → Wider a c
wider_on One b c h j = tt
wider_on Any One c h j = absurd h
wider_on Any Any c h j = j
wider_on Any OrNone One h j = absurd j
wider_on Any OrNone Any h j = tt
wider_on Any OrNone OrNone h j = tt
wider_on OrNone One c h j = absurd h
wider_on OrNone Any c h j = absurd h
wider_on OrNone OrNone c h j = j

pub known_self : (a : Option Bool) → LessKnown a a
known_self (Some true) = tt
known_self (Some false) = tt
known_self None = tt

known_on : (a b c : Option Bool) → LessKnown a b → LessKnown b c → LessKnown a c
known_on (Some true) (Some true) c h j = j
known_on (Some false) (Some false) c h j = j
known_on (Some true) (Some false) c h j = absurd h
known_on (Some false) (Some true) c h j = absurd h
known_on (Some true) None None h j = tt
known_on (Some false) None None h j = tt
known_on None None None h j = tt
known_on (Some a) None (Some b) h j = absurd j
known_on None None (Some b) h j = absurd j
known_on None (Some b) c h j = absurd h

-- ---- functions

or_after : (a b : Bool) → b ≡ true → (a || b) ≡ true
or_after true b h = refl
or_after false b h = h

pub has_more : (g : ℕ) (gs : List ℕ) (f : ℕ) → has gs f ≡ true → has (g ∷ gs) f ≡ true
has_more g gs f h = or_after (g == f) (has gs f) h

pub among_more : (g : ℕ) (fs gs : List ℕ) → Among fs gs → Among fs (g ∷ gs)
among_more g [] gs h = tt
among_more g (f ∷ fs) gs h = (has_more g gs f h.0, among_more g fs gs h.1)

pub has_first : (f : ℕ) (fs : List ℕ) → has (f ∷ fs) f ≡ true
has_first f fs = ap (λ b. b || has fs f) (eq-eqb f f refl)

pub among_self : (fs : List ℕ) → Among fs fs
among_self [] = tt
among_self (f ∷ fs) = (has_first f fs, among_more f fs fs (among_self fs))

pub no : false ≡ true → ⊥
no e = cc

has_by : (b : Bool) (g f : ℕ) (gs hs : List ℕ) → (g == f) ≡ b → (b || has gs f) ≡ true → has hs g ≡ true → (has gs f ≡ true → has hs f ≡ true) → has hs f ≡ true
has_by true g f gs hs e h j rec = sym (ap (has hs) (eqb-true g f e)) ∙ j
has_by false g f gs hs e h j rec = rec h

pub has_on : (gs hs : List ℕ) (f : ℕ) → Among gs hs → has gs f ≡ true → has hs f ≡ true
has_on [] hs f h j = absurd (no j)
has_on (g ∷ gs) hs f h j = has_by (g == f) g f gs hs refl j h.0 (λ i. has_on gs hs f h.1 i)

pub among_on : (fs gs hs : List ℕ) → Among fs gs → Among gs hs → Among fs hs
among_on [] gs hs h j = tt
among_on (f ∷ fs) gs hs h j = (has_on gs hs f j h.0, among_on fs gs hs h.1 j)

-- ---- sites

pub in_on : (t : List ℕ) (o p : Option ℕ) (s : ℕ) → In t o s → Held t p (kept o) → In t p s
in_on t None p s i h = absurd i
in_on t (Some a) None s i h = absurd h.0
in_on t (Some a) (Some b) s i h = i ∙ h.0

pub held_on : (t : List ℕ) (o p : Option ℕ) (ss : List ℕ) → Held t o ss → Held t p (kept o) → Held t p ss
held_on t o p [] h j = tt
held_on t o p (s ∷ ss) h j = (in_on t o p s h.0 j, held_on t o p ss h.1 j)

pub held_append : (t : List ℕ) (o : Option ℕ) (ss us : List ℕ) → Held t o ss → Held t o us → Held t o (ss ++ us)
held_append t o [] us h j = j
held_append t o (s ∷ ss) us h j = (h.0, held_append t o ss us h.1 j)

pub held_split : (t : List ℕ) (o : Option ℕ) (ss us : List ℕ) → Held t o (ss ++ us) → Held t o ss × Held t o us
held_split t o [] us h = (tt, h)
held_split t o (s ∷ ss) us h = let r = held_split t o ss us h.1 in ((h.0, r.0), r.1)

pub held_kept : (t : List ℕ) (o : Option ℕ) → Held t o (kept o)
held_kept t None = tt
held_kept t (Some a) = (refl, tt)

pub in_more : (t u : List ℕ) (o : Option ℕ) (s : ℕ) → Within t u → In t o s → In u o s
in_more t u None s w i = absurd i
in_more t u (Some a) s w i = w.by s a i

pub held_more : (t u : List ℕ) (o : Option ℕ) (ss : List ℕ) → Within t u → Held t o ss → Held u o ss
held_more t u o [] w h = tt
held_more t u o (s ∷ ss) w h = (in_more t u o s w h.0, held_more t u o ss w h.1)

-- ---- the order

module _ (k : List ClassInfo) where
  module _ (tree : IsTree k) where
    mutual
      pub below_self : (t : List ℕ) (x : Shape) → Below k t x x
      below_self t Nothing = least Nothing
      below_self t NoneOnly = none
      below_self t (Truth a) = truth a a (known_self a)
      below_self t (Num a) = num a a (implies_self a)
      below_self t (Str a) = str a a (wider_self a)
      below_self t (Tup xs) = tuple xs xs (each_self t xs)
      below_self t (Lst s a) = list s s a a refl (implies_self a)
      below_self t (Dct s a) = dict s s a a refl (implies_self a)
      below_self t (Inst c a) = inst c c a a (sub_self k tree c) (implies_self a)
      below_self t (Fun fs a) = fun fs fs a a (among_self fs) (implies_self a)
      below_self t (Clash o p) = clash (Clash o p) o p (held_kept t o) (held_kept t p)

      pub each_self : (t : List ℕ) (xs : Shapes) → Each k t xs xs
      each_self t end = no_more
      each_self t (more x xs) = and_more x x xs xs (below_self t x) (each_self t xs)

  mutual
    pub below_more : (t u : List ℕ) (w : Within t u) (x y : Shape) → Below k t x y → Below k u x y
    below_more t u w _ _ (least y) = least y
    below_more t u w _ _ none = none
    below_more t u w _ _ none_str = none_str
    below_more t u w _ _ (none_list s) = none_list s
    below_more t u w _ _ (none_dict s) = none_dict s
    below_more t u w _ _ (none_inst c) = none_inst c
    below_more t u w _ _ (none_fun fs) = none_fun fs
    below_more t u w _ _ (truth a b h) = truth a b h
    below_more t u w _ _ (num a b h) = num a b h
    below_more t u w _ _ (str a b h) = str a b h
    below_more t u w _ _ (tuple xs ys h) = tuple xs ys (each_more t u w xs ys h)
    below_more t u w _ _ (list s v a b e h) = list s v a b (w.by s v e) h
    below_more t u w _ _ (dict s v a b e h) = dict s v a b (w.by s v e) h
    below_more t u w _ _ (inst c d a b e h) = inst c d a b e h
    below_more t u w _ _ (fun fs gs a b e h) = fun fs gs a b e h
    below_more t u w _ _ (clash x o p h j) = clash x o p (held_more t u o (lists x) w h) (held_more t u p (dicts x) w j)

    pub each_more : (t u : List ℕ) (w : Within t u) (xs ys : Shapes) → Each k t xs ys → Each k u xs ys
    each_more t u w _ _ no_more = no_more
    each_more t u w _ _ (and_more x y xs ys h hs) = and_more x y xs ys (below_more t u w x y h) (each_more t u w xs ys hs)

  same_in : (t : List ℕ) (o : Option ℕ) (s v : ℕ) → Same t s v → In t o v → In t o s
  same_in t None s v e i = i
  same_in t (Some a) s v e i = e ∙ i

  -- where the lists of the larger are held, those of the smaller are
  mutual
    pub lists_on : (t : List ℕ) (o : Option ℕ) (x y : Shape) → Below k t x y → Held t o (lists y) → Held t o (lists x)
    lists_on t o _ _ (least y) i = tt
    lists_on t o _ _ none i = tt
    lists_on t o _ _ none_str i = tt
    lists_on t o _ _ (none_list s) i = tt
    lists_on t o _ _ (none_dict s) i = tt
    lists_on t o _ _ (none_inst c) i = tt
    lists_on t o _ _ (none_fun fs) i = tt
    lists_on t o _ _ (truth a b h) i = tt
    lists_on t o _ _ (num a b h) i = tt
    lists_on t o _ _ (str a b h) i = tt
    lists_on t o _ _ (tuple xs ys h) i = all_lists_on t o xs ys h i
    lists_on t o _ _ (list s v a b e h) i = (same_in t o s v e i.0, tt)
    lists_on t o _ _ (dict s v a b e h) i = tt
    lists_on t o _ _ (inst c d a b e h) i = tt
    lists_on t o _ _ (fun fs gs a b e h) i = tt
    lists_on t o _ _ (clash x p q h j) i = held_on t p o (lists x) h i

    pub all_lists_on : (t : List ℕ) (o : Option ℕ) (xs ys : Shapes) → Each k t xs ys → Held t o (all_lists ys) → Held t o (all_lists xs)
    all_lists_on t o _ _ no_more i = tt
    all_lists_on t o _ _ (and_more x y xs ys h hs) i =
        let parts = held_split t o (lists y) (all_lists ys) i in
        held_append t o (lists x) (all_lists xs) (lists_on t o x y h parts.0) (all_lists_on t o xs ys hs parts.1)

  mutual
    pub dicts_on : (t : List ℕ) (o : Option ℕ) (x y : Shape) → Below k t x y → Held t o (dicts y) → Held t o (dicts x)
    dicts_on t o _ _ (least y) i = tt
    dicts_on t o _ _ none i = tt
    dicts_on t o _ _ none_str i = tt
    dicts_on t o _ _ (none_list s) i = tt
    dicts_on t o _ _ (none_dict s) i = tt
    dicts_on t o _ _ (none_inst c) i = tt
    dicts_on t o _ _ (none_fun fs) i = tt
    dicts_on t o _ _ (truth a b h) i = tt
    dicts_on t o _ _ (num a b h) i = tt
    dicts_on t o _ _ (str a b h) i = tt
    dicts_on t o _ _ (tuple xs ys h) i = all_dicts_on t o xs ys h i
    dicts_on t o _ _ (list s v a b e h) i = tt
    dicts_on t o _ _ (dict s v a b e h) i = (same_in t o s v e i.0, tt)
    dicts_on t o _ _ (inst c d a b e h) i = tt
    dicts_on t o _ _ (fun fs gs a b e h) i = tt
    dicts_on t o _ _ (clash x p q h j) i = held_on t q o (dicts x) j i

    pub all_dicts_on : (t : List ℕ) (o : Option ℕ) (xs ys : Shapes) → Each k t xs ys → Held t o (all_dicts ys) → Held t o (all_dicts xs)
    all_dicts_on t o _ _ no_more i = tt
    all_dicts_on t o _ _ (and_more x y xs ys h hs) i =
        let parts = held_split t o (dicts y) (all_dicts ys) i in
        held_append t o (dicts x) (all_dicts xs) (dicts_on t o x y h parts.0) (all_dicts_on t o xs ys hs parts.1)

  none_over_str : (t : List ℕ) (b : Width) → Wider OrNone b → Below k t NoneOnly (Str b)
  none_over_str t One h = absurd h
  none_over_str t Any h = absurd h
  none_over_str t OrNone h = none_str

  none_over_list : (t : List ℕ) (s : ℕ) (b : Bool) → Implies true b → Below k t NoneOnly (Lst s b)
  none_over_list t s true h = none_list s
  none_over_list t s false h = absurd h

  none_over_dict : (t : List ℕ) (s : ℕ) (b : Bool) → Implies true b → Below k t NoneOnly (Dct s b)
  none_over_dict t s true h = none_dict s
  none_over_dict t s false h = absurd h

  none_over_inst : (t : List ℕ) (s : ℕ) (b : Bool) → Implies true b → Below k t NoneOnly (Inst s b)
  none_over_inst t s true h = none_inst s
  none_over_inst t s false h = absurd h

  none_over_fun : (t : List ℕ) (fs : List ℕ) (b : Bool) → Implies true b → Below k t NoneOnly (Fun fs b)
  none_over_fun t fs true h = none_fun fs
  none_over_fun t fs false h = absurd h

  over_clash : (t : List ℕ) (x y : Shape) (o p : Option ℕ) → Below k t x y → Held t o (lists y) → Held t p (dicts y) → Below k t x (Clash o p)
  over_clash t x y o p h i j = clash x o p (lists_on t o x y h i) (dicts_on t p x y h j)

  module _ (tree : IsTree k) where
    none_str_on : (t : List ℕ) (z : Shape) → Below k t (Str OrNone) z → Below k t NoneOnly z
    none_str_on t _ (str _ b h) = none_over_str t b h
    none_str_on t _ (clash _ o p i j) = clash NoneOnly o p tt tt

    none_list_on : (t : List ℕ) (s : ℕ) (z : Shape) → Below k t (Lst s true) z → Below k t NoneOnly z
    none_list_on t s _ (list _ v _ b e h) = none_over_list t v b h
    none_list_on t s _ (clash _ o p i j) = clash NoneOnly o p tt tt

    none_dict_on : (t : List ℕ) (s : ℕ) (z : Shape) → Below k t (Dct s true) z → Below k t NoneOnly z
    none_dict_on t s _ (dict _ v _ b e h) = none_over_dict t v b h
    none_dict_on t s _ (clash _ o p i j) = clash NoneOnly o p tt tt

    none_inst_on : (t : List ℕ) (s : ℕ) (z : Shape) → Below k t (Inst s true) z → Below k t NoneOnly z
    none_inst_on t s _ (inst _ v _ b e h) = none_over_inst t v b h
    none_inst_on t s _ (clash _ o p i j) = clash NoneOnly o p tt tt

    none_fun_on : (t : List ℕ) (fs : List ℕ) (z : Shape) → Below k t (Fun fs true) z → Below k t NoneOnly z
    none_fun_on t fs _ (fun _ gs _ b e h) = none_over_fun t gs b h
    none_fun_on t fs _ (clash _ o p i j) = clash NoneOnly o p tt tt

    truth_on : (t : List ℕ) (a b : Option Bool) → LessKnown a b → (z : Shape) → Below k t (Truth b) z → Below k t (Truth a) z
    truth_on t a b h _ (truth _ c j) = truth a c (known_on a b c h j)
    truth_on t a b h _ (clash _ o p i j) = clash (Truth a) o p tt tt

    num_on : (t : List ℕ) (a b : Bool) → Implies a b → (z : Shape) → Below k t (Num b) z → Below k t (Num a) z
    num_on t a b h _ (num _ c j) = num a c (implies_on a b c h j)
    num_on t a b h _ (clash _ o p i j) = clash (Num a) o p tt tt

    str_on : (t : List ℕ) (a b : Width) → Wider a b → (z : Shape) → Below k t (Str b) z → Below k t (Str a) z
    str_on t a b h _ (str _ c j) = str a c (wider_on a b c h j)
    str_on t a b h _ (clash _ o p i j) = clash (Str a) o p tt tt

    list_on : (t : List ℕ) (s v : ℕ) (a b : Bool) → Same t s v → Implies a b → (z : Shape) → Below k t (Lst v b) z → Below k t (Lst s a) z
    list_on t s v a b e h _ (list _ w _ c f j) = list s w a c (e ∙ f) (implies_on a b c h j)
    list_on t s v a b e h _ (clash _ o p i j) = over_clash t (Lst s a) (Lst v b) o p (list s v a b e h) i j

    dict_on : (t : List ℕ) (s v : ℕ) (a b : Bool) → Same t s v → Implies a b → (z : Shape) → Below k t (Dct v b) z → Below k t (Dct s a) z
    dict_on t s v a b e h _ (dict _ w _ c f j) = dict s w a c (e ∙ f) (implies_on a b c h j)
    dict_on t s v a b e h _ (clash _ o p i j) = over_clash t (Dct s a) (Dct v b) o p (dict s v a b e h) i j

    inst_on : (t : List ℕ) (c d : ℕ) (a b : Bool) → Sub k c d → Implies a b → (z : Shape) → Below k t (Inst d b) z → Below k t (Inst c a) z
    inst_on t c d a b e h _ (inst _ m _ n f j) = inst c m a n (sub_on k tree c d m e f) (implies_on a b n h j)
    inst_on t c d a b e h _ (clash _ o p i j) = clash (Inst c a) o p tt tt

    fun_on : (t : List ℕ) (fs gs : List ℕ) (a b : Bool) → Among fs gs → Implies a b → (z : Shape) → Below k t (Fun gs b) z → Below k t (Fun fs a) z
    fun_on t fs gs a b e h _ (fun _ hs _ c f j) = fun fs hs a c (among_on fs gs hs e f) (implies_on a b c h j)
    fun_on t fs gs a b e h _ (clash _ o p i j) = clash (Fun fs a) o p tt tt

    mutual
      pub below_on : (t : List ℕ) (x y : Shape) (h : Below k t x y) (z : Shape) → Below k t y z → Below k t x z
      below_on t _ _ (least y) z j = least z
      below_on t _ _ none z j = j
      below_on t _ _ none_str z j = none_str_on t z j
      below_on t _ _ (none_list s) z j = none_list_on t s z j
      below_on t _ _ (none_dict s) z j = none_dict_on t s z j
      below_on t _ _ (none_inst c) z j = none_inst_on t c z j
      below_on t _ _ (none_fun fs) z j = none_fun_on t fs z j
      below_on t _ _ (truth a b h) z j = truth_on t a b h z j
      below_on t _ _ (num a b h) z j = num_on t a b h z j
      below_on t _ _ (str a b h) z j = str_on t a b h z j
      below_on t _ _ (tuple xs ys h) _ (tuple _ zs j) = tuple xs zs (each_on t xs ys h zs j)
      below_on t _ _ (tuple xs ys h) _ (clash _ o p i j) = over_clash t (Tup xs) (Tup ys) o p (tuple xs ys h) i j
      below_on t _ _ (list s v a b e h) z j = list_on t s v a b e h z j
      below_on t _ _ (dict s v a b e h) z j = dict_on t s v a b e h z j
      below_on t _ _ (inst c d a b e h) z j = inst_on t c d a b e h z j
      below_on t _ _ (fun fs gs a b e h) z j = fun_on t fs gs a b e h z j
      below_on t _ _ (clash x o p h i) _ (clash _ q r j l) = over_clash t x (Clash o p) q r (clash x o p h i) j l

      pub each_on : (t : List ℕ) (xs ys : Shapes) (h : Each k t xs ys) (zs : Shapes) → Each k t ys zs → Each k t xs zs
      each_on t _ _ no_more _ no_more = no_more
      each_on t _ _ (and_more x y xs ys h hs) _ (and_more _ z _ zs j js) = and_more x z xs zs (below_on t x y h z j) (each_on t xs ys hs zs js)

-- ---- below each other

implies_both : (a b : Bool) → Implies a b → Implies b a → a ≡ b
implies_both true true h j = refl
implies_both false false h j = refl
implies_both true false h j = absurd h
implies_both false true h j = absurd j

wider_both : (a b : Width) → Wider a b → Wider b a → a ≡ b
wider_both One One h j = refl
wider_both Any Any h j = refl
wider_both OrNone OrNone h j = refl
wider_both One Any h j = absurd j
wider_both One OrNone h j = absurd j
wider_both Any One h j = absurd h
wider_both Any OrNone h j = absurd j
wider_both OrNone One h j = absurd h
wider_both OrNone Any h j = absurd h

known_both : (a b : Option Bool) → LessKnown a b → LessKnown b a → a ≡ b
known_both (Some true) (Some true) h j = refl
known_both (Some false) (Some false) h j = refl
known_both None None h j = refl
known_both (Some true) (Some false) h j = absurd h
known_both (Some false) (Some true) h j = absurd h
known_both (Some a) None h j = absurd j
known_both None (Some b) h j = absurd h

class_both : (t : List ℕ) (o p : Option ℕ) → Held t p (kept o) → Held t o (kept p) → name_of t o ≡ name_of t p
class_both t None None h j = refl
class_both t None (Some b) h j = absurd j.0
class_both t (Some a) None h j = absurd h.0
class_both t (Some a) (Some b) h j = ap (λ s. Some s) h.0

pub and_left : (a b : Bool) → (a && b) ≡ true → a ≡ true
and_left true b e = refl
and_left false b e = absurd (no e)

pub and_right : (a b : Bool) → (a && b) ≡ true → b ≡ true
and_right true b e = e
and_right false b e = absurd (no e)

-- in a list that rises from above n all are above n
above_one : (b : Bool) (n g : ℕ) (gs : List ℕ) (f : ℕ) → (g == f) ≡ b → n < g → (b || has gs f) ≡ true → (has gs f ≡ true → g < f) → n < f
above_one true n g gs f e lt h rec = omega (arith, lt, eqb-true g f e)
above_one false n g gs f e lt h rec = omega (arith, lt, rec h)

above_all : (n : ℕ) (gs : List ℕ) (f : ℕ) → from n gs ≡ true → has gs f ≡ true → n < f
above_all n [] f r h = absurd (no h)
above_all n (g ∷ gs) f r h =
    above_one (g == f) n g gs f refl (ltb-true n g (and_left (nat_lt n g) (from g gs) r)) h (λ i. above_all g gs f (and_right (nat_lt n g) (from g gs) r) i)

-- all but the first are among the rest
rest_one : (b : Bool) (g f : ℕ) (gs : List ℕ) → (f == g) ≡ b → f < g → (b || has gs g) ≡ true → has gs g ≡ true
rest_one true g f gs e lt h = absurd (omega (arith, lt, eqb-true f g e))
rest_one false g f gs e lt h = h

rest_from : (n f : ℕ) (fs gs : List ℕ) → n < f → from f fs ≡ true → Among fs (n ∷ gs) → Among fs gs
rest_from n f [] gs lt r h = tt
rest_from n f (g ∷ fs) gs lt r h =
    let up : f < g = ltb-true f g (and_left (nat_lt f g) (from g fs) r) in
    (rest_one (n == g) g n gs refl (omega (arith, lt, up)) h.0, rest_from n g fs gs (omega (arith, lt, up)) (and_right (nat_lt f g) (from g fs) r) h.1)

rest_among : (f : ℕ) (fs gs : List ℕ) → from f fs ≡ true → Among fs (f ∷ gs) → Among fs gs
rest_among f [] gs r h = tt
rest_among f (g ∷ fs) gs r h =
    let up : f < g = ltb-true f g (and_left (nat_lt f g) (from g fs) r) in
    (rest_one (f == g) g f gs refl up h.0, rest_from f g fs gs up (and_right (nat_lt f g) (from g fs) r) h.1)

first_by : (b c : Bool) (f g : ℕ) (fs gs : List ℕ) → (g == f) ≡ b → (f == g) ≡ c → from f fs ≡ true → from g gs ≡ true → (b || has gs f) ≡ true → (c || has fs g) ≡ true → f ≡ g
first_by true c f g fs gs e d r s h j = sym (eqb-true g f e)
first_by false true f g fs gs e d r s h j = eqb-true f g d
first_by false false f g fs gs e d r s h j = absurd (omega (arith, above_all g gs f s h, above_all f fs g r j))

first_same : (f g : ℕ) (fs gs : List ℕ) → from f fs ≡ true → from g gs ≡ true → has (g ∷ gs) f ≡ true → has (f ∷ fs) g ≡ true → f ≡ g
first_same f g fs gs r s h j = first_by (g == f) (f == g) f g fs gs refl refl r s h j

rising_rest : (n : ℕ) (fs : List ℕ) → from n fs ≡ true → rising fs ≡ true
rising_rest n [] r = refl
rising_rest n (f ∷ fs) r = and_right (nat_lt n f) (from f fs) r

among_both : (fs gs : List ℕ) → rising fs ≡ true → rising gs ≡ true → Among fs gs → Among gs fs → fs ≡ gs
among_both [] [] r s h j = refl
among_both [] (g ∷ gs) r s h j = absurd (no j.0)
among_both (f ∷ fs) [] r s h j = absurd (no h.0)
among_both (f ∷ fs) (g ∷ gs) r s h j =
    let e : f ≡ g = first_same f g fs gs r s h.0 j.0 in
    let h' : Among fs (f ∷ gs) = subst (λ x. Among fs (x ∷ gs)) (sym e) h.1 in
    let j' : Among gs (g ∷ fs) = subst (λ x. Among gs (x ∷ fs)) e j.1 in
    ap (λ x. x ∷ fs) e ∙ ap (λ l. g ∷ l) (among_both fs gs (rising_rest f fs r) (rising_rest g gs s) (rest_among f fs gs r h') (rest_among g gs fs s j'))

module _ (k : List ClassInfo) (tree : IsTree k) where
  nothing_is : (t : List ℕ) (y : Shape) → Below k t y Nothing → Nothing ≡ named t y
  nothing_is t _ (least _) = refl

  clash_both : (t : List ℕ) (x : Shape) (o p : Option ℕ) → Held t o (lists x) → Held t p (dicts x) → Below k t (Clash o p) x → named t x ≡ Clash (name_of t o) (name_of t p)
  clash_both t _ o p h i (clash _ q r j l) = ap (λ c. Clash c (name_of t r)) (class_both t q o h j) ∙ ap (λ c. Clash (name_of t o) c) (class_both t r p i l)

  sound_parts : (xs : Shapes) → is_sound (Tup xs) ≡ true → are_sound xs ≡ true
  sound_parts xs f = and_right (no_clash xs) (are_sound xs) f

  mutual
    pub below_both : (t : List ℕ) (x y : Shape) (h : Below k t x y) → is_sound x ≡ true → is_sound y ≡ true → Below k t y x → named t x ≡ named t y
    below_both t _ _ (least y) f g j = nothing_is t y j
    below_both t _ _ none f g j = refl
    below_both t _ _ none_str f g j = elim j [ ]
    below_both t _ _ (none_list s) f g j = elim j [ ]
    below_both t _ _ (none_dict s) f g j = elim j [ ]
    below_both t _ _ (none_inst c) f g j = elim j [ ]
    below_both t _ _ (none_fun fs) f g j = elim j [ ]
    below_both t _ _ (truth a b h) f g (truth _ _ j) = ap (λ c. Truth c) (known_both a b h j)
    below_both t _ _ (num a b h) f g (num _ _ j) = ap (λ c. Num c) (implies_both a b h j)
    below_both t _ _ (str a b h) f g (str _ _ j) = ap (λ c. Str c) (wider_both a b h j)
    below_both t _ _ (tuple xs ys h) f g (tuple _ _ j) = ap (λ l. Tup l) (each_both t xs ys h (sound_parts xs f) (sound_parts ys g) j)
    below_both t _ _ (list s u a b e h) f g (list _ _ _ _ d j) = ap (λ c. Lst (leader t s) c) (implies_both a b h j) ∙ ap (λ l. Lst l b) e
    below_both t _ _ (dict s u a b e h) f g (dict _ _ _ _ d j) = ap (λ c. Dct (leader t s) c) (implies_both a b h j) ∙ ap (λ l. Dct l b) e
    below_both t _ _ (inst c d a b e h) f g (inst _ _ _ _ i j) = ap (λ n. Inst c n) (implies_both a b h j) ∙ ap (λ m. Inst m b) (sub_both k tree c d e i)
    below_both t _ _ (fun fs gs a b e h) f g (fun _ _ _ _ i j) = ap (λ n. Fun fs n) (implies_both a b h j) ∙ ap (λ l. Fun l b) (among_both fs gs f g e i)
    below_both t _ _ (clash x o p h i) f g j = clash_both t x o p h i j

    pub each_both : (t : List ℕ) (xs ys : Shapes) (h : Each k t xs ys) → are_sound xs ≡ true → are_sound ys ≡ true → Each k t ys xs → all_named t xs ≡ all_named t ys
    each_both t _ _ no_more f g j = refl
    each_both t _ _ (and_more x y xs ys h hs) f g (and_more _ _ _ _ j js) =
        ap (λ z. more z (all_named t xs)) (below_both t x y h (and_left (is_sound x) (are_sound xs) f) (and_left (is_sound y) (are_sound ys) g) j)
        ∙ ap (λ zs. more (named t y) zs) (each_both t xs ys hs (and_right (is_sound x) (are_sound xs) f) (and_right (is_sound y) (are_sound ys) g) js)

pub is_order : (k : List ClassInfo) → IsTree k → (t : List ℕ) → IsOrder k t
is_order k tree t =
    record {
      itself = λ x. below_self k tree t x;
      onward = λ x y z h j. below_on k tree t x y h z j;
      both = λ x y f g h j. below_both k tree t x y h f.sound g.sound j;
      wider = λ u w x y h. below_more k t u w x y h;
    }
