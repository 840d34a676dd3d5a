-- The test of the order is right.
use Rattle.std.proofs.Common.{◌≡◌, ℕ, Bool, true, false, List, [], ◌∷◌, ◌++◌, Option, Some, None, refl, sym, ap, ◌∙◌}
use Rattle.std.specs.Prelude.{◌==◌, ◌&&◌}
use Rattle.std.proofs.lemmas.Bool.{eqb-true, eq-eqb}
use Rattle.rpy_tree.specs.declared.program.ClassInfo.{ClassInfo}
use Rattle.class_desc.specs.Line as line
use Rattle.ann_element.specs.Sites.{leader}
use Rattle.ann_lattice.specs.Shape.{Width, One, Any, OrNone, Shape, Nothing, NoneOnly, Truth, Num, Str, Tup, Lst, Dct, Inst, Fun, Clash, Shapes, end, more}
use Rattle.ann_lattice.specs.Order.{kept, lists, all_lists, dicts, all_dicts, In, Held, Implies, Wider, LessKnown, Sub, has, Among, Below, least, none, none_str, none_list, none_dict, none_inst, none_fun, truth, num, str, tuple, list, dict, inst, fun, clash, Each, no_more, and_more, implies, same, is_in, kept_in, are_held, all_held, wider, less_known, are_among, takes_none, is_below, each_below}
use Rattle.ann_lattice.specs.Laws.{IsTested}
use Rattle.ann_lattice.proofs.Ordered.{no, and_left, and_right, held_append, held_split}
use Rattle.ann_lattice.proofs.Joined.{both}

implies_is : (a b : Bool) → implies a b ≡ true → Implies a b
implies_is true true e = tt
implies_is true false e = no e
implies_is false b e = tt

is_implies : (a b : Bool) → Implies a b → implies a b ≡ true
is_implies true true h = refl
is_implies true false h = absurd h
is_implies false b h = refl

wider_is : (a b : Width) → wider a b ≡ true → Wider a b
wider_is One b e = tt
wider_is Any One e = no e
wider_is Any Any e = tt
wider_is Any OrNone e = tt
wider_is OrNone One e = no e
wider_is OrNone Any e = no e
wider_is OrNone OrNone e = tt

is_wider : (a b : Width) → Wider a b → wider a b ≡ true
is_wider One b h = refl
is_wider Any One h = absurd h
is_wider Any Any h = refl
is_wider Any OrNone h = refl
is_wider OrNone One h = absurd h
is_wider OrNone Any h = absurd h
is_wider OrNone OrNone h = refl

known_is : (a b : Option Bool) → less_known a b ≡ true → LessKnown a b
known_is (Some true) (Some true) e = tt
known_is (Some true) (Some false) e = no e
known_is (Some false) (Some true) e = no e
known_is (Some false) (Some false) e = tt
known_is (Some true) None e = tt
known_is (Some false) None e = tt
known_is None None e = tt
known_is None (Some b) e = no e

is_known : (a b : Option Bool) → LessKnown a b → less_known a b ≡ true
is_known (Some true) (Some true) h = refl
is_known (Some true) (Some false) h = absurd h
is_known (Some false) (Some true) h = absurd h
is_known (Some false) (Some false) h = refl
is_known (Some a) None h = refl
is_known None None h = refl
is_known None (Some b) h = absurd h

among_is : (fs gs : List ℕ) → are_among fs gs ≡ true → Among fs gs
among_is [] gs e = tt
among_is (f ∷ fs) gs e = (and_left (has gs f) (are_among fs gs) e, among_is fs gs (and_right (has gs f) (are_among fs gs) e))

is_among : (fs gs : List ℕ) → Among fs gs → are_among fs gs ≡ true
is_among [] gs h = refl
is_among (f ∷ fs) gs h = both h.0 (is_among fs gs h.1)

module _ (t : List ℕ) where
  in_is : (o : Option ℕ) (s : ℕ) → is_in t o s ≡ true → In t o s
  in_is None s e = no e
  in_is (Some a) s e = eqb-true (leader t s) (leader t a) e

  is_in_of : (o : Option ℕ) (s : ℕ) → In t o s → is_in t o s ≡ true
  is_in_of None s h = absurd h
  is_in_of (Some a) s h = eq-eqb (leader t s) (leader t a) h

  kept_is : (o q : Option ℕ) → kept_in t o q ≡ true → Held t o (kept q)
  kept_is o None e = tt
  kept_is o (Some s) e = (in_is o s e, tt)

  is_kept : (o q : Option ℕ) → Held t o (kept q) → kept_in t o q ≡ true
  is_kept o None h = refl
  is_kept o (Some s) h = is_in_of o s h.0

  mutual
    held_is : (o p : Option ℕ) (x : Shape) → are_held t o p x ≡ true → Held t o (lists x) × Held t p (dicts x)
    held_is o p (Lst s n) e = ((in_is o s e, tt), tt)
    held_is o p (Dct s n) e = (tt, (in_is p s e, tt))
    held_is o p (Tup xs) e = all_held_is o p xs e
    held_is o p (Clash q r) e = (kept_is o q (and_left (kept_in t o q) (kept_in t p r) e), kept_is p r (and_right (kept_in t o q) (kept_in t p r) e))
    held_is o p x e = (tt, tt)

    all_held_is : (o p : Option ℕ) (xs : Shapes) → all_held t o p xs ≡ true → Held t o (all_lists xs) × Held t p (all_dicts xs)
    all_held_is o p end e = (tt, tt)
    all_held_is o p (more x xs) e =
        let a = held_is o p x (and_left (are_held t o p x) (all_held t o p xs) e) in
        let b = all_held_is o p xs (and_right (are_held t o p x) (all_held t o p xs) e) in
        (held_append t o (lists x) (all_lists xs) a.0 b.0, held_append t p (dicts x) (all_dicts xs) a.1 b.1)

  mutual
    is_held : (o p : Option ℕ) (x : Shape) → Held t o (lists x) → Held t p (dicts x) → are_held t o p x ≡ true
    is_held o p (Lst s n) h j = is_in_of o s h.0
    is_held o p (Dct s n) h j = is_in_of p s j.0
    is_held o p (Tup xs) h j = is_all_held o p xs h j
    is_held o p (Clash q r) h j = both (is_kept o q h) (is_kept p r j)
    is_held o p x h j = refl

    is_all_held : (o p : Option ℕ) (xs : Shapes) → Held t o (all_lists xs) → Held t p (all_dicts xs) → all_held t o p xs ≡ true
    is_all_held o p end h j = refl
    is_all_held o p (more x xs) h j =
        let a = held_split t o (lists x) (all_lists xs) h in
        let b = held_split t p (dicts x) (all_dicts xs) j in
        both (is_held o p x a.0 b.0) (is_all_held o p xs a.1 b.1)

  module _ (k : List ClassInfo) where
    none_str_is : (a : Width) → takes_none (Str a) ≡ true → Below k t NoneOnly (Str a)
    none_str_is One e = absurd (no e)
    none_str_is Any e = absurd (no e)
    none_str_is OrNone e = none_str

    none_list_is : (s : ℕ) (n : Bool) → n ≡ true → Below k t NoneOnly (Lst s n)
    none_list_is s true e = none_list s
    none_list_is s false e = absurd (no e)

    none_dict_is : (s : ℕ) (n : Bool) → n ≡ true → Below k t NoneOnly (Dct s n)
    none_dict_is s true e = none_dict s
    none_dict_is s false e = absurd (no e)

    none_inst_is : (s : ℕ) (n : Bool) → n ≡ true → Below k t NoneOnly (Inst s n)
    none_inst_is s true e = none_inst s
    none_inst_is s false e = absurd (no e)

    none_fun_is : (fs : List ℕ) (n : Bool) → n ≡ true → Below k t NoneOnly (Fun fs n)
    none_fun_is fs true e = none_fun fs
    none_fun_is fs false e = absurd (no e)

    clash_is : (x : Shape) (o p : Option ℕ) → are_held t o p x ≡ true → Below k t x (Clash o p)
    clash_is x o p e = let h = held_is o p x e in clash x o p h.0 h.1

    mutual
      below_is : (x y : Shape) → is_below k t x y ≡ true → Below k t x y
      below_is Nothing y e = least y
      below_is NoneOnly NoneOnly e = none
      below_is NoneOnly (Str a) e = none_str_is a e
      below_is NoneOnly (Lst s n) e = none_list_is s n e
      below_is NoneOnly (Dct s n) e = none_dict_is s n e
      below_is NoneOnly (Inst c n) e = none_inst_is c n e
      below_is NoneOnly (Fun fs n) e = none_fun_is fs n e
      below_is NoneOnly (Clash o p) e = clash_is NoneOnly o p refl
      below_is (Truth a) (Clash o p) e = clash_is (Truth a) o p refl
      below_is (Num a) (Clash o p) e = clash_is (Num a) o p refl
      below_is (Str a) (Clash o p) e = clash_is (Str a) o p refl
      below_is (Tup xs) (Clash o p) e = clash_is (Tup xs) o p e
      below_is (Lst s a) (Clash o p) e = clash_is (Lst s a) o p e
      below_is (Dct s a) (Clash o p) e = clash_is (Dct s a) o p e
      below_is (Inst c a) (Clash o p) e = clash_is (Inst c a) o p refl
      below_is (Fun fs a) (Clash o p) e = clash_is (Fun fs a) o p refl
      below_is (Clash q r) (Clash o p) e = clash_is (Clash q r) o p e
      below_is (Truth a) (Truth b) e = truth a b (known_is a b e)
      below_is (Num a) (Num b) e = num a b (implies_is a b e)
      below_is (Str a) (Str b) e = str a b (wider_is a b e)
      below_is (Tup xs) (Tup ys) e = tuple xs ys (each_is xs ys e)
      below_is (Lst s a) (Lst u b) e = list s u a b (eqb-true (leader t s) (leader t u) (and_left (same t s u) (implies a b) e)) (implies_is a b (and_right (same t s u) (implies a b) e))
      below_is (Dct s a) (Dct u b) e = dict s u a b (eqb-true (leader t s) (leader t u) (and_left (same t s u) (implies a b) e)) (implies_is a b (and_right (same t s u) (implies a b) e))
      below_is (Inst c a) (Inst d b) e = inst c d a b (and_left (line.is_below k c d) (implies a b) e) (implies_is a b (and_right (line.is_below k c d) (implies a b) e))
      below_is (Fun fs a) (Fun gs b) e = fun fs gs a b (among_is fs gs (and_left (are_among fs gs) (implies a b) e)) (implies_is a b (and_right (are_among fs gs) (implies a b) e))
      below_is x y e = absurd (no e)

      each_is : (xs ys : Shapes) → each_below k t xs ys ≡ true → Each k t xs ys
      each_is end end e = no_more
      each_is end (more y ys) e = absurd (no e)
      each_is (more x xs) end e = absurd (no e)
      each_is (more x xs) (more y ys) e =
          and_more x y xs ys (below_is x y (and_left (is_below k t x y) (each_below k t xs ys) e)) (each_is xs ys (and_right (is_below k t x y) (each_below k t xs ys) e))

    is_clash_of : (x : Shape) (o p : Option ℕ) → are_held t o p x ≡ true → is_below k t x (Clash o p) ≡ true
    is_clash_of Nothing o p e = refl
    is_clash_of NoneOnly o p e = refl
    is_clash_of (Truth a) o p e = refl
    is_clash_of (Num a) o p e = refl
    is_clash_of (Str a) o p e = refl
    is_clash_of (Tup xs) o p e = e
    is_clash_of (Lst s a) o p e = e
    is_clash_of (Dct s a) o p e = e
    is_clash_of (Inst c a) o p e = refl
    is_clash_of (Fun fs a) o p e = refl
    is_clash_of (Clash q r) o p e = e

    mutual
      is_of : (x y : Shape) → Below k t x y → is_below k t x y ≡ true
      is_of _ _ (least y) = refl
      is_of _ _ none = refl
      is_of _ _ none_str = refl
      is_of _ _ (none_list s) = refl
      is_of _ _ (none_dict s) = refl
      is_of _ _ (none_inst c) = refl
      is_of _ _ (none_fun fs) = refl
      is_of _ _ (truth a b h) = is_known a b h
      is_of _ _ (num a b h) = is_implies a b h
      is_of _ _ (str a b h) = is_wider a b h
      is_of _ _ (tuple xs ys h) = is_each xs ys h
      is_of _ _ (list s u a b e h) = both (eq-eqb (leader t s) (leader t u) e) (is_implies a b h)
      is_of _ _ (dict s u a b e h) = both (eq-eqb (leader t s) (leader t u) e) (is_implies a b h)
      is_of _ _ (inst c d a b e h) = both e (is_implies a b h)
      is_of _ _ (fun fs gs a b e h) = both (is_among fs gs e) (is_implies a b h)
      is_of _ _ (clash x o p h j) = is_clash_of x o p (is_held o p x h j)

      is_each : (xs ys : Shapes) → Each k t xs ys → each_below k t xs ys ≡ true
      is_each _ _ no_more = refl
      is_each _ _ (and_more x y xs ys h hs) = both (is_of x y h) (is_each xs ys hs)

pub is_tested : (k : List ClassInfo) (t : List ℕ) → IsTested k t
is_tested k t = record { yes = λ x y e. below_is t k x y e; no = λ x y h. is_of t k x y h }
