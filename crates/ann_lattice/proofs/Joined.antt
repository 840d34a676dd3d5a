-- The join is the least element above both, under the finest classes that allow it.
use Rattle.std.proofs.Common.{◌≡◌, ℕ, ◌≤◌, Bool, true, false, List, [], ◌∷◌, ◌++◌, Option, Some, None, refl, sym, ap, ◌∙◌, arith, subst}
use Rattle.std.specs.Prelude.{◌||◌, ◌&&◌, not, if◌then◌else◌, nat_lt, nat_le, max, map}
use Rattle.std.proofs.lemmas.Bool.{ltb-false, leb-true, le-leb}
use Rattle.rpy_tree.specs.declared.program.ClassInfo.{ClassInfo}
use Rattle.class_desc.specs.Line.{common_base}
use Rattle.ann_element.specs.Sites.{Same}
use Rattle.ann_lattice.specs.Shape.{Width, One, Any, OrNone, Shape, Nothing, NoneOnly, Truth, Num, Str, Tup, Lst, Dct, Inst, Fun, Clash, Shapes, end, more}
use Rattle.ann_lattice.specs.Order.{kept, lists, all_lists, dicts, all_dicts, In, Held, Implies, Wider, LessKnown, Sub, has, Among, Below, least, none, none_str, none_list, none_dict, none_inst, none_fun, truth, num, str, tuple, list, dict, inst, fun, clash, Each, no_more, and_more}
use Rattle.ann_lattice.specs.Join.{Within, AllSame, chain, first, max_width, max_known, join_inst, put, union, is_clash, no_clash, equal_count, depth, depths, conflict, stays, join, joins, all_tied, tied, all_each, classes_after}
use Rattle.ann_lattice.specs.Laws.{IsTree, IsFormed, IsJoin, Alike, Level, IsLattice, from, rising, is_sound, are_sound}
use Rattle.ann_lattice.proofs.Sites.{within_self, within_on, same_split, same_append, unites_old, unites_new, unites_least}
use Rattle.ann_lattice.proofs.Tree.{sub_self, common_above, common_least}
use Rattle.ann_lattice.proofs.Ordered.{wider_self, has_first, among_self, among_more, held_append, held_split, below_self, below_more, below_on, no, and_left, and_right}

-- ---- each kind

implies_left : (a b : Bool) → Implies a (a || b)
implies_left true b = tt
implies_left false b = tt

implies_right : (a b : Bool) → Implies b (a || b)
implies_right true true = tt
implies_right true false = tt
implies_right false true = tt
implies_right false false = tt

implies_or : (a b c : Bool) → Implies a c → Implies b c → Implies (a || b) c
implies_or true b c h j = h
implies_or false b c h j = j

implies_top : (a : Bool) → Implies a true
implies_top true = tt
implies_top false = tt

wider_top : (a : Width) → Wider a OrNone
wider_top One = tt
wider_top Any = tt
wider_top OrNone = tt

wider_left : (a b : Width) → Wider a (max_width a b)
wider_left One b = tt
wider_left Any One = tt
wider_left Any Any = tt
wider_left Any OrNone = tt
wider_left OrNone b = tt

wider_right : (a b : Width) → Wider b (max_width a b)
wider_right One b = wider_self b
wider_right Any One = tt
wider_right Any Any = tt
wider_right Any OrNone = tt
wider_right OrNone One = tt
wider_right OrNone Any = tt
wider_right OrNone OrNone = tt

wider_max : (a b c : Width) → Wider a c → Wider b c → Wider (max_width a b) c
wider_max One b c h j = j
wider_max Any One c h j = h
wider_max Any Any c h j = h
wider_max Any OrNone c h j = j
wider_max OrNone b c h j = h

known_left : (a b : Option Bool) → LessKnown a (max_known a b)
known_left (Some true) (Some true) = tt
known_left (Some false) (Some false) = tt
known_left (Some true) (Some false) = tt
known_left (Some false) (Some true) = tt
known_left (Some true) None = tt
known_left (Some false) None = tt
known_left None b = tt

known_right : (a b : Option Bool) → LessKnown b (max_known a b)
known_right (Some true) (Some true) = tt
known_right (Some false) (Some false) = tt
known_right (Some true) (Some false) = tt
known_right (Some false) (Some true) = tt
known_right (Some true) None = tt
known_right (Some false) None = tt
known_right None (Some true) = tt
known_right None (Some false) = tt
known_right None None = tt

known_max : (a b c : Option Bool) → LessKnown a c → LessKnown b c → LessKnown (max_known a b) c
known_max (Some true) (Some true) c h j = h
known_max (Some false) (Some false) c h j = h
known_max (Some true) (Some false) (Some true) h j = absurd j
known_max (Some true) (Some false) (Some false) h j = absurd h
known_max (Some true) (Some false) None h j = tt
known_max (Some false) (Some true) (Some true) h j = absurd h
known_max (Some false) (Some true) (Some false) h j = absurd j
known_max (Some false) (Some true) None h j = tt
known_max (Some true) None c h j = j
known_max (Some false) None c h j = j
known_max None b c h j = h

pub both : {a b : Bool} → a ≡ true → b ≡ true → (a && b) ≡ true
both {a} {b} e d = ap (λ x. x && b) e ∙ d

-- ---- the union of functions

abbrev OverBoth : List ℕ → List ℕ → List ℕ → Type 0
OverBoth fs gs us = Among fs us × Among gs us

among_by : (b c : Bool) (f g : ℕ) (rest : List ℕ → List ℕ) (fs gs : List ℕ) → nat_lt f g ≡ b → nat_lt g f ≡ c → ((us : List ℕ) → OverBoth fs us (rest us))
    → OverBoth (f ∷ fs) gs (put f rest gs) → OverBoth (f ∷ fs) (g ∷ gs) (if b then f ∷ rest (g ∷ gs) else if c then g ∷ put f rest gs else f ∷ rest gs)
among_by true c f g rest fs gs e d all rec =
    let r = all (g ∷ gs) in
    ((has_first f (rest (g ∷ gs)), among_more f fs (rest (g ∷ gs)) r.0), among_more f (g ∷ gs) (rest (g ∷ gs)) r.1)
among_by false true f g rest fs gs e d all rec =
    (among_more g (f ∷ fs) (put f rest gs) rec.0, (has_first g (put f rest gs), among_more g gs (put f rest gs) rec.1))
among_by false false f g rest fs gs e d all rec =
    let r = all gs in
    let same : f ≡ g = omega (arith, ltb-false f g e, ltb-false g f d) in
    ((has_first f (rest gs), among_more f fs (rest gs) r.0), (subst (λ x. has (f ∷ rest gs) x ≡ true) same (has_first f (rest gs)), among_more f gs (rest gs) r.1))

among_put : (f : ℕ) (rest : List ℕ → List ℕ) (fs : List ℕ) → ((gs : List ℕ) → OverBoth fs gs (rest gs)) → (gs : List ℕ) → OverBoth (f ∷ fs) gs (put f rest gs)
among_put f rest fs all [] = let r = all [] in ((has_first f (rest []), among_more f fs (rest []) r.0), tt)
among_put f rest fs all (g ∷ gs) = among_by (nat_lt f g) (nat_lt g f) f g rest fs gs refl refl all (among_put f rest fs all gs)

among_union : (fs gs : List ℕ) → OverBoth fs gs (union fs gs)
among_union [] gs = (tt, among_self gs)
among_union (f ∷ fs) gs = among_put f (union fs) fs (λ us. among_union fs us) gs

within_by : (b c : Bool) (f g : ℕ) (rest : List ℕ → List ℕ) (gs hs : List ℕ) → has hs f ≡ true → ((us : List ℕ) → Among us hs → Among (rest us) hs) → Among (g ∷ gs) hs
    → Among (put f rest gs) hs → Among (if b then f ∷ rest (g ∷ gs) else if c then g ∷ put f rest gs else f ∷ rest gs) hs
within_by true c f g rest gs hs h all j rec = (h, all (g ∷ gs) j)
within_by false true f g rest gs hs h all j rec = (j.0, rec)
within_by false false f g rest gs hs h all j rec = (h, all gs j.1)

within_put : (f : ℕ) (rest : List ℕ → List ℕ) (hs : List ℕ) → has hs f ≡ true → ((gs : List ℕ) → Among gs hs → Among (rest gs) hs) → (gs : List ℕ) → Among gs hs → Among (put f rest gs) hs
within_put f rest hs h all [] j = (h, all [] tt)
within_put f rest hs h all (g ∷ gs) j = within_by (nat_lt f g) (nat_lt g f) f g rest gs hs h all j (within_put f rest hs h all gs j.1)

within_union : (fs gs hs : List ℕ) → Among fs hs → Among gs hs → Among (union fs gs) hs
within_union [] gs hs h j = j
within_union (f ∷ fs) gs hs h j = within_put f (union fs) hs h.0 (λ us i. within_union fs us hs h.1 i) gs j

-- ---- conflicts

chain_held : (t : List ℕ) (s : ℕ) (ss : List ℕ) → AllSame t (map (λ u. (s, u)) ss) → Held t (Some s) ss
chain_held t s [] a = tt
chain_held t s (u ∷ ss) a = (sym a.0, chain_held t s ss a.1)

held_first : (t : List ℕ) (ss : List ℕ) → AllSame t (chain ss) → Held t (first ss) ss
held_first t [] a = tt
held_first t (s ∷ ss) a = (refl, chain_held t s ss a)

held_chain : (t : List ℕ) (a s : ℕ) (ss : List ℕ) → Same t s a → Held t (Some a) ss → AllSame t (map (λ u. (s, u)) ss)
held_chain t a s [] e h = tt
held_chain t a s (u ∷ ss) e h = (e ∙ sym h.0, held_chain t a s ss e h.1)

chain_of : (t : List ℕ) (o : Option ℕ) (ss : List ℕ) → Held t o ss → AllSame t (chain ss)
chain_of t o [] h = tt
chain_of t None (s ∷ ss) h = absurd h.0
chain_of t (Some a) (s ∷ ss) h = held_chain t a s ss h.0 h.1

first_held : (t : List ℕ) (o : Option ℕ) (ss : List ℕ) → Held t o ss → Held t o (kept (first ss))
first_held t o [] h = tt
first_held t o (s ∷ ss) h = (h.0, tt)

all_tied_of : (t : List ℕ) (o p : Option ℕ) (x y : Shape) → Held t o (lists x) → Held t o (lists y) → Held t p (dicts x) → Held t p (dicts y) → AllSame t (all_tied x y)
all_tied_of t o p x y h i j l =
    same_append t (chain (lists x ++ lists y)) (chain (dicts x ++ dicts y))
    (chain_of t o (lists x ++ lists y) (held_append t o (lists x) (lists y) h i))
    (chain_of t p (dicts x ++ dicts y) (held_append t p (dicts x) (dicts y) j l))

module _ (k : List ClassInfo) where
  conflict_left : (t : List ℕ) (x y : Shape) → AllSame t (all_tied x y) → Below k t x (conflict x y)
  conflict_left t x y a =
      let parts = same_split t (chain (lists x ++ lists y)) (chain (dicts x ++ dicts y)) a in
      let ls = held_split t (first (lists x ++ lists y)) (lists x) (lists y) (held_first t (lists x ++ lists y) parts.0) in
      let ds = held_split t (first (dicts x ++ dicts y)) (dicts x) (dicts y) (held_first t (dicts x ++ dicts y) parts.1) in
      clash x (first (lists x ++ lists y)) (first (dicts x ++ dicts y)) ls.0 ds.0

  conflict_right : (t : List ℕ) (x y : Shape) → AllSame t (all_tied x y) → Below k t y (conflict x y)
  conflict_right t x y a =
      let parts = same_split t (chain (lists x ++ lists y)) (chain (dicts x ++ dicts y)) a in
      let ls = held_split t (first (lists x ++ lists y)) (lists x) (lists y) (held_first t (lists x ++ lists y) parts.0) in
      let ds = held_split t (first (dicts x ++ dicts y)) (dicts x) (dicts y) (held_first t (dicts x ++ dicts y) parts.1) in
      clash y (first (lists x ++ lists y)) (first (dicts x ++ dicts y)) ls.1 ds.1

  -- ---- above both

  inst_left : (t : List ℕ) (c d : ℕ) (a b : Bool) (o : Option ℕ) → common_base k c d ≡ o → Below k t (Inst c a) (join_inst o (a || b))
  inst_left t c d a b (Some m) e = inst c m a (a || b) ((common_above k c d m e).0) (implies_left a b)
  inst_left t c d a b None e = clash (Inst c a) None None tt tt

  inst_right : (t : List ℕ) (c d : ℕ) (a b : Bool) (o : Option ℕ) → common_base k c d ≡ o → Below k t (Inst d b) (join_inst o (a || b))
  inst_right t c d a b (Some m) e = inst d m b (a || b) ((common_above k c d m e).1) (implies_right a b)
  inst_right t c d a b None e = clash (Inst d b) None None tt tt

  tied_each : (b : Bool) (t : List ℕ) (ps qs : List (ℕ × ℕ)) → b ≡ true → AllSame t ((if b then ps else []) ++ qs) → AllSame t ps
  tied_each true t ps qs e a = (same_split t ps qs a).0
  tied_each false t ps qs e a = absurd (no e)

  tied_rest : (b : Bool) (t : List ℕ) (ps qs : List (ℕ × ℕ)) → AllSame t ((if b then ps else []) ++ qs) → AllSame t qs
  tied_rest true t ps qs a = (same_split t ps qs a).1
  tied_rest false t ps qs a = a

  tup_left : (b : Bool) (t : List ℕ) (xs ys : Shapes) → stays xs ys (joins k xs ys) ≡ b
      → AllSame t ((if equal_count xs ys then all_each k xs ys else []) ++ (if b then [] else all_tied (Tup xs) (Tup ys)))
      → (equal_count xs ys ≡ true → AllSame t (all_each k xs ys) → Each k t xs (joins k xs ys)) → Below k t (Tup xs) (if b then Tup (joins k xs ys) else conflict (Tup xs) (Tup ys))
  tup_left true t xs ys e a rec =
      let count = and_left (equal_count xs ys) (no_clash (joins k xs ys) && nat_le (depths (joins k xs ys)) 7) e in
      tuple xs (joins k xs ys) (rec count (tied_each (equal_count xs ys) t (all_each k xs ys) [] count a))
  tup_left false t xs ys e a rec = conflict_left t (Tup xs) (Tup ys) (tied_rest (equal_count xs ys) t (all_each k xs ys) (all_tied (Tup xs) (Tup ys)) a)

  tup_right : (b : Bool) (t : List ℕ) (xs ys : Shapes) → stays xs ys (joins k xs ys) ≡ b
      → AllSame t ((if equal_count xs ys then all_each k xs ys else []) ++ (if b then [] else all_tied (Tup xs) (Tup ys)))
      → (equal_count xs ys ≡ true → AllSame t (all_each k xs ys) → Each k t ys (joins k xs ys)) → Below k t (Tup ys) (if b then Tup (joins k xs ys) else conflict (Tup xs) (Tup ys))
  tup_right true t xs ys e a rec =
      let count = and_left (equal_count xs ys) (no_clash (joins k xs ys) && nat_le (depths (joins k xs ys)) 7) e in
      tuple ys (joins k xs ys) (rec count (tied_each (equal_count xs ys) t (all_each k xs ys) [] count a))
  tup_right false t xs ys e a rec = conflict_right t (Tup xs) (Tup ys) (tied_rest (equal_count xs ys) t (all_each k xs ys) (all_tied (Tup xs) (Tup ys)) a)

  module _ (tree : IsTree k) where
    up_inst : (t : List ℕ) (c : ℕ) (b : Bool) → Below k t (Inst c b) (Inst c true)
    up_inst t c b = inst c c b true (sub_self k tree c) (implies_top b)

    mutual
      pub join_left : (t : List ℕ) (x y : Shape) → AllSame t (tied k x y) → Below k t x (join k x y)
      join_left t Nothing y a = least y
      join_left t NoneOnly Nothing a = none
      join_left t (Truth b) Nothing a = below_self k tree t (Truth b)
      join_left t (Num b) Nothing a = below_self k tree t (Num b)
      join_left t (Str b) Nothing a = below_self k tree t (Str b)
      join_left t (Tup xs) Nothing a = below_self k tree t (Tup xs)
      join_left t (Lst s b) Nothing a = below_self k tree t (Lst s b)
      join_left t (Dct s b) Nothing a = below_self k tree t (Dct s b)
      join_left t (Inst s b) Nothing a = below_self k tree t (Inst s b)
      join_left t (Fun s b) Nothing a = below_self k tree t (Fun s b)
      join_left t (Clash o p) Nothing a = below_self k tree t (Clash o p)
      join_left t NoneOnly NoneOnly a = none
      join_left t NoneOnly (Str b) a = none_str
      join_left t (Str b) NoneOnly a = str b OrNone (wider_top b)
      join_left t NoneOnly (Lst s b) a = none_list s
      join_left t (Lst s b) NoneOnly a = list s s b true refl (implies_top b)
      join_left t NoneOnly (Dct s b) a = none_dict s
      join_left t (Dct s b) NoneOnly a = dict s s b true refl (implies_top b)
      join_left t NoneOnly (Inst c b) a = none_inst c
      join_left t (Inst c b) NoneOnly a = up_inst t c b
      join_left t NoneOnly (Fun fs b) a = none_fun fs
      join_left t (Fun fs b) NoneOnly a = fun fs fs b true (among_self fs) (implies_top b)
      join_left t (Truth b) (Truth c) a = truth b (max_known b c) (known_left b c)
      join_left t (Num b) (Num c) a = num b (b || c) (implies_left b c)
      join_left t (Str b) (Str c) a = str b (max_width b c) (wider_left b c)
      join_left t (Lst s b) (Lst u c) a = list s s b (b || c) refl (implies_left b c)
      join_left t (Dct s b) (Dct u c) a = dict s s b (b || c) refl (implies_left b c)
      join_left t (Inst c b) (Inst d n) a = inst_left t c d b n (common_base k c d) refl
      join_left t (Fun fs b) (Fun gs c) a = fun fs (union fs gs) b (b || c) ((among_union fs gs).0) (implies_left b c)
      join_left t (Tup xs) (Tup ys) a = tup_left (stays xs ys (joins k xs ys)) t xs ys refl a (λ e i. joins_left t xs ys e i)
      join_left t x y a = conflict_left t x y a

      joins_left : (t : List ℕ) (xs ys : Shapes) → equal_count xs ys ≡ true → AllSame t (all_each k xs ys) → Each k t xs (joins k xs ys)
      joins_left t end ys e a = no_more
      joins_left t (more x xs) end e a = absurd (no e)
      joins_left t (more x xs) (more y ys) e a =
          let parts = same_split t (tied k x y) (all_each k xs ys) a in
          and_more x (join k x y) xs (joins k xs ys) (join_left t x y parts.0) (joins_left t xs ys e parts.1)

    mutual
      pub join_right : (t : List ℕ) (x y : Shape) → AllSame t (tied k x y) → Below k t y (join k x y)
      join_right t Nothing y a = below_self k tree t y
      join_right t NoneOnly NoneOnly a = none
      join_right t NoneOnly (Str b) a = str b OrNone (wider_top b)
      join_right t (Str b) NoneOnly a = none_str
      join_right t NoneOnly (Lst s b) a = list s s b true refl (implies_top b)
      join_right t (Lst s b) NoneOnly a = none_list s
      join_right t NoneOnly (Dct s b) a = dict s s b true refl (implies_top b)
      join_right t (Dct s b) NoneOnly a = none_dict s
      join_right t NoneOnly (Inst c b) a = up_inst t c b
      join_right t (Inst c b) NoneOnly a = none_inst c
      join_right t NoneOnly (Fun fs b) a = fun fs fs b true (among_self fs) (implies_top b)
      join_right t (Fun fs b) NoneOnly a = none_fun fs
      join_right t (Truth b) (Truth c) a = truth c (max_known b c) (known_right b c)
      join_right t (Num b) (Num c) a = num c (b || c) (implies_right b c)
      join_right t (Str b) (Str c) a = str c (max_width b c) (wider_right b c)
      join_right t (Lst s b) (Lst u c) a = list u s c (b || c) (sym a.0) (implies_right b c)
      join_right t (Dct s b) (Dct u c) a = dict u s c (b || c) (sym a.0) (implies_right b c)
      join_right t (Inst c b) (Inst d n) a = inst_right t c d b n (common_base k c d) refl
      join_right t (Fun fs b) (Fun gs c) a = fun gs (union fs gs) c (b || c) ((among_union fs gs).1) (implies_right b c)
      join_right t (Tup xs) (Tup ys) a = tup_right (stays xs ys (joins k xs ys)) t xs ys refl a (λ e i. joins_right t xs ys e i)
      join_right t NoneOnly Nothing a = least NoneOnly
      join_right t (Truth b) Nothing a = least (Truth b)
      join_right t (Num b) Nothing a = least (Num b)
      join_right t (Str b) Nothing a = least (Str b)
      join_right t (Tup xs) Nothing a = least (Tup xs)
      join_right t (Lst s b) Nothing a = least (Lst s b)
      join_right t (Dct s b) Nothing a = least (Dct s b)
      join_right t (Inst s b) Nothing a = least (Inst s b)
      join_right t (Fun s b) Nothing a = least (Fun s b)
      join_right t (Clash o p) Nothing a = least (Clash o p)
      join_right t x y a = conflict_right t x y a

      joins_right : (t : List ℕ) (xs ys : Shapes) → equal_count xs ys ≡ true → AllSame t (all_each k xs ys) → Each k t ys (joins k xs ys)
      joins_right t end end e a = no_more
      joins_right t end (more y ys) e a = absurd (no e)
      joins_right t (more x xs) end e a = absurd (no e)
      joins_right t (more x xs) (more y ys) e a =
          let parts = same_split t (tied k x y) (all_each k xs ys) a in
          and_more y (join k x y) ys (joins k xs ys) (join_right t x y parts.0) (joins_right t xs ys e parts.1)

-- ---- the functions of a union rise

from_by : (b c : Bool) (n f g : ℕ) (rest : List ℕ → List ℕ) (gs : List ℕ) → nat_lt f g ≡ b → nat_lt g f ≡ c → nat_lt n f ≡ true → nat_lt n g ≡ true → from g gs ≡ true
    → ((us : List ℕ) → from f us ≡ true → from f (rest us) ≡ true) → (nat_lt g f ≡ true → from g (put f rest gs) ≡ true)
    → from n (if b then f ∷ rest (g ∷ gs) else if c then g ∷ put f rest gs else f ∷ rest gs) ≡ true
from_by true c n f g rest gs e d lt lu r all rec = both lt (all (g ∷ gs) (both e r))
from_by false true n f g rest gs e d lt lu r all rec = both lu (rec d)
from_by false false n f g rest gs e d lt lu r all rec =
    let same : g ≡ f = omega (arith, ltb-false f g e, ltb-false g f d) in
    both lt (all gs (subst (λ x. from x gs ≡ true) same r))

from_put : (n f : ℕ) (rest : List ℕ → List ℕ) → nat_lt n f ≡ true → ((us : List ℕ) → from f us ≡ true → from f (rest us) ≡ true) → (gs : List ℕ) → from n gs ≡ true → from n (put f rest gs) ≡ true
from_put n f rest lt all [] r = both lt (all [] refl)
from_put n f rest lt all (g ∷ gs) r =
    let up = and_right (nat_lt n g) (from g gs) r in
    from_by (nat_lt f g) (nat_lt g f) n f g rest gs refl refl lt (and_left (nat_lt n g) (from g gs) r) up all (λ l. from_put g f rest l all gs up)

from_union : (n : ℕ) (fs gs : List ℕ) → from n fs ≡ true → from n gs ≡ true → from n (union fs gs) ≡ true
from_union n [] gs r s = s
from_union n (f ∷ fs) gs r s =
    from_put n f (union fs) (and_left (nat_lt n f) (from f fs) r) (λ us i. from_union f fs us (and_right (nat_lt n f) (from f fs) r) i) gs s

rising_by : (b c : Bool) (f g : ℕ) (rest : List ℕ → List ℕ) (gs : List ℕ) → nat_lt f g ≡ b → nat_lt g f ≡ c → from g gs ≡ true
    → ((us : List ℕ) → from f us ≡ true → from f (rest us) ≡ true) → (nat_lt g f ≡ true → from g (put f rest gs) ≡ true)
    → rising (if b then f ∷ rest (g ∷ gs) else if c then g ∷ put f rest gs else f ∷ rest gs) ≡ true
rising_by true c f g rest gs e d r all rec = all (g ∷ gs) (both e r)
rising_by false true f g rest gs e d r all rec = rec d
rising_by false false f g rest gs e d r all rec =
    let same : g ≡ f = omega (arith, ltb-false f g e, ltb-false g f d) in
    all gs (subst (λ x. from x gs ≡ true) same r)

rising_union : (fs gs : List ℕ) → rising fs ≡ true → rising gs ≡ true → rising (union fs gs) ≡ true
rising_union [] gs r s = s
rising_union (f ∷ fs) [] r s = from_union f fs [] r refl
rising_union (f ∷ fs) (g ∷ gs) r s =
    rising_by (nat_lt f g) (nat_lt g f) f g (union fs) gs refl refl s (λ us i. from_union f fs us r i)
    (λ l. from_put g f (union fs) l (λ us i. from_union f fs us r i) gs s)

-- ---- least

same_of : (t : List ℕ) (o : Option ℕ) (s u : ℕ) → In t o s → In t o u → Same t s u
same_of t None s u h j = absurd h
same_of t (Some a) s u h j = h ∙ sym j

max_le : (a b c : ℕ) → a ≤ c → b ≤ c → max a b ≤ c
max_le a b c h j = omega (arith, h, j)

max_both : (a b c d : ℕ) → a ≤ c → b ≤ d → max a b ≤ max c d
max_both a b c d h j = omega (arith, h, j)

not_true : (b : Bool) → not b ≡ true → b ≡ false
not_true true e = absurd (no (sym (sym e)))
not_true false e = refl

module _ (k : List ClassInfo) where
  by_clash : (t : List ℕ) (b : Bool) (x y : Shape) → AllSame t (all_tied x y) → AllSame t (if b then all_tied x y else [])
  by_clash t true x y a = a
  by_clash t false x y a = tt

  join_nothing : (x : Shape) → join k x Nothing ≡ x
  join_nothing Nothing = refl
  join_nothing NoneOnly = refl
  join_nothing (Truth b) = refl
  join_nothing (Num b) = refl
  join_nothing (Str b) = refl
  join_nothing (Tup xs) = refl
  join_nothing (Lst s b) = refl
  join_nothing (Dct s b) = refl
  join_nothing (Inst s b) = refl
  join_nothing (Fun s b) = refl
  join_nothing (Clash o p) = refl

  tup_lists : (b : Bool) (t : List ℕ) (o : Option ℕ) (xs ys : Shapes) → Held t o (all_lists xs) → Held t o (all_lists ys) → Held t o (all_lists (joins k xs ys))
      → Held t o (lists (if b then Tup (joins k xs ys) else conflict (Tup xs) (Tup ys)))
  tup_lists true t o xs ys h j rec = rec
  tup_lists false t o xs ys h j rec = first_held t o (all_lists xs ++ all_lists ys) (held_append t o (all_lists xs) (all_lists ys) h j)

  inst_lists : (t : List ℕ) (o c : Option ℕ) (b : Bool) → Held t o (lists (join_inst c b))
  inst_lists t o (Some c) b = tt
  inst_lists t o None b = tt

  mutual
    join_lists : (t : List ℕ) (o : Option ℕ) (x y : Shape) → Held t o (lists x) → Held t o (lists y) → Held t o (lists (join k x y))
    join_lists t o Nothing y h j = j
    join_lists t o NoneOnly Nothing h j = h
    join_lists t o (Truth b) Nothing h j = h
    join_lists t o (Num b) Nothing h j = h
    join_lists t o (Str b) Nothing h j = h
    join_lists t o (Tup xs) Nothing h j = h
    join_lists t o (Lst s b) Nothing h j = h
    join_lists t o (Dct s b) Nothing h j = h
    join_lists t o (Inst s b) Nothing h j = h
    join_lists t o (Fun s b) Nothing h j = h
    join_lists t o (Clash q r) Nothing h j = h
    join_lists t o NoneOnly NoneOnly h j = tt
    join_lists t o NoneOnly (Str b) h j = tt
    join_lists t o (Str b) NoneOnly h j = tt
    join_lists t o NoneOnly (Inst c b) h j = tt
    join_lists t o (Inst c b) NoneOnly h j = tt
    join_lists t o NoneOnly (Fun fs b) h j = tt
    join_lists t o (Fun fs b) NoneOnly h j = tt
    join_lists t o (Truth b) (Truth c) h j = tt
    join_lists t o (Num b) (Num c) h j = tt
    join_lists t o (Str b) (Str c) h j = tt
    join_lists t o (Fun fs b) (Fun gs c) h j = tt
    join_lists t o NoneOnly (Lst s b) h j = j
    join_lists t o (Lst s b) NoneOnly h j = h
    join_lists t o (Lst s b) (Lst u c) h j = h
    join_lists t o NoneOnly (Dct s b) h j = tt
    join_lists t o (Dct s b) NoneOnly h j = tt
    join_lists t o (Dct s b) (Dct u c) h j = tt
    join_lists t o (Inst c b) (Inst d e) h j = inst_lists t o (common_base k c d) (b || e)
    join_lists t o (Tup xs) (Tup ys) h j = tup_lists (stays xs ys (joins k xs ys)) t o xs ys h j (joins_lists t o xs ys h j)
    join_lists t o x y h j = first_held t o (lists x ++ lists y) (held_append t o (lists x) (lists y) h j)

    joins_lists : (t : List ℕ) (o : Option ℕ) (xs ys : Shapes) → Held t o (all_lists xs) → Held t o (all_lists ys) → Held t o (all_lists (joins k xs ys))
    joins_lists t o end ys h j = tt
    joins_lists t o (more x xs) end h j = tt
    joins_lists t o (more x xs) (more y ys) h j =
        let a = held_split t o (lists x) (all_lists xs) h in
        let b = held_split t o (lists y) (all_lists ys) j in
        held_append t o (lists (join k x y)) (all_lists (joins k xs ys)) (join_lists t o x y a.0 b.0) (joins_lists t o xs ys a.1 b.1)

  tup_dicts : (b : Bool) (t : List ℕ) (o : Option ℕ) (xs ys : Shapes) → Held t o (all_dicts xs) → Held t o (all_dicts ys) → Held t o (all_dicts (joins k xs ys))
      → Held t o (dicts (if b then Tup (joins k xs ys) else conflict (Tup xs) (Tup ys)))
  tup_dicts true t o xs ys h j rec = rec
  tup_dicts false t o xs ys h j rec = first_held t o (all_dicts xs ++ all_dicts ys) (held_append t o (all_dicts xs) (all_dicts ys) h j)

  inst_dicts : (t : List ℕ) (o c : Option ℕ) (b : Bool) → Held t o (dicts (join_inst c b))
  inst_dicts t o (Some c) b = tt
  inst_dicts t o None b = tt

  mutual
    join_dicts : (t : List ℕ) (o : Option ℕ) (x y : Shape) → Held t o (dicts x) → Held t o (dicts y) → Held t o (dicts (join k x y))
    join_dicts t o Nothing y h j = j
    join_dicts t o NoneOnly Nothing h j = h
    join_dicts t o (Truth b) Nothing h j = h
    join_dicts t o (Num b) Nothing h j = h
    join_dicts t o (Str b) Nothing h j = h
    join_dicts t o (Tup xs) Nothing h j = h
    join_dicts t o (Lst s b) Nothing h j = h
    join_dicts t o (Dct s b) Nothing h j = h
    join_dicts t o (Inst s b) Nothing h j = h
    join_dicts t o (Fun s b) Nothing h j = h
    join_dicts t o (Clash q r) Nothing h j = h
    join_dicts t o NoneOnly NoneOnly h j = tt
    join_dicts t o NoneOnly (Str b) h j = tt
    join_dicts t o (Str b) NoneOnly h j = tt
    join_dicts t o NoneOnly (Inst c b) h j = tt
    join_dicts t o (Inst c b) NoneOnly h j = tt
    join_dicts t o NoneOnly (Fun fs b) h j = tt
    join_dicts t o (Fun fs b) NoneOnly h j = tt
    join_dicts t o (Truth b) (Truth c) h j = tt
    join_dicts t o (Num b) (Num c) h j = tt
    join_dicts t o (Str b) (Str c) h j = tt
    join_dicts t o (Fun fs b) (Fun gs c) h j = tt
    join_dicts t o NoneOnly (Lst s b) h j = tt
    join_dicts t o (Lst s b) NoneOnly h j = tt
    join_dicts t o (Lst s b) (Lst u c) h j = tt
    join_dicts t o NoneOnly (Dct s b) h j = j
    join_dicts t o (Dct s b) NoneOnly h j = h
    join_dicts t o (Dct s b) (Dct u c) h j = h
    join_dicts t o (Inst c b) (Inst d e) h j = inst_dicts t o (common_base k c d) (b || e)
    join_dicts t o (Tup xs) (Tup ys) h j = tup_dicts (stays xs ys (joins k xs ys)) t o xs ys h j (joins_dicts t o xs ys h j)
    join_dicts t o x y h j = first_held t o (dicts x ++ dicts y) (held_append t o (dicts x) (dicts y) h j)

    joins_dicts : (t : List ℕ) (o : Option ℕ) (xs ys : Shapes) → Held t o (all_dicts xs) → Held t o (all_dicts ys) → Held t o (all_dicts (joins k xs ys))
    joins_dicts t o end ys h j = tt
    joins_dicts t o (more x xs) end h j = tt
    joins_dicts t o (more x xs) (more y ys) h j =
        let a = held_split t o (dicts x) (all_dicts xs) h in
        let b = held_split t o (dicts y) (all_dicts ys) j in
        held_append t o (dicts (join k x y)) (all_dicts (joins k xs ys)) (join_dicts t o x y a.0 b.0) (joins_dicts t o xs ys a.1 b.1)

  -- ---- the sites that are tied are of one class in every element above both

  tied_if : (b c : Bool) (t : List ℕ) (ps qs : List (ℕ × ℕ)) → AllSame t ps → AllSame t qs → AllSame t ((if b then ps else []) ++ (if c then [] else qs))
  tied_if true true t ps qs a b = same_append t ps [] a tt
  tied_if true false t ps qs a b = same_append t ps qs a b
  tied_if false true t ps qs a b = tt
  tied_if false false t ps qs a b = b

  plain_tied : (t : List ℕ) (o p : Option ℕ) (x y : Shape) → Held t o (lists x) → Held t o (lists y) → Held t p (dicts x) → Held t p (dicts y)
      → AllSame t (if is_clash (join k x y) then all_tied x y else [])
  plain_tied t o p x y h i j l = by_clash t (is_clash (join k x y)) x y (all_tied_of t o p x y h i j l)

  mutual
    tied_held : (t : List ℕ) (o p : Option ℕ) (x y : Shape) → Held t o (lists x) → Held t o (lists y) → Held t p (dicts x) → Held t p (dicts y) → AllSame t (tied k x y)
    tied_held t o p (Lst s a) (Lst u b) h i j l = (same_of t o s u h.0 i.0, tt)
    tied_held t o p (Dct s a) (Dct u b) h i j l = (same_of t p s u j.0 l.0, tt)
    tied_held t o p (Tup xs) (Tup ys) h i j l =
        tied_if (equal_count xs ys) (stays xs ys (joins k xs ys)) t (all_each k xs ys) (all_tied (Tup xs) (Tup ys)) (each_held t o p xs ys h i j l) (all_tied_of t o p (Tup xs) (Tup ys) h i j l)
    tied_held t o p x y h i j l = plain_tied t o p x y h i j l

    each_held : (t : List ℕ) (o p : Option ℕ) (xs ys : Shapes) → Held t o (all_lists xs) → Held t o (all_lists ys) → Held t p (all_dicts xs) → Held t p (all_dicts ys)
        → AllSame t (all_each k xs ys)
    each_held t o p end ys h i j l = tt
    each_held t o p (more x xs) end h i j l = tt
    each_held t o p (more x xs) (more y ys) h i j l =
        let a = held_split t o (lists x) (all_lists xs) h in
        let b = held_split t o (lists y) (all_lists ys) i in
        let c = held_split t p (dicts x) (all_dicts xs) j in
        let d = held_split t p (dicts y) (all_dicts ys) l in
        same_append t (tied k x y) (all_each k xs ys) (tied_held t o p x y a.0 b.0 c.0 d.0) (each_held t o p xs ys a.1 b.1 c.1 d.1)

  kept_tied : (t : List ℕ) (o : Option ℕ) → AllSame t (chain (kept o))
  kept_tied t None = tt
  kept_tied t (Some a) = tt

  tied_first : (t : List ℕ) (y : Shape) → AllSame t (tied k Nothing y)
  tied_first t (Clash o p) = same_append t (chain (kept o)) (chain (kept p)) (kept_tied t o) (kept_tied t p)
  tied_first t y = tt

  kept_only : (t : List ℕ) (o : Option ℕ) → AllSame t (chain (kept o ++ []))
  kept_only t None = tt
  kept_only t (Some a) = tt

  tied_second : (t : List ℕ) (x : Shape) → AllSame t (tied k x Nothing)
  tied_second t (Clash o p) = same_append t (chain (kept o ++ [])) (chain (kept p ++ [])) (kept_only t o) (kept_only t p)
  tied_second t x = tt

  -- ---- below what is free of conflicts

  not_clash : (t : List ℕ) (x z : Shape) → Below k t x z → is_clash z ≡ false → is_clash x ≡ false
  not_clash t _ _ (least z) e = refl
  not_clash t _ _ none e = refl
  not_clash t _ _ none_str e = refl
  not_clash t _ _ (none_list s) e = refl
  not_clash t _ _ (none_dict s) e = refl
  not_clash t _ _ (none_inst c) e = refl
  not_clash t _ _ (none_fun fs) e = refl
  not_clash t _ _ (truth a b h) e = refl
  not_clash t _ _ (num a b h) e = refl
  not_clash t _ _ (str a b h) e = refl
  not_clash t _ _ (tuple xs ys h) e = refl
  not_clash t _ _ (list s u a b h j) e = refl
  not_clash t _ _ (dict s u a b h j) e = refl
  not_clash t _ _ (inst c d a b h j) e = refl
  not_clash t _ _ (fun fs gs a b h j) e = refl
  not_clash t _ _ (clash x o p h j) e = absurd (no (sym e))

  none_clash : (t : List ℕ) (xs zs : Shapes) → Each k t xs zs → no_clash zs ≡ true → no_clash xs ≡ true
  none_clash t _ _ no_more e = refl
  none_clash t _ _ (and_more x z xs zs h hs) e =
      let free : is_clash x ≡ false = not_clash t x z h (not_true (is_clash z) (and_left (not (is_clash z)) (no_clash zs) e)) in
      both (ap not free) (none_clash t xs zs hs (and_right (not (is_clash z)) (no_clash zs) e))

  mutual
    less_deep : (t : List ℕ) (x z : Shape) → Below k t x z → is_clash z ≡ false → is_sound z ≡ true → depth x ≤ depth z
    less_deep t _ _ (least z) e f = omega arith
    less_deep t _ _ none e f = omega arith
    less_deep t _ _ none_str e f = omega arith
    less_deep t _ _ (none_list s) e f = omega arith
    less_deep t _ _ (none_dict s) e f = omega arith
    less_deep t _ _ (none_inst c) e f = omega arith
    less_deep t _ _ (none_fun fs) e f = omega arith
    less_deep t _ _ (truth a b h) e f = omega arith
    less_deep t _ _ (num a b h) e f = omega arith
    less_deep t _ _ (str a b h) e f = omega arith
    less_deep t _ _ (tuple xs zs h) e f = omega (arith, each_deep t xs zs h (and_left (no_clash zs) (are_sound zs) f) (and_right (no_clash zs) (are_sound zs) f))
    less_deep t _ _ (list s u a b h j) e f = omega arith
    less_deep t _ _ (dict s u a b h j) e f = omega arith
    less_deep t _ _ (inst c d a b h j) e f = omega arith
    less_deep t _ _ (fun fs gs a b h j) e f = omega arith
    less_deep t _ _ (clash x o p h j) e f = absurd (no (sym e))

    each_deep : (t : List ℕ) (xs zs : Shapes) → Each k t xs zs → no_clash zs ≡ true → are_sound zs ≡ true → depths xs ≤ depths zs
    each_deep t _ _ no_more e f = omega arith
    each_deep t _ _ (and_more x z xs zs h hs) e f =
        max_both (depth x) (depths xs) (depth z) (depths zs)
        (less_deep t x z h (not_true (is_clash z) (and_left (not (is_clash z)) (no_clash zs) e)) (and_left (is_sound z) (are_sound zs) f))
        (each_deep t xs zs hs (and_right (not (is_clash z)) (no_clash zs) e) (and_right (is_sound z) (are_sound zs) f))

  each_count : (t : List ℕ) (xs zs : Shapes) → Each k t xs zs → (ys : Shapes) → Each k t ys zs → equal_count xs ys ≡ true
  each_count t _ _ no_more _ no_more = refl
  each_count t _ _ (and_more x z xs zs h hs) _ (and_more y _ ys _ j js) = each_count t xs zs hs ys js

  stays_by : (t : List ℕ) (xs ys zs : Shapes) → Each k t xs zs → Each k t ys zs → Each k t (joins k xs ys) zs → is_sound (Tup zs) ≡ true → depth (Tup zs) ≤ 8
      → stays xs ys (joins k xs ys) ≡ true
  stays_by t xs ys zs h j r f d =
      let free = and_left (no_clash zs) (are_sound zs) f in
      let deep : depths (joins k xs ys) ≤ depths zs = each_deep t (joins k xs ys) zs r free (and_right (no_clash zs) (are_sound zs) f) in
      both (each_count t xs zs h ys j)
      (both (none_clash t (joins k xs ys) zs r free) (le-leb (depths (joins k xs ys)) 7 (omega (arith, deep, d))))

  first_deep : (x : Shape) (xs : Shapes) → depth (Tup (more x xs)) ≤ 8 → depth x ≤ 8
  first_deep x xs d = omega (arith, d)

  rest_deep : (x : Shape) (xs : Shapes) → depth (Tup (more x xs)) ≤ 8 → depth (Tup xs) ≤ 8
  rest_deep x xs d = omega (arith, d)

  module _ (tree : IsTree k) where
    inst_least : (t : List ℕ) (c d m : ℕ) (a b n : Bool) → Sub k c m → Sub k d m → Implies a n → Implies b n → Below k t (join_inst (common_base k c d) (a || b)) (Inst m n)
    inst_least t c d m a b n e f h j =
        let l = common_least k tree c d m e f in
        subst (λ o. Below k t (join_inst o (a || b)) (Inst m n)) (sym l.is) (inst l.at m (a || b) n l.under (implies_or a b n h j))

    tup_least : (t : List ℕ) (xs ys zs : Shapes) → Each k t xs zs → Each k t ys zs → Each k t (joins k xs ys) zs → is_sound (Tup zs) ≡ true → depth (Tup zs) ≤ 8
        → Below k t (if stays xs ys (joins k xs ys) then Tup (joins k xs ys) else conflict (Tup xs) (Tup ys)) (Tup zs)
    tup_least t xs ys zs h j r f d =
        subst (λ b. Below k t (if b then Tup (joins k xs ys) else conflict (Tup xs) (Tup ys)) (Tup zs)) (sym (stays_by t xs ys zs h j r f d)) (tuple (joins k xs ys) zs r)

    join_clash : (t : List ℕ) (x y : Shape) (o p : Option ℕ) → Held t o (lists x) → Held t p (dicts x) → Held t o (lists y) → Held t p (dicts y) → Below k t (join k x y) (Clash o p)
    join_clash t x y o p h i j l = clash (join k x y) o p (join_lists t o x y h j) (join_dicts t p x y i l)

    join_second : (t : List ℕ) (x z : Shape) → Below k t x z → Below k t (join k x Nothing) z
    join_second t x z h = subst (λ e. Below k t e z) (sym (join_nothing x)) h

    mutual
      join_least : (t : List ℕ) (x z : Shape) (h : Below k t x z) → is_sound z ≡ true → depth z ≤ 8 → (y : Shape) → Below k t y z → Below k t (join k x y) z
      join_least t _ _ (least z) f d y j = j
      join_least t x z h f d _ (least _) = join_second t x z h
      join_least t _ _ (clash x o p h i) f d _ (clash y _ _ j l) = join_clash t x y o p h i j l
      join_least t _ _ none f d _ none = none
      join_least t _ _ none_str f d _ none_str = none_str
      join_least t _ _ none_str f d _ (str a _ h) = str OrNone OrNone tt
      join_least t _ _ (str a _ h) f d _ none_str = str OrNone OrNone tt
      join_least t _ _ (str a b h) f d _ (str c _ j) = str (max_width a c) b (wider_max a c b h j)
      join_least t _ _ (none_list s) f d _ (none_list _) = none_list s
      join_least t _ _ (none_list s) f d _ (list u _ a _ e h) = list u s true true e tt
      join_least t _ _ (list u s a _ e h) f d _ (none_list _) = list u s true true e tt
      join_least t _ _ (list s u a b e h) f d _ (list v _ c _ i j) = list s u (a || c) b e (implies_or a c b h j)
      join_least t _ _ (none_dict s) f d _ (none_dict _) = none_dict s
      join_least t _ _ (none_dict s) f d _ (dict u _ a _ e h) = dict u s true true e tt
      join_least t _ _ (dict u s a _ e h) f d _ (none_dict _) = dict u s true true e tt
      join_least t _ _ (dict s u a b e h) f d _ (dict v _ c _ i j) = dict s u (a || c) b e (implies_or a c b h j)
      join_least t _ _ (none_inst c) f d _ (none_inst _) = none_inst c
      join_least t _ _ (none_inst c) f d _ (inst m _ a _ e h) = inst m c true true e tt
      join_least t _ _ (inst m c a _ e h) f d _ (none_inst _) = inst m c true true e tt
      join_least t _ _ (inst c m a n e h) f d _ (inst q _ b _ i j) = inst_least t c q m a b n e i h j
      join_least t _ _ (none_fun fs) f d _ (none_fun _) = none_fun fs
      join_least t _ _ (none_fun fs) f d _ (fun gs _ a _ e h) = fun gs fs true true e tt
      join_least t _ _ (fun gs fs a _ e h) f d _ (none_fun _) = fun gs fs true true e tt
      join_least t _ _ (fun fs hs a n e h) f d _ (fun gs _ b _ i j) = fun (union fs gs) hs (a || b) n (within_union fs gs hs e i) (implies_or a b n h j)
      join_least t _ _ (num a b h) f d _ (num c _ j) = num (a || c) b (implies_or a c b h j)
      join_least t _ _ (truth a b h) f d _ (truth c _ j) = truth (max_known a c) b (known_max a c b h j)
      join_least t _ _ (tuple xs zs h) f d _ (tuple ys _ j) = tup_least t xs ys zs h j (joins_least t xs zs h (and_right (no_clash zs) (are_sound zs) f) d ys j) f d

      joins_least : (t : List ℕ) (xs zs : Shapes) (h : Each k t xs zs) → are_sound zs ≡ true → depth (Tup zs) ≤ 8 → (ys : Shapes) → Each k t ys zs → Each k t (joins k xs ys) zs
      joins_least t _ _ no_more f d _ no_more = no_more
      joins_least t _ _ (and_more x z xs zs h hs) f d _ (and_more y _ ys _ j js) =
          and_more (join k x y) z (joins k xs ys) zs (join_least t x z h (and_left (is_sound z) (are_sound zs) f) (first_deep z zs d) y j)
          (joins_least t xs zs hs (and_right (is_sound z) (are_sound zs) f) (rest_deep z zs d) ys js)

    tied_stays : (b : Bool) (t : List ℕ) (ps : List (ℕ × ℕ)) → AllSame t ps → AllSame t ((if b then ps else []) ++ [])
    tied_stays true t ps a = same_append t ps [] a tt
    tied_stays false t ps a = tt

    tup_finest : (t : List ℕ) (xs ys : Shapes) → stays xs ys (joins k xs ys) ≡ true → AllSame t (all_each k xs ys)
        → AllSame t ((if equal_count xs ys then all_each k xs ys else []) ++ (if stays xs ys (joins k xs ys) then [] else all_tied (Tup xs) (Tup ys)))
    tup_finest t xs ys e a =
        subst (λ b. AllSame t ((if equal_count xs ys then all_each k xs ys else []) ++ (if b then [] else all_tied (Tup xs) (Tup ys)))) (sym e)
        (tied_stays (equal_count xs ys) t (all_each k xs ys) a)

    mutual
      tied_finest : (t : List ℕ) (x z : Shape) (h : Below k t x z) → is_sound z ≡ true → depth z ≤ 8 → (y : Shape) → Below k t y z → AllSame t (tied k x y)
      tied_finest t _ _ (least z) f d y j = tied_first t y
      tied_finest t x z h f d _ (least _) = tied_second t x
      tied_finest t _ _ (clash x o p h i) f d _ (clash y _ _ j l) = tied_held t o p x y h j i l
      tied_finest t _ _ (list s u a b e h) f d _ (list v _ c _ i j) = (e ∙ sym i, tt)
      tied_finest t _ _ (dict s u a b e h) f d _ (dict v _ c _ i j) = (e ∙ sym i, tt)
      tied_finest t _ _ (inst c m a n e h) f d _ (inst q _ b _ i j) = plain_tied t None None (Inst c a) (Inst q b) tt tt tt tt
      tied_finest t _ _ (tuple xs zs h) f d _ (tuple ys _ j) =
          tup_finest t xs ys (stays_by t xs ys zs h j (joins_least t xs zs h (and_right (no_clash zs) (are_sound zs) f) d ys j) f d)
          (each_finest t xs zs h (and_right (no_clash zs) (are_sound zs) f) d ys j)
      tied_finest t _ _ none f d _ none = tt
      tied_finest t _ _ none_str f d _ none_str = tt
      tied_finest t _ _ none_str f d _ (str a _ h) = tt
      tied_finest t _ _ (str a _ h) f d _ none_str = tt
      tied_finest t _ _ (str a b h) f d _ (str c _ j) = tt
      tied_finest t _ _ (none_list s) f d _ (none_list _) = tt
      tied_finest t _ _ (none_list s) f d _ (list u _ a _ e h) = tt
      tied_finest t _ _ (list u s a _ e h) f d _ (none_list _) = tt
      tied_finest t _ _ (none_dict s) f d _ (none_dict _) = tt
      tied_finest t _ _ (none_dict s) f d _ (dict u _ a _ e h) = tt
      tied_finest t _ _ (dict u s a _ e h) f d _ (none_dict _) = tt
      tied_finest t _ _ (none_inst c) f d _ (none_inst _) = tt
      tied_finest t _ _ (none_inst c) f d _ (inst m _ a _ e h) = tt
      tied_finest t _ _ (inst m c a _ e h) f d _ (none_inst _) = tt
      tied_finest t _ _ (none_fun fs) f d _ (none_fun _) = tt
      tied_finest t _ _ (none_fun fs) f d _ (fun gs _ a _ e h) = tt
      tied_finest t _ _ (fun gs fs a _ e h) f d _ (none_fun _) = tt
      tied_finest t _ _ (fun fs hs a n e h) f d _ (fun gs _ b _ i j) = tt
      tied_finest t _ _ (num a b h) f d _ (num c _ j) = tt
      tied_finest t _ _ (truth a b h) f d _ (truth c _ j) = tt

      each_finest : (t : List ℕ) (xs zs : Shapes) (h : Each k t xs zs) → are_sound zs ≡ true → depth (Tup zs) ≤ 8 → (ys : Shapes) → Each k t ys zs → AllSame t (all_each k xs ys)
      each_finest t _ _ no_more f d _ no_more = tt
      each_finest t _ _ (and_more x z xs zs h hs) f d _ (and_more y _ ys _ j js) =
          same_append t (tied k x y) (all_each k xs ys) (tied_finest t x z h (and_left (is_sound z) (are_sound zs) f) (first_deep z zs d) y j)
          (each_finest t xs zs hs (and_right (is_sound z) (are_sound zs) f) (rest_deep z zs d) ys js)

  -- ---- the join of well-formed elements is one

  tup_sound : (b : Bool) (xs ys : Shapes) → stays xs ys (joins k xs ys) ≡ b → are_sound (joins k xs ys) ≡ true
      → is_sound (if b then Tup (joins k xs ys) else conflict (Tup xs) (Tup ys)) ≡ true
  tup_sound true xs ys e r =
      let rest = and_right (equal_count xs ys) (no_clash (joins k xs ys) && nat_le (depths (joins k xs ys)) 7) e in
      both (and_left (no_clash (joins k xs ys)) (nat_le (depths (joins k xs ys)) 7) rest) r
  tup_sound false xs ys e r = refl

  inst_sound : (c : Option ℕ) (b : Bool) → is_sound (join_inst c b) ≡ true
  inst_sound (Some c) b = refl
  inst_sound None b = refl

  mutual
    join_sound : (x y : Shape) → is_sound x ≡ true → is_sound y ≡ true → is_sound (join k x y) ≡ true
    join_sound Nothing y f g = g
    join_sound NoneOnly Nothing f g = f
    join_sound (Truth b) Nothing f g = f
    join_sound (Num b) Nothing f g = f
    join_sound (Str b) Nothing f g = f
    join_sound (Tup xs) Nothing f g = f
    join_sound (Lst s b) Nothing f g = f
    join_sound (Dct s b) Nothing f g = f
    join_sound (Inst s b) Nothing f g = f
    join_sound (Fun s b) Nothing f g = f
    join_sound (Clash o p) Nothing f g = f
    join_sound NoneOnly (Fun fs b) f g = g
    join_sound (Fun fs b) NoneOnly f g = f
    join_sound (Fun fs b) (Fun gs c) f g = rising_union fs gs f g
    join_sound (Inst c b) (Inst d e) f g = inst_sound (common_base k c d) (b || e)
    join_sound (Tup xs) (Tup ys) f g = tup_sound (stays xs ys (joins k xs ys)) xs ys refl (joins_sound xs ys (and_right (no_clash xs) (are_sound xs) f) (and_right (no_clash ys) (are_sound ys) g))
    join_sound x y f g = refl

    joins_sound : (xs ys : Shapes) → are_sound xs ≡ true → are_sound ys ≡ true → are_sound (joins k xs ys) ≡ true
    joins_sound end ys f g = refl
    joins_sound (more x xs) end f g = refl
    joins_sound (more x xs) (more y ys) f g =
        both (join_sound x y (and_left (is_sound x) (are_sound xs) f) (and_left (is_sound y) (are_sound ys) g))
        (joins_sound xs ys (and_right (is_sound x) (are_sound xs) f) (and_right (is_sound y) (are_sound ys) g))

  tup_shallow : (b : Bool) (xs ys : Shapes) → stays xs ys (joins k xs ys) ≡ b → depth (if b then Tup (joins k xs ys) else conflict (Tup xs) (Tup ys)) ≤ 8
  tup_shallow true xs ys e =
      let rest = and_right (equal_count xs ys) (no_clash (joins k xs ys) && nat_le (depths (joins k xs ys)) 7) e in
      let deep : depths (joins k xs ys) ≤ 7 = leb-true (depths (joins k xs ys)) 7 (and_right (no_clash (joins k xs ys)) (nat_le (depths (joins k xs ys)) 7) rest) in
      omega (arith, deep)
  tup_shallow false xs ys e = omega arith

  inst_shallow : (c : Option ℕ) (b : Bool) → depth (join_inst c b) ≤ 8
  inst_shallow (Some c) b = omega arith
  inst_shallow None b = omega arith

  join_shallow : (x y : Shape) → depth x ≤ 8 → depth y ≤ 8 → depth (join k x y) ≤ 8
  join_shallow Nothing y d e = e
  join_shallow NoneOnly Nothing d e = d
  join_shallow (Truth b) Nothing d e = d
  join_shallow (Num b) Nothing d e = d
  join_shallow (Str b) Nothing d e = d
  join_shallow (Tup xs) Nothing d e = d
  join_shallow (Lst s b) Nothing d e = d
  join_shallow (Dct s b) Nothing d e = d
  join_shallow (Inst s b) Nothing d e = d
  join_shallow (Fun s b) Nothing d e = d
  join_shallow (Clash o p) Nothing d e = d
  join_shallow (Tup xs) (Tup ys) d e = tup_shallow (stays xs ys (joins k xs ys)) xs ys refl
  join_shallow (Inst c b) (Inst m n) d e = inst_shallow (common_base k c m) (b || n)
  join_shallow x y d e = omega arith

pub is_join : (k : List ClassInfo) → IsTree k → (t : List ℕ) → IsJoin k t
is_join k tree t =
    record {
      left = λ x y. join_left k tree (classes_after k t x y) x y (unites_new t (tied k x y));
      right = λ x y. join_right k tree (classes_after k t x y) x y (unites_new t (tied k x y));
      finer = λ x y. unites_old t (tied k x y);
      finest = λ u w x y z f h j. unites_least t (tied k x y) u w (tied_finest k tree u x z h f.sound f.shallow y j);
      least = λ u x y z f h j. join_least k tree u x z h f.sound f.shallow y j;
      formed = λ x y f g. record { sound = join_sound k x y f.sound g.sound; shallow = join_shallow k x y f.shallow g.shallow };
    }

-- ---- what follows: the order of two elements, or of three, does not matter

module _ (k : List ClassInfo) (tree : IsTree k) (t : List ℕ) where
  abbrev j : Shape → Shape → Shape
  j = join k

  abbrev after : List ℕ → Shape → Shape → List ℕ
  after = classes_after k

  law : (u : List ℕ) → IsJoin k u
  law u = is_join k tree u

  turns : (x y : Shape) → IsFormed x → IsFormed y → Within (after t x y) (after t y x) × Below k (after t y x) (j x y) (j y x)
  turns x y f g =
      let z = (law t).formed y x g f in
      let u = after t y x in
      ((law t).finest u ((law t).finer y x) x y (j y x) z ((law t).right y x) ((law t).left y x), (law t).least u x y (j y x) z ((law t).right y x) ((law t).left y x))

  pub commutes : (x y : Shape) → IsFormed x → IsFormed y → Alike (after t x y) (after t y x) × Level k (after t x y) (j x y) (j y x)
  commutes x y f g =
      let a = turns x y f g in
      let b = turns y x g f in
      (record { there = a.0; back = b.0 }, record { up = below_more k (after t y x) (after t x y) b.0 (j x y) (j y x) a.1; down = b.1 })

  pub repeats : (x : Shape) → IsFormed x → Alike (after t x x) t × Level k t (j x x) x
  repeats x f =
      let same = below_self k tree t x in
      let w = (law t).finest t (within_self t) x x x f same same in (
        record { there = w; back = (law t).finer x x },
        record { up = (law t).least t x x x f same same; down = below_more k (after t x x) t w x (j x x) ((law t).left x x) },
      )

  -- all three are below either join
  first_way : (x y z : Shape) → IsFormed x → IsFormed y → IsFormed z
      → Within (after (after t x y) (j x y) z) (after (after t y z) x (j y z)) × Below k (after (after t y z) x (j y z)) (j (j x y) z) (j x (j y z))
  first_way x y z f g h =
      let s = after t y z in
      let u = after s x (j y z) in
      let r = j x (j y z) in
      let yz = (law t).formed y z g h in
      let fr = (law s).formed x (j y z) f yz in
      let w : Within s u = (law s).finer x (j y z) in
      let xr : Below k u x r = (law s).left x (j y z) in
      let mr : Below k u (j y z) r = (law s).right x (j y z) in
      let yr : Below k u y r = below_on k tree u y (j y z) (below_more k s u w y (j y z) ((law t).left y z)) r mr in
      let zr : Below k u z r = below_on k tree u z (j y z) (below_more k s u w z (j y z) ((law t).right y z)) r mr in
      let xy : Below k u (j x y) r = (law t).least u x y r fr xr yr in
      let v : Within (after t x y) u = (law t).finest u (within_on ((law t).finer y z) w) x y r fr xr yr in
      ((law (after t x y)).finest u v (j x y) z r fr xy zr, (law (after t x y)).least u (j x y) z r fr xy zr)

  second_way : (x y z : Shape) → IsFormed x → IsFormed y → IsFormed z
      → Within (after (after t y z) x (j y z)) (after (after t x y) (j x y) z) × Below k (after (after t x y) (j x y) z) (j x (j y z)) (j (j x y) z)
  second_way x y z f g h =
      let s = after t x y in
      let u = after s (j x y) z in
      let r = j (j x y) z in
      let xy = (law t).formed x y f g in
      let fr = (law s).formed (j x y) z xy h in
      let w : Within s u = (law s).finer (j x y) z in
      let zr : Below k u z r = (law s).right (j x y) z in
      let mr : Below k u (j x y) r = (law s).left (j x y) z in
      let xr : Below k u x r = below_on k tree u x (j x y) (below_more k s u w x (j x y) ((law t).left x y)) r mr in
      let yr : Below k u y r = below_on k tree u y (j x y) (below_more k s u w y (j x y) ((law t).right x y)) r mr in
      let yz : Below k u (j y z) r = (law t).least u y z r fr yr zr in
      let v : Within (after t y z) u = (law t).finest u (within_on ((law t).finer x y) w) y z r fr yr zr in
      ((law (after t y z)).finest u v x (j y z) r fr xr yz, (law (after t y z)).least u x (j y z) r fr xr yz)

  pub associates : (x y z : Shape) → IsFormed x → IsFormed y → IsFormed z
      → Alike (after (after t x y) (j x y) z) (after (after t y z) x (j y z)) × Level k (after (after t x y) (j x y) z) (j (j x y) z) (j x (j y z))
  associates x y z f g h =
      let a = first_way x y z f g h in
      let b = second_way x y z f g h in (
        record { there = a.0; back = b.0 },
        record { up = below_more k (after (after t y z) x (j y z)) (after (after t x y) (j x y) z) b.0 (j (j x y) z) (j x (j y z)) a.1; down = b.1 },
      )

pub is_lattice : (k : List ClassInfo) → IsTree k → (t : List ℕ) → IsLattice k t
is_lattice k tree t =
    record {
      commutes = λ x y f g. commutes k tree t x y f g;
      associates = λ x y z f g h. associates k tree t x y z f g h;
      repeats = λ x f. repeats k tree t x f;
    }
