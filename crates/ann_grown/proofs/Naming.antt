-- An element written with the least site of each class is below what it was below.
use Rattle.std.proofs.Common.{◌≡◌, ◌≤◌, ℕ, zero, suc, Bool, List, [], ◌∷◌, map, get_or, Option, Some, None, refl, sym, ap, ◌∙◌, subst}
use Rattle.std.specs.Prelude.{◌&&◌, not, max}
use Rattle.std.proofs.lemmas.List.{length-map}
use Rattle.rpy_tree.specs.declared.program.ClassInfo.{ClassInfo}
use Rattle.ann_element.specs.Sites.{leader, Same}
use Rattle.ann_lattice.specs.Shape.{Shape, Nothing, NoneOnly, Truth, Num, Str, Tup, Lst, Dct, Inst, Fun, Clash, Shapes, end, more}
use Rattle.ann_lattice.specs.Order.{Below, least, none, none_str, none_list, none_dict, none_inst, none_fun, truth, num, str, tuple, list, dict, inst, fun, clash, Each, no_more, and_more, In, Held, kept, lists, all_lists, dicts, all_dicts}
use Rattle.ann_lattice.specs.Join.{Within, is_clash, no_clash, depth, depths}
use Rattle.ann_lattice.specs.Laws.{IsFormed, name_of, named, all_named, is_sound, are_sound}
use Rattle.ann_lattice.specs.Assign.{Assignment, at, Less, Free}
use Rattle.ann_lattice.proofs.Sites.{within_self}
use Rattle.ann_lattice.proofs.Ordered.{held_append, held_split}
use Rattle.ann_rules.specs.Program.{Whole}
use Rattle.ann_grown.specs.Partial.{IsPartial, with_leaders}

module _ (k : List ClassInfo) (t u : List ℕ) (w : Within t u) (leads : (s : ℕ) → leader t (leader t s) ≡ leader t s) where
  led : (s v : ℕ) → Same u s v → Same u (leader t s) v
  led s v e = w.by (leader t s) s (leads s) ∙ e

  in_led : (o : Option ℕ) (s : ℕ) → In u o s → In u o (leader t s)
  in_led None s h = h
  in_led (Some a) s h = led s a h

  kept_led : (o q : Option ℕ) → Held u o (kept q) → Held u o (kept (name_of t q))
  kept_led o None h = tt
  kept_led o (Some s) h = (in_led o s h.0, tt)

  mutual
    lists_led : (o : Option ℕ) (x : Shape) → Held u o (lists x) → Held u o (lists (named t x))
    lists_led o (Lst s n) h = (in_led o s h.0, tt)
    lists_led o (Tup xs) h = all_lists_led o xs h
    lists_led o (Clash q r) h = kept_led o q h
    lists_led o Nothing h = tt
    lists_led o NoneOnly h = tt
    lists_led o (Truth a) h = tt
    lists_led o (Num a) h = tt
    lists_led o (Str a) h = tt
    lists_led o (Dct s n) h = tt
    lists_led o (Inst c n) h = tt
    lists_led o (Fun fs n) h = tt

    all_lists_led : (o : Option ℕ) (xs : Shapes) → Held u o (all_lists xs) → Held u o (all_lists (all_named t xs))
    all_lists_led o end h = tt
    all_lists_led o (more x xs) h =
        let parts = held_split u o (lists x) (all_lists xs) h in
        held_append u o (lists (named t x)) (all_lists (all_named t xs)) (lists_led o x parts.0) (all_lists_led o xs parts.1)

  mutual
    dicts_led : (o : Option ℕ) (x : Shape) → Held u o (dicts x) → Held u o (dicts (named t x))
    dicts_led o (Dct s n) h = (in_led o s h.0, tt)
    dicts_led o (Tup xs) h = all_dicts_led o xs h
    dicts_led o (Clash q r) h = kept_led o r h
    dicts_led o Nothing h = tt
    dicts_led o NoneOnly h = tt
    dicts_led o (Truth a) h = tt
    dicts_led o (Num a) h = tt
    dicts_led o (Str a) h = tt
    dicts_led o (Lst s n) h = tt
    dicts_led o (Inst c n) h = tt
    dicts_led o (Fun fs n) h = tt

    all_dicts_led : (o : Option ℕ) (xs : Shapes) → Held u o (all_dicts xs) → Held u o (all_dicts (all_named t xs))
    all_dicts_led o end h = tt
    all_dicts_led o (more x xs) h =
        let parts = held_split u o (dicts x) (all_dicts xs) h in
        held_append u o (dicts (named t x)) (all_dicts (all_named t xs)) (dicts_led o x parts.0) (all_dicts_led o xs parts.1)

  mutual
    named_down : (x z : Shape) → Below k u x z → Below k u (named t x) z
    named_down _ _ (least y) = least y
    named_down _ _ none = none
    named_down _ _ none_str = none_str
    named_down _ _ (none_list s) = none_list s
    named_down _ _ (none_dict s) = none_dict s
    named_down _ _ (none_inst c) = none_inst c
    named_down _ _ (none_fun fs) = none_fun fs
    named_down _ _ (truth a b h) = truth a b h
    named_down _ _ (num a b h) = num a b h
    named_down _ _ (str a b h) = str a b h
    named_down _ _ (tuple xs ys h) = tuple (all_named t xs) ys (all_named_down xs ys h)
    named_down _ _ (list s v a b e h) = list (leader t s) v a b (led s v e) h
    named_down _ _ (dict s v a b e h) = dict (leader t s) v a b (led s v e) h
    named_down _ _ (inst c d a b e h) = inst c d a b e h
    named_down _ _ (fun fs gs a b e h) = fun fs gs a b e h
    named_down _ _ (clash x o p h i) = clash (named t x) o p (lists_led o x h) (dicts_led p x i)

    all_named_down : (xs ys : Shapes) → Each k u xs ys → Each k u (all_named t xs) ys
    all_named_down _ _ no_more = no_more
    all_named_down _ _ (and_more x y xs ys h hs) = and_more (named t x) y (all_named t xs) ys (named_down x y h) (all_named_down xs ys hs)

-- nor is it less than the element
module _ (k : List ClassInfo) (t u : List ℕ) (w : Within t u) (leads : (s : ℕ) → leader t (leader t s) ≡ leader t s) where
  led_by : (s v : ℕ) → Same u s v → Same u s (leader t v)
  led_by s v e = e ∙ sym (w.by (leader t v) v (leads v))

  held_by : (o : Option ℕ) (ss : List ℕ) → Held u o ss → Held u (name_of t o) ss
  held_by o [] h = tt
  held_by None (s ∷ ss) h = absurd h.0
  held_by (Some a) (s ∷ ss) h = (led_by s a h.0, held_by (Some a) ss h.1)

  mutual
    named_up : (x z : Shape) → Below k u x z → Below k u x (named t z)
    named_up _ _ (least y) = least (named t y)
    named_up _ _ none = none
    named_up _ _ none_str = none_str
    named_up _ _ (none_list s) = none_list (leader t s)
    named_up _ _ (none_dict s) = none_dict (leader t s)
    named_up _ _ (none_inst c) = none_inst c
    named_up _ _ (none_fun fs) = none_fun fs
    named_up _ _ (truth a b h) = truth a b h
    named_up _ _ (num a b h) = num a b h
    named_up _ _ (str a b h) = str a b h
    named_up _ _ (tuple xs ys h) = tuple xs (all_named t ys) (all_named_up xs ys h)
    named_up _ _ (list s v a b e h) = list s (leader t v) a b (led_by s v e) h
    named_up _ _ (dict s v a b e h) = dict s (leader t v) a b (led_by s v e) h
    named_up _ _ (inst c d a b e h) = inst c d a b e h
    named_up _ _ (fun fs gs a b e h) = fun fs gs a b e h
    named_up _ _ (clash x o p h i) = clash x (name_of t o) (name_of t p) (held_by o (lists x) h) (held_by p (dicts x) i)

    all_named_up : (xs ys : Shapes) → Each k u xs ys → Each k u xs (all_named t ys)
    all_named_up _ _ no_more = no_more
    all_named_up _ _ (and_more x y xs ys h hs) = and_more x (named t y) xs (all_named t ys) (named_up x y h) (all_named_up xs ys hs)

-- ---- it is as well-formed

named_clash : (t : List ℕ) (x : Shape) → is_clash (named t x) ≡ is_clash x
named_clash t Nothing = refl
named_clash t NoneOnly = refl
named_clash t (Truth a) = refl
named_clash t (Num a) = refl
named_clash t (Str a) = refl
named_clash t (Tup xs) = refl
named_clash t (Lst s n) = refl
named_clash t (Dct s n) = refl
named_clash t (Inst c n) = refl
named_clash t (Fun fs n) = refl
named_clash t (Clash o q) = refl

all_named_clear : (t : List ℕ) (xs : Shapes) → no_clash (all_named t xs) ≡ no_clash xs
all_named_clear t end = refl
all_named_clear t (more x xs) = λ i. not (named_clash t x i) && all_named_clear t xs i

mutual
  named_sound : (t : List ℕ) (x : Shape) → is_sound (named t x) ≡ is_sound x
  named_sound t (Tup xs) = λ i. all_named_clear t xs i && all_named_sound t xs i
  named_sound t Nothing = refl
  named_sound t NoneOnly = refl
  named_sound t (Truth a) = refl
  named_sound t (Num a) = refl
  named_sound t (Str a) = refl
  named_sound t (Lst s n) = refl
  named_sound t (Dct s n) = refl
  named_sound t (Inst c n) = refl
  named_sound t (Fun fs n) = refl
  named_sound t (Clash o q) = refl

  all_named_sound : (t : List ℕ) (xs : Shapes) → are_sound (all_named t xs) ≡ are_sound xs
  all_named_sound t end = refl
  all_named_sound t (more x xs) = λ i. named_sound t x i && all_named_sound t xs i

mutual
  named_depth : (t : List ℕ) (x : Shape) → depth (named t x) ≡ depth x
  named_depth t (Tup xs) = ap suc (all_named_depth t xs)
  named_depth t Nothing = refl
  named_depth t NoneOnly = refl
  named_depth t (Truth a) = refl
  named_depth t (Num a) = refl
  named_depth t (Str a) = refl
  named_depth t (Lst s n) = refl
  named_depth t (Dct s n) = refl
  named_depth t (Inst c n) = refl
  named_depth t (Fun fs n) = refl
  named_depth t (Clash o q) = refl

  all_named_depth : (t : List ℕ) (xs : Shapes) → depths (all_named t xs) ≡ depths xs
  all_named_depth t end = refl
  all_named_depth t (more x xs) = λ i. max (named_depth t x i) (all_named_depth t xs i)

named_formed : (t : List ℕ) (x : Shape) → IsFormed x → IsFormed (named t x)
named_formed t x f = record { sound = named_sound t x ∙ f.sound; shallow = subst (λ n. n ≤ 8) (sym (named_depth t x)) f.shallow }

named_at : (t : List ℕ) (cells : List Shape) (c : ℕ) → get_or (map (named t) cells) c Nothing ≡ named t (get_or cells c Nothing)
named_at t [] c = refl
named_at t (x ∷ xs) zero = refl
named_at t (x ∷ xs) (suc c) = named_at t xs c

free_unnamed : (spots : ℕ → Bool) (a : Assignment) → Free spots (with_leaders a) → Free spots a
free_unnamed spots a free c e = sym (named_clash a.same (at a c)) ∙ (ap is_clash (sym (named_at a.same a.cells c)) ∙ free c e)

pub partial_named : (p : Whole) (spots : ℕ → Bool) (start a : Assignment) → IsPartial p spots start a → IsPartial p spots start (with_leaders a)
partial_named p spots start a h = record {
  cells = length-map a.cells (named a.same) ∙ h.cells;
  marks = h.marks;
  table = h.table;
  above = record {
    same = h.above.same;
    cells = λ c. subst (λ x. Below p.tables.classes a.same (at start c) x) (sym (named_at a.same a.cells c))
        (named_up p.tables.classes a.same a.same (within_self a.same) h.table.leads (at start c) (at a c) (h.above.cells c));
    marks = h.above.marks;
  };
  formed = λ free c. subst IsFormed (sym (named_at a.same a.cells c)) (named_formed a.same (at a c) (h.formed (free_unnamed spots a free) c));
  least = λ b fits closed free.
      let below : Less p.tables.classes a b = h.least b fits closed free in
      record {
        same = below.same;
        cells = λ c. subst (λ x. Below p.tables.classes b.same x (at b c)) (sym (named_at a.same a.cells c))
            (named_down p.tables.classes a.same b.same below.same h.table.leads (at a c) (at b c) (below.cells c));
        marks = below.marks;
      };
}

pub free_named : (spots : ℕ → Bool) (a : Assignment) → Free spots a → Free spots (with_leaders a)
free_named spots a free c e = ap is_clash (named_at a.same a.cells c) ∙ (named_clash a.same (at a c) ∙ free c e)
