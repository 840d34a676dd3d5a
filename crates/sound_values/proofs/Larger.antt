-- Values of an element are values of larger ones.
use Rattle.std.proofs.Common.{ℕ, Bool, true, false, List, Option, Some, None, ◌∙◌}
use Rattle.rpy_tree.specs.declared.program.ClassInfo.{ClassInfo}
use Rattle.rpy_tree.specs.Value.{Value, Values}
use Rattle.rpy_tree.specs.Value as value
use Rattle.ann_lattice.specs.Shape.{Width, One, Any, OrNone, Shape, Shapes}
use Rattle.ann_lattice.specs.Shape as shape
use Rattle.ann_lattice.specs.Order as order
use Rattle.ann_lattice.specs.Order.{Below, Implies, Wider, LessKnown, Sub}
use Rattle.ann_lattice.specs.Laws.{IsTree}
use Rattle.ann_lattice.proofs.Ordered.{has_on}
use Rattle.ann_lattice.proofs.Tree.{sub_on}
use Rattle.sound_values.specs.Values.{Sort, Fills, Is, none, none_str, none_list, none_dict, none_inst, none_fun, flag, word, text, tuple, list, dict, inst, fun, clash, Each, no_more, and_more}
use Rattle.sound_values.specs.Laws.{ValuesAreOfLarger, NothingHasNoValue}

pub nothing : (k : List ClassInfo) (t : List ℕ) (sorts : List Sort) (v : Value) → Is k t sorts shape.Nothing v → ⊥
nothing k t sorts v h = elim h [ ]

pub fills_wider : (a b : Width) (bytes : List ℕ) → Wider a b → Fills a bytes → Fills b bytes
fills_wider One One bytes h f = f
fills_wider One Any bytes h f = tt
fills_wider One OrNone bytes h f = tt
fills_wider Any One bytes h f = absurd h
fills_wider Any Any bytes h f = f
fills_wider Any OrNone bytes h f = tt
fills_wider OrNone One bytes h f = absurd h
fills_wider OrNone Any bytes h f = absurd h
fills_wider OrNone OrNone bytes h f = tt

known_in : (c : Bool) (a b : Option Bool) → LessKnown (Some c) a → LessKnown a b → LessKnown (Some c) b
known_in true (Some true) b g h = h
known_in false (Some false) b g h = h
known_in true (Some false) b g h = absurd g
known_in false (Some true) b g h = absurd g
known_in true None None g h = tt
known_in false None None g h = tt
known_in c None (Some b) g h = absurd h

module _ (k : List ClassInfo) (tree : IsTree k) (t : List ℕ) (sorts : List Sort) where
  none_in_str : (b : Width) → Wider OrNone b → Is k t sorts (shape.Str b) value.Nothing
  none_in_str One h = absurd h
  none_in_str Any h = absurd h
  none_in_str OrNone h = none_str

  mutual
    pub larger : (x y : Shape) (v : Value) → Below k t x y → Is k t sorts x v → Is k t sorts y v
    larger _ _ v (order.least y) h = absurd (nothing k t sorts v h)
    larger _ _ _ order.none none = none
    larger _ _ _ order.none_str none = none_str
    larger _ _ _ (order.none_list s) none = none_list s
    larger _ _ _ (order.none_dict s) none = none_dict s
    larger _ _ _ (order.none_inst c) none = none_inst c
    larger _ _ _ (order.none_fun fs) none = none_fun fs
    larger _ _ _ (order.truth a b h) (flag known c g) = flag b c (known_in c a b g h)
    larger _ _ _ (order.num a b h) (word n z) = word b z
    larger _ _ _ (order.str a b h) (text width bytes f) = text b bytes (fills_wider a b bytes h f)
    larger _ _ _ (order.str OrNone b h) none_str = none_in_str b h
    larger _ _ _ (order.tuple xs ys h) (tuple zs vs i) = tuple ys vs (each_larger xs ys vs h i)
    larger _ _ _ (order.list s u a b e h) (list z n r w i j) = list u b r w i (j ∙ e)
    larger _ _ _ (order.list s u true true e h) (none_list z) = none_list u
    larger _ _ _ (order.list s u true false e h) (none_list z) = absurd h
    larger _ _ _ (order.dict s u a b e h) (dict z n r w i j) = dict u b r w i (j ∙ e)
    larger _ _ _ (order.dict s u true true e h) (none_dict z) = none_dict u
    larger _ _ _ (order.dict s u true false e h) (none_dict z) = absurd h
    larger _ _ _ (order.inst c d a b e h) (inst z n r w i j) = inst d b r w i (sub_on k tree w c d j e)
    larger _ _ _ (order.inst c d true true e h) (none_inst z) = none_inst d
    larger _ _ _ (order.inst c d true false e h) (none_inst z) = absurd h
    larger _ _ _ (order.fun fs gs a b e h) (fun z n f i) = fun gs b f (has_on fs gs f e i)
    larger _ _ _ (order.fun fs gs true true e h) (none_fun z) = none_fun gs
    larger _ _ _ (order.fun fs gs true false e h) (none_fun z) = absurd h
    larger _ _ v (order.clash x o p h j) i = clash o p v

    pub each_larger : (xs ys : Shapes) (vs : Values) → order.Each k t xs ys → Each k t sorts xs vs → Each k t sorts ys vs
    each_larger _ _ _ order.no_more no_more = no_more
    each_larger _ _ _ (order.and_more x y xs ys h hs) (and_more z zs v vs i is) = and_more y ys v vs (larger x y v h i) (each_larger xs ys vs hs is)

pub values_are_of_larger : ValuesAreOfLarger
values_are_of_larger k tree t sorts x y v h i = larger k tree t sorts x y v h i

pub nothing_has_no_value : NothingHasNoValue
nothing_has_no_value k t sorts v h = nothing k t sorts v h
