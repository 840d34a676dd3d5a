-- What operations ask of the parts of a program: of items and keys, of attributes, parameters and results, and of the classes that are made.
use Rattle.std.specs.Prelude.{ℕ, zero, suc, ◌+◌, ◌==◌, ◌&&◌, ◌||◌, not, nat_lt, if◌then◌else◌, Bool, true, false, List, [], ◌∷◌, ◌++◌, length, map, slice_get, Option, Some, None, is_some}
use Rattle.rpy_tree.specs.declared.program.Const.{Const, fold-Const}
use Rattle.rpy_tree.specs.declared.program.Const.TheOpen.{Const-F}
use Rattle.rpy_tree.specs.declared.program.Site.{Site}
use Rattle.rpy_tree.specs.declared.syntax.BinOp.{BinOp}
use Rattle.rpy_tree.specs.declared.syntax.BinOp.TheVariants as bin
use Rattle.rpy_tree.specs.declared.syntax.CmpOp.{CmpOp}
use Rattle.rpy_tree.specs.declared.syntax.CmpOp.TheVariants as cmp
use Rattle.rpy_meaning.specs.declared.row.RowOp.{RowOp}
use Rattle.rpy_meaning.specs.declared.row.RowOp.TheVariants as op
use Rattle.class_desc.specs.Line as line
use Rattle.class_desc.specs.Tables.{Tables, home, initial}
use Rattle.class_desc.specs.declared.classes.Initial.{Initial}
use Rattle.ann_element.specs.Sites.{leader}
use Rattle.ann_lattice.specs.declared.method.Method.{Method}
use Rattle.ann_lattice.specs.declared.method.Method.TheVariants as m
use Rattle.ann_lattice.specs.Shape.{Width, One, Any, OrNone, Shape, Nothing, NoneOnly, Str, Tup, Lst, Dct, Inst, Fun, Clash, Shapes, end, more}
use Rattle.ann_lattice.specs.Order.{is_key}
use Rattle.ann_lattice.specs.Assign.{Assignment, at, mark, Need, Up, Set}
use Rattle.ann_lattice.specs.Kind.{misfit, given, is_nothing}
use Rattle.ann_lattice.specs.Methods.{method_named}
use Rattle.ann_lattice.specs.Row.{constant, if_shallow}
use Rattle.ann_rules.specs.Program.{Callee, Places, Whole}

-- only where this holds
abbrev pub when : Bool → List Need → List Need
when b needs = if b then needs else []

-- what each asks
abbrev pub from_each : {A : Type 0} → (A → List Need) → List A → List Need
from_each f [] = []
from_each f (x ∷ xs) = f x ++ from_each f xs

-- of one operand and those after it, of two, or of three
abbrev pub with_first : (Shape → List Shape → List Need) → List Shape → List Need
with_first f [] = []
with_first f (x ∷ xs) = f x xs

abbrev pub with_two : (Shape → Shape → List Need) → List Shape → List Need
with_two f (x ∷ y ∷ []) = f x y
with_two f other = []

abbrev pub with_three : (Shape → Shape → Shape → List Need) → List Shape → List Need
with_three f (x ∷ y ∷ z ∷ []) = f x y z
with_three f other = []

abbrev pub rest : {A : Type 0} → List A → List A
rest [] = []
rest (x ∷ xs) = xs

abbrev pub paired : ℕ → Option ℕ → List (ℕ × ℕ)
paired c None = []
paired c (Some f) = (c, f) ∷ []

module _ (p : Whole) where
  -- ---- constants: the contents of the lists and dicts in them

  abbrev pub loads_step : Const-F (List Need) → List Need
  loads_step (Const-F.List s) = Set (p.places.loaded s) ∷ []
  loads_step (Const-F.Dict s) = Set (p.places.loaded s) ∷ []
  loads_step (Const-F.Tuple parts) = from_each (λ needs. needs) parts
  loads_step other = []

  abbrev pub loads : Const → List Need
  loads = fold-Const (List Need) loads_step

  -- ---- calls

  abbrev pub argument : ℕ → ℕ → Option Const → List Shape → List Need
  argument f i default (x ∷ xs) = Up (p.places.param f i) (x ∷ []) ∷ []
  argument f i (Some c) [] = loads c ++ Up (p.places.param f i) (constant c ∷ []) ∷ []
  argument f i None [] = []

  -- each parameter from the i-th on takes its argument, or its default
  abbrev pub arguments : ℕ → ℕ → List (Option Const) → List Shape → List Need
  arguments f i [] xs = []
  arguments f i (d ∷ ds) xs = argument f i d xs ++ arguments f (suc i) ds (rest xs)

  abbrev pub defaults_of : Option Callee → List (Option Const)
  defaults_of None = []
  defaults_of (Some c) = c.defaults

  abbrev pub defaults : ℕ → List (Option Const)
  defaults f = defaults_of (slice_get p.callees f)

  -- a call reaches a function with these arguments
  abbrev pub reach : ℕ → List Shape → List Need
  reach f xs = Set (p.places.reached f) ∷ arguments f zero (defaults f) xs

  -- ---- classes

  abbrev pub initial_needs : Initial → List Need
  initial_needs i = loads i.value ++ Up (p.places.attribute i.home i.name) (constant i.value ∷ []) ∷ []

  abbrev pub start_with : ℕ → Option ℕ → List Shape → List Need
  start_with c None xs = []
  start_with c (Some f) xs = reach f (Inst c false ∷ xs)

  -- the class is made, its class-level constants are its first attributes, and its `__init__` is reached
  abbrev pub make : ℕ → List Shape → List Need
  make c xs = Set (p.places.made c) ∷ from_each initial_needs (initial p.tables c) ++ start_with c (line.init p.tables.classes c) xs

module _ (p : Whole) (a : Assignment) where
  -- ---- items and keys, which stand at the least site of a class

  abbrev pub items_of : ℕ → Shape
  items_of s = at a (p.places.item (leader a.same s))

  abbrev pub keys_of : ℕ → Shape
  keys_of s = at a (p.places.key (leader a.same s))

  abbrev pub to_items : ℕ → Shape → List Need
  to_items s x = Up (p.places.item (leader a.same s)) (x ∷ []) ∷ []

  -- what can be no key is in conflict there
  abbrev pub to_keys : ℕ → Shape → List Need
  to_keys s x = Up (p.places.key (leader a.same s)) (given (is_key x) x ∷ []) ∷ []

  -- the items of one list are items of another
  abbrev pub flow : Shape → ℕ → List Need
  flow (Lst s n) site = to_items site (items_of s)
  flow other site = []

  -- what is looked up is a key of the dict, or an item of the list
  abbrev pub look_up : Shape → Shape → List Need
  look_up (Dct s n) x = to_keys s x
  look_up (Lst s n) x = to_items s x
  look_up other x = []

  abbrev pub look_up_key : Shape → Shape → List Need
  look_up_key (Dct s n) x = to_keys s x
  look_up_key other x = []

  abbrev pub hold : Shape → Shape → List Need
  hold (Dct s n) x = to_items s x
  hold (Lst s n) x = to_items s x
  hold other x = []

  -- ---- calls

  -- two cells have one element
  abbrev pub tie : ℕ → ℕ → List Need
  tie c d = Up c (at a d ∷ []) ∷ Up d (at a c ∷ []) ∷ []

  abbrev pub tie_params : ℕ → ℕ → ℕ → List (Option Const) → List (Option Const) → List Need
  tie_params f g i [] es = []
  tie_params f g i (d ∷ ds) [] = []
  tie_params f g i (d ∷ ds) (e ∷ es) = tie (p.places.param f i) (p.places.param g i) ++ tie_params f g (suc i) ds es

  -- of all parameters, or of all but the receiver
  abbrev pub tie_two : Bool → ℕ → ℕ → List Need
  tie_two true f g = tie_params f g 1 (rest (defaults p f)) (rest (defaults p g)) ++ tie (p.places.result f) (p.places.result g)
  tie_two false f g = tie_params f g zero (defaults p f) (defaults p g) ++ tie (p.places.result f) (p.places.result g)

  -- the functions that one call reaches share their parameters, receivers aside, and their results: any two of them
  abbrev pub tie_each : Bool → List ℕ → List ℕ → List Need
  tie_each received fs gs = from_each (λ f. from_each (tie_two received f) gs) fs

  abbrev pub call_all : List ℕ → List Shape → List Need
  call_all fs xs = from_each (λ f. reach p f xs) fs ++ tie_each false fs fs

  -- ---- methods

  abbrev pub method_of : ℕ → List ℕ → ℕ → List (ℕ × ℕ)
  method_of d name c = paired c (if mark a (p.places.made c) && line.is_below p.tables.classes c d then line.method p.tables.classes c name else None)

  -- the methods of the made classes below d, of so many classes from c on, each with its class
  abbrev pub methods_from : ℕ → List ℕ → ℕ → ℕ → List (ℕ × ℕ)
  methods_from d name c zero = []
  methods_from d name c (suc n) = method_of d name c ++ methods_from d name (suc c) n

  abbrev pub methods : ℕ → List ℕ → List (ℕ × ℕ)
  methods d name = methods_from d name zero (length p.tables.classes)

  abbrev pub call_methods : List (ℕ × ℕ) → List Shape → List Need
  call_methods found xs = from_each (λ f. reach p f.1 (Inst f.0 false ∷ xs)) found ++ tie_each true (map (λ f. f.1) found) (map (λ f. f.1) found)

  -- ---- what each operation asks for operands that fit its row

  abbrev pub sum : BinOp → Option ℕ → Shape → Shape → List Need
  sum bin.Add (Some site) x y = flow x site ++ flow y site
  sum other (Some site) x y = flow x site
  sum other None x y = []

  abbrev pub extend : Shape → Shape → List Need
  extend (Lst s n) y = flow y s
  extend other y = []

  abbrev pub compared : CmpOp → Shape → Shape → List Need
  compared cmp.Within x y = look_up y x
  compared cmp.NotWithin x y = look_up y x
  compared other x y = []

  abbrev pub to_attribute : Option ℕ → List ℕ → Shape → List Need
  to_attribute None name x = []
  to_attribute (Some c) name x = Up (p.places.attribute c name) (x ∷ []) ∷ []

  abbrev pub store : List ℕ → Shape → Shape → List Need
  store name (Inst c n) x = to_attribute (home p.tables c name) name x
  store name other x = []

  -- the keys of a dict that is walked are items of the list of its walk
  abbrev pub walked : ℕ → Shape → List Need
  walked site (Dct s n) = to_items site (keys_of s)
  walked site other = []

  abbrev pub list_asks : Method → ℕ → List Shape → List Need
  list_asks m.Append s (x ∷ []) = to_items s x
  list_asks m.Insert s (i ∷ x ∷ []) = to_items s x
  list_asks m.Extend s (x ∷ []) = flow x s
  list_asks n s xs = []

  -- the pairs of a dict, once it has some
  abbrev pub pairs : ℕ → Shape → Shape → List Need
  pairs site k v = when (not (is_nothing k || is_nothing v)) (to_items site (if_shallow (Tup (more k (more v end)))))

  abbrev pub listed : Method → ℕ → ℕ → List Need
  listed m.Keys s site = to_items site (keys_of s)
  listed m.Values s site = to_items site (items_of s)
  listed m.Items s site = pairs site (keys_of s) (items_of s)
  listed n s site = []

  abbrev pub dict_asks : Method → ℕ → Option ℕ → List Shape → List Need
  dict_asks m.Get s site (key ∷ xs) = to_keys s key
  dict_asks n s (Some site) xs = listed n s site
  dict_asks n s None xs = []

  abbrev pub split_asks : Method → Option ℕ → List Need
  split_asks m.Split (Some site) = to_items site (Str Any)
  split_asks n site = []

  abbrev pub method_asks : List ℕ → Option ℕ → Shape → List Shape → List Need
  method_asks name site (Inst c n) xs = call_methods (methods c name) xs
  method_asks name site (Lst s n) xs = list_asks (method_named name) s xs
  method_asks name site (Dct s n) xs = dict_asks (method_named name) s site xs
  method_asks name site (Str w) xs = split_asks (method_named name) site
  method_asks name site other xs = []

  abbrev pub call_value : Shape → List Shape → List Need
  call_value (Fun fs n) xs = call_all fs xs
  call_value other xs = []

  abbrev pub asks : RowOp → List Shape → List Need
  asks (op.Binary o site) xs = with_two (sum o site) xs
  asks op.AddTo xs = with_two extend xs
  asks (op.Slice s low high) xs = with_first (λ x ys. flow x s) xs
  asks (op.AllButLast s) xs = with_first (λ x ys. flow x s) xs
  asks (op.List s) xs = from_each (to_items s) xs
  asks (op.Compare o) xs = with_two (compared o) xs
  asks (op.Index literal) xs = with_two look_up_key xs
  asks op.DeleteIndex xs = with_two look_up_key xs
  asks op.StoreIndex xs = with_three (λ x i y. look_up_key x i ++ hold x y) xs
  asks (op.StoreAttr name) xs = with_two (store name) xs
  asks op.AddItem xs = with_two hold xs
  asks (op.Walk s) xs = with_first (λ x ys. walked s x) xs
  asks (op.Constant c) xs = loads p c
  asks (op.Call f) xs = call_all (f ∷ []) xs
  asks (op.CallOf c f) xs = call_all (f ∷ []) xs
  asks op.CallValue xs = with_first call_value xs
  asks (op.New c) xs = make p c xs
  asks (op.Method name site) xs = with_first (method_asks name site) xs
  asks o xs = []

  -- ---- the further parts that a row speaks of

  abbrev pub held : Shape → List Shape
  held (Lst s n) = items_of s ∷ []
  held (Dct s n) = items_of s ∷ []
  held other = []

  abbrev pub attribute_at : Option ℕ → List ℕ → List Shape
  attribute_at None name = []
  attribute_at (Some c) name = at a (p.places.attribute c name) ∷ []

  abbrev pub first_attribute : List ℕ → List Shape → List Shape
  first_attribute name (Inst c n ∷ xs) = attribute_at (home p.tables c name) name
  first_attribute name other = []

  abbrev pub results : List ℕ → List Shape
  results fs = map (λ f. at a (p.places.result f)) fs

  abbrev pub first_results : List Shape → List Shape
  first_results (Fun fs n ∷ xs) = results fs
  first_results other = []

  abbrev pub first_held : List Shape → List Shape
  first_held [] = []
  first_held (x ∷ xs) = held x

  abbrev pub second_held : List Shape → List Shape
  second_held [] = []
  second_held (x ∷ xs) = first_held xs

  abbrev pub compare_parts : CmpOp → List Shape → List Shape
  compare_parts cmp.Within xs = second_held xs
  compare_parts cmp.NotWithin xs = second_held xs
  compare_parts o xs = []

  abbrev pub method_parts : List ℕ → List Shape → List Shape
  method_parts name [] = []
  method_parts name (Inst c n ∷ xs) = results (map (λ f. f.1) (methods c name))
  method_parts name (Lst s n ∷ xs) = items_of s ∷ []
  method_parts name (Dct s n ∷ xs) = items_of s ∷ []
  method_parts name (Str w ∷ xs) = first_held xs
  method_parts name (x ∷ xs) = []

  abbrev pub parts : RowOp → List Shape → List Shape
  parts (op.Index literal) xs = first_held xs
  parts (op.Item None) xs = first_held xs
  parts (op.Compare o) xs = compare_parts o xs
  parts (op.Attr name) xs = first_attribute name xs
  parts (op.Call f) xs = results (f ∷ [])
  parts (op.CallOf c f) xs = results (f ∷ [])
  parts op.CallValue xs = first_results xs
  parts (op.Method name site) xs = method_parts name xs
  parts o xs = []
