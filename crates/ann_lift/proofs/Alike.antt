-- What operations ask, they ask by the parts of the program alone.
use Rattle.std.proofs.Common.{◌≡◌, ℕ, zero, suc, Bool, true, false, List, [], ◌∷◌, ◌++◌, length, map, Option, Some, None, refl, ap, ◌∙◌}
use Rattle.std.specs.Prelude.{◌==◌, ◌&&◌, ◌||◌, not, if◌then◌else◌, is_some}
use Rattle.rpy_tree.specs.declared.program.Const.{Const}
use Rattle.rpy_tree.specs.declared.program.Site.{Site}
use Rattle.rpy_tree.specs.declared.syntax.BinOp.{BinOp}
use Rattle.rpy_tree.specs.declared.syntax.BinOp.TheVariants as bin
use Rattle.rpy_tree.specs.declared.syntax.CmpOp.{CmpOp}
use Rattle.rpy_tree.specs.declared.syntax.CmpOp.TheVariants as cmp
use Rattle.rpy_meaning.specs.declared.row.RowOp.{RowOp}
use Rattle.rpy_meaning.specs.declared.row.RowOp.TheVariants as op
use Rattle.class_desc.specs.Line as line
use Rattle.class_desc.specs.Tables.{home}
use Rattle.ann_element.specs.Sites.{leader}
use Rattle.ann_lattice.specs.declared.method.Method.{Method}
use Rattle.ann_lattice.specs.declared.method.Method.TheVariants as m
use Rattle.ann_lattice.specs.Shape.{Any, Shape, Nothing, Str, Tup, Lst, Dct, Inst, Fun, end, more}
use Rattle.ann_lattice.specs.Order.{is_key}
use Rattle.ann_lattice.specs.Assign.{Assignment, at, Up}
use Rattle.ann_lattice.specs.Kind.{given, is_nothing, misfit}
use Rattle.ann_lattice.specs.Methods.{method_named}
use Rattle.ann_lattice.specs.Row.{if_shallow}
use Rattle.ann_rules.specs.Program.{Whole}
use Rattle.ann_rules.specs.Asks as asking
use Rattle.ann_rules.specs.Asks.{when, from_each, with_first, with_two, with_three, rest, paired, reach, defaults, asks, parts}
use Rattle.ann_rules.specs.Rules.{is_unfit, pieces_for, asked}
use Rattle.ann_tree.specs.Faults as fault
use Rattle.ann_tree.specs.Faults.{Flaw, OfConstant, OfFamily, fit, some_first, modifies, of_first, prebuilt_from, may_be_constant, methods_in, called, shows}
use Rattle.ann_lift.specs.Alike.{AreAlike}

module _ (p : Whole) (a b : Assignment) (alike : AreAlike p a b) where
  items_is : (s : ℕ) → asking.items_of p a s ≡ asking.items_of p b s
  items_is s = alike.items (leader a.same s) ∙ ap (λ t. at b (p.places.item (leader t s))) alike.same

  keys_is : (s : ℕ) → asking.keys_of p a s ≡ asking.keys_of p b s
  keys_is s = alike.keys (leader a.same s) ∙ ap (λ t. at b (p.places.key (leader t s))) alike.same

  to_items_is : (s : ℕ) (x : Shape) → asking.to_items p a s x ≡ asking.to_items p b s x
  to_items_is s x = ap (λ t. Up (p.places.item (leader t s)) (x ∷ []) ∷ []) alike.same

  to_keys_is : (s : ℕ) (x : Shape) → asking.to_keys p a s x ≡ asking.to_keys p b s x
  to_keys_is s x = ap (λ t. Up (p.places.key (leader t s)) (given (is_key x) x ∷ []) ∷ []) alike.same

  -- what is held goes to items
  held_to : (s : ℕ) (x y : Shape) → x ≡ y → asking.to_items p a s x ≡ asking.to_items p b s y
  held_to s x y e = to_items_is s x ∙ ap (asking.to_items p b s) e

  flow_is : (x : Shape) (site : ℕ) → asking.flow p a x site ≡ asking.flow p b x site
  flow_is (Lst s n) site = held_to site (asking.items_of p a s) (asking.items_of p b s) (items_is s)
  flow_is x site = refl

  look_up_is : (x y : Shape) → asking.look_up p a x y ≡ asking.look_up p b x y
  look_up_is (Dct s n) y = to_keys_is s y
  look_up_is (Lst s n) y = to_items_is s y
  look_up_is x y = refl

  look_up_key_is : (x y : Shape) → asking.look_up_key p a x y ≡ asking.look_up_key p b x y
  look_up_key_is (Dct s n) y = to_keys_is s y
  look_up_key_is x y = refl

  hold_is : (x y : Shape) → asking.hold p a x y ≡ asking.hold p b x y
  hold_is (Dct s n) y = to_items_is s y
  hold_is (Lst s n) y = to_items_is s y
  hold_is x y = refl

  -- ---- calls

  tie_is : (c d : ℕ) → at a c ≡ at b c → at a d ≡ at b d → asking.tie p a c d ≡ asking.tie p b c d
  tie_is c d x y = λ i. Up c (y i ∷ []) ∷ Up d (x i ∷ []) ∷ []

  tie_params_is : (f g i : ℕ) (ds es : List (Option Const)) → asking.tie_params p a f g i ds es ≡ asking.tie_params p b f g i ds es
  tie_params_is f g i [] es = refl
  tie_params_is f g i (d ∷ ds) [] = refl
  tie_params_is f g i (d ∷ ds) (e ∷ es) = λ j. tie_is (p.places.param f i) (p.places.param g i) (alike.params f i) (alike.params g i) j ++ tie_params_is f g (suc i) ds es j

  tie_two_is : (received : Bool) (f g : ℕ) → asking.tie_two p a received f g ≡ asking.tie_two p b received f g
  tie_two_is true f g = λ j. tie_params_is f g 1 (rest (defaults p f)) (rest (defaults p g)) j ++ tie_is (p.places.result f) (p.places.result g) (alike.results f) (alike.results g) j
  tie_two_is false f g = λ j. tie_params_is f g zero (defaults p f) (defaults p g) j ++ tie_is (p.places.result f) (p.places.result g) (alike.results f) (alike.results g) j

  tie_each_is : (received : Bool) (fs gs : List ℕ) → asking.tie_each p a received fs gs ≡ asking.tie_each p b received fs gs
  tie_each_is received fs gs = λ j. from_each (λ f. from_each (λ g. tie_two_is received f g j) gs) fs

  call_all_is : (fs : List ℕ) (xs : List Shape) → asking.call_all p a fs xs ≡ asking.call_all p b fs xs
  call_all_is fs xs = λ j. from_each (λ f. reach p f xs) fs ++ tie_each_is false fs fs j

  call_value_is : (x : Shape) (xs : List Shape) → asking.call_value p a x xs ≡ asking.call_value p b x xs
  call_value_is (Fun fs n) xs = call_all_is fs xs
  call_value_is x xs = refl

  -- ---- methods

  method_of_is : (d : ℕ) (name : List ℕ) (c : ℕ) → asking.method_of p a d name c ≡ asking.method_of p b d name c
  method_of_is d name c = ap (λ made. paired c (if made && line.is_below p.tables.classes c d then line.method p.tables.classes c name else None)) (alike.made c)

  methods_from_is : (d : ℕ) (name : List ℕ) (c n : ℕ) → asking.methods_from p a d name c n ≡ asking.methods_from p b d name c n
  methods_from_is d name c zero = refl
  methods_from_is d name c (suc n) = λ j. method_of_is d name c j ++ methods_from_is d name (suc c) n j

  methods_is : (d : ℕ) (name : List ℕ) → asking.methods p a d name ≡ asking.methods p b d name
  methods_is d name = methods_from_is d name zero (length p.tables.classes)

  call_methods_is : (found : List (ℕ × ℕ)) (xs : List Shape) → asking.call_methods p a found xs ≡ asking.call_methods p b found xs
  call_methods_is found xs = λ j. from_each (λ f. reach p f.1 (Inst f.0 false ∷ xs)) found ++ tie_each_is true (map (λ f. f.1) found) (map (λ f. f.1) found) j

  -- ---- the forms of operations

  sum_is : (o : BinOp) (site : Option ℕ) (x y : Shape) → asking.sum p a o site x y ≡ asking.sum p b o site x y
  sum_is bin.Add (Some site) x y = λ j. flow_is x site j ++ flow_is y site j
  sum_is o (Some site) x y = flow_is x site
  sum_is o None x y = refl

  extend_is : (x y : Shape) → asking.extend p a x y ≡ asking.extend p b x y
  extend_is (Lst s n) y = flow_is y s
  extend_is x y = refl

  compared_is : (o : CmpOp) (x y : Shape) → asking.compared p a o x y ≡ asking.compared p b o x y
  compared_is cmp.Within x y = look_up_is y x
  compared_is cmp.NotWithin x y = look_up_is y x
  compared_is o x y = refl

  walked_is : (site : ℕ) (x : Shape) → asking.walked p a site x ≡ asking.walked p b site x
  walked_is site (Dct s n) = held_to site (asking.keys_of p a s) (asking.keys_of p b s) (keys_is s)
  walked_is site x = refl

  list_asks_is : (n : Method) (s : ℕ) (xs : List Shape) → asking.list_asks p a n s xs ≡ asking.list_asks p b n s xs
  list_asks_is m.Append s (x ∷ []) = to_items_is s x
  list_asks_is m.Insert s (i ∷ x ∷ []) = to_items_is s x
  list_asks_is m.Extend s (x ∷ []) = flow_is x s
  list_asks_is n s xs = refl

  pairs_is : (site : ℕ) (k v : Shape) → asking.pairs p a site k v ≡ asking.pairs p b site k v
  pairs_is site k v = ap (when (not (is_nothing k || is_nothing v))) (to_items_is site (if_shallow (Tup (more k (more v end)))))

  listed_is : (n : Method) (s site : ℕ) → asking.listed p a n s site ≡ asking.listed p b n s site
  listed_is m.Keys s site = held_to site (asking.keys_of p a s) (asking.keys_of p b s) (keys_is s)
  listed_is m.Values s site = held_to site (asking.items_of p a s) (asking.items_of p b s) (items_is s)
  listed_is m.Items s site = pairs_is site (asking.keys_of p a s) (asking.items_of p a s) ∙ (λ j. asking.pairs p b site (keys_is s j) (items_is s j))
  listed_is n s site = refl

  dict_asks_is : (n : Method) (s : ℕ) (site : Option ℕ) (xs : List Shape) → asking.dict_asks p a n s site xs ≡ asking.dict_asks p b n s site xs
  dict_asks_is m.Get s site (key ∷ xs) = to_keys_is s key
  dict_asks_is n s (Some site) xs = listed_is n s site
  dict_asks_is n s None xs = refl

  split_asks_is : (n : Method) (site : Option ℕ) → asking.split_asks p a n site ≡ asking.split_asks p b n site
  split_asks_is m.Split (Some site) = to_items_is site (Str Any)
  split_asks_is n site = refl

  method_asks_is : (name : List ℕ) (site : Option ℕ) (x : Shape) (xs : List Shape) → asking.method_asks p a name site x xs ≡ asking.method_asks p b name site x xs
  method_asks_is name site (Inst c n) xs = ap (λ found. asking.call_methods p a found xs) (methods_is c name) ∙ call_methods_is (asking.methods p b c name) xs
  method_asks_is name site (Lst s n) xs = list_asks_is (method_named name) s xs
  method_asks_is name site (Dct s n) xs = dict_asks_is (method_named name) s site xs
  method_asks_is name site (Str w) xs = split_asks_is (method_named name) site
  method_asks_is name site x xs = refl

  pub asks_is : (o : RowOp) (xs : List Shape) → asks p a o xs ≡ asks p b o xs
  asks_is (op.Binary o site) xs = λ j. with_two (λ x y. sum_is o site x y j) xs
  asks_is op.AddTo xs = λ j. with_two (λ x y. extend_is x y j) xs
  asks_is (op.Slice s low high) xs = λ j. with_first (λ x ys. flow_is x s j) xs
  asks_is (op.AllButLast s) xs = λ j. with_first (λ x ys. flow_is x s j) xs
  asks_is (op.List s) xs = λ j. from_each (λ x. to_items_is s x j) xs
  asks_is (op.Compare o) xs = λ j. with_two (λ x y. compared_is o x y j) xs
  asks_is (op.Index literal) xs = λ j. with_two (λ x y. look_up_key_is x y j) xs
  asks_is op.DeleteIndex xs = λ j. with_two (λ x y. look_up_key_is x y j) xs
  asks_is op.StoreIndex xs = λ j. with_three (λ x i y. look_up_key_is x i j ++ hold_is x y j) xs
  asks_is (op.StoreAttr name) xs = refl
  asks_is op.AddItem xs = λ j. with_two (λ x y. hold_is x y j) xs
  asks_is (op.Walk s) xs = λ j. with_first (λ x ys. walked_is s x j) xs
  asks_is (op.Constant c) xs = refl
  asks_is (op.Call f) xs = call_all_is (f ∷ []) xs
  asks_is (op.CallOf c f) xs = call_all_is (f ∷ []) xs
  asks_is op.CallValue xs = λ j. with_first (λ x ys. call_value_is x ys j) xs
  asks_is (op.New c) xs = refl
  asks_is (op.Method name site) xs = λ j. with_first (λ x ys. method_asks_is name site x ys j) xs
  asks_is o xs = refl

  -- ---- the further parts of a row

  held_is : (x : Shape) → asking.held p a x ≡ asking.held p b x
  held_is (Lst s n) = ap (λ x. x ∷ []) (items_is s)
  held_is (Dct s n) = ap (λ x. x ∷ []) (items_is s)
  held_is x = refl

  first_held_is : (xs : List Shape) → asking.first_held p a xs ≡ asking.first_held p b xs
  first_held_is [] = refl
  first_held_is (x ∷ xs) = held_is x

  second_held_is : (xs : List Shape) → asking.second_held p a xs ≡ asking.second_held p b xs
  second_held_is [] = refl
  second_held_is (x ∷ xs) = first_held_is xs

  attribute_at_is : (c : Option ℕ) (name : List ℕ) → asking.attribute_at p a c name ≡ asking.attribute_at p b c name
  attribute_at_is None name = refl
  attribute_at_is (Some c) name = ap (λ x. x ∷ []) (alike.attributes c name)

  first_attribute_is : (name : List ℕ) (xs : List Shape) → asking.first_attribute p a name xs ≡ asking.first_attribute p b name xs
  first_attribute_is name [] = refl
  first_attribute_is name (Inst c n ∷ xs) = attribute_at_is (home p.tables c name) name
  first_attribute_is name (x ∷ xs) = refl

  results_are : (fs : List ℕ) → asking.results p a fs ≡ asking.results p b fs
  results_are fs = λ j. map (λ f. alike.results f j) fs

  first_results_are : (xs : List Shape) → asking.first_results p a xs ≡ asking.first_results p b xs
  first_results_are [] = refl
  first_results_are (Fun fs n ∷ xs) = results_are fs
  first_results_are (x ∷ xs) = refl

  compare_parts_are : (o : CmpOp) (xs : List Shape) → asking.compare_parts p a o xs ≡ asking.compare_parts p b o xs
  compare_parts_are cmp.Within xs = second_held_is xs
  compare_parts_are cmp.NotWithin xs = second_held_is xs
  compare_parts_are o xs = refl

  method_parts_are : (name : List ℕ) (xs : List Shape) → asking.method_parts p a name xs ≡ asking.method_parts p b name xs
  method_parts_are name [] = refl
  method_parts_are name (Inst c n ∷ xs) = ap (λ found. asking.results p a (map (λ f. f.1) found)) (methods_is c name) ∙ results_are (map (λ f. f.1) (asking.methods p b c name))
  method_parts_are name (Lst s n ∷ xs) = ap (λ x. x ∷ []) (items_is s)
  method_parts_are name (Dct s n ∷ xs) = ap (λ x. x ∷ []) (items_is s)
  method_parts_are name (Str w ∷ xs) = first_held_is xs
  method_parts_are name (x ∷ xs) = refl

  parts_are : (o : RowOp) (xs : List Shape) → parts p a o xs ≡ parts p b o xs
  parts_are (op.Index literal) xs = first_held_is xs
  parts_are (op.Item None) xs = first_held_is xs
  parts_are (op.Compare o) xs = compare_parts_are o xs
  parts_are (op.Attr name) xs = first_attribute_is name xs
  parts_are (op.Call f) xs = results_are (f ∷ [])
  parts_are (op.CallOf c f) xs = results_are (f ∷ [])
  parts_are op.CallValue xs = first_results_are xs
  parts_are (op.Method name site) xs = method_parts_are name xs
  parts_are o xs = refl

  pub asked_is : (f : ℕ) (o : RowOp) (xs : List Shape) (node : ℕ) → asked p a f o xs node ≡ asked p b f o xs node
  asked_is f o xs node = ap (λ qs. if is_unfit p a f o xs node then misfit ∷ [] else pieces_for p a f o xs (Nothing ∷ qs)) (parts_are o xs)

  -- ---- the flaws that operations show

  prebuilt_is : (s n : ℕ) (sites : List Site) → prebuilt_from p a s n sites ≡ prebuilt_from p b s n sites
  prebuilt_is s n [] = refl
  prebuilt_is s n (site ∷ sites) = λ j. (is_some site.prebuilt && (leader (alike.same j) n == leader (alike.same j) s)) || prebuilt_is s (suc n) sites j

  constant_is : (x : Shape) → may_be_constant p a x ≡ may_be_constant p b x
  constant_is (Lst s n) = prebuilt_is s 0 p.sites
  constant_is (Dct s n) = prebuilt_is s 0 p.sites
  constant_is _ = refl

  first_constant_is : (xs : List Shape) → some_first (may_be_constant p a) xs ≡ some_first (may_be_constant p b) xs
  first_constant_is [] = refl
  first_constant_is (x ∷ xs) = constant_is x

  methods_in_is : (name : List ℕ) (x : Shape) → methods_in p a name x ≡ methods_in p b name x
  methods_in_is name (Inst c n) = ap (λ found. map (λ f. f.1) found) (methods_is c name)
  methods_in_is name _ = refl

  first_methods_are : (name : List ℕ) (xs : List Shape) → of_first (methods_in p a name) xs ≡ of_first (methods_in p b name) xs
  first_methods_are name [] = refl
  first_methods_are name (x ∷ xs) = methods_in_is name x

  called_is : (o : RowOp) (xs : List Shape) → called p a o xs ≡ called p b o xs
  called_is (op.Method name site) xs = first_methods_are name xs
  called_is _ xs = refl

  pub shows_is : (flaw : Flaw) (value : Bool) (o : RowOp) (xs : List Shape) → shows p a flaw value o xs ≡ shows p b flaw value o xs
  shows_is OfConstant value o xs = ap (λ c. modifies value o xs && c) (first_constant_is xs)
  shows_is OfFamily value o xs = ap (λ fs. not (fit p.callees fs (fault.given o xs))) (called_is o xs)
