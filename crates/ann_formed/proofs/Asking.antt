-- What operations ask of the parts of a program is well-formed.
use Rattle.std.proofs.Common.{◌≡◌, ℕ, zero, suc, Bool, true, false, List, [], ◌∷◌, ◌++◌, map, Option, Some, None, refl, sym, ap, ◌∙◌, subst}
use Rattle.std.specs.Prelude.{◌&&◌, ◌||◌, not}
use Rattle.rpy_tree.specs.declared.program.Const.{Const, fold-roll-Const, map-Const, ind-Const}
use Rattle.rpy_tree.specs.declared.program.Const.TheOpen.{Const-F}
use Rattle.rpy_tree.specs.declared.syntax.BinOp.{BinOp}
use Rattle.rpy_tree.specs.declared.syntax.BinOp.TheVariants as bin
use Rattle.rpy_tree.specs.declared.syntax.CmpOp.{CmpOp}
use Rattle.rpy_tree.specs.declared.syntax.CmpOp.TheVariants as cmp
use Rattle.rpy_meaning.specs.declared.row.RowOp.{RowOp}
use Rattle.rpy_meaning.specs.declared.row.RowOp.TheVariants as op
use Rattle.class_desc.specs.Line as line
use Rattle.class_desc.specs.Tables.{home, initial}
use Rattle.class_desc.specs.declared.classes.Initial.{Initial}
use Rattle.ann_element.specs.Sites.{leader}
use Rattle.ann_lattice.specs.declared.method.Method.{Method}
use Rattle.ann_lattice.specs.declared.method.Method.TheVariants as m
use Rattle.ann_lattice.specs.Shape.{Any, Shape, Str, Tup, Lst, Dct, Inst, Fun, end, more}
use Rattle.ann_lattice.specs.Join.{is_clash}
use Rattle.ann_lattice.specs.Laws.{IsFormed, is_sound}
use Rattle.ann_lattice.specs.Order.{is_key}
use Rattle.ann_lattice.specs.Assign.{Assignment, Need, Up}
use Rattle.ann_lattice.specs.Kind.{is_nothing}
use Rattle.ann_lattice.specs.Methods.{method_named}
use Rattle.ann_lattice.specs.Row.{constant, if_shallow}
use Rattle.ann_rules.specs.Program.{Whole}
use Rattle.ann_rules.specs.Asks as asking
use Rattle.ann_rules.specs.Asks.{when, from_each, with_first, with_two, with_three, rest, reach, make, loads, loads_step, defaults, asks, parts}
use Rattle.ann_formed.specs.Formed.{AllFormed, AreFormedNeeds, AreFormedCells}
use Rattle.ann_formed.proofs.Rowing.{flat, given_formed, if_shallow_formed, constant_formed}

pub append_well : (ms ns : List Need) → AreFormedNeeds ms → AreFormedNeeds ns → AreFormedNeeds (ms ++ ns)
append_well [] ns g h = h
append_well (n ∷ ms) ns g h = (g.0, append_well ms ns g.1 h)

pub when_well : (b : Bool) (ns : List Need) → AreFormedNeeds ns → AreFormedNeeds (when b ns)
when_well true ns h = h
when_well false ns h = tt

pub each_well : {A : Type 0} → (f : A → List Need) → ((x : A) → AreFormedNeeds (f x)) → (xs : List A) → AreFormedNeeds (from_each f xs)
each_well f h [] = tt
each_well f h (x ∷ xs) = append_well (f x) (from_each f xs) (h x) (each_well f h xs)

rest_formed : (xs : List Shape) → AllFormed xs → AllFormed (rest xs)
rest_formed [] h = tt
rest_formed (x ∷ xs) h = h.1

module _ (p : Whole) where
  -- ---- constants

  abbrev Loads : Const → Type 0
  Loads c = AreFormedNeeds (loads p c)

  loads_parts : (ys : List ((c : Const) × Loads c)) → AreFormedNeeds (from_each (λ needs. needs) (map (loads p) (map (λ q. q.0) ys)))
  loads_parts [] = tt
  loads_parts (y ∷ ys) = append_well (loads p y.0) (from_each (λ needs. needs) (map (loads p) (map (λ q. q.0) ys))) y.1 (loads_parts ys)

  loads_of : (y : Const-F ((c : Const) × Loads c)) → AreFormedNeeds (loads_step p (map-Const Const (List Need) (loads p) (map-Const ((c : Const) × Loads c) Const (λ q. q.0) y)))
  loads_of (Const-F.Word z) = tt
  loads_of (Const-F.Bool b) = tt
  loads_of (Const-F.Str t) = tt
  loads_of Const-F.None = tt
  loads_of (Const-F.Function f) = tt
  loads_of (Const-F.Tuple ys) = loads_parts ys
  loads_of (Const-F.List s) = (tt, tt)
  loads_of (Const-F.Dict s) = (tt, tt)

  pub loads_well : (c : Const) → AreFormedNeeds (loads p c)
  loads_well = ind-Const Loads (λ x y is. subst AreFormedNeeds (sym (fold-roll-Const (List Need) (loads_step p) x)) (subst (λ z. AreFormedNeeds (loads_step p (map-Const Const (List Need) (loads p) z))) is (loads_of y)))

  -- ---- calls

  argument_well : (f i : ℕ) (d : Option Const) (xs : List Shape) → AllFormed xs → AreFormedNeeds (asking.argument p f i d xs)
  argument_well f i d (x ∷ xs) h = ((h.0, tt), tt)
  argument_well f i (Some c) [] h = append_well (loads p c) (Up (p.places.param f i) (constant c ∷ []) ∷ []) (loads_well c) ((constant_formed c, tt), tt)
  argument_well f i None [] h = tt

  arguments_well : (f i : ℕ) (ds : List (Option Const)) (xs : List Shape) → AllFormed xs → AreFormedNeeds (asking.arguments p f i ds xs)
  arguments_well f i [] xs h = tt
  arguments_well f i (d ∷ ds) xs h =
      append_well (asking.argument p f i d xs) (asking.arguments p f (suc i) ds (rest xs)) (argument_well f i d xs h) (arguments_well f (suc i) ds (rest xs) (rest_formed xs h))

  reach_well : (f : ℕ) (xs : List Shape) → AllFormed xs → AreFormedNeeds (reach p f xs)
  reach_well f xs h = (tt, arguments_well f zero (defaults p f) xs h)

  initial_well : (i : Initial) → AreFormedNeeds (asking.initial_needs p i)
  initial_well i = append_well (loads p i.value) (Up (p.places.attribute i.home i.name) (constant i.value ∷ []) ∷ []) (loads_well i.value) ((constant_formed i.value, tt), tt)

  start_with_well : (c : ℕ) (f : Option ℕ) (xs : List Shape) → AllFormed xs → AreFormedNeeds (asking.start_with p c f xs)
  start_with_well c None xs h = tt
  start_with_well c (Some f) xs h = reach_well f (Inst c false ∷ xs) (flat refl refl, h)

  make_well : (c : ℕ) (xs : List Shape) → AllFormed xs → AreFormedNeeds (make p c xs)
  make_well c xs h = (
    tt,
    append_well (from_each (asking.initial_needs p) (initial p.tables c)) (asking.start_with p c (line.init p.tables.classes c) xs) (each_well (asking.initial_needs p) initial_well (initial p.tables c))
        (start_with_well c (line.init p.tables.classes c) xs h),
  )

module _ (p : Whole) (w : Assignment) (formed : AreFormedCells p w) where
  -- ---- items and keys

  items_formed : (s : ℕ) → IsFormed (asking.items_of p w s)
  items_formed s = formed.cells (p.places.item (leader w.same s))

  keys_formed : (s : ℕ) → IsFormed (asking.keys_of p w s)
  keys_formed s = formed.cells (p.places.key (leader w.same s))

  pub to_items_well : (s : ℕ) (x : Shape) → IsFormed x → AreFormedNeeds (asking.to_items p w s x)
  to_items_well s x f = ((f, tt), tt)

  pub to_keys_well : (s : ℕ) (x : Shape) → IsFormed x → AreFormedNeeds (asking.to_keys p w s x)
  to_keys_well s x f = ((given_formed (is_key x) x f, tt), tt)

  flow_well : (x : Shape) (site : ℕ) → AreFormedNeeds (asking.flow p w x site)
  flow_well (Lst s n) site = to_items_well site (asking.items_of p w s) (items_formed s)
  flow_well x site = tt

  look_up_well : (x y : Shape) → IsFormed y → AreFormedNeeds (asking.look_up p w x y)
  look_up_well (Dct s n) y f = to_keys_well s y f
  look_up_well (Lst s n) y f = to_items_well s y f
  look_up_well x y f = tt

  look_up_key_well : (x y : Shape) → IsFormed y → AreFormedNeeds (asking.look_up_key p w x y)
  look_up_key_well (Dct s n) y f = to_keys_well s y f
  look_up_key_well x y f = tt

  hold_well : (x y : Shape) → IsFormed y → AreFormedNeeds (asking.hold p w x y)
  hold_well (Dct s n) y f = to_items_well s y f
  hold_well (Lst s n) y f = to_items_well s y f
  hold_well x y f = tt

  -- ---- calls

  pub tie_well : (c d : ℕ) → AreFormedNeeds (asking.tie p w c d)
  tie_well c d = ((formed.cells d, tt), ((formed.cells c, tt), tt))

  tie_params_well : (f g i : ℕ) (ds es : List (Option Const)) → AreFormedNeeds (asking.tie_params p w f g i ds es)
  tie_params_well f g i [] es = tt
  tie_params_well f g i (d ∷ ds) [] = tt
  tie_params_well f g i (d ∷ ds) (e ∷ es) =
      append_well (asking.tie p w (p.places.param f i) (p.places.param g i)) (asking.tie_params p w f g (suc i) ds es) (tie_well (p.places.param f i) (p.places.param g i)) (tie_params_well f g (suc i) ds es)

  tie_two_well : (received : Bool) (f g : ℕ) → AreFormedNeeds (asking.tie_two p w received f g)
  tie_two_well true f g =
      append_well (asking.tie_params p w f g 1 (rest (defaults p f)) (rest (defaults p g))) (asking.tie p w (p.places.result f) (p.places.result g)) (tie_params_well f g 1 (rest (defaults p f)) (rest (defaults p g)))
      (tie_well (p.places.result f) (p.places.result g))
  tie_two_well false f g =
      append_well (asking.tie_params p w f g zero (defaults p f) (defaults p g)) (asking.tie p w (p.places.result f) (p.places.result g)) (tie_params_well f g zero (defaults p f) (defaults p g))
      (tie_well (p.places.result f) (p.places.result g))

  tie_each_well : (received : Bool) (fs gs : List ℕ) → AreFormedNeeds (asking.tie_each p w received fs gs)
  tie_each_well received fs gs = each_well (λ f. from_each (asking.tie_two p w received f) gs) (λ f. each_well (asking.tie_two p w received f) (tie_two_well received f) gs) fs

  call_all_well : (fs : List ℕ) (xs : List Shape) → AllFormed xs → AreFormedNeeds (asking.call_all p w fs xs)
  call_all_well fs xs h = append_well (from_each (λ f. reach p f xs) fs) (asking.tie_each p w false fs fs) (each_well (λ f. reach p f xs) (λ f. reach_well p f xs h) fs) (tie_each_well false fs fs)

  call_value_well : (x : Shape) (xs : List Shape) → AllFormed xs → AreFormedNeeds (asking.call_value p w x xs)
  call_value_well (Fun fs n) xs h = call_all_well fs xs h
  call_value_well x xs h = tt

  call_methods_well : (found : List (ℕ × ℕ)) (xs : List Shape) → AllFormed xs → AreFormedNeeds (asking.call_methods p w found xs)
  call_methods_well found xs h =
      append_well (from_each (λ f. reach p f.1 (Inst f.0 false ∷ xs)) found) (asking.tie_each p w true (map (λ f. f.1) found) (map (λ f. f.1) found))
      (each_well (λ f. reach p f.1 (Inst f.0 false ∷ xs)) (λ f. reach_well p f.1 (Inst f.0 false ∷ xs) (flat refl refl, h)) found)
      (tie_each_well true (map (λ f. f.1) found) (map (λ f. f.1) found))

  -- ---- the forms of operations

  sum_well : (o : BinOp) (site : Option ℕ) (x y : Shape) → AreFormedNeeds (asking.sum p w o site x y)
  sum_well bin.Add (Some site) x y = append_well (asking.flow p w x site) (asking.flow p w y site) (flow_well x site) (flow_well y site)
  sum_well o (Some site) x y = flow_well x site
  sum_well o None x y = tt

  extend_well : (x y : Shape) → AreFormedNeeds (asking.extend p w x y)
  extend_well (Lst s n) y = flow_well y s
  extend_well x y = tt

  compared_well : (o : CmpOp) (x y : Shape) → IsFormed x → AreFormedNeeds (asking.compared p w o x y)
  compared_well cmp.Within x y f = look_up_well y x f
  compared_well cmp.NotWithin x y f = look_up_well y x f
  compared_well o x y f = tt

  to_attribute_well : (c : Option ℕ) (name : List ℕ) (x : Shape) → IsFormed x → AreFormedNeeds (asking.to_attribute p w c name x)
  to_attribute_well None name x f = tt
  to_attribute_well (Some c) name x f = ((f, tt), tt)

  store_well : (name : List ℕ) (x y : Shape) → IsFormed y → AreFormedNeeds (asking.store p w name x y)
  store_well name (Inst c n) y f = to_attribute_well (home p.tables c name) name y f
  store_well name x y f = tt

  walked_well : (site : ℕ) (x : Shape) → AreFormedNeeds (asking.walked p w site x)
  walked_well site (Dct s n) = to_items_well site (asking.keys_of p w s) (keys_formed s)
  walked_well site x = tt

  list_asks_well : (n : Method) (s : ℕ) (xs : List Shape) → AllFormed xs → AreFormedNeeds (asking.list_asks p w n s xs)
  list_asks_well m.Append s (x ∷ []) h = to_items_well s x h.0
  list_asks_well m.Insert s (i ∷ x ∷ []) h = to_items_well s x h.1.0
  list_asks_well m.Extend s (x ∷ []) h = flow_well x s
  list_asks_well n s xs h = tt

  pair_sound : (a b c d : Bool) → a ≡ false → b ≡ false → c ≡ true → d ≡ true → ((not a && (not b && true)) && (c && (d && true))) ≡ true
  pair_sound a b c d e f g h = ap (λ a. (not a && (not b && true)) && (c && (d && true))) e ∙ ap (λ b. (true && (not b && true)) && (c && (d && true))) f ∙ ap (λ c. c && (d && true)) g ∙ ap (λ d. d && true) h

  pairs_well : (site s : ℕ) → AreFormedNeeds (asking.pairs p w site (asking.keys_of p w s) (asking.items_of p w s))
  pairs_well site s =
      let k : Shape = asking.keys_of p w s in
      let x : Shape = asking.items_of p w s in
      let pair : Shape = if_shallow (Tup (more k (more x end))) in
      when_well (not (is_nothing k || is_nothing x)) (asking.to_items p w site pair)
      (to_items_well site pair
      (if_shallow_formed (Tup (more k (more x end)))
      (pair_sound (is_clash k) (is_clash x) (is_sound k) (is_sound x) (formed.keys (leader w.same s)) (formed.items (leader w.same s)) (keys_formed s).sound (items_formed s).sound)))

  listed_well : (n : Method) (s site : ℕ) → AreFormedNeeds (asking.listed p w n s site)
  listed_well m.Keys s site = to_items_well site (asking.keys_of p w s) (keys_formed s)
  listed_well m.Values s site = to_items_well site (asking.items_of p w s) (items_formed s)
  listed_well m.Items s site = pairs_well site s
  listed_well n s site = tt

  dict_asks_well : (n : Method) (s : ℕ) (site : Option ℕ) (xs : List Shape) → AllFormed xs → AreFormedNeeds (asking.dict_asks p w n s site xs)
  dict_asks_well m.Get s site (key ∷ xs) h = to_keys_well s key h.0
  dict_asks_well n s (Some site) xs h = listed_well n s site
  dict_asks_well n s None xs h = tt

  split_asks_well : (n : Method) (site : Option ℕ) → AreFormedNeeds (asking.split_asks p w n site)
  split_asks_well m.Split (Some site) = to_items_well site (Str Any) (flat refl refl)
  split_asks_well n site = tt

  method_asks_well : (name : List ℕ) (site : Option ℕ) (x : Shape) (xs : List Shape) → AllFormed xs → AreFormedNeeds (asking.method_asks p w name site x xs)
  method_asks_well name site (Inst c n) xs h = call_methods_well (asking.methods p w c name) xs h
  method_asks_well name site (Lst s n) xs h = list_asks_well (method_named name) s xs h
  method_asks_well name site (Dct s n) xs h = dict_asks_well (method_named name) s site xs h
  method_asks_well name site (Str width) xs h = split_asks_well (method_named name) site
  method_asks_well name site x xs h = tt

  first_well : (f : Shape → List Shape → List Need) → ((x : Shape) (xs : List Shape) → AllFormed xs → AreFormedNeeds (f x xs)) → (xs : List Shape) → AllFormed xs → AreFormedNeeds (with_first f xs)
  first_well f g [] h = tt
  first_well f g (x ∷ xs) h = g x xs h.1

  two_well : (f : Shape → Shape → List Need) → ((x y : Shape) → IsFormed x → IsFormed y → AreFormedNeeds (f x y)) → (xs : List Shape) → AllFormed xs → AreFormedNeeds (with_two f xs)
  two_well f g [] h = tt
  two_well f g (x ∷ []) h = tt
  two_well f g (x ∷ y ∷ []) h = g x y h.0 h.1.0
  two_well f g (x ∷ y ∷ z ∷ xs) h = tt

  three_well : (f : Shape → Shape → Shape → List Need) → ((x y z : Shape) → IsFormed y → IsFormed z → AreFormedNeeds (f x y z)) → (xs : List Shape) → AllFormed xs → AreFormedNeeds (with_three f xs)
  three_well f g [] h = tt
  three_well f g (x ∷ []) h = tt
  three_well f g (x ∷ y ∷ []) h = tt
  three_well f g (x ∷ y ∷ z ∷ []) h = g x y z h.1.0 h.1.1.0
  three_well f g (x ∷ y ∷ z ∷ u ∷ xs) h = tt

  all_items_well : (s : ℕ) (xs : List Shape) → AllFormed xs → AreFormedNeeds (from_each (asking.to_items p w s) xs)
  all_items_well s [] h = tt
  all_items_well s (x ∷ xs) h = append_well (asking.to_items p w s x) (from_each (asking.to_items p w s) xs) (to_items_well s x h.0) (all_items_well s xs h.1)

  pub asks_well : (o : RowOp) (xs : List Shape) → AllFormed xs → AreFormedNeeds (asks p w o xs)
  asks_well (op.Binary o site) xs h = two_well (asking.sum p w o site) (λ x y f g. sum_well o site x y) xs h
  asks_well op.AddTo xs h = two_well (asking.extend p w) (λ x y f g. extend_well x y) xs h
  asks_well (op.Slice s low high) xs h = first_well (λ x ys. asking.flow p w x s) (λ x ys g. flow_well x s) xs h
  asks_well (op.AllButLast s) xs h = first_well (λ x ys. asking.flow p w x s) (λ x ys g. flow_well x s) xs h
  asks_well (op.List s) xs h = all_items_well s xs h
  asks_well (op.Compare o) xs h = two_well (asking.compared p w o) (λ x y f g. compared_well o x y f) xs h
  asks_well (op.Index literal) xs h = two_well (asking.look_up_key p w) (λ x y f g. look_up_key_well x y g) xs h
  asks_well op.DeleteIndex xs h = two_well (asking.look_up_key p w) (λ x y f g. look_up_key_well x y g) xs h
  asks_well op.StoreIndex xs h =
      three_well (λ x i y. asking.look_up_key p w x i ++ asking.hold p w x y) (λ x i y f g. append_well (asking.look_up_key p w x i) (asking.hold p w x y) (look_up_key_well x i f) (hold_well x y g)) xs h
  asks_well (op.StoreAttr name) xs h = two_well (asking.store p w name) (λ x y f g. store_well name x y g) xs h
  asks_well op.AddItem xs h = two_well (asking.hold p w) (λ x y f g. hold_well x y g) xs h
  asks_well (op.Walk s) xs h = first_well (λ x ys. asking.walked p w s x) (λ x ys g. walked_well s x) xs h
  asks_well (op.Constant c) xs h = loads_well p c
  asks_well (op.Call f) xs h = call_all_well (f ∷ []) xs h
  asks_well (op.CallOf c f) xs h = call_all_well (f ∷ []) xs h
  asks_well op.CallValue xs h = first_well (asking.call_value p w) call_value_well xs h
  asks_well (op.New c) xs h = make_well p c xs h
  asks_well (op.Method name site) xs h = first_well (asking.method_asks p w name site) (method_asks_well name site) xs h
  asks_well o xs h = tt

  -- ---- the further parts

  held_formed : (x : Shape) → AllFormed (asking.held p w x)
  held_formed (Lst s n) = (items_formed s, tt)
  held_formed (Dct s n) = (items_formed s, tt)
  held_formed x = tt

  attribute_at_formed : (c : Option ℕ) (name : List ℕ) → AllFormed (asking.attribute_at p w c name)
  attribute_at_formed None name = tt
  attribute_at_formed (Some c) name = (formed.cells (p.places.attribute c name), tt)

  first_attribute_formed : (name : List ℕ) (xs : List Shape) → AllFormed (asking.first_attribute p w name xs)
  first_attribute_formed name [] = tt
  first_attribute_formed name (Inst c n ∷ xs) = attribute_at_formed (home p.tables c name) name
  first_attribute_formed name (x ∷ xs) = tt

  results_formed : (fs : List ℕ) → AllFormed (asking.results p w fs)
  results_formed [] = tt
  results_formed (f ∷ fs) = (formed.cells (p.places.result f), results_formed fs)

  first_results_formed : (xs : List Shape) → AllFormed (asking.first_results p w xs)
  first_results_formed [] = tt
  first_results_formed (Fun fs n ∷ xs) = results_formed fs
  first_results_formed (x ∷ xs) = tt

  first_held_formed : (xs : List Shape) → AllFormed (asking.first_held p w xs)
  first_held_formed [] = tt
  first_held_formed (x ∷ xs) = held_formed x

  second_held_formed : (xs : List Shape) → AllFormed (asking.second_held p w xs)
  second_held_formed [] = tt
  second_held_formed (x ∷ xs) = first_held_formed xs

  compare_parts_formed : (o : CmpOp) (xs : List Shape) → AllFormed (asking.compare_parts p w o xs)
  compare_parts_formed cmp.Within xs = second_held_formed xs
  compare_parts_formed cmp.NotWithin xs = second_held_formed xs
  compare_parts_formed o xs = tt

  method_parts_formed : (name : List ℕ) (xs : List Shape) → AllFormed (asking.method_parts p w name xs)
  method_parts_formed name [] = tt
  method_parts_formed name (Inst c n ∷ xs) = results_formed (map (λ f. f.1) (asking.methods p w c name))
  method_parts_formed name (Lst s n ∷ xs) = (items_formed s, tt)
  method_parts_formed name (Dct s n ∷ xs) = (items_formed s, tt)
  method_parts_formed name (Str width ∷ xs) = first_held_formed xs
  method_parts_formed name (x ∷ xs) = tt

  pub parts_formed : (o : RowOp) (xs : List Shape) → AllFormed (parts p w o xs)
  parts_formed (op.Index literal) xs = first_held_formed xs
  parts_formed (op.Item None) xs = first_held_formed xs
  parts_formed (op.Compare o) xs = compare_parts_formed o xs
  parts_formed (op.Attr name) xs = first_attribute_formed name xs
  parts_formed (op.Call f) xs = results_formed (f ∷ [])
  parts_formed (op.CallOf c f) xs = results_formed (f ∷ [])
  parts_formed op.CallValue xs = first_results_formed xs
  parts_formed (op.Method name site) xs = method_parts_formed name xs
  parts_formed o xs = tt
