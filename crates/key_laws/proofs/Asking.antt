-- What operations ask puts elements of keys into cells of keys.
use Rattle.std.proofs.Common.{◌≡◌, ℕ, zero, suc, Bool, true, false, List, [], ◌∷◌, ◌++◌, map, Option, Some, None, refl, sym, subst}
use Rattle.std.specs.Prelude.{◌||◌, not}
use Rattle.rpy_tree.specs.declared.program.Const.{Const, fold-roll-Const, map-Const, ind-Const}
use Rattle.rpy_tree.specs.declared.program.Const.TheOpen.{Const-F}
use Rattle.rpy_tree.specs.declared.syntax.BinOp.{BinOp}
use Rattle.rpy_tree.specs.declared.syntax.BinOp.TheVariants as bin
use Rattle.rpy_tree.specs.declared.syntax.CmpOp.{CmpOp}
use Rattle.rpy_tree.specs.declared.syntax.CmpOp.TheVariants as cmp
use Rattle.rpy_meaning.specs.declared.row.RowOp.{RowOp}
use Rattle.rpy_meaning.specs.declared.row.RowOp.TheVariants as op
use Rattle.class_desc.specs.Line as line
use Rattle.class_desc.specs.Tables.{home, initial}
use Rattle.class_desc.specs.declared.classes.Initial.{Initial}
use Rattle.ann_element.specs.Sites.{leader}
use Rattle.ann_lattice.specs.declared.method.Method.{Method}
use Rattle.ann_lattice.specs.declared.method.Method.TheVariants as m
use Rattle.ann_lattice.specs.Shape.{Any, Shape, Str, Tup, Lst, Dct, Inst, Fun, end, more}
use Rattle.ann_lattice.specs.Order.{is_key}
use Rattle.ann_lattice.specs.Assign.{Assignment, Need, Up, Set}
use Rattle.ann_lattice.specs.Kind.{is_nothing}
use Rattle.ann_lattice.specs.Methods.{method_named}
use Rattle.ann_lattice.specs.Row.{constant, if_shallow}
use Rattle.ann_rules.specs.Program.{Whole}
use Rattle.ann_rules.specs.Asks as asking
use Rattle.ann_rules.specs.Asks.{when, from_each, with_first, with_two, with_three, rest, reach, make, loads, loads_step, defaults, asks}
use Rattle.key_laws.proofs.Joining.{is_keyish, given_keyish}
use Rattle.key_laws.proofs.Apart.{AreApart}

abbrev pub AllKeyish : List Shape → Type 0
AllKeyish [] = Unit {0}
AllKeyish (x ∷ xs) = (is_keyish x ≡ true) × AllKeyish xs

-- what is asked of a cell of keys is of keys, or in conflict
abbrev pub IsFine : (ℕ → Type 0) → Need → Type 0
IsFine Key (Up c es) = Key c → AllKeyish es
IsFine Key (Set mark) = Unit {0}

abbrev pub AreFine : (ℕ → Type 0) → List Need → Type 0
AreFine Key [] = Unit {0}
AreFine Key (n ∷ ns) = IsFine Key n × AreFine Key ns

module _ (Key : ℕ → Type 0) where
  pub append_fine : (ms ns : List Need) → AreFine Key ms → AreFine Key ns → AreFine Key (ms ++ ns)
  append_fine [] ns g h = h
  append_fine (n ∷ ms) ns g h = (g.0, append_fine ms ns g.1 h)

  pub when_fine : (b : Bool) (ns : List Need) → AreFine Key ns → AreFine Key (when b ns)
  when_fine true ns h = h
  when_fine false ns h = tt

  pub each_fine : {A : Type 0} → (f : A → List Need) → ((x : A) → AreFine Key (f x)) → (xs : List A) → AreFine Key (from_each f xs)
  each_fine f h [] = tt
  each_fine f h (x ∷ xs) = append_fine (f x) (from_each f xs) (h x) (each_fine f h xs)

  module _ (p : Whole) (apart : AreApart p Key) where
    -- ---- constants

    abbrev Loads : Const → Type 0
    Loads c = AreFine Key (loads p c)

    loads_parts : (ys : List ((c : Const) × Loads c)) → AreFine Key (from_each (λ needs. needs) (map (loads p) (map (λ q. q.0) ys)))
    loads_parts [] = tt
    loads_parts (y ∷ ys) = append_fine (loads p y.0) (from_each (λ needs. needs) (map (loads p) (map (λ q. q.0) ys))) y.1 (loads_parts ys)

    loads_of : (y : Const-F ((c : Const) × Loads c)) → AreFine Key (loads_step p (map-Const Const (List Need) (loads p) (map-Const ((c : Const) × Loads c) Const (λ q. q.0) y)))
    loads_of (Const-F.Word z) = tt
    loads_of (Const-F.Bool b) = tt
    loads_of (Const-F.Str t) = tt
    loads_of Const-F.None = tt
    loads_of (Const-F.Function f) = tt
    loads_of (Const-F.Tuple ys) = loads_parts ys
    loads_of (Const-F.List s) = (tt, tt)
    loads_of (Const-F.Dict s) = (tt, tt)

    pub loads_fine : (c : Const) → AreFine Key (loads p c)
    loads_fine = ind-Const Loads (λ x y is. subst (AreFine Key) (sym (fold-roll-Const (List Need) (loads_step p) x)) (subst (λ z. AreFine Key (loads_step p (map-Const Const (List Need) (loads p) z))) is (loads_of y)))

    -- ---- calls

    argument_fine : (f i : ℕ) (d : Option Const) (xs : List Shape) → AreFine Key (asking.argument p f i d xs)
    argument_fine f i d (x ∷ xs) = (λ k. absurd (apart.param f i k), tt)
    argument_fine f i (Some c) [] = append_fine (loads p c) (Up (p.places.param f i) (constant c ∷ []) ∷ []) (loads_fine c) (λ k. absurd (apart.param f i k), tt)
    argument_fine f i None [] = tt

    arguments_fine : (f i : ℕ) (ds : List (Option Const)) (xs : List Shape) → AreFine Key (asking.arguments p f i ds xs)
    arguments_fine f i [] xs = tt
    arguments_fine f i (d ∷ ds) xs = append_fine (asking.argument p f i d xs) (asking.arguments p f (suc i) ds (rest xs)) (argument_fine f i d xs) (arguments_fine f (suc i) ds (rest xs))

    reach_fine : (f : ℕ) (xs : List Shape) → AreFine Key (reach p f xs)
    reach_fine f xs = (tt, arguments_fine f zero (defaults p f) xs)

    initial_fine : (i : Initial) → AreFine Key (asking.initial_needs p i)
    initial_fine i = append_fine (loads p i.value) (Up (p.places.attribute i.home i.name) (constant i.value ∷ []) ∷ []) (loads_fine i.value) (λ k. absurd (apart.attribute i.home i.name k), tt)

    start_with_fine : (c : ℕ) (f : Option ℕ) (xs : List Shape) → AreFine Key (asking.start_with p c f xs)
    start_with_fine c None xs = tt
    start_with_fine c (Some f) xs = reach_fine f (Inst c false ∷ xs)

    make_fine : (c : ℕ) (xs : List Shape) → AreFine Key (make p c xs)
    make_fine c xs = (
      tt,
      append_fine (from_each (asking.initial_needs p) (initial p.tables c)) (asking.start_with p c (line.init p.tables.classes c) xs) (each_fine (asking.initial_needs p) initial_fine (initial p.tables c))
          (start_with_fine c (line.init p.tables.classes c) xs),
    )

    module _ (w : Assignment) where
      -- ---- items and keys

      pub to_items_fine : (s : ℕ) (x : Shape) → AreFine Key (asking.to_items p w s x)
      to_items_fine s x = (λ k. absurd (apart.item (leader w.same s) k), tt)

      pub to_keys_fine : (s : ℕ) (x : Shape) → AreFine Key (asking.to_keys p w s x)
      to_keys_fine s x = (λ k. (given_keyish (is_key x) x refl, tt), tt)

      flow_fine : (x : Shape) (site : ℕ) → AreFine Key (asking.flow p w x site)
      flow_fine (Lst s n) site = to_items_fine site (asking.items_of p w s)
      flow_fine x site = tt

      look_up_fine : (x y : Shape) → AreFine Key (asking.look_up p w x y)
      look_up_fine (Dct s n) y = to_keys_fine s y
      look_up_fine (Lst s n) y = to_items_fine s y
      look_up_fine x y = tt

      look_up_key_fine : (x y : Shape) → AreFine Key (asking.look_up_key p w x y)
      look_up_key_fine (Dct s n) y = to_keys_fine s y
      look_up_key_fine x y = tt

      hold_fine : (x y : Shape) → AreFine Key (asking.hold p w x y)
      hold_fine (Dct s n) y = to_items_fine s y
      hold_fine (Lst s n) y = to_items_fine s y
      hold_fine x y = tt

      -- ---- calls

      -- two cells that are none of keys
      pub tie_fine : (c d : ℕ) → (Key c → ⊥) → (Key d → ⊥) → AreFine Key (asking.tie p w c d)
      tie_fine c d h i = (λ k. absurd (h k), (λ k. absurd (i k), tt))

      tie_params_fine : (f g i : ℕ) (ds es : List (Option Const)) → AreFine Key (asking.tie_params p w f g i ds es)
      tie_params_fine f g i [] es = tt
      tie_params_fine f g i (d ∷ ds) [] = tt
      tie_params_fine f g i (d ∷ ds) (e ∷ es) =
          append_fine (asking.tie p w (p.places.param f i) (p.places.param g i)) (asking.tie_params p w f g (suc i) ds es)
          (tie_fine (p.places.param f i) (p.places.param g i) (apart.param f i) (apart.param g i)) (tie_params_fine f g (suc i) ds es)

      tie_two_fine : (received : Bool) (f g : ℕ) → AreFine Key (asking.tie_two p w received f g)
      tie_two_fine true f g =
          append_fine (asking.tie_params p w f g 1 (rest (defaults p f)) (rest (defaults p g))) (asking.tie p w (p.places.result f) (p.places.result g)) (tie_params_fine f g 1 (rest (defaults p f)) (rest (defaults p g)))
          (tie_fine (p.places.result f) (p.places.result g) (apart.result f) (apart.result g))
      tie_two_fine false f g =
          append_fine (asking.tie_params p w f g zero (defaults p f) (defaults p g)) (asking.tie p w (p.places.result f) (p.places.result g)) (tie_params_fine f g zero (defaults p f) (defaults p g))
          (tie_fine (p.places.result f) (p.places.result g) (apart.result f) (apart.result g))

      tie_each_fine : (received : Bool) (fs gs : List ℕ) → AreFine Key (asking.tie_each p w received fs gs)
      tie_each_fine received fs gs = each_fine (λ f. from_each (asking.tie_two p w received f) gs) (λ f. each_fine (asking.tie_two p w received f) (tie_two_fine received f) gs) fs

      call_all_fine : (fs : List ℕ) (xs : List Shape) → AreFine Key (asking.call_all p w fs xs)
      call_all_fine fs xs = append_fine (from_each (λ f. reach p f xs) fs) (asking.tie_each p w false fs fs) (each_fine (λ f. reach p f xs) (λ f. reach_fine f xs) fs) (tie_each_fine false fs fs)

      call_value_fine : (x : Shape) (xs : List Shape) → AreFine Key (asking.call_value p w x xs)
      call_value_fine (Fun fs n) xs = call_all_fine fs xs
      call_value_fine x xs = tt

      call_methods_fine : (found : List (ℕ × ℕ)) (xs : List Shape) → AreFine Key (asking.call_methods p w found xs)
      call_methods_fine found xs =
          append_fine (from_each (λ f. reach p f.1 (Inst f.0 false ∷ xs)) found) (asking.tie_each p w true (map (λ f. f.1) found) (map (λ f. f.1) found))
          (each_fine (λ f. reach p f.1 (Inst f.0 false ∷ xs)) (λ f. reach_fine f.1 (Inst f.0 false ∷ xs)) found)
          (tie_each_fine true (map (λ f. f.1) found) (map (λ f. f.1) found))

      -- ---- the forms of operations

      sum_fine : (o : BinOp) (site : Option ℕ) (x y : Shape) → AreFine Key (asking.sum p w o site x y)
      sum_fine bin.Add (Some site) x y = append_fine (asking.flow p w x site) (asking.flow p w y site) (flow_fine x site) (flow_fine y site)
      sum_fine o (Some site) x y = flow_fine x site
      sum_fine o None x y = tt

      extend_fine : (x y : Shape) → AreFine Key (asking.extend p w x y)
      extend_fine (Lst s n) y = flow_fine y s
      extend_fine x y = tt

      compared_fine : (o : CmpOp) (x y : Shape) → AreFine Key (asking.compared p w o x y)
      compared_fine cmp.Within x y = look_up_fine y x
      compared_fine cmp.NotWithin x y = look_up_fine y x
      compared_fine o x y = tt

      to_attribute_fine : (c : Option ℕ) (name : List ℕ) (x : Shape) → AreFine Key (asking.to_attribute p w c name x)
      to_attribute_fine None name x = tt
      to_attribute_fine (Some c) name x = (λ k. absurd (apart.attribute c name k), tt)

      store_fine : (name : List ℕ) (x y : Shape) → AreFine Key (asking.store p w name x y)
      store_fine name (Inst c n) y = to_attribute_fine (home p.tables c name) name y
      store_fine name x y = tt

      walked_fine : (site : ℕ) (x : Shape) → AreFine Key (asking.walked p w site x)
      walked_fine site (Dct s n) = to_items_fine site (asking.keys_of p w s)
      walked_fine site x = tt

      list_asks_fine : (n : Method) (s : ℕ) (xs : List Shape) → AreFine Key (asking.list_asks p w n s xs)
      list_asks_fine m.Append s (x ∷ []) = to_items_fine s x
      list_asks_fine m.Insert s (i ∷ x ∷ []) = to_items_fine s x
      list_asks_fine m.Extend s (x ∷ []) = flow_fine x s
      list_asks_fine n s xs = tt

      pairs_fine : (site : ℕ) (k x : Shape) → AreFine Key (asking.pairs p w site k x)
      pairs_fine site k x =
          let pair : Shape = if_shallow (Tup (more k (more x end))) in when_fine (not (is_nothing k || is_nothing x)) (asking.to_items p w site pair) (to_items_fine site pair)

      listed_fine : (n : Method) (s site : ℕ) → AreFine Key (asking.listed p w n s site)
      listed_fine m.Keys s site = to_items_fine site (asking.keys_of p w s)
      listed_fine m.Values s site = to_items_fine site (asking.items_of p w s)
      listed_fine m.Items s site = pairs_fine site (asking.keys_of p w s) (asking.items_of p w s)
      listed_fine n s site = tt

      dict_asks_fine : (n : Method) (s : ℕ) (site : Option ℕ) (xs : List Shape) → AreFine Key (asking.dict_asks p w n s site xs)
      dict_asks_fine m.Get s site (key ∷ xs) = to_keys_fine s key
      dict_asks_fine n s (Some site) xs = listed_fine n s site
      dict_asks_fine n s None xs = tt

      split_asks_fine : (n : Method) (site : Option ℕ) → AreFine Key (asking.split_asks p w n site)
      split_asks_fine m.Split (Some site) = to_items_fine site (Str Any)
      split_asks_fine n site = tt

      method_asks_fine : (name : List ℕ) (site : Option ℕ) (x : Shape) (xs : List Shape) → AreFine Key (asking.method_asks p w name site x xs)
      method_asks_fine name site (Inst c n) xs = call_methods_fine (asking.methods p w c name) xs
      method_asks_fine name site (Lst s n) xs = list_asks_fine (method_named name) s xs
      method_asks_fine name site (Dct s n) xs = dict_asks_fine (method_named name) s site xs
      method_asks_fine name site (Str width) xs = split_asks_fine (method_named name) site
      method_asks_fine name site x xs = tt

      first_fine : (f : Shape → List Shape → List Need) → ((x : Shape) (xs : List Shape) → AreFine Key (f x xs)) → (xs : List Shape) → AreFine Key (with_first f xs)
      first_fine f g [] = tt
      first_fine f g (x ∷ xs) = g x xs

      two_fine : (f : Shape → Shape → List Need) → ((x y : Shape) → AreFine Key (f x y)) → (xs : List Shape) → AreFine Key (with_two f xs)
      two_fine f g [] = tt
      two_fine f g (x ∷ []) = tt
      two_fine f g (x ∷ y ∷ []) = g x y
      two_fine f g (x ∷ y ∷ z ∷ xs) = tt

      three_fine : (f : Shape → Shape → Shape → List Need) → ((x y z : Shape) → AreFine Key (f x y z)) → (xs : List Shape) → AreFine Key (with_three f xs)
      three_fine f g [] = tt
      three_fine f g (x ∷ []) = tt
      three_fine f g (x ∷ y ∷ []) = tt
      three_fine f g (x ∷ y ∷ z ∷ []) = g x y z
      three_fine f g (x ∷ y ∷ z ∷ u ∷ xs) = tt

      pub asks_fine : (o : RowOp) (xs : List Shape) → AreFine Key (asks p w o xs)
      asks_fine (op.Binary o site) xs = two_fine (asking.sum p w o site) (sum_fine o site) xs
      asks_fine op.AddTo xs = two_fine (asking.extend p w) extend_fine xs
      asks_fine (op.Slice s low high) xs = first_fine (λ x ys. asking.flow p w x s) (λ x ys. flow_fine x s) xs
      asks_fine (op.AllButLast s) xs = first_fine (λ x ys. asking.flow p w x s) (λ x ys. flow_fine x s) xs
      asks_fine (op.List s) xs = each_fine (asking.to_items p w s) (to_items_fine s) xs
      asks_fine (op.Compare o) xs = two_fine (asking.compared p w o) (compared_fine o) xs
      asks_fine (op.Index literal) xs = two_fine (asking.look_up_key p w) look_up_key_fine xs
      asks_fine op.DeleteIndex xs = two_fine (asking.look_up_key p w) look_up_key_fine xs
      asks_fine op.StoreIndex xs =
          three_fine (λ x i y. asking.look_up_key p w x i ++ asking.hold p w x y) (λ x i y. append_fine (asking.look_up_key p w x i) (asking.hold p w x y) (look_up_key_fine x i) (hold_fine x y)) xs
      asks_fine (op.StoreAttr name) xs = two_fine (asking.store p w name) (store_fine name) xs
      asks_fine op.AddItem xs = two_fine (asking.hold p w) hold_fine xs
      asks_fine (op.Walk s) xs = first_fine (λ x ys. asking.walked p w s x) (λ x ys. walked_fine s x) xs
      asks_fine (op.Constant c) xs = loads_fine c
      asks_fine (op.Call f) xs = call_all_fine (f ∷ []) xs
      asks_fine (op.CallOf c f) xs = call_all_fine (f ∷ []) xs
      asks_fine op.CallValue xs = first_fine (asking.call_value p w) call_value_fine xs
      asks_fine (op.New c) xs = make_fine c xs
      asks_fine (op.Method name site) xs = first_fine (asking.method_asks p w name site) (method_asks_fine name site) xs
      asks_fine o xs = tt
