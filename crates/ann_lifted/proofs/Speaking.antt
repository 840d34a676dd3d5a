-- What operations ask, they ask of the parts of the program; it holds in each assignment that has the same parts.
use Rattle.std.proofs.Common.{◌≡◌, ℕ, zero, suc, ◌<◌, Bool, true, false, List, [], ◌∷◌, ◌++◌, length, map, Option, Some, None, refl, sym, ap, ◌∙◌, subst}
use Rattle.std.specs.Prelude.{◌||◌, not}
use Rattle.rpy_tree.specs.declared.program.ClassInfo.{ClassInfo}
use Rattle.rpy_tree.specs.declared.program.Const.{Const, fold-roll-Const, map-Const, ind-Const}
use Rattle.rpy_tree.specs.declared.program.Const.TheOpen.{Const-F}
use Rattle.rpy_tree.specs.declared.program.Site.{Site}
use Rattle.rpy_tree.specs.declared.syntax.BinOp.{BinOp}
use Rattle.rpy_tree.specs.declared.syntax.BinOp.TheVariants as bin
use Rattle.rpy_tree.specs.declared.syntax.CmpOp.{CmpOp}
use Rattle.rpy_tree.specs.declared.syntax.CmpOp.TheVariants as cmp
use Rattle.rpy_meaning.specs.declared.row.RowOp.{RowOp}
use Rattle.rpy_meaning.specs.declared.row.RowOp.TheVariants as op
use Rattle.class_desc.specs.Line as line
use Rattle.class_desc.specs.Tables.{home, initial}
use Rattle.class_desc.specs.declared.classes.Initial.{Initial}
use Rattle.ann_element.specs.Sites.{leader}
use Rattle.ann_lattice.specs.declared.method.Method.{Method}
use Rattle.ann_lattice.specs.declared.method.Method.TheVariants as m
use Rattle.ann_lattice.specs.Shape.{Any, Shape, Str, Tup, Lst, Dct, Inst, Fun, end, more}
use Rattle.ann_lattice.specs.Assign.{Assignment, at, mark, Need, Up, Set, Under, Holds}
use Rattle.ann_lattice.specs.Order.{is_key}
use Rattle.ann_lattice.specs.Kind.{given, is_nothing}
use Rattle.ann_lattice.specs.Methods.{method_named}
use Rattle.ann_lattice.specs.Row.{constant, if_shallow}
use Rattle.ann_rules.specs.Program.{Whole}
use Rattle.ann_rules.specs.Asks as asking
use Rattle.ann_rules.specs.Asks.{when, from_each, with_first, with_two, with_three, rest, reach, make, loads, loads_step, defaults, asks}
use Rattle.ann_rules.specs.Rules as rule
use Rattle.ann_rules.specs.Hold.{AllHold}
use Rattle.ann_lift.specs.Alike.{AreAlike}

-- v has the parts and the marks of functions and of sites that w has
pub record HasParts (p : Whole) (w v : Assignment) : Type 0 where
  pub alike : AreAlike p v w
  pub cells : length v.cells ≡ length w.cells
  pub marks : length v.marks ≡ length w.marks
  pub reached : (f : ℕ) → mark v (p.places.reached f) ≡ mark w (p.places.reached f)
  pub loaded : (s : ℕ) → mark v (p.places.loaded s) ≡ mark w (p.places.loaded s)

module _ (p : Whole) (w v : Assignment) (has : HasParts p w v) where
  -- the need is of a cell or a mark that both have
  abbrev pub Speaks : Need → Type 0
  Speaks (Up c es) = at v c ≡ at w c
  Speaks (Set n) = mark v n ≡ mark w n

  abbrev pub AllSpeak : List Need → Type 0
  AllSpeak [] = Unit {0}
  AllSpeak (n ∷ ns) = Speaks n × AllSpeak ns

  holds_too : (k : List ClassInfo) (n : Need) → Speaks n → Holds k w n → Holds k v n
  holds_too k (Up c es) e h = λ lt. subst (λ t. Under k t es (at v c)) (sym has.alike.same) (subst (λ x. Under k w.same es x) (sym e) (h (subst (λ l. c < l) has.cells lt)))
  holds_too k (Set n) e h = λ lt. e ∙ h (subst (λ l. n < l) has.marks lt)

  pub all_hold_too : (k : List ClassInfo) (ns : List Need) → AllSpeak ns → AllHold k w ns → AllHold k v ns
  all_hold_too k [] s h = tt
  all_hold_too k (n ∷ ns) s h = (holds_too k n s.0 h.0, all_hold_too k ns s.1 h.1)

  pub speak_append : (ms ns : List Need) → AllSpeak ms → AllSpeak ns → AllSpeak (ms ++ ns)
  speak_append [] ns g h = h
  speak_append (n ∷ ms) ns g h = (g.0, speak_append ms ns g.1 h)

  pub speak_when : (b : Bool) (ns : List Need) → AllSpeak ns → AllSpeak (when b ns)
  speak_when true ns h = h
  speak_when false ns h = tt

  pub speak_each : {A : Type 0} → (f : A → List Need) → ((x : A) → AllSpeak (f x)) → (xs : List A) → AllSpeak (from_each f xs)
  speak_each f h [] = tt
  speak_each f h (x ∷ xs) = speak_append (f x) (from_each f xs) (h x) (speak_each f h xs)

  -- ---- constants

  abbrev Loads : Const → Type 0
  Loads c = AllSpeak (loads p c)

  loads_parts : (ys : List ((c : Const) × Loads c)) → AllSpeak (from_each (λ needs. needs) (map (loads p) (map (λ q. q.0) ys)))
  loads_parts [] = tt
  loads_parts (y ∷ ys) = speak_append (loads p y.0) (from_each (λ needs. needs) (map (loads p) (map (λ q. q.0) ys))) y.1 (loads_parts ys)

  loads_of : (y : Const-F ((c : Const) × Loads c)) → AllSpeak (loads_step p (map-Const Const (List Need) (loads p) (map-Const ((c : Const) × Loads c) Const (λ q. q.0) y)))
  loads_of (Const-F.Word z) = tt
  loads_of (Const-F.Bool b) = tt
  loads_of (Const-F.Str t) = tt
  loads_of Const-F.None = tt
  loads_of (Const-F.Function f) = tt
  loads_of (Const-F.Tuple ys) = loads_parts ys
  loads_of (Const-F.List s) = (has.loaded s, tt)
  loads_of (Const-F.Dict s) = (has.loaded s, tt)

  pub loads_speak : (c : Const) → AllSpeak (loads p c)
  loads_speak = ind-Const Loads (λ x y is. subst AllSpeak (sym (fold-roll-Const (List Need) (loads_step p) x)) (subst (λ z. AllSpeak (loads_step p (map-Const Const (List Need) (loads p) z))) is (loads_of y)))

  -- ---- items and keys

  to_items_speak : (s : ℕ) (x : Shape) → AllSpeak (asking.to_items p w s x)
  to_items_speak s x = (has.alike.items (leader w.same s), tt)

  to_keys_speak : (s : ℕ) (x : Shape) → AllSpeak (asking.to_keys p w s x)
  to_keys_speak s x = (has.alike.keys (leader w.same s), tt)

  flow_speak : (x : Shape) (site : ℕ) → AllSpeak (asking.flow p w x site)
  flow_speak (Lst s n) site = to_items_speak site (asking.items_of p w s)
  flow_speak x site = tt

  look_up_speak : (x y : Shape) → AllSpeak (asking.look_up p w x y)
  look_up_speak (Dct s n) y = to_keys_speak s y
  look_up_speak (Lst s n) y = to_items_speak s y
  look_up_speak x y = tt

  look_up_key_speak : (x y : Shape) → AllSpeak (asking.look_up_key p w x y)
  look_up_key_speak (Dct s n) y = to_keys_speak s y
  look_up_key_speak x y = tt

  hold_speak : (x y : Shape) → AllSpeak (asking.hold p w x y)
  hold_speak (Dct s n) y = to_items_speak s y
  hold_speak (Lst s n) y = to_items_speak s y
  hold_speak x y = tt

  -- ---- calls

  argument_speak : (f i : ℕ) (d : Option Const) (xs : List Shape) → AllSpeak (asking.argument p f i d xs)
  argument_speak f i d (x ∷ xs) = (has.alike.params f i, tt)
  argument_speak f i (Some c) [] = speak_append (loads p c) (Up (p.places.param f i) (constant c ∷ []) ∷ []) (loads_speak c) (has.alike.params f i, tt)
  argument_speak f i None [] = tt

  arguments_speak : (f i : ℕ) (ds : List (Option Const)) (xs : List Shape) → AllSpeak (asking.arguments p f i ds xs)
  arguments_speak f i [] xs = tt
  arguments_speak f i (d ∷ ds) xs = speak_append (asking.argument p f i d xs) (asking.arguments p f (suc i) ds (rest xs)) (argument_speak f i d xs) (arguments_speak f (suc i) ds (rest xs))

  reach_speak : (f : ℕ) (xs : List Shape) → AllSpeak (reach p f xs)
  reach_speak f xs = (has.reached f, arguments_speak f zero (defaults p f) xs)

  initial_speak : (i : Initial) → AllSpeak (asking.initial_needs p i)
  initial_speak i = speak_append (loads p i.value) (Up (p.places.attribute i.home i.name) (constant i.value ∷ []) ∷ []) (loads_speak i.value) (has.alike.attributes i.home i.name, tt)

  start_with_speak : (c : ℕ) (f : Option ℕ) (xs : List Shape) → AllSpeak (asking.start_with p c f xs)
  start_with_speak c None xs = tt
  start_with_speak c (Some f) xs = reach_speak f (Inst c false ∷ xs)

  make_speak : (c : ℕ) (xs : List Shape) → AllSpeak (make p c xs)
  make_speak c xs = (
    has.alike.made c,
    speak_append (from_each (asking.initial_needs p) (initial p.tables c)) (asking.start_with p c (line.init p.tables.classes c) xs) (speak_each (asking.initial_needs p) initial_speak (initial p.tables c))
        (start_with_speak c (line.init p.tables.classes c) xs),
  )

  tie_speak : (c d : ℕ) → at v c ≡ at w c → at v d ≡ at w d → AllSpeak (asking.tie p w c d)
  tie_speak c d x y = (x, (y, tt))

  tie_params_speak : (f g i : ℕ) (ds es : List (Option Const)) → AllSpeak (asking.tie_params p w f g i ds es)
  tie_params_speak f g i [] es = tt
  tie_params_speak f g i (d ∷ ds) [] = tt
  tie_params_speak f g i (d ∷ ds) (e ∷ es) =
      speak_append (asking.tie p w (p.places.param f i) (p.places.param g i)) (asking.tie_params p w f g (suc i) ds es) (tie_speak (p.places.param f i) (p.places.param g i) (has.alike.params f i) (has.alike.params g i)) (tie_params_speak f g (suc i) ds es)

  tie_two_speak : (received : Bool) (f g : ℕ) → AllSpeak (asking.tie_two p w received f g)
  tie_two_speak true f g =
      speak_append (asking.tie_params p w f g 1 (rest (defaults p f)) (rest (defaults p g))) (asking.tie p w (p.places.result f) (p.places.result g)) (tie_params_speak f g 1 (rest (defaults p f)) (rest (defaults p g)))
      (tie_speak (p.places.result f) (p.places.result g) (has.alike.results f) (has.alike.results g))
  tie_two_speak false f g =
      speak_append (asking.tie_params p w f g zero (defaults p f) (defaults p g)) (asking.tie p w (p.places.result f) (p.places.result g)) (tie_params_speak f g zero (defaults p f) (defaults p g))
      (tie_speak (p.places.result f) (p.places.result g) (has.alike.results f) (has.alike.results g))

  tie_each_speak : (received : Bool) (fs gs : List ℕ) → AllSpeak (asking.tie_each p w received fs gs)
  tie_each_speak received fs gs = speak_each (λ f. from_each (asking.tie_two p w received f) gs) (λ f. speak_each (asking.tie_two p w received f) (tie_two_speak received f) gs) fs

  call_all_speak : (fs : List ℕ) (xs : List Shape) → AllSpeak (asking.call_all p w fs xs)
  call_all_speak fs xs = speak_append (from_each (λ f. reach p f xs) fs) (asking.tie_each p w false fs fs) (speak_each (λ f. reach p f xs) (λ f. reach_speak f xs) fs) (tie_each_speak false fs fs)

  call_value_speak : (x : Shape) (xs : List Shape) → AllSpeak (asking.call_value p w x xs)
  call_value_speak (Fun fs n) xs = call_all_speak fs xs
  call_value_speak x xs = tt

  call_methods_speak : (found : List (ℕ × ℕ)) (xs : List Shape) → AllSpeak (asking.call_methods p w found xs)
  call_methods_speak found xs =
      speak_append (from_each (λ f. reach p f.1 (Inst f.0 false ∷ xs)) found) (asking.tie_each p w true (map (λ f. f.1) found) (map (λ f. f.1) found)) (speak_each (λ f. reach p f.1 (Inst f.0 false ∷ xs)) (λ f. reach_speak f.1 (Inst f.0 false ∷ xs)) found)
      (tie_each_speak true (map (λ f. f.1) found) (map (λ f. f.1) found))

  -- ---- the forms of operations

  sum_speak : (o : BinOp) (site : Option ℕ) (x y : Shape) → AllSpeak (asking.sum p w o site x y)
  sum_speak bin.Add (Some site) x y = speak_append (asking.flow p w x site) (asking.flow p w y site) (flow_speak x site) (flow_speak y site)
  sum_speak o (Some site) x y = flow_speak x site
  sum_speak o None x y = tt

  extend_speak : (x y : Shape) → AllSpeak (asking.extend p w x y)
  extend_speak (Lst s n) y = flow_speak y s
  extend_speak x y = tt

  compared_speak : (o : CmpOp) (x y : Shape) → AllSpeak (asking.compared p w o x y)
  compared_speak cmp.Within x y = look_up_speak y x
  compared_speak cmp.NotWithin x y = look_up_speak y x
  compared_speak o x y = tt

  to_attribute_speak : (c : Option ℕ) (name : List ℕ) (x : Shape) → AllSpeak (asking.to_attribute p w c name x)
  to_attribute_speak None name x = tt
  to_attribute_speak (Some c) name x = (has.alike.attributes c name, tt)

  store_speak : (name : List ℕ) (x y : Shape) → AllSpeak (asking.store p w name x y)
  store_speak name (Inst c n) x = to_attribute_speak (home p.tables c name) name x
  store_speak name x y = tt

  walked_speak : (site : ℕ) (x : Shape) → AllSpeak (asking.walked p w site x)
  walked_speak site (Dct s n) = to_items_speak site (asking.keys_of p w s)
  walked_speak site x = tt

  list_asks_speak : (n : Method) (s : ℕ) (xs : List Shape) → AllSpeak (asking.list_asks p w n s xs)
  list_asks_speak m.Append s (x ∷ []) = to_items_speak s x
  list_asks_speak m.Insert s (i ∷ x ∷ []) = to_items_speak s x
  list_asks_speak m.Extend s (x ∷ []) = flow_speak x s
  list_asks_speak n s xs = tt

  pairs_speak : (site : ℕ) (k x : Shape) → AllSpeak (asking.pairs p w site k x)
  pairs_speak site k x = speak_when (not (is_nothing k || is_nothing x)) (asking.to_items p w site (if_shallow (Tup (more k (more x end))))) (to_items_speak site (if_shallow (Tup (more k (more x end)))))

  listed_speak : (n : Method) (s site : ℕ) → AllSpeak (asking.listed p w n s site)
  listed_speak m.Keys s site = to_items_speak site (asking.keys_of p w s)
  listed_speak m.Values s site = to_items_speak site (asking.items_of p w s)
  listed_speak m.Items s site = pairs_speak site (asking.keys_of p w s) (asking.items_of p w s)
  listed_speak n s site = tt

  dict_asks_speak : (n : Method) (s : ℕ) (site : Option ℕ) (xs : List Shape) → AllSpeak (asking.dict_asks p w n s site xs)
  dict_asks_speak m.Get s site (key ∷ xs) = to_keys_speak s key
  dict_asks_speak n s (Some site) xs = listed_speak n s site
  dict_asks_speak n s None xs = tt

  split_asks_speak : (n : Method) (site : Option ℕ) → AllSpeak (asking.split_asks p w n site)
  split_asks_speak m.Split (Some site) = to_items_speak site (Str Any)
  split_asks_speak n site = tt

  method_asks_speak : (name : List ℕ) (site : Option ℕ) (x : Shape) (xs : List Shape) → AllSpeak (asking.method_asks p w name site x xs)
  method_asks_speak name site (Inst c n) xs = call_methods_speak (asking.methods p w c name) xs
  method_asks_speak name site (Lst s n) xs = list_asks_speak (method_named name) s xs
  method_asks_speak name site (Dct s n) xs = dict_asks_speak (method_named name) s site xs
  method_asks_speak name site (Str width) xs = split_asks_speak (method_named name) site
  method_asks_speak name site x xs = tt

  first_speak : (f : Shape → List Shape → List Need) → ((x : Shape) (xs : List Shape) → AllSpeak (f x xs)) → (xs : List Shape) → AllSpeak (with_first f xs)
  first_speak f h [] = tt
  first_speak f h (x ∷ xs) = h x xs

  two_speak : (f : Shape → Shape → List Need) → ((x y : Shape) → AllSpeak (f x y)) → (xs : List Shape) → AllSpeak (with_two f xs)
  two_speak f h [] = tt
  two_speak f h (x ∷ []) = tt
  two_speak f h (x ∷ y ∷ []) = h x y
  two_speak f h (x ∷ y ∷ z ∷ xs) = tt

  three_speak : (f : Shape → Shape → Shape → List Need) → ((x y z : Shape) → AllSpeak (f x y z)) → (xs : List Shape) → AllSpeak (with_three f xs)
  three_speak f h [] = tt
  three_speak f h (x ∷ []) = tt
  three_speak f h (x ∷ y ∷ []) = tt
  three_speak f h (x ∷ y ∷ z ∷ []) = h x y z
  three_speak f h (x ∷ y ∷ z ∷ u ∷ xs) = tt

  pub asks_speak : (o : RowOp) (xs : List Shape) → AllSpeak (asks p w o xs)
  asks_speak (op.Binary o site) xs = two_speak (asking.sum p w o site) (sum_speak o site) xs
  asks_speak op.AddTo xs = two_speak (asking.extend p w) extend_speak xs
  asks_speak (op.Slice s low high) xs = first_speak (λ x ys. asking.flow p w x s) (λ x ys. flow_speak x s) xs
  asks_speak (op.AllButLast s) xs = first_speak (λ x ys. asking.flow p w x s) (λ x ys. flow_speak x s) xs
  asks_speak (op.List s) xs = speak_each (asking.to_items p w s) (to_items_speak s) xs
  asks_speak (op.Compare o) xs = two_speak (asking.compared p w o) (compared_speak o) xs
  asks_speak (op.Index literal) xs = two_speak (asking.look_up_key p w) look_up_key_speak xs
  asks_speak op.DeleteIndex xs = two_speak (asking.look_up_key p w) look_up_key_speak xs
  asks_speak op.StoreIndex xs =
      three_speak (λ x i y. asking.look_up_key p w x i ++ asking.hold p w x y) (λ x i y. speak_append (asking.look_up_key p w x i) (asking.hold p w x y) (look_up_key_speak x i) (hold_speak x y)) xs
  asks_speak (op.StoreAttr name) xs = two_speak (asking.store p w name) (store_speak name) xs
  asks_speak op.AddItem xs = two_speak (asking.hold p w) hold_speak xs
  asks_speak (op.Walk s) xs = first_speak (λ x ys. asking.walked p w s x) (λ x ys. walked_speak s x) xs
  asks_speak (op.Constant c) xs = loads_speak c
  asks_speak (op.Call f) xs = call_all_speak (f ∷ []) xs
  asks_speak (op.CallOf c f) xs = call_all_speak (f ∷ []) xs
  asks_speak op.CallValue xs = first_speak (asking.call_value p w) call_value_speak xs
  asks_speak (op.New c) xs = make_speak c xs
  asks_speak (op.Method name site) xs = first_speak (asking.method_asks p w name site) (method_asks_speak name site) xs
  asks_speak o xs = tt

  -- ---- the entry point and the sites

  pub entry_speak : AllSpeak (rule.entry_needs p w)
  entry_speak =
      speak_append (asking.to_items p w zero (Str Any)) (Up (p.places.param p.entry zero) (Lst zero false ∷ []) ∷ Set (p.places.reached p.entry) ∷ []) (to_items_speak zero (Str Any)) (has.alike.params p.entry zero, (has.reached p.entry, tt))

  pair_speak : (s : ℕ) (dict : Bool) (c : Const × Const) → AllSpeak (rule.pair_needs p w s dict c)
  pair_speak s dict c =
      speak_append (when dict (loads p c.0 ++ asking.to_keys p w s (constant c.0))) (loads p c.1 ++ asking.to_items p w s (constant c.1))
      (speak_when dict (loads p c.0 ++ asking.to_keys p w s (constant c.0)) (speak_append (loads p c.0) (asking.to_keys p w s (constant c.0)) (loads_speak c.0) (to_keys_speak s (constant c.0))))
      (speak_append (loads p c.1) (asking.to_items p w s (constant c.1)) (loads_speak c.1) (to_items_speak s (constant c.1)))

  contents_speak : (s : ℕ) (dict : Bool) (cs : Option (List (Const × Const))) → AllSpeak (rule.contents p w s dict cs)
  contents_speak s dict None = tt
  contents_speak s dict (Some cs) = speak_each (rule.pair_needs p w s dict) (pair_speak s dict) cs

  site_speak : (s : ℕ) (site : Site) → AllSpeak (rule.site_needs p w s site)
  site_speak s site =
      let items = p.places.item s in
      let keys = p.places.key s in
      let item_tie = asking.tie p w items (p.places.item (leader w.same s)) in
      let key_tie = asking.tie p w keys (p.places.key (leader w.same s)) in
      let held = when (mark w (p.places.loaded s)) (rule.contents p w s site.dict site.prebuilt) in
      speak_append item_tie (key_tie ++ held) (tie_speak items (p.places.item (leader w.same s)) (has.alike.items s) (has.alike.items (leader w.same s)))
      (speak_append key_tie held (tie_speak keys (p.places.key (leader w.same s)) (has.alike.keys s) (has.alike.keys (leader w.same s)))
      (speak_when (mark w (p.places.loaded s)) (rule.contents p w s site.dict site.prebuilt) (contents_speak s site.dict site.prebuilt)))

  pub sites_speak : (n : ℕ) (sites : List Site) → AllSpeak (rule.numbered p w (rule.site_needs p w) n sites)
  sites_speak n [] = tt
  sites_speak n (site ∷ sites) = speak_append (rule.site_needs p w n site) (rule.numbered p w (rule.site_needs p w) (suc n) sites) (site_speak n site) (sites_speak (suc n) sites)

  -- ---- they ask the same of both

  tie_same : (c d : ℕ) → at v c ≡ at w c → at v d ≡ at w d → asking.tie p w c d ≡ asking.tie p v c d
  tie_same c d x y = λ i. Up c (sym y i ∷ []) ∷ Up d (sym x i ∷ []) ∷ []

  pair_same : (s : ℕ) (dict : Bool) (c : Const × Const) → rule.pair_needs p w s dict c ≡ rule.pair_needs p v s dict c
  pair_same s dict c = ap (λ t. when dict (loads p c.0 ++ Up (p.places.key (leader t s)) (given (is_key (constant c.0)) (constant c.0) ∷ []) ∷ []) ++ (loads p c.1 ++ Up (p.places.item (leader t s)) (constant c.1 ∷ []) ∷ [])) (sym has.alike.same)

  contents_same : (s : ℕ) (dict : Bool) (cs : Option (List (Const × Const))) → rule.contents p w s dict cs ≡ rule.contents p v s dict cs
  contents_same s dict None = refl
  contents_same s dict (Some cs) = λ j. from_each (λ c. pair_same s dict c j) cs

  leader_same : (place : ℕ → ℕ) (s : ℕ) → ((u : ℕ) → at v (place u) ≡ at w (place u)) → asking.tie p w (place s) (place (leader w.same s)) ≡ asking.tie p v (place s) (place (leader v.same s))
  leader_same place s same = tie_same (place s) (place (leader w.same s)) (same s) (same (leader w.same s)) ∙ ap (λ t. asking.tie p v (place s) (place (leader t s))) (sym has.alike.same)

  site_same : (s : ℕ) (site : Site) → rule.site_needs p w s site ≡ rule.site_needs p v s site
  site_same s site = λ j. leader_same p.places.item s has.alike.items j ++ (leader_same p.places.key s has.alike.keys j ++ when (sym (has.loaded s) j) (contents_same s site.dict site.prebuilt j))

  pub sites_same : (n : ℕ) (sites : List Site) → rule.numbered p w (rule.site_needs p w) n sites ≡ rule.numbered p v (rule.site_needs p v) n sites
  sites_same n [] = refl
  sites_same n (site ∷ sites) = λ j. site_same n site j ++ sites_same (suc n) sites j

  pub entry_same : rule.entry_needs p w ≡ rule.entry_needs p v
  entry_same = ap (λ t. Up (p.places.item (leader t zero)) (Str Any ∷ []) ∷ Up (p.places.param p.entry zero) (Lst zero false ∷ []) ∷ Set (p.places.reached p.entry) ∷ []) (sym has.alike.same)
