-- The keys of operations on dicts are whole.
use Rattle.std.proofs.Common.{◌≡◌, ℕ, ℤ, Bool, true, false, List, [], ◌∷◌, ◌++◌, map, Option, Some, None, refl, sym, ap, ◌∙◌, subst}
use Rattle.std.specs.Prelude.{◌&&◌, if◌then◌else◌}
use Rattle.rpy_tree.specs.declared.program.ClassInfo.{ClassInfo}
use Rattle.rpy_tree.specs.declared.syntax.CmpOp.TheVariants as cmp
use Rattle.rpy_tree.specs.Value.{Value, Values}
use Rattle.rpy_meaning.specs.declared.row.RowOp.{RowOp}
use Rattle.rpy_meaning.specs.declared.row.RowOp.TheVariants as row
use Rattle.flow_runs.specs.Good.{is_whole, are_whole, KeyIsWhole}
use Rattle.run_laws.specs.Points.{container_of}
use Rattle.ann_lattice.specs.declared.method.Method.{Method}
use Rattle.ann_lattice.specs.declared.method.Method.TheVariants as m
use Rattle.ann_lattice.specs.Assign.{Assignment, Under}
use Rattle.ann_lattice.specs.Kind.{misfit, given, some_nothing, some_clash}
use Rattle.ann_lattice.specs.Methods.{method_named, dict_method}
use Rattle.ann_lattice.specs.Order as order
use Rattle.ann_lattice.specs.Order.{Below, is_key, are_keys}
use Rattle.ann_lattice.specs.Row.{pieces, fitting}
use Rattle.ann_lattice.specs.Shape.{Shape, Nothing, NoneOnly, Truth, Num, Str, Tup, Lst, Dct, Inst, Fun, Clash, Shapes}
use Rattle.ann_rules.specs.Asks.{keys_of, to_keys, dict_asks, parts, asks}
use Rattle.ann_rules.specs.Program.{Whole}
use Rattle.ann_rules.specs.Rules.{value, is_unfit, pieces_for}
use Rattle.sound_values.specs.Values.{Sort, Is, Each, none, none_str, none_list, none_dict, none_inst, none_fun, flag, word, text, tuple, list, dict, inst, fun, clash, no_more, and_more}
use Rattle.sound_values.specs.Heaps.{IsOf, AreOf}
use Rattle.sound_rows.specs.Sound.{Fits, AllMet}
use Rattle.sound_rows.proofs.Tools.{above_clash}
use Rattle.key_laws.specs.Keys.{KeysAreKeys}
use Rattle.good_runs.specs.Good.{is_dict, is_dict_at}

both_on : (b c : Bool) → (b && c) ≡ true → (b ≡ true) × (c ≡ true)
both_on true c h = (refl, h)
both_on false c h = absurd (cc)

-- ---- a value of an element that can be a key has no part that is `None`

module _ (classes : List ClassInfo) (same : List ℕ) (sorts : List Sort) where
  mutual
    pub key_whole : (x : Shape) (v : Value) → Is classes same sorts x v → is_key x ≡ true → is_whole v ≡ true
    key_whole _ _ none h = absurd (cc)
    key_whole _ _ none_str h = absurd (cc)
    key_whole _ _ (none_list s) h = absurd (cc)
    key_whole _ _ (none_dict s) h = absurd (cc)
    key_whole _ _ (none_inst c) h = absurd (cc)
    key_whole _ _ (none_fun fs) h = absurd (cc)
    key_whole _ _ (flag known b l) h = refl
    key_whole _ _ (word n z) h = refl
    key_whole _ _ (text width bytes f) h = refl
    key_whole _ _ (tuple xs vs e) h = keys_whole xs vs e h
    key_whole _ _ (list s n r u e f) h = refl
    key_whole _ _ (dict s n r u e f) h = refl
    key_whole _ _ (inst c n r d e f) h = refl
    key_whole _ _ (fun fs n f e) h = refl
    key_whole _ _ (clash o p v) h = absurd (cc)

    keys_whole : (xs : Shapes) (vs : Values) → Each classes same sorts xs vs → are_keys xs ≡ true → are_whole vs ≡ true
    keys_whole _ _ no_more h = refl
    keys_whole _ _ (and_more x xs v vs i e) h =
        let hs = both_on (is_key x) (are_keys xs) h in
        both_back (is_whole v) (are_whole vs) (key_whole x v i hs.0) (keys_whole xs vs e hs.1)
      where
        both_back : (b c : Bool) → b ≡ true → c ≡ true → (b && c) ≡ true
        both_back b c e f = ap (λ d. d && c) e ∙ f

-- ---- operations

below_misfit : (k : List ClassInfo) (t : List ℕ) (z : Shape) → Below k t misfit z → is_key z ≡ true → ⊥
below_misfit k t _ (order.clash x o p i j) h = absurd (cc)

given_key : (k : List ClassInfo) (t : List ℕ) (b : Bool) (y z : Shape) → Below k t (given b y) z → is_key z ≡ true → b ≡ true
given_key k t true y z h i = refl
given_key k t false y z h i = absurd (below_misfit k t z h i)

dict_is : (x : Shape) → is_dict x ≡ true → (s : ℕ) × ((n : Bool) × (x ≡ Dct s n))
dict_is (Dct s n) h = (s, (n, refl))
dict_is Nothing h = absurd (cc)
dict_is NoneOnly h = absurd (cc)
dict_is (Truth b) h = absurd (cc)
dict_is (Num b) h = absurd (cc)
dict_is (Str w) h = absurd (cc)
dict_is (Tup xs) h = absurd (cc)
dict_is (Lst s n) h = absurd (cc)
dict_is (Inst c n) h = absurd (cc)
dict_is (Fun fs n) h = absurd (cc)
dict_is (Clash o p) h = absurd (cc)

under_first : (k : List ClassInfo) (t : List ℕ) (es fs : List Shape) (z : Shape) → Under k t (es ++ fs) z → Under k t es z
under_first k t [] fs z h = tt
under_first k t (e ∷ es) fs z h = (h.0, under_first k t es fs z h.1)

module _ (p : Whole) (a : Assignment) (g : ℕ) (keys : KeysAreKeys p a) (sorts : List Sort) where
  abbrev k : List ClassInfo
  k = p.tables.classes

  -- an operation that fits is no misfit
  no_misfit : (o : RowOp) (node : ℕ) (xs : List Shape) (z : Shape) → is_unfit p a g o xs node ≡ false → some_nothing xs ≡ false → Fits p a g o node xs z → (es : List Shape) → fitting p.tables o xs Nothing ≡ misfit ∷ es → ⊥
  no_misfit o node xs z fit reached fits es is = above_clash k a.same misfit z (first_piece (some_clash xs) refl).0 refl fits.free
    where
      all_pieces : Under k a.same (pieces_for p a g o xs (Nothing ∷ parts p a o xs)) z
      all_pieces = subst (λ b. Under k a.same (if b then misfit ∷ [] else pieces_for p a g o xs (Nothing ∷ parts p a o xs)) z) fit fits.above

      pieces_under : Under k a.same (pieces p.tables o xs Nothing) z
      pieces_under = under_first k a.same (pieces p.tables o xs Nothing) (pieces_for p a g o xs (parts p a o xs)) z all_pieces

      fitted : Under k a.same (if some_clash xs then misfit ∷ [] else fitting p.tables o xs Nothing) z
      fitted = subst (λ b. Under k a.same (if b then [] else if some_clash xs then misfit ∷ [] else fitting p.tables o xs Nothing) z) reached pieces_under

      first_piece : (b : Bool) → some_clash xs ≡ b → Below k a.same misfit z × Unit {0}
      first_piece true e = ((subst (λ b. Under k a.same (if b then misfit ∷ [] else fitting p.tables o xs Nothing) z) e fitted).0, tt)
      first_piece false e = ((subst (λ es. Under k a.same es z) is (subst (λ b. Under k a.same (if b then misfit ∷ [] else fitting p.tables o xs Nothing) z) e fitted)).0, tt)

  -- what is looked up in a dict can be a key
  looked_up : (s : ℕ) (y : Shape) (v : Value) → AllMet k a (to_keys p a s y) → IsOf p a sorts y v → is_whole v ≡ true
  looked_up s y v m is = key_whole k a.same sorts y v is (given_key k a.same (is_key y) y (keys_of p a s) m.0.0 (keys s))

  -- ---- methods

  dict_asked : (t : Method) (node s : ℕ) (n : Bool) (name : List ℕ) (site : Option ℕ) (y : Shape) (ys : List Shape) (v : Value) → method_named name ≡ t
      → ((es : List Shape) → dict_method t site (y ∷ ys) Nothing ≡ misfit ∷ es → ⊥) → AllMet k a (dict_asks p a t s site (y ∷ ys)) → IsOf p a sorts y v → is_whole v ≡ true
  dict_asked m.Get node s n name site y ys v e never met is = looked_up s y v met is
  dict_asked m.Keys node s n name None y ys v e never met is = absurd (never [] refl)
  dict_asked m.Keys node s n name (Some u) y ys v e never met is = absurd (never [] refl)
  dict_asked m.Values node s n name None y ys v e never met is = absurd (never [] refl)
  dict_asked m.Values node s n name (Some u) y ys v e never met is = absurd (never [] refl)
  dict_asked m.Items node s n name None y ys v e never met is = absurd (never [] refl)
  dict_asked m.Items node s n name (Some u) y ys v e never met is = absurd (never [] refl)
  dict_asked t node s n name site y ys v e never met is = absurd (never [] refl)

  -- ---- all

  module _ (node : ℕ) (z : Shape) where
    abbrev Key : RowOp → List Shape → List Value → Type 0
    Key o xs vs = some_nothing xs ≡ false → AreOf p a sorts xs vs → Fits p a g o node xs z → KeyIsWhole o vs

    compared_in : (x y : Shape) (v : Value) (u : Value) → is_dict y ≡ true → Fits p a g (row.Compare cmp.Within) node (x ∷ y ∷ []) z → IsOf p a sorts x v → is_whole v ≡ true
    compared_in x y v u d fits is =
        let it = dict_is y d in
        looked_up it.0 x v (subst (λ w. AllMet k a (asks p a (row.Compare cmp.Within) (x ∷ w ∷ []))) it.1.1 fits.met) is

    compared_out : (x y : Shape) (v : Value) (u : Value) → is_dict y ≡ true → Fits p a g (row.Compare cmp.NotWithin) node (x ∷ y ∷ []) z → IsOf p a sorts x v → is_whole v ≡ true
    compared_out x y v u d fits is =
        let it = dict_is y d in
        looked_up it.0 x v (subst (λ w. AllMet k a (asks p a (row.Compare cmp.NotWithin) (x ∷ w ∷ []))) it.1.1 fits.met) is

    within : (args : List ℕ) (vs : List Value) → is_dict_at p a g (container_of (row.Compare cmp.Within) args) ≡ true → Key (row.Compare cmp.Within) (map (value p a g) args) vs
    within [] vs d r are fits = absurd (cc)
    within (x ∷ []) vs d r are fits = absurd (cc)
    within (x ∷ y ∷ args) [] d r are fits = tt
    within (x ∷ y ∷ []) (v ∷ []) d r are fits = absurd are.1
    within (x ∷ y ∷ []) (v ∷ u ∷ vs) d r are fits = compared_in (value p a g x) (value p a g y) v u d fits are.0
    within (x ∷ y ∷ w ∷ []) (v ∷ vs) d r are fits = absurd (no_misfit (row.Compare cmp.Within) node (map (value p a g) (x ∷ y ∷ w ∷ [])) z refl r fits [] refl)
    within (x ∷ y ∷ w ∷ t ∷ args) (v ∷ vs) d r are fits = absurd (no_misfit (row.Compare cmp.Within) node (map (value p a g) (x ∷ y ∷ w ∷ t ∷ args)) z refl r fits [] refl)

    not_within : (args : List ℕ) (vs : List Value) → is_dict_at p a g (container_of (row.Compare cmp.NotWithin) args) ≡ true → Key (row.Compare cmp.NotWithin) (map (value p a g) args) vs
    not_within [] vs d r are fits = absurd (cc)
    not_within (x ∷ []) vs d r are fits = absurd (cc)
    not_within (x ∷ y ∷ args) [] d r are fits = tt
    not_within (x ∷ y ∷ []) (v ∷ []) d r are fits = absurd are.1
    not_within (x ∷ y ∷ []) (v ∷ u ∷ vs) d r are fits = compared_out (value p a g x) (value p a g y) v u d fits are.0
    not_within (x ∷ y ∷ w ∷ []) (v ∷ vs) d r are fits = absurd (no_misfit (row.Compare cmp.NotWithin) node (map (value p a g) (x ∷ y ∷ w ∷ [])) z refl r fits [] refl)
    not_within (x ∷ y ∷ w ∷ t ∷ args) (v ∷ vs) d r are fits = absurd (no_misfit (row.Compare cmp.NotWithin) node (map (value p a g) (x ∷ y ∷ w ∷ t ∷ args)) z refl r fits [] refl)

    indexed : (o : RowOp) (x y : Shape) (v : Value) (ys : List Shape) → ((s : ℕ) (n : Bool) → AllMet k a (asks p a o (Dct s n ∷ y ∷ ys)) → AllMet k a (to_keys p a s y)) → is_dict x ≡ true
        → Fits p a g o node (x ∷ y ∷ ys) z → IsOf p a sorts y v → is_whole v ≡ true
    indexed o x y v ys looks d fits is =
        let it = dict_is x d in
        looked_up it.0 y v (looks it.0 it.1.0 (subst (λ w. AllMet k a (asks p a o (w ∷ y ∷ ys))) it.1.1 fits.met)) is

    index : (l : Option ℤ) (args : List ℕ) (vs : List Value) → is_dict_at p a g (container_of (row.Index l) args) ≡ true → Key (row.Index l) (map (value p a g) args) vs
    index l args [] d r are fits = tt
    index l args (v ∷ []) d r are fits = tt
    index l [] (v ∷ u ∷ vs) d r are fits = absurd are
    index l (x ∷ []) (v ∷ u ∷ vs) d r are fits = absurd are.1
    index l (x ∷ y ∷ []) (v ∷ u ∷ vs) d r are fits = indexed (row.Index l) (value p a g x) (value p a g y) u [] (λ s n h. h) d fits are.1.0
    index l (x ∷ y ∷ w ∷ []) (v ∷ u ∷ vs) d r are fits = absurd (no_misfit (row.Index l) node (map (value p a g) (x ∷ y ∷ w ∷ [])) z refl r fits [] refl)
    index l (x ∷ y ∷ w ∷ t ∷ args) (v ∷ u ∷ vs) d r are fits = absurd (no_misfit (row.Index l) node (map (value p a g) (x ∷ y ∷ w ∷ t ∷ args)) z refl r fits [] refl)

    delete : (args : List ℕ) (vs : List Value) → is_dict_at p a g (container_of row.DeleteIndex args) ≡ true → Key row.DeleteIndex (map (value p a g) args) vs
    delete args [] d r are fits = tt
    delete args (v ∷ []) d r are fits = tt
    delete [] (v ∷ u ∷ vs) d r are fits = absurd are
    delete (x ∷ []) (v ∷ u ∷ vs) d r are fits = absurd are.1
    delete (x ∷ y ∷ []) (v ∷ u ∷ vs) d r are fits = indexed row.DeleteIndex (value p a g x) (value p a g y) u [] (λ s n h. h) d fits are.1.0
    delete (x ∷ y ∷ w ∷ []) (v ∷ u ∷ vs) d r are fits = absurd (no_misfit row.DeleteIndex node (map (value p a g) (x ∷ y ∷ w ∷ [])) z refl r fits [] refl)
    delete (x ∷ y ∷ w ∷ t ∷ args) (v ∷ u ∷ vs) d r are fits = absurd (no_misfit row.DeleteIndex node (map (value p a g) (x ∷ y ∷ w ∷ t ∷ args)) z refl r fits [] refl)

    store : (args : List ℕ) (vs : List Value) → is_dict_at p a g (container_of row.StoreIndex args) ≡ true → Key row.StoreIndex (map (value p a g) args) vs
    store args [] d r are fits = tt
    store args (v ∷ []) d r are fits = tt
    store [] (v ∷ u ∷ vs) d r are fits = absurd are
    store (x ∷ []) (v ∷ u ∷ vs) d r are fits = absurd are.1
    store (x ∷ y ∷ []) (v ∷ u ∷ vs) d r are fits = absurd (no_misfit row.StoreIndex node (map (value p a g) (x ∷ y ∷ [])) z refl r fits [] refl)
    store (x ∷ y ∷ w ∷ []) (v ∷ u ∷ vs) d r are fits = indexed row.StoreIndex (value p a g x) (value p a g y) u (value p a g w ∷ []) (λ s n h. (h.0, tt)) d fits are.1.0
    store (x ∷ y ∷ w ∷ t ∷ args) (v ∷ u ∷ vs) d r are fits = absurd (no_misfit row.StoreIndex node (map (value p a g) (x ∷ y ∷ w ∷ t ∷ args)) z refl r fits [] refl)

    called : (name : List ℕ) (site : Option ℕ) (x y : Shape) (ys : List Shape) (v : Value) → is_dict x ≡ true → some_nothing (x ∷ y ∷ ys) ≡ false → Fits p a g (row.Method name site) node (x ∷ y ∷ ys) z → IsOf p a sorts y v → is_whole v ≡ true
    called name site x y ys v d r fits is =
        let it = dict_is x d in
        let fits' : Fits p a g (row.Method name site) node (Dct it.0 it.1.0 ∷ y ∷ ys) z = subst (λ w. Fits p a g (row.Method name site) node (w ∷ y ∷ ys) z) it.1.1 fits in
        let reached : some_nothing (Dct it.0 it.1.0 ∷ y ∷ ys) ≡ false = ap (λ w. some_nothing (w ∷ y ∷ ys)) (sym it.1.1) ∙ r in
        dict_asked (method_named name) node it.0 it.1.0 name site y ys v refl (λ es e. no_misfit (row.Method name site) node (Dct it.0 it.1.0 ∷ y ∷ ys) z refl reached fits' es e) fits'.met is

    method : (name : List ℕ) (site : Option ℕ) (args : List ℕ) (vs : List Value) → is_dict_at p a g (container_of (row.Method name site) args) ≡ true → Key (row.Method name site) (map (value p a g) args) vs
    method name site args [] d r are fits = tt
    method name site args (v ∷ []) d r are fits = tt
    method name site [] (v ∷ u ∷ vs) d r are fits = absurd are
    method name site (x ∷ []) (v ∷ u ∷ vs) d r are fits = absurd are.1
    method name site (x ∷ y ∷ args) (v ∷ u ∷ vs) d r are fits = called name site (value p a g x) (value p a g y) (map (value p a g) args) u d r fits are.1.0

    pub key_of_operation : (o : RowOp) (args : List ℕ) (vs : List Value) → is_dict_at p a g (container_of o args) ≡ true → Key o (map (value p a g) args) vs
    key_of_operation (row.Compare cmp.Within) args vs d r are fits = within args vs d r are fits
    key_of_operation (row.Compare cmp.NotWithin) args vs d r are fits = not_within args vs d r are fits
    key_of_operation (row.Index l) args vs d r are fits = index l args vs d r are fits
    key_of_operation row.StoreIndex args vs d r are fits = store args vs d r are fits
    key_of_operation row.DeleteIndex args vs d r are fits = delete args vs d r are fits
    key_of_operation (row.Method name site) args vs d r are fits = method name site args vs d r are fits
    key_of_operation o args vs d r are fits = tt
