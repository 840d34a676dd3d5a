-- What is known where one assignment is below another in which all that is asked of it holds.
use Rattle.std.proofs.Common.{◌≡◌, ◌<◌, ◌≤◌, ℕ, zero, suc, Bool, true, false, List, [], ◌∷◌, ◌++◌, length, get_or, Option, Some, None, refl, sym, ap, ◌∙◌, arith, subst}
use Rattle.std.specs.Prelude.{◌&&◌, if◌then◌else◌}
use Rattle.rpy_tree.specs.declared.program.ClassInfo.{ClassInfo}
use Rattle.ann_element.specs.Sites.{leader, Same}
use Rattle.ann_lattice.specs.Shape.{Width, One, Any, OrNone, Shape, Nothing, NoneOnly, Truth, Num, Str, Tup, Lst, Dct, Inst, Fun, Clash, Shapes, end, more}
use Rattle.ann_lattice.specs.Order.{Below, least, none, none_str, none_list, none_dict, none_inst, none_fun, truth, num, str, tuple, list, dict, inst, fun, clash, Each, no_more, and_more, is_key, are_keys}
use Rattle.ann_lattice.specs.Join.{Within, is_clash}
use Rattle.ann_lattice.specs.Laws.{IsFormed}
use Rattle.ann_lattice.specs.Assign.{Assignment, at, mark, Less, Need, Up, Set, Under, Holds}
use Rattle.ann_lattice.specs.Kind.{misfit, given, is_nothing}
use Rattle.ann_lattice.proofs.Ordered.{below_self, below_on}
use Rattle.ann_laws.specs.Rows.{HasClasses}
use Rattle.ann_laws.proofs.Pairs.{no, yes, Pair, nones, or_str, or_list, or_dict, or_inst, or_fun, truths, nums, strs, tups, lsts, dcts, insts, funs, Rises, unpair, given_below, and_left, and_right, both}
use Rattle.ann_laws.proofs.Calls.{no_misfit, above_clash}
use Rattle.ann_rules.specs.Program.{Whole}
use Rattle.ann_rules.specs.Asks.{when, from_each, items_of, keys_of, to_items, to_keys, flow, look_up, look_up_key, hold, tie}
use Rattle.ann_rules.specs.Hold.{AllHold}

-- ---- lists of needs

module _ (k : List ClassInfo) (b : Assignment) where
  pub hold_append : (ms ns : List Need) → AllHold k b ms → AllHold k b ns → AllHold k b (ms ++ ns)
  hold_append [] ns h i = i
  hold_append (m ∷ ms) ns h i = (h.0, hold_append ms ns h.1 i)

  pub hold_left : (ms ns : List Need) → AllHold k b (ms ++ ns) → AllHold k b ms
  hold_left [] ns h = tt
  hold_left (m ∷ ms) ns h = (h.0, hold_left ms ns h.1)

  pub hold_right : (ms ns : List Need) → AllHold k b (ms ++ ns) → AllHold k b ns
  hold_right [] ns h = h
  hold_right (m ∷ ms) ns h = hold_right ms ns h.1

  pub hold_when : (c d : Bool) (ms ns : List Need) → (c ≡ true → d ≡ true) → (AllHold k b ns → AllHold k b ms) → AllHold k b (when d ns) → AllHold k b (when c ms)
  hold_when false d ms ns f g h = tt
  hold_when true true ms ns f g h = g h
  hold_when true false ms ns f g h = absurd (no (f refl))

  -- two lists in turn
  pub hold_both : (ms ns os ps : List Need) → (AllHold k b os → AllHold k b ms) → (AllHold k b ps → AllHold k b ns) → AllHold k b (os ++ ps) → AllHold k b (ms ++ ns)
  hold_both ms ns os ps f g h = hold_append ms ns (f (hold_left os ps h)) (g (hold_right os ps h))

  pub hold_each : {A : Type 0} → (f g : A → List Need) → ((x : A) → AllHold k b (g x) → AllHold k b (f x)) → (xs : List A) → AllHold k b (from_each g xs) → AllHold k b (from_each f xs)
  hold_each f g i [] h = tt
  hold_each f g i (x ∷ xs) h = hold_both (f x) (from_each f xs) (g x) (from_each g xs) (i x) (hold_each f g i xs) h

-- what can be a key above an element is one below it
module _ (k : List ClassInfo) (u : List ℕ) where
  mutual
    pub key_down : (x y : Shape) → Below k u x y → is_key y ≡ true → is_key x ≡ true
    key_down _ _ (least y) e = refl
    key_down _ _ (truth a b h) e = refl
    key_down _ _ (num a b h) e = refl
    key_down _ _ (str One b h) e = refl
    key_down _ _ (str Any b h) e = refl
    key_down _ _ (str OrNone OrNone h) e = absurd (no e)
    key_down _ _ (str OrNone One h) e = absurd h
    key_down _ _ (str OrNone Any h) e = absurd h
    key_down _ _ (tuple xs ys h) e = keys_down xs ys h e
    key_down _ _ h e = absurd (no e)

    keys_down : (xs ys : Shapes) → Each k u xs ys → are_keys ys ≡ true → are_keys xs ≡ true
    keys_down _ _ no_more e = refl
    keys_down _ _ (and_more x y xs ys h hs) e =
        both (is_key x) (are_keys xs) (key_down x y h (and_left (is_key y) (are_keys ys) e)) (keys_down xs ys hs (and_right (is_key y) (are_keys ys) e))

-- ---- parts

-- two cells are above each other
pub record Level (k : List ClassInfo) (b : Assignment) (c d : ℕ) : Type 0 where
  pub there : Below k b.same (at b c) (at b d)
  pub back : Below k b.same (at b d) (at b c)

pub record Facts (p : Whole) (a b : Assignment) : Type 0 where
  pub classes : HasClasses p.tables
  pub less : Less p.tables.classes a b
  pub formed : (c : ℕ) → IsFormed (at b c)
  pub leads : (s : ℕ) → leader a.same (leader a.same s) ≡ leader a.same s
  pub within : (s : ℕ) → leader a.same s < length p.sites
  pub within_too : (s : ℕ) → leader b.same s < length p.sites
  pub items : (s : ℕ) → s < length p.sites → Level p.tables.classes b (p.places.item s) (p.places.item (leader b.same s))
  pub keys : (s : ℕ) → s < length p.sites → Level p.tables.classes b (p.places.key s) (p.places.key (leader b.same s))
  pub item_there : (s : ℕ) → s < length p.sites → p.places.item s < length b.cells
  pub key_there : (s : ℕ) → s < length p.sites → p.places.key s < length b.cells
  pub item_free : (s : ℕ) → is_clash (at b (p.places.item s)) ≡ false
  pub key_free : (s : ℕ) → is_clash (at b (p.places.key s)) ≡ false

module _ (p : Whole) (a b : Assignment) (f : Facts p a b) where
  abbrev k : List ClassInfo
  k = p.tables.classes

  abbrev u : List ℕ
  u = b.same

  abbrev on : (x y z : Shape) → Below k u x y → Below k u y z → Below k u x z
  on x y z h i = below_on k f.classes.tree u x y h z i

  -- a site's least one is of its class in the larger assignment
  lead : (s : ℕ) → leader u (leader a.same s) ≡ leader u s
  lead s = f.less.same.by (leader a.same s) s (f.leads s)

  lead_on : (s v : ℕ) → Same u s v → leader u (leader a.same s) ≡ leader u v
  lead_on s v e = lead s ∙ e

  pub items_down : (s v : ℕ) → Same u s v → Below k u (items_of p a s) (items_of p b v)
  items_down s v e =
      on (at a (p.places.item (leader a.same s))) (at b (p.places.item (leader a.same s))) (items_of p b v) (f.less.cells (p.places.item (leader a.same s)))
      (subst (λ l. Below k u (at b (p.places.item (leader a.same s))) (at b (p.places.item l))) (lead_on s v e) (f.items (leader a.same s) (f.within s)).there)

  pub keys_down_to : (s v : ℕ) → Same u s v → Below k u (keys_of p a s) (keys_of p b v)
  keys_down_to s v e =
      on (at a (p.places.key (leader a.same s))) (at b (p.places.key (leader a.same s))) (keys_of p b v) (f.less.cells (p.places.key (leader a.same s)))
      (subst (λ l. Below k u (at b (p.places.key (leader a.same s))) (at b (p.places.key l))) (lead_on s v e) (f.keys (leader a.same s) (f.within s)).there)

  -- what is above y at the larger class is above x at the smaller
  item_up : (s v : ℕ) (x : Shape) → Same u s v → Below k u x (items_of p b v) → Below k u x (at b (p.places.item (leader a.same s)))
  item_up s v x e h =
      on x (items_of p b v) (at b (p.places.item (leader a.same s))) h
      (subst (λ l. Below k u (at b (p.places.item l)) (at b (p.places.item (leader a.same s)))) (lead_on s v e) (f.items (leader a.same s) (f.within s)).back)

  key_up : (s v : ℕ) (x : Shape) → Same u s v → Below k u x (keys_of p b v) → Below k u x (at b (p.places.key (leader a.same s)))
  key_up s v x e h =
      on x (keys_of p b v) (at b (p.places.key (leader a.same s))) h
      (subst (λ l. Below k u (at b (p.places.key l)) (at b (p.places.key (leader a.same s)))) (lead_on s v e) (f.keys (leader a.same s) (f.within s)).back)

  pub to_items_down : (s v : ℕ) (x y : Shape) → Same u s v → Below k u x y → AllHold k b (to_items p b v y) → AllHold k b (to_items p a s x)
  to_items_down s v x y e i h = (λ lt. (item_up s v x e (on x y (items_of p b v) i (h.0 (f.item_there (leader u v) (f.within_too v))).0), tt), tt)

  -- what rises to what is free of conflict
  pub to_items_rises : (s v : ℕ) (x y : Shape) → Same u s v → Rises k u x y → AllHold k b (to_items p b v y) → AllHold k b (to_items p a s x)
  to_items_rises s v x y e i h =
      let g : Below k u y (items_of p b v) = (h.0 (f.item_there (leader u v) (f.within_too v))).0 in
      (λ lt. (item_up s v x e (on x y (items_of p b v) (i (above_clash k u y (items_of p b v) (f.item_free (leader u v)) g)) g), tt), tt)

  pub to_keys_down : (s v : ℕ) (x y : Shape) → Same u s v → Below k u x y → AllHold k b (to_keys p b v y) → AllHold k b (to_keys p a s x)
  to_keys_down s v x y e i h =
      let g : Below k u (given (is_key y) y) (keys_of p b v) = (h.0 (f.key_there (leader u v) (f.within_too v))).0 in
      let clear : is_clash (given (is_key y) y) ≡ false = above_clash k u (given (is_key y) y) (keys_of p b v) (f.key_free (leader u v)) g in
      let j : Below k u (given (is_key x) x) (given (is_key y) y) = given_below k u (is_key x) (is_key y) x y (key_down k u x y i) i clear in
      (λ lt. (key_up s v (given (is_key x) x) e (on (given (is_key x) x) (given (is_key y) y) (keys_of p b v) j g), tt), tt)

  -- ---- what is asked by the kind of an operand

  pub flow_down : (x y : Shape) (s : ℕ) → Pair k u x y → AllHold k b (flow p b y s) → AllHold k b (flow p a x s)
  flow_down _ _ s (lsts t v c d e i) h = to_items_down s s (items_of p a t) (items_of p b v) refl (items_down t v e) h
  flow_down _ _ s q h = tt

  pub flow_into : (x y : Shape) (s v : ℕ) → Same u s v → Pair k u x y → AllHold k b (flow p b y v) → AllHold k b (flow p a x s)
  flow_into _ _ s w j (lsts t v c d e i) h = to_items_down s w (items_of p a t) (items_of p b v) j (items_down t v e) h
  flow_into _ _ s w j q h = tt

  pub look_up_down : (x y v w : Shape) → Pair k u x y → Below k u v w → AllHold k b (look_up p b y w) → AllHold k b (look_up p a x v)
  look_up_down _ _ v w (dcts s t c d e i) j h = to_keys_down s t v w e j h
  look_up_down _ _ v w (lsts s t c d e i) j h = to_items_down s t v w e j h
  look_up_down _ _ v w q j h = tt

  pub look_up_key_down : (x y v w : Shape) → Pair k u x y → Below k u v w → AllHold k b (look_up_key p b y w) → AllHold k b (look_up_key p a x v)
  look_up_key_down _ _ v w (dcts s t c d e i) j h = to_keys_down s t v w e j h
  look_up_key_down _ _ v w q j h = tt

  pub hold_down : (x y v w : Shape) → Pair k u x y → Below k u v w → AllHold k b (hold p b y w) → AllHold k b (hold p a x v)
  hold_down _ _ v w (dcts s t c d e i) j h = to_items_down s t v w e j h
  hold_down _ _ v w (lsts s t c d e i) j h = to_items_down s t v w e j h
  hold_down _ _ v w q j h = tt

  -- ---- cells

  pub up_down : (c : ℕ) (x y : Shape) → Below k u x y → Holds k b (Up c (y ∷ [])) → Holds k b (Up c (x ∷ []))
  up_down c x y i h = λ lt. (on x y (at b c) i (h lt).0, tt)

  pub tie_down : (c d : ℕ) → AllHold k b (tie p b c d) → AllHold k b (tie p a c d)
  tie_down c d h = (up_down c (at a d) (at b d) (f.less.cells d) h.0, (up_down d (at a c) (at b c) (f.less.cells c) h.1.0, tt))
