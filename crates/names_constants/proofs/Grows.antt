-- The more values constants have, the more values expressions have.
use Rattle.std.proofs.Common.{◌≡◌, ℕ, ◌+◌, List, [], ◌∷◌, ◌++◌, length, map, Bool, true, false, Option, Some, None, sym, ap, refl, subst}
use Rattle.rpy_tree.specs.declared.program.Const.{Const}
use Rattle.rpy_tree.specs.declared.program.Const.TheVariants as const
use Rattle.rpy_tree.specs.declared.syntax.BinOp.{BinOp}
use Rattle.rpy_tree.specs.declared.syntax.Expr.{Expr, fold-Expr, map-Expr}
use Rattle.rpy_tree.specs.declared.syntax.Expr.TheFolds.{map-Target}
use Rattle.rpy_tree.specs.declared.syntax.Expr.TheOpen.{Expr-F, Target-F}
use Rattle.names_bound.specs.declared.stand.Stand.{Stand}
use Rattle.names_bound.specs.declared.stand.Stand.TheVariants as stand
use Rattle.names_found.specs.declared.part.Part.{Part}
use Rattle.names_rules.specs.Numbering.{next}
use Rattle.names_rules.specs.Order.{Item, Int, Str, Name, Attr, Unary, Binary, Call, Tuple, List_of, Dict, Slice, Comp, For, Multiply}
use Rattle.names_rules.specs.Parts.{expr_parts, target_parts, expr_item, target_item}
use Rattle.names_rules.proofs.Fusion.{expr_fuses}
use Rattle.names_rules.proofs.Runs.{expr_parts_mapped, target_parts_mapped, expr_item_mapped, target_item_mapped}
use Rattle.names_value.specs.Machine.{Pairs, stand_value, name_value, unary_value, binary_value, tuple_of, narrow}
use Rattle.names_constants.specs.Value.{Piece, Kept, values, value_with, listed, stored, pair_with, made_as, part, value, sites, at_node}
use Rattle.names_constants.specs.Visit as visit
use Rattle.names_constants.proofs.Order.{Below, AllBelow, Values, below_path, at_below}

-- ---- what has no value where a part has none

strict : {A B : Type 0} (f : Option A → Option B) → f None ≡ None → (x y : Option A) → Below x y → Below (f x) (f y)
strict f e None y h = subst (λ (o : Option _). Below o (f y)) (sym e) tt
strict f e (Some c) y h = below_path (f (Some c)) (f y) (ap f (sym h))

pairwise : {A B C : Type 0} (f : Option A → Option B → Option C) → ((y : Option B) → f None y ≡ None) → ((x : Option A) → f x None ≡ None) → (x x' : Option A) (y y' : Option B) → Below x x' → Below y y' → Below (f x y) (f x' y')
pairwise f e g None x' y y' h k = subst (λ (o : Option _). Below o (f x' y')) (sym (e y)) tt
pairwise f e g (Some a) x' None y' h k = subst (λ (o : Option _). Below o (f x' y')) (sym (g (Some a))) tt
pairwise f e g (Some a) x' (Some b) y' h k = below_path (f (Some a) (Some b)) (f x' y') (λ j. f (sym h j) (sym k j))

no_binary : (op : BinOp) (x : Option Const) → binary_value op x None ≡ None
no_binary op None = refl
no_binary op (Some c) = refl

no_more : (v : Option Const) → value_with v None ≡ None
no_more None = refl
no_more (Some v) = refl

-- ---- pieces

abbrev pub Alike : Piece → Piece → Type 0
Alike p q = (p.part ≡ q.part) × (p.node ≡ q.node) × Below p.value q.value

abbrev pub AllAlike : List Piece → List Piece → Type 0
AllAlike [] [] = Unit {0}
AllAlike [] (q ∷ qs) = ⊥
AllAlike (p ∷ ps) [] = ⊥
AllAlike (p ∷ ps) (q ∷ qs) = Alike p q × AllAlike ps qs

abbrev pub Keeps : Kept → Kept → Type 0
Keeps k l = (k.node ≡ l.node) × (k.sites ≡ l.sites)

pub values_grow : (ps qs : List Piece) → AllAlike ps qs → Below (values ps) (values qs)
values_grow [] [] h = refl
values_grow [] (q ∷ qs) h = absurd h
values_grow (p ∷ ps) [] h = absurd h
values_grow (p ∷ ps) (q ∷ qs) h = pairwise value_with (λ y. refl) no_more p.value q.value (values ps) (values qs) h.0.2 (values_grow ps qs h.1)

pair_grows : (k k' v v' : Option Const) (pairs : Pairs) → Below k k' → Below v v' → Below (pair_with k v pairs) (pair_with k' v' pairs)
pair_grows k k' v v' pairs h g = pairwise (λ a b. pair_with a b pairs) (λ y. refl) none_right k k' v v' h g where
  none_right : (x : Option Const) → pair_with x None pairs ≡ None
  none_right None = refl
  none_right (Some c) = refl

pub stored_grow : (ps qs : List Piece) (so_far more : Option Pairs) → AllAlike ps qs → Below so_far more → Below (stored so_far ps) (stored more qs)
stored_grow ps qs None more h k = tt
stored_grow [] [] (Some pairs) more h k = subst (λ (o : Option Pairs). Below (Some pairs) (stored o [])) (sym k) refl
stored_grow [] (q ∷ qs) (Some pairs) more h k = absurd h
stored_grow (p ∷ ps) [] (Some pairs) more h k = absurd h
stored_grow (p ∷ []) (q ∷ []) (Some pairs) more h k = tt
stored_grow (p ∷ []) (q ∷ r ∷ qs) (Some pairs) more h k = absurd h.1
stored_grow (p ∷ r ∷ ps) (q ∷ []) (Some pairs) more h k = absurd h.1
stored_grow (p ∷ r ∷ ps) (q ∷ t ∷ qs) (Some pairs) more h k =
    subst (λ (o : Option Pairs). Below (stored (pair_with p.value r.value pairs) ps) (stored o (q ∷ t ∷ qs))) (sym k)
    (stored_grow ps qs (pair_with p.value r.value pairs) (pair_with q.value t.value pairs) h.1.1 (pair_grows p.value q.value r.value t.value pairs h.0.2 h.1.0.2))

module _ (np bp : List ℕ → Part) (dotted : Part → List ℕ → Part) (V W : Values) (grows : AllBelow V W) where
  abbrev at_V : Item → List Piece → Kept → Piece × Kept
  at_V = at_node np bp dotted true V

  abbrev at_W : Item → List Piece → Kept → Piece × Kept
  at_W = at_node np bp dotted true W

  stand_grows : (s : Stand) → Below (stand_value V s) (stand_value W s)
  stand_grows (stand.Constant n) = at_below V W n grows
  stand_grows stand.NoneValue = refl
  stand_grows stand.TrueValue = refl
  stand_grows stand.FalseValue = refl
  stand_grows (stand.Function f) = refl
  stand_grows stand.MaxInt = refl
  stand_grows other = tt

  name_grows : (s : Stand) (late : Bool) → Below (name_value V s late) (name_value W s late)
  name_grows s true = tt
  name_grows s false = stand_grows s

  named_grows : (p q : Part) → p ≡ q → Below (name_value V p.stand p.late) (name_value W q.stand q.late)
  named_grows p q e = subst (λ (r : Part). Below (name_value V p.stand p.late) (name_value W r.stand r.late)) e (name_grows p.stand p.late)

  value_grows : (i : Item) (site site' : ℕ) (ps qs : List Piece) → site ≡ site' → AllAlike ps qs → Below (value np bp dotted true V i site ps) (value np bp dotted true W i site' qs)
  value_grows (Int v) site site' ps qs e h = refl
  value_grows (Str text) site site' ps qs e h = refl
  value_grows (Name name) site site' ps qs e h = name_grows (np name).stand (np name).late
  value_grows (Attr name) site site' [] qs e h = tt
  value_grows (Attr name) site site' (p ∷ []) [] e h = absurd h
  value_grows (Attr name) site site' (p ∷ []) (q ∷ []) e h = named_grows (dotted p.part name) (dotted q.part name) (ap (λ r. dotted r name) h.0.0)
  value_grows (Attr name) site site' (p ∷ []) (q ∷ r ∷ qs) e h = absurd h.1
  value_grows (Attr name) site site' (p ∷ r ∷ ps) qs e h = tt
  value_grows (Unary op) site site' [] qs e h = tt
  value_grows (Unary op) site site' (p ∷ []) [] e h = absurd h
  value_grows (Unary op) site site' (p ∷ []) (q ∷ []) e h = strict (unary_value op) refl p.value q.value h.0.2
  value_grows (Unary op) site site' (p ∷ []) (q ∷ r ∷ qs) e h = absurd h.1
  value_grows (Unary op) site site' (p ∷ r ∷ ps) qs e h = tt
  value_grows (Binary op) site site' [] qs e h = tt
  value_grows (Binary op) site site' (p ∷ []) qs e h = tt
  value_grows (Binary op) site site' (p ∷ r ∷ []) [] e h = absurd h
  value_grows (Binary op) site site' (p ∷ r ∷ []) (q ∷ []) e h = absurd h.1
  value_grows (Binary op) site site' (p ∷ r ∷ []) (q ∷ t ∷ []) e h = pairwise (binary_value op) (λ y. refl) (no_binary op) p.value q.value r.value t.value h.0.2 h.1.0.2
  value_grows (Binary op) site site' (p ∷ r ∷ []) (q ∷ t ∷ u ∷ qs) e h = absurd h.1.1
  value_grows (Binary op) site site' (p ∷ r ∷ u ∷ ps) qs e h = tt
  value_grows (Tuple count) site site' ps qs e h = strict tuple_of refl (values ps) (values qs) (values_grow ps qs h)
  value_grows (List_of count) site site' ps qs e h =
      subst (λ (n : ℕ). Below (made_as (const.List (narrow site)) (listed (values ps))) (made_as (const.List (narrow n)) (listed (values qs)))) e
      (strict (λ o. made_as (const.List (narrow site)) (listed o)) refl (values ps) (values qs) (values_grow ps qs h))
  value_grows (Dict count) site site' ps qs e h =
      subst (λ (n : ℕ). Below (made_as (const.Dict (narrow site)) (stored (Some []) ps)) (made_as (const.Dict (narrow n)) (stored (Some []) qs))) e
      (strict (made_as (const.Dict (narrow site))) refl (stored (Some []) ps) (stored (Some []) qs) (stored_grow ps qs (Some []) (Some []) h refl))
  value_grows i site site' ps qs e h = tt

  part_same : (i : Item) (ps qs : List Piece) → AllAlike ps qs → part np bp dotted true V i ps ≡ part np bp dotted true W i qs
  part_same (Attr name) [] [] h = refl
  part_same (Attr name) [] (q ∷ qs) h = absurd h
  part_same (Attr name) (p ∷ ps) [] h = absurd h
  part_same (Attr name) (p ∷ []) (q ∷ []) h = ap (λ r. dotted r name) h.0.0
  part_same (Attr name) (p ∷ []) (q ∷ r ∷ qs) h = absurd h.1
  part_same (Attr name) (p ∷ r ∷ ps) (q ∷ []) h = absurd h.1
  part_same (Attr name) (p ∷ r ∷ ps) (q ∷ t ∷ qs) h = refl
  part_same i ps qs h = refl

  sites_same : (i : Item) (n n' : ℕ) (ps qs : List Piece) → n ≡ n' → AllAlike ps qs → sites np bp dotted true V i n ps ≡ sites np bp dotted true W i n' qs
  sites_same (Call count) n n' [] [] e h = refl
  sites_same (Call count) n n' [] (q ∷ qs) e h = absurd h
  sites_same (Call count) n n' (p ∷ ps) [] e h = absurd h
  sites_same (Call count) n n' (p ∷ ps) (q ∷ qs) e h = λ j. Rattle.names_rules.specs.Sites.call (h.0.0 j) (e j)
  sites_same (Binary op) n n' ps qs e h = ap (Rattle.names_rules.specs.Sites.operator op) e
  sites_same (Slice count) n n' ps qs e h = ap Rattle.names_rules.specs.Sites.a_list e
  sites_same (List_of count) n n' ps qs e h = ap Rattle.names_rules.specs.Sites.a_list e
  sites_same (Dict count) n n' ps qs e h = ap Rattle.names_rules.specs.Sites.a_dict e
  sites_same (Comp count) n n' ps qs e h = ap Rattle.names_rules.specs.Sites.two_lists e
  sites_same For n n' ps qs e h = ap Rattle.names_rules.specs.Sites.a_list e
  sites_same Multiply n n' ps qs e h = ap Rattle.names_rules.specs.Sites.a_list e
  sites_same i n n' ps qs e h = refl

  abbrev Visit : Type 0
  Visit = Kept → Piece × Kept

  abbrev Related : Visit → Visit → Type 0
  Related v w = (k l : Kept) → Keeps k l → Alike (v k).0 (w l).0 × Keeps (v k).1 (w l).1

  pub node_related : (i : Item) (ps qs : List Piece) (k l : Kept) → AllAlike ps qs → Keeps k l → Alike (at_V i ps k).0 (at_W i qs l).0 × Keeps (at_V i ps k).1 (at_W i qs l).1
  node_related i ps qs k l h e = (
    (part_same i ps qs h, e.0, value_grows i (length k.sites) (length l.sites) ps qs (ap length e.1) h),
    (ap (next i) e.0, λ j. e.1 j ++ sites_same i k.node l.node ps qs e.0 h j),
  )

  record Both : Type 0 where
    left : Visit
    right : Visit
    related : Related left right

  parts_related : (bs : List Both) (k l : Kept) → Keeps k l
      → AllAlike (visit.parts Piece Kept at_V (map (λ b. b.left) bs) k).0 (visit.parts Piece Kept at_W (map (λ b. b.right) bs) l).0
      × Keeps (visit.parts Piece Kept at_V (map (λ b. b.left) bs) k).1 (visit.parts Piece Kept at_W (map (λ b. b.right) bs) l).1
  parts_related [] k l e = (tt, e)
  parts_related (b ∷ bs) k l e =
      let one : Alike (b.left k).0 (b.right l).0 × Keeps (b.left k).1 (b.right l).1 = b.related k l e in
      let rest : AllAlike (visit.parts Piece Kept at_V (map (λ b. b.left) bs) (b.left k).1).0 (visit.parts Piece Kept at_W (map (λ b. b.right) bs) (b.right l).1).0
      × Keeps (visit.parts Piece Kept at_V (map (λ b. b.left) bs) (b.left k).1).1 (visit.parts Piece Kept at_W (map (λ b. b.right) bs) (b.right l).1).1 = parts_related bs (b.left k).1 (b.right l).1 one.1 in
      ((one.0, rest.0), rest.1)

  abbrev lefts : Expr-F Both Both → Expr-F Visit Visit
  lefts x = map-Expr Both Both Visit Visit (λ b. b.left) (λ b. b.left) x

  abbrev rights : Expr-F Both Both → Expr-F Visit Visit
  rights x = map-Expr Both Both Visit Visit (λ b. b.right) (λ b. b.right) x

  abbrev target_lefts : Target-F Both Both → Target-F Visit Visit
  target_lefts x = map-Target Both Both Visit Visit (λ b. b.left) (λ b. b.left) x

  abbrev target_rights : Target-F Both Both → Target-F Visit Visit
  target_rights x = map-Target Both Both Visit Visit (λ b. b.right) (λ b. b.right) x

  node_both : (i : Item) (bs : List Both) → Related (λ k. visit.node_after Piece Kept at_V i (visit.parts Piece Kept at_V (map (λ b. b.left) bs) k)) (λ k. visit.node_after Piece Kept at_W i (visit.parts Piece Kept at_W (map (λ b. b.right) bs) k))
  node_both i bs k l e =
      let rest : AllAlike (visit.parts Piece Kept at_V (map (λ b. b.left) bs) k).0 (visit.parts Piece Kept at_W (map (λ b. b.right) bs) l).0
      × Keeps (visit.parts Piece Kept at_V (map (λ b. b.left) bs) k).1 (visit.parts Piece Kept at_W (map (λ b. b.right) bs) l).1 = parts_related bs k l e in
      node_related i (visit.parts Piece Kept at_V (map (λ b. b.left) bs) k).0 (visit.parts Piece Kept at_W (map (λ b. b.right) bs) l).0 (visit.parts Piece Kept at_V (map (λ b. b.left) bs) k).1 (visit.parts Piece Kept at_W (map (λ b. b.right) bs) l).1 rest.0 rest.1

  as_left : (x : Expr-F Both Both) → (λ k. visit.node_after Piece Kept at_V (expr_item x) (visit.parts Piece Kept at_V (map (λ b. b.left) (expr_parts x)) k)) ≡ visit.in_expr Piece Kept at_V (lefts x)
  as_left x = λ j k. visit.node_after Piece Kept at_V (sym (expr_item_mapped (λ b. b.left) x) j) (visit.parts Piece Kept at_V (sym (expr_parts_mapped (λ b. b.left) x) j) k)

  as_right : (x : Expr-F Both Both) → (λ k. visit.node_after Piece Kept at_W (expr_item x) (visit.parts Piece Kept at_W (map (λ b. b.right) (expr_parts x)) k)) ≡ visit.in_expr Piece Kept at_W (rights x)
  as_right x = λ j k. visit.node_after Piece Kept at_W (sym (expr_item_mapped (λ b. b.right) x) j) (visit.parts Piece Kept at_W (sym (expr_parts_mapped (λ b. b.right) x) j) k)

  target_as_left : (x : Target-F Both Both) → (λ k. visit.node_after Piece Kept at_V (target_item x) (visit.parts Piece Kept at_V (map (λ b. b.left) (target_parts x)) k)) ≡ visit.in_target Piece Kept at_V (target_lefts x)
  target_as_left x = λ j k. visit.node_after Piece Kept at_V (sym (target_item_mapped (λ b. b.left) x) j) (visit.parts Piece Kept at_V (sym (target_parts_mapped (λ b. b.left) x) j) k)

  target_as_right : (x : Target-F Both Both) → (λ k. visit.node_after Piece Kept at_W (target_item x) (visit.parts Piece Kept at_W (map (λ b. b.right) (target_parts x)) k)) ≡ visit.in_target Piece Kept at_W (target_rights x)
  target_as_right x = λ j k. visit.node_after Piece Kept at_W (sym (target_item_mapped (λ b. b.right) x) j) (visit.parts Piece Kept at_W (sym (target_parts_mapped (λ b. b.right) x) j) k)

  moved : (v v' w w' : Visit) → v ≡ v' → w ≡ w' → Related v w → Related v' w'
  moved v v' w w' e f h = subst (λ (x : Visit). Related x w') e (subst (λ (y : Visit). Related v y) f h)

  abbrev in_both : Expr-F Both Both → Both
  in_both x = record {
    left = visit.in_expr Piece Kept at_V (lefts x);
    right = visit.in_expr Piece Kept at_W (rights x);
    related = moved _ _ _ _ (as_left x) (as_right x) (node_both (expr_item x) (expr_parts x));
  }

  abbrev target_in_both : Target-F Both Both → Both
  target_in_both x = record {
    left = visit.in_target Piece Kept at_V (target_lefts x);
    right = visit.in_target Piece Kept at_W (target_rights x);
    related = moved _ _ _ _ (target_as_left x) (target_as_right x) (node_both (target_item x) (target_parts x));
  }

  abbrev both : Expr → Both
  both e = fold-Expr Both Both in_both target_in_both e

  left_is : (e : Expr) → (both e).left ≡ visit.expr Piece Kept at_V e
  left_is e = expr_fuses Both Both Visit Visit (λ b. b.left) (λ b. b.left) in_both target_in_both (visit.in_expr Piece Kept at_V) (visit.in_target Piece Kept at_V) (λ x. refl) (λ x. refl) e

  right_is : (e : Expr) → (both e).right ≡ visit.expr Piece Kept at_W e
  right_is e = expr_fuses Both Both Visit Visit (λ b. b.right) (λ b. b.right) in_both target_in_both (visit.in_expr Piece Kept at_W) (visit.in_target Piece Kept at_W) (λ x. refl) (λ x. refl) e

  pub expr_grows : (e : Expr) (k : Kept) → Alike (visit.expr Piece Kept at_V e k).0 (visit.expr Piece Kept at_W e k).0 × Keeps (visit.expr Piece Kept at_V e k).1 (visit.expr Piece Kept at_W e k).1
  expr_grows e k = moved (both e).left _ (both e).right _ (left_is e) (right_is e) (both e).related k k (refl, refl)
