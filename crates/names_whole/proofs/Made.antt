-- The more values constants have, the more is made; and where an expression has a value already, nothing more.
use Rattle.std.proofs.Common.{◌≡◌, ℕ, ◌+◌, ◌≤◌, List, [], ◌∷◌, ◌++◌, append_assoc, append-nil, length, length-append, map, Bool, true, false, Option, Some, None, sym, ap, ◌∙◌, refl, arith, subst}
use Rattle.std.specs.Prelude.{not, ◌&&◌, ◌||◌}
use Rattle.rpy_tree.specs.declared.program.Const.{Const}
use Rattle.rpy_tree.specs.declared.program.Const.TheVariants as const
use Rattle.rpy_tree.specs.declared.syntax.BinOp.{BinOp}
use Rattle.rpy_tree.specs.declared.syntax.UnOp.{UnOp}
use Rattle.rpy_tree.specs.declared.syntax.Expr.{Expr}
use Rattle.rpy_tree.specs.declared.syntax.Expr.TheOpen.{Expr-F, Target-F}
use Rattle.names_bound.specs.declared.stand.Stand.{Stand}
use Rattle.names_bound.specs.declared.stand.Stand.TheVariants as stand
use Rattle.names_found.specs.declared.part.Part.{Part}
use Rattle.names_found.specs.declared.step.SiteAt.{SiteAt}
use Rattle.names_rules.specs.Order.{Item, Int, Str, Name, Attr, Unary, Binary, Tuple, List_of, Dict, Bind}
use Rattle.names_rules.specs.Parts.{expr_parts, target_parts, expr_item, target_item}
use Rattle.names_value.specs.Machine.{Pairs, store, stand_value, name_value, unary_value, binary_value, tuple_of, narrow}
use Rattle.names_constants.specs.Value.{Piece, Kept, from_node, values, value_with, listed, stored, pair_with, made_as, made_at, made, sites, at_node}
use Rattle.names_constants.specs.Visit as visit
use Rattle.names_constants.proofs.Grows.{Alike, AllAlike, Keeps, node_related, values_grow, stored_grow}
use Rattle.names_constants.proofs.Order.{Below, AllBelow, Values, below_path}
use Rattle.names_whole.proofs.Held.{Made, Among, among_itself, among_append, Rising, rising_append}
use Rattle.names_whole.proofs.Pairs.{Visit, Both, left_at, right_at, visits_related}

-- ---- a part has a value, or it stands for something

abbrev is_some : {A : Type 0} → Option A → Bool
is_some None = false
is_some (Some a) = true

abbrev is_nothing : Stand → Bool
is_nothing stand.Nothing = true
is_nothing other = false

abbrev pub is_firm : Piece → Bool
is_firm p = is_some p.value || not (is_nothing p.part.stand)

abbrev pub all_firm : List Piece → Bool
all_firm [] = true
all_firm (p ∷ ps) = is_firm p && all_firm ps

nothing_is : (s : Stand) → is_nothing s ≡ true → s ≡ stand.Nothing
nothing_is stand.Nothing h = refl
nothing_is (stand.Local l) h = absurd cc
nothing_is (stand.Function f) h = absurd cc
nothing_is (stand.Method f) h = absurd cc
nothing_is (stand.Class c) h = absurd cc
nothing_is (stand.Constant c) h = absurd cc
nothing_is (stand.Module m) h = absurd cc
nothing_is stand.Os h = absurd cc
nothing_is stand.Sys h = absurd cc
nothing_is stand.MaxInt h = absurd cc
nothing_is stand.NoneValue h = absurd cc
nothing_is stand.TrueValue h = absurd cc
nothing_is stand.FalseValue h = absurd cc
nothing_is stand.Object h = absurd cc
nothing_is stand.Missing h = absurd cc
nothing_is stand.Unknown h = absurd cc
nothing_is (stand.Builtin b) h = absurd cc

or_true : (b : Bool) → (b || true) ≡ true
or_true true = refl
or_true false = refl

or_false : (b : Bool) → (b || false) ≡ true → b ≡ true
or_false true h = refl
or_false false h = absurd cc

and_both : (a b : Bool) → a ≡ true → b ≡ true → (a && b) ≡ true
and_both a b h k = (λ j. h j && b) ∙ k

and_first : (a b : Bool) → (a && b) ≡ true → a ≡ true
and_first true b h = refl
and_first false b h = absurd cc

and_rest : (a b : Bool) → (a && b) ≡ true → b ≡ true
and_rest true b h = h
and_rest false b h = absurd cc

-- a part with a value is firm
firm_value : (p : Piece) → is_some p.value ≡ true → is_firm p ≡ true
firm_value p h = ap (λ b. b || not (is_nothing p.part.stand)) h

-- ---- displays whose values are there have parts whose values are there

with_some : (v : Option Const) (vs : Option (List Const)) → is_some (value_with v vs) ≡ true → (is_some v ≡ true) × (is_some vs ≡ true)
with_some None vs h = absurd cc
with_some (Some v) None h = absurd cc
with_some (Some v) (Some vs) h = (refl, refl)

values_firm : (ps : List Piece) → is_some (values ps) ≡ true → all_firm ps ≡ true
values_firm [] h = refl
values_firm (p ∷ ps) h = let both : (is_some p.value ≡ true) × (is_some (values ps) ≡ true) = with_some p.value (values ps) h in and_both (is_firm p) (all_firm ps) (firm_value p both.0) (values_firm ps both.1)

none_stored : (ps : List Piece) → is_some (stored None ps) ≡ true → ⊥
none_stored ps h = absurd cc

stored_firm : (ps : List Piece) (pairs : Pairs) → is_some (stored (Some pairs) ps) ≡ true → all_firm ps ≡ true
stored_firm [] pairs h = refl
stored_firm (p ∷ []) pairs h = absurd cc
stored_firm (p ∷ q ∷ ps) pairs h = by_values (λ more. stored_firm ps more) p.value q.value refl refl where
  by_values : ((more : Pairs) → is_some (stored (Some more) ps) ≡ true → all_firm ps ≡ true) → (a b : Option Const) → p.value ≡ a → q.value ≡ b → all_firm (p ∷ q ∷ ps) ≡ true
  by_values go None b e f = absurd (none_stored ps (ap (λ o. is_some (stored (pair_with o q.value pairs) ps)) (sym e) ∙ h))
  by_values go (Some a) None e f = absurd (none_stored ps ((λ j. is_some (stored (pair_with (sym e j) (sym f j) pairs) ps)) ∙ h))
  by_values go (Some a) (Some b) e f = and_both (is_firm p) (is_firm q && all_firm ps) (firm_value p (ap is_some e))
      (and_both (is_firm q) (all_firm ps) (firm_value q (ap is_some f)) (go (store pairs a b) ((λ j. is_some (stored (pair_with (sym e j) (sym f j) pairs) ps)) ∙ h)))

made_some : (c : Const) (o : Option Pairs) → is_some (made_as c o) ≡ true → is_some o ≡ true
made_some c None h = absurd cc
made_some c (Some pairs) h = refl

listed_some : (o : Option (List Const)) → is_some (listed o) ≡ true → is_some o ≡ true
listed_some None h = absurd cc
listed_some (Some vs) h = refl

tuple_some : (o : Option (List Const)) → is_some (tuple_of o) ≡ true → is_some o ≡ true
tuple_some None h = absurd cc
tuple_some (Some vs) h = refl

-- ---- leaves have no parts

abbrev Fits : {X : Type 0} → Item → List X → Type 0
Fits (Int v) ps = ps ≡ []
Fits (Str text) ps = ps ≡ []
Fits (Name name) ps = ps ≡ []
Fits (Bind name) ps = ps ≡ []
Fits i ps = Unit {0}

expr_fits : {X : Type 0} (x : Expr-F X X) → Fits (expr_item x) (expr_parts x)
expr_fits (Expr-F.Int n v) = refl
expr_fits (Expr-F.Str n text) = refl
expr_fits (Expr-F.Expr::Name n name) = refl
expr_fits (Expr-F.Unary n op a) = tt
expr_fits (Expr-F.Binary n op a b) = tt
expr_fits (Expr-F.Compare n op a b) = tt
expr_fits (Expr-F.Logic n is_and a b) = tt
expr_fits (Expr-F.Not n a) = tt
expr_fits (Expr-F.Call n f args) = tt
expr_fits (Expr-F.Expr::Attr n a name) = tt
expr_fits (Expr-F.Index n a i) = tt
expr_fits (Expr-F.Slice n a from to) = tt
expr_fits (Expr-F.Expr::Tuple n items) = tt
expr_fits (Expr-F.List n items) = tt
expr_fits (Expr-F.Dict n pairs) = tt
expr_fits (Expr-F.Comp n item target over test) = tt

target_fits : {X : Type 0} (x : Target-F X X) → Fits (target_item x) (target_parts x)
target_fits (Target-F.Target::Name n name) = refl
target_fits (Target-F.Target::Attr n a name) = tt
target_fits (Target-F.Item n a i) = tt
target_fits (Target-F.Target::Tuple n ts) = tt

-- ---- what a display makes

below_none : {A B : Type 0} (f : Option A → Option B) → f None ≡ None → (x y : Option A) → Below x y → Below (f x) (f y)
below_none f e None y h = subst (λ (o : Option _). Below o (f y)) (sym e) tt
below_none f e (Some c) y h = below_path (f (Some c)) (f y) (ap f (sym h))

at_among : (n n' : ℕ) (o o' : Option Pairs) → n ≡ n' → Below o o' → Among (made_at n o) (made_at n' o')
at_among n n' None o' e h = tt
at_among n n' (Some pairs) o' e h = subst (λ (ys : Made). Among (made_at n (Some pairs)) ys) (λ j. made_at (e j) (sym h j)) (among_itself (made_at n (Some pairs)))

at_rising : (n : ℕ) (o : Option Pairs) → Rising n (n + 1) (made_at n o)
at_rising n None = omega arith
at_rising n (Some pairs) = (omega arith, omega arith)

at_same : (n n' : ℕ) (o o' : Option Pairs) → n ≡ n' → Below o o' → is_some o ≡ true → made_at n o ≡ made_at n' o'
at_same n n' None o' e h s = absurd cc
at_same n n' (Some pairs) o' e h s = λ j. made_at (e j) (sym h j)

no_rise : (n : ℕ) (m : ℕ) → Rising n (n + m) []
no_rise n m = omega arith

module _ (np bp : List ℕ → Part) (dotted : Part → List ℕ → Part) (V W : Values) (grows : AllBelow V W)
    (none_dotted : (p : Part) (name : List ℕ) → p.stand ≡ stand.Nothing → (dotted p name).stand ≡ stand.Nothing) where
  abbrev at_V : Item → List Piece → Kept → Piece × Kept
  at_V = at_node np bp dotted true V

  abbrev at_W : Item → List Piece → Kept → Piece × Kept
  at_W = at_node np bp dotted true W

  abbrev made_V : Item → ℕ → List Piece → Made
  made_V = made np bp dotted true V

  abbrev made_W : Item → ℕ → List Piece → Made
  made_W = made np bp dotted true W

  list_below : (ps qs : List Piece) → AllAlike ps qs → Below (listed (values ps)) (listed (values qs))
  list_below ps qs h = below_none listed refl (values ps) (values qs) (values_grow ps qs h)

  dict_below : (ps qs : List Piece) → AllAlike ps qs → Below (stored (Some []) ps) (stored (Some []) qs)
  dict_below ps qs h = stored_grow ps qs (Some []) (Some []) h refl

  node_among : (i : Item) (n n' : ℕ) (ps qs : List Piece) → n ≡ n' → AllAlike ps qs → Among (made_V i n ps) (made_W i n' qs)
  node_among (List_of count) n n' ps qs e h = at_among n n' (listed (values ps)) (listed (values qs)) e (list_below ps qs h)
  node_among (Dict count) n n' ps qs e h = at_among n n' (stored (Some []) ps) (stored (Some []) qs) e (dict_below ps qs h)
  node_among i n n' ps qs e h = tt

  node_rising : (i : Item) (n node : ℕ) (qs : List Piece) → Rising n (n + length (sites np bp dotted true W i node qs)) (made_W i n qs)
  node_rising (List_of count) n node qs = at_rising n (listed (values qs))
  node_rising (Dict count) n node qs = at_rising n (stored (Some []) qs)
  node_rising i n node qs = no_rise n (length (sites np bp dotted true W i node qs))

  node_same : (i : Item) (n n' : ℕ) (ps qs : List Piece) (k : Kept) → n ≡ n' → AllAlike ps qs → is_firm (at_V i ps k).0 ≡ true → made_V i n ps ≡ made_W i n' qs
  node_same (List_of count) n n' ps qs k e h f = at_same n n' (listed (values ps)) (listed (values qs)) e (list_below ps qs h) (made_some (const.List (narrow (length k.sites))) (listed (values ps)) (or_false _ f))
  node_same (Dict count) n n' ps qs k e h f = at_same n n' (stored (Some []) ps) (stored (Some []) qs) e (dict_below ps qs h) (made_some (const.Dict (narrow (length k.sites))) (stored (Some []) ps) (or_false _ f))
  node_same i n n' ps qs k e h f = refl

  -- ---- a firm node has firm parts

  no_value : (s : Stand) (late : Bool) → s ≡ stand.Nothing → (is_some (name_value V s late) || not (is_nothing s)) ≡ false
  no_value s true e = ap (λ x. not (is_nothing x)) e
  no_value s false e = ap (λ x. is_some (stand_value V x) || not (is_nothing x)) e

  dotted_firm : (p : Piece) (name : List ℕ) (b : Bool) → is_nothing p.part.stand ≡ b → (is_some (name_value V (dotted p.part name).stand (dotted p.part name).late) || not (is_nothing (dotted p.part name).stand)) ≡ true → is_firm p ≡ true
  dotted_firm p name false e f = ap (λ b. is_some p.value || not b) e ∙ or_true (is_some p.value)
  dotted_firm p name true e f = absurd (clash (sym (no_value (dotted p.part name).stand (dotted p.part name).late (none_dotted p.part name (nothing_is p.part.stand e))) ∙ f)) where
    clash : false ≡ true → ⊥
    clash h = absurd cc

  unary_some : (op : UnOp) (o : Option Const) → is_some (unary_value op o) ≡ true → is_some o ≡ true
  unary_some op None h = absurd cc
  unary_some op (Some c) h = refl

  binary_some : (op : BinOp) (a b : Option Const) → is_some (binary_value op a b) ≡ true → (is_some a ≡ true) × (is_some b ≡ true)
  binary_some op None b h = absurd cc
  binary_some op (Some a) None h = absurd cc
  binary_some op (Some a) (Some b) h = (refl, refl)

  none_firm : (ps : List Piece) → ps ≡ [] → all_firm ps ≡ true
  none_firm ps e = ap all_firm e

  parts_firm : (i : Item) (ps : List Piece) (k : Kept) → Fits i ps → is_firm (at_V i ps k).0 ≡ true → all_firm ps ≡ true
  parts_firm (Int v) ps k fits f = none_firm ps fits
  parts_firm (Str text) ps k fits f = none_firm ps fits
  parts_firm (Name name) ps k fits f = none_firm ps fits
  parts_firm (Bind name) ps k fits f = none_firm ps fits
  parts_firm (Attr name) [] k fits f = absurd cc
  parts_firm (Attr name) (p ∷ []) k fits f = and_both (is_firm p) true (dotted_firm p name (is_nothing p.part.stand) refl f) refl
  parts_firm (Attr name) (p ∷ q ∷ ps) k fits f = absurd cc
  parts_firm (Unary op) [] k fits f = absurd cc
  parts_firm (Unary op) (p ∷ []) k fits f = and_both (is_firm p) true (firm_value p (unary_some op p.value (or_false _ f))) refl
  parts_firm (Unary op) (p ∷ q ∷ ps) k fits f = absurd cc
  parts_firm (Binary op) [] k fits f = absurd cc
  parts_firm (Binary op) (p ∷ []) k fits f = absurd cc
  parts_firm (Binary op) (p ∷ q ∷ []) k fits f =
      let both : (is_some p.value ≡ true) × (is_some q.value ≡ true) = binary_some op p.value q.value (or_false _ f) in
      and_both (is_firm p) (is_firm q && true) (firm_value p both.0) (and_both (is_firm q) true (firm_value q both.1) refl)
  parts_firm (Binary op) (p ∷ q ∷ r ∷ ps) k fits f = absurd cc
  parts_firm (Tuple count) ps k fits f = values_firm ps (tuple_some (values ps) (or_false _ f))
  parts_firm (List_of count) ps k fits f = values_firm ps (listed_some (values ps) (made_some (const.List (narrow (length k.sites))) (listed (values ps)) (or_false _ f)))
  parts_firm (Dict count) ps k fits f = stored_firm ps [] (made_some (const.Dict (narrow (length k.sites))) (stored (Some []) ps) (or_false _ f))
  parts_firm i ps k fits f = absurd cc

  -- ---- what two visits make, from where they begin

  pub record Makes (k l : Kept) (r t : Kept) (firm : Bool) : Type 0 where
    pub first : Made
    pub then : Made
    pub left : r.made ≡ k.made ++ first
    pub right : t.made ≡ l.made ++ then
    pub among : Among first then
    pub rising : Rising (length l.sites) (length t.sites) then
    pub same : firm ≡ true → first ≡ then

  abbrev pub Related : Visit → Visit → Type 0
  Related v w = (k l : Kept) → Keeps k l → Alike (v k).0 (w l).0 × Keeps (v k).1 (w l).1 × Makes k l (v k).1 (w l).1 (is_firm (v k).0)

  abbrev Two : Type 0
  Two = Both at_V at_W Related

  abbrev left_parts : List Two → Kept → List Piece × Kept
  left_parts bs k = visit.parts Piece Kept at_V (map (λ b. b.left) bs) k

  abbrev right_parts : List Two → Kept → List Piece × Kept
  right_parts bs l = visit.parts Piece Kept at_W (map (λ b. b.right) bs) l

  -- after these, more is made
  more_made : (k l k' l' r t : Kept) (a b c : Bool) → (c ≡ true → (a ≡ true) × (b ≡ true)) → Makes k l k' l' a → Makes k' l' r t b → Makes k l r t c
  more_made k l k' l' r t a b c firm x y = record {
    first = x.first ++ y.first;
    then = x.then ++ y.then;
    left = y.left ∙ ap (λ ms. ms ++ y.first) x.left ∙ append_assoc k.made x.first y.first;
    right = y.right ∙ ap (λ ms. ms ++ y.then) x.right ∙ append_assoc l.made x.then y.then;
    among = among_append x.first y.first x.then y.then x.among y.among;
    rising = rising_append x.then y.then (length l.sites) (length l'.sites) (length t.sites) x.rising y.rising;
    same = λ h j. x.same (firm h).0 j ++ y.same (firm h).1 j;
  }

  nothing_made : (k l : Kept) → Makes k l k l true
  nothing_made k l = record {
    first = [];
    then = [];
    left = sym (append-nil k.made);
    right = sym (append-nil l.made);
    among = tt;
    rising = itself (length l.sites);
    same = λ h. refl;
  } where
    itself : (n : ℕ) → n ≤ n
    itself n = omega arith

  parts_made : (bs : List Two) (k l : Kept) → Keeps k l → AllAlike (left_parts bs k).0 (right_parts bs l).0 × Keeps (left_parts bs k).1 (right_parts bs l).1 × Makes k l (left_parts bs k).1 (right_parts bs l).1 (all_firm (left_parts bs k).0)
  parts_made [] k l e = (tt, e, nothing_made k l)
  parts_made (b ∷ bs) k l e =
      let one : Alike (b.left k).0 (b.right l).0 × Keeps (b.left k).1 (b.right l).1 × Makes k l (b.left k).1 (b.right l).1 (is_firm (b.left k).0) = b.related k l e in
      let rest : AllAlike (left_parts bs (b.left k).1).0 (right_parts bs (b.right l).1).0 × Keeps (left_parts bs (b.left k).1).1 (right_parts bs (b.right l).1).1 × Makes (b.left k).1 (b.right l).1 (left_parts bs (b.left k).1).1 (right_parts bs (b.right l).1).1 (all_firm (left_parts bs (b.left k).1).0)
      = parts_made bs (b.left k).1 (b.right l).1 one.1 in (
        (one.0, rest.0),
        rest.1,
        more_made k l (b.left k).1 (b.right l).1 (left_parts bs (b.left k).1).1 (right_parts bs (b.right l).1).1 (is_firm (b.left k).0) (all_firm (left_parts bs (b.left k).1).0) (is_firm (b.left k).0 && all_firm (left_parts bs (b.left k).1).0)
            (λ h. (and_first (is_firm (b.left k).0) (all_firm (left_parts bs (b.left k).1).0) h, and_rest (is_firm (b.left k).0) (all_firm (left_parts bs (b.left k).1).0) h)) one.2 rest.2,
      )

  node_made : (i : Item) (ps qs : List Piece) (k l : Kept) → AllAlike ps qs → Keeps k l → Makes k l (at_V i ps k).1 (at_W i qs l).1 (is_firm (at_V i ps k).0)
  node_made i ps qs k l h e = record {
    first = made_V i (length k.sites) ps;
    then = made_W i (length l.sites) qs;
    left = refl;
    right = refl;
    among = node_among i (length k.sites) (length l.sites) ps qs (ap length e.1) h;
    rising = subst (λ (n : ℕ). Rising (length l.sites) n (made_W i (length l.sites) qs)) (sym (length-append l.sites (sites np bp dotted true W i l.node qs))) (node_rising i (length l.sites) l.node qs);
    same = λ f. node_same i (length k.sites) (length l.sites) ps qs k (ap length e.1) h f;
  }

  fits_visited : (i : Item) (bs : List Two) (k : Kept) → Fits i bs → Fits i (left_parts bs k).0
  fits_visited (Int v) bs k h = ap (λ xs. (left_parts xs k).0) h
  fits_visited (Str text) bs k h = ap (λ xs. (left_parts xs k).0) h
  fits_visited (Name name) bs k h = ap (λ xs. (left_parts xs k).0) h
  fits_visited (Bind name) bs k h = ap (λ xs. (left_parts xs k).0) h
  fits_visited i bs k h = tt

  both_made : (i : Item) (bs : List Two) → Fits i bs → Related (left_at at_V at_W Related i bs) (right_at at_V at_W Related i bs)
  both_made i bs fits k l e =
      let parts : AllAlike (left_parts bs k).0 (right_parts bs l).0 × Keeps (left_parts bs k).1 (right_parts bs l).1 × Makes k l (left_parts bs k).1 (right_parts bs l).1 (all_firm (left_parts bs k).0) = parts_made bs k l e in
      let node : Alike (at_V i (left_parts bs k).0 (left_parts bs k).1).0 (at_W i (right_parts bs l).0 (right_parts bs l).1).0 × Keeps (at_V i (left_parts bs k).0 (left_parts bs k).1).1 (at_W i (right_parts bs l).0 (right_parts bs l).1).1
      = node_related np bp dotted V W grows i (left_parts bs k).0 (right_parts bs l).0 (left_parts bs k).1 (right_parts bs l).1 parts.0 parts.1 in
      let firm : Bool = is_firm (at_V i (left_parts bs k).0 (left_parts bs k).1).0 in (
        node.0,
        node.1,
        more_made k l (left_parts bs k).1 (right_parts bs l).1 (at_V i (left_parts bs k).0 (left_parts bs k).1).1 (at_W i (right_parts bs l).0 (right_parts bs l).1).1 (all_firm (left_parts bs k).0) firm firm
            (λ h. (parts_firm i (left_parts bs k).0 (left_parts bs k).1 (fits_visited i bs k fits) h, h)) parts.2
            (node_made i (left_parts bs k).0 (right_parts bs l).0 (left_parts bs k).1 (right_parts bs l).1 parts.0 parts.1),
      )

  expr_made : (e : Expr) → Related (visit.expr Piece Kept at_V e) (visit.expr Piece Kept at_W e)
  expr_made = visits_related at_V at_W Related (λ x. both_made (expr_item x) (expr_parts x) (expr_fits x)) (λ x. both_made (target_item x) (target_parts x) (target_fits x))

  -- ---- an expression by itself

  abbrev of_V : Expr → ℕ → List SiteAt → Piece × Kept
  of_V e n ss = visit.expr Piece Kept at_V e (from_node n ss)

  abbrev of_W : Expr → ℕ → List SiteAt → Piece × Kept
  of_W e n ss = visit.expr Piece Kept at_W e (from_node n ss)

  makes : (e : Expr) (n : ℕ) (ss : List SiteAt) → Makes (from_node n ss) (from_node n ss) (of_V e n ss).1 (of_W e n ss).1 (is_firm (of_V e n ss).0)
  makes e n ss = (expr_made e (from_node n ss) (from_node n ss) (refl, refl)).2

  -- by more values more is made
  pub more_by_values : (e : Expr) (n : ℕ) (ss : List SiteAt) → Among (of_V e n ss).1.made (of_W e n ss).1.made
  more_by_values e n ss = let m : Makes (from_node n ss) (from_node n ss) (of_V e n ss).1 (of_W e n ss).1 (is_firm (of_V e n ss).0) = makes e n ss in
      subst (λ (xs : Made). Among xs (of_W e n ss).1.made) (sym m.left) (subst (λ (ys : Made). Among m.first ys) (sym m.right) m.among)

  -- what is made rises from the sites before to those after
  pub made_rises : (e : Expr) (n : ℕ) (ss : List SiteAt) → Rising (length ss) (length (of_W e n ss).1.sites) (of_W e n ss).1.made
  made_rises e n ss = let m : Makes (from_node n ss) (from_node n ss) (of_V e n ss).1 (of_W e n ss).1 (is_firm (of_V e n ss).0) = makes e n ss in
      subst (λ (xs : Made). Rising (length ss) (length (of_W e n ss).1.sites) xs) (sym m.right) m.rising

  -- where there is a value already, all is made already
  pub all_made : (e : Expr) (n : ℕ) (ss : List SiteAt) (c : Const) → (of_V e n ss).0.value ≡ Some c → (of_V e n ss).1.made ≡ (of_W e n ss).1.made
  all_made e n ss c h = let m : Makes (from_node n ss) (from_node n ss) (of_V e n ss).1 (of_W e n ss).1 (is_firm (of_V e n ss).0) = makes e n ss in
      m.left ∙ m.same (firm_value (of_V e n ss).0 (ap is_some h)) ∙ sym m.right
