-- The worked programs: their annotations are closed and free.
use Rattle.std.proofs.Common.{◌≡◌, refl, sym, ap, ◌∙◌, subst, ℕ, zero, suc, inl, inr, ℤ, pos, Bool, true, false, List, [], ◌∷◌, Some, None, arith}
use Rattle.std.specs.Prelude.{nat_le, ◌&&◌}
use Rattle.std.proofs.lemmas.Bool.{false≢true, leb-true}
use Rattle.rpy_meaning.specs.declared.row.RowOp.{RowOp}
use Rattle.rpy_meaning.specs.declared.row.RowOp.TheVariants as row
use Rattle.ann_lattice.specs.Shape.{Any, One, OrNone, Shape, Nothing, NoneOnly, Truth, Num, Str, Lst}
use Rattle.ann_lattice.specs.Kind.{is_nothing}
use Rattle.ann_lattice.specs.Order.{Below, least, none as none_below, none_str, truth, num, str, list, clash}
use Rattle.flow_trees.specs.Tells.{by_ways}
use Rattle.flow_trees.specs.Tree.{Apply, Exprs, none, more, Name, Augment, If, Return, Local, done, line, Function}
use Rattle.rpy_tree.specs.declared.syntax.CmpOp.TheVariants as cmp
use Rattle.rpy_tree.specs.declared.syntax.BinOp.TheVariants as bin
use Rattle.ann_tree.specs.Faults.{OfConstant, OfFamily, shows}
use Rattle.ann_tree.specs.Annotation.{Annotation, Environment, Point, Never, Away, With, bind, narrow, within, At, Passes, IsBelow, Handler, IsFree}
use Rattle.ann_tree.specs.Gives.{Operates, LeadsTo, SeenBy, Gives, GivesAll, Test, Acts, AppliedAt, MarksFaults}
use Rattle.ann_lattice.specs.Join.{is_clash, depth}
use Rattle.ann_lattice.specs.Laws.{IsFormed, is_sound}
use Rattle.ann_lattice.proofs.Ordered.{and_left, and_right}
use Rattle.ann_rules.specs.Hold.{AllHold}
use Rattle.ann_rules.specs.Rules.{entry_needs, site_needs, numbered}
use Rattle.ann_tree.specs.Examples.{whole, objects, places, parts, annotated, counted_elements, asked_elements, guarded_elements, word, text, x, set_x, compare, counting, counted, asking, asked, guarding, guarded, returning, mistaken}
use Rattle.ann_tree.specs.Leaves.{Leaves, LeavesAll, Returns, GoesTo}
use Rattle.ann_tree.specs.Closed.{before, HasPlaces, IsClosed, IsClosedIn}

-- ---- well-formed elements

abbrev is_flat : Shape → Bool
is_flat x = is_sound x && nat_le (depth x) 8

flat : {x : Shape} → is_flat x ≡ true → IsFormed x
flat {x} h = record { sound = and_left (is_sound x) (nat_le (depth x) 8) h; shallow = leb-true (depth x) 8 (and_right (is_sound x) (nat_le (depth x) 8) h) }

-- ---- environments of two locals

abbrev Under : Shape → Shape → Type 0
Under s t = Passes [] (0 ∷ 1 ∷ []) s t

abbrev OfLocal : Environment → Environment → ℕ → Type 0
OfLocal e g i = Under (e.element i) (g.element i) × (e.unbound i ≡ true → g.unbound i ≡ true)

both : (e g : Environment) → OfLocal e g 0 → OfLocal e g 1 → IsBelow [] (0 ∷ 1 ∷ []) 2 e g
both e g a b zero h = a
both e g a b (suc zero) h = b
both e g a b (suc (suc i)) h = absurd (omega (arith, h))

-- the first local is the list of arguments
abbrev env : Shape → Bool → Environment
env s u = record { element = λ i. elim i [ zero ↦ Lst 0 false | suc j ↦ s ]; unbound = λ i. elim i [ zero ↦ false | suc j ↦ u ] }

arguments : Under (Lst 0 false) (Lst 0 false)
arguments = (list 0 0 false false refl tt, λ h. h)

to : (s t : Shape) (u v : Bool) → Under s t → (u ≡ true → v ≡ true) → IsBelow [] (0 ∷ 1 ∷ []) 2 (env s u) (env t v)
to s t u v below bound = both (env s u) (env t v) (arguments, λ h. h) (below, bound)

-- an environment that is bound or narrowed at the second local
bound_to : (s z t : Shape) (u v : Bool) → Under z t → IsBelow [] (0 ∷ 1 ∷ []) 2 (bind (env s u) 1 z) (env t v)
bound_to s z t u v below = both (bind (env s u) 1 z) (env t v) (arguments, λ h. h) (below, λ h. absurd (false≢true h))

narrow_to : (s z t : Shape) (u v : Bool) → Under z t → (u ≡ true → v ≡ true) → IsBelow [] (0 ∷ 1 ∷ []) 2 (narrow (env s u) 1 z) (env t v)
narrow_to s z t u v below h = both (narrow (env s u) 1 z) (env t v) (arguments, λ h. h) (below, h)

-- ---- no operation shows a fault

clear : (result : Shape) (elements : List Shape) (node : ℕ) (value : Bool) (o : RowOp) (xs : List Shape) → shows whole (parts result) OfConstant value o xs ≡ false → shows whole (parts result) OfFamily value o xs ≡ false
    → MarksFaults whole objects (annotated result elements) 2 node value o xs
clear result elements node value o xs constant family OfConstant some shown = absurd (false≢true (sym constant ∙ shown))
clear result elements node value o xs constant family OfFamily some shown = absurd (false≢true (sym family ∙ shown))

-- ---- expressions whose node has the element w

module _ (result : Shape) (elements : List Shape) (hs : List Handler) where
  abbrev a : Annotation
  a = annotated result elements

  -- an operation on what its operands give
  operation : (node : ℕ) (o : RowOp) (es : Exprs) (xs : List Shape) (e : Environment) (w y t : Shape) (v : Bool)
      → GivesAll whole objects a 2 hs es e xs (With (env t v)) → SeenBy whole objects a 2 hs (env t v) → by_ways o es ≡ false → Operates whole objects a 2 o node xs w → w ≡ a.element node → Under w y → Under t t
      → shows whole a.parts OfConstant true o xs ≡ false → shows whole a.parts OfFamily true o xs ≡ false
      → Gives whole objects a 2 hs (Apply node true o es) e y (With (env t v))
  operation node o es xs e w y t v operands seen plain does is below same constant family =
      (xs, inl (plain, (With (env t v), operands, (seen, (w, does, is, (λ h. (below, to t t v v same (λ h. h))), clear result elements node true o xs constant family)))))

  -- the second local
  reading : (node : ℕ) (s w y : Shape) (u : Bool) → SeenBy whole objects a 2 hs (env s u) → Operates whole objects a 2 row.Copy node (s ∷ []) w → w ≡ a.element node → Under w y → Under s s
      → Gives whole objects a 2 hs (x node) (env s u) y (With (env s u))
  reading node s w y u seen does is below same =
      (λ h lt. absurd (omega (arith, lt)), (seen, (w, does, is, (λ h. (below, to s s u u same (λ h. h))), clear result elements node true row.Copy (s ∷ []) refl refl)))

-- ---- a loop

int : Under (Num false) (Num false)
int = (num false false tt, λ h. h)

bool : Under (Truth None) (Truth None)
bool = (truth None None tt, λ h. h)

-- the second local is a word
abbrev a_word : Environment
a_word = env (Num false) false

still : IsBelow [] (0 ∷ 1 ∷ []) 2 a_word a_word
still = to (Num false) (Num false) false false int (λ h. h)

abbrev operates_as : (a : Annotation) → RowOp → ℕ → List Shape → Shape → Type 0
operates_as a o node xs z = Operates whole objects a 2 o node xs z

in_counted : (node : ℕ) (z : ℤ) (e : Environment) (y t : Shape) (v : Bool) → operates_as counted (row.Word z) node [] (Num false) → Num false ≡ counted.element node
    → LeadsTo whole objects counted 2 e (With (env t v)) → Under (Num false) y → Under t t
    → Gives whole objects counted 2 [] (word node z) e y (With (env t v))
in_counted node z e y t v does is leads below same = operation (Num false) counted_elements [] node (row.Word z) none [] e (Num false) y t v leads tt refl does is below same refl refl

first_line : Leaves whole objects counted 0 2 [] (set_x 2 (word 3 (pos 0)) 4) (before whole objects counted 0 counting) (record { next = With a_word; broken = Away; continued = Away; returned = Away })
first_line = (
  Num false,
  With (env Nothing true),
  in_counted 3 (pos 0) (before whole objects counted 0 counting) (Num false) Nothing true (refl, (λ h. ((int.0, tt), tt)), λ h. flat refl) refl
      (both (before whole objects counted 0 counting) (env Nothing true) (arguments, λ h. h) ((least Nothing, λ h. h), λ h. h)) int (least Nothing, λ h. h),
  (
    With a_word,
    (tt, (refl, (λ h. ((int.0, tt), tt)), λ h. flat refl), (λ h. bound_to Nothing (Num false) (Num false) true false int), clear (Num false) counted_elements 2 true row.Copy (Num false ∷ []) refl refl),
    still,
  ),
)

x_in_counted : (node : ℕ) → Num false ≡ counted.element node → Gives whole objects counted 2 [] (x node) a_word (Num false) (With a_word)
x_in_counted node is = reading (Num false) counted_elements [] node (Num false) (Num false) (Num false) false tt (refl, (λ h. ((int.0, tt), tt)), λ h. flat refl) is int int

sides : GivesAll whole objects counted 2 [] (more (x 5) (more (word 6 (pos 10)) none)) a_word (Num false ∷ Num false ∷ []) (With a_word)
sides = (With a_word, x_in_counted 5 refl, (With a_word, in_counted 6 (pos 10) a_word (Num false) (Num false) false (refl, (λ h. ((int.0, tt), tt)), λ h. flat refl) refl still int int, still))

-- where the test is false, x is at least 10, and so not below zero
test : Test whole objects counted 2 [] 8 (compare 7 (x 5) (word 6 (pos 10))) a_word (With a_word) (With a_word)
test = inl (
  refl,
  (
    Num false ∷ Num false ∷ [],
    Truth None,
    With a_word,
    inl (
      refl,
      (
        With a_word,
        sides,
        (tt, (Truth None, (refl, (λ h. ((bool.0, tt), tt)), λ h. flat refl), refl, (λ h. (bool, still)), clear (Num false) counted_elements 7 true (row.Compare cmp.Lt) (Num false ∷ Num false ∷ []) refl refl)),
      ),
    ),
    (tt, Truth None, (refl, (λ h. ((bool.0, tt), tt)), λ h. flat refl), (λ h. still), (λ h. (Num false, (refl, (λ h. ((int.0, tt), tt)), λ h. flat refl), narrow_to (Num false) (Num false) (Num false) false false int (λ h. h)))),
  ),
)

turn : LeavesAll whole objects counted 0 2 [] (line (Augment 11 (Name 9 1) (row.Binary bin.Add (Some 1)) (word 10 (pos 1))) done) a_word
    (within (record { next = With a_word; broken = Away; continued = Away; returned = Away }) (With a_word) (With a_word))
turn = (
  With a_word,
  tt,
  (
    Num false,
    Num false,
    Num false,
    With a_word,
    With a_word,
    With a_word,
    (λ h lt. absurd (omega (arith, lt))),
    (tt, (Num false, (refl, (λ h. ((int.0, tt), tt)), λ h. flat refl), tt, (λ h. (int, still)), clear (Num false) counted_elements 9 false row.Copy (Num false ∷ []) refl refl)),
    in_counted 10 (pos 1) a_word (Num false) (Num false) false (refl, (λ h. ((int.0, tt), tt)), λ h. flat refl) refl still int int,
    (tt, (Num false, (refl, (λ h. ((int.0, tt), tt)), λ h. flat refl), tt, (λ h. (int, still)), clear (Num false) counted_elements 11 false (row.Binary bin.Add (Some 1)) (Num false ∷ Num false ∷ []) refl refl)),
    (tt, (refl, (λ h. ((int.0, tt), tt)), λ h. flat refl), (λ h. bound_to (Num false) (Num false) (Num false) false false int), clear (Num false) counted_elements 9 true row.Copy (Num false ∷ []) refl refl),
  ),
  (tt, still),
)

counting_body : IsClosedIn whole objects counted 0 counting
counting_body reached = (
  Never,
  (
    With a_word,
    tt,
    first_line,
    (
      tt,
      (
        With a_word,
        tt,
        (With a_word, With a_word, still, test, (tt, turn)),
        (tt, (Never, tt, (Num false, With a_word, x_in_counted 12 refl, ((λ lt. (int.0, tt)), tt)), tt)),
      ),
    ),
  ),
  tt,
)

-- ---- the rest of the program

string : Under (Str Any) (Str Any)
string = (str Any Any tt, λ h. h)

nothing : Under Nothing Nothing
nothing = (least Nothing, λ h. h)

-- each part has its place
are_placed : (result : Shape) (elements : List Shape) (function : Function) → HasPlaces whole objects (annotated result elements) (function ∷ [])
are_placed result elements function = record {
  of_functions = elim [ zero ↦ (omega arith, omega arith, λ i lt. omega arith) | suc f ↦ tt ];
  of_sites = elim [ zero ↦ λ lt. (omega arith, omega arith) | suc zero ↦ λ lt. (omega arith, omega arith) | suc (suc s) ↦ λ lt. absurd (omega (arith, lt)) ];
}

entry_holds : (result : Shape) → AllHold [] (parts result) (entry_needs whole (parts result))
entry_holds result = ((λ lt. (string.0, tt)), ((λ lt. (arguments.0, tt)), ((λ lt. refl), tt)))

sites_hold : (result : Shape) → AllHold [] (parts result) (numbered whole (parts result) (site_needs whole (parts result)) 0 whole.sites)
sites_hold result = (
  (λ lt. (string.0, tt)),
  (
    (λ lt. (string.0, tt)),
    (
      (λ lt. (nothing.0, tt)),
      (
        (λ lt. (nothing.0, tt)),
        ((λ lt. (nothing.0, tt)), ((λ lt. (nothing.0, tt)), ((λ lt. (nothing.0, tt)), ((λ lt. (nothing.0, tt)), tt)))),
      ),
    ),
  ),
)

are_free : (result : Shape) (elements : List Shape) → is_clash result ≡ false → IsFree places (annotated result elements)
are_free result elements free = record {
  params = λ f i. refl;
  results = λ f. free;
  attributes = λ c name. refl;
  items = elim [ zero ↦ refl | suc zero ↦ refl | suc (suc s) ↦ refl ];
  keys = elim [ zero ↦ refl | suc zero ↦ refl | suc (suc s) ↦ refl ];
}

pub counting_is_closed : IsClosed whole objects counted (counting ∷ [])
counting_is_closed = record {
  placed = are_placed (Num false) counted_elements counting;
  entry = entry_holds (Num false);
  functions_are = elim [ zero ↦ counting_body | suc f ↦ tt ];
  sites_are = sites_hold (Num false);
  free = are_free (Num false) counted_elements refl;
}

-- ---- a test for `None`

no_value : Under NoneOnly NoneOnly
no_value = (none_below, λ h. h)

text_or_none : Under (Str OrNone) (Str OrNone)
text_or_none = (str OrNone OrNone tt, λ h. h)

char : Under (Str One) (Str One)
char = (str One One tt, λ h. h)

any_int : Under (Num true) (Num true)
any_int = (num true true tt, λ h. h)

abbrev with_x : Shape → Point
with_x s = With (env s false)

asking_first : Leaves whole objects asked 0 2 [] (set_x 2 (Apply 3 true row.None none) 4) (before whole objects asked 0 asking) (record { next = with_x NoneOnly; broken = Away; continued = Away; returned = Away })
asking_first = (
  NoneOnly,
  With (env Nothing true),
  operation (Num true) asked_elements [] 3 row.None none [] (before whole objects asked 0 asking) NoneOnly NoneOnly Nothing true
      (both (before whole objects asked 0 asking) (env Nothing true) (arguments, λ h. h) (nothing, λ h. h)) tt refl (refl, (λ h. ((no_value.0, tt), tt)), λ h. flat refl) refl no_value nothing refl refl,
  (
    with_x NoneOnly,
    (tt, (refl, (λ h. ((no_value.0, tt), tt)), λ h. flat refl), (λ h. bound_to Nothing NoneOnly NoneOnly true false no_value), clear (Num true) asked_elements 2 true row.Copy (NoneOnly ∷ []) refl refl),
    to NoneOnly NoneOnly false false no_value (λ h. h),
  ),
)

unchanged : (s : Shape) → Under s s → IsBelow [] (0 ∷ 1 ∷ []) 2 (env s false) (env s false)
unchanged s same = to s s false false same (λ h. h)

a_word_in_asked : (node : ℕ) (z : ℤ) (s : Shape) → Operates whole objects asked 2 (row.Word z) node [] (Num false) → Num false ≡ asked.element node → Under s s
    → Gives whole objects asked 2 [] (word node z) (env s false) (Num false) (with_x s)
a_word_in_asked node z s does is same = operation (Num true) asked_elements [] node (row.Word z) none [] (env s false) (Num false) (Num false) s false (unchanged s same) tt refl does is int same refl refl

asking_if : Leaves whole objects asked 0 2 [] (If 8 (compare 7 (word 5 (pos 1)) (word 6 (pos 2))) (line (set_x 9 (text 10 (97 ∷ [])) 11) done) done) (env NoneOnly false)
    (record { next = with_x (Str OrNone); broken = Away; continued = Away; returned = Away })
asking_if = (
  with_x NoneOnly,
  with_x NoneOnly,
  inl (
    refl,
    (
      Num false ∷ Num false ∷ [],
      Truth None,
      with_x NoneOnly,
      inl (
        refl,
        (
          with_x NoneOnly,
          (
            with_x NoneOnly,
            a_word_in_asked 5 (pos 1) NoneOnly (refl, (λ h. ((int.0, tt), tt)), λ h. flat refl) refl no_value,
            (with_x NoneOnly, a_word_in_asked 6 (pos 2) NoneOnly (refl, (λ h. ((int.0, tt), tt)), λ h. flat refl) refl no_value, unchanged NoneOnly no_value),
          ),
          (
            tt,
            (Truth None, (refl, (λ h. ((bool.0, tt), tt)), λ h. flat refl), refl, (λ h. (bool, unchanged NoneOnly no_value)), clear (Num true) asked_elements 7 true (row.Compare cmp.Lt) (Num false ∷ Num false ∷ []) refl refl),
          ),
        ),
      ),
      (tt, Truth None, (refl, (λ h. ((bool.0, tt), tt)), λ h. flat refl), (λ h. unchanged NoneOnly no_value), (λ h. unchanged NoneOnly no_value)),
    ),
  ),
  (
    with_x (Str One),
    tt,
    (
      Str One,
      with_x NoneOnly,
      operation (Num true) asked_elements [] 10 (row.Str (97 ∷ [])) none [] (env NoneOnly false) (Str One) (Str One) NoneOnly false (unchanged NoneOnly no_value) tt refl (refl, (λ h. ((char.0, tt), tt)), λ h. flat refl) refl char no_value refl refl,
      (
        with_x (Str One),
        (tt, (refl, (λ h. ((char.0, tt), tt)), λ h. flat refl), (λ h. bound_to NoneOnly (Str One) (Str One) false false char), clear (Num true) asked_elements 9 true row.Copy (Str One ∷ []) refl refl),
        unchanged (Str One) char,
      ),
    ),
    (tt, to (Str One) (Str OrNone) false false (str One OrNone tt, λ h. flat refl) (λ h. h)),
  ),
  to NoneOnly (Str OrNone) false false (none_str, λ h. flat refl) (λ h. h),
)

-- where x is `None` it is nothing else, and behind the test it is a string
asking_none : Leaves whole objects asked 0 2 []
    (If 15 (Apply 14 true (row.Compare cmp.Is) (more (x 12) (more (Apply 13 true row.None none) none))) (line (Return 17 (word 16 (pos 0))) done) done) (env (Str OrNone) false)
    (record { next = with_x (Str Any); broken = Away; continued = Away; returned = Away })
asking_none = (
  with_x NoneOnly,
  with_x (Str Any),
  inl (
    refl,
    (
      Str OrNone ∷ NoneOnly ∷ [],
      Truth None,
      with_x (Str OrNone),
      inl (
        refl,
        (
          with_x (Str OrNone),
          (
            with_x (Str OrNone),
            reading (Num true) asked_elements [] 12 (Str OrNone) (Str OrNone) (Str OrNone) false tt (refl, (λ h. ((text_or_none.0, tt), tt)), λ h. flat refl) refl text_or_none text_or_none,
            (
              with_x (Str OrNone),
              operation (Num true) asked_elements [] 13 row.None none [] (env (Str OrNone) false) NoneOnly NoneOnly (Str OrNone) false (unchanged (Str OrNone) text_or_none) tt refl (refl, (λ h. ((no_value.0, tt), tt)), λ h. flat refl) refl no_value text_or_none refl refl,
              unchanged (Str OrNone) text_or_none,
            ),
          ),
          (
            tt,
            (
              Truth None,
              (refl, (λ h. ((bool.0, tt), tt)), λ h. flat refl),
              refl,
              (λ h. (bool, unchanged (Str OrNone) text_or_none)),
              clear (Num true) asked_elements 14 true (row.Compare cmp.Is) (Str OrNone ∷ NoneOnly ∷ []) refl refl,
            ),
          ),
        ),
      ),
      (
        tt,
        Truth None,
        (refl, (λ h. ((bool.0, tt), tt)), λ h. flat refl),
        (λ h. (NoneOnly, (refl, (λ h. ((no_value.0, tt), tt)), λ h. flat refl), narrow_to (Str OrNone) NoneOnly NoneOnly false false no_value (λ h. h))),
        (λ h. (Str Any, (refl, (λ h. ((string.0, tt), tt)), λ h. flat refl), narrow_to (Str OrNone) (Str Any) (Str Any) false false string (λ h. h))),
      ),
    ),
  ),
  (
    Never,
    tt,
    (
      Num false,
      with_x NoneOnly,
      a_word_in_asked 16 (pos 0) NoneOnly (refl, (λ h. ((int.0, tt), tt)), λ h. flat refl) refl no_value,
      ((λ lt. (num false true tt, tt)), tt),
    ),
    tt,
  ),
  unchanged (Str Any) string,
)

asking_last : Leaves whole objects asked 0 2 [] (Return 20 (Apply 19 true row.ToInt (more (x 18) none))) (env (Str Any) false)
    (record { next = Never; broken = Away; continued = Away; returned = Away })
asking_last = (
  Num true,
  with_x (Str Any),
  operation (Num true) asked_elements [] 19 row.ToInt (more (x 18) none) (Str Any ∷ []) (env (Str Any) false) (Num true) (Num true) (Str Any) false
      (with_x (Str Any), reading (Num true) asked_elements [] 18 (Str Any) (Str Any) (Str Any) false tt (refl, (λ h. ((string.0, tt), tt)), λ h. flat refl) refl string string, unchanged (Str Any) string)
      tt refl (refl, (λ h. ((any_int.0, tt), tt)), λ h. flat refl) refl any_int string refl refl,
  ((λ lt. (any_int.0, tt)), tt),
)

asking_body : IsClosedIn whole objects asked 0 asking
asking_body reached = (
  Never,
  (
    with_x NoneOnly,
    tt,
    asking_first,
    (
      tt,
      (
        with_x (Str OrNone),
        tt,
        asking_if,
        (
          tt,
          (
            with_x (Str Any),
            tt,
            asking_none,
            (tt, (Never, tt, asking_last, tt)),
          ),
        ),
      ),
    ),
  ),
  tt,
)

pub asking_is_closed : IsClosed whole objects asked (asking ∷ [])
asking_is_closed = record {
  placed = are_placed (Num true) asked_elements asking;
  entry = entry_holds (Num true);
  functions_are = elim [ zero ↦ asking_body | suc f ↦ tt ];
  sites_are = sites_hold (Num true);
  free = are_free (Num true) asked_elements refl;
}

-- ---- a handler

-- x as it may be before the body and behind it
abbrev maybe : Environment
maybe = env (Str Any) true

same_maybe : IsBelow [] (0 ∷ 1 ∷ []) 2 maybe maybe
same_maybe = to (Str Any) (Str Any) true true string (λ h. h)

-- the clause, and the list that it is the one handler of
abbrev catching : List Handler
catching = record { point = With maybe; bound = None } ∷ []

abbrev begin_guarding : Environment
begin_guarding = before whole objects guarded 0 guarding

abbrev unbound_x : Environment
unbound_x = env Nothing true

still_unbound : IsBelow [] (0 ∷ 1 ∷ []) 2 unbound_x unbound_x
still_unbound = to Nothing Nothing true true nothing (λ h. h)

begins_unbound : IsBelow [] (0 ∷ 1 ∷ []) 2 begin_guarding unbound_x
begins_unbound = both begin_guarding unbound_x (arguments, λ h. h) (nothing, λ h. h)

unbound_maybe : IsBelow [] (0 ∷ 1 ∷ []) 2 unbound_x maybe × Unit {0}
unbound_maybe = (to Nothing (Str Any) true true (least (Str Any), λ h. flat refl) (λ h. h), tt)

begins_maybe : IsBelow [] (0 ∷ 1 ∷ []) 2 begin_guarding maybe
begins_maybe = both begin_guarding maybe (arguments, λ h. h) ((least (Str Any), λ h. flat refl), λ h. h)

first_argument : Gives whole objects guarded 2 catching (Apply 6 true (row.Index (Some (pos 0))) (more (Local 4 0) (more (word 5 (pos 0)) none))) begin_guarding (Str Any) (With unbound_x)
first_argument =
    operation (Num true) guarded_elements catching 6 (row.Index (Some (pos 0))) (more (Local 4 0) (more (word 5 (pos 0)) none)) (Lst 0 false ∷ Num false ∷ []) begin_guarding (Str Any) (Str Any) Nothing true (
      With unbound_x,
      (
        (λ h lt. absurd (omega (arith, lt))),
        (
          (begins_maybe, tt),
          (Lst 0 false, (refl, (λ h. ((arguments.0, tt), tt)), λ h. flat refl), refl, (λ h. (arguments, begins_unbound)), clear (Num true) guarded_elements 4 true row.Copy (Lst 0 false ∷ []) refl refl),
        ),
      ),
      (
        With unbound_x,
        operation (Num true) guarded_elements catching 5 (row.Word (pos 0)) none [] unbound_x (Num false) (Num false) Nothing true still_unbound unbound_maybe refl (refl, (λ h. ((int.0, tt), tt)), λ h. flat refl) refl int nothing refl refl,
        still_unbound,
      ),
    )
    unbound_maybe refl (refl, (λ h. ((least (Str Any), (string.0, tt)), tt)), λ h. flat refl) refl string nothing refl refl

-- the handler is above the environments before and behind the statement of the body
in_body : LeavesAll whole objects guarded 0 2 catching (line (set_x 3 (Apply 6 true (row.Index (Some (pos 0))) (more (Local 4 0) (more (word 5 (pos 0)) none))) 7) done) begin_guarding
    (record { next = with_x (Str Any); broken = Away; continued = Away; returned = Away })
in_body = (
  with_x (Str Any),
  (begins_maybe, tt),
  (
    Str Any,
    With unbound_x,
    first_argument,
    (
      with_x (Str Any),
      (unbound_maybe, (refl, (λ h. ((string.0, tt), tt)), λ h. flat refl), (λ h. (bound_to Nothing (Str Any) (Str Any) true false string)), clear (Num true) guarded_elements 3 true row.Copy (Str Any ∷ []) refl refl),
      unchanged (Str Any) string,
    ),
  ),
  ((to (Str Any) (Str Any) false true string (λ h. absurd (false≢true h)), tt), unchanged (Str Any) string),
)

in_clause : LeavesAll whole objects guarded 0 2 [] (line (set_x 9 (text 10 (48 ∷ [])) 11) done) maybe
    (record { next = with_x (Str Any); broken = Away; continued = Away; returned = Away })
in_clause = (
  with_x (Str Any),
  tt,
  (
    Str One,
    With maybe,
    operation (Num true) guarded_elements [] 10 (row.Str (48 ∷ [])) none [] maybe (Str One) (Str One) (Str Any) true same_maybe tt refl (refl, (λ h. ((char.0, tt), tt)), λ h. flat refl) refl char string refl refl,
    (
      with_x (Str Any),
      (tt, (refl, (λ h. ((char.0, tt), tt)), λ h. flat refl), (λ h. bound_to (Str Any) (Str One) (Str Any) true false (str One Any tt, λ h. flat refl)), clear (Num true) guarded_elements 9 true row.Copy (Str One ∷ []) refl refl),
      unchanged (Str Any) string,
    ),
  ),
  (tt, unchanged (Str Any) string),
)

guarding_last : Leaves whole objects guarded 0 2 [] (Return 14 (Apply 13 true row.ToInt (more (x 12) none))) (env (Str Any) false)
    (record { next = Never; broken = Away; continued = Away; returned = Away })
guarding_last = (
  Num true,
  with_x (Str Any),
  operation (Num true) guarded_elements [] 13 row.ToInt (more (x 12) none) (Str Any ∷ []) (env (Str Any) false) (Num true) (Num true) (Str Any) false
      (with_x (Str Any), reading (Num true) guarded_elements [] 12 (Str Any) (Str Any) (Str Any) false tt (refl, (λ h. ((string.0, tt), tt)), λ h. flat refl) refl string string, unchanged (Str Any) string)
      tt refl (refl, (λ h. ((any_int.0, tt), tt)), λ h. flat refl) refl any_int string refl refl,
  ((λ lt. (any_int.0, tt)), tt),
)

guarding_body : IsClosedIn whole objects guarded 0 guarding
guarding_body reached = (
  Never,
  (
    with_x (Str Any),
    tt,
    (
      catching,
      with_x (Str Any),
      (With maybe, [], refl, in_clause, refl),
      in_body,
      unchanged (Str Any) string,
    ),
    (tt, (Never, tt, guarding_last, tt)),
  ),
  tt,
)

pub guarding_is_closed : IsClosed whole objects guarded (guarding ∷ [])
guarding_is_closed = record {
  placed = are_placed (Num true) guarded_elements guarding;
  entry = entry_holds (Num true);
  functions_are = elim [ zero ↦ guarding_body | suc f ↦ tt ];
  sites_are = sites_hold (Num true);
  free = are_free (Num true) guarded_elements refl;
}

-- ---- what is not closed

no_string : (y : Shape) → Below [] (0 ∷ 1 ∷ []) (Num false) y → Below [] (0 ∷ 1 ∷ []) y (Str Any) → ⊥
no_string y (num c d l) h = elim h [ ]
no_string y (clash z o q l m) h = elim h [ ]

-- a point that is led to is reached
led : (e : Environment) (q : Point) (P : Environment → Type 0) → LeadsTo whole objects mistaken 2 e q → At q P → (g : Environment) × P g
led e Never P h holds = absurd h
led e (With g) P h holds = (g, holds)

-- the literal gives a word, and leads on
literal_gives : (e : Environment) (y : Shape) (q : Point) → Gives whole objects mistaken 2 [] (word 2 (pos 1)) e y q → (g : Environment) × Under (Num false) y × LeadsTo whole objects mistaken 2 g q
literal_gives e y q (xs, inl h) = given xs h.1
  where
    acted : (g : Environment) → Acts whole objects mistaken 2 [] 2 true (row.Word (pos 1)) [] g y q → (d : Environment) × Under (Num false) y × LeadsTo whole objects mistaken 2 d q
    acted g (seen, (z, does, is, on, faults)) = let next = on (ap is_nothing is) in (g, subst (λ u. Under u y) is next.0, next.1)

    given : (xs : List Shape) → AppliedAt whole objects mistaken 2 [] 2 true (row.Word (pos 1)) (GivesAll whole objects mistaken 2 [] none) e xs y q → (g : Environment) × Under (Num false) y × LeadsTo whole objects mistaken 2 g q
    given [] (behind, leads, at_behind) =
        let r = led e behind (λ g. Acts whole objects mistaken 2 [] 2 true (row.Word (pos 1)) [] g y q) leads at_behind in
        acted r.0 r.1
    given (w ∷ xs) (behind, leads, at_behind) = absurd leads
literal_gives e y q (xs, inr h) = absurd (false≢true h.0)

mistaken_body : IsClosedIn whole objects mistaken 0 returning → ⊥
mistaken_body closed =
    let body = (closed refl).1 in
    let leaves = body.2 in
    let gives = literal_gives (before whole objects mistaken 0 returning) leaves.0 leaves.1 leaves.2 in
    let returns = led gives.0 leaves.1 (λ g. Returns whole objects mistaken 0 2 leaves.0 × GoesTo whole objects mistaken 0 2 g Away) gives.2 leaves.3 in
    no_string leaves.0 gives.1.0 (returns.1.0 (omega arith)).0

pub mistaken_is_not_closed : IsClosed whole objects mistaken (returning ∷ []) → ⊥
mistaken_is_not_closed closed = mistaken_body (closed.functions_are 0)
