-- Targets, by the places of their parts. An item of a tuple is unpacked once to ask whether it is there and once to be taken: the trees take
-- what the row gives for the element that is held.
use Rattle.std.proofs.Common.{◌≡◌, ◌+◌, ◌<◌, ◌≤◌, ℕ, zero, suc, Bool, true, false, List, [], ◌∷◌, ◌++◌, length, None, refl, sym, ap, ◌∙◌, arith, subst}
use Rattle.std.specs.Prelude.{◌||◌, ◌==◌}
use Rattle.std.proofs.lemmas.Bool.{false_from_ne_true}
use Rattle.rpy_meaning.specs.declared.row.RowOp.TheVariants as row
use Rattle.flow_stands.specs.Places.{Scope, Jump, first, first_and}
use Rattle.flow_trees.specs.Marks as marks
use Rattle.flow_trees.specs.Marks.{Place, Step, Path}
use Rattle.ann_lattice.specs.Shape.{Shape as Element, Nothing, NoneOnly, Truth, Num, Str, Tup, Lst, Dct, Inst, Fun, Clash, Shapes, end, more, items}
use Rattle.ann_lattice.specs.Order.{least}
use Rattle.ann_lattice.specs.Join.{is_clash, no_clash, depths}
use Rattle.ann_lattice.specs.Laws.{IsFormed, is_sound, are_sound}
use Rattle.ann_lattice.specs.Assign.{Under}
use Rattle.ann_lattice.specs.Kind.{given, is_nothing, some_nothing}
use Rattle.ann_lattice.specs.Row.{nth}
use Rattle.ann_lattice.proofs.Ordered.{and_left, and_right}
use Rattle.ann_laws.proofs.Calls.{above_clash}
use Rattle.ann_rules.specs.Rules as rule
use Rattle.ann_tree.specs.Annotation.{Environment, Handler, elements_with}
use Rattle.ann_read.proofs.Places.{with_at}
use Rattle.ann_read.proofs.Links.{Known, k, u, Fits, on, self, var, Enters, Wide, Linked, go_first, go_and}
use Rattle.ann_read.proofs.Points.{Agree, agree_with, agree_before, agree_on, agree_self, enters_less}
use Rattle.ann_read.proofs.Acts.{acted, Given, asked_of, seen, live, SeenBy, no}
use Rattle.ann_read.proofs.Held.{wide_as, acts_wide}
use Rattle.ann_read.proofs.Values.{Caught}

module _ (c : Known) where
  -- what the row gives for an item of the element
  abbrev first_of : List Element → Element
  first_of [] = Nothing
  first_of (x ∷ xs) = x

  abbrev pub item_of : Step → Element → Element
  item_of step x = first_of (rule.asked c.p c.w 0 (row.Unpack step.count step.place) (x ∷ []) 0)

  pub asked_item : (step : Step) (node : ℕ) (x : Element) → Under (k c) (u c) (rule.asked c.p c.w 0 (row.Unpack step.count step.place) (x ∷ []) node) (item_of step x)
  asked_item step node Nothing = tt
  asked_item step node x = (self c (item_of step x), tt)

  item_below : (step : Step) (node : ℕ) (x r : Element) → Under (k c) (u c) (rule.asked c.p c.w 0 (row.Unpack step.count step.place) (x ∷ []) node) r → Fits c (item_of step x) r
  item_below step node Nothing r h = least r
  item_below step node x r h = h.0

  -- an item of what is well-formed is so, too
  nth_formed : (xs : Shapes) (place : ℕ) → are_sound xs ≡ true → depths xs ≤ 8 → IsFormed (nth xs place)
  nth_formed end place sound shallow = record { sound = refl; shallow = omega arith }
  nth_formed (more x xs) zero sound shallow = record { sound = and_left (is_sound x) (are_sound xs) sound; shallow = grind (arith, shallow) }
  nth_formed (more x xs) (suc place) sound shallow = nth_formed xs place (and_right (is_sound x) (are_sound xs) sound) (grind (arith, shallow))

  given_formed : (b : Bool) (x : Element) → IsFormed x → IsFormed (given b x)
  given_formed true x f = f
  given_formed false x f = record { sound = refl; shallow = omega arith }

  pub item_formed : (step : Step) (x : Element) → IsFormed x → IsFormed (item_of step x)
  item_formed step Nothing f = f
  item_formed step NoneOnly f = record { sound = refl; shallow = omega arith }
  item_formed step (Truth b) f = record { sound = refl; shallow = omega arith }
  item_formed step (Num b) f = record { sound = refl; shallow = omega arith }
  item_formed step (Str w) f = record { sound = refl; shallow = omega arith }
  item_formed step (Tup xs) f =
      given_formed (length (items xs) == step.count) (nth xs step.place)
      (nth_formed xs step.place (and_right (no_clash xs) (are_sound xs) f.sound) (let s = f.shallow in omega (arith, s)))
  item_formed step (Lst s b) f = record { sound = refl; shallow = omega arith }
  item_formed step (Dct s b) f = record { sound = refl; shallow = omega arith }
  item_formed step (Inst d b) f = record { sound = refl; shallow = omega arith }
  item_formed step (Fun fs b) f = record { sound = refl; shallow = omega arith }
  item_formed step (Clash o q) f = record { sound = refl; shallow = omega arith }

  -- along a path, and before its last step
  abbrev pub along : Path → Element → Element
  along [] x = x
  along (step ∷ path) x = along path (item_of step x)

  abbrev before : Path → Element → Element
  before [] x = x
  before (step ∷ []) x = x
  before (step ∷ next ∷ path) x = before (next ∷ path) (item_of step x)

  pub along_more : (path : Path) (step : Step) (x : Element) → along (path ++ step ∷ []) x ≡ item_of step (along path x)
  along_more [] step x = refl
  along_more (s ∷ path) step x = along_more path step (item_of s x)

  before_more : (path : Path) (step : Step) (x : Element) → before (path ++ step ∷ []) x ≡ along path x
  before_more [] step x = refl
  before_more (s ∷ []) step x = refl
  before_more (s ∷ t ∷ path) step x = before_more (t ∷ path) step (item_of s x)

  along_nothing : (path : Path) → along path Nothing ≡ Nothing
  along_nothing [] = refl
  along_nothing (step ∷ path) = along_nothing path

  before_nothing : (step : Step) (path : Path) → before (step ∷ path) Nothing ≡ Nothing
  before_nothing step [] = refl
  before_nothing step (next ∷ path) = before_nothing next path

  is_none : (x : Element) → is_nothing x ≡ true → x ≡ Nothing
  is_none Nothing e = refl
  is_none x e = cc

  some_first : (path : Path) (x : Element) → is_nothing (along path x) ≡ false → is_nothing x ≡ false
  some_first path x h = false_from_ne_true (is_nothing x) (λ t. no (sym h ∙ ap (λ y. is_nothing (along path y)) (is_none x t) ∙ ap is_nothing (along_nothing path)))

  some_before : (step : Step) (path : Path) (x : Element) → is_nothing (before (step ∷ path) x) ≡ false → is_nothing x ≡ false
  some_before step path x h = false_from_ne_true (is_nothing x) (λ t. no (sym h ∙ ap (λ y. is_nothing (before (step ∷ path) y)) (is_none x t) ∙ ap is_nothing (before_nothing step path)))

  -- an item along a path is there; where there is no path it is the element itself
  abbrev pub Some_item : Path → Element → Type 0
  Some_item [] x = Unit {0}
  Some_item (step ∷ path) x = is_nothing (along (step ∷ path) x) ≡ false

  pub some_more : (path : Path) (step : Step) (x : Element) → is_nothing (along (path ++ step ∷ []) x) ≡ false → Some_item (path ++ step ∷ []) x
  some_more [] step x h = h
  some_more (s ∷ path) step x h = h

module _ (c : Known) (sc : Scope) (hs : List Handler) where
  -- ---- one item after the other

  -- the tuple stands at a place of w variables, of which the first m stay
  pub record Chained (last : ℕ → Jump) (m : ℕ) (path : Path) (e : Environment) (h : ℕ → Element) (x : Element) : Type 0 where
    pub seen_by : SeenBy c hs e
    pub clear : is_nothing (before c path x) ≡ false → is_clash (along c path x) ≡ false
    pub taken : (q : ℕ) → is_nothing (along c path x) ≡ false → ((w : ℕ) → last w ≡ first_and q m w) → Enters c q (m + 1) e (elements_with h m (along c path x))
    pub there : (q : ℕ) → is_nothing (along c path x) ≡ false → ((w : ℕ) → last w ≡ first q m) → Enters c q m e h

  pub chain : (last : ℕ → Jump) (m : ℕ) (path : Path) (at w b lo hi : ℕ) (e : Environment) (g h : ℕ → Element) (x : Element) → marks.Unpacks c.program c.graphs c.f c.n sc last m path at w b lo hi
      → c.n ≤ m → c.n ≤ at → at < w → m ≤ w → Enters c b w e g → Agree m g h → Caught c sc hs m h → Fits c x (g at) → Chained last m path e h x
  chain last m [] at w b lo hi e g h x has le ge lt lu enters agree catches fits = absurd has
  chain last m (step ∷ []) at w b lo hi e g h x has le ge lt lu enters agree catches fits =
      let o = row.Unpack step.count step.place in
      let does = acted c sc b step.node false o (at ∷ []) w (last w) lo hi e g has (omega (arith, le, lu)) enters in
      let base : ℕ = has.0.0 in
      let r : Element = var c (base + w) in
      let given : Given c base (at ∷ []) (x ∷ []) = (on c x (g at) (var c (base + at)) fits (does.around.held at ge lt), tt) in
      let y : Element = item_of c step x in
      let below : is_nothing x ≡ false → Fits c y r = λ some. item_below c step step.node x r (asked_of c sc base w step.node false o (at ∷ []) (last w) e g does (x ∷ []) given (or_none x some)) in
      let linked : is_nothing y ≡ false → Linked c None base (last w) =
      λ some. live c sc base w step.node false o (at ∷ []) (last w) e g does y some (below (some_first c (step ∷ []) x some)) in
      record {
        seen_by = seen c sc base w step.node false o (at ∷ []) (last w) e g does hs m h lu agree catches;
        clear = λ some. above_clash (k c) (u c) y r does.kept.free (below some);
        taken = λ q some is.
            enters_less c q (m + 1) (m + 1) e (elements_with g m y) (elements_with h m y) (omega arith) (agree_with m g h y agree)
            (go_and c base w e g does.around q m w y le lu (below (some_first c (step ∷ []) x some)) (subst (λ j. Linked c None base j) (is w) (linked some)));
        there = λ q some is. enters_less c q m m e g h (omega arith) agree (go_first c base w e g does.around q m le lu (subst (λ j. Linked c None base j) (is w) (linked some)));
      }
    where
      or_none : (x : Element) → is_nothing x ≡ false → some_nothing (x ∷ []) ≡ false
      or_none x e = ap (λ b. b || false) e
  chain last m (step ∷ next ∷ path) at w b lo hi e g h x has le ge lt lu enters agree catches fits =
      let o = row.Unpack step.count step.place in
      let mid : ℕ = has.0 in
      let norm = first_and mid m w in
      let does = acted c sc b step.node false o (at ∷ []) w norm has.1 hi e g has.3 (omega (arith, le, lu)) enters in
      let base : ℕ = has.3.0.0 in
      let r : Element = var c (base + w) in
      let given : Given c base (at ∷ []) (x ∷ []) = (on c x (g at) (var c (base + at)) fits (does.around.held at ge lt), tt) in
      let y : Element = item_of c step x in
      let below : is_nothing x ≡ false → Fits c y r = λ some. item_below c step step.node x r (asked_of c sc base w step.node false o (at ∷ []) norm e g does (x ∷ []) given (ap (λ b. b || false) some)) in
      let g2 : ℕ → Element = elements_with g m y in
      let on_with : is_nothing y ≡ false → Chained last m (next ∷ path) e h y =
      λ some.
      chain last m (next ∷ path) m (m + 1) mid lo has.1 e g2 h y has.2 le le (omega arith) (omega arith)
      (go_and c base w e g does.around mid m w y le lu (below (some_first c (step ∷ []) x some)) (live c sc base w step.node false o (at ∷ []) norm e g does y some (below (some_first c (step ∷ []) x some))))
      (agree_on m m g2 g h (omega arith) (agree_before m m g y (omega arith)) agree) catches (subst (λ z. Fits c y z) (sym (with_at g m y)) (self c y)) in
      record {
        seen_by = seen c sc base w step.node false o (at ∷ []) norm e g does hs m h lu agree catches;
        clear = λ some. (on_with (some_before c next path y some)).clear some;
        taken = λ q some is. (on_with (some_first c (next ∷ path) y some)).taken q some is;
        there = λ q some is. (on_with (some_first c (next ∷ path) y some)).there q some is;
      }

  -- the first block takes the last item of a longer path
  pub record First (path : Path) (step : Step) (e : Environment) (x : Element) : Type 0 where
    pub seen_by : SeenBy c hs e
    pub clear : is_clash (along c (path ++ step ∷ []) x) ≡ false

  first_of_chain : (last : ℕ → Jump) (m : ℕ) (path : Path) (step : Step) (e : Environment) (h : ℕ → Element) (x : Element) → Chained last m (path ++ step ∷ []) e h x → First path step e x
  first_of_chain last m path step e h x chained = record {
    seen_by = chained.seen_by;
    clear = by_test (is_nothing (along c path x)) refl;
  }
    where
      by_test : (b : Bool) → is_nothing (along c path x) ≡ b → is_clash (along c (path ++ step ∷ []) x) ≡ false
      by_test false some = chained.clear (ap is_nothing (before_more c path step x) ∙ some)
      by_test true none = ap is_clash (along_more c path step x ∙ ap (λ y. item_of c step y) (is_none c (along c path x) none))

  pub first_taken : (path : Path) (step : Step) (at b m q v w lo hi : ℕ) (e : Environment) (h : ℕ → Element) → marks.Taken c.program c.graphs c.f c.n sc (path ++ step ∷ []) at b m q v w lo hi → c.n ≤ at → at < m → Enters c b m e h
      → Caught c sc hs m h → First path step e (h at)
  first_taken [] step at b m q v w lo hi e h has ge lt enters catches =
      first_of_chain (first_and q m) m [] step e h (h at) (chain (first_and q m) m (step ∷ []) at m b lo hi e h h (h at) has.2 (omega (arith, ge, lt)) ge lt (omega arith) enters (agree_self m h) catches (self c (h at)))
  first_taken (s ∷ path) step at b m q v w lo hi e h has ge lt enters catches =
      first_of_chain (first_and q m) m (s ∷ path) step e h (h at)
      (chain (first_and q m) m (s ∷ (path ++ step ∷ [])) at m b lo hi e h h (h at) has.2 (omega (arith, ge, lt)) ge lt (omega arith) enters (agree_self m h) catches (self c (h at)))

  pub first_there : (path : Path) (step : Step) (at b m q lo hi : ℕ) (e : Environment) (h : ℕ → Element) → marks.There c.program c.graphs c.f c.n sc (path ++ step ∷ []) at b m q lo hi → c.n ≤ at → at < m → Enters c b m e h
      → Caught c sc hs m h → First path step e (h at)
  first_there [] step at b m q lo hi e h has ge lt enters catches =
      first_of_chain (λ w. first q m) m [] step e h (h at) (chain (λ w. first q m) m (step ∷ []) at m b lo hi e h h (h at) has (omega (arith, ge, lt)) ge lt (omega arith) enters (agree_self m h) catches (self c (h at)))
  first_there (s ∷ path) step at b m q lo hi e h has ge lt enters catches =
      first_of_chain (λ w. first q m) m (s ∷ path) step e h (h at)
      (chain (λ w. first q m) m (s ∷ (path ++ step ∷ [])) at m b lo hi e h h (h at) has (omega (arith, ge, lt)) ge lt (omega arith) enters (agree_self m h) catches (self c (h at)))

  -- the item stands at a place of w variables
  pub record TakenAt (q v w m : ℕ) (e : Environment) (h : ℕ → Element) (x : Element) : Type 0 where
    pub g : ℕ → Element
    pub enters : Enters c q w e g
    pub agree : Agree m g h
    pub fits : Fits c x (g v)
    pub more : m ≤ w
    pub low : c.n ≤ v
    pub high : v < w

  pub taken_at : (path : Path) (at b m q v w lo hi : ℕ) (e : Environment) (h : ℕ → Element) (x : Element) → marks.Taken c.program c.graphs c.f c.n sc path at b m q v w lo hi → c.n ≤ at → at < m → Enters c b m e h
      → Caught c sc hs m h → Fits c x (h at) → Some_item c path x → TakenAt q v w m e h (along c path x)
  taken_at [] at b m q v w lo hi e h x has ge lt enters catches fits some =
      let v_is : v ≡ at = has.0 in
      let w_is : w ≡ m = has.1 in
      record {
        g = h;
        enters = subst (λ t. Enters c t w e h) has.2.0 (subst (λ l. Enters c b l e h) (sym w_is) enters);
        agree = agree_self m h;
        fits = subst (λ i. Fits c x (h i)) (sym v_is) fits;
        more = omega (arith, w_is);
        low = omega (arith, v_is, ge);
        high = omega (arith, v_is, w_is, lt);
      }
  taken_at (step ∷ path) at b m q v w lo hi e h x has ge lt enters catches fits some =
      let v_is : v ≡ m = has.0 in
      let w_is : w ≡ m + 1 = has.1 in
      let y : Element = along c (step ∷ path) x in
      let le : c.n ≤ m = omega (arith, ge, lt) in
      let chained = chain (first_and q m) m (step ∷ path) at m b lo hi e h h x has.2 le ge lt (omega arith) enters (agree_self m h) catches fits in
      record {
        g = elements_with h m y;
        enters = subst (λ l. Enters c q l e (elements_with h m y)) (sym w_is) (chained.taken q some (λ w. refl));
        agree = agree_before m m h y (omega arith);
        fits = subst (λ i. Fits c y (elements_with h m y i)) (sym v_is) (subst (λ z. Fits c y z) (sym (with_at h m y)) (self c y));
        more = omega (arith, w_is);
        low = omega (arith, v_is, le);
        high = omega (arith, v_is, w_is);
      }

  pub there_at : (path : Path) (at b m q lo hi : ℕ) (e : Environment) (h : ℕ → Element) → marks.There c.program c.graphs c.f c.n sc path at b m q lo hi → c.n ≤ at → at < m → Enters c b m e h → Caught c sc hs m h
      → Some_item c path (h at) → Enters c q m e h
  there_at [] at b m q lo hi e h has ge lt enters catches some = subst (λ t. Enters c t m e h) has.0 enters
  there_at (step ∷ path) at b m q lo hi e h has ge lt enters catches some =
      (chain (λ w. first q m) m (step ∷ path) at m b lo hi e h h (h at) has (omega (arith, ge, lt)) ge lt (omega arith) enters (agree_self m h) catches (self c (h at))).there q some (λ w. refl)

  unpacks_wide : (last : ℕ → Jump) (m : ℕ) (step : Step) (path : Path) (at w b lo hi : ℕ) → marks.Unpacks c.program c.graphs c.f c.n sc last m (step ∷ path) at w b lo hi → Wide c b w
  unpacks_wide last m step [] at w b lo hi has = acts_wide c sc b step.node false (row.Unpack step.count step.place) (at ∷ []) w (last w) lo hi has
  unpacks_wide last m step (next ∷ path) at w b lo hi has = acts_wide c sc b step.node false (row.Unpack step.count step.place) (at ∷ []) w (first_and has.0 m w) has.1 hi has.3

  pub taken_wide : (path : Path) (at b m q v w lo hi : ℕ) → marks.Taken c.program c.graphs c.f c.n sc path at b m q v w lo hi → Wide c q w → Wide c b m
  taken_wide [] at b m q v w lo hi has there = subst (λ t. Wide c t m) (sym has.2.0) (wide_as c q w m has.1 there)
  taken_wide (step ∷ path) at b m q v w lo hi has there = unpacks_wide (first_and q m) m step path at m b lo hi has.2

  pub there_wide : (path : Path) (at b m q lo hi : ℕ) → marks.There c.program c.graphs c.f c.n sc path at b m q lo hi → Wide c q m → Wide c b m
  there_wide [] at b m q lo hi has there = subst (λ t. Wide c t m) (sym has.0) there
  there_wide (step ∷ path) at b m q lo hi has there = unpacks_wide (λ w. first q m) m step path at m b lo hi has
