-- What an annotation must be for the expressions and targets that are reached. A part is read in the environment before it: it asks what its
-- operations ask, what it gives is below an element, and the environment behind it is below that of a point.
use Rattle.std.specs.Prelude.{◌≡◌, ◌⊎◌, ℕ, suc, ℤ, pos, ◌||◌, ◌&&◌, not, Bool, true, false, List, [], ◌∷◌, get_or, Option, Some, None}
use Rattle.rpy_tree.specs.declared.program.Const.{Const}
use Rattle.rpy_tree.specs.Value.{Object}
use Rattle.rpy_meaning.specs.declared.row.RowOp.{RowOp}
use Rattle.rpy_meaning.specs.declared.row.RowOp.TheVariants as row
use Rattle.ann_lattice.specs.Shape.{Shape, Nothing}
use Rattle.ann_lattice.specs.Join.{is_clash}
use Rattle.ann_lattice.specs.Laws.{IsFormed}
use Rattle.ann_lattice.specs.Kind.{is_nothing, some_nothing}
use Rattle.ann_lattice.specs.Assign.{Set, Under, Holds}
use Rattle.ann_rules.specs.Program.{Whole}
use Rattle.ann_rules.specs.Asks.{asks}
use Rattle.ann_rules.specs.Rules.{asked, goes, is_narrowing}
use Rattle.ann_rules.specs.Hold.{AllHold}
use Rattle.rpy_meaning.specs.Meaning.{target_count}
use Rattle.flow_stands.specs.Stands as stands
use Rattle.flow_trees.specs.Tree.{Expr, Local, Constant, Apply, And, Or, Display, Comprehension, Exprs, none, more, Pairs, no_pairs, pair, Subject, Over, UpTo, FromTo, Condition, Always, Where, Target, Name, Attribute, Item, Parts, Targets, no_targets, more_targets, plain_subject, plain_targets}
use Rattle.ann_tree.specs.Annotation.{Annotation, Environment, Point, bind, narrow, At, Handler, Passes, Leads, Seen}
use Rattle.ann_tree.specs.Faults.{Flaw, shows}
use Rattle.flow_trees.specs.Tells.{Telling, tells, negates, by_ways}

-- an expression, or a test of one: in an environment, the elements, and the points behind it
abbrev pub Giving : Type 1
Giving = Environment → Shape → Point → Type 0

abbrev pub GivingAll : Type 1
GivingAll = Environment → List Shape → Point → Type 0

abbrev pub Weighing : Type 1
Weighing = Environment → List Shape → Shape → Point → Type 0

-- the points where it is true, and where it is not
abbrev pub Testing : Type 1
Testing = Environment → Point → Point → Type 0

-- a way on: to a point, where the value that was tested is wanted, with the element that it has there, or what the test tells of a local
pub record Way : Type 0 where
  pub to : Point
  pub value : Option Shape

abbrev pub plainly : Point → Way
plainly q = record { to = q; value = None }

abbrev pub with_value : Point → Shape → Way
with_value q x = record { to = q; value = Some x }

-- the element beside a local that a test tells of, of those of the test's operands
abbrev pub beside : Option ℕ → List Shape → List Shape
beside None xs = []
beside (Some place) xs = get_or xs place Nothing ∷ []

abbrev pub AreFormed : List Shape → Type 0
AreFormed [] = Unit {0}
AreFormed (x ∷ xs) = IsFormed x × AreFormed xs

abbrev pub is_raise : RowOp → Bool
is_raise row.Raise = true
is_raise other = false

-- evaluation goes on unless the result is unreached, where the operation does not only say what a test found; nothing follows what raises
abbrev pub stops : RowOp → Shape → Bool
stops o z = is_raise o || (not (is_narrowing o) && is_nothing z)

abbrev pub count : Targets → ℕ
count parts = target_count (plain_targets parts)

-- the step of a range
abbrev pub step_of : Subject → Option ℤ
step_of subject = stands.step_of (plain_subject subject)

-- The program, whose graphs are not read here; what its sites hold before the run; and the part's function, which has n locals.
module _ (p : Whole) (sites : List (Option Object)) (a : Annotation) (n : ℕ) where
  abbrev pub Fits : Shape → Shape → Type 0
  Fits x y = Passes p.tables.classes a.parts.same x y

  abbrev pub LeadsTo : Environment → Point → Type 0
  LeadsTo e q = Leads p.tables.classes a.parts.same n e q

  abbrev pub SeenBy : List Handler → Environment → Type 0
  SeenBy hs e = Seen p.tables.classes a.parts.same n hs e

  -- ---- operations

  -- the result is above the row, in no conflict, and well-formed where the operands are; the parts of the program are above what the operation asks
  -- of them
  abbrev pub Operates : RowOp → ℕ → List Shape → Shape → Type 0
  Operates o node xs z =
      (is_clash z ≡ false)
      × (some_nothing xs ≡ false → Under p.tables.classes a.parts.same (asked p a.parts 0 o xs node) z × AllHold p.tables.classes a.parts (asks p a.parts o xs))
      × (AreFormed xs → IsFormed z)

  -- the result of what gives the value of its node is the node's element
  abbrev pub IsOf : Bool → ℕ → Shape → Type 0
  IsOf true node z = z ≡ a.element node
  IsOf false node z = Unit {0}

  -- the node is marked where the operation, which is reached where its operands are, shows a fault of types
  abbrev pub MarksFaults : ℕ → Bool → RowOp → List Shape → Type 0
  MarksFaults node value o xs = (flaw : Flaw) → some_nothing xs ≡ false → shows p a.parts flaw value o xs ≡ true → a.faulty flaw node ≡ true

  -- an exception may come of any operation
  abbrev pub Acts : List Handler → ℕ → Bool → RowOp → List Shape → Giving
  Acts hs node value o xs e x q =
      SeenBy hs e × ((z : Shape) × Operates o node xs z × IsOf value node z × (stops o z ≡ false → Fits z x × LeadsTo e q) × MarksFaults node value o xs)

  -- what is taken is the result itself
  abbrev pub Takes : List Handler → ℕ → RowOp → List Shape → Giving
  Takes hs node o xs e x q = SeenBy hs e × Operates o node xs x × (stops o x ≡ false → LeadsTo e q)

  -- a local that may be unbound marks the node that reads it
  abbrev pub Marks : ℕ → ℕ → Environment → Type 0
  Marks node i e = e.unbound i ≡ true → Holds p.tables.classes a.parts (Set (p.places.unbound node))

  -- the operation that stores to a target has what is bound as its result, and leaves another environment
  abbrev pub Stores : List Handler → ℕ → RowOp → List Shape → Environment → Environment → Point → Type 0
  Stores hs node o xs e left q =
      SeenBy hs e × Operates o node xs (a.element node) × (is_nothing (a.element node) ≡ false → LeadsTo left q) × MarksFaults node true o xs

  -- ---- tests

  abbrev pub Tells : ℕ → Option Telling → List Shape → Environment → Point → Type 0
  Tells node None xs e q = LeadsTo e q
  Tells node (Some t) xs e q = (z : Shape) × Operates t.op node (e.element t.local ∷ beside t.beside xs) z × LeadsTo (narrow e t.local z) q

  abbrev pub GoesOn : ℕ → Option Telling → List Shape → Shape → Environment → Point → Option Shape → Type 0
  GoesOn node told xs x e q (Some y) = Fits x y × LeadsTo e q
  GoesOn node told xs x e q None = Tells node told xs e q

  -- the truth of x, which the expression gave for the operands xs: a way that it is known not to go is not gone
  abbrev pub Decides : List Handler → ℕ → Expr → List Shape → Shape → Environment → Way → Way → Type 0
  Decides hs node asker xs x e so other =
      SeenBy hs e
      × (t : Shape) × Operates row.Truth node (x ∷ []) t
      × (goes true t ≡ true → GoesOn node (tells asker true) xs x e so.to so.value)
      × (goes false t ≡ true → GoesOn node (tells asker false) xs x e other.to other.value)

  abbrev pub Asks : List Handler → ℕ → Expr → Weighing → Environment → Way → Way → Type 0
  Asks hs node asker W e so other = (xs : List Shape) × (x : Shape) × (behind : Point) × W e xs x behind × At behind (λ g. Decides hs node asker xs x g so other)

  abbrev pub Tests : List Handler → ℕ → Expr → Weighing → Testing
  Tests hs node asker W e so other = Asks hs node asker W e (plainly so) (plainly other)

  -- what is no operation has no operands
  abbrev pub Alone : Giving → Weighing
  Alone E e xs x q = (xs ≡ []) × E e x q

  -- ---- expressions, by what their parts give

  abbrev pub LocalAt : List Handler → ℕ → ℕ → Giving
  LocalAt hs node i e x q = Marks node i e × Acts hs node true row.Copy (e.element i ∷ []) e x q

  abbrev pub ConstantAt : List Handler → ℕ → Const → Giving
  ConstantAt hs node c e x q = Acts hs node true (row.Constant c) [] e x q

  abbrev pub AppliedAt : List Handler → ℕ → Bool → RowOp → GivingAll → Weighing
  AppliedAt hs node value o Es e xs x q = (behind : Point) × Es e xs behind × At behind (λ g. Acts hs node value o xs g x q)

  -- `not` of a test, which is false where the test is true
  abbrev pub NotAt : List Handler → ℕ → Testing → Giving
  NotAt hs node Test e x q =
      (y : Shape) × (so other meet : Point)
      × Test e so other
      × At so (λ g. Acts hs node false (row.Bool false) [] g y meet)
      × At other (λ g. Acts hs node false (row.Bool true) [] g y meet)
      × At meet (λ g. Acts hs node true row.Copy (y ∷ []) g x q)

  abbrev pub WeighAt : List Handler → ℕ → Bool → RowOp → Bool → GivingAll → Testing → Weighing
  WeighAt hs node value o ways Es Test e xs x q = ((ways ≡ false) × AppliedAt hs node value o Es e xs x q) ⊎ ((ways ≡ true) × Alone (NotAt hs node Test) e xs x q)

  abbrev pub ApplyAt : List Handler → ℕ → Bool → RowOp → Bool → GivingAll → Testing → Giving
  ApplyAt hs node value o ways Es Test e x q = (xs : List Shape) × WeighAt hs node value o ways Es Test e xs x q

  -- the right part, or the value of the left one, where that decides
  abbrev pub AndAt : List Handler → ℕ → (Environment → Way → Way → Type 0) → Giving → Giving
  AndAt hs node Left Right e x q =
      (y : Shape) × (right meet : Point)
      × Left e (plainly right) (with_value meet y)
      × At right (λ g. Right g y meet)
      × At meet (λ g. Acts hs node true row.Copy (y ∷ []) g x q)

  abbrev pub OrAt : List Handler → ℕ → (Environment → Way → Way → Type 0) → Giving → Giving
  OrAt hs node Left Right e x q =
      (y : Shape) × (right meet : Point)
      × Left e (with_value meet y) (plainly right)
      × At right (λ g. Right g y meet)
      × At meet (λ g. Acts hs node true row.Copy (y ∷ []) g x q)

  -- a dict, and then the pairs that are stored to it
  abbrev pub DisplayAt : List Handler → ℕ → ℕ → (Shape → Environment → Point → Type 0) → Giving
  DisplayAt hs node site Pairs e x q =
      (dict : Shape) × (empty full : Point)
      × Acts hs node false (row.Dict site) [] e dict empty
      × At empty (λ g. Pairs dict g full)
      × At full (λ g. Acts hs node true row.Copy (dict ∷ []) g x q)

  -- the first turn is that of a walk over y from z on
  abbrev pub Starts : Shape → Shape → Environment → Shape → Shape → Point → Type 0
  Starts y z e over place q = Fits y over × Fits z place × LeadsTo e q

  -- what is walked, and the place in it: at the head there is an item, or none is left; and then the next place
  abbrev pub Walks : List Handler → ℕ → Option ℤ → (Environment → Shape → Point → Type 0) → Shape → Shape → Point → Point → Point → Point → Type 0
  Walks hs node step Bind over place head begin next after =
      At head (λ h.
      SeenBy hs h
      × (t : Shape) × Operates (row.HasItem step) node (over ∷ place ∷ []) t
      × (goes true t ≡ true → (y : Shape) × (taken : Point) × Acts hs node false (row.Item step) (over ∷ place ∷ []) h y taken × At taken (λ g. Bind g y begin))
      × (goes false t ≡ true → LeadsTo h after))
      × At next (λ g. Acts hs node false (row.Advance step) (over ∷ place ∷ []) g place head)

  -- the item that is added to the list, where the condition is true
  abbrev pub Gathers : List Handler → ℕ → Testing → Giving → Shape → Point → Point → Type 0
  Gathers hs node Test E list begin next =
      (so : Point)
      × At begin (λ g. Test g so next)
      × At so (λ g. (y added : Shape) × (behind : Point) × E g y behind × At behind (λ h. Acts hs node false row.AddItem (list ∷ y ∷ []) h added next))

  abbrev pub ComprehensionAt : List Handler → ℕ → ℕ → Option ℤ → (Environment → Shape → Shape → Point → Type 0) → (Environment → Shape → Point → Type 0) → Testing → Giving → Giving
  ComprehensionAt hs node site step Subject Bind Test E e x q =
      (list over place : Shape) × (empty head begin next after : Point)
      × Acts hs node false (row.Comprehension site) [] e list empty
      × At empty (λ g. Subject g over place head)
      × Walks hs node step Bind over place head begin next after
      × Gathers hs node Test E list begin next
      × At after (λ g. Acts hs node true row.Copy (list ∷ []) g x q)

  abbrev mutual
    -- in environment e the expression gives what is below x, with an environment below that of q
    pub Gives : List Handler → Expr → Giving
    Gives hs (Local node i) e x q = LocalAt hs node i e x q
    Gives hs (Constant node c v) e x q = ConstantAt hs node c e x q
    Gives hs (Apply node value o es) e x q = ApplyAt hs node value o (by_ways o es) (GivesAll hs es) (Negated hs node es) e x q
    Gives hs (And node l r) e x q = AndAt hs node (Asks hs node l (Weighs hs l)) (Gives hs r) e x q
    Gives hs (Or node l r) e x q = OrAt hs node (Asks hs node l (Weighs hs l)) (Gives hs r) e x q
    Gives hs (Display node site pairs) e x q = DisplayAt hs node site (Puts hs node pairs) e x q
    Gives hs (Comprehension node site item target subject condition) e x q =
        ComprehensionAt hs node site (step_of subject) (Begins hs node subject) (Binds hs target) (Guards hs node condition) (Gives hs item) e x q

    -- and its operands give what is below xs
    pub Weighs : List Handler → Expr → Weighing
    Weighs hs (Apply node value o es) e xs x q = WeighAt hs node value o (by_ways o es) (GivesAll hs es) (Negated hs node es) e xs x q
    Weighs hs (Local node i) e xs x q = Alone (LocalAt hs node i) e xs x q
    Weighs hs (Constant node c v) e xs x q = Alone (ConstantAt hs node c) e xs x q
    Weighs hs (And node l r) e xs x q = Alone (AndAt hs node (Asks hs node l (Weighs hs l)) (Gives hs r)) e xs x q
    Weighs hs (Or node l r) e xs x q = Alone (OrAt hs node (Asks hs node l (Weighs hs l)) (Gives hs r)) e xs x q
    Weighs hs (Display node site pairs) e xs x q = Alone (DisplayAt hs node site (Puts hs node pairs)) e xs x q
    Weighs hs (Comprehension node site item target subject condition) e xs x q =
        Alone (ComprehensionAt hs node site (step_of subject) (Begins hs node subject) (Binds hs target) (Guards hs node condition) (Gives hs item)) e xs x q

    -- one after another, from left to right
    pub GivesAll : List Handler → Exprs → GivingAll
    GivesAll hs none e [] q = LeadsTo e q
    GivesAll hs none e (x ∷ xs) q = ⊥
    GivesAll hs (more l ls) e [] q = ⊥
    GivesAll hs (more l ls) e (x ∷ xs) q = (behind : Point) × Gives hs l e x behind × At behind (λ g. GivesAll hs ls g xs q)

    -- a test for what has the node
    pub Test : List Handler → ℕ → Expr → Testing
    Test hs node (And inner l r) e so other = (right : Point) × Test hs inner l e right other × At right (λ g. Test hs inner r g so other)
    Test hs node (Or inner l r) e so other = (right : Point) × Test hs inner l e so right × At right (λ g. Test hs inner r g so other)
    Test hs node (Apply inner value o es) e so other =
        ((negates o es ≡ false) × Tests hs node (Apply inner value o es) (WeighAt hs inner value o (by_ways o es) (GivesAll hs es) (Negated hs inner es)) e so other)
        ⊎ ((negates o es ≡ true) × Negated hs inner es e other so)
    Test hs node (Local inner i) e so other = Tests hs node (Local inner i) (Alone (LocalAt hs inner i)) e so other
    Test hs node (Constant inner c v) e so other = Tests hs node (Constant inner c v) (Alone (ConstantAt hs inner c)) e so other
    Test hs node (Display inner site pairs) e so other = Tests hs node (Display inner site pairs) (Alone (DisplayAt hs inner site (Puts hs inner pairs))) e so other
    Test hs node (Comprehension inner site item target subject condition) e so other =
        Tests hs node (Comprehension inner site item target subject condition)
        (Alone (ComprehensionAt hs inner site (step_of subject) (Begins hs inner subject) (Binds hs target) (Guards hs inner condition) (Gives hs item))) e so other

    -- the one operand of `not`, as a test
    pub Negated : List Handler → ℕ → Exprs → Testing
    Negated hs node none e so other = ⊥
    Negated hs node (more l none) e so other = Test hs node l e so other
    Negated hs node (more l (more r rs)) e so other = ⊥

    -- pairs are stored to a dict, the key evaluated first
    pub Puts : List Handler → ℕ → Pairs → Shape → Environment → Point → Type 0
    Puts hs node no_pairs dict e q = LeadsTo e q
    Puts hs node (pair key value rest) dict e q =
        (x y stored : Shape) × (first second next : Point)
        × Gives hs key e x first
        × At first (λ g. Gives hs value g y second)
        × At second (λ g. Acts hs node false row.StoreIndex (dict ∷ x ∷ y ∷ []) g stored next)
        × At next (λ g. Puts hs node rest dict g q)

    -- what a loop or comprehension walks, and the first place in it; a range is walked as its end and its first number
    pub Begins : List Handler → ℕ → Subject → Environment → Shape → Shape → Point → Type 0
    Begins hs node (Over site l) e over place q =
        (x y z : Shape) × (behind walked last : Point)
        × Gives hs l e x behind
        × At behind (λ g. Acts hs node false (row.Walk site) (x ∷ []) g y walked)
        × At walked (λ g. Acts hs node false (row.Word (pos 0)) [] g z last)
        × At last (λ g. Starts y z g over place q)
    Begins hs node (UpTo l) e over place q =
        (y z : Shape) × (behind last : Point)
        × Gives hs l e y behind
        × At behind (λ g. Acts hs node false (row.Word (pos 0)) [] g z last)
        × At last (λ g. Starts y z g over place q)
    Begins hs node (FromTo l r step) e over place q =
        (y z : Shape) × (behind last : Point)
        × Gives hs l e z behind
        × At behind (λ g. Gives hs r g y last)
        × At last (λ g. Starts y z g over place q)

    pub Guards : List Handler → ℕ → Condition → Testing
    Guards hs node Always e so other = LeadsTo e so
    Guards hs node (Where l) e so other = Test hs node l e so other

    -- the target takes what has element x
    pub Binds : List Handler → Target → Environment → Shape → Point → Type 0
    Binds hs (Name node i) e x q = Stores hs node row.Copy (x ∷ []) e (bind e i (a.element node)) q
    Binds hs (Attribute node l name) e x q = (y : Shape) × (behind : Point) × Gives hs l e y behind × At behind (λ g. Stores hs node (row.StoreAttr name) (y ∷ x ∷ []) g g q)
    Binds hs (Item node l r) e x q =
        (y z : Shape) × (first second : Point)
        × Gives hs l e y first
        × At first (λ g. Gives hs r g z second)
        × At second (λ g. Stores hs node row.StoreIndex (y ∷ z ∷ x ∷ []) g g q)
    Binds hs (Parts node parts) e x q = (all : Shape) × (behind : Point) × Acts hs node true row.Copy (x ∷ []) e all behind × At behind (λ g. BindsItems hs node parts (count parts) 0 g x q)

    -- the targets from a place on take the items of a tuple
    pub BindsItems : List Handler → ℕ → Targets → ℕ → ℕ → Environment → Shape → Point → Type 0
    BindsItems hs node no_targets c i e x q = LeadsTo e q
    BindsItems hs node (more_targets t ts) c i e x q =
        (y : Shape) × (taken behind : Point)
        × Takes hs node (row.Unpack c i) (x ∷ []) e y taken
        × At taken (λ g. Binds hs t g y behind)
        × At behind (λ g. BindsItems hs node ts c (suc i) g x q)
