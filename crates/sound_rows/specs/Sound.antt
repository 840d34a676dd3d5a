-- What is sound of an operation: it is never wrong, and what it gives is of what stands at its result.
use Rattle.std.specs.Prelude.{◌≡◌, ◌<◌, ℕ, suc, Bool, true, false, List, [], ◌∷◌, slice_get, unwrap_or, Option, Some, None}
use Rattle.rpy_tree.specs.declared.program.ClassInfo.{ClassInfo}
use Rattle.rpy_tree.specs.declared.program.Const.{Const}
use Rattle.rpy_tree.specs.Value.{Value}
use Rattle.rpy_meaning.specs.declared.row.Covers.{Covers}
use Rattle.rpy_meaning.specs.declared.row.RowOp.{RowOp}
use Rattle.rpy_meaning.specs.declared.row.RowOp.TheVariants as row
use Rattle.rpy_meaning.specs.Tree.{Program}
use Rattle.rpy_meaning.specs.World.{World, Answer, Gives, Throws, Fails, Lacks, Enters, Bad}
use Rattle.rpy_meaning.specs.Operations.{op, builtin_classes, constant}
use Rattle.ann_lattice.specs.Shape.{Shape}
use Rattle.ann_lattice.specs.Order.{Sub}
use Rattle.ann_lattice.specs.Join.{is_clash}
use Rattle.ann_lattice.specs.Assign.{Assignment, at, mark, Need, Up, Set, Under}
use Rattle.ann_rules.specs.Program.{Whole}
use Rattle.ann_rules.specs.Asks.{asks, defaults}
use Rattle.ann_rules.specs.Rules.{asked}
use Rattle.sound_values.specs.Values.{Sort, InstanceOf, Keeps}
use Rattle.sound_values.specs.Heaps.{IsOf, AreOf, IsTyped}
use Rattle.sound_rows.specs.Seen.{Sees}
use Rattle.sound_rows.specs.Told.{IsTold}

-- ---- what an operation may rest on

-- a need is met
abbrev pub IsMet : List ClassInfo → Assignment → Need → Type 0
IsMet k a (Up c es) = Under k a.same es (at a c)
IsMet k a (Set m) = mark a m ≡ true

abbrev pub AllMet : List ClassInfo → Assignment → List Need → Type 0
AllMet k a [] = Unit {0}
AllMet k a (n ∷ ns) = IsMet k a n × AllMet k a ns

-- z, which stands at the result of an operation with operands of these elements, at a node of a graph, is above all that is asked of it and in no
-- conflict; and what the operation asks of the parts of the program is met
pub record Fits (p : Whole) (a : Assignment) (g : ℕ) (o : RowOp) (node : ℕ) (xs : List Shape) (z : Shape) : Type 0 where
  pub above : Under p.tables.classes a.same (asked p a g o xs node) z
  pub free : is_clash z ≡ false
  pub met : AllMet p.tables.classes a (asks p a o xs)

-- ---- answers

module _ (p : Whole) (a : Assignment) (q : Program) where
  -- the value is of the element, and the objects then are of their sorts
  pub record IsGiven (sorts : List Sort) (z : Shape) (v : Value) (w : World) : Type 0 where
    pub later : List Sort
    pub keeps : Keeps sorts later
    pub typed : IsTyped p a q.sites later w.heap
    pub is : IsOf p a later z v

  -- an instance of `Exception` or of a class below it; but for `raise` it is one of the instances of builtin classes that are there from the start
  pub record IsThrown (raises : Bool) (sorts : List Sort) (r : ℕ) (w : World) : Type 0 where
    pub later : List Sort
    pub keeps : Keeps sorts later
    pub typed : IsTyped p a q.sites later w.heap
    pub class : ℕ
    pub sort : slice_get later r ≡ Some (InstanceOf class)
    pub exception : Sub p.tables.classes class 0
    pub builtin : raises ≡ false → r < builtin_classes

  -- the arguments are of the parameters from the i-th on, and so are the defaults of those for which there is none
  abbrev pub ArgumentsAre : List Sort → ℕ → ℕ → List (Option Const) → List Value → Type 0
  ArgumentsAre sorts f i [] vs = Unit {0}
  ArgumentsAre sorts f i (d ∷ ds) (v ∷ vs) = IsOf p a sorts (at a (p.places.param f i)) v × ArgumentsAre sorts f (suc i) ds vs
  ArgumentsAre sorts f i (Some c ∷ ds) [] = IsOf p a sorts (at a (p.places.param f i)) (constant q.sites c) × ArgumentsAre sorts f (suc i) ds []
  ArgumentsAre sorts f i (None ∷ ds) [] = ArgumentsAre sorts f (suc i) ds []

  -- the function is reached, its arguments are of its parameters, and what comes of it is of the element: its result, or a value instead
  pub record IsEntered (sorts : List Sort) (z : Shape) (f : ℕ) (args : List Value) (instead : Option Value) (w : World) : Type 0 where
    pub later : List Sort
    pub keeps : Keeps sorts later
    pub typed : IsTyped p a q.sites later w.heap
    pub reached : mark a (p.places.reached f) ≡ true
    pub arguments : ArgumentsAre later f 0 (defaults p f) args
    pub result : (last : List Sort) → Keeps later last → (v : Value) → IsOf p a last (at a (p.places.result f)) v → IsOf p a last z (unwrap_or instead v)

  -- no operation is wrong
  abbrev pub Sound : Bool → List Sort → Shape → Answer → Type 0
  Sound raises sorts z (Gives v w) = IsGiven sorts z v w
  Sound raises sorts z (Throws r w) = IsThrown raises sorts r w
  Sound raises sorts z (Enters f args instead w) = IsEntered sorts z f args instead w
  Sound raises sorts z (Fails name) = Unit {0}
  Sound raises sorts z Lacks = Unit {0}
  Sound raises sorts z Bad = ⊥

abbrev pub is_raise : RowOp → Bool
is_raise row.Raise = true
is_raise o = false

-- Where operands are of their elements, objects of their sorts, and the result fits, the operation is never wrong: what it gives is of the element at
-- its result, what it throws is an exception, and a function that it enters is given arguments of its parameters.
abbrev pub IsSound : RowOp → Type 0
IsSound o = (p : Whole) (a : Assignment) (q : Program) → Sees p q → (c : Covers) (g node : ℕ) (xs : List Shape) (vs : List Value) (sorts : List Sort) (w : World) (z : Shape)
    → IsTyped p a q.sites sorts w.heap → AreOf p a sorts xs vs → IsTold q w o vs → Fits p a g o node xs z → Sound p a q (is_raise o) sorts z (op q c o vs w)
