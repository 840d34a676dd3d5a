-- What holds of the world and of the operands of each operation that a run of a program comes to, beside what its annotation says.
use Rattle.std.specs.Prelude.{◌≡◌, ◌≢◌, ◌-◌, ◌^◌, ℕ, ◌<◌, ◌⊎◌, Bool, true, false, ◌&&◌, List, [], ◌∷◌, slice_get, Option, Some}
use Rattle.rpy_tree.specs.Value.{Value, Values, none, more, Nothing, Tuple, Ref, Object, Mapped, Instance}
use Rattle.rpy_tree.specs.declared.syntax.CmpOp.TheVariants as cmp
use Rattle.rpy_meaning.specs.Classes.{is_below}
use Rattle.rpy_meaning.specs.Laws.{HasRoom}
use Rattle.rpy_meaning.specs.Operations.{builtin_classes, truth_in}
use Rattle.rpy_meaning.specs.Tree.{Program}
use Rattle.rpy_meaning.specs.World.{World}
use Rattle.rpy_meaning.specs.declared.row.RowOp.{RowOp}
use Rattle.rpy_meaning.specs.declared.row.RowOp.TheVariants as row
use Rattle.flow_graph.specs.declared.graph.Exit.{Exit}
use Rattle.flow_graph.specs.declared.graph.Exit.TheVariants as exit
use Rattle.flow_meaning.specs.Machine.{Bound, look, truth_of}

-- ---- keys

abbrev mutual
  -- neither the value nor a part of it is `None`
  pub is_whole : Value → Bool
  is_whole Nothing = false
  is_whole (Tuple vs) = are_whole vs
  is_whole v = true

  pub are_whole : Values → Bool
  are_whole none = true
  are_whole (more v vs) = is_whole v && are_whole vs

abbrev pub KeysAreWhole : List (Value × Value) → Type 0
KeysAreWhole [] = Unit {0}
KeysAreWhole (pair ∷ pairs) = (is_whole pair.0 ≡ true) × KeysAreWhole pairs

abbrev pub HasWholeKeys : Option Object → Type 0
HasWholeKeys (Some (Mapped pairs)) = KeysAreWhole pairs
HasWholeKeys other = Unit {0}

-- of the operation on a dict the operand that is looked up, stored or deleted in it has no part that is `None`: the second one, or the first
abbrev pub SecondIsWhole : List Value → Type 0
SecondIsWhole (d ∷ key ∷ vs) = is_whole key ≡ true
SecondIsWhole vs = Unit {0}

abbrev pub FirstIsWhole : List Value → Type 0
FirstIsWhole [] = Unit {0}
FirstIsWhole (key ∷ vs) = is_whole key ≡ true

abbrev pub KeyIsWhole : RowOp → List Value → Type 0
KeyIsWhole (row.Compare cmp.Within) vs = FirstIsWhole vs
KeyIsWhole (row.Compare cmp.NotWithin) vs = FirstIsWhole vs
KeyIsWhole (row.Index literal) vs = SecondIsWhole vs
KeyIsWhole row.StoreIndex vs = SecondIsWhole vs
KeyIsWhole row.DeleteIndex vs = SecondIsWhole vs
KeyIsWhole (row.Method name site) vs = SecondIsWhole vs
KeyIsWhole other vs = Unit {0}

-- ---- instances

-- the class is one of those that are made, or a builtin exception, which has an instance from the start
abbrev pub IsMade : (ℕ → Bool) → Option Object → Type 0
IsMade made (Some (Instance c attributes)) = (c < builtin_classes) ⊎ (made c ≡ true)
IsMade made other = Unit {0}

-- ---- what a test has told

abbrev pub InstanceIsBelow : Program → ℕ → Option Object → Type 0
InstanceIsBelow p c (Some (Instance d attributes)) = is_below p.classes d c ≡ true
InstanceIsBelow p c other = ⊥

abbrev pub IsOfClass : Program → ℕ → World → Value → Type 0
IsOfClass p c world (Ref r) = InstanceIsBelow p c (slice_get world.heap r)
IsOfClass p c world other = ⊥

-- of the first operand
abbrev pub OfFirst : (Value → Type 0) → List Value → Type 0
OfFirst Holds [] = Unit {0}
OfFirst Holds (v ∷ vs) = Holds v

-- A narrowing says of its first operand only what a test has found. That a word is not below zero changes nothing at low level.
abbrev pub IsTold : Program → RowOp → World → List Value → Type 0
IsTold p row.DropNone world vs = OfFirst (λ v. v ≢ Nothing) vs
IsTold p row.OnlyNone world vs = OfFirst (λ v. v ≡ Nothing) vs
IsTold p row.FalseNone world vs = OfFirst (λ v. truth_in world v ≡ Some false) vs
IsTold p (row.Lower c) world vs = OfFirst (IsOfClass p c world) vs
IsTold p other world vs = Unit {0}

-- the test of a variable of whose truth one thing is known always tells that
abbrev pub TestIsTold : (ℕ → Option Bool) → Exit → List Bound → World → Type 0
TestIsTold known (exit.If v there elsewhere) env world = (b : Bool) → known v ≡ Some b → truth_of world (look env v) ≡ Some b
TestIsTold known other env world = Unit {0}

-- ---- all of it

-- The size of each list and dict is, with the steps that are left, less than 2^62; no key of a dict is `None`, nor has it a part that is, and nor
-- does the key of an operation on a dict; instances are of classes that are made; and a narrowing tells the truth.
pub record IsGood (p : Program) (made : ℕ → Bool) (keyed : Bool) (o : RowOp) (world : World) (vs : List Value) : Type 0 where
  pub room : HasRoom (2 ^ 62 - 1) world
  pub keys : (r : ℕ) → HasWholeKeys (slice_get world.heap r)
  pub key : keyed ≡ true → KeyIsWhole o vs
  pub instances : (r : ℕ) → IsMade made (slice_get world.heap r)
  pub told : IsTold p o world vs
