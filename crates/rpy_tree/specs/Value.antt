-- Values, objects and the state of an evaluation.
use Rattle.std.specs.Prelude.{ℕ, ℤ, Bool, List, Option}

mutual
  pub data Value : Type 0 where
    Word : ℤ → Value
    Flag : Bool → Value
    Text : List ℕ → Value
    Nothing : Value
    Tuple : Values → Value
    Fun : ℕ → Value
    Ref : ℕ → Value

  pub data Values : Type 0 where
    none : Values
    more : Value → Values → Values

-- a list, a dict in order of insertion, or an instance with its class
pub data Object : Type 0 where
  Listed : List Value → Object
  Mapped : List (Value × Value) → Object
  Instance : ℕ → List (List ℕ × Value) → Object

-- the objects in order of making; none is ever freed
abbrev pub Heap : Type 0
Heap = List Object

-- the locals of the call under way, the objects, what was printed, and the steps left
pub record State : Type 0 where
  pub locals : List (Option Value)
  pub heap : Heap
  pub out : List ℕ
  pub left : ℕ
