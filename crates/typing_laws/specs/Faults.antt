-- The faults of types of a program, by an annotation of its trees.
use Rattle.std.specs.Prelude.{◌≡◌, ℕ, Bool, true, false}
use Rattle.rpy_tree.specs.declared.program.Program.{Program}
use Rattle.ann_lattice.specs.Shape.{Shape, Nothing, Num}
use Rattle.ann_lattice.specs.Assign.{at, mark}
use Rattle.ann_rules.specs.Program.{Whole}
use Rattle.ann_tree.specs.Annotation.{Annotation}
use Rattle.ann_tree.specs.Faults.{OfConstant, OfFamily}
use Rattle.rtyper_core.specs.Fault.{comes_first}
use Rattle.rtyper_core.specs.Typing.{node_of}
use Rattle.rtyper_core.specs.declared.fault.FaultKind.{FaultKind}
use Rattle.rtyper_core.specs.declared.fault.FaultKind.TheVariants as kind

-- an integer, or no value
abbrev pub is_integer : Shape → Bool
is_integer Nothing = true
is_integer (Num may_be_below_zero) = true
is_integer other = false

module _ (p : Program) (w : Whole) (a : Annotation) where
  -- A node has a fault: a reached operation at it modifies what may be a constant, or calls functions that do not take its arguments; or it reads a
  -- local that may be unbound; or it is the node of the entry point, whose result is no integer.
  abbrev pub IsFault : ℕ → FaultKind → Type 0
  IsFault node kind.ConstantModified = a.faulty OfConstant node ≡ true
  IsFault node kind.MaybeUnbound = mark a.parts (w.places.unbound node) ≡ true
  IsFault node kind.Family = a.faulty OfFamily node ≡ true
  IsFault node kind.EntryResult = (node ≡ node_of p.functions p.entry) × (is_integer (at a.parts (w.places.result p.entry)) ≡ false)

  abbrev pub HasNoFault : Type 0
  HasNoFault = (node : ℕ) (k : FaultKind) → IsFault node k → ⊥

  -- no other has a smaller node, or at this node a smaller number
  pub record IsLeastFault (node : ℕ) (k : FaultKind) : Type 0 where
    pub is : IsFault node k
    pub least : (other : ℕ) (l : FaultKind) → IsFault other l → comes_first (record { node = node; kind = k }) (record { node = other; kind = l }) ≡ true
