-- The fault that is told of several: the one at the smallest node, and of two at one node the one with the smaller number.
use Rattle.std.specs.Prelude.{◌≡◌, ◌≤◌, ℕ, Bool, List, [], ◌∷◌, ◌++◌, if◌then◌else◌, Option, Some, None}
use Rattle.std.specs.List.{AllByRecursion}
use Rattle.names_bound.specs.Fault.{number, lesser}
use Rattle.names_bound.specs.declared.fault.Fault.{Fault}
use Rattle.names_bound.specs.declared.fault.FaultKind.{FaultKind}

-- a fault that is told before another
abbrev pub Precedes : Fault → Fault → Type 0
Precedes a b = (a.node ≤ b.node) × (a.node ≡ b.node → number a.kind ≤ number b.kind)

-- of no faults none is told; else one of them, which no other precedes
abbrev pub IsTold : List Fault → Option Fault → Type 0
IsTold fs None = fs ≡ []
IsTold fs (Some f) = ((before rest : List Fault) × (fs ≡ before ++ f ∷ rest)) × AllByRecursion (Precedes f) fs

abbrev pub least : List Fault → Option Fault
least [] = None
least (f ∷ fs) = lesser (Some f) (least fs)

-- a fault of this kind where something holds of a node
abbrev pub faults_if : Bool → ℕ → FaultKind → List Fault
faults_if holds node kind = if holds then record { node = node; kind = kind } ∷ [] else []
