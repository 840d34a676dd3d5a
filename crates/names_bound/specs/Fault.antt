-- Faults of names, of which the least is told.
use Rattle.std.specs.Prelude.{ℕ, Bool, if◌then◌else◌, ◌==◌, ◌&&◌, ◌||◌, nat_lt, nat_le, Option, Some, None}
use Rattle.names_bound.specs.declared.fault.Fault.{Fault}
use Rattle.names_bound.specs.declared.fault.FaultKind.{FaultKind}
use Rattle.names_bound.specs.declared.fault.FaultKind.TheVariants.{Unknown, Twice, BadBase, BadConstant, NoModule}

abbrev pub number : FaultKind → ℕ
number Unknown = 1
number Twice = 2
number BadBase = 4
number BadConstant = 5
number NoModule = 6

-- the smaller node, and of two at one node the smaller number
abbrev pub comes_first : Fault → Fault → Bool
comes_first a b = nat_lt a.node b.node || (a.node == b.node && nat_le (number a.kind) (number b.kind))

abbrev pub lesser : Option Fault → Option Fault → Option Fault
lesser None new = new
lesser (Some a) None = Some a
lesser (Some a) (Some b) = if comes_first a b then Some a else Some b

abbrev pub fault_if : Bool → ℕ → FaultKind → Option Fault
fault_if holds node kind = if holds then Some (record { node = node; kind = kind }) else None
