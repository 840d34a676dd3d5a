-- Faults of types, of which the least is told.
use Rattle.std.specs.Prelude.{ℕ, Bool, if◌then◌else◌, ◌==◌, ◌&&◌, ◌||◌, nat_lt, nat_le, Option, Some, None, Result, Ok, Err}
use Rattle.rtyper_core.specs.declared.fault.Fault.{Fault}
use Rattle.rtyper_core.specs.declared.fault.FaultKind.{FaultKind}
use Rattle.rtyper_core.specs.declared.fault.FaultKind.TheVariants as kind
use Rattle.rtyper_core.specs.declared.fault.TypeFault.{TypeFault}
use Rattle.rtyper_core.specs.declared.fault.TypeFault.TheVariants as fault_of

abbrev pub number : FaultKind → ℕ
number kind.ConstantModified = 1
number kind.MaybeUnbound = 2
number kind.Family = 3
number kind.EntryResult = 4

-- the smaller node, and of two at one node the smaller number
abbrev pub comes_first : Fault → Fault → Bool
comes_first a b = nat_lt a.node b.node || (a.node == b.node && nat_le (number a.kind) (number b.kind))

abbrev pub lesser : Option Fault → Option Fault → Option Fault
lesser None new = new
lesser (Some a) None = Some a
lesser (Some a) (Some b) = if comes_first a b then Some a else Some b

abbrev pub fault_if : Bool → ℕ → FaultKind → Option Fault
fault_if holds node kind = if holds then Some (record { node = node; kind = kind }) else None

abbrev pub shown_as : ℕ → FaultKind → TypeFault
shown_as node kind.ConstantModified = fault_of.ConstantModified node
shown_as node kind.MaybeUnbound = fault_of.MaybeUnbound node
shown_as node kind.Family = fault_of.Family node
shown_as node kind.EntryResult = fault_of.EntryResult node

abbrev pub shown : Fault → TypeFault
shown f = shown_as f.node f.kind

abbrev pub told : Option Fault → Result (Unit {0}) TypeFault
told None = Ok tt
told (Some f) = Err (shown f)
