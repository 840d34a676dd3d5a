-- The bases of the classes.
use Rattle.std.specs.Prelude.{ℕ, zero, suc, ◌+◌, ◌-◌, Bool, true, false, if◌then◌else◌, ◌==◌, ◌&&◌, nat_lt, nat_le, List, [], ◌∷◌, ◌++◌, length, slice_get, Option, Some, None}
use Rattle.rpy_nodes.specs.declared.unit.Unit.{Unit as Listed}
use Rattle.rpy_nodes.specs.declared.unit.What.{What}
use Rattle.rpy_nodes.specs.declared.unit.What.TheVariants.{Import, From, Constant, Def, Class}
use Rattle.names_bound.specs.Fault.{lesser, fault_if}
use Rattle.names_bound.specs.Imports.{is_unknown}
use Rattle.names_bound.specs.Scopes.{global, is_late, member, base_in}
use Rattle.names_bound.specs.declared.base.Base.{Base}
use Rattle.names_bound.specs.declared.base.Base.TheVariants as base
use Rattle.names_bound.specs.declared.declare.ClassAt.{ClassAt}
use Rattle.names_bound.specs.declared.fault.Fault.{Fault}
use Rattle.names_bound.specs.declared.fault.FaultKind.TheVariants as fault
use Rattle.names_bound.specs.declared.scopes.Scopes.{Scopes}
use Rattle.names_bound.specs.declared.stand.Stand.{Stand}
use Rattle.names_bound.specs.declared.stand.Stand.TheVariants as stand

-- the first name of a path is bound before the class, or in no module
abbrev pub bound_before : Bool → Stand → Stand
bound_before late found = if is_unknown found then stand.Unknown else if late then stand.Nothing else found

abbrev pub first_stand : Scopes → ClassAt → ℕ → Stand
first_stand s at name = bound_before (is_late s at.file at.place name) (global s at.file name)

abbrev pub further_stand : Scopes → Stand → ℕ → Stand
further_stand s stand.Unknown name = stand.Unknown
further_stand s of name = member s of name

abbrev pub further_from : Scopes → Stand → List ℕ → Stand
further_from s of [] = of
further_from s of (name ∷ names) = further_from s (further_stand s of name) names

-- a class without a base stands as one below object
abbrev pub path_stand : Scopes → ClassAt → List ℕ → Stand
path_stand s at [] = stand.Object
path_stand s at (name ∷ names) = further_from s (first_stand s at name) names

abbrev pub later_at : ClassAt → Option ClassAt → Bool
later_at at None = false
later_at at (Some other) = other.file == at.file && nat_le at.place other.place

-- the class is bound in the same module, and not earlier
abbrev pub comes_later : List ClassAt → ClassAt → ℕ → Bool
comes_later classes at class = if nat_lt class 13 then false else later_at at (slice_get classes (class - 13))

abbrev pub earlier_class : Bool → ℕ → Base
earlier_class later class = if later then base.Wrong fault.BadBase else base.Class class

abbrev pub judged : List ClassAt → ClassAt → Stand → Base
judged classes at stand.Object = base.Free
judged classes at stand.Missing = base.Free
judged classes at stand.Unknown = base.Wrong fault.Unknown
judged classes at (stand.Class class) = earlier_class (comes_later classes at class) class
judged classes at other = base.Wrong fault.BadBase

abbrev pub path_in : What → List ℕ
path_in (Class name path) = path
path_in other = []

abbrev pub path_at : Option Listed → List ℕ
path_at None = []
path_at (Some u) = path_in u.what

abbrev pub path_of : List Listed → ℕ → List ℕ
path_of units unit = path_at (slice_get units unit)

abbrev pub node_at : Option Listed → ℕ
node_at None = 0
node_at (Some u) = u.node

abbrev pub node_of : List Listed → ℕ → ℕ
node_of units unit = node_at (slice_get units unit)

abbrev pub base_of : Scopes → List ClassAt → List Listed → ClassAt → Base
base_of s classes units at = judged classes at (path_stand s at (path_of units at.unit))

abbrev pub class_in : Base → Option ℕ
class_in (base.Class class) = Some class
class_in other = None

-- Exception; StandardError; ArithmeticError, above OverflowError and ZeroDivisionError; LookupError, above IndexError
-- and KeyError; ValueError, AttributeError, AssertionError; RuntimeError, above NotImplementedError
abbrev pub builtin_bases : List (Option ℕ)
builtin_bases = None ∷ Some 0 ∷ Some 1 ∷ Some 2 ∷ Some 2 ∷ Some 1 ∷ Some 5 ∷ Some 5 ∷ Some 1 ∷ Some 1 ∷ Some 1 ∷ Some 1 ∷ Some 11 ∷ []

abbrev pub bases_onto : List (Option ℕ) → Scopes → List ClassAt → List Listed → List ClassAt → List (Option ℕ)
bases_onto done s classes units [] = done
bases_onto done s classes units (at ∷ rest) = bases_onto (done ++ class_in (base_of s classes units at) ∷ []) s classes units rest

-- the base that each class names
abbrev pub class_bases : Scopes → List ClassAt → List Listed → List (Option ℕ)
class_bases s classes units = bases_onto builtin_bases s classes units classes

abbrev pub back_at : (Option ℕ → Bool) → List (Option ℕ) → ℕ → Option ℕ → Bool
back_at go bases class None = false
back_at go bases class (Some b) = if b == class then true else go (base_in bases b)

abbrev pub back_from : List (Option ℕ) → ℕ → ℕ → Option ℕ → Bool
back_from bases class zero at = false
back_from bases class (suc n) at = back_at (back_from bases class n) bases class at

-- its bases lead back to the class
abbrev pub leads_back : List (Option ℕ) → ℕ → Bool
leads_back bases class = back_from bases class (length bases) (base_in bases class)

abbrev pub kept : List (Option ℕ) → ℕ → Option ℕ
kept bases class = if leads_back bases class then None else base_in bases class

abbrev pub kept_from : List (Option ℕ) → ℕ → List (Option ℕ)
kept_from bases zero = []
kept_from bases (suc n) = kept_from bases n ++ kept bases n ∷ []

abbrev pub without_rings : List (Option ℕ) → List (Option ℕ)
without_rings bases = kept_from bases (length bases)

abbrev pub base_fault : Base → Bool → ℕ → Option Fault
base_fault (base.Wrong kind) ring node = Some (record { node = node; kind = kind })
base_fault other ring node = fault_if ring node fault.BadBase

abbrev pub faults_onto : Option Fault → ℕ → Scopes → List (Option ℕ) → List ClassAt → List Listed → List ClassAt → Option Fault
faults_onto least place s named classes units [] = least
faults_onto least place s named classes units (at ∷ rest) = faults_onto (lesser least (base_fault (base_of s classes units at) (leads_back named (13 + place)) (node_of units at.unit))) (place + 1) s named classes units rest

abbrev pub base_faults : Scopes → List (Option ℕ) → List ClassAt → List Listed → Option Fault
base_faults s named classes units = faults_onto None 0 s named classes units classes
