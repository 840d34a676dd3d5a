-- What imports bind, and their faults.
use Rattle.std.specs.Prelude.{ℕ, ◌+◌, Bool, true, false, if◌then◌else◌, ◌==◌, ◌&&◌, List, [], ◌∷◌, Option, Some, None}
use Rattle.rpy_nodes.specs.declared.unit.Unit.{Unit as Listed}
use Rattle.rpy_nodes.specs.declared.unit.What.{What}
use Rattle.rpy_nodes.specs.declared.unit.What.TheVariants.{Import, From, Constant, Def, Class}
use Rattle.rpy_tree.specs.declared.program.Builtin.TheVariants as builtin
use Rattle.names_bound.specs.Fault.{lesser, fault_if}
use Rattle.names_bound.specs.Scopes.{follow}
use Rattle.names_bound.specs.declared.fault.Fault.{Fault}
use Rattle.names_bound.specs.declared.fault.FaultKind.TheVariants as fault
use Rattle.names_bound.specs.declared.imports.Source.{Source}
use Rattle.names_bound.specs.declared.imports.Source.TheVariants as source
use Rattle.names_bound.specs.declared.scopes.Scopes.{Scopes}
use Rattle.names_bound.specs.declared.stand.Stand.{Stand}
use Rattle.names_bound.specs.declared.stand.Stand.TheVariants as stand
use Rattle.names_bound.specs.declared.table.Bound.{Bound}
use Rattle.names_bound.specs.declared.table.Bound.TheVariants as bound

abbrev pub file_from : ℕ → List ℕ → ℕ → Option ℕ
file_from file [] name = None
file_from file (other ∷ others) name = if other == name then Some file else file_from (file + 1) others name

-- the place of the module of a name
abbrev pub file_of : List ℕ → ℕ → Option ℕ
file_of modules name = file_from 0 modules name

abbrev pub given : Option ℕ → Source
given None = source.Missing
given (Some file) = source.Module file

abbrev pub module_source : List ℕ → ℕ → Source
module_source modules name = given (file_of modules name)

-- a given module, or rpython.rlib.rarithmetic
abbrev pub source_of : List ℕ → List ℕ → Source
source_of modules (name ∷ []) = module_source modules name
source_of modules (a ∷ b ∷ c ∷ []) = if a == 5 && b == 6 && c == 7 then source.Arithmetic else source.Missing
source_of modules path = source.Missing

-- ovfcheck and intmask
abbrev pub arithmetic : ℕ → Stand
arithmetic name = if name == 8 then stand.Builtin builtin.Ovfcheck else if name == 9 then stand.Builtin builtin.Intmask else stand.Missing

abbrev pub from_bound : Source → ℕ → Bound
from_bound (source.Module file) name = bound.From file name
from_bound source.Arithmetic name = bound.Is (arithmetic name)
from_bound source.Missing name = bound.Is stand.Missing

abbrev pub import_given : Option ℕ → Stand
import_given None = stand.Missing
import_given (Some file) = stand.Module file

-- os, sys or a given module
abbrev pub import_stand : List ℕ → ℕ → Stand
import_stand modules name = if name == 3 then stand.Os else if name == 4 then stand.Sys else import_given (file_of modules name)

-- ---- faults

abbrev pub is_missing : Stand → Bool
is_missing stand.Missing = true
is_missing s = false

abbrev pub is_unknown : Stand → Bool
is_unknown stand.Unknown = true
is_unknown s = false

-- one of the names is of no module
abbrev pub import_fault : List ℕ → List ℕ → ℕ → Option Fault
import_fault modules [] node = None
import_fault modules (name ∷ names) node = if is_missing (import_stand modules name) then Some (record { node = node; kind = fault.NoModule }) else import_fault modules names node

abbrev pub lacks : Scopes → Source → ℕ → Bool
lacks s (source.Module file) name = is_unknown (follow s file name)
lacks s source.Arithmetic name = is_missing (arithmetic name)
lacks s source.Missing name = false

-- one of the names is lacking
abbrev pub names_fault : Scopes → Source → List ℕ → ℕ → Option Fault
names_fault s src [] node = None
names_fault s src (name ∷ names) node = if lacks s src name then Some (record { node = node; kind = fault.Unknown }) else names_fault s src names node

abbrev pub from_fault : Scopes → Source → List ℕ → ℕ → Option Fault
from_fault s source.Missing names node = Some (record { node = node; kind = fault.NoModule })
from_fault s src names node = names_fault s src names node

abbrev pub what_fault : Scopes → List ℕ → ℕ → What → Option Fault
what_fault s modules node (Import names) = import_fault modules names node
what_fault s modules node (From path names) = from_fault s (source_of modules path) names node
what_fault s modules node other = None

abbrev pub unit_fault : Scopes → List ℕ → Listed → Option Fault
unit_fault s modules u = what_fault s modules u.node u.what

abbrev pub faults_onto : Option Fault → Scopes → List ℕ → List Listed → Option Fault
faults_onto least s modules [] = least
faults_onto least s modules (u ∷ us) = faults_onto (lesser least (unit_fault s modules u)) s modules us

abbrev pub faults : Scopes → List ℕ → List Listed → Option Fault
faults s modules units = faults_onto None s modules units
