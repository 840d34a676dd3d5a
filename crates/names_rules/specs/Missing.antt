-- Imports of modules that are not given, and of names that their module lacks.
use Rattle.std.specs.Prelude.{ℕ, Bool, true, false, List, [], ◌∷◌, ◌++◌}
use Rattle.std.specs.List.{list_any}
use Rattle.names_bound.specs.declared.fault.Fault.{Fault}
use Rattle.names_bound.specs.declared.fault.FaultKind.TheVariants as fault
use Rattle.names_bound.specs.declared.imports.Source.{Source}
use Rattle.names_bound.specs.declared.imports.Source.TheVariants as source
use Rattle.names_bound.specs.declared.stand.Stand.{Stand}
use Rattle.names_bound.specs.declared.stand.Stand.TheVariants as stand
use Rattle.names_rules.specs.Bindings.{Binding}
use Rattle.names_rules.specs.Imports.{import_stand, source_of, arithmetic}
use Rattle.names_rules.specs.Least.{faults_if}
use Rattle.names_rules.specs.Members.{What, Import, From, Placed}
use Rattle.names_rules.specs.Scopes.{follow}

abbrev pub is_missing : Stand → Bool
is_missing stand.Missing = true
is_missing s = false

abbrev pub is_unknown : Stand → Bool
is_unknown stand.Unknown = true
is_unknown s = false

-- neither os, sys nor a given module
abbrev pub no_module : List (List ℕ) → List ℕ → Bool
no_module modules name = is_missing (import_stand modules name)

-- a module that leads to no such name; of rarithmetic there are two
abbrev pub lacks : List Binding → Source → List ℕ → Bool
lacks bs (source.Module file) name = is_unknown (follow bs file name)
lacks bs source.Arithmetic name = is_missing (arithmetic name)
lacks bs source.Missing name = false

abbrev pub from_faults : List Binding → Source → List (List ℕ) → ℕ → List Fault
from_faults bs source.Missing of node = record { node = node; kind = fault.NoModule } ∷ []
from_faults bs src of node = faults_if (list_any (lacks bs src) of) node fault.Unknown

-- an import is at fault once, whichever of its names is
abbrev pub faults_of : List (List ℕ) → List Binding → ℕ → What → List Fault
faults_of modules bs node (Import of) = faults_if (list_any (no_module modules) of) node fault.NoModule
faults_of modules bs node (From path of) = from_faults bs (source_of modules path) of node
faults_of modules bs node other = []

abbrev pub missing : List (List ℕ) → List Binding → List Placed → List Fault
missing modules bs [] = []
missing modules bs (p ∷ ps) = faults_of modules bs p.node p.what ++ missing modules bs ps
