-- The tables of the code as the rules have them.
use Rattle.std.specs.Prelude.{List, Option, Some, None}
use Rattle.rpy_nodes.specs.declared.listing.Named.{Named}
use Rattle.rpy_tree.specs.declared.program.Program.{Program}
use Rattle.names_bound.specs.declared.fault.Fault.{Fault}
use Rattle.names_bound.specs.declared.scopes.Scopes.{Scopes}
use Rattle.names_rules.specs.Bound.{entries}
use Rattle.names_rules.specs.Entry.{EntryPoint}
use Rattle.names_rules.specs.Listed.{names_of}
use Rattle.names_rules.specs.Program.{module_bindings, body_bindings, bases}
use Rattle.rpy_names.specs.Build.{told}
use Rattle.rpy_names.specs.declared.build.Entry.{Entry}
use Rattle.rpy_names.specs.declared.fault.NameFault.{NameFault}
use Rattle.rpy_names.specs.declared.fault.NameFault.TheVariants as fault

abbrev pub as_entry : Option EntryPoint → Option Entry
as_entry None = None
as_entry (Some e) = Some (record { function = e.function; parameter = e.parameter })

-- names by their numbers in the table of the program
abbrev pub scopes : List Named → Scopes
scopes ms = record { bindings = entries (names_of ms) (module_bindings ms); members = entries (names_of ms) (body_bindings ms); bases = bases ms }

-- no entry point is told exactly where no other fault stands and there is none
abbrev pub tells : Option Fault → Option EntryPoint → Option NameFault
tells (Some f) e = Some (told f)
tells None None = Some fault.NoEntryPoint
tells None (Some e) = None

-- a program or a fault, and never both
abbrev pub IsWithout : Option Program → Option NameFault → Type 0
IsWithout None None = ⊥
IsWithout (Some p) None = Unit {0}
IsWithout None (Some f) = Unit {0}
IsWithout (Some p) (Some f) = ⊥
