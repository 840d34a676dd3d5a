-- The values of the constants of a program, and all faults of its names.
use Rattle.std.specs.Prelude.{false, List, [], ◌∷◌, ◌++◌, Option, Some, None}
use Rattle.rpy_tree.specs.declared.program.Const.{Const}
use Rattle.rpy_nodes.specs.declared.listing.Named.{Named}
use Rattle.names_bound.specs.declared.fault.Fault.{Fault}
use Rattle.names_found.specs.declared.step.SiteAt.{SiteAt}
use Rattle.names_rules.specs.Entry.{EntryPoint, entry}
use Rattle.names_rules.specs.Members.{members}
use Rattle.names_rules.specs.Program.{module_bindings, body_bindings, bases, name_faults}
use Rattle.names_constants.specs.Constants as rule
use Rattle.names_constants.specs.Constants.{Constant}

-- site 0 is the list of arguments
abbrev pub entry_site : Option EntryPoint → SiteAt
entry_site None = record { node = 0; dict = false }
entry_site (Some e) = record { node = e.parameter; dict = false }

abbrev pub first_sites : List Named → List SiteAt
first_sites ms = entry_site (entry (members ms)) ∷ []

-- all sites, in node order
abbrev pub sites : List Named → List SiteAt
sites ms = rule.after_members (module_bindings ms) (body_bindings ms) (bases ms) (members ms) (first_sites ms)

abbrev pub constants : List Named → List Constant
constants ms = rule.constants (module_bindings ms) (body_bindings ms) (bases ms) (first_sites ms) (members ms)

abbrev pub constant_values : List Named → List (Option Const)
constant_values ms = rule.values (module_bindings ms) (body_bindings ms) (bases ms) (constants ms)

abbrev pub bad_constants : List Named → List Fault
bad_constants ms = rule.bad_constants (module_bindings ms) (body_bindings ms) (bases ms) (first_sites ms) (members ms)

-- names that are bound and used, and what has to be constant
abbrev pub faults : List Named → List Fault
faults ms = name_faults ms ++ bad_constants ms
