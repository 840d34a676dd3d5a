-- What all modules bind, and the faults of it.
use Rattle.std.specs.Prelude.{ℕ, List, [], ◌++◌, Option}
use Rattle.rpy_nodes.specs.declared.listing.Named.{Named}
use Rattle.names_bound.specs.declared.fault.Fault.{Fault}
use Rattle.names_rules.specs.Bases.{classes, named, without_rings, bad_bases}
use Rattle.names_rules.specs.Bindings.{Binding, bindings, class_bindings}
use Rattle.names_rules.specs.Clashes.{attributes, methods, clashing}
use Rattle.names_rules.specs.Listed.{module_names}
use Rattle.names_rules.specs.Members.{members}
use Rattle.names_rules.specs.Missing.{missing}
use Rattle.names_rules.specs.Twice.{twices}
use Rattle.names_rules.specs.Used.{used}

abbrev pub module_bindings : List Named → List Binding
module_bindings ms = bindings (module_names ms) (members ms)

abbrev pub body_bindings : List Named → List Binding
body_bindings ms = class_bindings (members ms)

-- the base that each class names, and the one that it has
abbrev pub named_bases : List Named → List (Option ℕ)
named_bases ms = named (module_bindings ms) (body_bindings ms) [] (classes (members ms))

abbrev pub bases : List Named → List (Option ℕ)
bases ms = without_rings (named_bases ms)

-- names that are bound twice, imports, bases, and clashes
abbrev pub bound_faults : List Named → List Fault
bound_faults ms =
    ((twices (module_names ms) (members ms) ++ missing (module_names ms) (module_bindings ms) (members ms))
    ++ bad_bases (module_bindings ms) (body_bindings ms) (bases ms) (named_bases ms) (classes (members ms)))
    ++ clashing (attributes (members ms)) (methods (members ms)) (bases ms) (classes (members ms))

-- and the names that are used: all faults but those of constants
abbrev pub name_faults : List Named → List Fault
name_faults ms = bound_faults ms ++ used (module_bindings ms) (body_bindings ms) (bases ms) (members ms)
