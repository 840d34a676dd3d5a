-- Bindings as the tables of the code have them.
use Rattle.std.specs.Prelude.{List, map}
use Rattle.rpy_nodes.specs.Names.{number}
use Rattle.names_bound.specs.Table.{Entries}
use Rattle.names_bound.specs.declared.table.Binding.{Binding as Old}
use Rattle.names_bound.specs.declared.table.Bound.{Bound as OldBound}
use Rattle.names_bound.specs.declared.table.Bound.TheVariants as old
use Rattle.names_bound.specs.declared.table.Key.{Key}
use Rattle.names_rules.specs.Bindings.{Binding}
use Rattle.names_rules.specs.Events.{Names}
use Rattle.names_rules.specs.Imports.{Bound, Is, From}

abbrev pub bound_in : Names → Bound → OldBound
bound_in names (Is s) = old.Is s
bound_in names (From file name) = old.From file (number names name)

abbrev pub entry : Names → Binding → Key × Old
entry names b = (record { scope = b.scope; name = number names b.name }, record { place = b.place; bound = bound_in names b.bound })

abbrev pub entries : Names → List Binding → Entries
entries names bs = map (entry names) bs
