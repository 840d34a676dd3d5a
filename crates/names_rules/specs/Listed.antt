-- The members as the code lists them, where names have their numbers in a table.
use Rattle.std.specs.Prelude.{ℕ, List, [], map, Option, Some, None}
use Rattle.rpy_nodes.specs.Names.{number}
use Rattle.rpy_nodes.specs.declared.event.Event.{Event}
use Rattle.rpy_nodes.specs.declared.unit.Parameter.{Parameter}
use Rattle.rpy_nodes.specs.declared.unit.What.{What as Said}
use Rattle.rpy_nodes.specs.declared.unit.What.TheVariants as say
use Rattle.rpy_nodes.specs.declared.unit.Unit.{Unit as Listed}
use Rattle.rpy_nodes.specs.Listing.{known}
use Rattle.rpy_nodes.specs.declared.listing.Named.{Named}
use Rattle.rpy_nodes.specs.declared.unit.Listing.{Listing}
use Rattle.rpy_nodes.specs.declared.walk.Walk.{Walk}
use Rattle.names_rules.specs.Order.{expr, block}
use Rattle.names_rules.specs.Events.{Names, events, see}
use Rattle.names_rules.specs.Members.{Value, Body, Formal, What, Import, From, Constant, Def, Class, Placed, members, modules_nodes, modules_said}

abbrev pub value_events : Names → Value → List Event
value_events names v = events names v.first (expr v.of)

abbrev pub body_events : Names → Body → List Event
body_events names b = events names b.first (block b.of)

abbrev pub default_events : Names → Option Value → Option (List Event)
default_events names None = None
default_events names (Some v) = Some (value_events names v)

abbrev pub parameter : Names → Formal → Parameter
parameter names p = record { node = p.node; name = number names p.name; default = default_events names p.default }

abbrev pub numbers : Names → List (List ℕ) → List ℕ
numbers names of = map (number names) of

abbrev pub says : Names → What → Said
says names (Import of) = say.Import (numbers names of)
says names (From path of) = say.From (numbers names path) (numbers names of)
says names (Constant name value) = say.Constant (number names name) (value_events names value)
says names (Def name params star body) = say.Def (number names name) (map (parameter names) params) star (body_events names body)
says names (Class name base) = say.Class (number names name) (numbers names base)

abbrev pub listed : Names → Placed → Listed
listed names p = record { file = p.file; place = p.place; inside = p.inside; node = p.node; what = says names p.what }

-- a walk between members
abbrev pub standing : Names → ℕ → Walk
standing names n = record { names = names; next = n; events = [] }

abbrev pub module_names : List Named → Names
module_names ms = map (λ m. m.name) ms

-- the table of a program: the names that the language knows, those of the modules, and those that the members say in order
abbrev pub names_of : List Named → Names
names_of ms = see (modules_said ms) (see (module_names ms) known)

abbrev pub whole : List Named → Listing
whole ms = record {
  names = names_of ms;
  modules = numbers (names_of ms) (module_names ms);
  nodes = modules_nodes ms;
  units = map (listed (names_of ms)) (members ms);
}
