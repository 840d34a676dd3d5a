-- The members of a program, with what their names stand for.
use Rattle.std.specs.Prelude.{ℕ, Bool, true, false, List, [], ◌∷◌, ◌++◌, length, Option, Some, None}
use Rattle.rpy_nodes.specs.declared.event.Event.{Event}
use Rattle.rpy_nodes.specs.declared.unit.Parameter.{Parameter}
use Rattle.rpy_nodes.specs.declared.unit.Unit.{Unit as Listed}
use Rattle.rpy_nodes.specs.declared.unit.What.{What}
use Rattle.rpy_nodes.specs.declared.unit.What.TheVariants.{Import, From, Constant, Def, Class}
use Rattle.names_bound.specs.Fault.{fault_if}
use Rattle.names_bound.specs.Known.{is_fixed}
use Rattle.names_bound.specs.declared.fault.Fault.{Fault}
use Rattle.names_bound.specs.declared.fault.FaultKind.TheVariants as fault
use Rattle.names_bound.specs.declared.scopes.Scopes.{Scopes}
use Rattle.names_found.specs.Finder.{add_fault, steps_of}
use Rattle.names_found.specs.Locals.{number, add, of}
use Rattle.names_found.specs.declared.finder.Finder.{Finder}
use Rattle.names_found.specs.declared.finder.Place.{Place}
use Rattle.names_found.specs.declared.step.Step.{Step}
use Rattle.names_found.specs.declared.unit.Default.{Default}
use Rattle.names_found.specs.declared.unit.Found.{Found}

abbrev pub known_by : Option ℕ → ℕ → Bool
known_by None name = is_fixed name
known_by (Some local) name = true

-- the name of a parameter before it, or None, True or False
abbrev pub is_known : List ℕ → Parameter → Bool
is_known known p = known_by (number known p.name) p.name

abbrev pub parameter_fault : List ℕ → Parameter → Option Fault
parameter_fault known p = fault_if (is_known known p) p.node fault.Twice

abbrev pub some_steps : List Step × Finder → Option (List Step) × Finder
some_steps s = (Some s.0, s.1)

abbrev pub default_steps : Scopes → List ℕ → Place → Option (List Event) → Finder → Option (List Step) × Finder
default_steps scopes known at None w = (None, w)
default_steps scopes known at (Some es) w = some_steps (steps_of scopes known at es w)

abbrev pub default_with : ℕ → Option (List Step) × Finder → Default × Finder
default_with node s = (record { node = node; steps = s.0 }, s.1)

abbrev pub find_parameter : Scopes → List ℕ → Place → Parameter → Finder → Default × Finder
find_parameter scopes known at p w = default_with p.node (default_steps scopes known at p.default (add_fault (parameter_fault known p) w))

abbrev pub parameters_onto : List Default → List ℕ → Scopes → Place → List Parameter → Finder → List Default × Finder
parameters_onto done known scopes at [] w = (done, w)
parameters_onto done known scopes at (p ∷ ps) w = parameters_onto (done ++ (find_parameter scopes known at p w).0 ∷ []) (add known p.name) scopes at ps (find_parameter scopes known at p w).1

abbrev pub find_parameters : Scopes → Place → List Parameter → Finder → List Default × Finder
find_parameters scopes at ps w = parameters_onto [] [] scopes at ps w

abbrev pub no_steps : Found
no_steps = record { value = []; defaults = []; body = []; locals = 0 }

abbrev pub constant_with : List Step × Finder → Found × Finder
constant_with s = (record { value = s.0; defaults = []; body = []; locals = 0 }, s.1)

abbrev pub find_constant : Scopes → Place → List Event → Finder → Found × Finder
find_constant scopes at es w = constant_with (steps_of scopes [] at es w)

abbrev pub function_with : List Default → ℕ → List Step × Finder → Found × Finder
function_with defaults locals s = (record { value = []; defaults = defaults; body = s.0; locals = locals }, s.1)

abbrev pub inside : Place → Place
inside at = record { file = at.file; place = at.place; body = true }

abbrev pub body_of : Scopes → Place → List ℕ → List Event → List Default × Finder → Found × Finder
body_of scopes at locals body d = function_with d.0 (length locals) (steps_of scopes locals (inside at) body d.1)

-- defaults stand outside the function, and see no local
abbrev pub find_function : Scopes → Place → List Parameter → List Event → Finder → Found × Finder
find_function scopes at ps body w = body_of scopes at (of ps body) body (find_parameters scopes at ps w)

abbrev pub find_what : Scopes → Place → What → Finder → Found × Finder
find_what scopes at (Constant name value) w = find_constant scopes at value w
find_what scopes at (Def name ps star body) w = find_function scopes at ps body w
find_what scopes at other w = (no_steps, w)

abbrev pub place_of : Listed → Place
place_of u = record { file = u.file; place = u.place; body = false }

abbrev pub units_onto : List Found → Scopes → List Listed → Finder → List Found × Finder
units_onto done scopes [] w = (done, w)
units_onto done scopes (u ∷ us) w = units_onto (done ++ (find_what scopes (place_of u) u.what w).0 ∷ []) scopes us (find_what scopes (place_of u) u.what w).1

abbrev pub find_units : Scopes → List Listed → Finder → List Found × Finder
find_units scopes us w = units_onto [] scopes us w
