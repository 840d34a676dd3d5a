-- The locals of a function, in the order in which they are first bound.
use Rattle.std.specs.Prelude.{ℕ, nat_eq, List, [], ◌∷◌, Option, position}
use Rattle.indexmap.specs.IndexSet.{insert_key}
use Rattle.rpy_nodes.specs.declared.event.Act.{Act}
use Rattle.rpy_nodes.specs.declared.event.Act.TheVariants as act
use Rattle.rpy_nodes.specs.declared.event.Event.{Event}
use Rattle.rpy_nodes.specs.declared.unit.Parameter.{Parameter}

abbrev pub number : List ℕ → ℕ → Option ℕ
number locals name = position (nat_eq name) locals

abbrev pub add : List ℕ → ℕ → List ℕ
add locals name = insert_key nat_eq locals name

abbrev pub add_parameters : List ℕ → List Parameter → List ℕ
add_parameters locals [] = locals
add_parameters locals (p ∷ ps) = add_parameters (add locals p.name) ps

-- a target, or the name of an exception
abbrev pub add_bound : List ℕ → Act → List ℕ
add_bound locals (act.Bind name) = add locals name
add_bound locals (act.Catch name) = add locals name
add_bound locals other = locals

abbrev pub add_events : List ℕ → List Event → List ℕ
add_events locals [] = locals
add_events locals (e ∷ es) = add_events (add_bound locals e.act) es

-- the parameters, then what the body binds
abbrev pub of : List Parameter → List Event → List ℕ
of params body = add_events (add_parameters [] params) body
