-- Worked rows of names and sites, which compute.
use Rattle.std.proofs.Common.{◌≡◌, ℕ, List, [], ◌∷◌, Option, Some, None, true, false, map, refl}
use Rattle.rpy_nodes.specs.declared.event.Act.{Act}
use Rattle.rpy_nodes.specs.declared.event.Act.TheVariants as act
use Rattle.rpy_nodes.specs.declared.event.Event.{Event}
use Rattle.names_bound.specs.Base.{builtin_bases}
use Rattle.names_bound.specs.declared.fault.FaultKind.TheVariants as fault
use Rattle.names_bound.specs.declared.scopes.Scopes.{Scopes}
use Rattle.names_bound.specs.declared.stand.Stand.{Stand}
use Rattle.names_bound.specs.declared.stand.Stand.TheVariants as stand
use Rattle.names_found.specs.Finder.{find_events, start}
use Rattle.names_found.specs.Locals.{add_events}
use Rattle.names_found.specs.declared.finder.Finder.{Finder}
use Rattle.names_found.specs.declared.finder.Place.{Place}

abbrev event : ℕ → Act → Event
event node a = record { node = node; act = a }

-- x = [y for y in x] with the parameter x: names 50 and 51, nodes 4 to 9
abbrev events : List Event
events = event 4 (act.Bind 50) ∷ event 5 (act.Name 51) ∷ event 6 (act.Bind 51) ∷ event 7 (act.Name 50) ∷ event 8 (act.Comp 3) ∷ event 9 (act.Done 2) ∷ []

locals : add_events (50 ∷ []) events ≡ 50 ∷ 51 ∷ []
locals = refl

abbrev found : Finder
found = find_events (record { bindings = []; members = []; bases = [] }) (50 ∷ 51 ∷ []) (record { file = 0; place = 0; body = true }) events (start (record { node = 1; dict = false }))

-- site 0, then the comprehension's own and that of its walk
sites : found.sites ≡ record { node = 1; dict = false } ∷ record { node = 8; dict = false } ∷ record { node = 8; dict = false } ∷ []
sites = refl

stands : map (λ s. s.stand) found.steps ≡ stand.Local 0 ∷ stand.Local 1 ∷ stand.Local 1 ∷ stand.Local 0 ∷ stand.Nothing ∷ stand.Nothing ∷ []
stands = refl

-- except (KeyError, Z), x: with the local x, where Z is 90 and bound nowhere; KeyError is class 7 and has the number 20
abbrev head : Finder
head = find_events (record { bindings = []; members = []; bases = builtin_bases }) (50 ∷ []) (record { file = 0; place = 0; body = true }) (event 4 (act.Caught 20) ∷ event 4 act.CaughtEnd ∷ event 4 (act.Caught 90) ∷ event 4 act.CaughtEnd ∷ event 4 (act.Catch 50) ∷ event 4 act.Clause ∷ []) (start (record { node = 1; dict = false }))

classes : map (λ s. s.stand) head.steps ≡ stand.Nothing ∷ stand.Class 7 ∷ stand.Nothing ∷ stand.Unknown ∷ stand.Local 0 ∷ stand.Nothing ∷ []
classes = refl

-- outside a function the same names are unknown, at the first of their nodes
outside : (find_events (record { bindings = []; members = []; bases = [] }) [] (record { file = 0; place = 0; body = false }) events (start (record { node = 1; dict = false }))).fault
    ≡ Some (record { node = 5; kind = fault.Unknown })
outside = refl
