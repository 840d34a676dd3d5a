-- Worked rows of programs, which compute.
use Rattle.std.proofs.Common.{◌≡◌, ℕ, List, [], ◌∷◌, ◌++◌, Some, None, true, false, codes, refl}
use Rattle.rpy_nodes.specs.declared.event.Act.{Act}
use Rattle.rpy_nodes.specs.declared.event.Act.TheVariants as act
use Rattle.rpy_nodes.specs.declared.event.Event.{Event}
use Rattle.names_bound.specs.Base.{builtin_bases}
use Rattle.names_bound.specs.Table.{bind}
use Rattle.names_bound.specs.declared.scopes.Scopes.{Scopes}
use Rattle.names_bound.specs.declared.stand.Stand.TheVariants as stand
use Rattle.names_bound.specs.declared.table.Bound.TheVariants as bound
use Rattle.names_found.specs.Finder.{find_events, start}
use Rattle.names_found.specs.declared.step.Step.{Step}
use Rattle.rpy_names.specs.Clauses.{see_steps, no_heads}
use Rattle.rpy_names.specs.Place.{place}
use Rattle.rpy_names.specs.Resolve.{namefault}
use Rattle.rpy_names.specs.Uses.{put_steps, no_uses}
use Rattle.rpy_names.specs.declared.fault.NameFault.TheVariants.{NoEntryPoint}

empty_module : namefault (record { name = codes "a"; «module» = record { members = []; nodes = 0; lines = [] } } ∷ []) ≡ Some NoEntryPoint
empty_module = refl

-- the second node of the second module
second_file : place (record { name = codes "a"; «module» = record { members = []; nodes = 2; lines = 1 ∷ 3 ∷ [] } } ∷ record { name = codes "b"; «module» = record { members = []; nodes = 2; lines = 1 ∷ 7 ∷ [] } } ∷ []) 3 ≡ (1, 7)
second_file = refl

-- ---- except (KeyError, b.C), e: with the local e, and a bare except; names 50 to 52 are b, C and e, KeyError has 20

abbrev event : ℕ → Act → Event
event node a = record { node = node; act = a }

abbrev heads : List Event
heads = event 5 (act.Caught 20) ∷ event 5 act.CaughtEnd ∷ event 5 (act.Caught 50) ∷ event 5 (act.CaughtOf 51) ∷ event 5 act.CaughtEnd ∷ event 5 (act.Catch 52) ∷ event 5 act.Clause ∷ event 8 act.Clause ∷ []

-- module 1 is b, which binds C to class 13, below Exception
abbrev scopes : Scopes
scopes = record {
  bindings = bind (bind [] 0 50 (record { place = 0; bound = bound.Is (stand.Module 1) })) 1 51 (record { place = 0; bound = bound.Is (stand.Class 13) });
  members = [];
  bases = builtin_bases ++ Some 0 ∷ [];
}

abbrev steps : List Step
steps = (find_events scopes (52 ∷ []) (record { file = 0; place = 1; body = true }) heads (start (record { node = 1; dict = false }))).steps

clauses : (see_steps steps no_heads).clauses ≡ record { node = 5; classes = 7 ∷ 13 ∷ []; local = Some 0 } ∷ record { node = 8; classes = []; local = None } ∷ []
clauses = refl

no_use_in_a_head : put_steps [] 2 steps (no_uses 9) ≡ no_uses 9
no_use_in_a_head = refl
