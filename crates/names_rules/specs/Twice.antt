-- Names that are bound twice, and those that may not be bound.
use Rattle.std.specs.Prelude.{ℕ, Bool, true, false, ◌||◌, List, [], ◌∷◌, ◌++◌, Option, Some, None}
use Rattle.names_bound.specs.declared.fault.Fault.{Fault}
use Rattle.names_bound.specs.declared.fault.FaultKind.TheVariants as fault
use Rattle.names_rules.specs.Bindings.{Binding, Counts, none_before, count, binds, class_binds, look, add, add_all}
use Rattle.names_rules.specs.Least.{faults_if}
use Rattle.names_rules.specs.Members.{Placed}
use Rattle.names_rules.specs.Words.{is_fixed}

abbrev pub is_bound : Option Binding → Bool
is_bound None = false
is_bound (Some b) = true

-- the scope has bound the name before, or the name is None, True or False
abbrev pub is_twice : List Binding → Binding → Bool
is_twice bs b = is_bound (look bs b.scope b.name) || is_fixed b.name

-- what one node binds, after what stands
abbrev pub twice_at : ℕ → List Binding → List Binding → List Fault
twice_at node bs [] = []
twice_at node bs (b ∷ more) = faults_if (is_twice bs b) node fault.Twice ++ twice_at node (add bs b) more

-- what all members bind in their modules and in the bodies of classes
abbrev pub twices_from : List (List ℕ) → Counts → List Binding → List Binding → List Placed → List Fault
twices_from modules c bs cs [] = []
twices_from modules c bs cs (p ∷ ps) =
    (twice_at p.node bs (binds modules c p p.what) ++ twice_at p.node cs (class_binds c p p.what))
    ++ twices_from modules (count p.what c) (add_all bs (binds modules c p p.what)) (add_all cs (class_binds c p p.what)) ps

abbrev pub twices : List (List ℕ) → List Placed → List Fault
twices modules ps = twices_from modules none_before [] [] ps
