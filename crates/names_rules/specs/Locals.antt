-- The locals of a function: its parameters, then what its body binds, each where it is first bound.
use Rattle.std.specs.Prelude.{◌≡◌, ℕ, true, List, [], ◌∷◌, ◌++◌, map}
use Rattle.std.specs.List.{AllByRecursion, list_any}
use Rattle.std.specs.Str.{bytes_eq}
use Rattle.rpy_tree.specs.declared.syntax.Stmt.{Stmt}
use Rattle.names_rules.specs.Order.{Item, Items, Bind, Catch, block}
use Rattle.names_rules.specs.Events.{Names, see}
use Rattle.names_rules.specs.Members.{Formal, What, Def, Placed, what_said}
use Rattle.names_rules.specs.ProgramSites.{locals_of}
use Rattle.rpy_nodes.specs.Names.{number}

-- a target, or the name that a clause binds
abbrev pub bound_by : Item → List (List ℕ)
bound_by (Bind name) = name ∷ []
bound_by (Catch name) = name ∷ []
bound_by item = []

abbrev pub bound : Items → List (List ℕ)
bound [] = []
bound (i ∷ is) = bound_by i ++ bound is

abbrev pub names_bound : List Formal → List Stmt → List (List ℕ)
names_bound params body = map (λ p. p.name) params ++ bound (block body)

abbrev pub locals : List Formal → List Stmt → List (List ℕ)
locals params body = see (names_bound params body) []

-- a name that stands in a table
abbrev pub Has : Names → List ℕ → Type 0
Has names name = list_any (bytes_eq name) names ≡ true

-- a member whose names all stand in a table
abbrev pub IsKnown : Names → Placed → Type 0
IsKnown names p = AllByRecursion (Has names) (what_said p.what)

-- a function whose locals are in the code the numbers of those of the rules, in the same order
abbrev pub AreLocals : Names → What → Type 0
AreLocals names (Def name params star body) = locals_of names params body ≡ map (number names) (locals params body.of)
AreLocals names other = Unit {0}

abbrev pub HasLocals : Names → Placed → Type 0
HasLocals names p = AreLocals names p.what
