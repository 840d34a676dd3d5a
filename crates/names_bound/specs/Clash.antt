-- Classes that have one name as a method and as an attribute, their bases counted.
use Rattle.std.specs.Prelude.{ℕ, zero, suc, ◌+◌, Bool, true, false, not, if◌then◌else◌, ◌==◌, List, [], ◌∷◌, ◌++◌, length, map, Option, Some, None}
use Rattle.rpy_nodes.specs.declared.unit.Unit.{Unit as Listed}
use Rattle.names_bound.specs.Base.{node_of}
use Rattle.names_bound.specs.Fault.{lesser, fault_if}
use Rattle.names_bound.specs.Scopes.{base_in}
use Rattle.names_bound.specs.Table.{Entries, is_fresh}
use Rattle.names_bound.specs.declared.declare.ClassAt.{ClassAt}
use Rattle.names_bound.specs.declared.fault.Fault.{Fault}
use Rattle.names_bound.specs.declared.fault.FaultKind.TheVariants as fault
use Rattle.names_bound.specs.declared.table.Key.{Key}

-- whether it holds here or goes on at the base
abbrev pub or_at_base : (ℕ → Bool) → Option ℕ → Bool → Bool
or_at_base go base true = true
or_at_base go None false = false
or_at_base go (Some base) false = go base

abbrev pub declares_from : Entries → List (Option ℕ) → ℕ → ℕ → ℕ → Bool
declares_from es bases name zero class = false
declares_from es bases name (suc n) class = or_at_base (declares_from es bases name n) (base_in bases class) (not (is_fresh es class name))

-- a class or a base of it declares a name
abbrev pub declares : Entries → List (Option ℕ) → ℕ → ℕ → Bool
declares es bases class name = declares_from es bases name (length bases) class

abbrev pub add_clash : Bool → ℕ → List ℕ → List ℕ
add_clash clashes class done = if clashes then done ++ class ∷ [] else done

abbrev pub add_clashes : List Key → Entries → List (Option ℕ) → List ℕ → List ℕ
add_clashes [] es bases done = done
add_clashes (k ∷ ks) es bases done = add_clashes ks es bases (add_clash (declares es bases k.scope k.name) k.scope done)

abbrev pub keys : Entries → List Key
keys es = map (λ e. e.0) es

-- the classes of which a name of their own is declared as the other thing too
abbrev pub clashing : Entries → Entries → List (Option ℕ) → List ℕ
clashing attributes methods bases = add_clashes (keys methods) attributes bases (add_clashes (keys attributes) methods bases [])

abbrev pub is_among : List ℕ → ℕ → Bool
is_among [] class = false
is_among (c ∷ cs) class = if c == class then true else is_among cs class

abbrev pub inherits_from : List (Option ℕ) → List ℕ → ℕ → ℕ → Bool
inherits_from bases classes zero class = false
inherits_from bases classes (suc n) class = or_at_base (inherits_from bases classes n) (base_in bases class) (is_among classes class)

-- a class or a base of it is among these
abbrev pub inherits : List (Option ℕ) → List ℕ → ℕ → Bool
inherits bases classes class = inherits_from bases classes (length bases) class

abbrev pub faults_onto : Option Fault → ℕ → List (Option ℕ) → List ℕ → List Listed → List ClassAt → Option Fault
faults_onto least place bases clashes units [] = least
faults_onto least place bases clashes units (at ∷ rest) = faults_onto (lesser least (fault_if (inherits bases clashes (13 + place)) (node_of units at.unit) fault.Twice)) (place + 1) bases clashes units rest

abbrev pub clash_faults : List (Option ℕ) → List ℕ → List ClassAt → List Listed → Option Fault
clash_faults bases clashes classes units = faults_onto None 0 bases clashes units classes
