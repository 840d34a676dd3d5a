-- Worked rows of bindings and faults, which compute.
use Rattle.std.proofs.Common.{◌≡◌, ℕ, List, [], ◌∷◌, Option, Some, None, true, false, refl}
use Rattle.names_bound.specs.Base.{leads_back, without_rings}
use Rattle.names_bound.specs.Fault.{lesser}
use Rattle.names_bound.specs.Scopes.{follow, global}
use Rattle.names_bound.specs.Table.{Entries, bind}
use Rattle.names_bound.specs.declared.fault.FaultKind.{FaultKind}
use Rattle.names_bound.specs.declared.fault.FaultKind.TheVariants as fault
use Rattle.names_bound.specs.declared.fault.Fault.{Fault}
use Rattle.names_bound.specs.declared.scopes.Scopes.{Scopes}
use Rattle.names_bound.specs.declared.stand.Stand.TheVariants as stand
use Rattle.names_bound.specs.declared.table.Binding.{Binding}
use Rattle.names_bound.specs.declared.table.Bound.{Bound}
use Rattle.names_bound.specs.declared.table.Bound.TheVariants as bound

abbrev at : ℕ → FaultKind → Option Fault
at node k = Some (record { node = node; kind = k })

smaller_node : lesser (at 3 fault.Unknown) (at 2 fault.NoModule) ≡ at 2 fault.NoModule
smaller_node = refl

smaller_number : lesser (at 2 fault.BadBase) (at 2 fault.Twice) ≡ at 2 fault.Twice
smaller_number = refl

abbrev placed : ℕ → Bound → Binding
placed place b = record { place = place; bound = b }

-- module 0 takes name 50 from module 1, which takes it from module 0; module 0 takes 51 from module 1, which lacks it;
-- module 1 binds 52 to function 4, and module 0 takes it
abbrev scopes : Scopes
scopes = record {
  bindings = bind (bind (bind (bind (bind [] 0 50 (placed 0 (bound.From 1 50))) 1 50 (placed 0 (bound.From 0 50))) 0 51 (placed 1 (bound.From 1 51))) 1 52 (placed 2 (bound.Is (stand.Function 4)))) 0 52 (placed 3 (bound.From 1 52));
  members = [];
  bases = [];
}

ring : follow scopes 0 50 ≡ stand.Unknown
ring = refl

lacking : follow scopes 0 51 ≡ stand.Missing
lacking = refl

taken : follow scopes 0 52 ≡ stand.Function 4
taken = refl

bound_nowhere : global scopes 0 53 ≡ stand.Unknown
bound_nowhere = refl

-- IndexError is class 6
builtin_class : global scopes 0 19 ≡ stand.Class 6
builtin_class = refl

-- classes 1 and 2 lead back to themselves, class 3 leads to them
rings : without_rings (None ∷ Some 2 ∷ Some 1 ∷ Some 1 ∷ []) ≡ None ∷ None ∷ None ∷ Some 1 ∷ []
rings = refl
