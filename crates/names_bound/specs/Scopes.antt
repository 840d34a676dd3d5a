-- Names of modules and of class bodies, looked up.
use Rattle.std.specs.Prelude.{ℕ, zero, suc, Bool, true, false, if◌then◌else◌, ◌==◌, nat_le, List, length, slice_get, Option, Some, None}
use Rattle.rpy_tree.specs.declared.program.Builtin.TheVariants as builtin
use Rattle.names_bound.specs.Known.{known}
use Rattle.names_bound.specs.Table.{Entries, look}
use Rattle.names_bound.specs.declared.scopes.Scopes.{Scopes}
use Rattle.names_bound.specs.declared.stand.Stand.{Stand}
use Rattle.names_bound.specs.declared.stand.Stand.TheVariants as stand
use Rattle.names_bound.specs.declared.table.Binding.{Binding}
use Rattle.names_bound.specs.declared.table.Bound.{Bound}
use Rattle.names_bound.specs.declared.table.Bound.TheVariants as bound

-- a name that is taken from a module which lacks it is told at that import
abbrev pub absent : Bool → Stand
absent followed = if followed then stand.Missing else stand.Unknown

abbrev pub base_of : Option (Option ℕ) → Option ℕ
base_of None = None
base_of (Some base) = base

abbrev pub base_in : List (Option ℕ) → ℕ → Option ℕ
base_in bases class = base_of (slice_get bases class)

-- ---- names of modules

abbrev pub follow_bound : (ℕ → ℕ → Stand) → Bound → Stand
follow_bound go (bound.Is s) = s
follow_bound go (bound.From file name) = go file name

abbrev pub follow_binding : (ℕ → ℕ → Stand) → Bool → Option Binding → Stand
follow_binding go followed None = absent followed
follow_binding go followed (Some b) = follow_bound go b.bound

-- an import is followed to what it takes; more steps than there are bindings lead in a ring
abbrev pub follow_from : Entries → ℕ → Bool → ℕ → ℕ → Stand
follow_from es zero followed file name = stand.Unknown
follow_from es (suc n) followed file name = follow_binding (follow_from es n true) followed (look es file name)

abbrev pub follow : Scopes → ℕ → ℕ → Stand
follow s file name = follow_from s.bindings (length s.bindings) false file name

-- a name that is bound by a ring of imports is told at the imports
abbrev pub spoken : Stand → Stand
spoken stand.Unknown = stand.Missing
spoken s = s

abbrev pub global_by : Option Binding → Stand → ℕ → Stand
global_by None s name = known name
global_by (Some b) s name = spoken s

abbrev pub global : Scopes → ℕ → ℕ → Stand
global s file name = global_by (look s.bindings file name) (follow s file name) name

abbrev pub late_by : ℕ → Option Binding → Bool
late_by place None = false
late_by place (Some b) = nat_le place b.place

abbrev pub is_late : Scopes → ℕ → ℕ → ℕ → Bool
is_late s file place name = late_by place (look s.bindings file name)

-- ---- names of class bodies

abbrev pub is_stand : Bound → Stand
is_stand (bound.Is s) = s
is_stand (bound.From file name) = stand.Unknown

abbrev pub stand_in : Option Binding → Stand
stand_in None = stand.Unknown
stand_in (Some b) = is_stand b.bound

abbrev pub at_base : (ℕ → Stand) → Option ℕ → Stand
at_base go None = stand.Unknown
at_base go (Some base) = go base

abbrev pub or_at_base : (ℕ → Stand) → Option ℕ → Stand → Stand
or_at_base go base stand.Unknown = at_base go base
or_at_base go base found = found

-- the nearest among the class and its bases that has the name
abbrev pub member_from : Entries → List (Option ℕ) → ℕ → ℕ → ℕ → Stand
member_from es bases zero class name = stand.Unknown
member_from es bases (suc n) class name = or_at_base (λ c. member_from es bases n c name) (base_in bases class) (stand_in (look es class name))

abbrev pub class_member : Scopes → ℕ → ℕ → Stand
class_member s class name = member_from s.members s.bases (length s.bases) class name

-- ---- names after a dot

abbrev pub member : Scopes → Stand → ℕ → Stand
member s (stand.Module file) name = follow s file name
member s (stand.Class class) name = class_member s class name
member s stand.Os name = if name == 10 then stand.Builtin builtin.OsWrite else stand.Unknown
member s stand.Sys name = if name == 11 then stand.MaxInt else stand.Unknown
member s stand.Missing name = stand.Missing
member s stand.Unknown name = stand.Missing
member s other name = stand.Nothing

-- ---- classes above a class

abbrev pub below_at : (ℕ → Bool) → Option ℕ → Bool → Bool
below_at go base true = true
below_at go None false = false
below_at go (Some base) false = go base

abbrev pub below_from : List (Option ℕ) → ℕ → ℕ → ℕ → Bool
below_from bases above zero class = false
below_from bases above (suc n) class = below_at (below_from bases above n) (base_in bases class) (class == above)

-- the class is the other one or leads to it
abbrev pub is_below : Scopes → ℕ → ℕ → Bool
is_below s class above = below_from s.bases above (length s.bases) class
