-- What a name of a module is.
use Rattle.std.specs.Prelude.{◌≡◌, ℕ, zero, suc, Bool, true, false, nat_le, if◌then◌else◌, codes, List, length, Option, Some, None}
use Rattle.std.specs.Str.{bytes_eq}
use Rattle.rpy_tree.specs.declared.program.Builtin.TheVariants as builtin
use Rattle.names_bound.specs.declared.scopes.Scopes.{Scopes}
use Rattle.names_bound.specs.declared.stand.Stand.{Stand}
use Rattle.names_bound.specs.declared.stand.Stand.TheVariants as stand
use Rattle.names_bound.specs.Scopes as code
use Rattle.rpy_nodes.specs.Names.{number}
use Rattle.names_rules.specs.Bindings.{Binding, look}
use Rattle.names_rules.specs.Events.{Names}
use Rattle.names_rules.specs.Imports.{Bound, Is, From}
use Rattle.names_rules.specs.Words.{known}

-- a module lacks the name; where an import led there, it is told at that import
abbrev pub lacking : Bool → Stand
lacking true = stand.Missing
lacking false = stand.Unknown

abbrev pub follow_bound : (ℕ → List ℕ → Stand) → Bound → Stand
follow_bound go (Is s) = s
follow_bound go (From file name) = go file name

abbrev pub follow_binding : (ℕ → List ℕ → Stand) → Bool → Option Binding → Stand
follow_binding go followed None = lacking followed
follow_binding go followed (Some b) = follow_bound go b.bound

-- an import is followed to what it takes; more steps than there are bindings lead in a ring
abbrev pub follow_from : List Binding → ℕ → Bool → ℕ → List ℕ → Stand
follow_from bs zero followed file name = stand.Unknown
follow_from bs (suc n) followed file name = follow_binding (follow_from bs n true) followed (look bs file name)

-- what a module has under a name, as after a dot
abbrev pub follow : List Binding → ℕ → List ℕ → Stand
follow bs file name = follow_from bs (length bs) false file name

abbrev pub global_by : Option Binding → Stand → List ℕ → Stand
global_by None s name = known name
global_by (Some b) s name = code.spoken s

-- what a name of a module is, where it is no local: what the module binds, else what the language knows
abbrev pub global : List Binding → ℕ → List ℕ → Stand
global bs file name = global_by (look bs file name) (follow bs file name) name

abbrev pub late_by : ℕ → Option Binding → Bool
late_by place None = false
late_by place (Some b) = nat_le place b.place

-- the name is bound only at this place or later
abbrev pub is_late : List Binding → ℕ → ℕ → List ℕ → Bool
is_late bs file place name = late_by place (look bs file name)

-- ---- names of class bodies, and names after a dot

abbrev pub bound_stand : Bound → Stand
bound_stand (Is s) = s
bound_stand (From file name) = stand.Unknown

abbrev pub stand_of : Option Binding → Stand
stand_of None = stand.Unknown
stand_of (Some b) = bound_stand b.bound

-- the nearest among the class and its bases that has the name
abbrev pub class_from : List Binding → List (Option ℕ) → ℕ → ℕ → List ℕ → Stand
class_from bs bases zero class name = stand.Unknown
class_from bs bases (suc n) class name = code.or_at_base (λ c. class_from bs bases n c name) (code.base_in bases class) (stand_of (look bs class name))

abbrev pub class_member : List Binding → List (Option ℕ) → ℕ → List ℕ → Stand
class_member bs bases class name = class_from bs bases (length bases) class name

abbrev pub member : List Binding → List Binding → List (Option ℕ) → Stand → List ℕ → Stand
member bs classes bases (stand.Module file) name = follow bs file name
member bs classes bases (stand.Class class) name = class_member classes bases class name
member bs classes bases stand.Os name = if bytes_eq (codes "write") name then stand.Builtin builtin.OsWrite else stand.Unknown
member bs classes bases stand.Sys name = if bytes_eq (codes "maxint") name then stand.MaxInt else stand.Unknown
member bs classes bases stand.Missing name = stand.Missing
member bs classes bases stand.Unknown name = stand.Missing
member bs classes bases other name = stand.Nothing

-- ---- the scopes of the code find the same

abbrev pub FindsAlike : Names → List Binding → Scopes → ℕ → List ℕ → Type 0
FindsAlike names bs s file name =
    (code.follow s file (number names name) ≡ follow bs file name)
    × (code.global s file (number names name) ≡ global bs file name)
    × ((place : ℕ) → code.is_late s file place (number names name) ≡ is_late bs file place name)
