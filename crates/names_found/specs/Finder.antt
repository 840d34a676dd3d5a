-- What the names of a list of events stand for.
use Rattle.std.specs.Prelude.{ℕ, zero, suc, Bool, true, false, not, if◌then◌else◌, ◌==◌, ◌&&◌, ◌||◌, nat_lt, nat_le, List, [], ◌∷◌, ◌++◌, length, Option, Some, None}
use Rattle.rpy_tree.specs.declared.program.Builtin.{Builtin}
use Rattle.rpy_tree.specs.declared.program.Builtin.TheVariants as builtin
use Rattle.rpy_nodes.specs.declared.event.Act.{Act}
use Rattle.rpy_nodes.specs.declared.event.Act.TheVariants as act
use Rattle.rpy_nodes.specs.declared.event.Event.{Event}
use Rattle.names_bound.specs.Base.{further_stand}
use Rattle.names_bound.specs.Fault.{lesser, fault_if}
use Rattle.names_bound.specs.Known.{is_fixed}
use Rattle.names_bound.specs.Scopes.{global, is_late, member, is_below}
use Rattle.names_bound.specs.declared.fault.Fault.{Fault}
use Rattle.names_bound.specs.declared.fault.FaultKind.TheVariants as fault
use Rattle.names_bound.specs.declared.scopes.Scopes.{Scopes}
use Rattle.names_bound.specs.declared.stand.Stand.{Stand}
use Rattle.names_bound.specs.declared.stand.Stand.TheVariants as stand
use Rattle.names_found.specs.Locals.{number}
use Rattle.names_found.specs.Part.{part_under, without, taken, taken_besides, is_part, sites_of, is_dict}
use Rattle.names_found.specs.declared.finder.Finder.{Finder}
use Rattle.names_found.specs.declared.finder.Place.{Place}
use Rattle.names_found.specs.declared.finder.Seen.{Seen}
use Rattle.names_found.specs.declared.part.Part.{Part}
use Rattle.names_found.specs.declared.step.Called.{Called}
use Rattle.names_found.specs.declared.step.Called.TheVariants as called
use Rattle.names_found.specs.declared.step.SiteAt.{SiteAt}
use Rattle.names_found.specs.declared.step.Step.{Step}

abbrev pub seen : Stand → Bool → Bool → Called → Seen
seen s late makes c = record { part = record { stand = s; late = late; makes = makes }; called = c }

abbrev pub nothing : Seen
nothing = seen stand.Nothing false false called.Plain

-- the number of a local, in the body of a function
abbrev pub local_in : List ℕ → Place → ℕ → Option ℕ
local_in locals at name = if at.body then number locals name else None

abbrev pub local_or : Option ℕ → Stand → Bool → Seen
local_or (Some local) s late = seen (stand.Local local) false false called.Plain
local_or None s late = seen s late false called.Plain

-- a local, else a name of the module, else one that the language knows
abbrev pub name_seen : Scopes → List ℕ → Place → ℕ → Seen
name_seen scopes locals at name = local_or (local_in locals at name) (global scopes at.file name) (is_late scopes at.file at.place name)

-- a name of this very module that is bound only later
abbrev pub is_late_in : Scopes → Place → Stand → ℕ → Bool
is_late_in scopes at (stand.Module file) name = file == at.file && is_late scopes at.file at.place name
is_late_in scopes at other name = false

-- the methods whose call makes a list have seven numbers
abbrev pub makes_list : Stand → ℕ → Bool
makes_list stand.Nothing name = nat_le 37 name && nat_lt name 44
makes_list other name = false

abbrev pub attr_seen : Scopes → Place → Part → ℕ → Seen
attr_seen scopes at base name = seen (member scopes base.stand name) (base.late || is_late_in scopes at base.stand name) (makes_list (member scopes base.stand name) name) called.Plain

abbrev pub builtin_called : Builtin → ℕ → Called
builtin_called builtin.Range count = if count == 3 then called.Range else called.Plain
builtin_called builtin.Xrange count = if count == 3 then called.Range else called.Plain
builtin_called builtin.OsWrite count = if count == 0 then called.Plain else called.Write
builtin_called other count = called.Plain

abbrev pub method_called : Bool → Seen
method_called makes = if makes then seen stand.Nothing false false called.Makes else nothing

abbrev pub called_by : Stand → Bool → ℕ → Seen
called_by (stand.Builtin b) makes count = seen stand.Nothing false false (builtin_called b count)
called_by other makes count = method_called makes

abbrev pub call_seen : Part → ℕ → Seen
call_seen callee count = called_by callee.stand callee.makes count

abbrev pub bind_seen : Option ℕ → Seen
bind_seen None = nothing
bind_seen (Some local) = seen (stand.Local local) false false called.Plain

-- the class at whose end an act stands in the head of a clause
abbrev pub class_seen : Stand → Seen
class_seen caught = seen caught false false called.Plain

-- what an act stands for after these parts, and after the names of this class
abbrev pub act_seen : Scopes → List ℕ → Place → List Part → Stand → Act → Seen
act_seen scopes locals at parts caught (act.Name name) = name_seen scopes locals at name
act_seen scopes locals at parts caught (act.Attr name) = attr_seen scopes at (part_under parts 0) name
act_seen scopes locals at parts caught (act.Call count) = call_seen (part_under parts count) count
act_seen scopes locals at parts caught (act.Bind name) = bind_seen (local_in locals at name)
act_seen scopes locals at parts caught act.CaughtEnd = class_seen caught
act_seen scopes locals at parts caught (act.Catch name) = bind_seen (local_in locals at name)
act_seen scopes locals at parts caught other = nothing

abbrev pub is_unknown : Stand → Bool
is_unknown stand.Unknown = true
is_unknown other = false

abbrev pub is_exception : Scopes → ℕ → Bool
is_exception scopes class = is_below scopes class 0

-- a class that may stand in the head of a clause
abbrev pub is_caught : Scopes → Stand → Bool
is_caught scopes stand.Missing = true
is_caught scopes (stand.Class class) = is_exception scopes class
is_caught scopes other = false

abbrev pub act_fault : Scopes → Stand → ℕ → Act → Stand → Option Fault
act_fault scopes caught node (act.Name name) s = fault_if (is_unknown s) node fault.Unknown
act_fault scopes caught node (act.Attr name) s = fault_if (is_unknown s) node fault.Unknown
act_fault scopes caught node (act.Bind name) s = fault_if (is_fixed name) node fault.Twice
act_fault scopes caught node (act.Catch name) s = fault_if (is_fixed name) node fault.Twice
act_fault scopes caught node act.CaughtEnd s = fault_if (not (is_caught scopes caught)) node fault.Unknown
act_fault scopes caught node other s = None

-- the class that is named in the head of a clause, after an act
abbrev pub act_caught : Scopes → List ℕ → Place → Stand → Act → Stand
act_caught scopes locals at caught (act.Caught name) = (name_seen scopes locals at name).part.stand
act_caught scopes locals at caught (act.CaughtOf name) = further_stand scopes caught name
act_caught scopes locals at caught other = caught

abbrev pub site_count : Act → Called → ℕ
site_count a called.Makes = 1
site_count a other = sites_of a

abbrev pub add_sites : ℕ → SiteAt → List SiteAt → List SiteAt
add_sites zero site sites = sites
add_sites (suc n) site sites = add_sites n site (sites ++ site ∷ [])

abbrev pub push_part : Bool → Part → List Part → List Part
push_part is p parts = if is then parts ++ p ∷ [] else parts

-- an act takes its parts, and may itself wait as one
abbrev pub add_part : Act → Part → List Part → List Part
add_part a p parts = push_part (is_part a) p (without (taken_besides a) (without (taken a) parts))

abbrev pub start : SiteAt → Finder
start entry = record { parts = []; steps = []; caught = stand.Nothing; sites = entry ∷ []; fault = None }

abbrev pub add_fault : Option Fault → Finder → Finder
add_fault f w = record w { fault = lesser w.fault f }

abbrev pub step_of : Event → Seen → ℕ → Step
step_of e s site = record { node = e.node; act = e.act; stand = s.part.stand; late = s.part.late; called = s.called; site = site }

abbrev pub site_at : Event → SiteAt
site_at e = record { node = e.node; dict = is_dict e.act }

abbrev pub add_seen : Event → Seen → Finder → Finder
add_seen e s w = record w {
  parts = add_part e.act s.part w.parts;
  steps = w.steps ++ step_of e s (length w.sites) ∷ [];
  sites = add_sites (site_count e.act s.called) (site_at e) w.sites;
}

abbrev pub set_caught : Stand → Finder → Finder
set_caught s w = record w { caught = s }

abbrev pub find_seen : Scopes → Event → Seen → Finder → Finder
find_seen scopes e s w = add_seen e s (add_fault (act_fault scopes w.caught e.node e.act s.part.stand) w)

abbrev pub find_after : Scopes → List ℕ → Place → Event → Finder → Finder
find_after scopes locals at e w = find_seen scopes e (act_seen scopes locals at w.parts w.caught e.act) w

abbrev pub find_event : Scopes → List ℕ → Place → Event → Finder → Finder
find_event scopes locals at e w = find_after scopes locals at e (set_caught (act_caught scopes locals at w.caught e.act) w)

abbrev pub find_events : Scopes → List ℕ → Place → List Event → Finder → Finder
find_events scopes locals at [] w = w
find_events scopes locals at (e ∷ es) w = find_events scopes locals at es (find_event scopes locals at e w)

abbrev pub cut : Finder → Finder
cut w = record w { parts = []; steps = [] }

abbrev pub cut_off : Finder → List Step × Finder
cut_off w = (w.steps, cut w)

abbrev pub steps_of : Scopes → List ℕ → Place → List Event → Finder → List Step × Finder
steps_of scopes locals at es w = cut_off (find_events scopes locals at es w)
