-- All parts of a program but its modules, or the fault of a name.
use Rattle.std.specs.Prelude.{ℕ, ◌+◌, Bool, true, false, not, if◌then◌else◌, ◌==◌, ◌&&◌, List, [], ◌∷◌, length, Option, Some, None, Result, Ok, Err}
use Rattle.rpy_tree.specs.declared.program.ClassInfo.{ClassInfo}
use Rattle.rpy_tree.specs.declared.program.Const.{Const}
use Rattle.rpy_nodes.specs.Listing.{listing}
use Rattle.rpy_nodes.specs.declared.listing.Named.{Named}
use Rattle.rpy_nodes.specs.declared.unit.Listing.{Listing}
use Rattle.rpy_nodes.specs.declared.unit.Parameter.{Parameter}
use Rattle.rpy_nodes.specs.declared.unit.Unit.{Unit as Listed}
use Rattle.rpy_nodes.specs.declared.unit.What.{What}
use Rattle.rpy_nodes.specs.declared.unit.What.TheVariants.{Import, From, Constant, Def, Class}
use Rattle.names_bound.specs.Base.{class_bases, without_rings, base_faults}
use Rattle.names_bound.specs.Clash.{clashing, clash_faults}
use Rattle.names_bound.specs.Declare.{declared}
use Rattle.names_bound.specs.Fault.{lesser}
use Rattle.names_bound.specs.Imports.{faults}
use Rattle.names_bound.specs.Table.{Entries}
use Rattle.names_bound.specs.declared.declare.ClassAt.{ClassAt}
use Rattle.names_bound.specs.declared.declare.Declared.{Declared}
use Rattle.names_bound.specs.declared.fault.Fault.{Fault}
use Rattle.names_bound.specs.declared.fault.FaultKind.{FaultKind}
use Rattle.names_bound.specs.declared.fault.FaultKind.TheVariants as kind
use Rattle.names_bound.specs.declared.scopes.Scopes.{Scopes}
use Rattle.names_found.specs.Finder.{start, add_fault}
use Rattle.names_found.specs.Units.{find_units}
use Rattle.names_found.specs.declared.finder.Finder.{Finder}
use Rattle.names_found.specs.declared.step.SiteAt.{SiteAt}
use Rattle.names_found.specs.declared.unit.Found.{Found}
use Rattle.names_value.specs.Constants.{constant_values, bad_constants}
use Rattle.names_value.specs.Machine.{narrow}
use Rattle.names_value.specs.declared.constants.Checked.{Checked}
use Rattle.names_value.specs.declared.constants.Values.{Values}
use Rattle.rpy_names.specs.Clauses.{clause_infos}
use Rattle.rpy_names.specs.Tables.{function_infos, class_infos, program_sites}
use Rattle.rpy_names.specs.Uses.{uses}
use Rattle.rpy_names.specs.declared.build.Bound.{Bound}
use Rattle.rpy_names.specs.declared.build.Entry.{Entry}
use Rattle.rpy_names.specs.declared.build.Parts.{Parts}
use Rattle.rpy_names.specs.declared.fault.NameFault.{NameFault}
use Rattle.rpy_names.specs.declared.fault.NameFault.TheVariants as fault

-- ---- the entry point

abbrev pub one_parameter : Bool → List Parameter → Option ℕ
one_parameter false (p ∷ []) = Some p.node
one_parameter star ps = None

abbrev pub entry_in : What → Option ℕ
entry_in (Def name ps star body) = if name == 44 then one_parameter star ps else None
entry_in other = None

-- a function of the main module with this name and one plain parameter
abbrev pub entry_parameter : Listed → Option ℕ
entry_parameter u = if u.file == 0 && not u.inside then entry_in u.what else None

abbrev pub function_count : What → ℕ
function_count (Def name ps star body) = 1
function_count other = 0

abbrev pub entry_or : ℕ → Option ℕ → Option Entry → Option Entry
entry_or function None rest = rest
entry_or function (Some parameter) rest = Some (record { function = function; parameter = parameter })

abbrev pub entry_from : ℕ → List Listed → Option Entry
entry_from function [] = None
entry_from function (u ∷ us) = entry_or function (entry_parameter u) (entry_from (function + function_count u.what) us)

abbrev pub entry_of : List Listed → Option Entry
entry_of units = entry_from 0 units

abbrev pub entry_site : Option Entry → SiteAt
entry_site None = record { node = 0; dict = false }
entry_site (Some entry) = record { node = entry.parameter; dict = false }

-- ---- names of modules and classes

abbrev pub with_bases : Entries → Entries → List (Option ℕ) → Scopes
with_bases bindings members bases = record { bindings = bindings; members = members; bases = bases }

abbrev pub rebased : Scopes → List (Option ℕ) → Scopes
rebased s named = with_bases s.bindings s.members (without_rings named)

-- the least fault of a binding, an import, a base or a clash
abbrev pub bound_fault : Listing → Scopes → List (Option ℕ) → List ClassAt → Entries → Entries → Option Fault → Option Fault
bound_fault l s named classes attributes methods f =
    lesser (lesser (lesser f (faults s l.modules l.units)) (base_faults s named classes l.units)) (clash_faults s.bases (clashing attributes methods s.bases) classes l.units)

abbrev pub bind_scopes : Listing → Declared → List (Option ℕ) → Scopes → Bound
bind_scopes l d named s = record { scopes = s; functions = d.functions; classes = d.classes; constants = d.constants; fault = bound_fault l s named d.classes d.attributes d.methods d.fault }

abbrev pub bind_named : Listing → Declared → Scopes → List (Option ℕ) → Bound
bind_named l d s named = bind_scopes l d named (rebased s named)

abbrev pub bind_bases : Listing → Declared → Scopes → Bound
bind_bases l d s = bind_named l d s (class_bases s d.classes l.units)

abbrev pub bind_declared : Listing → Declared → Bound
bind_declared l d = bind_bases l d (with_bases d.bindings d.members [])

-- the same where the bases and their faults are put in
abbrev pub with_named : Listing → Entries → Entries → Bound → List (Option ℕ) → Bound
with_named l attributes methods b named = record {
  scopes = rebased b.scopes named;
  functions = b.functions;
  classes = b.classes;
  constants = b.constants;
  fault = bound_fault l (rebased b.scopes named) named b.classes attributes methods b.fault;
}

abbrev pub filled : Listing → Entries → Entries → Bound → Bound
filled l attributes methods b = with_named l attributes methods b (class_bases b.scopes b.classes l.units)

abbrev pub bind : Listing → Bound
bind l = bind_declared l (declared l.modules l.units)

-- ---- the parts

abbrev pub program_classes : List (List ℕ) → List Listed → Bound → List (Option Const) → List ClassInfo
program_classes names units b values = class_infos names units values b.constants b.functions b.scopes.bases b.classes

abbrev pub parts_of : Listing → Bound → List Found → List SiteAt → Values → Checked → Entry → Parts
parts_of l b found sites v c entry = record {
  uses = uses l.nodes v.constants (length l.modules) found c.roots;
  functions = function_infos l.units found b.functions;
  classes = program_classes l.names l.units b v.constants;
  sites = program_sites sites v.prebuilt c.prebuilt;
  clauses = clause_infos found;
  entry = narrow entry.function;
}

abbrev pub told_as : ℕ → FaultKind → NameFault
told_as node kind.Unknown = fault.Unknown node
told_as node kind.Twice = fault.Twice node
told_as node kind.BadBase = fault.BadBase node
told_as node kind.BadConstant = fault.BadConstant node
told_as node kind.NoModule = fault.NoModule node

abbrev pub told : Fault → NameFault
told f = told_as f.node f.kind

-- no entry point is told only where no other fault stands
abbrev pub judge : Option Fault → Option Entry → Result Entry NameFault
judge (Some f) entry = Err (told f)
judge None None = Err fault.NoEntryPoint
judge None (Some entry) = Ok entry

abbrev pub parts_if : Listing → Bound → List Found → List SiteAt → Values → Checked → Result Entry NameFault → Result Parts NameFault
parts_if l b found sites v c (Err f) = Err f
parts_if l b found sites v c (Ok entry) = Ok (parts_of l b found sites v c entry)

abbrev pub build_checked : Listing → Bound → Option Entry → List Found × Finder → Values → Checked → Result Parts NameFault
build_checked l b entry f v c = parts_if l b f.0 f.1.sites v c (judge (lesser f.1.fault c.fault) entry)

abbrev pub build_valued : Listing → Bound → Option Entry → List Found × Finder → Values → Result Parts NameFault
build_valued l b entry f v = build_checked l b entry f v (bad_constants l.names v.constants f.0 b.constants)

abbrev pub build_found : Listing → Bound → Option Entry → List Found × Finder → Result Parts NameFault
build_found l b entry f = build_valued l b entry f (constant_values l.names f.0 b.constants)

abbrev pub build_bound : Listing → Option Entry → Bound → Result Parts NameFault
build_bound l entry b = build_found l b entry (find_units b.scopes l.units (add_fault b.fault (start (entry_site entry))))

abbrev pub build_listing : Listing → Result Parts NameFault
build_listing l = build_bound l (entry_of l.units) (bind l)

-- the parts of the program that modules are, or the fault that is told
abbrev pub build : List Named → Result Parts NameFault
build modules = build_listing (listing modules)
