-- What the members of modules and classes bind, in the order of the text.
use Rattle.std.specs.Prelude.{ℕ, ◌+◌, ◌-◌, ◌^◌, Bool, true, false, not, if◌then◌else◌, ◌==◌, ◌&&◌, ◌||◌, nat_lt, List, [], ◌∷◌, ◌++◌, length, Option, Some, None}
use Rattle.rpy_nodes.specs.declared.event.Act.{Act}
use Rattle.rpy_nodes.specs.declared.event.Act.TheVariants as act
use Rattle.rpy_nodes.specs.declared.event.Event.{Event}
use Rattle.rpy_nodes.specs.declared.unit.Parameter.{Parameter}
use Rattle.rpy_nodes.specs.declared.unit.Unit.{Unit as Listed}
use Rattle.rpy_nodes.specs.declared.unit.What.{What}
use Rattle.rpy_nodes.specs.declared.unit.What.TheVariants.{Import, From, Constant, Def, Class}
use Rattle.names_bound.specs.Fault.{lesser, fault_if}
use Rattle.names_bound.specs.Imports.{import_stand, source_of, from_bound}
use Rattle.names_bound.specs.Known.{is_fixed}
use Rattle.names_bound.specs.Table.{Entries, is_fresh, bind}
use Rattle.names_bound.specs.declared.declare.ClassAt.{ClassAt}
use Rattle.names_bound.specs.declared.declare.ConstantAt.{ConstantAt}
use Rattle.names_bound.specs.declared.declare.Declared.{Declared}
use Rattle.names_bound.specs.declared.declare.FunctionAt.{FunctionAt}
use Rattle.names_bound.specs.declared.declare.Spot.{Spot}
use Rattle.names_bound.specs.declared.fault.Fault.{Fault}
use Rattle.names_bound.specs.declared.fault.FaultKind.TheVariants as fault
use Rattle.names_bound.specs.declared.imports.Source.{Source}
use Rattle.names_bound.specs.declared.stand.Stand.{Stand}
use Rattle.names_bound.specs.declared.stand.Stand.TheVariants as stand
use Rattle.names_bound.specs.declared.table.Binding.{Binding}
use Rattle.names_bound.specs.declared.table.Bound.{Bound}
use Rattle.names_bound.specs.declared.table.Bound.TheVariants as bound

-- a name may not be bound that is bound already, nor None, True or False
abbrev pub twice : Bool → ℕ → ℕ → Option Fault
twice fresh name node = fault_if (not fresh || is_fixed name) node fault.Twice

abbrev pub binding : ℕ → Bound → Binding
binding place b = record { place = place; bound = b }

-- a name of a module
abbrev pub bind_name : Spot → ℕ → Bound → Declared → Declared
bind_name at name b d = record d { bindings = bind d.bindings at.file name (binding at.place b); fault = lesser d.fault (twice (is_fresh d.bindings at.file name) name at.node) }

-- a name of a class body
abbrev pub bind_member : Spot → ℕ → ℕ → Stand → Declared → Declared
bind_member at class name s d = record d { members = bind d.members class name (binding at.place (bound.Is s)); fault = lesser d.fault (twice (is_fresh d.members class name) name at.node) }

abbrev pub bind_in : Option ℕ → Spot → ℕ → Stand → Declared → Declared
bind_in None at name s d = bind_name at name (bound.Is s) d
bind_in (Some class) at name s d = bind_member at class name s d

abbrev pub bind_at : Spot → ℕ → Stand → Declared → Declared
bind_at at name s d = bind_in at.class at name s d

-- a class declares a name
abbrev pub declare : ℕ → ℕ → Entries → Entries
declare class name es = bind es class name (binding 0 (bound.Is stand.Nothing))

abbrev pub attribute_in : Option ℕ → ℕ → Declared → Declared
attribute_in None name d = d
attribute_in (Some class) name d = record d { attributes = declare class name d.attributes }

abbrev pub declare_attribute : Spot → ℕ → Declared → Declared
declare_attribute at name d = attribute_in at.class name d

abbrev pub method_in : Option ℕ → ℕ → Declared → Declared
method_in None name d = d
method_in (Some class) name d = record d { methods = declare class name d.methods }

abbrev pub declare_method : Spot → ℕ → Declared → Declared
declare_method at name d = method_in at.class name d

-- the attribute that an act binds, after the name before it
abbrev pub stored : ℕ → Option ℕ → Act → Option ℕ
stored first (Some name) (act.BindAttr attribute) = if name == first then Some attribute else None
stored first last other = None

abbrev pub name_in : Act → Option ℕ
name_in (act.Name name) = Some name
name_in other = None

abbrev pub store_of : Spot → Option ℕ → Declared → Declared
store_of at None d = d
store_of at (Some name) d = declare_attribute at name d

-- the attributes that a method assigns to of its first parameter
abbrev pub stores_from : Spot → ℕ → Option ℕ → List Event → Declared → Declared
stores_from at first last [] d = d
stores_from at first last (e ∷ es) d = stores_from at first (name_in e.act) es (store_of at (stored first last e.act) d)

abbrev pub declare_stores : Spot → ℕ → List Event → Declared → Declared
declare_stores at first es d = stores_from at first None es d

abbrev pub declare_self : Spot → List Parameter → List Event → Declared → Declared
declare_self at [] body d = d
declare_self at (p ∷ ps) body d = declare_stores at p.name body d

abbrev pub function_stand : Option ℕ → ℕ → Stand
function_stand None number = stand.Function number
function_stand (Some class) number = stand.Method number

-- ---- members, each numbered among those of its kind

abbrev pub new_constant : Spot → Declared → Declared
new_constant at d = record d { constants = d.constants ++ record { unit = at.unit; class = at.class } ∷ [] }

abbrev pub add_constant : Spot → ℕ → Declared → Declared
add_constant at name d = declare_attribute at name (bind_at at name (stand.Constant (length d.constants)) (new_constant at d))

abbrev pub new_function : Spot → Declared → Declared
new_function at d = record d { functions = d.functions ++ record { unit = at.unit; class = at.class } ∷ [] }

abbrev pub add_function : Spot → ℕ → List Parameter → List Event → Declared → Declared
add_function at name params body d = declare_self at params body (declare_method at name (bind_at at name (function_stand at.class (length d.functions)) (new_function at d)))

abbrev pub new_class : Spot → Declared → Declared
new_class at d = record d { classes = d.classes ++ record { unit = at.unit; file = at.file; place = at.place; constant = length d.constants; function = length d.functions } ∷ [] }

-- the builtin exception classes have the first 13 numbers
abbrev pub add_class : Spot → ℕ → Declared → Declared
add_class at name d = bind_at at name (stand.Class (length d.classes + 13)) (new_class at d)

abbrev pub add_imports : Spot → List ℕ → List ℕ → Declared → Declared
add_imports at modules [] d = d
add_imports at modules (name ∷ names) d = add_imports at modules names (bind_name at name (bound.Is (import_stand modules name)) d)

abbrev pub add_taken : Spot → Source → List ℕ → Declared → Declared
add_taken at src [] d = d
add_taken at src (name ∷ names) d = add_taken at src names (bind_name at name (from_bound src name) d)

abbrev pub add : Spot → List ℕ → What → Declared → Declared
add at modules (Import names) d = add_imports at modules names d
add at modules (From path names) d = add_taken at (source_of modules path) names d
add at modules (Constant name value) d = add_constant at name d
add at modules (Def name params star body) d = add_function at name params body d
add at modules (Class name base) d = add_class at name d

-- the class in whose body a member stands, which is the last one so far
abbrev pub class_here : Bool → ℕ → Option ℕ
class_here inside classes = if inside && (nat_lt 0 classes && nat_lt classes (2 ^ 64 - 14)) then Some (13 + (classes - 1)) else None

abbrev pub start : Declared
start = record { functions = []; classes = []; constants = []; bindings = []; members = []; attributes = []; methods = []; fault = None }

abbrev pub spot_of : ℕ → Listed → ℕ → Spot
spot_of unit u classes = record { unit = unit; file = u.file; place = u.place; node = u.node; class = class_here u.inside classes }

abbrev pub add_unit : List ℕ → ℕ → Listed → Declared → Declared
add_unit modules unit u d = add (spot_of unit u (length d.classes)) modules u.what d

abbrev pub declared_from : List ℕ → ℕ → List Listed → Declared → Declared
declared_from modules unit [] d = d
declared_from modules unit (u ∷ us) d = declared_from modules (unit + 1) us (add_unit modules unit u d)

abbrev pub declared : List ℕ → List Listed → Declared
declared modules units = declared_from modules 0 units start
