-- The program that modules are, or the fault of a name.
use Rattle.std.specs.Prelude.{◌≡◌, ◌≤◌, ℕ, [], vec_capacity, List, Option, Some, None, Result, Ok, Err}
use Rattle.rpy_tree.specs.declared.program.Program.{Program}
use Rattle.rpy_nodes.specs.declared.listing.Named.{Named}
use Rattle.rpy_names.specs.Build.{build}
use Rattle.rpy_names.specs.Place.{modules_of, names_of}
use Rattle.rpy_names.specs.declared.build.Parts.{Parts}
use Rattle.rpy_names.specs.declared.fault.NameFault.{NameFault}
use Rattle.rpy_names.specs.declared.fault.NameFault.TheVariants.{NoMem}
use Rattle.rpy_names.specs.declared.fault.NameRefusal.{NameRefusal}
use Rattle.rpy_names.specs.declared.move_in.Room.{Room}
use Rattle.rpy_base.specs.declared.fault.NoMem.{NoMem as NoMemory}

abbrev pub program_with : List Named → Parts → Program
program_with modules p = record { names = names_of modules; modules = modules_of modules; uses = p.uses; functions = p.functions; classes = p.classes; sites = p.sites; clauses = p.clauses; entry = p.entry }

abbrev pub program_by : List Named → Result Parts NameFault → Option Program
program_by modules (Ok p) = Some (program_with modules p)
program_by modules (Err fault) = None

-- the program, where no fault stands
abbrev pub prog : List Named → Option Program
prog modules = program_by modules (build modules)

abbrev pub fault_by : Result Parts NameFault → Option NameFault
fault_by (Ok p) = None
fault_by (Err fault) = Some fault

-- the fault, where one stands
abbrev pub namefault : List Named → Option NameFault
namefault modules = fault_by (build modules)

-- memory may always fail
abbrev pub IsTold : Option NameFault → NameFault → Type 0
IsTold wanted NoMem = Unit {0}
IsTold wanted fault = wanted ≡ Some fault

-- the program; or the fault, with the modules as they were
abbrev pub IsResolved : List Named → Result Program NameRefusal → Type 0
IsResolved modules (Ok p) = prog modules ≡ Some p
IsResolved modules (Err refusal) = (refusal.modules ≡ modules) × IsTold (namefault modules) refusal.fault

-- ---- room for a program

-- if there is room, it is for so many modules
abbrev pub IsRoom : ℕ → Result Room NoMemory → Type 0
IsRoom count (Err e) = Unit {0}
IsRoom count (Ok room) = (room.names.items ≡ []) × (room.modules.items ≡ []) × (count ≤ vec_capacity room.names) × (count ≤ vec_capacity room.modules)

abbrev pub IsMoved : List Named → Parts → Result Program NameRefusal → Type 0
IsMoved modules parts (Ok p) = p ≡ program_with modules parts
IsMoved modules parts (Err refusal) = (refusal.modules ≡ modules) × (refusal.fault ≡ NoMem)
