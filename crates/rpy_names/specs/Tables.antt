-- The functions, classes and sites of a program.
use Rattle.std.specs.Prelude.{ℕ, zero, suc, ◌+◌, ◌-◌, Bool, true, false, if◌then◌else◌, ◌==◌, nat_lt, List, [], ◌∷◌, ◌++◌, length, drop, slice_get, slice_set, Option, Some, None}
use Rattle.rpy_tree.specs.declared.program.ClassInfo.{ClassInfo}
use Rattle.rpy_tree.specs.declared.program.Const.{Const}
use Rattle.rpy_tree.specs.declared.program.Const.TheVariants as const
use Rattle.rpy_tree.specs.declared.program.FunInfo.{FunInfo}
use Rattle.rpy_tree.specs.declared.program.Site.{Site}
use Rattle.rpy_nodes.specs.declared.unit.Unit.{Unit as Listed}
use Rattle.rpy_nodes.specs.declared.unit.What.{What}
use Rattle.rpy_nodes.specs.declared.unit.What.TheVariants.{Import, From, Constant, Def, Class}
use Rattle.names_bound.specs.Base.{node_of}
use Rattle.names_bound.specs.Scopes.{base_in}
use Rattle.names_bound.specs.declared.declare.ClassAt.{ClassAt}
use Rattle.names_bound.specs.declared.declare.ConstantAt.{ConstantAt}
use Rattle.names_bound.specs.declared.declare.FunctionAt.{FunctionAt}
use Rattle.names_found.specs.declared.step.SiteAt.{SiteAt}
use Rattle.names_found.specs.declared.unit.Found.{Found}
use Rattle.names_value.specs.Machine.{narrow, constant_at}
use Rattle.names_value.specs.declared.machine.Prebuilt.{Prebuilt}

-- ---- functions

abbrev pub locals_in : Option Found → ℕ
locals_in None = 0
locals_in (Some f) = f.locals

abbrev pub locals_of : List Found → ℕ → ℕ
locals_of found unit = locals_in (slice_get found unit)

abbrev pub narrow_option : Option ℕ → Option ℕ
narrow_option None = None
narrow_option (Some n) = Some (narrow n)

abbrev pub file_in : Option Listed → ℕ
file_in None = 0
file_in (Some u) = u.file

abbrev pub file_of : List Listed → ℕ → ℕ
file_of units unit = file_in (slice_get units unit)

abbrev pub function_info : List Listed → List Found → FunctionAt → FunInfo
function_info units found at = record { node = node_of units at.unit; file = narrow (file_of units at.unit); class = narrow_option at.class; locals = narrow (locals_of found at.unit) }

abbrev pub functions_onto : List FunInfo → List Listed → List Found → List FunctionAt → List FunInfo
functions_onto done units found [] = done
functions_onto done units found (f ∷ fs) = functions_onto (done ++ function_info units found f ∷ []) units found fs

abbrev pub function_infos : List Listed → List Found → List FunctionAt → List FunInfo
function_infos units found fs = functions_onto [] units found fs

-- ---- classes

abbrev pub name_in : What → ℕ
name_in (Constant name value) = name
name_in (Def name params star body) = name
name_in other = 0

abbrev pub name_at : Option Listed → ℕ
name_at None = 0
name_at (Some u) = name_in u.what

abbrev pub name_of : List Listed → ℕ → ℕ
name_of units unit = name_at (slice_get units unit)

abbrev pub text_in : Option (List ℕ) → List ℕ
text_in None = []
text_in (Some text) = text

abbrev pub text_of : List (List ℕ) → ℕ → List ℕ
text_of names name = text_in (slice_get names name)

abbrev pub value_or_none : Option Const → Const
value_or_none None = const.None
value_or_none (Some c) = c

abbrev pub value_of : List (Option Const) → ℕ → Const
value_of values number = value_or_none (constant_at values number)

abbrev pub is_of : Option ℕ → ℕ → Bool
is_of None number = false
is_of (Some class) number = class == number

abbrev pub constant_pair : List (List ℕ) → List Listed → List (Option Const) → ℕ → ConstantAt → List ℕ × Const
constant_pair names units values number at = (text_of names (name_of units at.unit), value_of values number)

-- the constants of a class, which follow one another from this number on
abbrev pub constants_onto : List (List ℕ × Const) → List (List ℕ) → List Listed → List (Option Const) → ℕ → ℕ → List ConstantAt → List (List ℕ × Const)
constants_onto done names units values class number [] = done
constants_onto done names units values class number (c ∷ cs) =
    if is_of c.class class then constants_onto (done ++ constant_pair names units values number c ∷ []) names units values class (number + 1) cs else done

abbrev pub class_constants : List (List ℕ) → List Listed → List (Option Const) → List ConstantAt → ℕ → ℕ → List (List ℕ × Const)
class_constants names units values cs first class = constants_onto [] names units values class first (drop first cs)

abbrev pub method_pair : List (List ℕ) → List Listed → ℕ → FunctionAt → List ℕ × ℕ
method_pair names units number at = (text_of names (name_of units at.unit), narrow number)

abbrev pub methods_onto : List (List ℕ × ℕ) → List (List ℕ) → List Listed → ℕ → ℕ → List FunctionAt → List (List ℕ × ℕ)
methods_onto done names units class number [] = done
methods_onto done names units class number (f ∷ fs) =
    if is_of f.class class then methods_onto (done ++ method_pair names units number f ∷ []) names units class (number + 1) fs else done

abbrev pub class_methods : List (List ℕ) → List Listed → List FunctionAt → ℕ → ℕ → List (List ℕ × ℕ)
class_methods names units fs first class = methods_onto [] names units class first (drop first fs)

abbrev pub builtin_info : Option ℕ → ClassInfo
builtin_info base = record { node = 0; file = 0; base = narrow_option base; constants = []; methods = [] }

abbrev pub builtins_to : List (Option ℕ) → ℕ → List ClassInfo
builtins_to bases zero = []
builtins_to bases (suc n) = builtins_to bases n ++ builtin_info (base_in bases n) ∷ []

abbrev pub class_info : List (List ℕ) → List Listed → List (Option Const) → List ConstantAt → List FunctionAt → List (Option ℕ) → ℕ → ClassAt → ClassInfo
class_info names units values cs fs bases class at = record {
  node = node_of units at.unit;
  file = narrow at.file;
  base = narrow_option (base_in bases class);
  constants = class_constants names units values cs at.constant class;
  methods = class_methods names units fs at.function class;
}

abbrev pub classes_onto : List ClassInfo → List (List ℕ) → List Listed → List (Option Const) → List ConstantAt → List FunctionAt → List (Option ℕ) → ℕ → List ClassAt → List ClassInfo
classes_onto done names units values cs fs bases place [] = done
classes_onto done names units values cs fs bases place (c ∷ rest) = classes_onto (done ++ class_info names units values cs fs bases (place + 13) c ∷ []) names units values cs fs bases (place + 1) rest

-- the builtin exception classes, then the others in node order
abbrev pub class_infos : List (List ℕ) → List Listed → List (Option Const) → List ConstantAt → List FunctionAt → List (Option ℕ) → List ClassAt → List ClassInfo
class_infos names units values cs fs bases classes = classes_onto (builtins_to bases 13) names units values cs fs bases 0 classes

-- ---- sites

abbrev pub bare_onto : List Site → List SiteAt → List Site
bare_onto done [] = done
bare_onto done (s ∷ ss) = bare_onto (done ++ record { node = s.node; dict = s.dict; prebuilt = None } ∷ []) ss

abbrev pub fill_site : ℕ → List (Const × Const) → SiteAt → List Site → List Site
fill_site site pairs s all = if nat_lt site (length all) then slice_set all site (record { node = s.node; dict = s.dict; prebuilt = Some pairs }) else all

abbrev pub fill_in : Option SiteAt → ℕ → List (Const × Const) → List Site → List Site
fill_in None site pairs all = all
fill_in (Some s) site pairs all = fill_site site pairs s all

abbrev pub fill : List SiteAt → Prebuilt → List Site → List Site
fill sites p all = fill_in (slice_get sites p.site) p.site p.pairs all

abbrev pub fill_all : List SiteAt → List Prebuilt → List Site → List Site
fill_all sites [] all = all
fill_all sites (p ∷ ps) all = fill_all sites ps (fill sites p all)

-- the sites, with what is made before the run
abbrev pub program_sites : List SiteAt → List Prebuilt → List Prebuilt → List Site
program_sites sites prebuilt more = fill_all sites more (fill_all sites prebuilt (bare_onto [] sites))
