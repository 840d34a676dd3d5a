-- The statics of classes: their vtables, and the one instance of each builtin exception class.
use Rattle.std.specs.Prelude.{ℕ, zero, suc, ◌+◌, ◌-◌, Bool, true, List, [], ◌∷◌, ◌++◌, map, slice_get, unwrap_or, length, Option, Some, None, pos}
use Rattle.csub_tree.specs.declared.tree.CCell.{CCell}
use Rattle.csub_tree.specs.declared.tree.CCell.TheVariants as cell
use Rattle.csub_tree.specs.declared.tree.CConst.{CConst}
use Rattle.csub_tree.specs.declared.tree.CConst.TheVariants as constant
use Rattle.csub_tree.specs.declared.tree.CStatic.{CStatic}
use Rattle.rpy_tree.specs.declared.program.ClassInfo.{ClassInfo}
use Rattle.rpy_resolved.specs.declared.tree.Class.{Class}
use Rattle.rpy_resolved.specs.declared.tree.Resolved.{Resolved}
use Rattle.class_desc.specs.Line.{base, method}
use Rattle.class_desc.specs.Range.{range}
use Rattle.rtyper_layout.specs.declared.classes.Laid.{Laid}
use Rattle.rtyper_layout.specs.Families.{vtable_of}
use Rattle.rtyper_layout.specs.Types.{word}
use Rattle.rtyper_op.specs.Constants.{char_cell}
use Rattle.rtyper_class.specs.Seen.{World, laid}

abbrev pub no_function : CCell
no_function = cell.Const constant.Null

-- the graph of a function, where that is reached
abbrev pub function_if : Option Bool → Option ℕ → CCell
function_if (Some true) (Some number) = cell.Const (constant.Fun number)
function_if reached number = no_function

abbrev pub function_cell : World → List Bool → Option ℕ → CCell
function_cell world reached None = no_function
function_cell world reached (Some f) = function_if (slice_get reached f) (slice_get world.around.numbers f)

-- the nearest method of a name
abbrev pub method_cell : World → List Bool → ℕ → List ℕ → CCell
method_cell world reached class name = function_cell world reached (method world.classes.classes class name)

abbrev pub method_cells : World → List Bool → ℕ → List (List ℕ) → List CCell
method_cells world reached class names = map (method_cell world reached class) names

abbrev pub name_in : Option Class → List ℕ
name_in None = []
name_in (Some class) = class.name

abbrev pub name_cells : Resolved → ℕ → List CCell
name_cells program class = map char_cell (name_in (slice_get program.classes class))

-- the names of the methods of a family, by the struct of its vtables: the first is struct 1
abbrev pub names_of : World → ℕ → List (List ℕ)
names_of world vtable = unwrap_or (slice_get world.around.layout.methods (vtable - 1)) []

abbrev pub number_cell : World → ℕ → CCell
number_cell world class = cell.Const (constant.Word (pos (range world.classes.classes class).0))

-- the number of the class, its methods, and its name
abbrev pub vtable : World → Resolved → List Bool → ℕ → CStatic
vtable world program reached class = record {
  kind = vtable_of (laid world class);
  cells = number_cell world class ∷ method_cells world reached class (names_of world (vtable_of (laid world class))) ++ cell.Braces (name_cells program class) ∷ [];
}

-- of the classes that have structs, in their order
abbrev pub vtables : World → Resolved → List Bool → List CStatic
vtables world program reached = map (vtable world program reached) world.around.layout.order

-- ---- builtin exceptions

abbrev pub wrap_next : (ℕ → List CCell → List CCell) → Option ℕ → List CCell → List CCell
wrap_next further None cells = cells
wrap_next further (Some b) cells = further b (cell.Braces cells ∷ [])

-- the cells of a struct that stands within so many others, the outer ones with it alone
abbrev pub wrapped : List ClassInfo → ℕ → ℕ → List CCell → List CCell
wrapped classes zero class cells = cells
wrapped classes (suc n) class cells = wrap_next (wrapped classes n) (base classes class) cells

-- where the vtable stands, of an instance of a class without attributes
abbrev pub exception_with : World → ℕ → CConst → ℕ → CStatic
exception_with world kind vtable class = record {
  kind = kind;
  cells = wrapped world.classes.classes (length world.classes.classes) class (cell.Const vtable ∷ []);
}

-- the vtable of a class
abbrev pub vtable_at : World → Laid → CConst
vtable_at world laid = constant.Static laid.vtable (word (world.first_vtable + laid.place))

abbrev pub exception_by : World → Option Laid → ℕ → CStatic
exception_by world None class = exception_with world 0 constant.Null class
exception_by world (Some laid) class = exception_with world laid.own (vtable_at world laid) class

abbrev pub exception : World → ℕ → CStatic
exception world class = exception_by world (laid world class) class

-- of the first so many classes
abbrev pub exceptions_to : World → ℕ → List CStatic
exceptions_to world zero = []
exceptions_to world (suc n) = exceptions_to world n ++ exception world n ∷ []

-- the builtin ones are the first thirteen, where `Exception` has structs
abbrev pub exceptions_if : World → Option Laid → List CStatic
exceptions_if world None = []
exceptions_if world (Some laid) = exceptions_to world 13

abbrev pub exceptions : World → List CStatic
exceptions world = exceptions_if world (laid world 0)
