-- What those who lower a program know of it, by the world of the lowering.
use Rattle.std.specs.Prelude.{◌≡◌, ◌≤◌, ℕ, ◌+◌, Bool, true, List, ◌++◌, length, map, slice_get, Option, Some, None, option_map}
use Rattle.ann_element.specs.declared.element.Element.{Element}
use Rattle.csub_tree.specs.State.{Value, Null, Static, Block}
use Rattle.csub_tree.specs.Layout.{constant, joined, cell_constants}
use Rattle.csub_tree.specs.declared.tree.CCell.{CCell}
use Rattle.rpy_meaning.specs.Tree.{Class, Program}
use Rattle.rpy_meaning.specs.Classes.{base_of}
use Rattle.rpy_meaning.specs.Resolved.{Further, builtin_names, class_names_from, program_of}
use Rattle.rpy_resolved.specs.declared.tree.Resolved.{Resolved}
use Rattle.rpy_tree.specs.declared.program.ClassInfo.{ClassInfo}
use Rattle.rpy_tree.specs.declared.program.Program as tree
use Rattle.class_desc.specs.Line.{base}
use Rattle.class_desc.specs.Range.{IsForest, range}
use Rattle.rtyper_layout.specs.declared.classes.Laid.{Laid}
use Rattle.rtyper_layout.specs.Families.{vtable_of}
use Rattle.rtyper_layout.specs.Types.{word}
use Rattle.rtyper_class.specs.Attributes.{place_in}
use Rattle.rtyper_class.specs.Seen.{World, laid}
use Rattle.rtyper_class.specs.Vtables.{method_cells, name_cells, names_of, vtable_at}
use Rattle.object_laws.specs.Ghost.{Home}
use Rattle.object_laws.specs.Known.{Known, Vtable}
use Rattle.class_laws.specs.Classes.{IsOf, standing_of}

abbrev pub values : List CCell → List Value
values cells = map constant (joined (map cell_constants cells))

abbrev pub vtable_in : World → Option Laid → Value
vtable_in world None = Null
vtable_in world (Some l) = constant (vtable_at world l)

-- what stands in the static that is written for the class
abbrev pub vtable_known : World → Resolved → List Bool → ℕ → Vtable
vtable_known world program reached class = record {
  at = vtable_in world (laid world class);
  number = (range world.classes.classes class).0;
  methods = values (method_cells world reached class (names_of world (vtable_of (laid world class))));
  name = values (name_cells program class);
}

abbrev pub graph_if : Option Bool → Option ℕ → Option ℕ
graph_if (Some true) number = number
graph_if reached number = None

-- The program as its meaning sees it, what is known of the items of lists and of the values and keys of dicts, the statics that stay, and
-- where the lists and dicts of modules stand, are given.
abbrev pub known_of : World → Resolved → List Bool → Program → (ℕ → Option Element) → (ℕ → Option Element) → (ℕ → Option Block) → (ℕ → Option Home) → Known
known_of world program reached meant items keys static site = record {
  program = meant;
  items = items;
  keys = keys;
  attribute = λ class name. option_map standing_of (place_in world class name);
  vtable = vtable_known world program reached;
  exception = λ class. Static (word (world.first_exception + class));
  graph = λ f. graph_if (slice_get reached f) (slice_get world.around.numbers f);
  static = static;
  site = site;
}

-- the classes of the meaning are these: as many, with the same bases
pub record AreClasses (meant : List Class) (infos : List ClassInfo) : Type 0 where
  pub count : length meant ≡ length infos
  pub bases : (class : ℕ) → base_of (slice_get meant class) ≡ base infos class

abbrev pub ClassesAreKnown : Type 0
ClassesAreKnown = (world : World) (program : Resolved) (reached : List Bool) (meant : Program) (items keys : ℕ → Option Element) (static : ℕ → Option Block) (site : ℕ → Option Home)
    → IsForest world.classes.classes → AreClasses meant.classes world.classes.classes → IsOf world (known_of world program reached meant items keys static site)

-- the program that the meaning makes of a program has the classes of that, where each of them has a name
abbrev pub ProgramsHaveTheirClasses : Type 0
ProgramsHaveTheirClasses = (p : tree.Program) (further : Further) → length p.classes ≤ length (builtin_names ++ class_names_from p further p.names p.modules) → AreClasses (program_of p further).classes p.classes
