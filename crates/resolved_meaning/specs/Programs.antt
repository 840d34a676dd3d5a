-- The classes and the sites of a program, as the definitions of operations see them.
use Rattle.std.specs.Prelude.{ℕ, Bool, true, false, List, [], map, Option, option_map}
use Rattle.rpy_tree.specs.declared.program.Const.{Const}
use Rattle.rpy_tree.specs.declared.program.Site.{Site}
use Rattle.rpy_tree.specs.Value.{Value, Object, Listed, Mapped}
use Rattle.rpy_meaning.specs.Tree.{Class, Program}
use Rattle.rpy_meaning.specs.Operations.{constant}
use Rattle.rpy_resolved.specs.declared.tree.Class as code
use Rattle.rpy_resolved.specs.declared.tree.Resolved.{Resolved}

-- where the objects of sites stand is known before what they hold
abbrev pub empty_at : Site → Option Object
empty_at s = option_map (λ pairs. Listed []) s.prebuilt

abbrev pub value_in : List Site → Const → Value
value_in sites = constant (map empty_at sites)

abbrev pub contents : (Const → Value) → Bool → List (Const × Const) → Object
contents value false pairs = Listed (map (λ (q : Const × Const). value q.1) pairs)
contents value true pairs = Mapped (map (λ (q : Const × Const). (value q.0, value q.1)) pairs)

abbrev pub object_at : List Site → Site → Option Object
object_at sites s = option_map (contents (value_in sites) s.dict) s.prebuilt

abbrev pub sites_of : List Site → List (Option Object)
sites_of sites = map (object_at sites) sites

abbrev pub constants_in : List Site → List (List ℕ × Const) → List (List ℕ × Value)
constants_in sites constants = map (λ (a : List ℕ × Const). (a.0, value_in sites a.1)) constants

abbrev pub class_of : List Site → code.Class → Class
class_of sites c = record {
  name = c.name;
  base = c.base;
  constants = constants_in sites c.constants;
  methods = c.methods;
}

abbrev pub classes_of : List Site → List code.Class → List Class
classes_of sites classes = map (class_of sites) classes

abbrev pub classes_in : Resolved → List Class
classes_in r = classes_of r.sites r.classes

-- the program, as far as operations read it
abbrev pub program_of : Resolved → Program
program_of r = record { functions = []; classes = classes_of r.sites r.classes; sites = sites_of r.sites; entry = 0 }
