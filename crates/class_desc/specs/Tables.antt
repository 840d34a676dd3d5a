-- The tables of the classes of a program.
use Rattle.std.specs.Prelude.{ℕ, Bool, if◌then◌else◌, List, [], ◌∷◌, ◌++◌, replicate, slice_get, unwrap_or, Option, None}
use Rattle.rpy_tree.specs.declared.syntax.Member.{Member, out-Member}
use Rattle.rpy_tree.specs.declared.syntax.Member.TheOpen.{Member-F}
use Rattle.rpy_tree.specs.declared.syntax.ClassDef.{ClassDef, out-ClassDef}
use Rattle.rpy_tree.specs.declared.syntax.Module.{Module}
use Rattle.rpy_tree.specs.declared.program.ClassInfo.{ClassInfo}
use Rattle.rpy_tree.specs.declared.program.Program.{Program}
use Rattle.rpy_tree.specs.declared.program.Const.{Const}
use Rattle.class_desc.specs.declared.classes.Initial.{Initial}
use Rattle.class_desc.specs.declared.classes.Starts.{Starts}
use Rattle.class_desc.specs.Line.{above, topmost, constants_in}
use Rattle.class_desc.specs.Stores.{has, with_name, stored}

-- what a member of a class body declares, after what stands before it
abbrev pub with_member : Member-F Member ClassDef → List (List ℕ) → List (List ℕ)
with_member (Member-F.Const n name value) names = with_name names name
with_member (Member-F.Def f) names = stored f.params f.body names
with_member other names = names

abbrev pub declared_by : List Member → List (List ℕ) → List (List ℕ)
declared_by [] names = names
declared_by (m ∷ ms) names = declared_by ms (with_member (out-Member m) names)

-- the attributes of each class statement among members, in order: each list in order of declaration
abbrev pub add_class : Member-F Member ClassDef → List (List (List ℕ)) → List (List (List ℕ))
add_class (Member-F.Class class) lists = lists ++ declared_by (out-ClassDef class).members [] ∷ []
add_class other lists = lists

abbrev pub add_classes : List Member → List (List (List ℕ)) → List (List (List ℕ))
add_classes [] lists = lists
add_classes (m ∷ ms) lists = add_classes ms (add_class (out-Member m) lists)

abbrev pub add_modules : List Module → List (List (List ℕ)) → List (List (List ℕ))
add_modules [] lists = lists
add_modules (m ∷ ms) lists = add_modules ms (add_classes m.members lists)

-- the attributes of the classes by number; the first thirteen are the builtin exception classes, which declare none
abbrev pub attributes : List Module → List (List (List ℕ))
attributes modules = add_modules modules (replicate 13 [])

-- the classes of a program, and the attributes that each declares
pub record Tables : Type 0 where
  pub classes : List ClassInfo
  pub attributes : List (List (List ℕ))

abbrev pub tables : Program → Tables
tables p = record { classes = p.classes; attributes = attributes p.modules }

abbrev pub own : List (List (List ℕ)) → ℕ → List (List ℕ)
own attributes c = unwrap_or (slice_get attributes c) []

-- the attributes that the class itself declares
abbrev pub declared : Tables → ℕ → List (List ℕ)
declared t c = own t.attributes c

abbrev pub declares : List (List (List ℕ)) → List ℕ → ℕ → Bool
declares attributes name c = has (own attributes c) name

abbrev pub home_in : List ClassInfo → List (List (List ℕ)) → ℕ → List ℕ → Option ℕ
home_in classes attributes c name = topmost (declares attributes name) None (above classes c)

-- the topmost class, among a class and its bases, that declares the attribute
abbrev pub home : Tables → ℕ → List ℕ → Option ℕ
home t c name = home_in t.classes t.attributes c name

-- ---- what the attributes of a new instance are

abbrev pub initial_of : Tables → ℕ → List ℕ × Const → Initial
initial_of t c constant = record { home = unwrap_or (home t c constant.0) c; name = constant.0; value = constant.1 }

-- a name that was met is met no more
abbrev pub with_initial : Tables → ℕ → List ℕ × Const → Starts → Starts
with_initial t c constant s =
    if has s.names constant.0 then s
    else record { names = with_name s.names constant.0; values = s.values ++ initial_of t c constant ∷ [] }

abbrev pub with_initials : Tables → ℕ → List (List ℕ × Const) → Starts → Starts
with_initials t c [] s = s
with_initials t c (constant ∷ constants) s = with_initials t c constants (with_initial t c constant s)

abbrev pub from_classes : Tables → ℕ → List ℕ → Starts → Starts
from_classes t c [] s = s
from_classes t c (b ∷ bs) s = from_classes t c bs (with_initials t c (constants_in (slice_get t.classes b)) s)

abbrev pub starts : Tables → ℕ → Starts
starts t c = from_classes t c (above t.classes c) (record { names = []; values = [] })

-- each name of a class-level constant once, with the nearest value, the constants of the nearest class first
abbrev pub initial : Tables → ℕ → List Initial
initial t c = (starts t c).values
