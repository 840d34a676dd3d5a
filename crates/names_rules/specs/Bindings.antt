-- What the members of modules bind, each numbered among those of its kind. The first binding of a name in a module stands.
use Rattle.std.specs.Prelude.{ℕ, ◌+◌, if◌then◌else◌, ◌==◌, ◌&&◌, List, [], ◌∷◌, ◌++◌, map, Option, Some, None}
use Rattle.std.specs.Str.{bytes_eq}
use Rattle.names_bound.specs.Declare.{class_here}
use Rattle.names_bound.specs.declared.stand.Stand.{Stand}
use Rattle.names_bound.specs.declared.stand.Stand.TheVariants as stand
use Rattle.names_rules.specs.Imports.{Bound, Is, import_stand, source_of, taken}
use Rattle.names_rules.specs.Members as member
use Rattle.names_rules.specs.Members.{What, Placed}

-- in the scope of a module, or of the body of a class, by its number
pub record Binding : Type 0 where
  pub scope : ℕ
  pub name : List ℕ
  pub place : ℕ
  pub bound : Bound

-- how many functions, classes and constants stand before, the builtin classes aside
pub record Counts : Type 0 where
  pub functions : ℕ
  pub classes : ℕ
  pub constants : ℕ

abbrev pub none_before : Counts
none_before = record { functions = 0; classes = 0; constants = 0 }

abbrev pub count : What → Counts → Counts
count (member.Constant name v) c = record { functions = c.functions; classes = c.classes; constants = c.constants + 1 }
count (member.Def name params star body) c = record { functions = c.functions + 1; classes = c.classes; constants = c.constants }
count (member.Class name base) c = record { functions = c.functions; classes = c.classes + 1; constants = c.constants }
count other c = c

abbrev pub binding : Placed → List ℕ → Bound → Binding
binding p name b = record { scope = p.file; name = name; place = p.place; bound = b }

-- what stands in the body of a class is no name of the module
abbrev pub unless_inside : Option ℕ → Binding → List Binding
unless_inside None b = b ∷ []
unless_inside (Some class) b = []

abbrev pub binds : List (List ℕ) → Counts → Placed → What → List Binding
binds modules c p (member.Import names) = map (λ name. binding p name (Is (import_stand modules name))) names
binds modules c p (member.From path names) = map (λ name. binding p name (taken (source_of modules path) name)) names
binds modules c p (member.Constant name v) = unless_inside (class_here p.inside c.classes) (binding p name (Is (stand.Constant c.constants)))
binds modules c p (member.Def name params star body) = unless_inside (class_here p.inside c.classes) (binding p name (Is (stand.Function c.functions)))
binds modules c p (member.Class name base) = unless_inside (class_here p.inside c.classes) (binding p name (Is (stand.Class (c.classes + 13))))

abbrev pub bindings_from : List (List ℕ) → Counts → List Placed → List Binding
bindings_from modules c [] = []
bindings_from modules c (p ∷ ps) = binds modules c p p.what ++ bindings_from modules (count p.what c) ps

-- what a name of a scope is bound to
abbrev pub look : List Binding → ℕ → List ℕ → Option Binding
look [] scope name = None
look (b ∷ bs) scope name = if scope == b.scope && bytes_eq name b.name then Some b else look bs scope name

abbrev pub add_by : Option Binding → List Binding → Binding → List Binding
add_by None bs b = bs ++ b ∷ []
add_by (Some earlier) bs b = bs

-- a name is bound where it is not yet
abbrev pub add : List Binding → Binding → List Binding
add bs b = add_by (look bs b.scope b.name) bs b

abbrev pub add_all : List Binding → List Binding → List Binding
add_all bs [] = bs
add_all bs (b ∷ more) = add_all (add bs b) more

abbrev pub bindings : List (List ℕ) → List Placed → List Binding
bindings modules ps = add_all [] (bindings_from modules none_before ps)

-- ---- the bodies of classes

abbrev pub class_binding : ℕ → Placed → List ℕ → Stand → Binding
class_binding class p name s = record { scope = class; name = name; place = p.place; bound = Is s }

abbrev pub if_inside : Option ℕ → Placed → List ℕ → Stand → List Binding
if_inside None p name s = []
if_inside (Some class) p name s = class_binding class p name s ∷ []

abbrev pub class_binds : Counts → Placed → What → List Binding
class_binds c p (member.Constant name v) = if_inside (class_here p.inside c.classes) p name (stand.Constant c.constants)
class_binds c p (member.Def name params star body) = if_inside (class_here p.inside c.classes) p name (stand.Method c.functions)
class_binds c p (member.Class name base) = if_inside (class_here p.inside c.classes) p name (stand.Class (c.classes + 13))
class_binds c p other = []

abbrev pub class_bindings_from : Counts → List Placed → List Binding
class_bindings_from c [] = []
class_bindings_from c (p ∷ ps) = class_binds c p p.what ++ class_bindings_from (count p.what c) ps

-- what the bodies of all classes bind, by the numbers of the classes
abbrev pub class_bindings : List Placed → List Binding
class_bindings ps = add_all [] (class_bindings_from none_before ps)
