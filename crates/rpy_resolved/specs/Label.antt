-- The names of functions and classes, with those of their modules before them.
use Rattle.std.specs.Prelude.{ℕ, List, [], ◌∷◌, ◌++◌, codes}
use Rattle.std.specs.List.{flat_map}
use Rattle.rpy_tree.specs.declared.program.Program.{Program}
use Rattle.rpy_tree.specs.declared.syntax.ClassDef.{ClassDef}
use Rattle.rpy_tree.specs.declared.syntax.Member.{Member, out-Member}
use Rattle.rpy_tree.specs.declared.syntax.Member.TheOpen.{Member-F}
use Rattle.rpy_tree.specs.declared.syntax.Module.{Module}

abbrev pub under : List ℕ → List ℕ → List ℕ
under before name = before ++ codes "." ++ name

abbrev pub method_in : List ℕ → Member-F Member ClassDef → List (List ℕ)
method_in class (Member-F.Def f) = under class f.name ∷ []
method_in class other = []

abbrev pub method_label : List ℕ → Member → List (List ℕ)
method_label class m = method_in class (out-Member m)

-- the functions of a module's member
abbrev pub functions_in : List ℕ → Member-F Member ClassDef → List (List ℕ)
functions_in file (Member-F.Def f) = under file f.name ∷ []
functions_in file (Member-F.Class c) = flat_map (method_label (under file c.name)) c.members
functions_in file other = []

abbrev pub member_functions : List ℕ → Member → List (List ℕ)
member_functions file m = functions_in file (out-Member m)

abbrev pub class_in : List ℕ → Member-F Member ClassDef → List (List ℕ)
class_in file (Member-F.Class c) = under file c.name ∷ []
class_in file other = []

abbrev pub member_class : List ℕ → Member → List (List ℕ)
member_class file m = class_in file (out-Member m)

-- of each module, by its name
abbrev pub of_modules : (List ℕ → Member → List (List ℕ)) → List (List ℕ) → List Module → List (List ℕ)
of_modules f [] modules = []
of_modules f names [] = []
of_modules f (name ∷ names) (m ∷ modules) = flat_map (f name) m.members ++ of_modules f names modules

abbrev pub builtin_classes : List (List ℕ)
builtin_classes =
    codes "Exception"
    ∷ codes "StandardError"
    ∷ codes "ArithmeticError"
    ∷ codes "OverflowError"
    ∷ codes "ZeroDivisionError"
    ∷ codes "LookupError"
    ∷ codes "IndexError"
    ∷ codes "KeyError"
    ∷ codes "ValueError"
    ∷ codes "AttributeError"
    ∷ codes "AssertionError"
    ∷ codes "RuntimeError"
    ∷ codes "NotImplementedError"
    ∷ []

abbrev pub function_labels : Program → List (List ℕ)
function_labels p = of_modules member_functions p.names p.modules

abbrev pub class_labels : Program → List (List ℕ)
class_labels p = builtin_classes ++ of_modules member_class p.names p.modules
