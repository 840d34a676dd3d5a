-- The functions and the classes of a program, in their order.
use Rattle.std.specs.Prelude.{◌≡◌, ℕ, ◌+◌, ◌&&◌, Bool, true, false, List, [], ◌∷◌, ◌++◌, map, slice_get, Option, Some, None}
use Rattle.std.specs.List.{flat_map, list_all}
use Rattle.rpy_tree.specs.declared.program.ClassInfo.{ClassInfo}
use Rattle.rpy_tree.specs.declared.program.FunInfo.{FunInfo}
use Rattle.rpy_tree.specs.declared.program.Program.{Program}
use Rattle.rpy_tree.specs.declared.syntax.ClassDef.{ClassDef}
use Rattle.rpy_tree.specs.declared.syntax.Function as syntax
use Rattle.rpy_tree.specs.declared.syntax.Member.{Member, out-Member}
use Rattle.rpy_tree.specs.declared.syntax.Member.TheOpen.{Member-F}
use Rattle.rpy_tree.specs.declared.syntax.Module.{Module}
use Rattle.rpy_tree.specs.declared.syntax.Param.{Param}
use Rattle.rpy_meaning.specs.Resolved.{Names, default_of, joined, stmt_by, names_at, class_by}
use Rattle.rpy_meaning.specs.Tree.{Class}
use Rattle.rpy_meaning.specs.Tree as tree
use Rattle.rpy_resolved.specs.declared.tree.Function.{Function}
use Rattle.resolved_meaning.specs.Trees.{function_of}
use Rattle.resolved_laws.specs.Meant.{further_of}
use Rattle.resolved_laws.specs.Uncopied.{uncopied_function}
use Rattle.resolver_names.specs.declared.names.Names as code

abbrev pub locals_of : Option FunInfo → ℕ
locals_of None = 0
locals_of (Some info) = info.locals

abbrev pub locals_in : List FunInfo → ℕ → ℕ
locals_in infos number = locals_of (slice_get infos number)

abbrev pub tree_in : Program → Function → tree.Function
tree_in p f = uncopied_function (function_of p.sites f)

abbrev pub function_tree : code.Names → Function → tree.Function
function_tree names f = tree_in names.program.now f

-- a function of a module with these names, with so many locals
abbrev pub function_with : ℕ → Names × syntax.Function → tree.Function
function_with locals f = record {
  defaults = map (λ (p : Param). default_of f.0 p.default) f.1.params;
  takes_more = f.1.star;
  locals = locals;
  body = joined f.0 (map (stmt_by f.0) f.1.body);
}

-- functions that are numbered from this number on
abbrev pub numbered : List FunInfo → ℕ → List (Names × syntax.Function) → List tree.Function
numbered infos n [] = []
numbered infos n (f ∷ fs) = function_with (locals_in infos n) f ∷ numbered infos (n + 1) fs

abbrev pub method_in : Names → Member-F Member ClassDef → List (Names × syntax.Function)
method_in names (Member-F.Def f) = (names, f) ∷ []
method_in names other = []

abbrev pub method_pairs : Names → Member → List (Names × syntax.Function)
method_pairs names m = method_in names (out-Member m)

-- a function, or the methods of a class
abbrev pub member_in : Names → Member-F Member ClassDef → List (Names × syntax.Function)
member_in names (Member-F.Def f) = (names, f) ∷ []
member_in names (Member-F.Class c) = flat_map (method_pairs names) c.members
member_in names other = []

abbrev pub member_pairs : Names → Member → List (Names × syntax.Function)
member_pairs names m = member_in names (out-Member m)

abbrev pub module_pairs : Program → ℕ → List Module → List (Names × syntax.Function)
module_pairs p first [] = []
module_pairs p first (m ∷ modules) = flat_map (member_pairs (names_at p (further_of p) first)) m.members ++ module_pairs p (first + m.nodes) modules

-- ---- classes

abbrev pub class_with : Program → Option (List ℕ) → ClassInfo → List Class
class_with p None info = []
class_with p (Some name) info = class_by p (further_of p) name info ∷ []

abbrev pub named_from : Program → List (List ℕ) → ℕ → List ClassInfo → List Class
named_from p labels n [] = []
named_from p labels n (info ∷ infos) = class_with p (slice_get labels n) info ++ named_from p labels (n + 1) infos

-- ---- no class stands within a class

abbrev pub is_no_class : Member-F Member ClassDef → Bool
is_no_class (Member-F.Class c) = false
is_no_class other = true

abbrev pub is_flat : Member-F Member ClassDef → Bool
is_flat (Member-F.Class c) = list_all (λ m. is_no_class (out-Member m)) c.members
is_flat other = true

abbrev pub HasNoInnerClasses : List Module → Type 0
HasNoInnerClasses modules = list_all (λ m. list_all (λ a. is_flat (out-Member a)) m.members) modules ≡ true
