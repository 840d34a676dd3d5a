-- The classes of a program, each with what stands in its body.
use Rattle.std.specs.Prelude.{ℕ, zero, suc, ◌+◌, Bool, false, if◌then◌else◌, ◌==◌, List, [], ◌∷◌, ◌++◌, Option, Some, None}
use Rattle.rpy_tree.specs.declared.program.ClassInfo.{ClassInfo}
use Rattle.rpy_tree.specs.declared.program.Const.{Const}
use Rattle.rpy_tree.specs.declared.program.Const.TheVariants as const
use Rattle.rpy_nodes.specs.declared.listing.Named.{Named}
use Rattle.names_bound.specs.Declare.{class_here}
use Rattle.names_bound.specs.Scopes.{base_in}
use Rattle.names_rules.specs.Bindings.{Counts, none_before, count}
use Rattle.names_rules.specs.Members.{What, Constant, Def, Class, Placed, members}
use Rattle.names_rules.specs.Program.{bases}
use Rattle.names_value.specs.Machine.{narrow, constant_at}
use Rattle.names_constants.specs.Faults.{constant_values}
use Rattle.names_whole.specs.Functions.{as_number}

-- in a program each constant has a value
abbrev pub or_none : Option Const → Const
or_none None = const.None
or_none (Some c) = c

abbrev pub constant : List (Option Const) → ℕ → What → List (List ℕ × Const)
constant values number (Constant name v) = (name, or_none (constant_at values number)) ∷ []
constant values number other = []

abbrev pub method : ℕ → What → List (List ℕ × ℕ)
method number (Def name ps star b) = (name, narrow number) ∷ []
method number other = []

-- a member stands in the body of a class
abbrev pub is_class : ℕ → Option ℕ → Bool
is_class class None = false
is_class class (Some c) = c == class

abbrev pub is_in : ℕ → Counts → Placed → Bool
is_in class c p = is_class class (class_here p.inside c.classes)

-- the constants of a class among these members, with their values
abbrev pub constants_in : List (Option Const) → ℕ → Counts → List Placed → List (List ℕ × Const)
constants_in values class c [] = []
constants_in values class c (p ∷ ps) = (if is_in class c p then constant values c.constants p.what else []) ++ constants_in values class (count p.what c) ps

-- its methods, with the numbers of their functions
abbrev pub methods_in : ℕ → Counts → List Placed → List (List ℕ × ℕ)
methods_in class c [] = []
methods_in class c (p ∷ ps) = (if is_in class c p then method c.functions p.what else []) ++ methods_in class (count p.what c) ps

-- the builtin exception classes have no node of their own
abbrev pub builtins_to : List (Option ℕ) → ℕ → List ClassInfo
builtins_to bases zero = []
builtins_to bases (suc n) = builtins_to bases n ++ record { node = 0; file = 0; base = as_number (base_in bases n); constants = []; methods = [] } ∷ []

-- the body of a class is behind its statement
abbrev pub class_info : List (Option ℕ) → List (Option Const) → Counts → Placed → List Placed → ClassInfo
class_info bases values c p behind = record {
  node = p.node;
  file = narrow p.file;
  base = as_number (base_in bases (c.classes + 13));
  constants = constants_in values (c.classes + 13) (count p.what c) behind;
  methods = methods_in (c.classes + 13) (count p.what c) behind;
}

abbrev pub stated : List (Option ℕ) → List (Option Const) → Counts → Placed → List Placed → What → List ClassInfo
stated bases values c p behind (Class name base) = class_info bases values c p behind ∷ []
stated bases values c p behind other = []

abbrev pub classes_from : List (Option ℕ) → List (Option Const) → Counts → List Placed → List ClassInfo
classes_from bases values c [] = []
classes_from bases values c (p ∷ ps) = stated bases values c p ps p.what ++ classes_from bases values (count p.what c) ps

-- the builtin ones by number, then the others in node order
abbrev pub classes : List Named → List ClassInfo
classes ms = builtins_to (bases ms) 13 ++ classes_from (bases ms) (constant_values ms) none_before (members ms)
