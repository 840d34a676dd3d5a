-- The nodes of functions and of their parameters, in node order, a starred one aside.
use Rattle.std.specs.Prelude.{ℕ, ◌+◌, List, [], ◌∷◌, ◌++◌, map, slice_get, option_map, Option, Some, None}
use Rattle.rpy_tree.specs.declared.syntax.Param.{Param}
use Rattle.rpy_tree.specs.declared.syntax.Function.{Function}
use Rattle.rpy_tree.specs.declared.syntax.Member.{Member, out-Member}
use Rattle.rpy_tree.specs.declared.syntax.Member.TheOpen.{Member-F}
use Rattle.rpy_tree.specs.declared.syntax.ClassDef.{ClassDef, out-ClassDef}
use Rattle.rpy_tree.specs.declared.syntax.Module.{Module}
use Rattle.rpy_tree.specs.declared.program.Program.{Program}
use Rattle.ann_shown.specs.declared.functions.Nodes.{Nodes}

module _ (first : ℕ) where
  abbrev pub node_in : Param → ℕ
  node_in p = first + p.node

  abbrev pub nodes_in : Function → Nodes
  nodes_in f = record { function = first + f.node; params = map node_in f.params }

  abbrev pub with_method : Member-F Member ClassDef → List Nodes → List Nodes
  with_method (Member-F.Def f) all = all ++ nodes_in f ∷ []
  with_method other all = all

  abbrev pub with_methods : List Member → List Nodes → List Nodes
  with_methods [] all = all
  with_methods (m ∷ ms) all = with_methods ms (with_method (out-Member m) all)

  abbrev pub with_member : Member-F Member ClassDef → List Nodes → List Nodes
  with_member (Member-F.Class class) all = with_methods (out-ClassDef class).members all
  with_member other all = with_method other all

  abbrev pub with_members : List Member → List Nodes → List Nodes
  with_members [] all = all
  with_members (m ∷ ms) all = with_members ms (with_member (out-Member m) all)

-- the nodes of each module are numbered from `first` on
abbrev pub with_modules : ℕ → List Module → List Nodes → List Nodes
with_modules first [] all = all
with_modules first (m ∷ ms) all = with_modules (first + m.nodes) ms (with_members first m.members all)

abbrev pub function_nodes : Program → List Nodes
function_nodes p = with_modules 0 p.modules []

abbrev pub param_in : Option Nodes → ℕ → Option ℕ
param_in None i = None
param_in (Some nodes) i = slice_get nodes.params i

-- the node of a function
abbrev pub function_node : Program → ℕ → Option ℕ
function_node p f = option_map (λ nodes. nodes.function) (slice_get (function_nodes p) f)

-- the node of a parameter of a function
abbrev pub param_node : Program → ℕ → ℕ → Option ℕ
param_node p f i = param_in (slice_get (function_nodes p) f) i
