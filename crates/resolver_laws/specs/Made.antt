-- What a resolved program has of the program that it is made of.
use Rattle.std.specs.Prelude.{◌≡◌, ℕ, ◌+◌, ◌%◌, ◌^◌, ◌<◌, ◌≤◌, List, [], ◌∷◌, ◌++◌, map, slice_get, Some}
use Rattle.std.specs.List.{flat_map}
use Rattle.rpy_tree.specs.declared.program.Program.{Program}
use Rattle.rpy_tree.specs.declared.syntax.ClassDef.{ClassDef}
use Rattle.rpy_tree.specs.declared.syntax.Function as syntax
use Rattle.rpy_tree.specs.declared.syntax.Member.{Member, out-Member}
use Rattle.rpy_tree.specs.declared.syntax.Member.TheOpen.{Member-F}
use Rattle.rpy_tree.specs.declared.syntax.Module.{Module}
use Rattle.rpy_resolved.specs.declared.tree.Function.{Function}
use Rattle.rpy_resolved.specs.declared.tree.Resolved.{Resolved}
use Rattle.resolver_names.specs.Nodes.{block_values, block_nodes}
use Rattle.resolver_laws.specs.Listing.{tree_in, numbered, module_pairs}

-- a function of a module, with the number of the module's first node
abbrev pub Source : Type 0
Source = ℕ × syntax.Function

abbrev pub method_source : ℕ → Member-F Member ClassDef → List Source
method_source first (Member-F.Def f) = (first, f) ∷ []
method_source first other = []

abbrev pub method_sources : ℕ → Member → List Source
method_sources first m = method_source first (out-Member m)

abbrev pub member_source : ℕ → Member-F Member ClassDef → List Source
member_source first (Member-F.Def f) = (first, f) ∷ []
member_source first (Member-F.Class c) = flat_map (method_sources first) c.members
member_source first other = []

abbrev pub member_sources : ℕ → Member → List Source
member_sources first m = member_source first (out-Member m)

-- numbers of nodes start anew at 2^32
abbrev pub sources : ℕ → List Module → List Source
sources first [] = []
sources first (m ∷ modules) = flat_map (member_sources first) m.members ++ sources ((first + m.nodes) % 2 ^ 32) modules

-- as often as a number is the node of a value of the function, it is that of an expression or target of its text
abbrev pub IsFrom : Function → Source → Type 0
IsFrom f s = (k : ℕ) → block_values k f.body ≤ block_nodes k s.0 s.1.body

-- one by one
abbrev pub AreFrom : List Function → List Source → Type 0
AreFrom [] [] = Unit {0}
AreFrom [] (s ∷ ss) = ⊥
AreFrom (f ∷ fs) [] = ⊥
AreFrom (f ∷ fs) (s ∷ ss) = IsFrom f s × AreFrom fs ss

-- its functions are those of the modules in their order, without the copies of checked operations, and give values of the nodes of their texts
-- alone; its sites are the program's
pub record IsMadeOf (p : Program) (r : Resolved) : Type 0 where
  pub functions : map (tree_in p) r.functions ≡ numbered p.functions 0 (module_pairs p 0 p.modules)
  pub nodes : AreFrom r.functions (sources 0 p.modules)
  pub sites : r.sites ≡ p.sites

-- no number is the node of expressions or targets of two functions
abbrev pub HaveApartNodes : List Module → Type 0
HaveApartNodes modules =
    (f g k : ℕ) (s t : Source) → slice_get (sources 0 modules) f ≡ Some s → slice_get (sources 0 modules) g ≡ Some t
    → 0 < block_nodes k s.0 s.1.body → 0 < block_nodes k t.0 t.1.body → f ≡ g
