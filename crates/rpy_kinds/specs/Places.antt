-- What stands at a node of a program: in the body of a function of the module that has the node.
use Rattle.std.specs.Prelude.{ℕ, ◌+◌, ◌-◌, nat_lt, if◌then◌else◌, false, List, [], ◌∷◌, Option, Some, None}
use Rattle.rpy_tree.specs.declared.syntax.Member.{Member, out-Member}
use Rattle.rpy_tree.specs.declared.syntax.Member.TheOpen.{Member-F}
use Rattle.rpy_tree.specs.declared.syntax.ClassDef.{ClassDef, out-ClassDef}
use Rattle.rpy_tree.specs.declared.syntax.Module.{Module}
use Rattle.rpy_kinds.specs.declared.kind.Kind.{Kind}
use Rattle.rpy_kinds.specs.declared.kind.Kind.TheVariants as kind
use Rattle.rpy_kinds.specs.declared.search.Search.{Search}
use Rattle.rpy_kinds.specs.Search.{block}

module _ (node : ℕ) where
  abbrev pub in_method : Member-F Member ClassDef → Search → Search
  in_method (Member-F.Def f) s = block node f.body s
  in_method other s = s

  abbrev pub in_methods : List Member → Search → Search
  in_methods [] s = s
  in_methods (m ∷ ms) s = in_methods ms (in_method (out-Member m) s)

  abbrev pub in_member : Member-F Member ClassDef → Search → Search
  in_member (Member-F.Class class) s = in_methods (out-ClassDef class).members s
  in_member other s = in_method other s

  abbrev pub in_members : List Member → Search → Search
  in_members [] s = s
  in_members (m ∷ ms) s = in_members ms (in_member (out-Member m) s)

abbrev pub start : Search
start = record { last = 0; named = false; found = None }

abbrev pub in_module : Module → ℕ → Option Kind
in_module m n = (in_members n m.members start).found

-- numbers of a module as numbers of the program
abbrev pub numbered : ℕ → Kind → Kind
numbered first (kind.Logic a b) = kind.Logic (first + a) (first + b)
numbered first other = other

abbrev pub placed : ℕ → Option Kind → Option Kind
placed first None = None
placed first (Some k) = Some (numbered first k)

abbrev pub kind_from : ℕ → List Module → ℕ → Option Kind
kind_from first [] n = None
kind_from first (m ∷ ms) n = if nat_lt n m.nodes then placed first (in_module m n) else kind_from (first + m.nodes) ms (n - m.nodes)

-- the kind of what stands at a node; the two sides of `and` and `or` by their nodes
abbrev pub kind_at : List Module → ℕ → Option Kind
kind_at ms n = kind_from 0 ms n
