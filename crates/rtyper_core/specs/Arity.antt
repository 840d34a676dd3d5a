-- What functions take.
use Rattle.std.specs.Prelude.{ℕ, Bool, false, List, [], ◌∷◌, ◌++◌, length, count_by, is_none, slice_get, unwrap_or}
use Rattle.rpy_tree.specs.declared.syntax.Param.{Param}
use Rattle.rpy_tree.specs.declared.syntax.Function.{Function}
use Rattle.rpy_tree.specs.declared.syntax.Member.{Member, out-Member}
use Rattle.rpy_tree.specs.declared.syntax.Member.TheOpen.{Member-F}
use Rattle.rpy_tree.specs.declared.syntax.ClassDef.{ClassDef, out-ClassDef}
use Rattle.rpy_tree.specs.declared.syntax.Module.{Module}
use Rattle.rtyper_core.specs.declared.arity.Arity.{Arity}

-- how many parameters have no default
abbrev pub required : List Param → ℕ
required = count_by (λ p. is_none p.default)

abbrev pub arity : Function → Arity
arity f = record { params = length f.params; required = required f.params; star = f.star }

abbrev pub with_method : Member-F Member ClassDef → List Arity → List Arity
with_method (Member-F.Def f) arities = arities ++ arity f ∷ []
with_method other arities = arities

abbrev pub with_methods : List Member → List Arity → List Arity
with_methods [] arities = arities
with_methods (m ∷ ms) arities = with_methods ms (with_method (out-Member m) arities)

abbrev pub with_member : Member-F Member ClassDef → List Arity → List Arity
with_member (Member-F.Class class) arities = with_methods (out-ClassDef class).members arities
with_member other arities = with_method other arities

abbrev pub with_members : List Member → List Arity → List Arity
with_members [] arities = arities
with_members (m ∷ ms) arities = with_members ms (with_member (out-Member m) arities)

abbrev pub with_modules : List Module → List Arity → List Arity
with_modules [] arities = arities
with_modules (m ∷ ms) arities = with_modules ms (with_members m.members arities)

-- of the functions of all modules, in node order
abbrev pub arities : List Module → List Arity
arities modules = with_modules modules []

abbrev pub arity_at : List Arity → ℕ → Arity
arity_at arities f = unwrap_or (slice_get arities f) (record { params = 0; required = 0; star = false })
