-- How many functions modules have.
use Rattle.std.specs.Prelude.{ℕ, List, sum_by}
use Rattle.rpy_tree.specs.declared.syntax.ClassDef.{ClassDef}
use Rattle.rpy_tree.specs.declared.syntax.Member.{Member, out-Member}
use Rattle.rpy_tree.specs.declared.syntax.Member.TheOpen.{Member-F}
use Rattle.rpy_tree.specs.declared.syntax.Module.{Module}

abbrev pub method_in : Member-F Member ClassDef → ℕ
method_in (Member-F.Def f) = 1
method_in other = 0

abbrev pub method_count : Member → ℕ
method_count m = method_in (out-Member m)

abbrev pub functions_in : Member-F Member ClassDef → ℕ
functions_in (Member-F.Def f) = 1
functions_in (Member-F.Class c) = sum_by method_count c.members
functions_in other = 0

-- the functions of a module's member: itself, or the methods of a class
abbrev pub member_count : Member → ℕ
member_count m = functions_in (out-Member m)

abbrev pub function_count : List Module → ℕ
function_count = sum_by (λ m. sum_by member_count m.members)
