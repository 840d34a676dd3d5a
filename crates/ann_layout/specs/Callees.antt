-- The functions of a program by their parameters with their defaults.
use Rattle.std.specs.Prelude.{ℕ, ◌+◌, ◌==◌, ◌&&◌, ◌||◌, Bool, true, false, if◌then◌else◌, List, [], ◌∷◌, ◌++◌, map, slice_get, slice_set, replicate, length, nat_lt, Option, Some, None}
use Rattle.rpy_tree.specs.declared.syntax.Expr.{Expr}
use Rattle.rpy_tree.specs.declared.syntax.Param.{Param}
use Rattle.rpy_tree.specs.declared.syntax.Function.{Function}
use Rattle.rpy_tree.specs.declared.syntax.Member.{Member, out-Member}
use Rattle.rpy_tree.specs.declared.syntax.Member.TheOpen.{Member-F}
use Rattle.rpy_tree.specs.declared.syntax.ClassDef.{ClassDef, out-ClassDef}
use Rattle.rpy_tree.specs.declared.syntax.Module.{Module}
use Rattle.rpy_tree.specs.declared.program.Const.{Const}
use Rattle.rpy_tree.specs.declared.program.Const.TheVariants as const
use Rattle.rpy_tree.specs.declared.program.Use.{Use}
use Rattle.rpy_tree.specs.declared.program.Use.TheVariants as use_of
use Rattle.rpy_tree.specs.declared.program.Program.{Program}
use Rattle.rpy_meaning.specs.Resolved.{node_of}
use Rattle.rpy_meaning.specs.declared.row.RowOp.{RowOp}
use Rattle.rpy_meaning.specs.declared.row.RowOp.TheVariants as row
use Rattle.flow_graph.specs.declared.graph.Op.{Op}
use Rattle.flow_graph.specs.declared.graph.Block.{Block}
use Rattle.flow_graph.specs.declared.graph.Graph.{Graph}
use Rattle.ann_needs.specs.declared.plan.Callee.{Callee}

-- the constant that a default stands for
abbrev pub constant_of : Option Use → Const
constant_of (Some (use_of.Value c)) = c
constant_of (Some (use_of.Function f)) = const.Function f
constant_of other = const.None

module _ (uses : List Use) (first : ℕ) where
  abbrev pub default_in : Option Expr → Option Const
  default_in None = None
  default_in (Some e) = Some (constant_of (slice_get uses (first + node_of e)))

  abbrev pub default : Param → Option Const
  default p = default_in p.default

  abbrev pub callee : Function → Callee
  callee f = record { defaults = map default f.params; star = f.star }

  abbrev pub with_method : Member-F Member ClassDef → List Callee → List Callee
  with_method (Member-F.Def f) callees = callees ++ callee f ∷ []
  with_method other callees = callees

  abbrev pub with_methods : List Member → List Callee → List Callee
  with_methods [] callees = callees
  with_methods (m ∷ ms) callees = with_methods ms (with_method (out-Member m) callees)

  abbrev pub with_member : Member-F Member ClassDef → List Callee → List Callee
  with_member (Member-F.Class class) callees = with_methods (out-ClassDef class).members callees
  with_member other callees = with_method other callees

  abbrev pub with_members : List Member → List Callee → List Callee
  with_members [] callees = callees
  with_members (m ∷ ms) callees = with_members ms (with_member (out-Member m) callees)

-- the nodes of each module are numbered from `first` on
abbrev pub with_modules : List Use → ℕ → List Module → List Callee → List Callee
with_modules uses first [] callees = callees
with_modules uses first (m ∷ ms) callees = with_modules uses (first + m.nodes) ms (with_members uses first m.members callees)

-- the functions of all modules, in node order
abbrev pub callees : Program → List Callee
callees p = with_modules p.uses 0 p.modules []
