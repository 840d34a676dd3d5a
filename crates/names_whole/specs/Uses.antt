-- What the names of nodes stand for in a program.
use Rattle.std.specs.Prelude.{ℕ, zero, suc, ◌+◌, pos, true, false, if◌then◌else◌, nat_lt, List, [], ◌∷◌, ◌++◌, length, map, position, slice_set, Option, Some, None}
use Rattle.std.specs.Str.{bytes_eq}
use Rattle.rpy_tree.specs.declared.program.Const.{Const}
use Rattle.rpy_tree.specs.declared.program.Const.TheVariants as const
use Rattle.rpy_tree.specs.declared.program.Use.{Use}
use Rattle.rpy_tree.specs.declared.program.Use.TheVariants as use_
use Rattle.rpy_nodes.specs.declared.listing.Named.{Named}
use Rattle.names_bound.specs.declared.stand.Stand.{Stand}
use Rattle.names_bound.specs.declared.stand.Stand.TheVariants as stand
use Rattle.names_rules.specs.Bindings.{Binding}
use Rattle.names_rules.specs.Locals.{locals}
use Rattle.names_rules.specs.Members as member
use Rattle.names_rules.specs.Members.{Formal, What, Placed, members, modules_nodes}
use Rattle.names_rules.specs.Numbering.{next}
use Rattle.names_rules.specs.Order.{Item, Items, Name, Attr, Bind, expr, block}
use Rattle.names_rules.specs.Program.{module_bindings, body_bindings, bases}
use Rattle.names_rules.specs.Scopes as scope
use Rattle.names_rules.specs.Used.{local_or, name_stand, stand_after}
use Rattle.names_value.specs.Machine.{narrow, constant_at}
use Rattle.names_value.specs.declared.machine.Root.{Root}
use Rattle.names_constants.specs.Constants as rule
use Rattle.names_constants.specs.Faults.{first_sites, constant_values}

abbrev pub value_use : Option Const → Use
value_use None = use_.Nothing
value_use (Some c) = use_.Value c

-- where constants have these values and there are so many modules; os and sys have the numbers after those
abbrev pub use_of : List (Option Const) → ℕ → Stand → Use
use_of values modules (stand.Local local) = use_.Local (narrow local)
use_of values modules (stand.Function function) = use_.Function (narrow function)
use_of values modules (stand.Method function) = use_.Function (narrow function)
use_of values modules (stand.Class class) = use_.Class (narrow class)
use_of values modules (stand.Constant number) = value_use (constant_at values number)
use_of values modules (stand.Module file) = use_.Module (narrow file)
use_of values modules stand.Os = use_.Module (narrow modules)
use_of values modules stand.Sys = use_.Module (narrow (modules + 1))
use_of values modules stand.MaxInt = use_.Value (const.Word (pos 9223372036854775807))
use_of values modules stand.NoneValue = use_.Value const.None
use_of values modules stand.TrueValue = use_.Value (const.Bool true)
use_of values modules stand.FalseValue = use_.Value (const.Bool false)
use_of values modules (stand.Builtin b) = use_.Builtin b
use_of values modules other = use_.Nothing

-- a node and its use
abbrev pub Used : Type 0
Used = ℕ × Use

-- what stands for nothing has no use
abbrev pub used : List (Option Const) → ℕ → ℕ → Stand → List Used
used values modules n stand.Nothing = []
used values modules n s = (n, use_of values modules s) ∷ []

module _ (bs cs : List Binding) (bases : List (Option ℕ)) (values : List (Option Const)) (modules : ℕ) where
  -- names, names after dots, and targets; what stands in the head of a clause has no use
  module _ (file : ℕ) (own : List (List ℕ)) where
    abbrev pub uses_at : ℕ → Stand → Item → List Used
    uses_at n before (Name name) = used values modules n (name_stand bs cs bases file own name)
    uses_at n before (Attr name) = used values modules n (scope.member bs cs bases before name)
    uses_at n before (Bind name) = used values modules n (local_or (position (bytes_eq name) own) stand.Nothing)
    uses_at n before i = []

    abbrev pub uses_from : Stand → ℕ → Items → List Used
    uses_from before n [] = []
    uses_from before n (i ∷ is) = uses_at n before i ++ uses_from (stand_after bs cs bases file own before i) (next i n) is

  abbrev pub value_uses : ℕ → member.Value → List Used
  value_uses file v = uses_from file [] stand.Nothing v.first (expr v.of)

  abbrev pub default_uses : ℕ → Option member.Value → List Used
  default_uses file None = []
  default_uses file (Some v) = value_uses file v

  abbrev pub formals_uses : ℕ → List Formal → List Used
  formals_uses file [] = []
  formals_uses file (p ∷ ps) = default_uses file p.default ++ formals_uses file ps

  abbrev pub what_uses : ℕ → What → List Used
  what_uses file (member.Constant name v) = value_uses file v
  what_uses file (member.Def name ps star b) = formals_uses file ps ++ uses_from file (locals ps b.of) stand.Nothing b.first (block b.of)
  what_uses file other = []

  abbrev pub members_uses : List Placed → List Used
  members_uses [] = []
  members_uses (p ∷ ps) = what_uses p.file p.what ++ members_uses ps

-- ---- each node has a use, which is nothing where none is told

abbrev pub nothings : ℕ → List Use
nothings zero = []
nothings (suc n) = use_.Nothing ∷ nothings n

abbrev pub put : Used → List Use → List Use
put u uses = if nat_lt u.0 (length uses) then slice_set uses u.0 u.1 else uses

abbrev pub put_all : List Used → List Use → List Use
put_all [] uses = uses
put_all (u ∷ us) uses = put_all us (put u uses)

-- a constant expression has its value at the node where it ends
abbrev pub root_use : Root → Used
root_use r = (r.node, use_.Value r.value)

abbrev pub uses : List Named → List Use
uses ms =
    put_all (map root_use (rule.roots (module_bindings ms) (body_bindings ms) (bases ms) (first_sites ms) (members ms)))
    (put_all (members_uses (module_bindings ms) (body_bindings ms) (bases ms) (constant_values ms) (length ms) (members ms)) (nothings (modules_nodes ms)))
