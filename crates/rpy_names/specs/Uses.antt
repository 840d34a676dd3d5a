-- What the names of a program's nodes stand for.
use Rattle.std.specs.Prelude.{ℕ, zero, suc, ◌+◌, ◌-◌, ◌^◌, pos, Bool, true, false, if◌then◌else◌, nat_lt, List, [], ◌∷◌, ◌++◌, length, slice_set, Option, Some, None}
use Rattle.rpy_tree.specs.declared.program.Const.{Const}
use Rattle.rpy_tree.specs.declared.program.Const.TheVariants as const
use Rattle.rpy_tree.specs.declared.program.Use.{Use}
use Rattle.rpy_tree.specs.declared.program.Use.TheVariants as use_
use Rattle.rpy_nodes.specs.declared.event.Act.{Act}
use Rattle.rpy_nodes.specs.declared.event.Act.TheVariants as act
use Rattle.names_bound.specs.declared.stand.Stand.{Stand}
use Rattle.names_bound.specs.declared.stand.Stand.TheVariants as stand
use Rattle.names_found.specs.declared.step.Step.{Step}
use Rattle.names_found.specs.declared.unit.Default.{Default}
use Rattle.names_found.specs.declared.unit.Found.{Found}
use Rattle.names_value.specs.Machine.{narrow, constant_at}
use Rattle.names_value.specs.declared.machine.Root.{Root}

abbrev pub Uses : Type 0
Uses = List Use

abbrev pub use_in : Option Const → Use
use_in None = use_.Nothing
use_in (Some c) = use_.Value c

abbrev pub constant_use : List (Option Const) → ℕ → Use
constant_use values number = use_in (constant_at values number)

-- os and sys have the numbers after those of the modules
abbrev pub use_of : List (Option Const) → ℕ → Stand → Use
use_of values modules (stand.Local local) = use_.Local (narrow local)
use_of values modules (stand.Function function) = use_.Function (narrow function)
use_of values modules (stand.Method function) = use_.Function (narrow function)
use_of values modules (stand.Class class) = use_.Class (narrow class)
use_of values modules (stand.Constant number) = constant_use values number
use_of values modules (stand.Module file) = use_.Module (narrow file)
use_of values modules stand.Os = use_.Module (narrow modules)
use_of values modules stand.Sys = use_.Module (narrow (modules + 1))
use_of values modules stand.MaxInt = use_.Value (const.Word (pos 9223372036854775807))
use_of values modules stand.NoneValue = use_.Value const.None
use_of values modules stand.TrueValue = use_.Value (const.Bool true)
use_of values modules stand.FalseValue = use_.Value (const.Bool false)
use_of values modules (stand.Builtin b) = use_.Builtin b
use_of values modules other = use_.Nothing

abbrev pub no_uses : ℕ → Uses
no_uses zero = []
no_uses (suc n) = no_uses n ++ use_.Nothing ∷ []

abbrev pub put : ℕ → Use → Uses → Uses
put node u uses = if nat_lt node (length uses) then slice_set uses node u else uses

abbrev pub put_stand : List (Option Const) → ℕ → ℕ → Stand → Uses → Uses
put_stand values modules node stand.Nothing uses = uses
put_stand values modules node s uses = put node (use_of values modules s) uses

-- what the head of a clause names has no use
abbrev pub put_act : List (Option Const) → ℕ → ℕ → Stand → Act → Uses → Uses
put_act values modules node s act.CaughtEnd uses = uses
put_act values modules node s (act.Catch name) uses = uses
put_act values modules node s other uses = put_stand values modules node s uses

abbrev pub put_step : List (Option Const) → ℕ → Step → Uses → Uses
put_step values modules s uses = put_act values modules s.node s.stand s.act uses

abbrev pub put_steps : List (Option Const) → ℕ → List Step → Uses → Uses
put_steps values modules [] uses = uses
put_steps values modules (s ∷ ss) uses = put_steps values modules ss (put_step values modules s uses)

abbrev pub put_option : List (Option Const) → ℕ → Option (List Step) → Uses → Uses
put_option values modules None uses = uses
put_option values modules (Some steps) uses = put_steps values modules steps uses

abbrev pub put_defaults : List (Option Const) → ℕ → List Default → Uses → Uses
put_defaults values modules [] uses = uses
put_defaults values modules (d ∷ ds) uses = put_defaults values modules ds (put_option values modules d.steps uses)

abbrev pub put_unit : List (Option Const) → ℕ → Found → Uses → Uses
put_unit values modules u uses = put_steps values modules u.body (put_defaults values modules u.defaults (put_steps values modules u.value uses))

abbrev pub put_units : List (Option Const) → ℕ → List Found → Uses → Uses
put_units values modules [] uses = uses
put_units values modules (u ∷ us) uses = put_units values modules us (put_unit values modules u uses)

-- the node of a constant expression, and of the third argument of a range, has its value
abbrev pub put_roots : List Root → Uses → Uses
put_roots [] uses = uses
put_roots (r ∷ rs) uses = put_roots rs (put r.node (use_.Value r.value) uses)

abbrev pub uses : ℕ → List (Option Const) → ℕ → List Found → List Root → Uses
uses nodes values modules found roots = put_roots roots (put_units values modules found (no_uses nodes))
