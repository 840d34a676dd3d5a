-- The clauses of the functions of a program, each with the classes in its head and the local that it binds.
use Rattle.std.specs.Prelude.{ℕ, List, [], ◌∷◌, ◌++◌, Option, Some, None}
use Rattle.rpy_tree.specs.declared.program.ClauseInfo.{ClauseInfo}
use Rattle.rpy_nodes.specs.declared.event.Act.{Act}
use Rattle.rpy_nodes.specs.declared.event.Act.TheVariants as act
use Rattle.names_bound.specs.declared.stand.Stand.{Stand}
use Rattle.names_bound.specs.declared.stand.Stand.TheVariants as stand
use Rattle.names_found.specs.declared.step.Step.{Step}
use Rattle.names_found.specs.declared.unit.Found.{Found}
use Rattle.names_value.specs.Machine.{narrow}
use Rattle.rpy_names.specs.declared.clauses.Heads.{Heads}

abbrev pub with_class : Stand → List ℕ → List ℕ
with_class (stand.Class class) classes = classes ++ narrow class ∷ []
with_class other classes = classes

abbrev pub local_of : Stand → Option ℕ
local_of (stand.Local local) = Some (narrow local)
local_of other = None

abbrev pub see_class : Stand → Heads → Heads
see_class s w = record w { classes = with_class s w.classes }

abbrev pub see_local : Stand → Heads → Heads
see_local s w = record w { local = local_of s }

-- the clause has what its head named; the next one has named nothing yet
abbrev pub end_head : ℕ → Heads → Heads
end_head node w = record { clauses = w.clauses ++ record { node = node; classes = w.classes; local = w.local } ∷ []; classes = []; local = None }

abbrev pub see_act : ℕ → Stand → Act → Heads → Heads
see_act node s act.CaughtEnd w = see_class s w
see_act node s (act.Catch name) w = see_local s w
see_act node s act.Clause w = end_head node w
see_act node s other w = w

abbrev pub see_step : Step → Heads → Heads
see_step s w = see_act s.node s.stand s.act w

abbrev pub see_steps : List Step → Heads → Heads
see_steps [] w = w
see_steps (s ∷ ss) w = see_steps ss (see_step s w)

abbrev pub see_units : List Found → Heads → Heads
see_units [] w = w
see_units (u ∷ us) w = see_units us (see_steps u.body w)

abbrev pub no_heads : Heads
no_heads = record { clauses = []; classes = []; local = None }

-- in the order of the bodies, and in each in that of the text
abbrev pub clause_infos : List Found → List ClauseInfo
clause_infos found = (see_units found no_heads).clauses
