-- What is asked of the states of a run: they are small, and no reference is written into a static.
use Rattle.std.specs.Prelude.{◌≡◌, ◌<◌, ◌^◌, ℕ, pos, List, [], ◌∷◌, Some}
use Rattle.csub_tree.specs.State.{Word, Core, Event}
use Rattle.csub_tree.specs.Statement.{operand}
use Rattle.ll_code.specs.State.{State, At}
use Rattle.ll_code.specs.Machine.{start}
use Rattle.ll_code.specs.Meaning.{Unfinished, run}
use Rattle.ll_code.specs.declared.program.LlOp.{LlOp}
use Rattle.ll_code.specs.declared.program.LlOp.TheVariants as op
use Rattle.ll_code.specs.declared.program.LlProgram.{LlProgram}
use Rattle.ll_held.specs.Held.{IsBelow}
use Rattle.ll_held.specs.Roots.{roots, core_of}
use Rattle.refcount_transform.specs.Plan.{plan_of, field_referred, items_referred}
use Rattle.refcount_laws.specs.Ready.{InBlock}
use Rattle.refcount_checks.specs.Countable.{most}

-- each state that the run comes to
abbrev pub EachState : (State → Type 0) → LlProgram → List (List ℕ) → ℕ → Type 0
EachState holds p args steps = (k : ℕ) (s : State) (text : List ℕ) (events : List Event) → run p args k (start p steps) [] [] ≡ Unfinished s text events → holds s

-- an array of references has fewer than 2^63 items
abbrev pub MakesShort : LlProgram → Core → LlOp → Type 0
MakesShort p core (op.NewArray a m n x) = (to k : ℕ) → items_referred (plan_of p) n ≡ Some to → operand core.vars x ≡ Word (pos k) → k < 2 ^ 63
MakesShort p core other = Unit {0}

abbrev pub MakesShortNext : LlProgram → State → Type 0
MakesShortNext p (At (o ∷ ops) exit frames core) = MakesShort p core o
MakesShortNext p other = Unit {0}

-- fewer than 2^62 references stand in its roots and in what is held, and a word can say how many items an array has that is made next
pub record IsSmall (p : LlProgram) (s : State) : Type 0 where
  pub few : IsBelow most (core_of s).blocks (roots p s)
  pub short : MakesShortNext p s

-- where the operation writes a reference, it writes into a block
abbrev pub WritesBlocks : LlProgram → Core → LlOp → Type 0
WritesBlocks p core (op.SetField n v i x) = InBlock core v (field_referred (plan_of p) n i)
WritesBlocks p core (op.SetItem n v i x) = InBlock core v (items_referred (plan_of p) n)
WritesBlocks p core other = Unit {0}

-- so does what comes next
abbrev pub LeavesStatics : LlProgram → State → Type 0
LeavesStatics p (At (o ∷ ops) exit frames core) = WritesBlocks p core o
LeavesStatics p other = Unit {0}
