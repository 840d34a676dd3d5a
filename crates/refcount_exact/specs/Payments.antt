-- Where the counted program pays for steps.
use Rattle.std.specs.Prelude.{◌≡◌, ℕ, suc, pos, List, [], ◌∷◌, Option}
use Rattle.csub_tree.specs.State.{Word, Block, Event}
use Rattle.csub_tree.specs.Statement.{operand}
use Rattle.ll_code.specs.Machine.{start}
use Rattle.ll_code.specs.Meaning.{Unfinished, run}
use Rattle.ll_code.specs.State.{Frame, State, At}
use Rattle.ll_code.specs.declared.program.LlOp.TheVariants as op
use Rattle.ll_code.specs.declared.program.LlProgram.{LlProgram}
use Rattle.refcount_laws.specs.Ghost.{Ghost}
use Rattle.refcount_laws.specs.Whole.{Call, StandsFor}
use Rattle.refcount_exact.specs.Exact.{IsExact}

-- the next operation pays one step at least
abbrev pub Pays : State → Type 0
Pays (At (op.Step x ∷ ops) exit frames core) = (n : ℕ) × (operand core.vars x ≡ Word (pos (suc n)))
Pays other = ⊥

-- the state stands for one to which the program's run comes, and its counts are exact
pub record StandsExact (p : LlProgram) (args : List (List ℕ)) (steps : ℕ) (t : State) : Type 0 where
  pub taken : ℕ
  pub state : State
  pub text : List ℕ
  pub events : List Event
  pub runs : run p args taken (start p steps) [] [] ≡ Unfinished state text events
  pub calls : List Call
  pub others : List Frame
  pub g : Ghost
  pub h : List (Option Block)
  pub stands : StandsFor p calls others state t g h
  pub exact : IsExact t
