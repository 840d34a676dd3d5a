-- What joining asks of a program, by programs that are well typed and mean something else once they are joined.
use Rattle.std.specs.Prelude.{◌≡◌, ◌≢◌, ℕ, pos, List, [], ◌∷◌, Some}
use Rattle.rpy_base.specs.declared.outcome.Outcome.TheVariants.{Returned}
use Rattle.csub_tree.specs.declared.stuck.StuckReason.TheVariants.{Unset}
use Rattle.csub_tree.specs.declared.tree.CConst.TheVariants.{Word}
use Rattle.csub_tree.specs.declared.tree.COperand.{COperand}
use Rattle.csub_tree.specs.declared.tree.COperand.TheVariants.{Var, Const}
use Rattle.ll_code.specs.declared.program.LlStage.TheVariants.{Raw}
use Rattle.ll_code.specs.declared.program.LlType.{LlType}
use Rattle.ll_code.specs.declared.program.LlType.TheVariants.{Signed}
use Rattle.ll_code.specs.declared.program.LlOp.{LlOp}
use Rattle.ll_code.specs.declared.program.LlOp.TheVariants.{Set, Call}
use Rattle.ll_code.specs.declared.program.LlExit.{LlExit}
use Rattle.ll_code.specs.declared.program.LlExit.TheVariants.{Goto, Return}
use Rattle.ll_code.specs.declared.program.LlBlock.{LlBlock}
use Rattle.ll_code.specs.declared.program.LlGraph.{LlGraph}
use Rattle.ll_code.specs.declared.program.LlProgram.{LlProgram}
use Rattle.ll_code.specs.Typed.{IsWellTyped}
use Rattle.ll_code.specs.Meaning.{Ending, Came, StuckFor, Meant, LMeans}
use Rattle.ll_joined.specs.Joined.{joined}

-- ---- programs over words

abbrev pub word : ℕ → COperand
word n = Const (Word (pos n))

abbrev pub goes : ℕ → List COperand → LlExit
goes to args = Goto (record { to = to; args = args })

abbrev pub gives : COperand → LlExit
gives x = Return (Some x)

abbrev pub block : List ℕ → List LlOp → LlExit → LlBlock
block inputs ops e = record { inputs = inputs; ops = ops; exit = e }

abbrev pub graph : ℕ → List ℕ → List LlType → List LlBlock → LlGraph
graph letter params types blocks = record { name = letter ∷ []; params = params; result = Signed; types = types; blocks = blocks }

abbrev pub program : List LlGraph → LlProgram
program graphs = record { stage = Raw; structs = []; statics = []; graphs = graphs; entry = 0 }

-- ---- what they mean

abbrev pub ends : Ending → Meant
ends ending = record { ending = ending; output = []; paid = 0; made = []; gone = [] }

abbrev pub returns : ℕ → Ending
returns n = Came (Returned (pos n))

-- the program is well typed, and ends so; the joined one ends otherwise
pub record Changes (p : LlProgram) (before after : Ending) : Type 0 where
  pub typed : IsWellTyped p
  pub raw : p.stage ≡ Raw
  pub means : LMeans p [] 0 (ends before)
  pub joined_means : LMeans (joined p) [] 0 (ends after)
  pub differ : before ≢ after

-- ---- the programs

-- a block reads what another one's link passed on
abbrev pub reads_another : LlProgram
reads_another = program (graph 97 [] (Signed ∷ Signed ∷ []) (
    block [] (Set 0 (word 5) ∷ []) (goes 1 (Var 0 ∷ []))
    ∷ block (1 ∷ []) [] (goes 2 [])
    ∷ block [] [] (gives (Var 1))
    ∷ []) ∷ [])

-- a parameter is passed on by a block that has no inputs, and then set
abbrev pub sets_a_parameter : LlProgram
sets_a_parameter = program (
    graph 97 [] (Signed ∷ []) (block [] (Call (Some 0) 1 (word 3 ∷ []) ∷ []) (gives (Var 0)) ∷ [])
    ∷ graph 98 (0 ∷ []) (Signed ∷ Signed ∷ []) (
    block [] [] (goes 1 (Var 0 ∷ []))
    ∷ block (1 ∷ []) (Set 0 (word 5) ∷ []) (gives (Var 1))
    ∷ [])
    ∷ [])

-- a variable is an input twice
abbrev pub first_block : LlBlock
first_block = block [] (Set 0 (word 5) ∷ Set 1 (word 6) ∷ []) (goes 1 (Var 0 ∷ Var 1 ∷ []))

abbrev pub second_block : LlBlock
second_block = block (2 ∷ 2 ∷ []) [] (gives (Var 2))

abbrev pub takes_twice : LlProgram
takes_twice = program (graph 97 [] (Signed ∷ Signed ∷ Signed ∷ []) (first_block ∷ second_block ∷ []) ∷ [])

-- a variable is passed on that nothing sets
abbrev pub passes_unset : LlProgram
passes_unset = program (graph 97 [] (Signed ∷ Signed ∷ []) (
    block [] [] (goes 1 (Var 0 ∷ []))
    ∷ block (1 ∷ []) [] (gives (word 7))
    ∷ []) ∷ [])

abbrev pub stuck : Ending
stuck = StuckFor Unset
