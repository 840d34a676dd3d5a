-- What the call of a helper leads to, by what the operation answers.
use Rattle.std.specs.Prelude.{◌≡◌, ◌<◌, ◌≤◌, ℕ, List, [], ◌++◌, length, map, Option, Some}
use Rattle.rpy_base.specs.declared.outcome.FailName.{FailName}
use Rattle.rpy_base.specs.declared.outcome.Outcome.TheVariants.{Running, Failed}
use Rattle.rpy_tree.specs.Value.{Value as Meant}
use Rattle.rpy_meaning.specs.World.{World, Answer, Gives, Throws, Fails, Lacks, Enters, Bad}
use Rattle.csub_tree.specs.State.{Value, Block, Core}
use Rattle.ll_code.specs.State.{Frame, State, Returning, Ends}
use Rattle.ll_code.specs.Machine.{step}
use Rattle.ll_code.specs.declared.program.LlType.{LlType}
use Rattle.ll_code.specs.declared.program.LlProgram.{LlProgram}
use Rattle.ll_held.specs.Held.{times}
use Rattle.ll_held.specs.Roots.{roots, core_of}
use Rattle.ll_leads.specs.Path.{Leads}
use Rattle.ll_leads.specs.Memory.{forgotten}
use Rattle.ll_texts.specs.Texts.{text_block}
use Rattle.ll_texts.specs.Stands.{Stands}

-- the blocks of these strings
abbrev pub text_blocks : List (List ℕ) → List (Option Block)
text_blocks texts = map (λ bytes. Some (text_block bytes)) texts

-- The call comes back, with what stands for the result. At most one string is made, and nothing else is changed but the steps left, which
-- are those of the operation; what was put is what the operation prints.
pub record Gave (p : LlProgram) (args : List (List ℕ)) (s : State) (frames : List Frame) (core : Core) (t : LlType) (w : World) (v : Meant) (w' : World) : Type 0 where
  pub value : Value
  pub end : Core
  pub text : List ℕ
  pub leads : Leads p args 0 s text (Returning value frames end)
  pub texts : List (List ℕ)
  pub few : length texts ≤ 1
  pub memory : forgotten end ≡ forgotten (record core { blocks = core.blocks ++ text_blocks texts; steps = w'.left })
  pub stands : Stands end.blocks end.statics t value v
  pub out : w'.out ≡ w.out ++ text
  pub heap : w'.heap ≡ w.heap

-- The steps do not suffice: the run ends over the blocks of the call, and holds no others than the call did.
pub record Lacked (p : LlProgram) (args : List (List ℕ)) (s : State) (core : Core) : Type 0 where
  pub last : State
  pub leads : Leads p args 0 s [] last
  pub ends : step p args last ≡ Ends Running (core_of last)
  pub blocks : (core_of last).blocks ≡ core.blocks
  pub holds : (b : ℕ) → 0 < times b (roots p last) → 0 < times b (roots p s)

-- the run ends as failed
pub record FailedAs (p : LlProgram) (args : List (List ℕ)) (s : State) (name : FailName) : Type 0 where
  pub last : State
  pub leads : Leads p args 0 s [] last
  pub ends : step p args last ≡ Ends (Failed name) (core_of last)

-- a helper neither raises nor calls, and nothing is asked where the values are those of no operation
abbrev pub Follows : LlProgram → List (List ℕ) → State → List Frame → Core → LlType → World → Answer → Type 0
Follows p args s frames core t w (Gives v w') = Gave p args s frames core t w v w'
Follows p args s frames core t w (Throws exception w') = ⊥
Follows p args s frames core t w (Fails name) = FailedAs p args s name
Follows p args s frames core t w Lacks = Lacked p args s core
Follows p args s frames core t w (Enters function values instead w') = ⊥
Follows p args s frames core t w Bad = Unit {0}
