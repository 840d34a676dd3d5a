-- An operation that calls a function: its low-level operations lead to a call of the graph of the function, over memory that represents the
-- heap then, and what it gives goes to the place of the result.
use Rattle.std.specs.Prelude.{◌≡◌, ◌≢◌, ◌<◌, ◌≤◌, ℕ, ◌+◌, List, [], ◌∷◌, ◌++◌, length, slice_get, unwrap_or, Option, Some}
use Rattle.ann_element.specs.declared.element.Element.{Element}
use Rattle.csub_tree.specs.State.{Value, Core}
use Rattle.csub_tree.specs.Statement.{read}
use Rattle.ll_code.specs.State.{Frame, State, Calling, At, Returning}
use Rattle.ll_code.specs.declared.program.LlOp.{LlOp}
use Rattle.ll_code.specs.declared.program.LlExit.{LlExit}
use Rattle.ll_code.specs.declared.program.LlProgram.{LlProgram}
use Rattle.ll_leads.specs.Memory.{forgotten}
use Rattle.ll_leads.specs.Path.{Leads}
use Rattle.rpy_tree.specs.Value.{Value as Meant}
use Rattle.rpy_meaning.specs.World.{World, Answer, Gives, Throws, Fails, Lacks, Enters, Bad}
use Rattle.rtyper_data.specs.Seen.{Around, Place}
use Rattle.object_laws.specs.Done.{Follows}
use Rattle.object_laws.specs.Ghost.{Ghost, Grown}
use Rattle.object_laws.specs.Known.{Known}
use Rattle.object_laws.specs.Represents.{Represents}
use Rattle.object_laws.specs.Values.{Holds, AllHold}

-- What waits for the call: it is in the same block, with what stands behind the operation as it was, and of the first so many variables
-- none but that of the result is changed.
pub record Waits (place : Place) (rest : List LlOp) (e : LlExit) (core : Core) (below : ℕ) (frame : Frame) : Type 0 where
  pub left : List LlOp
  pub ops : frame.ops ≡ left ++ rest
  pub exit : frame.exit ≡ e
  pub others : (n : ℕ) → n < below → n ≢ place.variable → read frame.vars n ≡ read core.vars n
  pub room : length frame.vars ≡ length core.vars
  pub function : frame.graph ≡ core.function
  pub block : frame.block ≡ core.block

-- What is given back goes on behind the operation: memory is as it was then, and the variable of the result has what stands for the result.
pub record Resumes (known : Known) (around : Around) (place : Place) (p : LlProgram) (args : List (List ℕ)) (rest : List LlOp) (e : LlExit) (frames : List Frame) (core : Core) (below : ℕ) (frame : Frame) (later : Core) (g : Ghost) (x : Value) (v : Meant) : Type 0 where
  pub end : Core
  pub leads : Leads p args 0 (Returning x (frame ∷ frames) later) [] (At rest e frames end)
  pub memory : forgotten end ≡ forgotten later
  pub holds : Holds around.layout known g place.element (read end.vars place.variable) v
  pub others : (n : ℕ) → n < below → n ≢ place.variable → read end.vars n ≡ read core.vars n
  pub room : length end.vars ≡ length core.vars
  pub function : end.function ≡ core.function
  pub block : end.block ≡ core.block

-- The graph of the function is called, with values that stand for these. Whatever it gives then, where what was there stands for what it
-- did, goes on; in place of it stands another value where there is one.
pub record Entered (blocks : ℕ) (known : Known) (around : Around) (place : Place) (p : LlProgram) (args : List (List ℕ)) (s : State) (rest : List LlOp) (e : LlExit) (frames : List Frame) (core : Core) (g : Ghost) (most below : ℕ) (w : World) (f : ℕ) (vs : List Meant) (instead : Option Meant) (w' : World) : Type 0 where
  pub number : ℕ
  pub graph : known.graph f ≡ Some number
  pub params : List Element
  pub takes : slice_get around.params f ≡ Some params
  pub xs : List Value
  pub frame : Frame
  pub end : Core
  pub leads : Leads p args most s [] (Calling number xs (frame ∷ frames) end)
  pub ghost : Ghost
  pub grown : Grown g ghost
  pub stands : Represents around.layout known ghost w'.heap w'.left end.blocks end.statics
  pub passed : AllHold around.layout known ghost params xs vs
  pub few : length end.blocks ≤ length core.blocks + blocks
  pub memory : forgotten end ≡ forgotten (record core { blocks = end.blocks; statics = end.statics; steps = w'.left })
  pub out : w'.out ≡ w.out
  pub waits : Waits place rest e core below frame
  pub back : (later : Core) (g2 : Ghost) (x : Value) (v : Meant) → Grown ghost g2 → Holds around.layout known g2 (slice_get around.results f) x v → Resumes known around place p args rest e frames core below frame later g2 x (unwrap_or instead v)

-- what enters no function follows as other operations do
abbrev pub FollowsOrEnters : ℕ → Known → Around → Place → LlProgram → List (List ℕ) → State → List LlOp → LlExit → List Frame → Core → Ghost → (ℕ → Value) → ℕ → ℕ → World → Answer → Type 0
FollowsOrEnters blocks known around place p args s rest e frames core g raised most below w (Enters f vs instead w') = Entered blocks known around place p args s rest e frames core g most below w f vs instead w'
FollowsOrEnters blocks known around place p args s rest e frames core g raised most below w (Gives v w') = Follows blocks known around place p args s rest e frames core g raised most below w (Gives v w')
FollowsOrEnters blocks known around place p args s rest e frames core g raised most below w (Throws exception w') = Follows blocks known around place p args s rest e frames core g raised most below w (Throws exception w')
FollowsOrEnters blocks known around place p args s rest e frames core g raised most below w (Fails name) = Follows blocks known around place p args s rest e frames core g raised most below w (Fails name)
FollowsOrEnters blocks known around place p args s rest e frames core g raised most below w Lacks = Follows blocks known around place p args s rest e frames core g raised most below w Lacks
FollowsOrEnters blocks known around place p args s rest e frames core g raised most below w Bad = Follows blocks known around place p args s rest e frames core g raised most below w Bad
