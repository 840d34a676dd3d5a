-- How many references stand in the states of a call.
use Rattle.std.specs.Prelude.{◌≡◌, ℕ, ◌+◌, List, []}
use Rattle.csub_tree.specs.State.{Value, Core}
use Rattle.ll_code.specs.State.{Frame, State, Calling}
use Rattle.ll_code.specs.Typed.{IsWellTyped}
use Rattle.ll_code.specs.declared.program.LlStage.TheVariants as stage
use Rattle.ll_code.specs.declared.program.LlProgram.{LlProgram}
use Rattle.ll_laws.specs.States.{StateFits}
use Rattle.ll_held.specs.Roots.{roots, core_of}
use Rattle.ll_held.specs.Held.{IsBelow}
use Rattle.ll_held.specs.Places.{IsPlaced}
use Rattle.ll_held.specs.Quiet.{ReadsInputs}
use Rattle.ll_leads.specs.Path.{Path, total}
use Rattle.ll_leads.specs.Effect.{blocks_of, HandlersReadOthers, StaticsNameNone, AllOn, into_statics}
use Rattle.ll_leads.specs.Lifted.{over}
use Rattle.ll_leads.specs.Weight.{Weighs}

-- a program as it is before exceptions are made explicit: well typed, each block reads its inputs alone, handlers leave alone what was not set
pub record IsRaw (p : LlProgram) : Type 0 where
  pub typed : IsWellTyped p
  pub closed : ReadsInputs p
  pub handlers : HandlersReadOthers p
  pub stage : p.stage ≡ stage.Raw

-- a state that is well typed, stands at its place, and whose statics name no block
pub record IsSound (p : LlProgram) (s : State) : Type 0 where
  pub fits : StateFits p s
  pub placed : IsPlaced p s
  pub statics : StaticsNameNone (core_of s)

-- Where a call leads to some state while nothing waits, it leads to the same while calls wait below it; and in each state on that way
-- stand no more references than at the call, those that are written on the way, and three more than the variables of the graphs.
pub record StaysSmall (p : LlProgram) (args : List (List ℕ)) (below : List Frame) (f : ℕ) (values : List Value) (core : Core) (text : List ℕ) (t : State) (most : ℕ) : Type 0 where
  pub way : Path p args (Calling f values below core) text (over below t)
  pub small : AllOn (λ u. IsBelow most (blocks_of u) (roots p u)) way

abbrev pub CallsStaySmall : LlProgram → Type 0
CallsStaySmall p = IsRaw p → (args : List (List ℕ)) (f w : ℕ) → Weighs p f w → (values : List Value) (core : Core) (text : List ℕ) (t : State) (path : Path p args (Calling f values [] core) text t) → into_statics path ≡ 0
    → (below : List Frame) → IsSound p (Calling f values below core) → (most : ℕ) → IsBelow most core.blocks (roots p (Calling f values below core)) → StaysSmall p args below f values core text t (most + (total path + (w + 3)))
