-- Runs of a program in which nothing raises an exception: the stage alone is another, at which no step looks.
use Rattle.std.proofs.Common.{◌≡◌, ℕ, zero, suc, List, [], ◌∷◌, ◌++◌, refl, ap, ◌∙◌}
use Rattle.csub_tree.specs.State.{Event}
use Rattle.ll_code.specs.State.{State, Calling, At, Returning, Throwing, Next, Goes, Puts, Tells, Ends, Sticks}
use Rattle.ll_code.specs.Machine.{step, start}
use Rattle.ll_code.specs.Meaning.{run, follow, within, meant_by}
use Rattle.ll_code.specs.declared.program.LlProgram.{LlProgram}
use Rattle.exc_transform.specs.Explicit.{IsWithoutExceptions, restaged}
use Rattle.exc_transform.specs.Pieces.{explicit}
use Rattle.exc_transform.proofs.Without.{explicit_same}

module _ (p : LlProgram) (args : List (List ℕ)) where
  pub step_same : (s : State) → step (restaged p) args s ≡ step p args s
  step_same (Calling f values frames core) = refl
  step_same (At [] exit frames core) = refl
  step_same (At (o ∷ ops) exit frames core) = refl
  step_same (Returning value frames core) = refl
  step_same (Throwing value frames core) = refl

  pub run_same : (k : ℕ) (s : State) (text : List ℕ) (events : List Event) → run (restaged p) args k s text events ≡ run p args k s text events
  unfolding run
  run_same zero s text events = refl
  run_same (suc k) s text events = ap (follow (run (restaged p) args k) text events) (step_same s) ∙ on_next (run_same k) (step p args s)
    where
      on_next : ((s : State) (text : List ℕ) (events : List Event) → run (restaged p) args k s text events ≡ run p args k s text events) → (next : Next) → follow (run (restaged p) args k) text events next ≡ follow (run p args k) text events next
      on_next go (Goes t) = go t text events
      on_next go (Puts byte t) = go t (text ++ byte ∷ []) events
      on_next go (Tells event t) = go t text (events ++ event ∷ [])
      on_next go (Ends outcome core) = refl
      on_next go (Sticks reason) = refl

pub without_same : (p : LlProgram) → IsWithoutExceptions p → (args : List (List ℕ)) (steps k : ℕ) → within (explicit p) args steps k ≡ within p args steps k
without_same p e args steps k = ap (λ q. within q args steps k) (explicit_same p e) ∙ ap (meant_by steps) (run_same p args k (start p steps) [] [])
