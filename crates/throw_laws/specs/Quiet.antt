-- Operations that never throw.
use Rattle.std.specs.Prelude.{◌≡◌, ℕ, Bool, true, List, [], ◌∷◌}
use Rattle.csub_tree.specs.State.{Core}
use Rattle.ll_code.specs.State.{State, Calling, At, Throwing}
use Rattle.ll_code.specs.declared.program.LlOp.{LlOp}
use Rattle.ll_code.specs.declared.program.LlOp.TheVariants as op
use Rattle.ll_code.specs.declared.program.LlGraph.{LlGraph}
use Rattle.ll_code.specs.declared.program.LlProgram.{LlProgram}
use Rattle.ll_leads.specs.Path.{Path}
use Rattle.throw_laws.specs.Pieces.{AreQuiet, IsSetting, nowhere}

abbrev pub StartsWithRaise : List LlOp → Type 0
StartsWithRaise (op.Raise a ∷ ops) = Unit {0}
StartsWithRaise ops = ⊥

-- what no way of them comes to: an exception that comes out of a call, one that is raised, and a call of a graph that may throw
abbrev pub IsLoud : (ℕ → Bool) → LlGraph → State → Type 0
IsLoud quiet graph (Throwing x (frame ∷ []) core) = Unit {0}
IsLoud quiet graph (At ops e [] core) = StartsWithRaise ops
IsLoud quiet graph (Calling g values (frame ∷ []) core) = quiet g ≡ true → ⊥
IsLoud quiet graph other = ⊥

abbrev pub QuietOperationsNeverThrow : Type 0
QuietOperationsNeverThrow = (p : LlProgram) (args : List (List ℕ)) (quiet : ℕ → Bool) (f : ℕ) (graph : LlGraph) (ops : List LlOp) (core : Core) (text : List ℕ) (u : State)
    → IsSetting p args quiet f graph → core.function ≡ f → AreQuiet quiet ops → Path p args (At ops (nowhere graph) [] core) text u → IsLoud quiet graph u → ⊥
