-- The values that a state of a low-level program still uses, each as often as it stands there.
use Rattle.std.specs.Prelude.{ℕ, suc, ◌-◌, ◌&&◌, ◌||◌, not, Bool, false, cond, List, [], ◌∷◌, ◌++◌, slice_get, Option, Some, None}
use Rattle.csub_tree.specs.State.{Value, Core}
use Rattle.ll_code.specs.State.{Frame, State, Calling, At, Returning, Throwing}
use Rattle.ll_code.specs.Machine.{block_in}
use Rattle.ll_code.specs.declared.program.LlOp.{LlOp}
use Rattle.ll_code.specs.declared.program.LlBlock.{LlBlock}
use Rattle.ll_code.specs.declared.program.LlProgram.{LlProgram}
use Rattle.ll_live.specs.Live.{among, reads, sets, live}

-- the values of the variables that are used; the first of these has the number n
abbrev pub kept : (ℕ → Bool) → ℕ → List Value → List Value
kept uses n [] = []
kept uses n (value ∷ values) = cond (uses n) (value ∷ kept uses (suc n) values) (kept uses (suc n) values)

-- ---- calls that wait

abbrev pub operation_in : Option LlBlock → ℕ → Option LlOp
operation_in None place = None
operation_in (Some block) place = slice_get block.ops place

-- the call that is under way; its place is the one before that where its block goes on
abbrev pub under_way : LlProgram → Frame → Option LlOp
under_way p frame = operation_in (block_in (slice_get p.graphs frame.graph) frame.block) (frame.at - 1)

abbrev pub read_by : Option LlOp → ℕ → Bool
read_by None v = false
read_by (Some o) v = among v (reads o)

-- what the call reads, and what is live behind it
abbrev pub waits_for : LlProgram → Frame → ℕ → Bool
waits_for p frame v = read_by (under_way p frame) v || (not (sets frame.into v) && live frame.ops frame.exit v)

abbrev pub waiting_roots : LlProgram → List Frame → List Value
waiting_roots p [] = []
waiting_roots p (frame ∷ frames) = kept (waits_for p frame) 0 frame.vars ++ waiting_roots p frames

-- ---- states

abbrev pub slots : Core → List Value
slots core = core.exc_type ∷ core.exc_value ∷ []

abbrev pub roots : LlProgram → State → List Value
roots p (Calling f values frames core) = values ++ slots core ++ waiting_roots p frames
roots p (At ops exit frames core) = kept (live ops exit) 0 core.vars ++ slots core ++ waiting_roots p frames
roots p (Returning value frames core) = value ∷ slots core ++ waiting_roots p frames
roots p (Throwing value frames core) = value ∷ slots core ++ waiting_roots p frames

abbrev pub core_of : State → Core
core_of (Calling f values frames core) = core
core_of (At ops exit frames core) = core
core_of (Returning value frames core) = core
core_of (Throwing value frames core) = core
