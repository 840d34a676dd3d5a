-- The values that a state still uses, with the calls that wait known.
use Rattle.std.specs.Prelude.{List, [], ◌∷◌, ◌++◌}
use Rattle.csub_tree.specs.State.{Value}
use Rattle.ll_code.specs.State.{Frame, State, Calling, At, Returning, Throwing}
use Rattle.ll_live.specs.Live.{live}
use Rattle.ll_held.specs.Roots.{kept, slots}
use Rattle.refcount_laws.specs.Whole.{Call}

-- what each call reads, and what is live behind it
abbrev pub waiting_values : List Call → List Frame → List Value
waiting_values (call ∷ calls) (frame ∷ frames) = kept (live (call.op ∷ frame.ops) frame.exit) 0 frame.vars ++ waiting_values calls frames
waiting_values calls frames = []

abbrev pub used_values : List Call → State → List Value
used_values calls (At ops exit frames core) = kept (live ops exit) 0 core.vars ++ (slots core ++ waiting_values calls frames)
used_values calls (Calling f values frames core) = values ++ (slots core ++ waiting_values calls frames)
used_values calls (Returning value frames core) = value ∷ slots core ++ waiting_values calls frames
used_values calls (Throwing value frames core) = value ∷ slots core ++ waiting_values calls frames
