-- The values that a state of the machine still uses, each as often as it stands there.
use Rattle.std.specs.Prelude.{ℕ, ◌==◌, ◌&&◌, ◌||◌, not, Bool, false, cond, List, [], ◌∷◌, ◌++◌, Option, Some, None}
use Rattle.rpy_tree.specs.Value.{Value, Ref}
use Rattle.flow_graph.specs.declared.graph.Link.{Link}
use Rattle.flow_graph.specs.declared.graph.Exit.{Exit}
use Rattle.flow_graph.specs.declared.graph.Exit.TheVariants as exit
use Rattle.flow_graph.specs.declared.graph.Op.{Op}
use Rattle.flow_meaning.specs.Machine.{Bound, Frame, State, Calling, At, Returning, Throwing}

abbrev pub among : ℕ → List ℕ → Bool
among v [] = false
among v (w ∷ vs) = (w == v) || among v vs

-- ---- what is read

abbrev pub caught_args : List (ℕ × Link) → List ℕ
caught_args [] = []
caught_args (caught ∷ others) = caught.1.args ++ caught_args others

abbrev pub any_args : Option Link → List ℕ
any_args None = []
any_args (Some link) = link.args

-- on the links by exception the exception is bound
abbrev pub exit_reads : Exit → ℕ → Bool
exit_reads (exit.Goto link) v = among v link.args
exit_reads (exit.If w there elsewhere) v = (w == v) || (among v there.args || among v elsewhere.args)
exit_reads (exit.OnRaise w classes any link) v = among v link.args || (not (w == v) && among v (caught_args classes ++ any_args any))
exit_reads (exit.Return w) v = w == v
exit_reads (exit.Raise w) v = w == v

-- the operation under way, a later one or the exit reads the variable, before it is bound
abbrev pub live : List Op → Exit → ℕ → Bool
live [] exit v = exit_reads exit v
live (o ∷ ops) exit v = among v o.args || (not (o.result == v) && live ops exit v)

-- ---- roots

abbrev pub and_some : Option Value → List Value → List Value
and_some None vs = vs
and_some (Some v) vs = v ∷ vs

-- the values of the variables that are used
abbrev pub kept : (ℕ → Bool) → List Bound → List Value
kept uses [] = []
kept uses (bound ∷ env) = cond (uses bound.variable) (and_some bound.value (kept uses env)) (kept uses env)

-- what a call reads, and what is live behind it
abbrev pub waits_for : Frame → ℕ → Bool
waits_for frame v = among v frame.call.args || (not (frame.call.result == v) && live frame.ops frame.exit v)

-- a call of a class holds its instance, which stands in place of the result
abbrev pub waiting_roots : List Frame → List Value
waiting_roots [] = []
waiting_roots (frame ∷ frames) = kept (waits_for frame) frame.env ++ and_some frame.instead (waiting_roots frames)

-- what is passed stands in the variables of the call that passes it; at the start of a run there is none
abbrev pub passed_roots : List Value → List Frame → List Value
passed_roots args [] = args
passed_roots args (frame ∷ frames) = []

abbrev pub roots : State → List Value
roots (Calling f args instead frames world) = passed_roots args frames ++ and_some instead (waiting_roots frames)
roots (At f ops exit env instead frames world) = kept (live ops exit) env ++ and_some instead (waiting_roots frames)
roots (Returning v frames world) = v ∷ waiting_roots frames
roots (Throwing r frames world) = Ref r ∷ waiting_roots frames
