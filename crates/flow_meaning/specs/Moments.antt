-- The moments of a run of graphs, in order, as those of the run of their program: before and behind the same operations, and at the entry of
-- each call.
use Rattle.std.specs.Prelude.{◌≡◌, ℕ, zero, suc, ◌&&◌, not, Bool, true, false, List, [], ◌∷◌, Option, Some, None}
use Rattle.rpy_base.specs.declared.outcome.Outcome.TheVariants as outcome
use Rattle.rpy_tree.specs.Value.{Value}
use Rattle.rpy_meaning.specs.Tree.{Program}
use Rattle.rpy_meaning.specs.World.{World, Answer, Gives}
use Rattle.rpy_meaning.specs.Operations.{op}
use Rattle.rpy_meaning.specs.Meaning.{Run, Before, Behind}
use Rattle.rpy_meaning.specs.Moments.{is_passed_over}
use Rattle.flow_graph.specs.declared.graph.Op.{Op}
use Rattle.flow_graph.specs.declared.graph.Graphs.{Graphs}
use Rattle.flow_meaning.specs.Machine.{values_of, State, Calling, At, Returning, world_of, Next, Goes, Ends, Stops, Strays, step}
use Rattle.flow_meaning.specs.Meaning.{Ran, Ended, Unfinished, run_of, no_world, start, ended}
use Rattle.flow_meaning.specs.Roots.{roots}

-- ---- where a moment is

abbrev pub is_value : Answer → Bool
is_value (Gives v world) = true
is_value other = false

abbrev pub gives_value : Program → Op → World → Option (List Value) → Bool
gives_value p o world None = false
gives_value p o world (Some vs) = is_value (op p o.covered o.op vs world)

abbrev pub is_way : Next → Bool
is_way Strays = false
is_way other = true

-- the state is one before an operation, or at an entry
abbrev pub is_at : Program → Graphs → State → Bool
is_at p gs (Calling f args instead frames world) = is_way (step p gs (Calling f args instead frames world))
is_at p gs (At f (o ∷ ops) exit env instead frames world) = not (is_passed_over (Before o.op))
is_at p gs other = false

-- the state that follows it is one behind an operation
abbrev pub is_behind : Program → State → Bool
is_behind p (At f (o ∷ ops) exit env instead frames world) = gives_value p o world (values_of env o.args) && not (is_passed_over (Behind o.op))
is_behind p (Returning v (frame ∷ frames) world) = not (is_passed_over (Behind frame.call.op))
is_behind p other = false

-- ---- a run up to a moment

-- how many moments are still passed, where this is none or one before
abbrev pub past : Bool → ℕ → Option ℕ
past false m = Some m
past true zero = None
past true (suc m) = Some m

-- as it stands there, it runs on, and holds the roots
abbrev pub stopped : State → Run
stopped s = run_of (Some outcome.Running) (roots s) (world_of s)

abbrev pub on_past : (ℕ → State → Ran) → State → Option ℕ → Ran
on_past go t None = Ended (stopped t)
on_past go t (Some m) = go m t

abbrev pub follow_past : (ℕ → State → Ran) → State → Bool → ℕ → Next → Ran
follow_past go s behind m (Goes t) = on_past go t (past behind m)
follow_past go s behind m (Ends outcome world) = Ended (run_of outcome [] world)
follow_past go s behind m (Stops world) = Ended (run_of (Some outcome.Running) (roots s) world)
follow_past go s behind m Strays = Ended (run_of None [] no_world)

abbrev pub step_past : Program → Graphs → (ℕ → State → Ran) → State → Option ℕ → Ran
step_past p gs go s None = Ended (stopped s)
step_past p gs go s (Some m) = follow_past go s (is_behind p s) m (step p gs s)

-- what k steps of the machine lead to, unless the moment with the number comes before
unfoldable pub run_to : Program → Graphs → ℕ → ℕ → State → Ran
run_to p gs zero m s = Unfinished s
run_to p gs (suc k) m s = step_past p gs (run_to p gs k) s (past (is_at p gs s) m)

abbrev pub gmoment : Program → Graphs → List (List ℕ) → ℕ → ℕ → ℕ → Option Run
gmoment p gs args n m k = ended (run_to p gs k m (start p args n))

-- the run stands so at the moment with the number; past the last one stands its end
abbrev pub IsMoment : Program → Graphs → List (List ℕ) → ℕ → ℕ → Run → Type 0
IsMoment p gs args n m run = (k : ℕ) × (gmoment p gs args n m k ≡ Some run)
