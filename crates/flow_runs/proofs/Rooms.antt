-- A bound on sizes and steps stays one at each step of a run.
use Rattle.std.proofs.Common.{ℕ, ◌-◌, Bool, true, false, List, [], ◌∷◌, Option, Some, None, subst, arith}
use Rattle.std.specs.Prelude.{slice_get, cond, nat_lt}
use Rattle.rpy_tree.specs.Value.{Value, Word, Flag, Text, Nothing, Tuple, Fun, Ref}
use Rattle.rpy_meaning.specs.Evaluation.{parameters}
use Rattle.rpy_meaning.specs.Laws.{HasRoom, OnRoom, KeepsRoom}
use Rattle.rpy_meaning.specs.Meaning.{class_in}
use Rattle.rpy_meaning.specs.Operations.{op}
use Rattle.rpy_meaning.specs.Tree.{Function, Program}
use Rattle.rpy_meaning.specs.declared.row.Covers.{Covers}
use Rattle.rpy_meaning.specs.declared.row.RowOp.{RowOp}
use Rattle.rpy_meaning.specs.World.{World, Answer, Gives, Throws, Fails, Lacks, Enters, Bad}
use Rattle.flow_graph.specs.declared.graph.Block.{Block}
use Rattle.flow_graph.specs.declared.graph.Exit.{Exit}
use Rattle.flow_graph.specs.declared.graph.Exit.TheVariants as exit
use Rattle.flow_graph.specs.declared.graph.Graphs.{Graphs}
use Rattle.flow_graph.specs.declared.graph.Link.{Link}
use Rattle.flow_graph.specs.declared.graph.Op.{Op}
use Rattle.flow_meaning.specs.Machine.{Frame, State, Calling, At, Returning, Throwing, Next, Goes, Ends, Stops, Strays, Bound, look, block_in, begins, jump, catching, caught_on, caught_by, caught, chooses, truth_of, returns, raises, leaves, answered, operates, values_of, begun, given, entered, world_of, step}
use Rattle.flow_runs.specs.Runs.{Reaches, Here, Then}
use Rattle.flow_runs.specs.Rooms.{RoomIsKept}

-- what holds of the world of the next state
abbrev pub OnNext : (World → Type 0) → Next → Type 0
OnNext P (Goes state) = P (world_of state)
OnNext P (Ends outcome world) = Unit {0}
OnNext P (Stops world) = Unit {0}
OnNext P Strays = Unit {0}

module _ (keeps_room : (p : Program) (c : Covers) (o : RowOp) (vs : List Value) → KeepsRoom (op p c o vs)) (p : Program) (gs : Graphs) (most : ℕ) where
  abbrev P : World → Type 0
  P = HasRoom most

  -- fewer steps
  less : (w : World) (k : ℕ) → P w → P (record w { left = w.left - k })
  less w k it r = (let h = it r in omega (arith, h))

  module _ (f : ℕ) (frames : List Frame) (w : World) (instead : Option Value) (it : P w) where
    begins_so : (env : List Bound) (link : Link) (o : Option Block) → OnNext P (begins f frames w instead env link o)
    begins_so env link None = tt
    begins_so env link (Some block) = it

    jumps : (env : List Bound) (link : Link) → OnNext P (jump gs f frames w instead env link)
    jumps env link = begins_so env link (block_in (slice_get gs.graphs f) link.to)

    caught_so : (r : ℕ) (env : List Bound) (v : ℕ) (o : Option Link) → OnNext P (caught_on gs f r frames w instead env v o)
    caught_so r env v None = it
    caught_so r env v (Some link) = jumps _ link

    by_exit : (r : ℕ) (env : List Bound) (e : Exit) → OnNext P (caught_by p gs f r frames w instead env e)
    by_exit r env (exit.OnRaise v classes any link) = caught_so r env v (catching p (class_in w r) classes any)
    by_exit r env (exit.Goto link) = it
    by_exit r env (exit.If v there elsewhere) = it
    by_exit r env (exit.Return v) = it
    by_exit r env (exit.Raise v) = it

    catches : (r : ℕ) (env : List Bound) (ops : List Op) (e : Exit) → OnNext P (caught p gs f r frames w instead env ops e)
    catches r env [] e = by_exit r env e
    catches r env (o ∷ ops) e = it

    chosen : (env : List Bound) (there elsewhere : Link) (o : Option Bool) → OnNext P (chooses gs f frames w instead env there elsewhere o)
    chosen env there elsewhere None = tt
    chosen env there elsewhere (Some true) = jumps env there
    chosen env there elsewhere (Some false) = jumps env elsewhere

    returned_so : (o : Option Value) → OnNext P (returns instead frames w o)
    returned_so None = tt
    returned_so (Some v) = it

    raised : (o : Option Value) → OnNext P (raises frames w o)
    raised None = tt
    raised (Some (Ref r)) = it
    raised (Some (Word z)) = tt
    raised (Some (Flag b)) = tt
    raised (Some (Text bytes)) = tt
    raised (Some Nothing) = tt
    raised (Some (Tuple vs)) = tt
    raised (Some (Fun h)) = tt

    left : (e : Exit) (env : List Bound) → OnNext P (leaves p gs f e env instead frames w)
    left (exit.Goto link) env = jumps env link
    left (exit.If v there elsewhere) env = chosen env there elsewhere (truth_of w (look env v))
    left (exit.OnRaise v classes any link) env = jumps env link
    left (exit.Return v) env = returned_so (look env v)
    left (exit.Raise v) env = raised (look env v)

    begun_so : (vs : List Value) (o : Option Block) → OnNext P (begun f vs instead frames w o)
    begun_so vs None = tt
    begun_so vs (Some block) = it

  answers : (f : ℕ) (o : Op) (ops : List Op) (e : Exit) (env : List Bound) (instead : Option Value) (frames : List Frame) (w : World) (a : Answer) → OnRoom most a → OnNext P (answered p gs f o ops e env instead frames w a)
  answers f o ops e env instead frames w (Gives v u) it = it
  answers f o ops e env instead frames w (Throws r u) it = catches f frames u instead it r env ops e
  answers f o ops e env instead frames w (Fails name) it = tt
  answers f o ops e env instead frames w Lacks it = tt
  answers f o ops e env instead frames w (Enters g args other u) it = it
  answers f o ops e env instead frames w Bad it = tt

  operated : (f : ℕ) (o : Op) (ops : List Op) (e : Exit) (env : List Bound) (instead : Option Value) (frames : List Frame) (w : World) → P w → (vs : Option (List Value)) → OnNext P (operates p gs f o ops e env instead frames w vs)
  operated f o ops e env instead frames w it None = tt
  operated f o ops e env instead frames w it (Some vs) = answers f o ops e env instead frames w (op p o.covered o.op vs w) (keeps_room p o.covered o.op vs most w it)

  paying : (f : ℕ) (vs : List Value) (instead : Option Value) (frames : List Frame) (w : World) → P w → (b : Bool) → OnNext P (cond b (Stops w) (begun f vs instead frames (record w { left = w.left - 1 }) (block_in (slice_get gs.graphs f) 0)))
  paying f vs instead frames w it true = tt
  paying f vs instead frames w it false = begun_so f frames (record w { left = w.left - 1 }) instead (less w 1 it) vs (block_in (slice_get gs.graphs f) 0)

  given_so : (f : ℕ) (instead : Option Value) (frames : List Frame) (w : World) → P w → (o : Option (List Value)) → OnNext P (given gs f instead frames w o)
  given_so f instead frames w it None = tt
  given_so f instead frames w it (Some vs) = paying f vs instead frames w it (nat_lt w.left 1)

  enters : (f : ℕ) (args : List Value) (instead : Option Value) (frames : List Frame) (w : World) → P w → (o : Option Function) → OnNext P (entered gs f args instead frames w o)
  enters f args instead frames w it None = tt
  enters f args instead frames w it (Some function) = by function.takes_more
    where
      by : (more : Bool) → OnNext P (cond more Strays (given gs f instead frames w (parameters function.defaults args)))
      by true = tt
      by false = given_so f instead frames w it (parameters function.defaults args)

  stepped : (state : State) → P (world_of state) → OnNext P (step p gs state)
  stepped (Calling f args instead frames w) it = enters f args instead frames w it (slice_get p.functions f)
  stepped (At f [] e env instead frames w) it = left f frames w instead it e env
  stepped (At f (o ∷ ops) e env instead frames w) it = operated f o ops e env instead frames w it (values_of env o.args)
  stepped (Returning v [] w) it = tt
  stepped (Returning v (frame ∷ frames) w) it = it
  stepped (Throwing r [] w) it = tt
  stepped (Throwing r (frame ∷ frames) w) it = catches frame.graph frames w frame.instead it r frame.env frame.ops frame.exit

  reached : (state last : State) → Reaches p gs state last → P (world_of state) → P (world_of last)
  reached state last Here it = it
  reached state last (Then {mid = mid} is rest) it = reached mid last rest (subst (OnNext P) is (stepped state it))

pub room_is_kept : ((p : Program) (c : Covers) (o : RowOp) (vs : List Value) → KeepsRoom (op p c o vs)) → RoomIsKept
room_is_kept keeps p gs most state last reaches it = reached keeps p gs most state last reaches it
