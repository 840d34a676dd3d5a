-- What follows an exit of a counted program.
use Rattle.std.specs.Prelude.{◌≡◌, ◌<◌, ℕ, suc, ◌+◌, not, ◌&&◌, Bool, true, false, List, [], ◌∷◌, slice_get, Option, Some}
use Rattle.csub_tree.specs.State.{Value, Block, Core}
use Rattle.csub_tree.specs.Statement.{operand, operands, any_unset}
use Rattle.csub_tree.specs.Operation.{is_unset}
use Rattle.csub_tree.specs.declared.tree.COperand.{COperand}
use Rattle.ll_code.specs.State.{Frame, State, Calling, At, Returning, Next, Goes, Ends, Sticks}
use Rattle.ll_code.specs.Machine.{step, set_all, waiting}
use Rattle.ll_code.specs.Typed.{link_ok}
use Rattle.ll_code.specs.declared.program.LlLink.{LlLink}
use Rattle.ll_code.specs.declared.program.LlType.{LlType}
use Rattle.ll_code.specs.declared.program.LlOp.{LlOp}
use Rattle.ll_code.specs.declared.program.LlExit.{LlExit}
use Rattle.ll_code.specs.declared.program.LlExit.TheVariants as exit
use Rattle.ll_code.specs.declared.program.LlBlock.{LlBlock}
use Rattle.ll_code.specs.declared.program.LlGraph.{LlGraph}
use Rattle.ll_code.specs.declared.program.LlProgram.{LlProgram}
use Rattle.ll_live.specs.Live.{among, live}
use Rattle.refcount_transform.specs.Plan.{root_of, plan_of, reference_given}
use Rattle.refcount_transform.specs.Changes.{touched, dead, changed, Around, var_referred, around_of, operand_referred, ops_of}
use Rattle.refcount_transform.specs.Blocks.{behind_exit, blocks_of, exit_of}
use Rattle.refcount_transform.specs.Counted.{counted}
use Rattle.refcount_laws.specs.Made.{counts_of}
use Rattle.refcount_laws.specs.Ghost.{Ghost, memory, IsCounted}
use Rattle.refcount_laws.specs.Runs.{Leads, here}
use Rattle.refcount_laws.specs.Owned.{owned, hits_by}
use Rattle.refcount_laws.specs.Matches.{PointsTo, Pointing, Stands, Comes}

-- the variables differ
abbrev pub are_apart : List ℕ → Bool
are_apart [] = true
are_apart (v ∷ vs) = not (among v vs) && are_apart vs

-- each block has its inputs once
abbrev pub InputsAreApart : LlGraph → Type 0
InputsAreApart graph = (n : ℕ) (block : LlBlock) → slice_get graph.blocks n ≡ Some block → are_apart block.inputs ≡ true

-- an exit by no exception
abbrev pub is_explicit : LlExit → Bool
is_explicit (exit.OnRaise a by without) = false
is_explicit (exit.Raise a) = false
is_explicit other = true

-- these blocks stand at a number and behind it
abbrev pub From : List LlBlock → ℕ → List LlBlock → Type 0
From all n [] = Unit {0}
From all n (x ∷ xs) = (slice_get all n ≡ Some x) × From all (n + 1) xs

-- what a link gives on points where the inputs that take it should
abbrev pub LinksPoint : LlProgram → LlGraph → Core → Type 0
LinksPoint p graph core = (link : LlLink) (block : LlBlock) → link_ok p graph link ≡ true → slice_get graph.blocks link.to ≡ Some block → any_unset (operands core.vars link.args) ≡ false
    → Pointing p graph.types core.blocks core.statics (λ w. among w block.inputs) (set_all core.vars block.inputs (operands core.vars link.args))

-- the references that variables are given, the first of which has the number n
abbrev pub given_to : Around → ℕ → List Value → Value → ℕ
given_to around n [] r = 0
given_to around n (x ∷ values) r = hits_by (var_referred around n) x r + given_to around (suc n) values r

-- what a return gives on points where its type says
abbrev pub ReturnPoints : LlProgram → LlGraph → Core → LlExit → Type 0
ReturnPoints p graph core (exit.Return x) = (y : COperand) → x ≡ Some y → (n : ℕ) → operand_referred (around_of (plan_of p) graph.types) y ≡ Some n → is_unset (operand core.vars y) ≡ false → PointsTo p core.blocks core.statics n (operand core.vars y)
ReturnPoints p graph core other = Unit {0}

-- it comes back with this value, and owns so much besides
pub record GivesBack (p : LlProgram) (args : List (List ℕ)) (value : Value) (own : Value → ℕ) (from : State) (frames : List Frame) (core : Core) : Type 0 where
  pub qcore : Core
  pub g : Ghost
  pub h : List (Option Block)
  pub b : ℕ
  pub at : ℕ
  pub stands : Stands p core qcore g h
  pub counts : IsCounted (counted p) (counts_of (plan_of p)) g own
  pub leads : Leads (counted p) args from (Returning value frames (here qcore core.function b at core.vars h (memory g)))

-- what follows: the block that the program comes to, with its ways in their place; the value that it returns, given on; or its ending, with as many steps left
abbrev pub Leaves : LlProgram → List (List ℕ) → LlGraph → (Value → ℕ) → State → List Frame → Next → Type 0
Leaves p args graph own from frames (Goes (At ops ex waiting core)) =
    (next : ℕ) × From (blocks_of (around_of (plan_of p) graph.types) graph.blocks) next (behind_exit (around_of (plan_of p) graph.types) ex)
    × (x : Comes p args graph.types (live ops ex) own from (ops_of (around_of (plan_of p) graph.types) ops ex) (exit_of (around_of (plan_of p) graph.types) next ex) frames core.block core) × (0 < x.leads.count)
Leaves p args graph own from frames (Goes (Returning value waiting core)) = GivesBack p args value (λ r. hits_by (reference_given (plan_of p).counted (Some graph.result)) value r + own r) from frames core
Leaves p args graph own from frames (Ends outcome core) = (t : State) × (end : Core) × Leads (counted p) args from t × (step (counted p) args t ≡ Ends outcome end) × (end.steps ≡ core.steps)
Leaves p args graph own from frames (Sticks reason) = Unit {0}
Leaves p args graph own from frames other = ⊥

-- ---- calls

-- each operand that is a reference leads to a root, where it points
abbrev pub AllPoint : LlProgram → List LlType → Core → List COperand → Type 0
AllPoint p types core [] = Unit {0}
AllPoint p types core (x ∷ xs) =
    ((n : ℕ) → operand_referred (around_of (plan_of p) types) x ≡ Some n → (root_of (plan_of p) n ≡ n) × PointsTo p core.blocks core.statics n (operand core.vars x)) × AllPoint p types core xs

-- it comes to the call, which waits with these operations behind it
pub record ComesToCall (p : LlProgram) (args : List (List ℕ)) (own : Value → ℕ) (from : State) (f : ℕ) (values : List Value) (into : Option ℕ) (behind : List LlOp) (ex : LlExit) (b : ℕ) (frames : List Frame) (core : Core) : Type 0 where
  pub qcore : Core
  pub g : Ghost
  pub h : List (Option Block)
  pub at : ℕ
  pub stands : Stands p core qcore g h
  pub counts : IsCounted (counted p) (counts_of (plan_of p)) g own
  pub leads : Leads (counted p) args from (Calling f values (waiting (here qcore core.function b at core.vars h (memory g)) into behind ex ∷ frames) (here qcore core.function b at core.vars h (memory g)))

-- a call in the program: its operands are given to the variables of the graph, and what was owned is owned still
abbrev pub EntersBy : LlProgram → List (List ℕ) → List LlType → (Value → ℕ) → LlOp → List LlOp → List LlOp → LlExit → LlExit → ℕ → ℕ → List Frame → List Frame → Core → Core → Ghost → List (Option Block) → Option ℕ → Next → Type 0
EntersBy p args types own o ops rest e ex b at waits frames core qcore g h into (Goes state) =
    (f : ℕ) × (values : List Value) × (graph : LlGraph) × (slice_get p.graphs f ≡ Some graph) × (state ≡ Calling f values (waiting core into ops e ∷ waits) core)
    × ComesToCall p args (λ r. given_to (around_of (plan_of p) graph.types) 0 values r + (owned (around_of (plan_of p) types) (live (o ∷ ops) e) core.vars r + own r))
    (At (changed (around_of (plan_of p) types) o (dead (around_of (plan_of p) types) (touched o) ops e rest)) ex frames (here qcore core.function b at core.vars h (memory g))) f values into (dead (around_of (plan_of p) types) (touched o) ops e rest) ex b frames core
EntersBy p args types own o ops rest e ex b at waits frames core qcore g h into (Sticks reason) = Unit {0}
EntersBy p args types own o ops rest e ex b at waits frames core qcore g h into other = ⊥
