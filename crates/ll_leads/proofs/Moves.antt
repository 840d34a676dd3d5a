-- Steps of a graph that compute: what they lead to, and what must be set for it.
use Rattle.std.proofs.Common.{◌≡◌, ◌≤◌, ℕ, zero, suc, ◌+◌, Bool, true, false, ◌||◌, List, [], ◌∷◌, ◌++◌, Option, Some, None, Ok, Err, refl, sym, ap, ◌∙◌, subst, arith}
use Rattle.std.specs.Prelude.{slice_get, slice_set, cond}
use Rattle.csub_tree.specs.State.{Value, Unset, Core, Onward, Stuck}
use Rattle.csub_tree.specs.Operation.{Answer, is_unset, flag_of, unary_of, binary_of}
use Rattle.csub_tree.specs.Statement.{operand, operands, any_unset, read, answered}
use Rattle.csub_tree.specs.declared.stuck.StuckReason.TheVariants.{Unset as IsUnset}
use Rattle.ll_code.specs.State.{Frame, State, Calling, At, Returning, Throwing, Goes, Sticks}
use Rattle.ll_code.specs.Machine.{step, goes_on, jump, begins, branch, block_in, set_all, given}
use Rattle.ll_code.specs.declared.program.LlLink.{LlLink}
use Rattle.ll_code.specs.declared.program.LlOp.{LlOp}
use Rattle.ll_code.specs.declared.program.LlOp.TheVariants as op
use Rattle.ll_code.specs.declared.program.LlExit.{LlExit}
use Rattle.ll_code.specs.declared.program.LlExit.TheVariants as exit
use Rattle.ll_code.specs.declared.program.LlBlock.{LlBlock}
use Rattle.ll_code.specs.declared.program.LlGraph.{LlGraph}
use Rattle.ll_code.specs.declared.program.LlProgram.{LlProgram}
use Rattle.ll_held.specs.Roots.{core_of}
use Rattle.ll_leads.specs.Path.{Stay, Go, Leads, total, stored}

-- a state, where these values are set
pub data Move : Type 0 where
  To : (state : State) → (given : List Value) → Move
  Off : Move

abbrev pub lands : List Frame → Core → ℕ → List Value → Option LlBlock → Move
lands frames core to values None = Off
lands frames core to values (Some block) = To (At block.ops block.exit frames (record core { block = to; at = 0; vars = set_all core.vars block.inputs values })) values

abbrev pub links : LlGraph → List Frame → Core → LlLink → Move
links graph frames core link = lands frames core link.to (operands core.vars link.args) (slice_get graph.blocks link.to)

abbrev pub chooses : LlGraph → List Frame → Core → LlLink → LlLink → Option Bool → Move
chooses graph frames core there elsewhere None = Off
chooses graph frames core there elsewhere (Some true) = links graph frames core there
chooses graph frames core there elsewhere (Some false) = links graph frames core elsewhere

abbrev pub computes : (Core → State) → Core → ℕ → Answer → Move
computes state core a (Ok value) = To (state (record core { at = core.at + 1; vars = slice_set core.vars a value })) []
computes state core a (Err reason) = Off

-- one step, where it computes
abbrev pub move : LlGraph → State → Move
move graph (At [] (exit.Goto link) frames core) = links graph frames core link
move graph (At [] (exit.If a there elsewhere) frames core) = chooses graph frames core there elsewhere (flag_of (read core.vars a))
move graph (At [] (exit.Return None) frames core) = To (Returning Unset frames core) []
move graph (At [] (exit.Return (Some x)) frames core) = To (Returning (operand core.vars x) frames core) (operand core.vars x ∷ [])
move graph (At (op.Set a x ∷ ops) e frames core) = To (At ops e frames (record core { at = core.at + 1; vars = slice_set core.vars a (operand core.vars x) })) (operand core.vars x ∷ [])
move graph (At (op.Unary a o x ∷ ops) e frames core) = computes (At ops e frames) core a (unary_of o (operand core.vars x))
move graph (At (op.Binary a o x y ∷ ops) e frames core) = computes (At ops e frames) core a (binary_of o (operand core.vars x) (operand core.vars y))
move graph other = Off

-- some steps
abbrev pub added : List Value → Move → Move
added values (To s more) = To s (values ++ more)
added values Off = Off

abbrev pub through : (State → Move) → Move → Move
through go (To t values) = added values (go t)
through go Off = Off

abbrev pub moves : LlGraph → ℕ → State → Move
moves graph zero s = To s []
moves graph (suc k) s = through (moves graph k) (move graph s)

-- ---- what the machine does then

pub record Steps (p : LlProgram) (args : List (List ℕ)) (s t : State) (values : List Value) : Type 0 where
  pub goes : any_unset values ≡ false → step p args s ≡ Goes t
  pub function : (core_of t).function ≡ (core_of s).function
  pub none : stored s ≡ 0

abbrev pub MoveSteps : LlProgram → List (List ℕ) → State → Move → Type 0
MoveSteps p args s (To t values) = Steps p args s t values
MoveSteps p args s Off = Unit {0}

or_first : (a b : Bool) → (a || b) ≡ false → a ≡ false
or_first true b h = h
or_first false b h = refl

or_second : (a b : Bool) → (a || b) ≡ false → b ≡ false
or_second true b h = absurd (cc)
or_second false b h = h

pub unset_first : (xs ys : List Value) → any_unset (xs ++ ys) ≡ false → any_unset xs ≡ false
unset_first [] ys h = refl
unset_first (x ∷ xs) ys h = one (λ h. unset_first xs ys h) (is_unset x) h
  where
    one : (any_unset (xs ++ ys) ≡ false → any_unset xs ≡ false) → (b : Bool) → (b || any_unset (xs ++ ys)) ≡ false → (b || any_unset xs) ≡ false
    one go true h = absurd (cc)
    one go false h = go h

pub unset_second : (xs ys : List Value) → any_unset (xs ++ ys) ≡ false → any_unset ys ≡ false
unset_second [] ys h = h
unset_second (x ∷ xs) ys h = unset_second xs ys (or_second (is_unset x) _ h)

module _ (p : LlProgram) (args : List (List ℕ)) (graph : LlGraph) where
  lands_steps : (frames : List Frame) (core : Core) (link : LlLink) (s : State) → core_of s ≡ core → stored s ≡ 0 → step p args s ≡ jump p frames core link → slice_get p.graphs core.function ≡ Some graph → MoveSteps p args s (links graph frames core link)
  lands_steps frames core link s same none stepped of = one (slice_get graph.blocks link.to) refl
    where
      values : List Value
      values = operands core.vars link.args

      begun : block_in (slice_get p.graphs core.function) link.to ≡ slice_get graph.blocks link.to
      begun = ap (λ o. block_in o link.to) of

      one : (o : Option LlBlock) → slice_get graph.blocks link.to ≡ o → MoveSteps p args s (lands frames core link.to (operands core.vars link.args) o)
      one None e = tt
      one (Some block) e = record {
        goes = λ u. stepped ∙ ap (λ b. cond b (Sticks IsUnset) (begins frames core link.to (operands core.vars link.args) (block_in (slice_get p.graphs core.function) link.to))) u ∙ ap (begins frames core link.to (operands core.vars link.args)) (begun ∙ e);
        function = ap (λ (c : Core). c.function) (sym same);
        none = none;
      }

  computes_steps : (o : LlOp) (ops : List LlOp) (e : LlExit) (frames : List Frame) (core : Core) (a : ℕ) (answer : Answer) → stored (At (o ∷ ops) e frames core) ≡ 0 → step p args (At (o ∷ ops) e frames core) ≡ goes_on (At ops e frames) (answered core a answer) → MoveSteps p args (At (o ∷ ops) e frames core) (computes (At ops e frames) core a answer)
  computes_steps o ops e frames core a (Ok value) none h = record { goes = λ u. h; function = refl; none = none }
  computes_steps o ops e frames core a (Err reason) none h = tt

  chooses_steps : (a : ℕ) (frames : List Frame) (core : Core) (there elsewhere : LlLink) (o : Option Bool) → flag_of (read core.vars a) ≡ o → slice_get p.graphs core.function ≡ Some graph → MoveSteps p args (At [] (exit.If a there elsewhere) frames core) (chooses graph frames core there elsewhere o)
  chooses_steps a frames core there elsewhere None e of = tt
  chooses_steps a frames core there elsewhere (Some true) e of = lands_steps frames core there (At [] (exit.If a there elsewhere) frames core) refl refl (ap (branch p frames core there elsewhere) e) of
  chooses_steps a frames core there elsewhere (Some false) e of = lands_steps frames core elsewhere (At [] (exit.If a there elsewhere) frames core) refl refl (ap (branch p frames core there elsewhere) e) of

  left_steps : (e : LlExit) (frames : List Frame) (core : Core) → slice_get p.graphs core.function ≡ Some graph → MoveSteps p args (At [] e frames core) (move graph (At [] e frames core))
  left_steps (exit.Goto link) frames core of = lands_steps frames core link (At [] (exit.Goto link) frames core) refl refl refl of
  left_steps (exit.If a there elsewhere) frames core of = chooses_steps a frames core there elsewhere (flag_of (read core.vars a)) refl of
  left_steps (exit.Return None) frames core of = record { goes = λ u. refl; function = refl; none = refl }
  left_steps (exit.Return (Some x)) frames core of = record {
    goes = λ u. ap (λ b. cond b (Sticks IsUnset) (Goes (Returning (operand core.vars x) frames core))) (or_first (is_unset (operand core.vars x)) false u);
    function = refl;
    none = refl;
  }
  left_steps other frames core of = tt

  operates_steps : (o : LlOp) (ops : List LlOp) (e : LlExit) (frames : List Frame) (core : Core) → MoveSteps p args (At (o ∷ ops) e frames core) (move graph (At (o ∷ ops) e frames core))
  operates_steps (op.Set a x) ops e frames core = record {
    goes = λ u. ap (λ b. goes_on (At ops e frames) (cond b (Stuck IsUnset) (Onward (record core { at = core.at + 1; vars = slice_set core.vars a (operand core.vars x) })))) (or_first (is_unset (operand core.vars x)) false u);
    function = refl;
    none = refl;
  }
  operates_steps (op.Unary a o x) ops e frames core = computes_steps (op.Unary a o x) ops e frames core a (unary_of o (operand core.vars x)) refl refl
  operates_steps (op.Binary a o x y) ops e frames core = computes_steps (op.Binary a o x y) ops e frames core a (binary_of o (operand core.vars x) (operand core.vars y)) refl refl
  operates_steps other ops e frames core = tt

  move_steps : (s : State) → slice_get p.graphs (core_of s).function ≡ Some graph → MoveSteps p args s (move graph s)
  move_steps (At [] e frames core) of = left_steps e frames core of
  move_steps (At (o ∷ ops) e frames core) of = operates_steps o ops e frames core
  move_steps (Calling f values frames core) of = tt
  move_steps (Returning value frames core) of = tt
  move_steps (Throwing value frames core) of = tt

  -- ---- some steps

  pub moves_lead : (k : ℕ) (s t : State) (values : List Value) → slice_get p.graphs (core_of s).function ≡ Some graph → moves graph k s ≡ To t values → any_unset values ≡ false → Leads p args 0 s [] t
  moves_lead zero s t values of e u = let q : s ≡ t = cc in subst (λ t. Leads p args 0 s [] t) q (record { path = Stay s; few = omega arith })
  moves_lead (suc k) s t values of e u = one (λ v given of e u. moves_lead k v t given of e u) (move graph s) (move_steps s of) e
    where
      onto : ((v : State) (given : List Value) → slice_get p.graphs (core_of v).function ≡ Some graph → moves graph k v ≡ To t given → any_unset given ≡ false → Leads p args 0 v [] t) → (v : State) (given : List Value) → Steps p args s v given → (r : Move) → moves graph k v ≡ r → added given r ≡ To t values → Leads p args 0 s [] t
      onto go v given h Off f e = absurd (cc)
      onto go v given h (To end more) f e =
          let same : end ≡ t = cc in
          let all : given ++ more ≡ values = cc in
          let none : any_unset (given ++ more) ≡ false = ap any_unset all ∙ u in
          let rest = go v more (ap (slice_get p.graphs) h.function ∙ of) (f ∙ ap (λ x. To x more) same) (unset_second given more none) in
          record { path = Go (h.goes (unset_first given more none)) rest.path; few = (let w : total rest.path ≤ 0 = rest.few in let z : stored s ≡ 0 = h.none in omega (arith, w, z)) }

      one : ((v : State) (given : List Value) → slice_get p.graphs (core_of v).function ≡ Some graph → moves graph k v ≡ To t given → any_unset given ≡ false → Leads p args 0 v [] t) → (m : Move) → MoveSteps p args s m → through (moves graph k) m ≡ To t values → Leads p args 0 s [] t
      one go Off h e = absurd (cc)
      one go (To v given) h e = onto go v given h (moves graph k v) refl e
