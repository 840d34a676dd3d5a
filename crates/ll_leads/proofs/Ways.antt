-- Ways that are put together: steps that compute, operations on what is known, payments, and calls.
use Rattle.std.proofs.Common.{◌≡◌, ◌<◌, ℕ, ◌+◌, ◌-◌, true, false, List, [], ◌∷◌, ◌++◌, length, Option, Some, Ok, pos, refl, ap, ◌∙◌, subst, arith}
use Rattle.rpy_base.specs.declared.outcome.Outcome.TheVariants.{Running}
use Rattle.std.proofs.lemmas.Bool.Decides.{nat_tests}
use Rattle.std.proofs.lemmas.List.{append-nil}
use Rattle.std.specs.Prelude.{slice_get, slice_set, cond, replicate, nat_le}
use Rattle.csub_tree.specs.State.{Value, Unset, Word, Ptr, Block, Core, Event, Made, Onward, Over}
use Rattle.csub_tree.specs.Layout.{shape_at}
use Rattle.csub_tree.specs.Operation.{unary_of, binary_of}
use Rattle.csub_tree.specs.Statement.{operand, operands, any_unset, taken_by, answered, new_array, pay}
use Rattle.csub_tree.specs.declared.stuck.StuckReason.TheVariants.{Unset as IsUnset}
use Rattle.csub_tree.specs.declared.tree.COperand.{COperand}
use Rattle.csub_tree.specs.declared.tree.CUnary.{CUnary}
use Rattle.csub_tree.specs.declared.tree.CBinary.{CBinary}
use Rattle.ll_code.specs.State.{Frame, State, Calling, At, Returning, Goes, Puts, Tells, Ends, Sticks}
use Rattle.ll_code.specs.Machine.{step, does, goes_on, shapes_of, waiting, enters, entered}
use Rattle.ll_code.specs.declared.program.LlOp.{LlOp}
use Rattle.ll_code.specs.declared.program.LlOp.TheVariants as op
use Rattle.ll_code.specs.declared.program.LlExit.{LlExit}
use Rattle.ll_code.specs.declared.program.LlBlock.{LlBlock}
use Rattle.ll_code.specs.declared.program.LlGraph.{LlGraph}
use Rattle.ll_code.specs.declared.program.LlProgram.{LlProgram}
use Rattle.ll_held.specs.Held.{is_reference}
use Rattle.ll_held.specs.Roots.{core_of}
use Rattle.ll_leads.specs.Path.{Stay, Go, Put, Tell, Leads, stored}
use Rattle.ll_leads.specs.Memory.{forgotten}
use Rattle.ll_leads.proofs.Joined.{leads_then, leads_more}
use Rattle.ll_leads.proofs.Moves.{To, moves, moves_lead}

-- a value is given back, over this memory
pub record Comes (p : LlProgram) (args : List (List ℕ)) (s : State) (text : List ℕ) (value : Value) (frames : List Frame) (memory : Core) : Type 0 where
  pub end : Core
  pub same : forgotten end ≡ forgotten memory
  pub leads : Leads p args 0 s text (Returning value frames end)

module _ {p : LlProgram} {args : List (List ℕ)} where
  -- a way that puts nothing, and another
  pub on : {s t u : State} {text : List ℕ} → Leads p args 0 s [] t → Leads p args 0 t text u → Leads p args 0 s text u
  on {s = s} {u = u} {text = text} v w = leads_more (0 + 0) 0 (omega arith) (leads_then v w)

  pub behind : {s t u : State} {x y : List ℕ} → Leads p args 0 s x t → Leads p args 0 t y u → Leads p args 0 s (x ++ y) u
  behind v w = leads_more (0 + 0) 0 (omega arith) (leads_then v w)

  -- and one that puts nothing
  pub then : {s t u : State} {text : List ℕ} → Leads p args 0 s text t → Leads p args 0 t [] u → Leads p args 0 s text u
  then {s = s} {u = u} {text = text} v w = subst (λ l. Leads p args 0 s l u) (append-nil text) (behind v w)

  pub rests : {s : State} → Leads p args 0 s [] s
  rests {s = s} = record { path = Stay s; few = omega arith }

  -- ---- single steps

  pub one : {s t : State} → step p args s ≡ Goes t → stored s ≡ 0 → Leads p args 0 s [] t
  one {s = s} {t = t} e h = record { path = Go e (Stay t); few = omega (arith, h) }

  pub put : {s t : State} {byte : ℕ} → step p args s ≡ Puts byte t → stored s ≡ 0 → Leads p args 0 s (byte ∷ []) t
  put {s = s} {t = t} {byte = byte} e h = record { path = Put e (Stay t); few = omega (arith, h) }

  pub tell : {s t : State} {event : Event} → step p args s ≡ Tells event t → stored s ≡ 0 → Leads p args 0 s [] t
  tell {s = s} {t = t} e h = record { path = Tell e (Stay t); few = omega (arith, h) }

  -- steps that compute, in a graph that is known
  pub many : {graph : LlGraph} {s t : State} {values : List Value} (k : ℕ) → slice_get p.graphs (core_of s).function ≡ Some graph → moves graph k s ≡ To t values → any_unset values ≡ false → Leads p args 0 s [] t
  many {graph = graph} {s = s} {t = t} {values = values} k of e u = moves_lead p args graph k s t values of e u

  -- a graph that is known is entered
  pub enter : {graph : LlGraph} {f : ℕ} {values : List Value} {frames : List Frame} {core : Core} {block : LlBlock} → slice_get p.graphs f ≡ Some graph → slice_get graph.blocks 0 ≡ Some block
      → Leads p args 0 (Calling f values frames core) [] (At block.ops block.exit frames (record core { function = f; block = 0; at = 0; vars = values ++ replicate (length graph.types - length graph.params) Unset }))
  enter {graph = graph} {f = f} {values = values} {frames = frames} {core = core} of first = one (ap (entered f values frames core) of ∙ ap (enters f values frames core graph) first) refl

  module _ {ops : List LlOp} {e : LlExit} {frames : List Frame} {core : Core} where
    -- an operator, whose result is known
    pub gives : {a : ℕ} {o : CBinary} {x y : COperand} (value : Value) → binary_of o (operand core.vars x) (operand core.vars y) ≡ Ok value
        → Leads p args 0 (At (op.Binary a o x y ∷ ops) e frames core) [] (At ops e frames (record core { at = core.at + 1; vars = slice_set core.vars a value }))
    gives {a = a} value h = one (ap (λ r. goes_on (At ops e frames) (answered core a r)) h) refl

    pub turns : {a : ℕ} {o : CUnary} {x : COperand} (value : Value) → unary_of o (operand core.vars x) ≡ Ok value
        → Leads p args 0 (At (op.Unary a o x ∷ ops) e frames core) [] (At ops e frames (record core { at = core.at + 1; vars = slice_set core.vars a value }))
    turns {a = a} value h = one (ap (λ r. goes_on (At ops e frames) (answered core a r)) h) refl

    -- a field or an item that is known is read
    pub gets_field : {a n b k : ℕ} (value : Value) → does p args core (op.GetField a n b k) ≡ Onward (record core { at = core.at + 1; vars = slice_set core.vars a value })
        → Leads p args 0 (At (op.GetField a n b k ∷ ops) e frames core) [] (At ops e frames (record core { at = core.at + 1; vars = slice_set core.vars a value }))
    gets_field value h = one (ap (goes_on (At ops e frames)) h) refl

    pub gets_item : {a n b : ℕ} {i : COperand} (value : Value) → does p args core (op.GetItem a n b i) ≡ Onward (record core { at = core.at + 1; vars = slice_set core.vars a value })
        → Leads p args 0 (At (op.GetItem a n b i ∷ ops) e frames core) [] (At ops e frames (record core { at = core.at + 1; vars = slice_set core.vars a value }))
    gets_item value h = one (ap (goes_on (At ops e frames)) h) refl

    -- one is written
    pub sets_field : {n b k : ℕ} {x : COperand} (blocks : List (Option Block)) → is_reference (operand core.vars x) ≡ false → does p args core (op.SetField n b k x) ≡ Onward (record core { at = core.at + 1; blocks = blocks })
        → Leads p args 0 (At (op.SetField n b k x ∷ ops) e frames core) [] (At ops e frames (record core { at = core.at + 1; blocks = blocks }))
    sets_field blocks r h = one (ap (goes_on (At ops e frames)) h) (ap (λ b. cond b 1 0) r)

    pub sets_item : {n b : ℕ} {i x : COperand} (blocks : List (Option Block)) → is_reference (operand core.vars x) ≡ false → does p args core (op.SetItem n b i x) ≡ Onward (record core { at = core.at + 1; blocks = blocks })
        → Leads p args 0 (At (op.SetItem n b i x ∷ ops) e frames core) [] (At ops e frames (record core { at = core.at + 1; blocks = blocks }))
    sets_item blocks r h = one (ap (goes_on (At ops e frames)) h) (ap (λ b. cond b 1 0) r)

    -- a block is made
    pub makes : {a c n : ℕ} {x : COperand} (count size : ℕ) → operand core.vars x ≡ Word (pos count) → (shape_at (shapes_of p.structs) n).size ≡ size
        → Leads p args 0 (At (op.NewArray a c n x ∷ ops) e frames core) [] (At ops e frames (record core {
          at = core.at + 1;
          vars = slice_set core.vars a (Ptr (length core.blocks));
          blocks = core.blocks ++ Some (record { kind = n; fields = replicate size Unset; items = replicate count Unset }) ∷ [];
        }))
    makes {a = a} {n = n} count size h k =
        tell (ap (λ v. goes_on (At ops e frames) (new_array core (shapes_of p.structs) a n v)) h ∙ ap (λ m. Tells (Made (length core.blocks) n (m + count)) (At ops e frames (record core {
          at = core.at + 1;
          vars = slice_set core.vars a (Ptr (length core.blocks));
          blocks = core.blocks ++ Some (record { kind = n; fields = replicate m Unset; items = replicate count Unset }) ∷ [];
        }))) k) refl

    -- so many steps are paid
    pub pays : {x : COperand} (cost left : ℕ) → operand core.vars x ≡ Word (pos cost) → core.steps ≡ cost + left
        → Leads p args 0 (At (op.Step x ∷ ops) e frames core) [] (At ops e frames (record core { at = core.at + 1; steps = left }))
    pays {x = x} cost left h k =
        let there : nat_le cost core.steps ≡ true = grind (arith, nat_tests, k) in
        let rest : core.steps - cost ≡ left = omega (arith, k) in
        one (ap (λ v. goes_on (At ops e frames) (pay core v)) h
        ∙ ap (λ b. goes_on (At ops e frames) (cond b (Onward (record core { at = core.at + 1; steps = core.steps - cost })) (Over Running core))) there
        ∙ ap (λ n. Goes (At ops e frames (record core { at = core.at + 1; steps = n }))) rest) refl

  -- a call, whatever waits behind it
  pub call : {into : Option ℕ} {f : ℕ} {xs : List COperand} {ops : List LlOp} {e : LlExit} {frames : List Frame} {core : Core} {text : List ℕ} {value : Value} {memory : Core}
      → any_unset (operands core.vars xs) ≡ false
      → ((waits : List Frame) → Comes p args (Calling f (operands core.vars xs) waits core) text value waits memory)
      → Leads p args 0 (At (op.Call into f xs ∷ ops) e frames core) text (At ops e frames (record memory { function = core.function; block = core.block; at = core.at + 1; vars = taken_by core.vars into value }))
  call {into = into} {f = f} {xs = xs} {ops = ops} {e = e} {frames = frames} {core = core} {text = text} {value = value} {memory = memory} u go =
      let g = go (waiting core into ops e ∷ frames) in
      let back : Leads p args 0 (Returning value (waiting core into ops e ∷ frames) g.end) [] (At ops e frames (record memory { function = core.function; block = core.block; at = core.at + 1; vars = taken_by core.vars into value })) =
      subst (λ (c : Core). Leads p args 0 (Returning value (waiting core into ops e ∷ frames) g.end) [] (At ops e frames (record c { function = core.function; block = core.block; at = core.at + 1; vars = taken_by core.vars into value }))) g.same
      (one refl refl) in
      on (one (ap (λ b. cond b (Sticks IsUnset) (Goes (Calling f (operands core.vars xs) (waiting core into ops e ∷ frames) core))) u) refl)
      (then g.leads back)

-- they do not suffice
pub lacks : (p : LlProgram) (args : List (List ℕ)) (ops : List LlOp) (e : LlExit) (frames : List Frame) (core : Core) (x : COperand) (cost : ℕ) → operand core.vars x ≡ Word (pos cost) → core.steps < cost → step p args (At (op.Step x ∷ ops) e frames core) ≡ Ends Running core
lacks p args ops e frames core x cost h k =
    let there : nat_le cost core.steps ≡ false = grind (arith, nat_tests, k) in
    ap (λ v. goes_on (At ops e frames) (pay core v)) h
    ∙ ap (λ b. goes_on (At ops e frames) (cond b (Onward (record core { at = core.at + 1; steps = core.steps - cost })) (Over Running core))) there
