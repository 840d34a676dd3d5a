-- Calls of graphs of lists, and what the place takes then.
use Rattle.std.proofs.Common.{◌≡◌, ◌<◌, ◌≤◌, ℕ, ◌+◌, false, List, [], ◌∷◌, length, Option, Some, None, refl, sym, ap, ◌∙◌, subst, arith}
use Rattle.std.specs.Prelude.{cond}
use Rattle.std.proofs.lemmas.List.{append-nil, length-set}
use Rattle.rpy_base.specs.declared.outcome.FailName.{FailName}
use Rattle.csub_tree.specs.State.{Value, Unset, Block, Core}
use Rattle.csub_tree.specs.Operation.{is_unset}
use Rattle.csub_tree.specs.Statement.{operand, operands, any_unset}
use Rattle.csub_tree.specs.declared.stuck.StuckReason.TheVariants.{Unset as IsUnset}
use Rattle.csub_tree.specs.declared.tree.COperand.{COperand}
use Rattle.csub_tree.specs.declared.tree.COperand.TheVariants.{Var}
use Rattle.rpy_tree.specs.Value.{Value as Meant, Heap}
use Rattle.rpy_meaning.specs.World.{World}
use Rattle.ll_code.specs.State.{Frame, Calling, At, Goes, Sticks}
use Rattle.ll_code.specs.Machine.{waiting}
use Rattle.ll_code.specs.declared.program.LlOp.{LlOp}
use Rattle.ll_code.specs.declared.program.LlOp.TheVariants as op
use Rattle.ll_code.specs.declared.program.LlExit.{LlExit}
use Rattle.ll_code.specs.declared.program.LlProgram.{LlProgram}
use Rattle.ll_held.specs.Held.{times}
use Rattle.ll_held.specs.Roots.{roots}
use Rattle.ll_leads.specs.Path.{Leads}
use Rattle.ll_leads.proofs.Joined.{leads_then, leads_more}
use Rattle.ll_leads.proofs.Ways.{on, one}
use Rattle.ll_texts.specs.Follows.{FailedAs, Lacked as CallLacked}
use Rattle.rtyper_data.specs.Seen.{Around, Place}
use Rattle.lower_laws.specs.Helped.{Lacked}
use Rattle.lower_laws.proofs.Doing.{after}
use Rattle.lower_laws.proofs.Single.{sets}
use Rattle.object_laws.specs.Known.{Known}
use Rattle.object_laws.specs.Done.{Came}
use Rattle.object_laws.specs.Ghost.{Ghost, Grown}
use Rattle.object_laws.specs.Represents.{Represents}
use Rattle.object_laws.specs.Values.{Holds}
use Rattle.object_laws.proofs.Calling.{Returns, back, calls_back}
use Rattle.object_laws.proofs.Held.{call_holds}
use Rattle.object_laws.proofs.Passing.{is_set_at, is_kept_at}

-- ---- calls that do not come back

module _ {p : LlProgram} {args : List (List ℕ)} {e : LlExit} {frames : List Frame} {core : Core} {into : Option ℕ} {f : ℕ} {xs : List COperand} {values : List Value} (same : operands core.vars xs ≡ values) (set : any_unset values ≡ false) where
  enters : (ops : List LlOp) → Leads p args 0 (At (op.Call into f xs ∷ ops) e frames core) [] (Calling f values (waiting core into ops e ∷ frames) core)
  enters ops = one (ap (λ vs. cond (any_unset vs) (Sticks IsUnset) (Goes (Calling f vs (waiting core into ops e ∷ frames) core))) same ∙ ap (λ b. cond b (Sticks IsUnset) (Goes (Calling f values (waiting core into ops e ∷ frames) core))) set) refl

  pub call_fails : {name : FailName} (ops : List LlOp) → ((waits : List Frame) → FailedAs p args (Calling f values waits core) name) → FailedAs p args (At (op.Call into f xs ∷ ops) e frames core) name
  call_fails ops ends = let it = ends (waiting core into ops e ∷ frames) in record { last = it.last; leads = on (enters ops) it.leads; ends = it.ends }

  pub call_lacks : (ops : List LlOp) → ((waits : List Frame) → CallLacked p args (Calling f values waits core) core) → Lacked p args (At (op.Call into f xs ∷ ops) e frames core) core
  call_lacks ops ends =
      let frame : Frame = waiting core into ops e in
      let it = ends (frame ∷ frames) in
      record {
        last = it.last;
        leads = on (enters ops) it.leads;
        ends = it.ends;
        blocks = it.blocks;
        holds = λ placed b h. call_holds p ops e frames core into f xs placed b (subst (λ vs. 0 < times b (roots p (Calling f vs (frame ∷ frames) core))) (sym same) (it.holds b h));
      }

-- ---- a call that comes back

module _ (known : Known) (around : Around) (place : Place) (p : LlProgram) (arguments : List (List ℕ)) (rest : List LlOp) (e : LlExit) (frames : List Frame) (core : Core) (g ghost : Ghost) (below : ℕ) (world : World) (heap : Heap) (left : ℕ) (blocks : List (Option Block)) (statics : List Block) where
  -- without a result; the place takes what is there
  pub nothing_given : {f : ℕ} {xs : List COperand} {values : List Value} {z : COperand} (many most : ℕ) (value : Value) (v : Meant) → many ≤ most → operands core.vars xs ≡ values → any_unset values ≡ false → place.variable < length core.vars
      → Grown g ghost → Represents around.layout known ghost heap left blocks statics → length blocks ≤ length core.blocks + 2
      → ((waits : List Frame) → Returns p arguments many (Calling f values waits core) Unset waits (record core { blocks = blocks; statics = statics; steps = left }))
      → operand core.vars z ≡ value → is_unset value ≡ false → Holds around.layout known ghost place.element value v
      → Came 2 known around place p arguments (At (op.Call None f xs ∷ op.Set place.variable z ∷ rest) e frames core) rest e frames core g most below world v (record world { heap = heap; left = left })
  nothing_given {f = f} {xs = xs} {z = z} many most value v fits same set inside grown stands few returns z_is value_set held =
      let mid : Core = back core (record core { blocks = blocks; statics = statics; steps = left }) None Unset in
      let way : Leads p arguments many (At (op.Call None f xs ∷ op.Set place.variable z ∷ rest) e frames core) [] (At (op.Set place.variable z ∷ rest) e frames mid) = calls_back many same set returns in
      let way2 : Leads p arguments 0 (At (op.Set place.variable z ∷ rest) e frames mid) [] (At rest e frames (after mid place.variable value)) = sets value z_is value_set in
      record {
        end = after mid place.variable value;
        text = [];
        leads = leads_more (many + 0) most (omega (arith, fits)) (leads_then way way2);
        ghost = ghost;
        grown = grown;
        stands = stands;
        holds = subst (λ x. Holds around.layout known ghost place.element x v) (sym (is_set_at mid place.variable value inside)) held;
        few = few;
        memory = refl;
        others = λ k under other. is_kept_at mid place.variable k value other;
        room = length-set core.vars place.variable value;
        function = refl;
        block = refl;
        out = sym (append-nil world.out);
      }

  -- with one, which the place takes
  pub result_given : {f m : ℕ} {xs : List COperand} {values : List Value} (many most : ℕ) (value : Value) (v : Meant) → many ≤ most → operands core.vars xs ≡ values → any_unset values ≡ false → place.variable < m → m < length core.vars → below ≤ m
      → Grown g ghost → Represents around.layout known ghost heap left blocks statics → length blocks ≤ length core.blocks + 2
      → ((waits : List Frame) → Returns p arguments many (Calling f values waits core) value waits (record core { blocks = blocks; statics = statics; steps = left }))
      → is_unset value ≡ false → Holds around.layout known ghost place.element value v
      → Came 2 known around place p arguments (At (op.Call (Some m) f xs ∷ op.Set place.variable (Var m) ∷ rest) e frames core) rest e frames core g most below world v (record world { heap = heap; left = left })
  result_given {f = f} {m = m} {xs = xs} many most value v fits same set inside room under_m grown stands few returns value_set held =
      let mid : Core = back core (record core { blocks = blocks; statics = statics; steps = left }) (Some m) value in
      let long : length mid.vars ≡ length core.vars = length-set core.vars m value in
      let way : Leads p arguments many (At (op.Call (Some m) f xs ∷ op.Set place.variable (Var m) ∷ rest) e frames core) [] (At (op.Set place.variable (Var m) ∷ rest) e frames mid) = calls_back many same set returns in
      let way2 : Leads p arguments 0 (At (op.Set place.variable (Var m) ∷ rest) e frames mid) [] (At rest e frames (after mid place.variable value)) = sets value (is_set_at core m value room) value_set in
      record {
        end = after mid place.variable value;
        text = [];
        leads = leads_more (many + 0) most (omega (arith, fits)) (leads_then way way2);
        ghost = ghost;
        grown = grown;
        stands = stands;
        holds = subst (λ x. Holds around.layout known ghost place.element x v) (sym (is_set_at mid place.variable value (omega (arith, inside, room, long)))) held;
        few = few;
        memory = refl;
        others = λ k under other. is_kept_at mid place.variable k value other ∙ is_kept_at core m k value (λ q. absurd (omega (arith, under, under_m, q)));
        room = length-set mid.vars place.variable value ∙ long;
        function = refl;
        block = refl;
        out = sym (append-nil world.out);
      }
