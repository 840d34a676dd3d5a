-- Steps of the machine, one operation or exit at a time.
use Rattle.std.proofs.Common.{◌≡◌, ◌<◌, ℕ, suc, ◌+◌, ◌-◌, true, false, ◌||◌, ◌&&◌, List, [], ◌∷◌, ◌++◌, length, map, replicate, Option, Some, None, Ok, Err, refl, sym, ap, ◌∙◌, arith}
use Rattle.std.specs.Prelude.{slice_set, slice_get, slice_index_or, cond, ◌==◌, nat_lt, pos}
use Rattle.csub_tree.specs.State.{Value, Unset, Word, Fun, Flag, Ptr, Block, Core, Event, Freed, Stuck}
use Rattle.csub_tree.specs.Layout.{shape_at, begins_with, place}
use Rattle.csub_tree.specs.Operation.{is_unset, flag_of, binary_of}
use Rattle.csub_tree.specs.Statement as st
use Rattle.csub_tree.specs.Statement.{read, operand, operands, any_unset, block_at, reached, as_struct, on_block, stored, fun_of, same_result, same_types}
use Rattle.csub_tree.specs.declared.stuck.StuckReason.TheVariants.{Kind, Outside, Signature, Unset as IsUnset}
use Rattle.std.proofs.lemmas.Bool.Decides.{nat_tests}
use Rattle.csub_tree.specs.declared.tree.CBinary.{CBinary}
use Rattle.csub_tree.specs.declared.tree.CType.TheVariants as c
use Rattle.ll_code.specs.declared.program.LlType.TheVariants as type
use Rattle.csub_tree.specs.declared.tree.COperand.{COperand}
use Rattle.ll_code.specs.State.{Frame, State, Calling, At, Returning, Goes, Tells, Sticks}
use Rattle.ll_code.specs.Machine.{step, goes_on, shapes_of, waiting, called, called_value, called_as, c_result, param_types, type_or_word, entered, enters, jump, begins, branch, block_in, set_all}
use Rattle.ll_code.specs.Meaning.{run, follow}
use Rattle.ll_code.specs.declared.program.LlType.{LlType}
use Rattle.ll_code.specs.declared.program.LlLink.{LlLink}
use Rattle.ll_code.specs.declared.program.LlOp.{LlOp}
use Rattle.ll_code.specs.declared.program.LlOp.TheVariants as op
use Rattle.ll_code.specs.declared.program.LlExit.{LlExit}
use Rattle.ll_code.specs.declared.program.LlExit.TheVariants as exit
use Rattle.ll_code.specs.declared.program.LlBlock.{LlBlock}
use Rattle.ll_code.specs.declared.program.LlProgram.{LlProgram}
use Rattle.refcount_laws.specs.Graphs.{Stands}
use Rattle.refcount_laws.specs.Runs.{Leads, here}
use Rattle.refcount_laws.proofs.Cells.{map_both, both_again, none_behind}

less_is : (m n : ℕ) → m < n → nat_lt m n ≡ true
less_is m n lt = grind (arith, nat_tests)

same_is : (n : ℕ) → (n == n) ≡ true
same_is n = grind (arith, nat_tests)

module _ (q : LlProgram) (args : List (List ℕ)) where
  pub stays : (s : State) → Leads q args s s
  stays s = record { count = 0; gone = []; by = λ k text events. (let e : k + 0 ≡ k = omega arith in ap (λ j. run q args j s text events) e) ∙ ap (run q args k s text) (sym (none_behind events)) }

  pub one_more : (k : ℕ) (s : State) (text : List ℕ) (events : List Event) → run q args (suc k) s text events ≡ follow (run q args k) text events (step q args s)
  unfolding run
  one_more k s text events = refl

  pub leads_on : {s t u : State} → Leads q args s t → Leads q args t u → Leads q args s u
  leads_on {s = s} {t = t} {u = u} x y = record {
    count = y.count + x.count;
    gone = x.gone ++ y.gone;
    by = λ k text events.
        (let e : k + (y.count + x.count) ≡ k + y.count + x.count = omega arith in ap (λ j. run q args j s text events) e)
        ∙ x.by (k + y.count) text events
        ∙ y.by k text (events ++ map Freed x.gone)
        ∙ ap (run q args k u text) (both_again events (map Freed x.gone) (map Freed y.gone) ∙ ap (λ l. events ++ l) (sym (map_both Freed x.gone y.gone)));
  }

  pub goes : (s t : State) → step q args s ≡ Goes t → Leads q args s t
  goes s t e = record {
    count = 1;
    gone = [];
    by = λ k text events.
        (let f : k + 1 ≡ suc k = omega arith in ap (λ j. run q args j s text events) f) ∙ one_more k s text events ∙ ap (follow (run q args k) text events) e ∙ ap (run q args k t text) (sym (none_behind events));
  }

  pub on_count : {s t u : State} (x : Leads q args s t) (y : Leads q args t u) → (leads_on x y).count ≡ y.count + x.count
  unfolding leads_on
  on_count x y = refl

  pub goes_count : (s t : State) (e : step q args s ≡ Goes t) → (goes s t e).count ≡ 1
  unfolding goes
  goes_count s t e = refl

  pub frees : (s t : State) (number : ℕ) → step q args s ≡ Tells (Freed number) t → Leads q args s t
  frees s t number e = record {
    count = 1;
    gone = number ∷ [];
    by = λ k text events. (let f : k + 1 ≡ suc k = omega arith in ap (λ j. run q args j s text events) f) ∙ one_more k s text events ∙ ap (follow (run q args k) text events) e;
  }

  -- ---- operations

  pub reached_ok : (core : Core) (n : ℕ) (pointer : Value) (block : Block) → is_unset pointer ≡ false → block_at core pointer ≡ Some block → begins_with (shapes_of q.structs) block.kind n ≡ true
      → reached core (shapes_of q.structs) n pointer ≡ Ok block
  reached_ok core n pointer block set found of =
      ap (λ b. cond b (Err IsUnset) (as_struct (shapes_of q.structs) n (block_at core pointer))) set ∙ ap (as_struct (shapes_of q.structs) n) found ∙ ap (λ b. cond b (Ok block) (Err Kind)) of

  pub any_set : (v : Value) → is_unset v ≡ false → any_unset (v ∷ []) ≡ false
  any_set v e = ap (λ b. b || false) e

  module _ (core : Core) (f b : ℕ) (ex : LlExit) (frames : List Frame) where
    abbrev pub at_ : List LlOp → ℕ → List Value → List (Option Block) → List Block → State
    at_ ops at vars h s = At ops ex frames (here core f b at vars h s)

    pub get_step : (a n w k at : ℕ) (ops : List LlOp) (vars : List Value) (h : List (Option Block)) (s : List Block) (pointer x : Value) (block : Block) → read vars w ≡ pointer → is_unset pointer ≡ false
        → block_at (here core f b at vars h s) pointer ≡ Some block → begins_with (shapes_of q.structs) block.kind n ≡ true → read block.fields (place (shape_at (shapes_of q.structs) n) k) ≡ x → is_unset x ≡ false
        → Leads q args (at_ (op.GetField a n w k ∷ ops) at vars h s) (at_ ops (at + 1) (slice_set vars a x) h s)
    get_step a n w k at ops vars h s pointer x block is set found of got x_set =
        goes (at_ (op.GetField a n w k ∷ ops) at vars h s) (at_ ops (at + 1) (slice_set vars a x) h s)
        (ap (λ p. goes_on (At ops ex frames) (st.get_field (here core f b at vars h s) (shapes_of q.structs) a n p k)) is
        ∙ ap (λ r. goes_on (At ops ex frames) (on_block (λ block. st.set (here core f b at vars h s) a (read block.fields (place (shape_at (shapes_of q.structs) n) k))) r)) (reached_ok (here core f b at vars h s) n pointer block set found of)
        ∙ ap (λ y. goes_on (At ops ex frames) (st.set (here core f b at vars h s) a y)) got
        ∙ ap (λ u. goes_on (At ops ex frames) (cond u (Stuck IsUnset) (st.assigned (here core f b at vars h s) a x))) x_set)

    pub put_step : (n w k at : ℕ) (x : COperand) (ops : List LlOp) (vars : List Value) (h : List (Option Block)) (s : List Block) (pointer value : Value) (block : Block) (to : State) → read vars w ≡ pointer → is_unset pointer ≡ false
        → operand vars x ≡ value → is_unset value ≡ false
        → block_at (here core f b at vars h s) pointer ≡ Some block → begins_with (shapes_of q.structs) block.kind n ≡ true
        → goes_on (At ops ex frames) (stored (here core f b at vars h s) pointer (record block { fields = slice_set block.fields (place (shape_at (shapes_of q.structs) n) k) value })) ≡ Goes to
        → Leads q args (at_ (op.SetField n w k x ∷ ops) at vars h s) to
    put_step n w k at x ops vars h s pointer value block to is set value_is value_set found of e =
        goes (at_ (op.SetField n w k x ∷ ops) at vars h s) to
        (ap (λ p. goes_on (At ops ex frames) (st.set_field (here core f b at vars h s) (shapes_of q.structs) n p k (operand vars x))) is
        ∙ ap (λ v. goes_on (At ops ex frames) (st.set_field (here core f b at vars h s) (shapes_of q.structs) n pointer k v)) value_is
        ∙ ap (λ u. goes_on (At ops ex frames) (cond u (Stuck IsUnset) (on_block (λ block. stored (here core f b at vars h s) pointer (record block { fields = slice_set block.fields (place (shape_at (shapes_of q.structs) n) k) value })) (reached (here core f b at vars h s) (shapes_of q.structs) n pointer)))) value_set
        ∙ ap (λ r. goes_on (At ops ex frames) (on_block (λ block. stored (here core f b at vars h s) pointer (record block { fields = slice_set block.fields (place (shape_at (shapes_of q.structs) n) k) value })) r)) (reached_ok (here core f b at vars h s) n pointer block set found of)
        ∙ e)

    pub binary_step : (a at : ℕ) (o : CBinary) (x y : COperand) (ops : List LlOp) (vars : List Value) (h : List (Option Block)) (s : List Block) (value : Value) → binary_of o (operand vars x) (operand vars y) ≡ Ok value
        → Leads q args (at_ (op.Binary a o x y ∷ ops) at vars h s) (at_ ops (at + 1) (slice_set vars a value) h s)
    binary_step a at o x y ops vars h s value e =
        goes (at_ (op.Binary a o x y ∷ ops) at vars h s) (at_ ops (at + 1) (slice_set vars a value) h s) (ap (λ r. goes_on (At ops ex frames) (st.answered (here core f b at vars h s) a r)) e)

    pub free_step : (w at number : ℕ) (ops : List LlOp) (vars : List Value) (h : List (Option Block)) (s : List Block) (block : Block) → read vars w ≡ Ptr number → slice_index_or h number None ≡ Some block
        → Leads q args (at_ (op.Free w ∷ ops) at vars h s) (at_ ops (at + 1) vars (slice_set h number None) s)
    free_step w at number ops vars h s block is found =
        frees (at_ (op.Free w ∷ ops) at vars h s) (at_ ops (at + 1) vars (slice_set h number None) s) number
        (ap (λ p. goes_on (At ops ex frames) (st.free (here core f b at vars h s) p)) is ∙ ap (λ o. goes_on (At ops ex frames) (st.free_block (here core f b at vars h s) number o)) found)

    pub item_step : (a n w at i : ℕ) (x : COperand) (ops : List LlOp) (vars : List Value) (h : List (Option Block)) (s : List Block) (pointer v : Value) (block : Block) → read vars w ≡ pointer → is_unset pointer ≡ false
        → operand vars x ≡ Word (pos i) → i < length block.items
        → block_at (here core f b at vars h s) pointer ≡ Some block → begins_with (shapes_of q.structs) block.kind n ≡ true → read block.items i ≡ v → is_unset v ≡ false
        → Leads q args (at_ (op.GetItem a n w x ∷ ops) at vars h s) (at_ ops (at + 1) (slice_set vars a v) h s)
    item_step a n w at i x ops vars h s pointer v block is set index inside found of got v_set =
        goes (at_ (op.GetItem a n w x ∷ ops) at vars h s) (at_ ops (at + 1) (slice_set vars a v) h s)
        (ap (λ p. goes_on (At ops ex frames) (st.get_item (here core f b at vars h s) (shapes_of q.structs) a n p (operand vars x))) is
        ∙ ap (λ y. goes_on (At ops ex frames) (st.get_item (here core f b at vars h s) (shapes_of q.structs) a n pointer y)) index
        ∙ ap (λ r. goes_on (At ops ex frames) (on_block (λ block. st.item (here core f b at vars h s) a block.items (pos i)) r)) (reached_ok (here core f b at vars h s) n pointer block set found of)
        ∙ ap (λ u. goes_on (At ops ex frames) (cond u (st.set (here core f b at vars h s) a (read block.items i)) (Stuck Outside))) (less_is i (length block.items) inside)
        ∙ ap (λ y. goes_on (At ops ex frames) (st.set (here core f b at vars h s) a y)) got
        ∙ ap (λ u. goes_on (At ops ex frames) (cond u (Stuck IsUnset) (st.assigned (here core f b at vars h s) a v))) v_set)

    -- ---- calls

    abbrev pub wait : ℕ → List Value → List LlOp → Frame
    wait at vars ops = record { graph = f; block = b; at = at + 1; vars = vars; into = None; ops = ops; exit = ex }

    -- a graph of one parameter is called
    pub call_step : (g at : ℕ) (x : COperand) (ops : List LlOp) (vars : List Value) (h : List (Option Block)) (s : List Block) (v : Value) (types : List LlType) (blocks : List LlBlock) (first : LlBlock) → operand vars x ≡ v → is_unset v ≡ false
        → Stands q g types blocks → slice_get blocks 0 ≡ Some first
        → Leads q args (at_ (op.Call None g (x ∷ []) ∷ ops) at vars h s) (At first.ops first.exit (wait at vars ops ∷ frames) (here core g 0 0 (v ∷ replicate (length types - 1) Unset) h s))
    call_step g at x ops vars h s v types blocks first is set stands one =
        let calling : State = Calling g (v ∷ []) (wait at vars ops ∷ frames) (here core f b at vars h s) in
        let target : State = At first.ops first.exit (wait at vars ops ∷ frames) (here core g 0 0 (v ∷ replicate (length types - 1) Unset) h s) in
        leads_on {t = calling}
        (goes (at_ (op.Call None g (x ∷ []) ∷ ops) at vars h s) calling
        (ap (λ v. called g (v ∷ []) (waiting (here core f b at vars h s) None ops ex ∷ frames) (here core f b at vars h s)) is ∙ ap (λ u. cond u (Sticks IsUnset) (Goes calling)) (any_set v set)))
        (goes calling target
        (ap (entered g (v ∷ []) (wait at vars ops ∷ frames) (here core f b at vars h s)) stands.there
        ∙ ap (λ l. enters g (v ∷ []) (wait at vars ops ∷ frames) (here core f b at vars h s) stands.graph (slice_get l 0)) stands.laid
        ∙ ap (enters g (v ∷ []) (wait at vars ops ∷ frames) (here core f b at vars h s) stands.graph) one
        ∙ ap (λ n. Goes (At first.ops first.exit (wait at vars ops ∷ frames) (here core g 0 0 (v ∷ replicate (n - length stands.graph.params) Unset) h s))) (ap length stands.typed)
        ∙ ap (λ l. Goes (At first.ops first.exit (wait at vars ops ∷ frames) (here core g 0 0 (v ∷ replicate (length types - length l) Unset) h s))) stands.params))

    -- a graph is called by a function value
    pub call_fn_step : (w g at to : ℕ) (x : COperand) (ops : List LlOp) (vars : List Value) (h : List (Option Block)) (s : List Block) (v : Value) (types : List LlType) (blocks : List LlBlock) (first : LlBlock) → read vars w ≡ Fun g
        → operand vars x ≡ v → is_unset v ≡ false → Stands q g (type.Ptr to ∷ types) blocks → slice_get blocks 0 ≡ Some first
        → Leads q args (at_ (op.CallFn None type.Void (type.Ptr to ∷ []) w (x ∷ []) ∷ ops) at vars h s) (At first.ops first.exit (wait at vars ops ∷ frames) (here core g 0 0 (v ∷ replicate (length types) Unset) h s))
    call_fn_step w g at to x ops vars h s v types blocks first fun is set stands one =
        let calling : State = Calling g (v ∷ []) (wait at vars ops ∷ frames) (here core f b at vars h s) in
        let target : State = At first.ops first.exit (wait at vars ops ∷ frames) (here core g 0 0 (v ∷ replicate (length types) Unset) h s) in
        let size : length (type.Ptr to ∷ types) - 1 ≡ length types = omega arith in
        leads_on {t = calling}
        (goes (at_ (op.CallFn None type.Void (type.Ptr to ∷ []) w (x ∷ []) ∷ ops) at vars h s) calling
        (ap (λ y. cond (is_unset y || any_unset (operands vars (x ∷ []))) (Sticks IsUnset) (called_value q None (c.Ptr to ∷ []) (fun_of y) (operands vars (x ∷ [])) (wait at vars ops ∷ frames) (here core f b at vars h s))) fun
        ∙ ap (λ y. cond (any_unset (y ∷ [])) (Sticks IsUnset) (called_value q None (c.Ptr to ∷ []) (Some g) (y ∷ []) (wait at vars ops ∷ frames) (here core f b at vars h s))) is
        ∙ ap (λ u. cond u (Sticks IsUnset) (called_value q None (c.Ptr to ∷ []) (Some g) (v ∷ []) (wait at vars ops ∷ frames) (here core f b at vars h s))) (any_set v set)
        ∙ ap (λ o. called_as None (c.Ptr to ∷ []) g (v ∷ []) (wait at vars ops ∷ frames) (here core f b at vars h s) o) stands.there
        ∙ ap (λ t. cond (same_result (c_result t) None && same_types (param_types stands.graph) (c.Ptr to ∷ [])) (Goes calling) (Sticks Signature)) stands.result
        ∙ ap (λ l. cond (same_types (map (λ v. type_or_word (slice_get stands.graph.types v)) l) (c.Ptr to ∷ [])) (Goes calling) (Sticks Signature)) stands.params
        ∙ ap (λ l. cond (same_types (type_or_word (slice_get l 0) ∷ []) (c.Ptr to ∷ [])) (Goes calling) (Sticks Signature)) stands.typed
        ∙ ap (λ u. cond (u && true) (Goes calling) (Sticks Signature)) (same_is to)))
        (goes calling target
        (ap (entered g (v ∷ []) (wait at vars ops ∷ frames) (here core f b at vars h s)) stands.there
        ∙ ap (λ l. enters g (v ∷ []) (wait at vars ops ∷ frames) (here core f b at vars h s) stands.graph (slice_get l 0)) stands.laid
        ∙ ap (enters g (v ∷ []) (wait at vars ops ∷ frames) (here core f b at vars h s) stands.graph) one
        ∙ ap (λ n. Goes (At first.ops first.exit (wait at vars ops ∷ frames) (here core g 0 0 (v ∷ replicate (n - length stands.graph.params) Unset) h s))) (ap length stands.typed)
        ∙ ap (λ l. Goes (At first.ops first.exit (wait at vars ops ∷ frames) (here core g 0 0 (v ∷ replicate (length (type.Ptr to ∷ types) - length l) Unset) h s))) stands.params
        ∙ ap (λ n. Goes (At first.ops first.exit (wait at vars ops ∷ frames) (here core g 0 0 (v ∷ replicate n Unset) h s))) size))

    -- and gives nothing
    pub return_step : (g c at to : ℕ) (ops : List LlOp) (vars inner : List Value) (h : List (Option Block)) (s : List Block)
        → Leads q args (At [] (exit.Return None) (wait at vars ops ∷ frames) (here core g c to inner h s)) (at_ ops (at + 1) vars h s)
    return_step g c at to ops vars inner h s =
        let returning : State = Returning Unset (wait at vars ops ∷ frames) (here core g c to inner h s) in
        leads_on {t = returning} (goes (At [] (exit.Return None) (wait at vars ops ∷ frames) (here core g c to inner h s)) returning refl) (goes returning (at_ ops (at + 1) vars h s) refl)

  -- ---- jumps

  module _ (core : Core) (f b : ℕ) (frames : List Frame) where
    pub jump_goes : (at : ℕ) (link : LlLink) (vars : List Value) (h : List (Option Block)) (s : List Block) (types : List LlType) (blocks : List LlBlock) (block : LlBlock) → Stands q f types blocks → slice_get blocks link.to ≡ Some block
        → any_unset (operands vars link.args) ≡ false
        → jump q frames (here core f b at vars h s) link ≡ Goes (At block.ops block.exit frames (here core f link.to 0 (set_all vars block.inputs (operands vars link.args)) h s))
    jump_goes at link vars h s types blocks block stands one set =
        ap (λ u. cond u (Sticks IsUnset) (begins frames (here core f b at vars h s) link.to (operands vars link.args) (block_in (slice_get q.graphs f) link.to))) set
        ∙ ap (λ g. begins frames (here core f b at vars h s) link.to (operands vars link.args) (block_in g link.to)) stands.there
        ∙ ap (λ l. begins frames (here core f b at vars h s) link.to (operands vars link.args) (slice_get l link.to)) stands.laid
        ∙ ap (begins frames (here core f b at vars h s) link.to (operands vars link.args)) one

    abbrev pub at_block : LlBlock → ℕ → List Value → List (Option Block) → List Block → State
    at_block block to vars h s = At block.ops block.exit frames (here core f to 0 vars h s)

    pub goto_step : (at : ℕ) (link : LlLink) (vars vars' : List Value) (h : List (Option Block)) (s : List Block) (types : List LlType) (blocks : List LlBlock) (block : LlBlock) → Stands q f types blocks → slice_get blocks link.to ≡ Some block
        → any_unset (operands vars link.args) ≡ false → set_all vars block.inputs (operands vars link.args) ≡ vars'
        → Leads q args (At [] (exit.Goto link) frames (here core f b at vars h s)) (at_block block link.to vars' h s)
    goto_step at link vars vars' h s types blocks block stands one set is =
        goes (At [] (exit.Goto link) frames (here core f b at vars h s)) (at_block block link.to vars' h s)
        (jump_goes at link vars h s types blocks block stands one set ∙ ap (λ l. Goes (at_block block link.to l h s)) is)

    pub yes_step : (at a : ℕ) (link other : LlLink) (vars vars' : List Value) (h : List (Option Block)) (s : List Block) (types : List LlType) (blocks : List LlBlock) (block : LlBlock) → read vars a ≡ Flag true → Stands q f types blocks
        → slice_get blocks link.to ≡ Some block → any_unset (operands vars link.args) ≡ false → set_all vars block.inputs (operands vars link.args) ≡ vars'
        → Leads q args (At [] (exit.If a link other) frames (here core f b at vars h s)) (at_block block link.to vars' h s)
    yes_step at a link other vars vars' h s types blocks block test stands one set is =
        goes (At [] (exit.If a link other) frames (here core f b at vars h s)) (at_block block link.to vars' h s)
        (ap (λ v. branch q frames (here core f b at vars h s) link other (flag_of v)) test ∙ jump_goes at link vars h s types blocks block stands one set ∙ ap (λ l. Goes (at_block block link.to l h s)) is)

    pub no_step : (at a : ℕ) (other link : LlLink) (vars vars' : List Value) (h : List (Option Block)) (s : List Block) (types : List LlType) (blocks : List LlBlock) (block : LlBlock) → read vars a ≡ Flag false → Stands q f types blocks
        → slice_get blocks link.to ≡ Some block → any_unset (operands vars link.args) ≡ false → set_all vars block.inputs (operands vars link.args) ≡ vars'
        → Leads q args (At [] (exit.If a other link) frames (here core f b at vars h s)) (at_block block link.to vars' h s)
    no_step at a other link vars vars' h s types blocks block test stands one set is =
        goes (At [] (exit.If a other link) frames (here core f b at vars h s)) (at_block block link.to vars' h s)
        (ap (λ v. branch q frames (here core f b at vars h s) other link (flag_of v)) test ∙ jump_goes at link vars h s types blocks block stands one set ∙ ap (λ l. Goes (at_block block link.to l h s)) is)
