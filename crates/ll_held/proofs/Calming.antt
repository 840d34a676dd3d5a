-- A quiet step holds no more.
use Rattle.std.proofs.Common.{◌≡◌, ◌<◌, ◌≤◌, ℕ, suc, ◌+◌, Bool, true, false, ◌&&◌, ◌||◌, ◌==◌, List, [], ◌∷◌, ◌++◌, length, Option, Some, None, Result, Ok, Err, refl, sym, ap, ◌∙◌, subst, arith, ◌⊎◌, inl, inr, ℤ, append_assoc}
use Rattle.std.specs.Prelude.{not}
use Rattle.std.specs.Prelude.{slice_get, slice_set, cond, if◌then◌else◌}
use Rattle.rpy_base.specs.declared.outcome.FailName.{FailName}
use Rattle.rpy_base.specs.declared.outcome.Outcome.TheVariants.{Returned}
use Rattle.csub_tree.specs.State.{Value, Unset, Null, Ptr, Static, Block, Core, Onward, Over, Stuck}
use Rattle.csub_tree.specs.Layout.{Shape, shape_at, place, begins_with}
use Rattle.csub_tree.specs.Operation.{Answer, is_unset, word_of, binary_of, flag_of}
use Rattle.csub_tree.specs.Statement as st
use Rattle.csub_tree.specs.Statement.{read, operand, operands, any_unset, block_at, as_struct, reached, on_block, taken_by, fail_name_of}
use Rattle.csub_tree.specs.Checked.{gives_bool}
use Rattle.csub_tree.specs.declared.stuck.StuckReason.{StuckReason}
use Rattle.csub_tree.specs.declared.stuck.StuckReason.TheVariants.{Unset as IsUnset, Kind as WrongKind}
use Rattle.csub_tree.specs.declared.tree.CType.{CType}
use Rattle.csub_tree.specs.declared.tree.CType.TheVariants as c
use Rattle.csub_tree.specs.declared.tree.CBinary.{CBinary}
use Rattle.csub_tree.specs.declared.tree.COperand.{COperand}
use Rattle.ll_code.specs.State.{Frame, State, Calling, At, Returning, Throwing, Goes, Sticks}
use Rattle.ll_code.specs.Machine.{step, goes_on, shapes_of, jump, begins, branch, block_in, set_all, given, leaves, returned, resumed, type_in}
use Rattle.ll_code.specs.Typed.{all_given, enters, link_ok, exit_ok, binary_gives}
use Rattle.ll_code.specs.declared.program.LlType.{LlType}
use Rattle.ll_code.specs.declared.program.LlType.TheVariants as type
use Rattle.ll_code.specs.declared.program.LlLink.{LlLink}
use Rattle.ll_code.specs.declared.program.LlOp.{LlOp}
use Rattle.ll_code.specs.declared.program.LlOp.TheVariants as op
use Rattle.ll_code.specs.declared.program.LlExit.{LlExit}
use Rattle.ll_code.specs.declared.program.LlExit.TheVariants as exit
use Rattle.ll_code.specs.declared.program.LlBlock.{LlBlock}
use Rattle.ll_code.specs.declared.program.LlGraph.{LlGraph}
use Rattle.ll_code.specs.declared.program.LlProgram.{LlProgram}
use Rattle.ll_laws.specs.Fits.{AnswerFits}
use Rattle.ll_laws.specs.States.{StateFits}
use Rattle.ll_laws.proofs.Values.{and_left, and_right, is_same, binary_fits}
use Rattle.ll_live.specs.Live.{among, variables_of, variables_in, reads, set_by, sets, live}
use Rattle.ll_held.specs.Roots.{kept, waits_for, waiting_roots, slots, roots, core_of}
use Rattle.ll_held.specs.Held.{times, references, cells, Held, Root, From}
use Rattle.ll_held.specs.Quiet.{is_quiet_operation, is_quiet, ReadsInputs, StaticsAreApart, frames_of, Near}
use Rattle.ll_held.proofs.Keeping.{or_left, or_right, same_number, references_append, in_parts, in_first, in_second, at_head, head_in, tail_in, read_in, used_from, used_to, operand_from, operands_from, set_read, set_all_read, held_on}
use Rattle.ll_live.proofs.Appended.{among_append}

-- ---- states that hold no more

pub near_self : (p : LlProgram) (s : State) → Near p s s
near_self p s = record { blocks = refl; statics = refl; held = λ b h. Root {b = b} h; waiting = omega arith }

pub near_then : (p : LlProgram) (s t u : State) → Near p s t → Near p t u → Near p s u
near_then p s t u m n = record {
  blocks = n.blocks ∙ m.blocks;
  statics = n.statics ∙ m.statics;
  held = λ b h. held_on (core_of s).blocks (roots p t) (roots p s) m.held b (subst (λ blocks. Held blocks (roots p t) b) m.blocks (n.held b h));
  waiting = (let a : references (waiting_roots p (frames_of t)) ≤ references (waiting_roots p (frames_of s)) = m.waiting in let b : references (waiting_roots p (frames_of u)) ≤ references (waiting_roots p (frames_of t)) = n.waiting in omega (arith, a, b));
}

-- ---- what a field of a block that is held names

-- a block that is reached is there
pub reached_there : (core : Core) (shapes : List Shape) (n : ℕ) (value : Value) (block : Block) → reached core shapes n value ≡ Ok block → block_at core value ≡ Some block
reached_there core shapes n value block = there (is_unset value)
  where
    seen : (o : Option Block) → block_at core value ≡ o → as_struct shapes n o ≡ Ok block → block_at core value ≡ Some block
    seen None at f = absurd (cc)
    seen (Some other) at f = one (begins_with shapes other.kind n) f
      where
        one : (b : Bool) → cond b (Ok other) (Err WrongKind) ≡ Ok block → block_at core value ≡ Some block
        one true i = let j : other ≡ block = cc in at ∙ ap Some j
        one false i = absurd (cc)

    there : (b : Bool) → cond b (Err IsUnset) (as_struct shapes n (block_at core value)) ≡ Ok block → block_at core value ≡ Some block
    there true i = absurd (cc)
    there false i = seen (block_at core value) refl i

pub field_held : (core : Core) (holds : List Value) (value : Value) (block : Block) → StaticsAreApart core → block_at core value ≡ Some block → ((m : ℕ) → value ≡ Ptr m → Held core.blocks holds m) → (b j : ℕ) → read block.fields j ≡ Ptr b → Held core.blocks holds b
field_held core holds (Ptr m) block apart at h b j r = From (h m refl) (subst (λ (o : Option Block). 0 < times b (cells o)) (sym at) (in_first b block.fields block.items (read_in b block.fields j r)))
field_held core holds (Static g) block apart at h b j r = absurd (let z : times b block.fields ≡ 0 = apart g block at b in let y : 0 < times b block.fields = read_in b block.fields j r in omega (arith, z, y))
field_held core holds other block apart at h b j r = absurd (cc)

-- each input is given one operand
given_count : (p : LlProgram) (vars others : List LlType) (vs : List ℕ) (xs : List COperand) → all_given p vars others vs xs ≡ true → length vs ≡ length xs
given_count p vars others [] [] h = refl
given_count p vars others (v ∷ vs) (x ∷ xs) h = ap suc (given_count p vars others vs xs (and_right _ _ h))
given_count p vars others [] (x ∷ xs) h = absurd (cc)
given_count p vars others (v ∷ vs) [] h = absurd (cc)

length_operands : (vars : List Value) (xs : List COperand) → length (operands vars xs) ≡ length xs
length_operands vars [] = refl
length_operands vars (x ∷ xs) = ap suc (length_operands vars xs)

-- the roots, part by part
roots_at : (q : LlProgram) (ops : List LlOp) (e : LlExit) (frames : List Frame) (core : Core) → roots q (At ops e frames core) ≡ kept (live ops e) 0 core.vars ++ (slots core ++ waiting_roots q frames)
roots_at q ops e frames core = append_assoc (kept (live ops e) 0 core.vars) (slots core) (waiting_roots q frames)

root_at : (q : LlProgram) (ops : List LlOp) (e : LlExit) (frames : List Frame) (core : Core) (b : ℕ) → 0 < times b (kept (live ops e) 0 core.vars ++ (slots core ++ waiting_roots q frames)) → 0 < times b (roots q (At ops e frames core))
root_at q ops e frames core b h = subst (λ l. 0 < times b l) (sym (roots_at q ops e frames core)) h

at_root : (q : LlProgram) (ops : List LlOp) (e : LlExit) (frames : List Frame) (core : Core) (b : ℕ) → 0 < times b (roots q (At ops e frames core)) → 0 < times b (kept (live ops e) 0 core.vars ++ (slots core ++ waiting_roots q frames))
at_root q ops e frames core b h = subst (λ l. 0 < times b l) (roots_at q ops e frames core) h

module _ (q : LlProgram) (closed : ReadsInputs q) (args : List (List ℕ)) where
  -- ---- a graph that runs

  module _ (left : List LlOp) (e : LlExit) (frames : List Frame) (core : Core) where
    abbrev Here : State
    Here = At left e frames core

    abbrev Kept : ℕ → Type 0
    Kept b = Held core.blocks (roots q Here) b

    in_vars : (v b : ℕ) → live left e v ≡ true → read core.vars v ≡ Ptr b → Kept b
    in_vars v b l r = Root {b = b} (root_at q left e frames core b (in_first b (kept (live left e) 0 core.vars) (slots core ++ waiting_roots q frames) (used_to (live left e) core.vars b v l r)))

    in_slots : (b : ℕ) → 0 < times b (slots core) → Kept b
    in_slots b h = Root {b = b} (root_at q left e frames core b (in_second b (kept (live left e) 0 core.vars) (slots core ++ waiting_roots q frames) (in_first b (slots core) (waiting_roots q frames) h)))

    in_waiting : (b : ℕ) → 0 < times b (waiting_roots q frames) → Kept b
    in_waiting b h = Root {b = b} (root_at q left e frames core b (in_second b (kept (live left e) 0 core.vars) (slots core ++ waiting_roots q frames) (in_second b (slots core) (waiting_roots q frames) h)))

    -- the rest of a block runs, over variables and slots that hold no more
    near_at : (ops : List LlOp) (end : LlExit) (next : Core) → next.blocks ≡ core.blocks → next.statics ≡ core.statics → ((v b : ℕ) → live ops end v ≡ true → read next.vars v ≡ Ptr b → Kept b) → ((b : ℕ) → 0 < times b (slots next) → Kept b)
        → Near q Here (At ops end frames next)
    near_at ops end next blocks statics vars slot = record { blocks = blocks; statics = statics; held = held; waiting = omega arith }
      where
        of_vars : (b : ℕ) → (v : ℕ) × (live ops end v ≡ true) × (read next.vars v ≡ Ptr b) → Kept b
        of_vars b (v, l, r) = vars v b l r

        behind : (b : ℕ) → (0 < times b (slots next)) ⊎ (0 < times b (waiting_roots q frames)) → Kept b
        behind b (inl h) = slot b h
        behind b (inr h) = in_waiting b h

        either : (b : ℕ) → (0 < times b (kept (live ops end) 0 next.vars)) ⊎ (0 < times b (slots next ++ waiting_roots q frames)) → Kept b
        either b (inl h) = of_vars b (used_from (live ops end) next.vars b h)
        either b (inr h) = behind b (in_parts b (slots next) (waiting_roots q frames) h)

        held : (b : ℕ) → 0 < times b (roots q (At ops end frames next)) → Kept b
        held b h = either b (in_parts b (kept (live ops end) 0 next.vars) (slots next ++ waiting_roots q frames) (at_root q ops end frames next b h))

    -- a value leaves the graph
    near_out : (value : Value) (state : State) → ((b : ℕ) → value ≡ Ptr b → Kept b) → (state ≡ Returning value frames core) ⊎ (state ≡ Throwing value frames core) → Near q Here state
    near_out value state out (inl e) = subst (Near q Here) (sym e) (record { blocks = refl; statics = refl; held = held; waiting = omega arith })
      where
        behind : (b : ℕ) → (0 < times b (slots core)) ⊎ (0 < times b (waiting_roots q frames)) → Kept b
        behind b (inl h) = in_slots b h
        behind b (inr h) = in_waiting b h

        either : (b : ℕ) → (value ≡ Ptr b) ⊎ (0 < times b (slots core ++ waiting_roots q frames)) → Kept b
        either b (inl h) = out b h
        either b (inr h) = behind b (in_parts b (slots core) (waiting_roots q frames) h)

        held : (b : ℕ) → 0 < times b (value ∷ slots core ++ waiting_roots q frames) → Kept b
        held b h = either b (at_head b value (slots core ++ waiting_roots q frames) h)
    near_out value state out (inr e) = subst (Near q Here) (sym e) (record { blocks = refl; statics = refl; held = held; waiting = omega arith })
      where
        behind : (b : ℕ) → (0 < times b (slots core)) ⊎ (0 < times b (waiting_roots q frames)) → Kept b
        behind b (inl h) = in_slots b h
        behind b (inr h) = in_waiting b h

        either : (b : ℕ) → (value ≡ Ptr b) ⊎ (0 < times b (slots core ++ waiting_roots q frames)) → Kept b
        either b (inl h) = out b h
        either b (inr h) = behind b (in_parts b (slots core) (waiting_roots q frames) h)

        held : (b : ℕ) → 0 < times b (value ∷ slots core ++ waiting_roots q frames) → Kept b
        held b h = either b (at_head b value (slots core ++ waiting_roots q frames) h)

    -- ---- links

    module _ (graph : LlGraph) (of : slice_get q.graphs core.function ≡ Some graph) where
      jump_near : (t : State) (link : LlLink) → ((v : ℕ) → among v (variables_in link.args) ≡ true → live left e v ≡ true) → link_ok q graph link ≡ true → jump q frames core link ≡ Goes t → Near q Here t
      jump_near t link used fine stepped = set (any_unset (operands core.vars link.args)) stepped
        where
          landed : (block : LlBlock) → slice_get graph.blocks link.to ≡ Some block → all_given q graph.types graph.types block.inputs link.args ≡ true → begins frames core link.to (operands core.vars link.args) (Some block) ≡ Goes t → Near q Here t
          landed block at given stepped =
              let same : At block.ops block.exit frames (record core { block = link.to; at = 0; vars = set_all core.vars block.inputs (operands core.vars link.args) }) ≡ t = cc in
              subst (Near q Here) same
              (near_at block.ops block.exit (record core { block = link.to; at = 0; vars = set_all core.vars block.inputs (operands core.vars link.args) }) refl refl
              (λ v b l r. by v b (closed core.function graph of link.to block at v l)
              (set_all_read core.vars block.inputs (operands core.vars link.args) v b (given_count q graph.types graph.types block.inputs link.args given ∙ sym (length_operands core.vars link.args)) r))
              in_slots)
            where
              from : (b : ℕ) → (v : ℕ) × (among v (variables_in link.args) ≡ true) × (read core.vars v ≡ Ptr b) → Kept b
              from b (v, a, r) = in_vars v b (used v a) r

              by : (v b : ℕ) → among v block.inputs ≡ true → (0 < times b (operands core.vars link.args)) ⊎ ((among v block.inputs ≡ false) × (read core.vars v ≡ Ptr b)) → Kept b
              by v b a (inl h) = from b (operands_from core.vars link.args b h)
              by v b a (inr h) = absurd (let f : true ≡ false = sym a ∙ h.0 in cc)

          begun : (o : Option LlBlock) → slice_get graph.blocks link.to ≡ o → enters q graph.types o link.args ≡ true → begins frames core link.to (operands core.vars link.args) o ≡ Goes t → Near q Here t
          begun None at h stepped = absurd (cc)
          begun (Some block) at h stepped = landed block at h stepped

          set : (b : Bool) → cond b (Sticks IsUnset) (begins frames core link.to (operands core.vars link.args) (block_in (slice_get q.graphs core.function) link.to)) ≡ Goes t → Near q Here t
          set true s = absurd (cc)
          set false s = begun (slice_get graph.blocks link.to) refl fine (ap (λ o. begins frames core link.to (operands core.vars link.args) (block_in o link.to)) (sym of) ∙ s)

  -- ---- exits

  module _ (frames : List Frame) (core : Core) (graph : LlGraph) (of : slice_get q.graphs core.function ≡ Some graph) where
    returned_by : (t : State) (value : Value) (e : LlExit) → ((b : ℕ) → value ≡ Ptr b → Held core.blocks (roots q (At [] e frames core)) b) → given value (λ value. Goes (Returning value frames core)) ≡ Goes t → Near q (At [] e frames core) t
    returned_by t value e out stepped = set (is_unset value) stepped
      where
        set : (b : Bool) → cond b (Sticks IsUnset) (Goes (Returning value frames core)) ≡ Goes t → Near q (At [] e frames core) t
        set true s = absurd (cc)
        set false s = let same : t ≡ Returning value frames core = cc in near_out [] e frames core value t out (inl same)

    thrown_by : (t : State) (value : Value) (e : LlExit) → ((b : ℕ) → value ≡ Ptr b → Held core.blocks (roots q (At [] e frames core)) b) → given value (λ value. Goes (Throwing value frames core)) ≡ Goes t → Near q (At [] e frames core) t
    thrown_by t value e out stepped = set (is_unset value) stepped
      where
        set : (b : Bool) → cond b (Sticks IsUnset) (Goes (Throwing value frames core)) ≡ Goes t → Near q (At [] e frames core) t
        set true s = absurd (cc)
        set false s = let same : t ≡ Throwing value frames core = cc in near_out [] e frames core value t out (inr same)

    no_unset : (b : ℕ) → Unset ≡ Ptr b → ⊥
    no_unset b e = absurd (cc)

    left_near : (e : LlExit) (t : State) → exit_ok q graph e ≡ true → leaves q e frames core ≡ Goes t → Near q (At [] e frames core) t
    left_near (exit.Goto link) t h stepped = jump_near [] (exit.Goto link) frames core graph of t link (λ v a. or_left _ _ a) h stepped
    left_near (exit.If a there elsewhere) t h stepped = way (flag_of (read core.vars a)) stepped
      where
        way : (o : Option Bool) → branch q frames core there elsewhere o ≡ Goes t → Near q (At [] (exit.If a there elsewhere) frames core) t
        way None s = absurd (cc)
        way (Some true) s = jump_near [] (exit.If a there elsewhere) frames core graph of t there (λ v k. or_left _ _ (or_right (a == v) _ (among_append v (variables_in there.args) (variables_in elsewhere.args) ∙ or_left _ _ k))) (and_right _ _ (and_left _ _ h)) s
        way (Some false) s = jump_near [] (exit.If a there elsewhere) frames core graph of t elsewhere (λ v k. or_left _ _ (or_right (a == v) _ (among_append v (variables_in there.args) (variables_in elsewhere.args) ∙ or_right _ _ k))) (and_right _ _ h) s
    left_near (exit.OnRaise a by without) t h stepped = jump_near [] (exit.OnRaise a by without) frames core graph of t without (λ v k. or_left _ _ k) (and_right _ _ h) stepped
    left_near (exit.Return None) t h stepped = let same : t ≡ Returning Unset frames core = cc in near_out [] (exit.Return None) frames core Unset t (λ b e. absurd (no_unset b e)) (inl same)
    left_near (exit.Return (Some x)) t h stepped = returned_by t (operand core.vars x) (exit.Return (Some x)) (λ b e. from b (operand_from core.vars x b e)) stepped
      where
        from : (b : ℕ) → (v : ℕ) × (among v (variables_of x) ≡ true) × (read core.vars v ≡ Ptr b) → Held core.blocks (roots q (At [] (exit.Return (Some x)) frames core)) b
        from b (v, a, r) = in_vars [] (exit.Return (Some x)) frames core v b (or_left _ _ a) r
    left_near (exit.Raise a) t h stepped = thrown_by t (read core.vars a) (exit.Raise a) (λ b r. in_vars [] (exit.Raise a) frames core a b (or_left _ _ (or_left (a == a) false (same_number a))) r) stepped
    left_near (exit.Fail number) t h stepped = one (fail_name_of number) stepped
      where
        one : (o : Option FailName) → goes_on (At [] (exit.Fail number) frames) (st.fail core o) ≡ Goes t → Near q (At [] (exit.Fail number) frames core) t
        one None s = absurd (cc)
        one (Some name) s = absurd (cc)
    left_near (exit.Raised a) t h stepped = by (type_in (slice_get q.graphs core.function) a) stepped
      where
        named : (o : Option (List ℕ)) → goes_on (At [] (exit.Raised a) frames) (st.raised_as core o) ≡ Goes t → Near q (At [] (exit.Raised a) frames core) t
        named None s = absurd (cc)
        named (Some name) s = absurd (cc)

        found : (r : Result Block StuckReason) → goes_on (At [] (exit.Raised a) frames) (on_block (λ block. st.raised_as core (st.bytes_of block.items)) r) ≡ Goes t → Near q (At [] (exit.Raised a) frames core) t
        found (Ok block) s = named (st.bytes_of block.items) s
        found (Err reason) s = absurd (cc)

        by : (o : Option CType) → goes_on (At [] (exit.Raised a) frames) (st.raised core (shapes_of q.structs) o (read core.vars a)) ≡ Goes t → Near q (At [] (exit.Raised a) frames core) t
        by (Some (c.Ptr n)) s = found (reached core (shapes_of q.structs) n (read core.vars a)) s
        by None s = absurd (cc)
        by (Some c.Signed) s = absurd (cc)
        by (Some c.Char) s = absurd (cc)
        by (Some c.Bool) s = absurd (cc)
        by (Some c.Fn) s = absurd (cc)

  -- ---- operations

  module _ (o : LlOp) (ops : List LlOp) (e : LlExit) (frames : List Frame) (core : Core) where
    abbrev Start : State
    Start = At (o ∷ ops) e frames core

    -- a variable takes a value that is held
    value_near : (a : ℕ) (value : Value) → set_by o ≡ Some a → ((b : ℕ) → value ≡ Ptr b → Held core.blocks (roots q Start) b) → Near q Start (At ops e frames (record core { at = core.at + 1; vars = slice_set core.vars a value }))
    value_near a value is holds =
        near_at (o ∷ ops) e frames core ops e (record core { at = core.at + 1; vars = slice_set core.vars a value }) refl refl (λ v b l r. by v b l (set_read core.vars a v b value r)) (in_slots (o ∷ ops) e frames core)
      where
        apart : (v : ℕ) → ((a ≡ v) → ⊥) → sets (set_by o) v ≡ false
        apart v ne = ap (λ s. sets s v) is ∙ one (a == v) refl
          where
            one : (c : Bool) → (a == v) ≡ c → c ≡ false
            one true i = absurd (ne (is_same a v i))
            one false i = refl

        by : (v b : ℕ) → live ops e v ≡ true → ((a ≡ v) × (value ≡ Ptr b)) ⊎ (((a ≡ v) → ⊥) × (read core.vars v ≡ Ptr b)) → Held core.blocks (roots q Start) b
        by v b l (inl k) = holds b k.1
        by v b l (inr k) = in_vars (o ∷ ops) e frames core v b (or_right (among v (reads o)) _ (ap (λ s. not s && live ops e v) (apart v k.0) ∙ l)) k.1

    set_near : (a : ℕ) (value : Value) (t : State) → set_by o ≡ Some a → ((b : ℕ) → value ≡ Ptr b → Held core.blocks (roots q Start) b) → goes_on (At ops e frames) (st.set core a value) ≡ Goes t → Near q Start t
    set_near a value t is holds stepped = one (is_unset value) stepped
      where
        one : (b : Bool) → goes_on (At ops e frames) (cond b (Stuck IsUnset) (st.assigned core a value)) ≡ Goes t → Near q Start t
        one true s = absurd (cc)
        one false s = let same : At ops e frames (record core { at = core.at + 1; vars = slice_set core.vars a value }) ≡ t = cc in subst (Near q Start) same (value_near a value is holds)

    assigned_near : (a : ℕ) (value : Value) (t : State) → set_by o ≡ Some a → ((b : ℕ) → value ≡ Ptr b → Held core.blocks (roots q Start) b) → goes_on (At ops e frames) (st.assigned core a value) ≡ Goes t → Near q Start t
    assigned_near a value t is holds s = let same : At ops e frames (record core { at = core.at + 1; vars = slice_set core.vars a value }) ≡ t = cc in subst (Near q Start) same (value_near a value is holds)

    -- the slots take what is held
    slots_near : (kind value : Value) (t : State) → set_by o ≡ None → ((b : ℕ) → kind ≡ Ptr b → Held core.blocks (roots q Start) b) → ((b : ℕ) → value ≡ Ptr b → Held core.blocks (roots q Start) b)
        → Near q Start (At ops e frames (record core { at = core.at + 1; exc_type = kind; exc_value = value }))
    slots_near kind value t is first second =
        near_at (o ∷ ops) e frames core ops e (record core { at = core.at + 1; exc_type = kind; exc_value = value }) refl refl
        (λ v b l r. in_vars (o ∷ ops) e frames core v b (or_right (among v (reads o)) _ (ap (λ s. not (sets s v) && live ops e v) is ∙ l)) r) (λ b h. by b (at_head b kind (value ∷ []) h))
      where
        last : (b : ℕ) → (value ≡ Ptr b) ⊎ (0 < times b []) → Held core.blocks (roots q Start) b
        last b (inl h) = second b h
        last b (inr h) = absurd (omega (arith, h))

        by : (b : ℕ) → (kind ≡ Ptr b) ⊎ (0 < times b (value ∷ [])) → Held core.blocks (roots q Start) b
        by b (inl h) = first b h
        by b (inr h) = last b (at_head b value [] h)

    is_read : (v : ℕ) → among v (reads o) ≡ true → (b : ℕ) → read core.vars v ≡ Ptr b → Held core.blocks (roots q Start) b
    is_read v h b r = in_vars (o ∷ ops) e frames core v b (or_left (among v (reads o)) _ h) r

  got_near : (a n v k : ℕ) (ops : List LlOp) (e : LlExit) (frames : List Frame) (core : Core) (t : State) → StaticsAreApart core → goes_on (At ops e frames) (st.get_field core (shapes_of q.structs) a n (read core.vars v) k) ≡ Goes t
      → Near q (At (op.GetField a n v k ∷ ops) e frames core) t
  got_near a n v k ops e frames core t apart stepped = found (reached core (shapes_of q.structs) n (read core.vars v)) refl stepped
    where
      found : (r : Result Block StuckReason) → reached core (shapes_of q.structs) n (read core.vars v) ≡ r → goes_on (At ops e frames) (on_block (λ block. st.set core a (read block.fields (place (shape_at (shapes_of q.structs) n) k))) r) ≡ Goes t
          → Near q (At (op.GetField a n v k ∷ ops) e frames core) t
      found (Ok block) i s =
          set_near (op.GetField a n v k) ops e frames core a (read block.fields (place (shape_at (shapes_of q.structs) n) k)) t refl
          (λ b r. field_held core (roots q (At (op.GetField a n v k ∷ ops) e frames core)) (read core.vars v) block apart (reached_there core (shapes_of q.structs) n (read core.vars v) block i)
          (λ m is. is_read (op.GetField a n v k) ops e frames core v (or_left (v == v) false (same_number v)) m is) b (place (shape_at (shapes_of q.structs) n) k) r) s
      found (Err reason) i s = absurd (cc)

  answer_near : (a : ℕ) (o : CBinary) (x y : COperand) (ops : List LlOp) (e : LlExit) (frames : List Frame) (core : Core) (t : State) → goes_on (At ops e frames) (st.answered core a (binary_of o (operand core.vars x) (operand core.vars y))) ≡ Goes t → Near q (At (op.Binary a o x y ∷ ops) e frames core) t
  answer_near a o x y ops e frames core t stepped = by (binary_of o (operand core.vars x) (operand core.vars y)) (binary_fits q 0 o (operand core.vars x) (operand core.vars y)) stepped
    where
      no : (b : Bool) (k : ℕ) → Rattle.ll_laws.specs.Fits.Fits q 0 (if b then type.Bool else type.Signed) (Ptr k) → ⊥
      no true k h = h
      no false k h = h

      by : (answer : Answer) → AnswerFits q 0 (binary_gives o) answer → goes_on (At ops e frames) (st.answered core a answer) ≡ Goes t → Near q (At (op.Binary a o x y ∷ ops) e frames core) t
      by (Ok value) fits s = assigned_near (op.Binary a o x y) ops e frames core a value t refl (λ b i. absurd (no (gives_bool o) b (subst (Rattle.ll_laws.specs.Fits.Fits q 0 (binary_gives o)) i fits))) s
      by (Err reason) fits s = absurd (cc)

  op_near : (o : LlOp) (ops : List LlOp) (e : LlExit) (frames : List Frame) (core : Core) (t : State) → StaticsAreApart core → is_quiet_operation o ≡ true → step q args (At (o ∷ ops) e frames core) ≡ Goes t → Near q (At (o ∷ ops) e frames core) t
  op_near (op.Set a x) ops e frames core t apart quiet s = set_near (op.Set a x) ops e frames core a (operand core.vars x) t refl (λ b i. from b (operand_from core.vars x b i)) s
    where
      from : (b : ℕ) → (v : ℕ) × (among v (variables_of x) ≡ true) × (read core.vars v ≡ Ptr b) → Held core.blocks (roots q (At (op.Set a x ∷ ops) e frames core)) b
      from b (v, h, r) = is_read (op.Set a x) ops e frames core v h b r
  op_near (op.Binary a o x y) ops e frames core t apart quiet s = answer_near a o x y ops e frames core t s
  op_near (op.GetField a n b k) ops e frames core t apart quiet s = got_near a n b k ops e frames core t apart s
  op_near (op.ExcType a n) ops e frames core t apart quiet s = assigned_near (op.ExcType a n) ops e frames core a core.exc_type t refl (λ b i. in_slots (op.ExcType a n ∷ ops) e frames core b (head_in b core.exc_type (core.exc_value ∷ []) i)) s
  op_near (op.ExcValue a n) ops e frames core t apart quiet s =
      assigned_near (op.ExcValue a n) ops e frames core a core.exc_value t refl (λ b i. in_slots (op.ExcValue a n ∷ ops) e frames core b (tail_in b core.exc_type (core.exc_value ∷ []) (head_in b core.exc_value [] i))) s
  op_near (op.ExcSet a b) ops e frames core t apart quiet s = one (is_unset (read core.vars a) || is_unset (read core.vars b)) s
    where
      one : (c : Bool) → goes_on (At ops e frames) (cond c (Stuck IsUnset) (Onward (record core { at = core.at + 1; exc_type = read core.vars a; exc_value = read core.vars b }))) ≡ Goes t → Near q (At (op.ExcSet a b ∷ ops) e frames core) t
      one true s = absurd (cc)
      one false s =
          let same : At ops e frames (record core { at = core.at + 1; exc_type = read core.vars a; exc_value = read core.vars b }) ≡ t = cc in
          subst (Near q (At (op.ExcSet a b ∷ ops) e frames core)) same
          (slots_near (op.ExcSet a b) ops e frames core (read core.vars a) (read core.vars b) t refl (λ n i. is_read (op.ExcSet a b) ops e frames core a (or_left (a == a) _ (same_number a)) n i)
          (λ n i. is_read (op.ExcSet a b) ops e frames core b (or_right (a == b) _ (or_left (b == b) false (same_number b))) n i))
  op_near op.ExcClear ops e frames core t apart quiet s =
      let same : At ops e frames (record core { at = core.at + 1; exc_type = Null; exc_value = Null }) ≡ t = cc in
      subst (Near q (At (op.ExcClear ∷ ops) e frames core)) same (slots_near op.ExcClear ops e frames core Null Null t refl (λ n i. absurd (cc)) (λ n i. absurd (cc)))
  op_near other ops e frames core t apart quiet s = absurd (cc)

  -- ---- back to who waits

  back_near : (value : Value) (frames : List Frame) (core : Core) (t : State) → returned value frames core ≡ Goes t → Near q (Returning value frames core) t
  back_near value [] core t s = one (word_of value) s
    where
      one : (o : Option ℤ) → goes_on (Returning value []) (st.on (λ n. Over (Returned n) (record core { vars = [] })) o) ≡ Goes t → Near q (Returning value [] core) t
      one None s = absurd (cc)
      one (Some n) s = absurd (cc)
  back_near value (frame ∷ frames) core t s =
      let same : At frame.ops frame.exit frames (record (resumed frame core) { vars = taken_by frame.vars frame.into value }) ≡ t = cc in subst (Near q (Returning value (frame ∷ frames) core)) same near
    where
      of_frame : (v b : ℕ) → waits_for q frame v ≡ true → read frame.vars v ≡ Ptr b → Held core.blocks (value ∷ (slots core ++ (kept (waits_for q frame) 0 frame.vars ++ waiting_roots q frames))) b
      of_frame v b u r =
          Root {b = b} (tail_in b value (slots core ++ (kept (waits_for q frame) 0 frame.vars ++ waiting_roots q frames)) (in_second b (slots core) (kept (waits_for q frame) 0 frame.vars ++ waiting_roots q frames) (in_first b (kept (waits_for q frame) 0 frame.vars) (waiting_roots q frames) (used_to (waits_for q frame) frame.vars b v u r))))

      taken : (into : Option ℕ) → frame.into ≡ into → (v b : ℕ) → live frame.ops frame.exit v ≡ true → read (taken_by frame.vars into value) v ≡ Ptr b → Held core.blocks (value ∷ (slots core ++ (kept (waits_for q frame) 0 frame.vars ++ waiting_roots q frames))) b
      taken None is v b l r = of_frame v b (or_right _ _ (ap (λ o. not (sets o v) && live frame.ops frame.exit v) is ∙ l)) r
      taken (Some a) is v b l r = by (set_read frame.vars a v b value r)
        where
          other : ((a ≡ v) → ⊥) → (c : Bool) → (a == v) ≡ c → (not c && live frame.ops frame.exit v) ≡ true
          other ne true i = absurd (ne (is_same a v i))
          other ne false i = l

          by : ((a ≡ v) × (value ≡ Ptr b)) ⊎ (((a ≡ v) → ⊥) × (read frame.vars v ≡ Ptr b)) → Held core.blocks (value ∷ (slots core ++ (kept (waits_for q frame) 0 frame.vars ++ waiting_roots q frames))) b
          by (inl k) = Root {b = b} (head_in b value (slots core ++ (kept (waits_for q frame) 0 frame.vars ++ waiting_roots q frames)) k.1)
          by (inr k) = of_frame v b (or_right _ _ (ap (λ o. not (sets o v) && live frame.ops frame.exit v) is ∙ other k.0 (a == v) refl)) k.1

      behind : (b : ℕ) → (0 < times b (slots core)) ⊎ (0 < times b (waiting_roots q frames)) → Held core.blocks (value ∷ (slots core ++ (kept (waits_for q frame) 0 frame.vars ++ waiting_roots q frames))) b
      behind b (inl h) = Root {b = b} (tail_in b value (slots core ++ (kept (waits_for q frame) 0 frame.vars ++ waiting_roots q frames)) (in_first b (slots core) (kept (waits_for q frame) 0 frame.vars ++ waiting_roots q frames) h))
      behind b (inr h) = Root {b = b} (tail_in b value (slots core ++ (kept (waits_for q frame) 0 frame.vars ++ waiting_roots q frames)) (in_second b (slots core) (kept (waits_for q frame) 0 frame.vars ++ waiting_roots q frames) (in_second b (kept (waits_for q frame) 0 frame.vars) (waiting_roots q frames) h)))

      of_vars : (b : ℕ) → (v : ℕ) × (live frame.ops frame.exit v ≡ true) × (read (taken_by frame.vars frame.into value) v ≡ Ptr b) → Held core.blocks (value ∷ (slots core ++ (kept (waits_for q frame) 0 frame.vars ++ waiting_roots q frames))) b
      of_vars b (v, l, r) = taken frame.into refl v b l r

      either : (b : ℕ) → (0 < times b (kept (live frame.ops frame.exit) 0 (taken_by frame.vars frame.into value))) ⊎ (0 < times b (slots core ++ waiting_roots q frames)) → Held core.blocks (value ∷ (slots core ++ (kept (waits_for q frame) 0 frame.vars ++ waiting_roots q frames))) b
      either b (inl h) = of_vars b (used_from (live frame.ops frame.exit) (taken_by frame.vars frame.into value) b h)
      either b (inr h) = behind b (in_parts b (slots core) (waiting_roots q frames) h)

      near : Near q (Returning value (frame ∷ frames) core) (At frame.ops frame.exit frames (record (resumed frame core) { vars = taken_by frame.vars frame.into value }))
      near = record {
        blocks = refl;
        statics = refl;
        held = λ b h. either b (in_parts b (kept (live frame.ops frame.exit) 0 (taken_by frame.vars frame.into value)) (slots core ++ waiting_roots q frames) (at_root q frame.ops frame.exit frames (record (resumed frame core) { vars = taken_by frame.vars frame.into value }) b h));
        waiting = (let e : references (kept (waits_for q frame) 0 frame.vars ++ waiting_roots q frames) ≡ references (kept (waits_for q frame) 0 frame.vars) + references (waiting_roots q frames) = references_append (kept (waits_for q frame) 0 frame.vars) (waiting_roots q frames) in omega (arith, e));
      }

  -- ---- steps

  pub quiet_near : (s t : State) → StateFits q s → StaticsAreApart (core_of s) → is_quiet s ≡ true → step q args s ≡ Goes t → Near q s t
  quiet_near (At [] e frames core) t (graph, fit) apart quiet s = left_near frames core graph fit.of e t fit.end s
  quiet_near (At (o ∷ ops) e frames core) t fit apart quiet s = op_near o ops e frames core t apart quiet s
  quiet_near (Returning value frames core) t fit apart quiet s = back_near value frames core t s
  quiet_near (Calling f values frames core) t fit apart quiet s = absurd (cc)
  quiet_near (Throwing value frames core) t fit apart quiet s = absurd (cc)
