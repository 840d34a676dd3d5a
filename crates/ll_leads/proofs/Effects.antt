-- The effect of each step: on the blocks, and which blocks are named behind it.
use Rattle.std.proofs.Common.{◌≡◌, ◌<◌, ◌≤◌, ℕ, zero, suc, ◌+◌, ◌-◌, Bool, true, false, ◌&&◌, ◌||◌, ◌==◌, List, [], ◌∷◌, ◌++◌, length, Option, Some, None, Result, Ok, Err, refl, sym, ap, ◌∙◌, subst, arith, ◌⊎◌, inl, inr, ℤ, pos, negsuc}
use Rattle.std.specs.Prelude.{not, slice_get, slice_set, replicate, cond, if◌then◌else◌, nat_lt, nat_le, map, option_map}
use Rattle.rpy_base.specs.declared.outcome.FailName.{FailName}
use Rattle.rpy_base.specs.declared.outcome.Outcome.TheVariants.{Returned, Running}
use Rattle.csub_tree.specs.State.{Value, Unset, Word, Null, Ptr, Static, Block, Core, After, Onward, Puts as PutsByte, Told, Over, Stuck, Event, Made}
use Rattle.csub_tree.specs.Layout.{shape_at, place}
use Rattle.csub_tree.specs.Operation.{Answer, is_unset, word_of, unary_of, binary_of, flag_of}
use Rattle.csub_tree.specs.Statement as st
use Rattle.csub_tree.specs.Statement.{read, operand, operands, any_unset, block_at, reached, on_block, taken_by, fail_name_of, fun_of, same_result, same_types, argument, byte_in}
use Rattle.csub_tree.specs.Checked.{gives_bool}
use Rattle.csub_tree.specs.declared.stuck.StuckReason.{StuckReason}
use Rattle.csub_tree.specs.declared.stuck.StuckReason.TheVariants.{Unset as IsUnset, Outside, Signature}
use Rattle.csub_tree.specs.declared.tree.CType.{CType}
use Rattle.csub_tree.specs.declared.tree.CType.TheVariants as c
use Rattle.csub_tree.specs.declared.tree.CUnary.{CUnary}
use Rattle.csub_tree.specs.declared.tree.COperand.{COperand}
use Rattle.ll_code.specs.State.{Frame, State, Calling, At, Returning, Throwing, Next, Goes, Puts, Tells, Ends, Sticks}
use Rattle.ll_code.specs.Machine.{step, goes_on, shapes_of, jump, begins, branch, block_in, set_all, leaves, returned, resumed, thrown, caught, waiting, called_as, called_value, entered, enters as machine_enters, operates, c_result, c_type, param_types, type_in}
use Rattle.ll_code.specs.Typed.{all_given, enters, link_ok, exit_ok, binary_gives, unary_gives, is_counted}
use Rattle.ll_code.specs.declared.program.LlType.{LlType}
use Rattle.ll_code.specs.declared.program.LlType.TheVariants as type
use Rattle.ll_code.specs.declared.program.LlLink.{LlLink}
use Rattle.ll_code.specs.declared.program.LlOp.{LlOp}
use Rattle.ll_code.specs.declared.program.LlOp.TheVariants as op
use Rattle.ll_code.specs.declared.program.LlExit.{LlExit}
use Rattle.ll_code.specs.declared.program.LlExit.TheVariants as exit
use Rattle.ll_code.specs.declared.program.LlBlock.{LlBlock}
use Rattle.ll_code.specs.declared.program.LlGraph.{LlGraph}
use Rattle.ll_code.specs.declared.program.LlStage.TheVariants as stage
use Rattle.ll_code.specs.declared.program.LlProgram.{LlProgram}
use Rattle.ll_laws.specs.Fits.{Fits, AnswerFits}
use Rattle.ll_laws.specs.States.{StateFits, FramesFit, AtFits}
use Rattle.ll_laws.proofs.Values.{and_left, and_right, is_same, binary_fits, unary_fits}
use Rattle.ll_live.specs.Live.{among, variables_of, variables_in, reads, set_by, sets, live, handler_variable}
use Rattle.ll_live.proofs.Appended.{among_append}
use Rattle.ll_held.specs.Roots.{kept, waits_for, waiting_roots, slots, core_of, read_by, under_way}
use Rattle.ll_held.specs.Held.{times, references, is_reference, cells, Held, Root, From}
use Rattle.ll_held.specs.Places.{PlacedAt, IsPlaced}
use Rattle.ll_held.specs.Quiet.{ReadsInputs}
use Rattle.ll_held.proofs.Keeping.{or_left, or_right, same_number, times_append, references_append, in_parts, in_first, in_second, at_head, head_in, tail_in, read_in, used_from, used_to, operand_from, operands_from, set_read, set_all_read}
use Rattle.ll_held.proofs.Calming.{reached_there}
use Rattle.ll_held.proofs.Placing.{under_is}
use Rattle.ll_leads.specs.Path.{stored, reference_in}
use Rattle.ll_leads.specs.Effect.{memory_of, IsHeld, RootsAre, HandlersReadOthers, StaticsNameNone, Effect, Same, Makes, Writes, WritesStatic, into_static, within_static}

-- ---- lists

given_count : (p : LlProgram) (vars others : List LlType) (vs : List ℕ) (xs : List COperand) → all_given p vars others vs xs ≡ true → length vs ≡ length xs
given_count p vars others [] [] h = refl
given_count p vars others (v ∷ vs) (x ∷ xs) h = ap suc (given_count p vars others vs xs (and_right _ _ h))
given_count p vars others [] (x ∷ xs) h = absurd (cc)
given_count p vars others (v ∷ vs) [] h = absurd (cc)

length_operands : (vars : List Value) (xs : List COperand) → length (operands vars xs) ≡ length xs
length_operands vars [] = refl
length_operands vars (x ∷ xs) = ap suc (length_operands vars xs)

-- what is unset names nothing
unset_reads : (n v b : ℕ) → read (replicate n Unset) v ≡ Ptr b → ⊥
unset_reads zero v b e = absurd (cc)
unset_reads (suc n) zero b e = absurd (cc)
unset_reads (suc n) (suc v) b e = unset_reads n v b e

params_read : (values : List Value) (n v b : ℕ) → read (values ++ replicate n Unset) v ≡ Ptr b → 0 < times b values
params_read [] n v b e = absurd (unset_reads n v b e)
params_read (x ∷ values) n zero b e = head_in b x values e
params_read (x ∷ values) n (suc v) b e = tail_in b x values (params_read values n v b e)

times_unset : (b n : ℕ) → times b (replicate n Unset) ≡ 0
times_unset b zero = refl
times_unset b (suc n) = times_unset b n

references_unset : (n : ℕ) → references (replicate n Unset) ≡ 0
references_unset zero = refl
references_unset (suc n) = references_unset n

times_both : (b : ℕ) (xs ys : List Value) → times b xs ≡ 0 → times b ys ≡ 0 → times b (xs ++ ys) ≡ 0
times_both b xs ys h k = let e : times b (xs ++ ys) ≡ times b xs + times b ys = times_append b xs ys in omega (arith, e, h, k)

references_both : (xs ys : List Value) → references xs ≡ 0 → references ys ≡ 0 → references (xs ++ ys) ≡ 0
references_both xs ys h k = let e : references (xs ++ ys) ≡ references xs + references ys = references_append xs ys in omega (arith, e, h, k)

-- a cell that is set
times_set : (xs : List Value) (k b : ℕ) (x : Value) → 0 < times b (slice_set xs k x) → (0 < times b xs) ⊎ (x ≡ Ptr b)
times_set [] k b x h = inl h
times_set (y ∷ xs) zero b x h = one (at_head b x xs h)
  where
    one : (x ≡ Ptr b) ⊎ (0 < times b xs) → (0 < times b (y ∷ xs)) ⊎ (x ≡ Ptr b)
    one (inl e) = inr e
    one (inr h) = inl (tail_in b y xs h)
times_set (y ∷ xs) (suc k) b x h = one (at_head b y (slice_set xs k x) h) (times_set xs k b x)
  where
    two : (0 < times b xs) ⊎ (x ≡ Ptr b) → (0 < times b (y ∷ xs)) ⊎ (x ≡ Ptr b)
    two (inl h) = inl (tail_in b y xs h)
    two (inr e) = inr e

    one : (y ≡ Ptr b) ⊎ (0 < times b (slice_set xs k x)) → ((0 < times b (slice_set xs k x)) → (0 < times b xs) ⊎ (x ≡ Ptr b)) → (0 < times b (y ∷ xs)) ⊎ (x ≡ Ptr b)
    one (inl e) go = inl (head_in b y xs e)
    one (inr h) go = two (go h)

-- what a block names once a field, or an item, is set
either_named : (b : ℕ) (xs ys : List Value) (x : Value) (other : Type 0) → (x ≡ Ptr b → other) → (0 < times b xs) ⊎ (x ≡ Ptr b) → (0 < times b xs → 0 < times b ys) → (0 < times b ys) ⊎ other
either_named b xs ys x other val (inl h) on = inl (on h)
either_named b xs ys x other val (inr e) on = inr (val e)

field_names : (old : Block) (k b : ℕ) (x : Value) (other : Type 0) → (x ≡ Ptr b → other) → 0 < times b (slice_set old.fields k x ++ old.items) → (0 < times b (old.fields ++ old.items)) ⊎ other
field_names old k b x other val h = parts (in_parts b (slice_set old.fields k x) old.items h)
  where
    parts : (0 < times b (slice_set old.fields k x)) ⊎ (0 < times b old.items) → (0 < times b (old.fields ++ old.items)) ⊎ other
    parts (inl h) = either_named b old.fields (old.fields ++ old.items) x other val (times_set old.fields k b x h) (in_first b old.fields old.items)
    parts (inr h) = inl (in_second b old.fields old.items h)

item_names : (old : Block) (k b : ℕ) (x : Value) (other : Type 0) → (x ≡ Ptr b → other) → 0 < times b (old.fields ++ slice_set old.items k x) → (0 < times b (old.fields ++ old.items)) ⊎ other
item_names old k b x other val h = parts (in_parts b old.fields (slice_set old.items k x) h)
  where
    parts : (0 < times b old.fields) ⊎ (0 < times b (slice_set old.items k x)) → (0 < times b (old.fields ++ old.items)) ⊎ other
    parts (inl h) = inl (in_first b old.fields old.items h)
    parts (inr h) = either_named b old.items (old.fields ++ old.items) x other val (times_set old.items k b x h) (in_second b old.fields old.items)

first_of : {A : Type 0} → A ⊎ ⊥ → A
first_of (inl a) = a
first_of (inr e) = absurd e

no_pointer : (x : Value) (b : ℕ) → reference_in x ≡ 0 → x ≡ Ptr b → ⊥
no_pointer x b z e = let h : 1 ≡ 0 = sym (ap reference_in e) ∙ z in absurd (omega (arith, h))

reference_at : (x : Value) (xs : List Value) → references (x ∷ xs) ≡ reference_in x + references xs
reference_at x xs = one (is_reference x)
  where
    one : (d : Bool) → cond d (suc (references xs)) (references xs) ≡ cond d 1 0 + references xs
    one true = omega arith
    one false = omega arith

references_set : (xs : List Value) (k : ℕ) (x : Value) → references (slice_set xs k x) ≤ references xs + reference_in x
references_set [] k x = omega arith
references_set (y ∷ xs) zero x = let e : references (x ∷ xs) ≡ reference_in x + references xs = reference_at x xs in let f : references (y ∷ xs) ≡ reference_in y + references xs = reference_at y xs in omega (arith, e, f)
references_set (y ∷ xs) (suc k) x =
    let e : references (y ∷ slice_set xs k x) ≡ reference_in y + references (slice_set xs k x) = reference_at y (slice_set xs k x) in
    let f : references (y ∷ xs) ≡ reference_in y + references xs = reference_at y xs in
    let g : references (slice_set xs k x) ≤ references xs + reference_in x = references_set xs k x in omega (arith, e, f, g)

-- ---- roots

module _ (p : LlProgram) (good : ℕ → Type 0) where
  -- the roots of a graph that runs are those of its variables, the slots, and those of who waits
  at_all : (ops : List LlOp) (e : LlExit) (frames : List Frame) (core : Core) → ((v b : ℕ) → live ops e v ≡ true → read core.vars v ≡ Ptr b → good b) → ((b : ℕ) → 0 < times b (slots core) → good b) → ((b : ℕ) → 0 < times b (waiting_roots p frames) → good b)
      → RootsAre p (At ops e frames core) good
  at_all ops e frames core vars slot waits b h = either (in_parts b (kept (live ops e) 0 core.vars ++ slots core) (waiting_roots p frames) h)
    where
      of_vars : (v : ℕ) × (live ops e v ≡ true) × (read core.vars v ≡ Ptr b) → good b
      of_vars (v, l, r) = vars v b l r

      own : (0 < times b (kept (live ops e) 0 core.vars)) ⊎ (0 < times b (slots core)) → good b
      own (inl h) = of_vars (used_from (live ops e) core.vars b h)
      own (inr h) = slot b h

      either : (0 < times b (kept (live ops e) 0 core.vars ++ slots core)) ⊎ (0 < times b (waiting_roots p frames)) → good b
      either (inl h) = own (in_parts b (kept (live ops e) 0 core.vars) (slots core) h)
      either (inr h) = waits b h

  calling_all : (f : ℕ) (values : List Value) (frames : List Frame) (core : Core) → ((b : ℕ) → 0 < times b values → good b) → ((b : ℕ) → 0 < times b (slots core) → good b) → ((b : ℕ) → 0 < times b (waiting_roots p frames) → good b) → RootsAre p (Calling f values frames core) good
  calling_all f values frames core vals slot waits b h = either (in_parts b (values ++ slots core) (waiting_roots p frames) h)
    where
      own : (0 < times b values) ⊎ (0 < times b (slots core)) → good b
      own (inl h) = vals b h
      own (inr h) = slot b h

      either : (0 < times b (values ++ slots core)) ⊎ (0 < times b (waiting_roots p frames)) → good b
      either (inl h) = own (in_parts b values (slots core) h)
      either (inr h) = waits b h

  out_all : (value : Value) (frames : List Frame) (core : Core) → ((b : ℕ) → value ≡ Ptr b → good b) → ((b : ℕ) → 0 < times b (slots core) → good b) → ((b : ℕ) → 0 < times b (waiting_roots p frames) → good b) → (b : ℕ) → 0 < times b (value ∷ (slots core ++ waiting_roots p frames)) → good b
  out_all value frames core val slot waits b h = either (at_head b value (slots core ++ waiting_roots p frames) h)
    where
      own : (0 < times b (slots core)) ⊎ (0 < times b (waiting_roots p frames)) → good b
      own (inl h) = slot b h
      own (inr h) = waits b h

      either : (value ≡ Ptr b) ⊎ (0 < times b (slots core ++ waiting_roots p frames)) → good b
      either (inl h) = val b h
      either (inr h) = own (in_parts b (slots core) (waiting_roots p frames) h)

  waiting_all : (frame : Frame) (frames : List Frame) → ((v b : ℕ) → waits_for p frame v ≡ true → read frame.vars v ≡ Ptr b → good b) → ((b : ℕ) → 0 < times b (waiting_roots p frames) → good b) → (b : ℕ) → 0 < times b (waiting_roots p (frame ∷ frames)) → good b
  waiting_all frame frames vars waits b h = either (in_parts b (kept (waits_for p frame) 0 frame.vars) (waiting_roots p frames) h)
    where
      of_vars : (v : ℕ) × (waits_for p frame v ≡ true) × (read frame.vars v ≡ Ptr b) → good b
      of_vars (v, l, r) = vars v b l r

      either : (0 < times b (kept (waits_for p frame) 0 frame.vars)) ⊎ (0 < times b (waiting_roots p frames)) → good b
      either (inl h) = of_vars (used_from (waits_for p frame) frame.vars b h)
      either (inr h) = waits b h

-- ---- what a state holds

module _ (p : LlProgram) where
  at_var : (ops : List LlOp) (e : LlExit) (frames : List Frame) (core : Core) (v b : ℕ) → live ops e v ≡ true → read core.vars v ≡ Ptr b → IsHeld p (At ops e frames core) b
  at_var ops e frames core v b l r = Root {b = b} (in_first b (kept (live ops e) 0 core.vars ++ slots core) (waiting_roots p frames) (in_first b (kept (live ops e) 0 core.vars) (slots core) (used_to (live ops e) core.vars b v l r)))

  at_slot : (ops : List LlOp) (e : LlExit) (frames : List Frame) (core : Core) (b : ℕ) → 0 < times b (slots core) → IsHeld p (At ops e frames core) b
  at_slot ops e frames core b h = Root {b = b} (in_first b (kept (live ops e) 0 core.vars ++ slots core) (waiting_roots p frames) (in_second b (kept (live ops e) 0 core.vars) (slots core) h))

  at_waiting : (ops : List LlOp) (e : LlExit) (frames : List Frame) (core : Core) (b : ℕ) → 0 < times b (waiting_roots p frames) → IsHeld p (At ops e frames core) b
  at_waiting ops e frames core b h = Root {b = b} (in_second b (kept (live ops e) 0 core.vars ++ slots core) (waiting_roots p frames) h)

-- ---- what a step that writes nothing leads to

-- the blocks are these, and each root is good
abbrev pub NextNames : LlProgram → List (Option Block) × List Block → (ℕ → Type 0) → Next → Type 0
NextNames p memory good (Goes t) = (memory_of t ≡ memory) × RootsAre p t good
NextNames p memory good (Puts byte t) = (memory_of t ≡ memory) × RootsAre p t good
NextNames p memory good (Tells event t) = (memory_of t ≡ memory) × RootsAre p t good
NextNames p memory good (Ends outcome core) = Unit {0}
NextNames p memory good (Sticks reason) = Unit {0}

module _ (p : LlProgram) (closed : ReadsInputs p) (good : ℕ → Type 0) where
  choose : (memory : List (Option Block) × List Block) (b : Bool) (x y : Next) → NextNames p memory good x → NextNames p memory good y → NextNames p memory good (cond b x y)
  choose memory true x y h k = h
  choose memory false x y h k = k

  -- a link: its operands name what is good
  jump_names : (frames : List Frame) (core : Core) (graph : LlGraph) → slice_get p.graphs core.function ≡ Some graph → (link : LlLink) → link_ok p graph link ≡ true → ((v b : ℕ) → among v (variables_in link.args) ≡ true → read core.vars v ≡ Ptr b → good b) → ((b : ℕ) → 0 < times b (slots core) → good b)
      → ((b : ℕ) → 0 < times b (waiting_roots p frames) → good b) → NextNames p (core.blocks, core.statics) good (jump p frames core link)
  jump_names frames core graph of link fine vars slot waits =
      choose (core.blocks, core.statics) (any_unset (operands core.vars link.args)) (Sticks IsUnset) _ tt (subst (λ o. NextNames p (core.blocks, core.statics) good (begins frames core link.to (operands core.vars link.args) (block_in o link.to))) (sym of) (begun (slice_get graph.blocks link.to) refl fine))
    where
      from : (b : ℕ) → (v : ℕ) × (among v (variables_in link.args) ≡ true) × (read core.vars v ≡ Ptr b) → good b
      from b (v, a, r) = vars v b a r

      begun : (o : Option LlBlock) → slice_get graph.blocks link.to ≡ o → enters p graph.types o link.args ≡ true → NextNames p (core.blocks, core.statics) good (begins frames core link.to (operands core.vars link.args) o)
      begun None at h = absurd (cc)
      begun (Some block) at h = (
        refl,
        at_all p good block.ops block.exit frames (record core { block = link.to; at = 0; vars = set_all core.vars block.inputs (operands core.vars link.args) })
            (λ v b l r. by v b (closed core.function graph of link.to block at v l) (set_all_read core.vars block.inputs (operands core.vars link.args) v b (given_count p graph.types graph.types block.inputs link.args h ∙ sym (length_operands core.vars link.args)) r)) slot waits,
      )
        where
          by : (v b : ℕ) → among v block.inputs ≡ true → (0 < times b (operands core.vars link.args)) ⊎ ((among v block.inputs ≡ false) × (read core.vars v ≡ Ptr b)) → good b
          by v b a (inl h) = from b (operands_from core.vars link.args b h)
          by v b a (inr h) = absurd (let f : true ≡ false = sym a ∙ h.0 in cc)

  -- an exception that is caught, or goes on
  caught_names : (value : Value) (ops : List LlOp) (e : LlExit) (frames : List Frame) (core : Core) (graph : LlGraph) → slice_get p.graphs core.function ≡ Some graph → exit_ok p graph e ≡ true → ((b : ℕ) → value ≡ Ptr b → good b) → ((v b : ℕ) → ops ≡ [] → handler_variable e v ≡ true → read core.vars v ≡ Ptr b → good b)
      → ((b : ℕ) → 0 < times b (slots core) → good b) → ((b : ℕ) → 0 < times b (waiting_roots p frames) → good b) → NextNames p (core.blocks, core.statics) good (caught p value ops e frames core)
  caught_names value (o ∷ ops) e frames core graph of fine val vars slot waits = (refl, out_all p good value frames core val slot waits)
  caught_names value [] (exit.OnRaise a (Some link) without) frames core graph of fine val vars slot waits =
      jump_names frames (record core { vars = slice_set core.vars a value }) graph of link (and_right _ _ (and_left _ _ fine)) (λ v b k r. by v b k (set_read core.vars a v b value r)) slot waits
    where
      by : (v b : ℕ) → among v (variables_in link.args) ≡ true → ((a ≡ v) × (value ≡ Ptr b)) ⊎ (((a ≡ v) → ⊥) × (read core.vars v ≡ Ptr b)) → good b
      by v b k (inl h) = val b h.1
      by v b k (inr h) = vars v b refl (one (a == v) refl) h.1
        where
          one : (d : Bool) → (a == v) ≡ d → (not d && among v (variables_in link.args)) ≡ true
          one true i = absurd (h.0 (is_same a v i))
          one false i = k
  caught_names value [] (exit.OnRaise a None without) frames core graph of fine val vars slot waits = (refl, out_all p good value frames core val slot waits)
  caught_names value [] (exit.Goto link) frames core graph of fine val vars slot waits = (refl, out_all p good value frames core val slot waits)
  caught_names value [] (exit.If a there elsewhere) frames core graph of fine val vars slot waits = (refl, out_all p good value frames core val slot waits)
  caught_names value [] (exit.Return x) frames core graph of fine val vars slot waits = (refl, out_all p good value frames core val slot waits)
  caught_names value [] (exit.Raise a) frames core graph of fine val vars slot waits = (refl, out_all p good value frames core val slot waits)
  caught_names value [] (exit.Fail n) frames core graph of fine val vars slot waits = (refl, out_all p good value frames core val slot waits)
  caught_names value [] (exit.Raised a) frames core graph of fine val vars slot waits = (refl, out_all p good value frames core val slot waits)

-- ---- steps of a graph that runs

abbrev pub NextEffect : LlProgram → State → Next → Type 0
NextEffect p s (Goes t) = Effect p s t
NextEffect p s (Puts byte t) = Effect p s t
NextEffect p s (Tells event t) = Effect p s t
NextEffect p s (Ends outcome core) = Unit {0}
NextEffect p s (Sticks reason) = Unit {0}

-- a step that writes no block
named : (p : LlProgram) (s : State) (next : Next) → NextNames p (memory_of s) (IsHeld p s) next → NextEffect p s next
named p s (Goes t) (memory, root) = Same memory root
named p s (Puts byte t) (memory, root) = Same memory root
named p s (Tells event t) (memory, root) = Same memory root
named p s (Ends outcome core) h = tt
named p s (Sticks reason) h = tt

module _ (p : LlProgram) (closed : ReadsInputs p) (args : List (List ℕ)) where
  -- ---- exits

  module _ (frames : List Frame) (core : Core) (graph : LlGraph) (of : slice_get p.graphs core.function ≡ Some graph) where
    link_names : (e : LlExit) (link : LlLink) → link_ok p graph link ≡ true → ((v : ℕ) → among v (variables_in link.args) ≡ true → live [] e v ≡ true) → NextNames p (core.blocks, core.statics) (IsHeld p (At [] e frames core)) (jump p frames core link)
    link_names e link fine used = jump_names p closed (IsHeld p (At [] e frames core)) frames core graph of link fine (λ v b a r. at_var p [] e frames core v b (used v a) r) (at_slot p [] e frames core) (at_waiting p [] e frames core)

    out_names : (e : LlExit) (value : Value) → ((b : ℕ) → value ≡ Ptr b → IsHeld p (At [] e frames core) b) → (b : ℕ) → 0 < times b (value ∷ (slots core ++ waiting_roots p frames)) → IsHeld p (At [] e frames core) b
    out_names e value val = out_all p (IsHeld p (At [] e frames core)) value frames core val (at_slot p [] e frames core) (at_waiting p [] e frames core)

    leaves_names : (e : LlExit) → exit_ok p graph e ≡ true → NextNames p (core.blocks, core.statics) (IsHeld p (At [] e frames core)) (leaves p e frames core)
    leaves_names (exit.Goto link) h = link_names (exit.Goto link) link h (λ v a. or_left _ _ a)
    leaves_names (exit.If a there elsewhere) h = way (flag_of (read core.vars a))
      where
        way : (o : Option Bool) → NextNames p (core.blocks, core.statics) (IsHeld p (At [] (exit.If a there elsewhere) frames core)) (branch p frames core there elsewhere o)
        way None = tt
        way (Some true) = link_names (exit.If a there elsewhere) there (and_right _ _ (and_left _ _ h)) (λ v k. or_left _ _ (or_right (a == v) _ (among_append v (variables_in there.args) (variables_in elsewhere.args) ∙ or_left _ _ k)))
        way (Some false) = link_names (exit.If a there elsewhere) elsewhere (and_right _ _ h) (λ v k. or_left _ _ (or_right (a == v) _ (among_append v (variables_in there.args) (variables_in elsewhere.args) ∙ or_right _ _ k)))
    leaves_names (exit.OnRaise a by without) h = link_names (exit.OnRaise a by without) without (and_right _ _ h) (λ v k. or_left _ _ k)
    leaves_names (exit.Return None) h = (refl, out_names (exit.Return None) Unset (λ b e. absurd (cc)))
    leaves_names (exit.Return (Some x)) h = choose p closed (IsHeld p (At [] (exit.Return (Some x)) frames core)) (core.blocks, core.statics) (is_unset (operand core.vars x)) (Sticks IsUnset) (Goes (Returning (operand core.vars x) frames core)) tt (refl, out_names (exit.Return (Some x)) (operand core.vars x) (λ b e. from b (operand_from core.vars x b e)))
      where
        from : (b : ℕ) → (v : ℕ) × (among v (variables_of x) ≡ true) × (read core.vars v ≡ Ptr b) → IsHeld p (At [] (exit.Return (Some x)) frames core) b
        from b (v, a, r) = at_var p [] (exit.Return (Some x)) frames core v b (or_left _ _ a) r
    leaves_names (exit.Raise a) h = choose p closed (IsHeld p (At [] (exit.Raise a) frames core)) (core.blocks, core.statics) (is_unset (read core.vars a)) (Sticks IsUnset) (Goes (Throwing (read core.vars a) frames core)) tt
        (refl, out_names (exit.Raise a) (read core.vars a) (λ b r. at_var p [] (exit.Raise a) frames core a b (or_left _ _ (or_left (a == a) false (same_number a))) r))
    leaves_names (exit.Fail number) h = one (fail_name_of number)
      where
        one : (o : Option FailName) → NextNames p (core.blocks, core.statics) (IsHeld p (At [] (exit.Fail number) frames core)) (goes_on (At [] (exit.Fail number) frames) (st.fail core o))
        one None = tt
        one (Some name) = tt
    leaves_names (exit.Raised a) h = by (type_in (slice_get p.graphs core.function) a)
      where
        said : (o : Option (List ℕ)) → NextNames p (core.blocks, core.statics) (IsHeld p (At [] (exit.Raised a) frames core)) (goes_on (At [] (exit.Raised a) frames) (st.raised_as core o))
        said None = tt
        said (Some name) = tt

        found : (r : Result Block StuckReason) → NextNames p (core.blocks, core.statics) (IsHeld p (At [] (exit.Raised a) frames core)) (goes_on (At [] (exit.Raised a) frames) (on_block (λ block. st.raised_as core (st.bytes_of block.items)) r))
        found (Ok block) = said (st.bytes_of block.items)
        found (Err reason) = tt

        by : (o : Option CType) → NextNames p (core.blocks, core.statics) (IsHeld p (At [] (exit.Raised a) frames core)) (goes_on (At [] (exit.Raised a) frames) (st.raised core (shapes_of p.structs) o (read core.vars a)))
        by (Some (c.Ptr n)) = found (reached core (shapes_of p.structs) n (read core.vars a))
        by None = tt
        by (Some c.Signed) = tt
        by (Some c.Char) = tt
        by (Some c.Bool) = tt
        by (Some c.Fn) = tt

  -- ---- into a graph, and back

  entered_names : (f : ℕ) (values : List Value) (frames : List Frame) (core : Core) (o : Option LlGraph) → NextNames p (core.blocks, core.statics) (IsHeld p (Calling f values frames core)) (entered f values frames core o)
  entered_names f values frames core None = tt
  entered_names f values frames core (Some graph) = one (slice_get graph.blocks 0)
    where
      one : (b : Option LlBlock) → NextNames p (core.blocks, core.statics) (IsHeld p (Calling f values frames core)) (machine_enters f values frames core graph b)
      one None = tt
      one (Some block) = (
        refl,
        at_all p (IsHeld p (Calling f values frames core)) block.ops block.exit frames (record core { function = f; block = 0; at = 0; vars = values ++ replicate (length graph.types - length graph.params) Unset })
            (λ v b l r. Root {b = b} (in_first b (values ++ slots core) (waiting_roots p frames) (in_first b values (slots core) (params_read values (length graph.types - length graph.params) v b r))))
            (λ b h. Root {b = b} (in_first b (values ++ slots core) (waiting_roots p frames) (in_second b values (slots core) h))) (λ b h. Root {b = b} (in_second b (values ++ slots core) (waiting_roots p frames) h)),
      )

  module _ (value : Value) (frame : Frame) (frames : List Frame) (core : Core) where
    abbrev Kept : ℕ → Type 0
    Kept b = Held core.blocks (value ∷ (slots core ++ (kept (waits_for p frame) 0 frame.vars ++ waiting_roots p frames))) b

    out_value : (b : ℕ) → value ≡ Ptr b → Kept b
    out_value b e = Root {b = b} (head_in b value (slots core ++ (kept (waits_for p frame) 0 frame.vars ++ waiting_roots p frames)) e)

    out_frame : (v b : ℕ) → waits_for p frame v ≡ true → read frame.vars v ≡ Ptr b → Kept b
    out_frame v b u r =
        Root {b = b} (tail_in b value (slots core ++ (kept (waits_for p frame) 0 frame.vars ++ waiting_roots p frames)) (in_second b (slots core) (kept (waits_for p frame) 0 frame.vars ++ waiting_roots p frames) (in_first b (kept (waits_for p frame) 0 frame.vars) (waiting_roots p frames) (used_to (waits_for p frame) frame.vars b v u r))))

    out_slot : (b : ℕ) → 0 < times b (slots core) → Kept b
    out_slot b h = Root {b = b} (tail_in b value (slots core ++ (kept (waits_for p frame) 0 frame.vars ++ waiting_roots p frames)) (in_first b (slots core) (kept (waits_for p frame) 0 frame.vars ++ waiting_roots p frames) h))

    out_waiting : (b : ℕ) → 0 < times b (waiting_roots p frames) → Kept b
    out_waiting b h =
        Root {b = b} (tail_in b value (slots core ++ (kept (waits_for p frame) 0 frame.vars ++ waiting_roots p frames)) (in_second b (slots core) (kept (waits_for p frame) 0 frame.vars ++ waiting_roots p frames) (in_second b (kept (waits_for p frame) 0 frame.vars) (waiting_roots p frames) h)))

    -- a variable that is live behind the call, and that the call does not set
    left_alone : (v : ℕ) → live frame.ops frame.exit v ≡ true → sets frame.into v ≡ false → waits_for p frame v ≡ true
    left_alone v l e = or_right _ _ (ap (λ s. not s && live frame.ops frame.exit v) e ∙ l)

    taken : (into : Option ℕ) → frame.into ≡ into → (v b : ℕ) → live frame.ops frame.exit v ≡ true → read (taken_by frame.vars into value) v ≡ Ptr b → Kept b
    taken None is v b l r = out_frame v b (left_alone v l (ap (λ o. sets o v) is)) r
    taken (Some a) is v b l r = by (set_read frame.vars a v b value r)
      where
        other : ((a ≡ v) → ⊥) → (d : Bool) → (a == v) ≡ d → d ≡ false
        other ne true i = absurd (ne (is_same a v i))
        other ne false i = refl

        by : ((a ≡ v) × (value ≡ Ptr b)) ⊎ (((a ≡ v) → ⊥) × (read frame.vars v ≡ Ptr b)) → Kept b
        by (inl k) = out_value b k.1
        by (inr k) = out_frame v b (left_alone v l (ap (λ o. sets o v) is ∙ other k.0 (a == v) refl)) k.1

  back_names : (value : Value) (frames : List Frame) (core : Core) → NextNames p (core.blocks, core.statics) (IsHeld p (Returning value frames core)) (returned value frames core)
  back_names value [] core = one (word_of value)
    where
      one : (o : Option ℤ) → NextNames p (core.blocks, core.statics) (IsHeld p (Returning value [] core)) (goes_on (Returning value []) (st.on (λ n. Over (Returned n) (record core { vars = [] })) o))
      one None = tt
      one (Some n) = tt
  back_names value (frame ∷ frames) core =
      (refl, at_all p (Kept value frame frames core) frame.ops frame.exit frames (record (resumed frame core) { vars = taken_by frame.vars frame.into value }) (λ v b l r. taken value frame frames core frame.into refl v b l r) (out_slot value frame frames core) (out_waiting value frame frames core))

  -- ---- exceptions on their way out

  thrown_names : HandlersReadOthers p → (value : Value) (frames : List Frame) (core : Core) → StateFits p (Throwing value frames core) → IsPlaced p (Throwing value frames core) → NextNames p (core.blocks, core.statics) (IsHeld p (Throwing value frames core)) (thrown p value frames core)
  thrown_names apart value [] core fit placed = tt
  thrown_names apart value (frame ∷ frames) core (t, fit) (behind, more) = one fit.waiting
    where
      set_apart : frame.ops ≡ [] → (v : ℕ) → handler_variable frame.exit v ≡ true → sets frame.into v ≡ false
      set_apart is v h =
          ap (λ o. sets o v) (sym behind.into) ∙ apart frame.graph frame.block behind.placed.block behind.placed.of behind.before behind.call (behind.placed.left ∙ ap (λ l. behind.call ∷ l) is) v (ap (λ x. handler_variable x v) behind.placed.end ∙ h)

      one : FramesFit p (length core.blocks) t (frame ∷ frames) → NextNames p (core.blocks, core.statics) (IsHeld p (Throwing value (frame ∷ frames) core)) (caught p value frame.ops frame.exit frames (resumed frame core))
      one (graph, waits, rest) =
          caught_names p closed (Kept value frame frames core) value frame.ops frame.exit frames (resumed frame core) graph waits.of waits.exit (out_value value frame frames core)
          (λ v b is h r. out_frame value frame frames core v b (left_alone value frame frames core v (ap (λ l. live l frame.exit v) is ∙ or_right _ _ h) (set_apart is v h)) r) (out_slot value frame frames core) (out_waiting value frame frames core)

  -- ---- operations

  module _ (o : LlOp) (ops : List LlOp) (e : LlExit) (frames : List Frame) (core : Core) where
    abbrev Start : State
    Start = At (o ∷ ops) e frames core

    is_read : (v b : ℕ) → among v (reads o) ≡ true → read core.vars v ≡ Ptr b → IsHeld p Start b
    is_read v b h r = at_var p (o ∷ ops) e frames core v b (or_left (among v (reads o)) _ h) r

    is_left : (v b : ℕ) → sets (set_by o) v ≡ false → live ops e v ≡ true → read core.vars v ≡ Ptr b → IsHeld p Start b
    is_left v b s l r = at_var p (o ∷ ops) e frames core v b (or_right (among v (reads o)) _ (ap (λ s. not s && live ops e v) s ∙ l)) r

    apart_from : (a v : ℕ) → set_by o ≡ Some a → ((a ≡ v) → ⊥) → sets (set_by o) v ≡ false
    apart_from a v is ne = ap (λ s. sets s v) is ∙ one (a == v) refl
      where
        one : (d : Bool) → (a == v) ≡ d → d ≡ false
        one true i = absurd (ne (is_same a v i))
        one false i = refl

    -- a variable takes a value
    set_roots : (good : ℕ → Type 0) (next : Core) (a : ℕ) (value : Value) → set_by o ≡ Some a → next.vars ≡ slice_set core.vars a value → slots next ≡ slots core → ((b : ℕ) → IsHeld p Start b → good b) → ((b : ℕ) → value ≡ Ptr b → good b) → RootsAre p (At ops e frames next) good
    set_roots good next a value is vars slot on val =
        at_all p good ops e frames next (λ v b l r. by v b l (set_read core.vars a v b value (ap (λ l. read l v) (sym vars) ∙ r))) (λ b h. on b (at_slot p (o ∷ ops) e frames core b (subst (λ l. 0 < times b l) slot h))) (λ b h. on b (at_waiting p (o ∷ ops) e frames core b h))
      where
        by : (v b : ℕ) → live ops e v ≡ true → ((a ≡ v) × (value ≡ Ptr b)) ⊎ (((a ≡ v) → ⊥) × (read core.vars v ≡ Ptr b)) → good b
        by v b l (inl k) = val b k.1
        by v b l (inr k) = on b (is_left v b (apart_from a v is k.0) l k.1)

    -- no variable takes one
    same_roots : (next : Core) → set_by o ≡ None → next.vars ≡ core.vars → ((b : ℕ) → 0 < times b (slots next) → IsHeld p Start b) → RootsAre p (At ops e frames next) (IsHeld p Start)
    same_roots next is vars slot =
        at_all p (IsHeld p Start) ops e frames next (λ v b l r. is_left v b (ap (λ s. sets s v) is) l (ap (λ l. read l v) (sym vars) ∙ r)) slot (at_waiting p (o ∷ ops) e frames core)

    -- ---- values that are set

    assigned_effect : (a : ℕ) (value : Value) → set_by o ≡ Some a → ((b : ℕ) → value ≡ Ptr b → IsHeld p Start b) → NextEffect p Start (goes_on (At ops e frames) (st.assigned core a value))
    assigned_effect a value is val = Same refl (set_roots (IsHeld p Start) (record core { at = core.at + 1; vars = slice_set core.vars a value }) a value is refl refl (λ b h. h) val)

    either_effect : (d : Bool) (x y : Next) → NextEffect p Start x → NextEffect p Start y → NextEffect p Start (cond d x y)
    either_effect true x y h k = h
    either_effect false x y h k = k

    either_after : (d : Bool) (x y : After) → NextEffect p Start (goes_on (At ops e frames) x) → NextEffect p Start (goes_on (At ops e frames) y) → NextEffect p Start (goes_on (At ops e frames) (cond d x y))
    either_after true x y h k = h
    either_after false x y h k = k

    set_effect : (a : ℕ) (value : Value) → set_by o ≡ Some a → ((b : ℕ) → value ≡ Ptr b → IsHeld p Start b) → NextEffect p Start (goes_on (At ops e frames) (st.set core a value))
    set_effect a value is val = either_after (is_unset value) (Stuck IsUnset) (st.assigned core a value) tt (assigned_effect a value is val)

    answer_effect : (a : ℕ) (answer : Answer) (t : LlType) → set_by o ≡ Some a → ((b : ℕ) → Fits p 0 t (Ptr b) → ⊥) → AnswerFits p 0 t answer → NextEffect p Start (goes_on (At ops e frames) (st.answered core a answer))
    answer_effect a (Ok value) t is never fits = assigned_effect a value is (λ b i. absurd (never b (subst (Fits p 0 t) i fits)))
    answer_effect a (Err reason) t is never fits = tt

    -- ---- blocks that are read

    -- what a block that is found names is held
    found_holds : StaticsNameNone core → (pointer : Value) (block : Block) → block_at core pointer ≡ Some block → ((m : ℕ) → pointer ≡ Ptr m → IsHeld p Start m) → (b : ℕ) → 0 < times b (block.fields ++ block.items) → IsHeld p Start b
    found_holds statics (Ptr m) block at h b k = From (h m refl) (subst (λ (o : Option Block). 0 < times b (cells o)) (sym at) k)
    found_holds statics (Static g) block at h b k = absurd (let z : times b (block.fields ++ block.items) ≡ 0 = statics g block at b in omega (arith, z, k))
    found_holds statics Unset block at h b k = absurd (cc)
    found_holds statics (Word z) block at h b k = absurd (cc)
    found_holds statics (Rattle.csub_tree.specs.State.Byte z) block at h b k = absurd (cc)
    found_holds statics (Rattle.csub_tree.specs.State.Flag z) block at h b k = absurd (cc)
    found_holds statics (Rattle.csub_tree.specs.State.Fun f) block at h b k = absurd (cc)
    found_holds statics Null block at h b k = absurd (cc)

    with_found : (n : ℕ) (pointer : Value) (go : Block → After) → ((block : Block) → block_at core pointer ≡ Some block → NextEffect p Start (goes_on (At ops e frames) (go block))) → NextEffect p Start (goes_on (At ops e frames) (on_block go (reached core (shapes_of p.structs) n pointer)))
    with_found n pointer go h = one (reached core (shapes_of p.structs) n pointer) refl
      where
        one : (r : Result Block StuckReason) → reached core (shapes_of p.structs) n pointer ≡ r → NextEffect p Start (goes_on (At ops e frames) (on_block go r))
        one (Ok block) i = h block (reached_there core (shapes_of p.structs) n pointer block i)
        one (Err reason) i = tt

    with_option : {A : Type 0} (go : A → After) → ((x : A) → NextEffect p Start (goes_on (At ops e frames) (go x))) → (o : Option A) → NextEffect p Start (goes_on (At ops e frames) (st.on go o))
    with_option go h None = tt
    with_option go h (Some x) = h x

    -- ---- blocks that are made

    made_effect : (a n items : ℕ) → set_by o ≡ Some a → NextEffect p Start (goes_on (At ops e frames) (st.new_block core (shapes_of p.structs) a n items))
    made_effect a n items is =
        Makes (record { kind = n; fields = replicate (shape_at (shapes_of p.structs) n).size Unset; items = replicate items Unset })
        (λ b. times_both b (replicate (shape_at (shapes_of p.structs) n).size Unset) (replicate items Unset) (times_unset b (shape_at (shapes_of p.structs) n).size) (times_unset b items))
        (references_both (replicate (shape_at (shapes_of p.structs) n).size Unset) (replicate items Unset) (references_unset (shape_at (shapes_of p.structs) n).size) (references_unset items)) refl refl
        (set_roots (λ b. IsHeld p Start b ⊎ (b ≡ length core.blocks))
        (record core { at = core.at + 1; vars = slice_set core.vars a (Ptr (length core.blocks)); blocks = core.blocks ++ Some (record { kind = n; fields = replicate (shape_at (shapes_of p.structs) n).size Unset; items = replicate items Unset }) ∷ [] })
        a (Ptr (length core.blocks)) is refl refl (λ b h. inl h) (λ b i. inr (sym (cc))))

    items_effect : (a n : ℕ) (z : ℤ) → set_by o ≡ Some a → NextEffect p Start (goes_on (At ops e frames) (st.new_items core (shapes_of p.structs) a n z))
    items_effect a n (pos items) is = made_effect a n items is
    items_effect a n (negsuc items) is = tt

    -- ---- blocks that are written

    stored_effect : (pointer : Value) (old new : Block) → set_by o ≡ None → block_at core pointer ≡ Some old → ((b : ℕ) → 0 < times b (new.fields ++ new.items) → (0 < times b (old.fields ++ old.items)) ⊎ IsHeld p Start b)
        → (n : ℕ) → into_static Start ≡ within_static pointer n → (n ≡ 0 → (b : ℕ) → 0 < times b (new.fields ++ new.items) → 0 < times b (old.fields ++ old.items)) → references (new.fields ++ new.items) ≤ references (old.fields ++ old.items) + stored Start → NextEffect p Start (goes_on (At ops e frames) (st.stored core pointer new))
    stored_effect (Ptr m) old new is at names n into none few = Writes m old new at refl refl names few (same_roots (record core { at = core.at + 1; blocks = slice_set core.blocks m (Some new) }) is refl (at_slot p (o ∷ ops) e frames core))
    stored_effect (Static g) old new is at names n into none few = WritesStatic g old new at refl refl (λ z. none (sym into ∙ z)) (same_roots (record core { at = core.at + 1; statics = slice_set core.statics g new }) is refl (at_slot p (o ∷ ops) e frames core))
    stored_effect Unset old new is at names n into none few = tt
    stored_effect (Word z) old new is at names n into none few = tt
    stored_effect (Rattle.csub_tree.specs.State.Byte z) old new is at names n into none few = tt
    stored_effect (Rattle.csub_tree.specs.State.Flag z) old new is at names n into none few = tt
    stored_effect (Rattle.csub_tree.specs.State.Fun f) old new is at names n into none few = tt
    stored_effect Null old new is at names n into none few = tt

    -- a field or an item takes a value that is held
    wrote_field : (pointer : Value) (old : Block) (k : ℕ) (x : Value) → set_by o ≡ None → stored Start ≡ reference_in x → into_static Start ≡ within_static pointer (reference_in x) → block_at core pointer ≡ Some old → ((b : ℕ) → x ≡ Ptr b → IsHeld p Start b)
        → NextEffect p Start (goes_on (At ops e frames) (st.stored core pointer (record old { fields = slice_set old.fields k x })))
    wrote_field pointer old k x is count into at val =
        stored_effect pointer old (record old { fields = slice_set old.fields k x }) is at (λ b h. field_names old k b x (IsHeld p Start b) (val b) h)
        (reference_in x) into (λ z b h. first_of (field_names old k b x ⊥ (no_pointer x b z) h))
        (let f : references (slice_set old.fields k x ++ old.items) ≡ references (slice_set old.fields k x) + references old.items = references_append (slice_set old.fields k x) old.items in
        let g : references (old.fields ++ old.items) ≡ references old.fields + references old.items = references_append old.fields old.items in
        let h : references (slice_set old.fields k x) ≤ references old.fields + reference_in x = references_set old.fields k x in omega (arith, f, g, h, count))

    wrote_item : (pointer : Value) (old : Block) (k : ℕ) (x : Value) → set_by o ≡ None → stored Start ≡ reference_in x → into_static Start ≡ within_static pointer (reference_in x) → block_at core pointer ≡ Some old → ((b : ℕ) → x ≡ Ptr b → IsHeld p Start b)
        → NextEffect p Start (goes_on (At ops e frames) (st.stored core pointer (record old { items = slice_set old.items k x })))
    wrote_item pointer old k x is count into at val =
        stored_effect pointer old (record old { items = slice_set old.items k x }) is at (λ b h. item_names old k b x (IsHeld p Start b) (val b) h)
        (reference_in x) into (λ z b h. first_of (item_names old k b x ⊥ (no_pointer x b z) h))
        (let f : references (old.fields ++ slice_set old.items k x) ≡ references old.fields + references (slice_set old.items k x) = references_append old.fields (slice_set old.items k x) in
        let g : references (old.fields ++ old.items) ≡ references old.fields + references old.items = references_append old.fields old.items in
        let h : references (slice_set old.items k x) ≤ references old.items + reference_in x = references_set old.items k x in omega (arith, f, g, h, count))

    -- an operand that is read names what is held
    operand_held : (x : COperand) → ((v : ℕ) → among v (variables_of x) ≡ true → among v (reads o) ≡ true) → (b : ℕ) → operand core.vars x ≡ Ptr b → IsHeld p Start b
    operand_held x used b i = one (operand_from core.vars x b i)
      where
        one : (v : ℕ) × (among v (variables_of x) ≡ true) × (read core.vars v ≡ Ptr b) → IsHeld p Start b
        one (v, a, r) = is_read v b (used v a) r

    operands_held : (xs : List COperand) → ((v : ℕ) → among v (variables_in xs) ≡ true → among v (reads o) ≡ true) → (b : ℕ) → 0 < times b (operands core.vars xs) → IsHeld p Start b
    operands_held xs used b h = one (operands_from core.vars xs b h)
      where
        one : (v : ℕ) × (among v (variables_in xs) ≡ true) × (read core.vars v ≡ Ptr b) → IsHeld p Start b
        one (v, a, r) = is_read v b (used v a) r

    -- ---- calls

    call_effect : PlacedAt p core.function core.block core.at (o ∷ ops) e → (f : ℕ) (into : Option ℕ) (xs : List COperand) → set_by o ≡ into → ((v : ℕ) → among v (variables_in xs) ≡ true → among v (reads o) ≡ true) → NextEffect p Start (Goes (Calling f (operands core.vars xs) (waiting core into ops e ∷ frames) core))
    call_effect placed f into xs is used =
        Same refl (calling_all p (IsHeld p Start) f (operands core.vars xs) (waiting core into ops e ∷ frames) core (operands_held xs used) (at_slot p (o ∷ ops) e frames core)
        (waiting_all p (IsHeld p Start) (waiting core into ops e) frames (λ v b w r. at_var p (o ∷ ops) e frames core v b (live_here v w) r) (at_waiting p (o ∷ ops) e frames core)))
      where
        under : under_way p (waiting core into ops e) ≡ Some o
        under = under_is p o ops e into core placed

        live_here : (v : ℕ) → waits_for p (waiting core into ops e) v ≡ true → live (o ∷ ops) e v ≡ true
        live_here v w = ap (λ l. among v (reads o) || (not (sets l v) && live ops e v)) is ∙ (ap (λ l. read_by l v || (not (sets into v) && live ops e v)) (sym under) ∙ w)

  -- ---- each operation

  head_read : (b : ℕ) (more : List ℕ) → among b (b ∷ more) ≡ true
  head_read b more = or_left (b == b) (among b more) (same_number b)

  word_apart : (a : ℕ) → Fits p 0 type.Signed (Ptr a) → ⊥
  word_apart a h = h

  unary_apart : (o : CUnary) (b : ℕ) → Fits p 0 (unary_gives o) (Ptr b) → ⊥
  unary_apart Rattle.csub_tree.specs.declared.tree.CUnary.TheVariants.Neg b h = h
  unary_apart Rattle.csub_tree.specs.declared.tree.CUnary.TheVariants.Inv b h = h
  unary_apart Rattle.csub_tree.specs.declared.tree.CUnary.TheVariants.Not b h = h
  unary_apart Rattle.csub_tree.specs.declared.tree.CUnary.TheVariants.C2S b h = h
  unary_apart Rattle.csub_tree.specs.declared.tree.CUnary.TheVariants.S2C b h = h
  unary_apart Rattle.csub_tree.specs.declared.tree.CUnary.TheVariants.B2S b h = h

  binary_apart : (d : Bool) (b : ℕ) → Fits p 0 (if d then type.Bool else type.Signed) (Ptr b) → ⊥
  binary_apart true b h = h
  binary_apart false b h = h

  in_range_effect : (o : LlOp) (ops : List LlOp) (e : LlExit) (frames : List Frame) (core : Core) (a : ℕ) → set_by o ≡ Some a → (r : Option ℕ) → NextEffect p (At (o ∷ ops) e frames core) (goes_on (At ops e frames) (st.in_range core a r))
  in_range_effect o ops e frames core a is None = tt
  in_range_effect o ops e frames core a is (Some n) = assigned_effect o ops e frames core a (Word (pos n)) is (λ b i. absurd (cc))

  paid_effect : (x : COperand) (ops : List LlOp) (e : LlExit) (frames : List Frame) (core : Core) (z : ℤ) → NextEffect p (At (op.Step x ∷ ops) e frames core) (goes_on (At ops e frames) (st.pay_steps core z))
  paid_effect x ops e frames core (pos cost) =
      either_after (op.Step x) ops e frames core (nat_le cost core.steps) (Onward (record core { at = core.at + 1; steps = core.steps - cost })) (Over Running core)
      (Same refl (same_roots (op.Step x) ops e frames core (record core { at = core.at + 1; steps = core.steps - cost }) refl refl (at_slot p (op.Step x ∷ ops) e frames core))) tt
  paid_effect x ops e frames core (negsuc cost) = tt

  put_effect : (x : COperand) (ops : List LlOp) (e : LlExit) (frames : List Frame) (core : Core) (z : ℤ) → NextEffect p (At (op.Put x ∷ ops) e frames core) (goes_on (At ops e frames) (st.put_word core z))
  put_effect x ops e frames core (pos byte) =
      either_after (op.Put x) ops e frames core (nat_lt byte 256) (PutsByte byte (record core { at = core.at + 1 })) _
      (Same refl (same_roots (op.Put x) ops e frames core (record core { at = core.at + 1 }) refl refl (at_slot p (op.Put x ∷ ops) e frames core))) tt
  put_effect x ops e frames core (negsuc n) = tt

  item_effect : (a n v : ℕ) (i : COperand) (ops : List LlOp) (e : LlExit) (frames : List Frame) (core : Core) → StaticsNameNone core → (block : Block) → block_at core (read core.vars v) ≡ Some block → (z : ℤ) → NextEffect p (At (op.GetItem a n v i ∷ ops) e frames core) (goes_on (At ops e frames) (st.item core a block.items z))
  item_effect a n v i ops e frames core statics block at (pos k) =
      either_after (op.GetItem a n v i) ops e frames core (nat_lt k (length block.items)) (st.set core a (read block.items k)) (Stuck Outside)
      (set_effect (op.GetItem a n v i) ops e frames core a (read block.items k) refl
      (λ b r. found_holds (op.GetItem a n v i) ops e frames core statics (read core.vars v) block at (λ m is. is_read (op.GetItem a n v i) ops e frames core v m (head_read v (variables_of i)) is) b (in_second b block.fields block.items (read_in b block.items k r)))) tt
  item_effect a n v i ops e frames core statics block at (negsuc k) = tt

  put_item_effect : (n v : ℕ) (i x : COperand) (ops : List LlOp) (e : LlExit) (frames : List Frame) (core : Core) (block : Block) → block_at core (read core.vars v) ≡ Some block → (z : ℤ) → NextEffect p (At (op.SetItem n v i x ∷ ops) e frames core) (goes_on (At ops e frames) (st.put_item core (read core.vars v) block z (operand core.vars x)))
  put_item_effect n v i x ops e frames core block at (pos k) =
      either_after (op.SetItem n v i x) ops e frames core (nat_lt k (length block.items)) _ (Stuck Outside)
      (wrote_item (op.SetItem n v i x) ops e frames core (read core.vars v) block k (operand core.vars x) refl refl refl at
      (operand_held (op.SetItem n v i x) ops e frames core x (λ w h. or_right (v == w) _ (among_append w (variables_of i) (variables_of x) ∙ or_right _ _ h)))) tt
  put_item_effect n v i x ops e frames core block at (negsuc k) = tt

  module _ (apart : HandlersReadOthers p) (raw : p.stage ≡ stage.Raw) where
    not_counted : is_counted p.stage ≡ false
    not_counted = ap is_counted raw

    called_value_effect : (o : LlOp) (ops : List LlOp) (e : LlExit) (frames : List Frame) (core : Core) → PlacedAt p core.function core.block core.at (o ∷ ops) e → (into : Option ℕ) (result : Option CType) (params : List CType) (xs : List COperand) → set_by o ≡ into → ((v : ℕ) → among v (variables_in xs) ≡ true → among v (reads o) ≡ true) → (f : Option ℕ)
        → NextEffect p (At (o ∷ ops) e frames core) (called_value p result params f (operands core.vars xs) (waiting core into ops e ∷ frames) core)
    called_value_effect o ops e frames core placed into result params xs is used None = tt
    called_value_effect o ops e frames core placed into result params xs is used (Some f) = one (slice_get p.graphs f)
      where
        one : (g : Option LlGraph) → NextEffect p (At (o ∷ ops) e frames core) (called_as result params f (operands core.vars xs) (waiting core into ops e ∷ frames) core g)
        one None = tt
        one (Some graph) = either_effect o ops e frames core (same_result (c_result graph.result) result && same_types (param_types graph) params) _ (Sticks Signature) (call_effect o ops e frames core placed f into xs is used) tt

    operation_effect : (o : LlOp) (ops : List LlOp) (e : LlExit) (frames : List Frame) (core : Core) (graph : LlGraph) → AtFits p (o ∷ ops) e frames core graph → PlacedAt p core.function core.block core.at (o ∷ ops) e → StaticsNameNone core → NextEffect p (At (o ∷ ops) e frames core) (operates p args o ops e frames core)
    operation_effect (op.Set a x) ops e frames core graph fit placed statics = set_effect (op.Set a x) ops e frames core a (operand core.vars x) refl (operand_held (op.Set a x) ops e frames core x (λ v h. h))
    operation_effect (op.Unary a o x) ops e frames core graph fit placed statics = answer_effect (op.Unary a o x) ops e frames core a (unary_of o (operand core.vars x)) (unary_gives o) refl (unary_apart o) (unary_fits p 0 o (operand core.vars x))
    operation_effect (op.Binary a o x y) ops e frames core graph fit placed statics =
        answer_effect (op.Binary a o x y) ops e frames core a (binary_of o (operand core.vars x) (operand core.vars y)) (binary_gives o) refl (binary_apart (gives_bool o)) (binary_fits p 0 o (operand core.vars x) (operand core.vars y))
    operation_effect (op.GetField a n v k) ops e frames core graph fit placed statics =
        with_found (op.GetField a n v k) ops e frames core n (read core.vars v) (λ block. st.set core a (read block.fields (place (shape_at (shapes_of p.structs) n) k)))
        (λ block at. set_effect (op.GetField a n v k) ops e frames core a (read block.fields (place (shape_at (shapes_of p.structs) n) k)) refl
        (λ b r. found_holds (op.GetField a n v k) ops e frames core statics (read core.vars v) block at (λ m is. is_read (op.GetField a n v k) ops e frames core v m (head_read v []) is) b
        (in_first b block.fields block.items (read_in b block.fields (place (shape_at (shapes_of p.structs) n) k) r))))
    operation_effect (op.SetField n v k x) ops e frames core graph fit placed statics =
        either_after (op.SetField n v k x) ops e frames core (is_unset (operand core.vars x)) (Stuck IsUnset) _ tt
        (with_found (op.SetField n v k x) ops e frames core n (read core.vars v) (λ block. st.stored core (read core.vars v) (record block { fields = slice_set block.fields (place (shape_at (shapes_of p.structs) n) k) (operand core.vars x) }))
        (λ block at. wrote_field (op.SetField n v k x) ops e frames core (read core.vars v) block (place (shape_at (shapes_of p.structs) n) k) (operand core.vars x) refl refl refl at (operand_held (op.SetField n v k x) ops e frames core x (λ w h. or_right (v == w) _ h))))
    operation_effect (op.GetItem a n v i) ops e frames core graph fit placed statics =
        with_option (op.GetItem a n v i) ops e frames core (λ z. on_block (λ block. st.item core a block.items z) (reached core (shapes_of p.structs) n (read core.vars v)))
        (λ z. with_found (op.GetItem a n v i) ops e frames core n (read core.vars v) (λ block. st.item core a block.items z) (λ block at. item_effect a n v i ops e frames core statics block at z)) (word_of (operand core.vars i))
    operation_effect (op.SetItem n v i x) ops e frames core graph fit placed statics =
        either_after (op.SetItem n v i x) ops e frames core (is_unset (operand core.vars x)) (Stuck IsUnset) _ tt
        (with_option (op.SetItem n v i x) ops e frames core (λ z. on_block (λ block. st.put_item core (read core.vars v) block z (operand core.vars x)) (reached core (shapes_of p.structs) n (read core.vars v)))
        (λ z. with_found (op.SetItem n v i x) ops e frames core n (read core.vars v) (λ block. st.put_item core (read core.vars v) block z (operand core.vars x)) (λ block at. put_item_effect n v i x ops e frames core block at z)) (word_of (operand core.vars i)))
    operation_effect (op.New a m n) ops e frames core graph fit placed statics = made_effect (op.New a m n) ops e frames core a n 0 refl
    operation_effect (op.NewArray a m n x) ops e frames core graph fit placed statics =
        with_option (op.NewArray a m n x) ops e frames core (st.new_items core (shapes_of p.structs) a n) (λ z. items_effect (op.NewArray a m n x) ops e frames core a n z refl) (word_of (operand core.vars x))
    operation_effect (op.Free a) ops e frames core graph fit placed statics = absurd (let h : is_counted p.stage ≡ true = and_left _ _ (and_left _ _ fit.left) in let n : is_counted p.stage ≡ false = not_counted in cc)
    operation_effect (op.Step x) ops e frames core graph fit placed statics = with_option (op.Step x) ops e frames core (st.pay_steps core) (paid_effect x ops e frames core) (word_of (operand core.vars x))
    operation_effect (op.Call into f xs) ops e frames core graph fit placed statics =
        either_effect (op.Call into f xs) ops e frames core (any_unset (operands core.vars xs)) (Sticks IsUnset) _ tt (call_effect (op.Call into f xs) ops e frames core placed f into xs refl (λ v h. h))
    operation_effect (op.CallFn into result params b xs) ops e frames core graph fit placed statics =
        either_effect (op.CallFn into result params b xs) ops e frames core (is_unset (read core.vars b) || any_unset (operands core.vars xs)) (Sticks IsUnset) _ tt
        (called_value_effect (op.CallFn into result params b xs) ops e frames core placed into (c_result result) (map c_type params) xs refl (λ v h. or_right (b == v) _ h) (fun_of (read core.vars b)))
    operation_effect (op.ExcType a n) ops e frames core graph fit placed statics = assigned_effect (op.ExcType a n) ops e frames core a core.exc_type refl (λ b i. at_slot p (op.ExcType a n ∷ ops) e frames core b (head_in b core.exc_type (core.exc_value ∷ []) i))
    operation_effect (op.ExcValue a n) ops e frames core graph fit placed statics =
        assigned_effect (op.ExcValue a n) ops e frames core a core.exc_value refl (λ b i. at_slot p (op.ExcValue a n ∷ ops) e frames core b (tail_in b core.exc_type (core.exc_value ∷ []) (head_in b core.exc_value [] i)))
    operation_effect (op.ExcSet a b) ops e frames core graph fit placed statics =
        either_after (op.ExcSet a b) ops e frames core (is_unset (read core.vars a) || is_unset (read core.vars b)) (Stuck IsUnset) _ tt
        (Same refl (same_roots (op.ExcSet a b) ops e frames core (record core { at = core.at + 1; exc_type = read core.vars a; exc_value = read core.vars b }) refl refl slot))
      where
        last : (n : ℕ) → (read core.vars b ≡ Ptr n) ⊎ (0 < times n []) → IsHeld p (At (op.ExcSet a b ∷ ops) e frames core) n
        last n (inl i) = is_read (op.ExcSet a b) ops e frames core b n (or_right (a == b) _ (head_read b [])) i
        last n (inr h) = absurd (omega (arith, h))

        first : (n : ℕ) → (read core.vars a ≡ Ptr n) ⊎ (0 < times n (read core.vars b ∷ [])) → IsHeld p (At (op.ExcSet a b ∷ ops) e frames core) n
        first n (inl i) = is_read (op.ExcSet a b) ops e frames core a n (head_read a (b ∷ [])) i
        first n (inr h) = last n (at_head n (read core.vars b) [] h)

        slot : (n : ℕ) → 0 < times n (read core.vars a ∷ read core.vars b ∷ []) → IsHeld p (At (op.ExcSet a b ∷ ops) e frames core) n
        slot n h = first n (at_head n (read core.vars a) (read core.vars b ∷ []) h)
    operation_effect op.ExcClear ops e frames core graph fit placed statics = Same refl (same_roots op.ExcClear ops e frames core (record core { at = core.at + 1; exc_type = Null; exc_value = Null }) refl refl (λ n h. absurd (omega (arith, h))))
    operation_effect (op.Argc a) ops e frames core graph fit placed statics = assigned_effect (op.Argc a) ops e frames core a (Word (pos (length args))) refl (λ b i. absurd (cc))
    operation_effect (op.ArgLen a x) ops e frames core graph fit placed statics =
        with_option (op.ArgLen a x) ops e frames core (λ i. st.in_range core a (option_map length (argument args i))) (λ i. in_range_effect (op.ArgLen a x) ops e frames core a refl (option_map length (argument args i))) (word_of (operand core.vars x))
    operation_effect (op.Arg a x y) ops e frames core graph fit placed statics =
        with_option (op.Arg a x y) ops e frames core (λ i. st.on (λ j. st.in_range core a (byte_in (argument args i) j)) (word_of (operand core.vars y)))
        (λ i. with_option (op.Arg a x y) ops e frames core (λ j. st.in_range core a (byte_in (argument args i) j)) (λ j. in_range_effect (op.Arg a x y) ops e frames core a refl (byte_in (argument args i) j)) (word_of (operand core.vars y))) (word_of (operand core.vars x))
    operation_effect (op.Put x) ops e frames core graph fit placed statics = with_option (op.Put x) ops e frames core (st.put_word core) (put_effect x ops e frames core) (word_of (operand core.vars x))
    operation_effect (op.Raise a) ops e frames core graph fit placed statics =
        either_effect (op.Raise a) ops e frames core (is_unset (read core.vars a)) (Sticks IsUnset) _ tt
        (named p (At (op.Raise a ∷ ops) e frames core) (caught p (read core.vars a) ops e frames core)
        (caught_names p closed (IsHeld p (At (op.Raise a ∷ ops) e frames core)) (read core.vars a) ops e frames core graph fit.of fit.end (λ b i. is_read (op.Raise a) ops e frames core a b (head_read a []) i)
        (λ v b is h r. is_left (op.Raise a) ops e frames core v b refl (ap (λ l. live l e v) is ∙ or_right _ _ h) r) (at_slot p (op.Raise a ∷ ops) e frames core) (at_waiting p (op.Raise a ∷ ops) e frames core)))

    -- ---- each step

    pub step_effect : (s : State) → StateFits p s → IsPlaced p s → StaticsNameNone (core_of s) → NextEffect p s (step p args s)
    step_effect (Calling f values frames core) fit placed statics = named p (Calling f values frames core) (entered f values frames core (slice_get p.graphs f)) (entered_names f values frames core (slice_get p.graphs f))
    step_effect (At [] e frames core) (graph, fit) placed statics = named p (At [] e frames core) (leaves p e frames core) (leaves_names frames core graph fit.of e fit.end)
    step_effect (At (o ∷ ops) e frames core) (graph, fit) (placed, more) statics = operation_effect o ops e frames core graph fit placed statics
    step_effect (Returning value frames core) fit placed statics = named p (Returning value frames core) (returned value frames core) (back_names value frames core)
    step_effect (Throwing value frames core) fit placed statics = named p (Throwing value frames core) (thrown p value frames core) (thrown_names apart value frames core fit placed)
