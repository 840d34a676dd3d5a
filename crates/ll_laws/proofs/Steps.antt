-- Each step of a well-typed program leads from a state that fits to one that fits.
use Rattle.std.proofs.Common.{◌≡◌, ◌<◌, ◌≤◌, ℕ, zero, suc, ◌+◌, ◌-◌, Bool, true, false, ◌&&◌, ◌||◌, List, [], ◌∷◌, ◌++◌, length, map, replicate, Option, Some, None, refl, sym, ap, ◌∙◌, subst, arith, ℤ}
use Rattle.std.specs.Prelude.{slice_get, slice_set, cond}
use Rattle.csub_tree.specs.State.{Value, Unset, Word, Core, After, Onward, Puts as PutsByte, Told, Over, Stuck}
use Rattle.csub_tree.specs.Operation.{is_unset, flag_of, word_of}
use Rattle.csub_tree.specs.Statement.{read, operand, operands, any_unset, taken_by, ended, fail, fail_name_of, raised, raised_as, bytes_of, fun_of, same_result, same_types, same_type}
use Rattle.csub_tree.specs.declared.stuck.StuckReason.TheVariants.{Unset as IsUnset, Signature}
use Rattle.csub_tree.specs.declared.tree.CType.{CType}
use Rattle.csub_tree.specs.declared.tree.CType.TheVariants as c
use Rattle.csub_tree.specs.declared.tree.COperand.{COperand}
use Rattle.rpy_base.specs.declared.outcome.FailName.{FailName}
use Rattle.ll_code.specs.declared.program.LlType.{LlType}
use Rattle.ll_code.specs.declared.program.LlType.TheVariants as type
use Rattle.ll_code.specs.declared.program.LlStruct.{LlStruct}
use Rattle.ll_code.specs.declared.program.LlLink.{LlLink}
use Rattle.ll_code.specs.declared.program.LlOp.{LlOp}
use Rattle.ll_code.specs.declared.program.LlOp.TheVariants as op
use Rattle.ll_code.specs.declared.program.LlExit.{LlExit}
use Rattle.ll_code.specs.declared.program.LlExit.TheVariants as exit
use Rattle.ll_code.specs.declared.program.LlBlock.{LlBlock}
use Rattle.ll_code.specs.declared.program.LlGraph.{LlGraph}
use Rattle.ll_code.specs.declared.program.LlProgram.{LlProgram}
use Rattle.ll_code.specs.State.{Frame, State, Calling, At, Returning, Throwing, Next, Goes, Sticks}
use Rattle.ll_code.specs.Machine.{c_type, c_result, goes_on, set_all, begins, block_in, jump, branch, caught_by, caught, waiting, resumed, called, type_or_word, param_types, called_as, called_value, enters, entered, returned, thrown, given, operates, gives_back, type_in, leaves, step, does, shapes_of}
use Rattle.ll_code.specs.Typed as typed
use Rattle.ll_code.specs.Typed.{IsWellTyped, given_takes, all_given, all_taken, takes, result_ok, operation_ok, operations_ok, exit_ok, link_ok, block_ok, blocks_ok, graph_ok, graphs_ok, structs_ok, params_ok, is_type, are_types, is_kind, is_type_given, points, is_void, call_ok}
use Rattle.ll_laws.specs.Fits.{Fits, exception, AllFit, CoreFits, Follows, AfterFits}
use Rattle.ll_laws.specs.States.{FramesFit, CallingFits, LeavesFits, StateFits, NextFits}
use Rattle.ll_laws.proofs.Values.{and_left, and_right, is_same, has_type_is, operand_fits}
use Rattle.ll_laws.proofs.Operations.{vars_set, any_pointer, pointer_at}
use Rattle.std.proofs.lemmas.Option.{slice_get_within}
use Rattle.ll_laws.proofs.Cells.{length_both}
use Rattle.ll_laws.proofs.Heap.{length_unset, all_more, unset_at, reached_fits, operation_fits}

-- ---- lists

block_at : (p : LlProgram) (g : LlGraph) (blocks : List LlBlock) (n : ℕ) (b : LlBlock) → blocks_ok p g blocks ≡ true → slice_get blocks n ≡ Some b → block_ok p g b ≡ true
block_at p g [] n b ok e = absurd (cc)
block_at p g (x ∷ blocks) zero b ok e = let f : x ≡ b = cc in subst (λ b. block_ok p g b ≡ true) f (and_left _ _ ok)
block_at p g (x ∷ blocks) (suc n) b ok e = block_at p g blocks n b (and_right _ _ ok) e

graph_at : (p : LlProgram) (graphs : List LlGraph) (n : ℕ) (g : LlGraph) → graphs_ok p graphs ≡ true → slice_get graphs n ≡ Some g → graph_ok p g ≡ true
graph_at p [] n g ok e = absurd (cc)
graph_at p (x ∷ graphs) zero g ok e = let f : x ≡ g = cc in subst (λ g. graph_ok p g ≡ true) f (and_left _ _ ok)
graph_at p (x ∷ graphs) (suc n) g ok e = graph_at p graphs n g (and_right _ _ ok) e

read_filled : (values : List Value) (n k : ℕ) → read (values ++ replicate n Unset) k ≡ read values k
read_filled [] n k = unset_at n k
read_filled (v ∷ values) n zero = refl
read_filled (v ∷ values) n (suc k) = read_filled values n k

-- ---- with more blocks made

frames_more : (p : LlProgram) (made more : ℕ) → made ≤ more → (result : LlType) (frames : List Frame) → FramesFit p made result frames → FramesFit p more result frames
frames_more p made more le result [] h = h
frames_more p made more le result (frame ∷ frames) (g, w, h) =
    (g, record { of = w.of; vars = all_more p made more le g.types frame.vars w.vars; into = w.into; ops = w.ops; exit = w.exit }, frames_more p made more le g.result frames h)

-- ---- types of a file

same_c : (structs : List LlStruct) (t u : LlType) → is_type structs t ≡ true → is_type structs u ≡ true → same_type (c_type t) (c_type u) ≡ true → t ≡ u
same_c structs type.Signed type.Signed h k e = refl
same_c structs type.Char type.Char h k e = refl
same_c structs type.Bool type.Bool h k e = refl
same_c structs type.Fn type.Fn h k e = refl
same_c structs (type.Ptr m) (type.Ptr n) h k e = ap type.Ptr (is_same m n e)
same_c structs t u h k e = absurd (cc)

same_given : (structs : List LlStruct) (t u : LlType) → is_kind structs t ≡ true → is_kind structs u ≡ true → same_result (c_result t) (c_result u) ≡ true → t ≡ u
same_given structs type.Signed type.Signed h k e = refl
same_given structs type.Char type.Char h k e = refl
same_given structs type.Bool type.Bool h k e = refl
same_given structs type.Void type.Void h k e = refl
same_given structs type.Fn type.Fn h k e = refl
same_given structs (type.Ptr m) (type.Ptr n) h k e = ap type.Ptr (is_same m n e)
same_given structs t u h k e = absurd (cc)

module _ (p : LlProgram) where
  choice_next : (b : Bool) (x y : Next) → NextFits p x → NextFits p y → NextFits p (cond b x y)
  choice_next true x y h k = h
  choice_next false x y h k = k

  -- ---- a graph that runs

  module _ (g : LlGraph) (frames : List Frame) (core : Core) (of : slice_get p.graphs core.function ≡ Some g) (good : graph_ok p g ≡ true) (fit : CoreFits p g.types core)
      (waits : FramesFit p (length core.blocks) g.result frames) where
    followed : (ops : List LlOp) (exit : LlExit) (next : Core) → operations_ok p g.types ops ≡ true → exit_ok p g exit ≡ true → Follows p g.types core next → StateFits p (At ops exit frames next)
    followed ops exit next h k f =
        (g, record { of = ap (slice_get p.graphs) f.graph ∙ of; fits = f.fits; left = h; end = k; waiting = frames_more p (length core.blocks) (length next.blocks) f.grows g.result frames waits })

    goes_fit : (ops : List LlOp) (exit : LlExit) (after : After) → operations_ok p g.types ops ≡ true → exit_ok p g exit ≡ true → AfterFits p g.types core after → NextFits p (goes_on (At ops exit frames) after)
    goes_fit ops exit (Onward next) h k f = followed ops exit next h k f
    goes_fit ops exit (PutsByte byte next) h k f = followed ops exit next h k f
    goes_fit ops exit (Told event next) h k f = followed ops exit next h k f
    goes_fit ops exit (Over outcome next) h k f = tt
    goes_fit ops exit (Stuck reason) h k f = tt

    -- ---- links

    given_value : (o : Option LlType) (t : LlType) (x : COperand) → o ≡ Some t → given_takes p g.types o x ≡ true → Fits p (length core.blocks) t (operand core.vars x)
    given_value None t x e h = absurd (cc)
    given_value (Some u) t x e h = let f : u ≡ t = cc in subst (λ t. Fits p (length core.blocks) t (operand core.vars x)) f (operand_fits p (length core.blocks) g.types core.vars fit.vars u x h)

    set_given : (vars : List Value) (v : ℕ) (o : Option LlType) (x : COperand) → AllFit p (length core.blocks) g.types vars → slice_get g.types v ≡ o → given_takes p g.types o x ≡ true
        → AllFit p (length core.blocks) g.types (slice_set vars v (operand core.vars x))
    set_given vars v None x h e k = absurd (cc)
    set_given vars v (Some t) x h e k = vars_set p (length core.blocks) g.types vars v t (operand core.vars x) h e (given_value (Some t) t x refl k)

    inputs_fit : (vars : List Value) (vs : List ℕ) (xs : List COperand) → AllFit p (length core.blocks) g.types vars → all_given p g.types g.types vs xs ≡ true
        → AllFit p (length core.blocks) g.types (set_all vars vs (operands core.vars xs))
    inputs_fit vars [] xs h k = h
    inputs_fit vars (v ∷ vs) [] h k = h
    inputs_fit vars (v ∷ vs) (x ∷ xs) h k = inputs_fit (slice_set vars v (operand core.vars x)) vs xs (set_given vars v (slice_get g.types v) x h refl (and_left _ _ k)) (and_right _ _ k)

    begins_fits : (to : ℕ) (xs : List COperand) (o : Option LlBlock) → slice_get g.blocks to ≡ o → typed.enters p g.types o xs ≡ true → NextFits p (begins frames core to (operands core.vars xs) o)
    begins_fits to xs None e h = tt
    begins_fits to xs (Some b) e h =
        let ok : block_ok p g b ≡ true = block_at p g g.blocks to b (and_right _ _ good) e in
        (g, record { of = of; fits = record { vars = inputs_fit core.vars b.inputs xs fit.vars h; memory = fit.memory }; left = and_left _ _ ok; end = and_right _ _ ok; waiting = waits })

    jump_fits : (link : LlLink) → link_ok p g link ≡ true → NextFits p (jump p frames core link)
    jump_fits link h =
        choice_next (any_unset (operands core.vars link.args)) (Sticks IsUnset) (begins frames core link.to (operands core.vars link.args) (block_in (slice_get p.graphs core.function) link.to)) tt
        (subst (λ o. NextFits p (begins frames core link.to (operands core.vars link.args) (block_in o link.to))) (sym of) (begins_fits link.to link.args (slice_get g.blocks link.to) refl h))

    branch_fits : (there elsewhere : LlLink) (o : Option Bool) → link_ok p g there ≡ true → link_ok p g elsewhere ≡ true → NextFits p (branch p frames core there elsewhere o)
    branch_fits there elsewhere None h k = tt
    branch_fits there elsewhere (Some true) h k = jump_fits there h
    branch_fits there elsewhere (Some false) h k = jump_fits elsewhere k

    throws : (value : Value) → Fits p (length core.blocks) exception value → StateFits p (Throwing value frames core)
    throws value h = (g.result, record { fits = h; waiting = waits; memory = fit.memory })

  -- ---- exceptions

  module _ (g : LlGraph) (frames : List Frame) (core : Core) (of : slice_get p.graphs core.function ≡ Some g) (good : graph_ok p g ≡ true) (fit : CoreFits p g.types core)
      (waits : FramesFit p (length core.blocks) g.result frames) (value : Value) (pointer : Fits p (length core.blocks) exception value) where
    lands : (a : ℕ) (o : Option LlType) → slice_get g.types a ≡ o → points o ≡ true → CoreFits p g.types (record core { vars = slice_set core.vars a value })
    lands a (Some (type.Ptr n)) e h = record {
      vars = vars_set p (length core.blocks) g.types core.vars a (type.Ptr n) value fit.vars e (any_pointer p (length core.blocks) 0 n value pointer);
      memory = fit.memory;
    }
    lands a other e h = absurd (cc)

    caught_by_fits : (exit : LlExit) → exit_ok p g exit ≡ true → NextFits p (caught_by p value frames core exit)
    caught_by_fits (exit.OnRaise a (Some link) without) h =
        jump_fits g frames (record core { vars = slice_set core.vars a value }) of good (lands a (slice_get g.types a) refl (and_right _ _ (and_left _ _ (and_left _ _ h)))) waits link (and_right _ _ (and_left _ _ h))
    caught_by_fits other h = throws g frames core of good fit waits value pointer

    caught_fits : (ops : List LlOp) (exit : LlExit) → exit_ok p g exit ≡ true → NextFits p (caught p value ops exit frames core)
    caught_fits [] exit h = caught_by_fits exit h
    caught_fits (o ∷ ops) exit h = throws g frames core of good fit waits value pointer

  -- ---- calls

  -- values that are given to the parameters are of the types of the first variables
  parameters_fit : (others : List LlType) (made n : ℕ) (types : List LlType) (vars : List Value) → AllFit p made types vars → (vs : List ℕ) (xs : List COperand) → params_ok p others n vs ≡ true
      → all_given p types others vs xs ≡ true → (k : ℕ) (t : LlType) → slice_get others (n + k) ≡ Some t → Fits p made t (read (operands vars xs) k)
  parameters_fit others made n types vars fit [] [] ok h k t e = tt
  parameters_fit others made n types vars fit [] (x ∷ xs) ok h k t e = absurd (cc)
  parameters_fit others made n types vars fit (v ∷ vs) [] ok h k t e = absurd (cc)
  parameters_fit others made n types vars fit (v ∷ vs) (x ∷ xs) ok h zero t e =
      let same : v ≡ n + 0 = omega (arith, is_same v n (and_left _ _ (and_left _ _ ok))) in first (slice_get others v) (ap (slice_get others) same ∙ e) (and_left _ _ h)
    where
      first : (o : Option LlType) → o ≡ Some t → given_takes p types o x ≡ true → Fits p made t (operand vars x)
      first None f h = absurd (cc)
      first (Some u) f h = let g : u ≡ t = cc in subst (λ t. Fits p made t (operand vars x)) g (operand_fits p made types vars fit u x h)
  parameters_fit others made n types vars fit (v ∷ vs) (x ∷ xs) ok h (suc k) t e =
      let same : n + 1 + k ≡ n + suc k = omega arith in parameters_fit others made (n + 1) types vars fit vs xs (and_right _ _ ok) (and_right _ _ h) k t (ap (slice_get others) same ∙ e)

  -- the same where the types of the parameters are those that are asked for
  asked_fit : (others : List LlType) (made n : ℕ) (types : List LlType) (vars : List Value) → AllFit p made types vars → (vs : List ℕ) (ts : List LlType) (xs : List COperand) → params_ok p others n vs ≡ true
      → are_types p.structs ts ≡ true → same_types (map (λ v. type_or_word (slice_get others v)) vs) (map c_type ts) ≡ true → all_taken p types ts xs ≡ true
      → (k : ℕ) (t : LlType) → slice_get others (n + k) ≡ Some t → Fits p made t (read (operands vars xs) k)
  asked_fit others made n types vars fit [] [] [] ok kinds same h k t e = tt
  asked_fit others made n types vars fit [] [] (x ∷ xs) ok kinds same h k t e = absurd (cc)
  asked_fit others made n types vars fit [] (u ∷ ts) xs ok kinds same h k t e = absurd (cc)
  asked_fit others made n types vars fit (v ∷ vs) [] xs ok kinds same h k t e = absurd (cc)
  asked_fit others made n types vars fit (v ∷ vs) (u ∷ ts) [] ok kinds same h k t e = absurd (cc)
  asked_fit others made n types vars fit (v ∷ vs) (u ∷ ts) (x ∷ xs) ok kinds same h zero t e =
      let here : v ≡ n + 0 = omega (arith, is_same v n (and_left _ _ (and_left _ _ ok))) in
      first (slice_get others v) (ap (slice_get others) here ∙ e) (and_right _ _ (and_left _ _ ok)) (and_left _ _ same)
    where
      first : (o : Option LlType) → o ≡ Some t → is_type_given p.structs o ≡ true → same_type (type_or_word o) (c_type u) ≡ true → Fits p made t (operand vars x)
      first None f i j = absurd (cc)
      first (Some w) f i j =
          let a : w ≡ u = same_c p.structs w u i (and_left _ _ kinds) j in let b : w ≡ t = cc in let d : u ≡ t = sym a ∙ b in subst (λ t. Fits p made t (operand vars x)) d (operand_fits p made types vars fit u x (and_left _ _ h))
  asked_fit others made n types vars fit (v ∷ vs) (u ∷ ts) (x ∷ xs) ok kinds same h (suc k) t e =
      let on : n + 1 + k ≡ n + suc k = omega arith in
      asked_fit others made (n + 1) types vars fit vs ts xs (and_right _ _ ok) (and_right _ _ kinds) (and_right _ _ same) (and_right _ _ h) k t (ap (slice_get others) on ∙ e)

  -- as many values as parameters, and no more of these than variables
  length_operands : (vars : List Value) (xs : List COperand) → length (operands vars xs) ≡ length xs
  length_operands vars [] = refl
  length_operands vars (x ∷ xs) = ap suc (length_operands vars xs)

  given_count : (types others : List LlType) (vs : List ℕ) (xs : List COperand) → all_given p types others vs xs ≡ true → length xs ≡ length vs
  given_count types others [] [] h = refl
  given_count types others [] (x ∷ xs) h = absurd (cc)
  given_count types others (v ∷ vs) [] h = absurd (cc)
  given_count types others (v ∷ vs) (x ∷ xs) h = ap suc (given_count types others vs xs (and_right _ _ h))

  asked_count : (types others : List LlType) (vs : List ℕ) (ts : List LlType) (xs : List COperand) → same_types (map (λ v. type_or_word (slice_get others v)) vs) (map c_type ts) ≡ true → all_taken p types ts xs ≡ true
      → length xs ≡ length vs
  asked_count types others [] [] [] same h = refl
  asked_count types others [] [] (x ∷ xs) same h = absurd (cc)
  asked_count types others [] (u ∷ ts) xs same h = absurd (cc)
  asked_count types others (v ∷ vs) [] xs same h = absurd (cc)
  asked_count types others (v ∷ vs) (u ∷ ts) [] same h = absurd (cc)
  asked_count types others (v ∷ vs) (u ∷ ts) (x ∷ xs) same h = ap suc (asked_count types others vs ts xs (and_right _ _ same) (and_right _ _ h))

  params_short : (types : List LlType) (n : ℕ) (vs : List ℕ) → params_ok p types n vs ≡ true → n ≤ length types → n + length vs ≤ length types
  params_short types n [] ok le = omega (arith, le)
  params_short types n (v ∷ vs) ok le = there (params_short types (n + 1) vs (and_right _ _ ok)) (slice_get types v) refl (and_right _ _ (and_left _ _ ok))
    where
      on : (n + 1 ≤ length types → n + 1 + length vs ≤ length types) → v < length types → n + suc (length vs) ≤ length types
      on go lt = let same : v ≡ n = is_same v n (and_left _ _ (and_left _ _ ok)) in let h : n + 1 + length vs ≤ length types = go (omega (arith, lt, same)) in omega (arith, h)

      there : (n + 1 ≤ length types → n + 1 + length vs ≤ length types) → (o : Option LlType) → slice_get types v ≡ o → is_type_given p.structs o ≡ true → n + suc (length vs) ≤ length types
      there go None e h = absurd (cc)
      there go (Some t) e h = on go (slice_get_within types v t e)

  params_of : (g : LlGraph) → graph_ok p g ≡ true → params_ok p g.types 0 g.params ≡ true
  params_of g good = and_right _ _ (and_left _ _ (and_left _ _ good))

  result_of : (g : LlGraph) → graph_ok p g ≡ true → is_kind p.structs g.result ≡ true
  result_of g good = and_right _ _ (and_left _ _ (and_left _ _ (and_left _ _ good)))

  entered_fits : (f : ℕ) (values : List Value) (frames : List Frame) (core : Core) (g : LlGraph) → CallingFits p f values frames core g → graph_ok p g ≡ true → NextFits p (entered f values frames core (slice_get p.graphs f))
  entered_fits f values frames core g fit good = subst (λ o. NextFits p (entered f values frames core o)) (sym fit.of) (enters_fits (slice_get g.blocks 0) refl)
    where
      filled : (n : ℕ) → length g.params + n ≡ length g.types → AllFit p (length core.blocks) g.types (values ++ replicate n Unset)
      filled n e = record {
        count = let f : length (values ++ replicate n Unset) ≡ length values + length (replicate n Unset) = length_both values (replicate n Unset) in omega (arith, f, length_unset n, fit.count, e);
        at = λ a t e. subst (Fits p (length core.blocks) t) (sym (read_filled values n a)) (fit.given a t e);
      }

      short : 0 + length g.params ≤ length g.types
      short = params_short g.types 0 g.params (params_of g good) (omega arith)

      whole : AllFit p (length core.blocks) g.types (values ++ replicate (length g.types - length g.params) Unset)
      whole = filled (length g.types - length g.params) (omega (arith, short))

      enters_fits : (o : Option LlBlock) → slice_get g.blocks 0 ≡ o → NextFits p (enters f values frames core g o)
      enters_fits None e = tt
      enters_fits (Some b) e =
          let ok : block_ok p g b ≡ true = block_at p g g.blocks 0 b (and_right _ _ good) e in
          (g, record { of = fit.of; fits = record { vars = whole; memory = fit.memory }; left = and_left _ _ ok; end = and_right _ _ ok; waiting = fit.waiting })

  module _ (all : graphs_ok p p.graphs ≡ true) (structs : structs_ok p.structs 0 p.structs ≡ true) (g : LlGraph) (frames : List Frame) (core : Core) (of : slice_get p.graphs core.function ≡ Some g)
      (fit : CoreFits p g.types core) (waits : FramesFit p (length core.blocks) g.result frames) where
    good : graph_ok p g ≡ true
    good = graph_at p p.graphs core.function g all of

    waiting_fits : (into : Option ℕ) (ops : List LlOp) (exit : LlExit) (result : LlType) → result_ok g.types into result ≡ true → operations_ok p g.types ops ≡ true → exit_ok p g exit ≡ true
        → FramesFit p (length core.blocks) result (waiting core into ops exit ∷ frames)
    waiting_fits into ops exit result h k l = (g, record { of = of; vars = fit.vars; into = h; ops = k; exit = l }, waits)

    call_fits : (into : Option ℕ) (f : ℕ) (xs : List COperand) (ops : List LlOp) (exit : LlExit) (o : Option LlGraph) → slice_get p.graphs f ≡ o → call_ok p g.types into o xs ≡ true → operations_ok p g.types ops ≡ true
        → exit_ok p g exit ≡ true → NextFits p (called f (operands core.vars xs) (waiting core into ops exit ∷ frames) core)
    call_fits into f xs ops exit None e h k l = absurd (cc)
    call_fits into f xs ops exit (Some other) e h k l =
        let good : graph_ok p other ≡ true = graph_at p p.graphs f other all e in
        choice_next (any_unset (operands core.vars xs)) (Sticks IsUnset) (Goes (Calling f (operands core.vars xs) (waiting core into ops exit ∷ frames) core)) tt (
          other,
          record {
            of = e;
            count = length_operands core.vars xs ∙ given_count g.types other.types other.params xs (and_right _ _ h);
            given = λ a t is. parameters_fit other.types (length core.blocks) 0 g.types core.vars fit.vars other.params xs (params_of other good) (and_right _ _ h) a t (ap (slice_get other.types) (omega arith) ∙ is);
            waiting = waiting_fits into ops exit other.result (and_left _ _ h) k l;
            memory = fit.memory;
          },
        )

    called_as_fits : (into : Option ℕ) (result : LlType) (params : List LlType) (f : ℕ) (xs : List COperand) (ops : List LlOp) (exit : LlExit) (o : Option LlGraph) → slice_get p.graphs f ≡ o
        → is_kind p.structs result ≡ true → are_types p.structs params ≡ true → result_ok g.types into result ≡ true → all_taken p g.types params xs ≡ true → operations_ok p g.types ops ≡ true
        → exit_ok p g exit ≡ true → NextFits p (called_as (c_result result) (map c_type params) f (operands core.vars xs) (waiting core into ops exit ∷ frames) core o)
    called_as_fits into result params f xs ops exit None e a b c d k l = tt
    called_as_fits into result params f xs ops exit (Some other) e a b c d k l = tested (same_result (c_result other.result) (c_result result) && same_types (param_types other) (map c_type params)) refl
      where
        good : graph_ok p other ≡ true
        good = graph_at p p.graphs f other all e

        tested : (t : Bool) → (same_result (c_result other.result) (c_result result) && same_types (param_types other) (map c_type params)) ≡ t
            → NextFits p (cond t (Goes (Calling f (operands core.vars xs) (waiting core into ops exit ∷ frames) core)) (Sticks Signature))
        tested false h = tt
        tested true h = (
          other,
          record {
            of = e;
            count = length_operands core.vars xs ∙ asked_count g.types other.types other.params params xs (and_right _ _ h) d;
            given = λ v t is. asked_fit other.types (length core.blocks) 0 g.types core.vars fit.vars other.params params xs (params_of other good) b (and_right _ _ h) d v t (ap (slice_get other.types) (omega arith) ∙ is);
            waiting = waiting_fits into ops exit other.result
                (subst (λ r. result_ok g.types into r ≡ true) (sym (same_given p.structs other.result result (result_of other good) a (and_left _ _ h))) c) k l;
            memory = fit.memory;
          },
        )

    called_value_fits : (into : Option ℕ) (result : LlType) (params : List LlType) (o : Option ℕ) (xs : List COperand) (ops : List LlOp) (exit : LlExit)
        → is_kind p.structs result ≡ true → are_types p.structs params ≡ true → result_ok g.types into result ≡ true → all_taken p g.types params xs ≡ true → operations_ok p g.types ops ≡ true
        → exit_ok p g exit ≡ true → NextFits p (called_value p (c_result result) (map c_type params) o (operands core.vars xs) (waiting core into ops exit ∷ frames) core)
    called_value_fits into result params None xs ops exit a b c d k l = tt
    called_value_fits into result params (Some f) xs ops exit a b c d k l = called_as_fits into result params f xs ops exit (slice_get p.graphs f) refl a b c d k l

    given_fits : (value : Value) (go : Value → Next) → NextFits p (go value) → NextFits p (given value go)
    given_fits value go h = choice_next (is_unset value) (Sticks IsUnset) (go value) tt h

    operates_fits : (args : List (List ℕ)) (o : LlOp) (ops : List LlOp) (exit : LlExit) → operation_ok p g.types o ≡ true → operations_ok p g.types ops ≡ true → exit_ok p g exit ≡ true
        → NextFits p (operates p args o ops exit frames core)
    operates_fits args (op.Call into f xs) ops exit h k l = call_fits into f xs ops exit (slice_get p.graphs f) refl h k l
    operates_fits args (op.CallFn into result params b xs) ops exit h k l =
        choice_next (is_unset (read core.vars b) || any_unset (operands core.vars xs)) (Sticks IsUnset)
        (called_value p (c_result result) (map c_type params) (fun_of (read core.vars b)) (operands core.vars xs) (waiting core into ops exit ∷ frames) core) tt
        (called_value_fits into result params (fun_of (read core.vars b)) xs ops exit (and_right _ _ (and_left _ _ (and_left _ _ (and_left _ _ h)))) (and_right _ _ (and_left _ _ (and_left _ _ h)))
        (and_right _ _ (and_left _ _ h)) (and_right _ _ h) k l)
    operates_fits args (op.Raise a) ops exit h k l =
        given_fits (read core.vars a) (λ value. caught p value ops exit frames core)
        (caught_fits g frames core of good fit waits (read core.vars a) (pointer_at p g.types core fit a (slice_get g.types a) refl (and_right _ _ h)) ops exit l)
    operates_fits args other ops exit h k l = goes_fit g frames core of good fit waits ops exit (does p args core other) k l (operation_fits p g.types core fit structs args other h)

    -- ---- exits

    gives : (value : Value) → Fits p (length core.blocks) g.result value → StateFits p (Returning value frames core)
    gives value h = (g.result, record { fits = h; waiting = waits; memory = fit.memory })

    gives_back_fits : (x : Option COperand) → typed.return_ok p g x ≡ true → NextFits p (gives_back x frames core)
    gives_back_fits None h = gives Unset tt
    gives_back_fits (Some x) h =
        given_fits (operand core.vars x) (λ value. Goes (Returning value frames core)) (gives (operand core.vars x) (operand_fits p (length core.blocks) g.types core.vars fit.vars g.result x h))

    raised_as_fits : (o : Option (List ℕ)) → AfterFits p g.types core (raised_as core o)
    raised_as_fits None = tt
    raised_as_fits (Some name) = tt

    raised_fits : (t : Option CType) (value : Value) → AfterFits p g.types core (raised core (shapes_of p.structs) t value)
    raised_fits (Some (c.Ptr n)) value = reached_fits p g.types core fit structs n value (λ block. raised_as core (bytes_of block.items)) (λ block e f. raised_as_fits (bytes_of block.items))
    raised_fits other value = tt

    fail_fits : (o : Option FailName) → AfterFits p g.types core (fail core o)
    fail_fits None = tt
    fail_fits (Some name) = tt

    leaves_fits : (exit : LlExit) → exit_ok p g exit ≡ true → NextFits p (leaves p exit frames core)
    leaves_fits (exit.Goto link) h = jump_fits g frames core of good fit waits link h
    leaves_fits (exit.If a there elsewhere) h = branch_fits g frames core of good fit waits there elsewhere (flag_of (read core.vars a)) (and_right _ _ (and_left _ _ h)) (and_right _ _ h)
    leaves_fits (exit.OnRaise a by without) h = jump_fits g frames core of good fit waits without (and_right _ _ h)
    leaves_fits (exit.Return x) h = gives_back_fits x h
    leaves_fits (exit.Raise a) h =
        given_fits (read core.vars a) (λ value. Goes (Throwing value frames core))
        (throws g frames core of good fit waits (read core.vars a) (pointer_at p g.types core fit a (slice_get g.types a) refl (and_right _ _ h)))
    leaves_fits (exit.Fail number) h = goes_fit g frames core of good fit waits [] (exit.Fail number) (fail core (fail_name_of number)) refl h (fail_fits (fail_name_of number))
    leaves_fits (exit.Raised a) h =
        goes_fit g frames core of good fit waits [] (exit.Raised a) (raised core (shapes_of p.structs) (type_in (slice_get p.graphs core.function) a) (read core.vars a)) refl h
        (raised_fits (type_in (slice_get p.graphs core.function) a) (read core.vars a))

    at_fits : (args : List (List ℕ)) (ops : List LlOp) (exit : LlExit) → operations_ok p g.types ops ≡ true → exit_ok p g exit ≡ true → NextFits p (step p args (At ops exit frames core))
    at_fits args [] exit h k = leaves_fits exit k
    at_fits args (o ∷ ops) exit h k = operates_fits args o ops exit (and_left _ _ h) (and_right _ _ h) k

  -- ---- back to who waits

  ended_fits : (value : Value) (core : Core) (o : Option ℤ) → word_of value ≡ o → NextFits p (goes_on (Returning value []) (ended core value))
  ended_fits (Word z) core o e = tt
  ended_fits other core o e = tt

  taken_fits : (made : ℕ) (types : List LlType) (vars : List Value) (into : Option ℕ) (t : LlType) (value : Value) → AllFit p made types vars → result_ok types into t ≡ true → Fits p made t value
      → AllFit p made types (taken_by vars into value)
  taken_fits made types vars None t value fit h k = fit
  taken_fits made types vars (Some a) t value fit h k = vars_set p made types vars a t value fit (has_type_is t (slice_get types a) h) k

  returned_fits : (value : Value) (frames : List Frame) (core : Core) (t : LlType) → LeavesFits p t value frames core t → NextFits p (returned value frames core)
  returned_fits value [] core t fit = ended_fits value core (word_of value) refl
  returned_fits value (frame ∷ frames) core t fit = back fit.waiting
    where
      back : FramesFit p (length core.blocks) t (frame ∷ frames) → NextFits p (returned value (frame ∷ frames) core)
      back (g, w, rest) = (
        g,
        record {
          of = w.of;
          fits = record { vars = taken_fits (length core.blocks) g.types frame.vars frame.into t value w.vars w.into fit.fits; memory = fit.memory };
          left = w.ops;
          end = w.exit;
          waiting = rest;
        },
      )

  thrown_fits : (all : graphs_ok p p.graphs ≡ true) (value : Value) (frames : List Frame) (core : Core) (t : LlType) → LeavesFits p exception value frames core t → NextFits p (thrown p value frames core)
  thrown_fits all value [] core t fit = tt
  thrown_fits all value (frame ∷ frames) core t fit = out fit.waiting
    where
      out : FramesFit p (length core.blocks) t (frame ∷ frames) → NextFits p (thrown p value (frame ∷ frames) core)
      out (g, w, rest) =
          caught_fits g frames (resumed frame core) w.of (graph_at p p.graphs frame.graph g all w.of) (record { vars = w.vars; memory = fit.memory }) rest value fit.fits frame.ops frame.exit w.exit

  -- ---- steps

  pub step_fits : IsWellTyped p → (args : List (List ℕ)) (s : State) → StateFits p s → NextFits p (step p args s)
  step_fits ok args (Calling f values frames core) (g, fit) = entered_fits f values frames core g fit (graph_at p p.graphs f g (and_right _ _ (and_left _ _ ok)) fit.of)
  step_fits ok args (At ops exit frames core) (g, fit) =
      at_fits (and_right _ _ (and_left _ _ ok)) (and_left _ _ (and_left _ _ (and_left _ _ ok))) g frames core fit.of fit.fits fit.waiting args ops exit fit.left fit.end
  step_fits ok args (Returning value frames core) (t, fit) = returned_fits value frames core t fit
  step_fits ok args (Throwing value frames core) (t, fit) = thrown_fits (and_right _ _ (and_left _ _ ok)) value frames core t fit
