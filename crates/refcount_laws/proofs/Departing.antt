-- All that follows an exit of a counted program.
use Rattle.csub_tree.specs.Operation.{flag_of, is_unset}
use Rattle.csub_tree.specs.State.{Value, Unset, Ptr, Block, Core}
use Rattle.csub_tree.specs.Statement.{read, operand, operands, any_unset}
use Rattle.csub_tree.specs.declared.stuck.StuckReason.TheVariants.{Unset as IsUnset}
use Rattle.csub_tree.specs.declared.tree.CConst.TheVariants as const
use Rattle.csub_tree.specs.declared.tree.COperand.TheVariants.{Var, Const}
use Rattle.csub_tree.specs.declared.tree.COperand.{COperand}
use Rattle.ll_code.specs.Machine.{branch, leaves, gives_back}
use Rattle.ll_code.specs.Machine.{step, jump, begins, block_in, set_all}
use Rattle.ll_code.specs.State.{Frame, State, At, Returning, Goes, Sticks, Next}
use Rattle.ll_code.specs.Typed.{all_given, takes}
use Rattle.ll_code.specs.declared.program.LlBlock.{LlBlock}
use Rattle.ll_code.specs.declared.program.LlExit.TheVariants as exit
use Rattle.ll_code.specs.declared.program.LlExit.{LlExit}
use Rattle.ll_code.specs.declared.program.LlLink.{LlLink}
use Rattle.ll_code.specs.declared.program.LlOp.{LlOp}
use Rattle.ll_code.specs.declared.program.LlProgram.{LlProgram}
use Rattle.ll_code.specs.declared.program.LlType.{LlType}
use Rattle.ll_laws.proofs.Values.{and_left, and_right, is_same}
use Rattle.ll_live.specs.Live.{among, variables_in, variables_of, live}
use Rattle.refcount_laws.proofs.Dead.{same_is}
use Rattle.refcount_laws.proofs.Following.{value_leads}
use Rattle.refcount_laws.proofs.Leaving.{owned_by, left_over}
use Rattle.refcount_laws.proofs.Moving.{own_same}
use Rattle.refcount_laws.proofs.Numbers.{Based}
use Rattle.refcount_laws.proofs.Places.{given_marked}
use Rattle.refcount_laws.proofs.Steps.{stays}
use Rattle.refcount_laws.specs.Ghost.{Ghost, memory, IsCounted}
use Rattle.refcount_laws.specs.Graphs.{Counts, Counting}
use Rattle.refcount_laws.specs.Leaves.{GivesBack}
use Rattle.refcount_laws.specs.Made.{counts_of}
use Rattle.refcount_laws.specs.Matches.{PointsTo, Pointing, AllRoots, Stands, Comes}
use Rattle.refcount_laws.specs.Owned.{owned, hits_by, operand_hits, OperandLeads, Roomy}
use Rattle.refcount_laws.specs.Runs.{here}
use Rattle.refcount_transform.specs.Blocks.{exit_of, block_of}
use Rattle.refcount_transform.specs.Blocks.{way_ops, way_link, way_block}
use Rattle.refcount_transform.specs.Changes.{Around, around_of, var_referred, operand_referred, given, ops_of}
use Rattle.refcount_transform.specs.Counted.{counted}
use Rattle.refcount_transform.specs.Made.{block_with}
use Rattle.refcount_transform.specs.Plan.{Plan, plan_of, root_of, reference_given}
use Rattle.std.proofs.Common.{◌<◌, ◌≡◌, ◌≢◌, ℕ, suc, ◌+◌, Bool, true, false, ◌||◌, List, [], ◌∷◌, length, Option, Some, None, refl, sym, ap, ◌∙◌, subst, arith}
use Rattle.std.specs.Prelude.{cond}
use Rattle.std.specs.Prelude.{slice_get, slice_set, slice_index_or, ◌==◌, not, cond}
use Rattle.csub_tree.specs.Statement.{fail_name_of, fail}
use Rattle.csub_tree.specs.State.{Word, Byte, Flag, Fun, Null, Static}
use Rattle.ll_code.specs.Machine.{goes_on}
use Rattle.ll_code.specs.Typed.{link_ok, exit_ok, return_ok, enters}
use Rattle.ll_code.specs.declared.program.LlGraph.{LlGraph}
use Rattle.ll_code.specs.declared.program.LlType.TheVariants as type
use Rattle.ll_laws.proofs.Values.{has_type_is}
use Rattle.ll_held.specs.Quiet.{ReadsInputs}
use Rattle.refcount_transform.specs.Plan.{reference_to}
use Rattle.refcount_transform.specs.Blocks.{behind_exit, blocks_of}
use Rattle.refcount_laws.specs.Owned.{operand_hits}
use Rattle.refcount_laws.specs.Leaves.{ReturnPoints, From, InputsAreApart, LinksPoint, Leaves, is_explicit}
use Rattle.refcount_laws.proofs.Exits.{stand, goto_arrives, way_arrives, way_comes, return_comes, nothing_comes, there_same, elsewhere_same, used_there, used_elsewhere, Reached}
use Rattle.refcount_laws.proofs.Blocks.{Placed, block_placed, graph_placed, from_left, from_right}
use Rattle.refcount_laws.proofs.Copying.{no_null}
use Rattle.csub_tree.specs.Operation.{byte_of}
use Rattle.csub_tree.specs.Statement.{raised, raised_as, bytes_of, before, on_block, reached}
use Rattle.ll_code.specs.Machine.{type_in, c_type, shapes_of}
use Rattle.ll_code.specs.Typed.{names_chars, is_char, items_of, structs_ok}
use Rattle.std.proofs.Common.{Ok, Err}
use Rattle.refcount_laws.proofs.Standing.{StructAt}
use Rattle.refcount_laws.proofs.Steps.{reached_ok}
use Rattle.refcount_laws.proofs.Getting.{Apart, Seen, var_seen, struct_with}

or_none : (b : Bool) → (b || false) ≡ b
or_none true = refl
or_none false = refl

-- items that are bytes are the same bytes once their program is counted
bytes_same : (xs ys : List Value) → length ys ≡ length xs → ((i : ℕ) → is_unset (read xs i) ≡ false → read ys i ≡ read xs i) → (name : List ℕ) → bytes_of xs ≡ Some name → bytes_of ys ≡ Some name
bytes_same [] [] size same name e = e
bytes_same [] (y ∷ ys) size same name e = absurd (omega (arith, size))
bytes_same (x ∷ xs) [] size same name e = absurd (omega (arith, size))
bytes_same (x ∷ xs) (y ∷ ys) size same name e = by (byte_of x) refl (bytes_of xs) refl (λ rest g. bytes_same xs ys (omega (arith, size)) (λ i u. same (suc i) u) rest g) e
  where
    is_set : (x : Value) (n : ℕ) → byte_of x ≡ Some n → is_unset x ≡ false
    is_set Unset n e = absurd (cc)
    is_set (Word z) n e = refl
    is_set (Byte z) n e = refl
    is_set (Flag z) n e = refl
    is_set (Fun z) n e = refl
    is_set Null n e = refl
    is_set (Ptr z) n e = refl
    is_set (Static z) n e = refl

    by : (a : Option ℕ) → byte_of x ≡ a → (b : Option (List ℕ)) → bytes_of xs ≡ b → ((rest : List ℕ) → bytes_of xs ≡ Some rest → bytes_of ys ≡ Some rest) → before a b ≡ Some name → before (byte_of y) (bytes_of ys) ≡ Some name
    by None f b g go e = absurd (cc)
    by (Some n) f None g go e = absurd (cc)
    by (Some n) f (Some rest) g go e =
        let first : byte_of y ≡ Some n = ap byte_of (same 0 (is_set x n f)) ∙ f in
        let others : bytes_of ys ≡ Some rest = go rest g in
        ap (λ o. before o (bytes_of ys)) first ∙ ap (before (Some n)) others ∙ e

module _ (p : LlProgram) (types : List LlType) where
  abbrev marks : List Bool
  marks = (plan_of p).counted

  abbrev around_ : Around
  around_ = around_of (plan_of p) types

  -- an operand that a type takes refers to what the type does, or is NULL
  pub result_taken : (t : LlType) (x : COperand) (vars : List Value) (r : Value) → takes p types t x ≡ true → hits_by (operand_referred around_ x) (operand vars x) r ≡ hits_by (reference_given marks (Some t)) (operand vars x) r
  result_taken t (Var w) vars r ok = ap (λ k. hits_by k (read vars w) r) (ap (reference_given marks) (has_type_is t (slice_get types w) ok))
  result_taken type.Signed (Const (const.Word z)) vars r ok = refl
  result_taken type.Char (Const (const.Char z)) vars r ok = refl
  result_taken type.Bool (Const (const.Bool z)) vars r ok = refl
  result_taken type.Fn (Const const.Null) vars r ok = refl
  result_taken type.Fn (Const (const.Fun z)) vars r ok = refl
  result_taken (type.Ptr n) (Const const.Null) vars r ok = sym (by (reference_to marks (type.Ptr n)))
    where
      by : (k : Option ℕ) → hits_by k Null r ≡ 0
      by None = refl
      by (Some n) = no_null r
  result_taken (type.Ptr n) (Const (const.Static s g)) vars r ok =
      let f : n ≡ s = is_same n s (and_left _ _ (and_left _ _ ok)) in ap (λ n. hits_by (reference_to marks (type.Ptr n)) (Static g) r) (sym f)
  result_taken t (Const k) vars r ok = absurd (cc)

  result_refers : (t : LlType) (x : COperand) (n : ℕ) → takes p types t x ≡ true → operand_referred around_ x ≡ Some n → reference_given marks (Some t) ≡ Some n
  result_refers t (Var w) n ok h = ap (reference_given marks) (sym (has_type_is t (slice_get types w) ok)) ∙ h
  result_refers type.Signed (Const (const.Word z)) n ok h = absurd (cc)
  result_refers type.Char (Const (const.Char z)) n ok h = absurd (cc)
  result_refers type.Bool (Const (const.Bool z)) n ok h = absurd (cc)
  result_refers type.Fn (Const const.Null) n ok h = absurd (cc)
  result_refers type.Fn (Const (const.Fun z)) n ok h = absurd (cc)
  result_refers (type.Ptr m) (Const const.Null) n ok h = absurd (cc)
  result_refers (type.Ptr m) (Const (const.Static s g)) n ok h = let f : m ≡ s = is_same m s (and_left _ _ (and_left _ _ ok)) in ap (λ n. reference_to marks (type.Ptr n)) f ∙ h
  result_refers t (Const k) n ok h = absurd (cc)

module _ (p : LlProgram) (based : Based p.structs) (counting : Counting (counted p) (counts_of (plan_of p))) (args : List (List ℕ)) (graph : LlGraph) (roots : AllRoots p graph.types) (closed : ReadsInputs p) (apart : InputsAreApart graph) (own : Value → ℕ) (waiting frames : List Frame)
    (core qcore : Core) (fits : length core.vars ≡ length graph.types) (at_graph : slice_get p.graphs core.function ≡ Some graph) (points : LinksPoint p graph core) where
  abbrev plan : Plan
  plan = plan_of p

  abbrev q : LlProgram
  q = counted p

  abbrev c : Counts
  c = counts_of plan

  abbrev types : List LlType
  types = graph.types

  abbrev around : Around
  around = around_of plan types

  abbrev at_ : List LlOp → LlExit → ℕ → ℕ → List (Option Block) → List Block → State
  at_ ops ex b at h s = stand p based counting args types roots own frames core qcore fits ops ex b at h s

  abbrev pub LeavesBy : State → Next → Type 0
  LeavesBy from next = Leaves p args graph own from frames next

  -- ---- a link

  record Target (link : LlLink) : Type 0 where
    pub block : LlBlock
    pub there : slice_get graph.blocks link.to ≡ Some block
    pub given : all_given p types types block.inputs link.args ≡ true
    pub place : Placed around (blocks_of around graph.blocks) link.to block
    pub placed : block_in (slice_get q.graphs core.function) link.to ≡ Some (block_of around place.next block)

  target_of : (link : LlLink) → link_ok p graph link ≡ true → Target link
  target_of link ok = by (slice_get graph.blocks link.to) refl ok
    where
      by : (o : Option LlBlock) → slice_get graph.blocks link.to ≡ o → enters p types o link.args ≡ true → Target link
      by None e ok = absurd (cc)
      by (Some block) e ok =
          let w : Placed around (blocks_of around graph.blocks) link.to block = block_placed around graph.blocks link.to block e in
          record { block = block; there = e; given = ok; place = w; placed = ap (λ o. block_in o link.to) (graph_placed p core.function graph at_graph) ∙ w.is }

  -- where the program goes by a link
  linked : (link : LlLink) (ok : link_ok p graph link ≡ true) (from : State)
      → ((t : Target link) → any_unset (operands core.vars link.args) ≡ false → (x : Comes p args types (live t.block.ops t.block.exit) own from (ops_of around t.block.ops t.block.exit) (exit_of around t.place.next t.block.exit) frames link.to (record core { block = link.to; at = 0; vars = set_all core.vars t.block.inputs (operands core.vars link.args) })) × (0 < x.leads.count))
      → LeavesBy from (jump p waiting core link)
  linked link ok from comes = by (any_unset (operands core.vars link.args)) refl
    where
      t : Target link
      t = target_of link ok

      by : (y : Bool) → any_unset (operands core.vars link.args) ≡ y → LeavesBy from (cond y (Sticks IsUnset) (begins waiting core link.to (operands core.vars link.args) (block_in (slice_get p.graphs core.function) link.to)))
      by true e = tt
      by false e = subst (λ o. LeavesBy from (begins waiting core link.to (operands core.vars link.args) o)) (sym (ap (λ o. block_in o link.to) at_graph ∙ t.there)) (t.place.next, t.place.ways, (comes t e).0, (comes t e).1)

  module _ (g : Ghost) (h : List (Option Block)) (b at next : ℕ) (stands : Stands p core qcore g h) where
    closed_at : (n : ℕ) (block : LlBlock) → slice_get graph.blocks n ≡ Some block → (v : ℕ) → live block.ops block.exit v ≡ true → among v block.inputs ≡ true
    closed_at n block e = closed core.function graph at_graph n block e

    goto_leaves : (link : LlLink) → link_ok p graph link ≡ true → Roomy g (length link.args + 0) → Pointing p types core.blocks core.statics (live [] (exit.Goto link)) core.vars → IsCounted q c g (λ r. owned around (live [] (exit.Goto link)) core.vars r + own r)
        → LeavesBy (at_ (ops_of around [] (exit.Goto link)) (exit_of around next (exit.Goto link)) b at h (memory g)) (jump p waiting core link)
    goto_leaves link ok room pointing counts =
        linked link ok (at_ (ops_of around [] (exit.Goto link)) (exit_of around next (exit.Goto link)) b at h (memory g))
        (λ t set. (let a : Reached p based counting args types roots own frames core qcore fits link t.block t.place.next t.given (apart link.to t.block t.there) (closed_at link.to t.block t.there) set t.placed (points link t.block ok t.there set) (at_ (given around link.args []) (exit.Goto link) b at h (memory g)) =
        goto_arrives p based counting args types roots own frames core qcore fits link t.block t.place.next t.given (apart link.to t.block t.there) (closed_at link.to t.block t.there) set t.placed (points link t.block ok t.there set) g h b at stands pointing room counts in
        (a.comes, a.moves)))

    -- ---- a test

    way_placed : (way other : LlLink) (number : ℕ) (ops : List LlOp) → way_ops around way other ≡ ops → From (blocks_of around graph.blocks) number (way_block way ops)
        → (o : LlOp) (rest : List LlOp) → ops ≡ o ∷ rest → block_in (slice_get q.graphs core.function) number ≡ Some (block_with [] ops (exit.Goto way))
    way_placed way other number [] is from o rest e = absurd (cc)
    way_placed way other number (x ∷ ops) is from o rest e = ap (λ o. block_in o number) (graph_placed p core.function graph at_graph) ∙ from.0

    way_leaves : (uses : ℕ → Bool) (v : ℕ) (way other : LlLink) (number : ℕ) (from : State) → var_referred around v ≡ None → ((w : ℕ) → w ≢ v → uses w ≡ left_over [] (exit.Goto way) (variables_in other.args) w)
        → ((w : ℕ) → left_over [] (exit.Goto way) (variables_in other.args) w ≡ true → uses w ≡ true)
        → link_ok p graph way ≡ true → Roomy g (length way.args + 0) → Pointing p types core.blocks core.statics uses core.vars → IsCounted q c g (λ r. owned around uses core.vars r + own r) → From (blocks_of around graph.blocks) number (way_block way (way_ops around way other))
        → step q args from ≡ jump q frames (here qcore core.function b at core.vars h (memory g)) (way_link way number (way_ops around way other))
        → LeavesBy from (jump p waiting core way)
    way_leaves uses v way other number from plain same used ok room pointing counts placed stepped =
        linked way ok from
        (λ t set. way_comes p based counting args types roots own frames core qcore fits way t.block t.place.next t.given (apart way.to t.block t.there) (closed_at way.to t.block t.there) set t.placed (points way t.block ok t.there set) other g h b at number from (way_ops around way other) refl
        (way_placed way other number (way_ops around way other) refl placed) stepped
        (λ b at. way_arrives p based counting args types roots own frames core qcore fits way t.block t.place.next t.given (apart way.to t.block t.there) (closed_at way.to t.block t.there) set t.placed (points way t.block ok t.there set) uses v other plain same used g h b at stands pointing room counts))

    if_leaves : (v : ℕ) (there elsewhere : LlLink) → exit_ok p graph (exit.If v there elsewhere) ≡ true → ((link : LlLink) → link_ok p graph link ≡ true → Roomy g (length link.args + 0)) → Pointing p types core.blocks core.statics (live [] (exit.If v there elsewhere)) core.vars
        → IsCounted q c g (λ r. owned around (live [] (exit.If v there elsewhere)) core.vars r + own r) → From (blocks_of around graph.blocks) next (behind_exit around (exit.If v there elsewhere))
        → LeavesBy (at_ [] (exit_of around next (exit.If v there elsewhere)) b at h (memory g)) (branch p waiting core there elsewhere (flag_of (read core.vars v)))
    if_leaves v there elsewhere ok room pointing counts placed = by (flag_of (read core.vars v)) refl
      where
        one : List LlOp
        one = way_ops around there elsewhere

        two : List LlOp
        two = way_ops around elsewhere there

        from : State
        from = at_ [] (exit_of around next (exit.If v there elsewhere)) b at h (memory g)

        plain : var_referred around v ≡ None
        plain = ap (reference_given plan.counted) (has_type_is type.Bool (slice_get types v) (and_left _ _ (and_left _ _ ok)))

        by : (o : Option Bool) → flag_of (read core.vars v) ≡ o → LeavesBy from (branch p waiting core there elsewhere o)
        by None e = tt
        by (Some true) e =
            way_leaves (live [] (exit.If v there elsewhere)) v there elsewhere next from plain
            (there_same p based counting args types roots own frames core qcore fits v there elsewhere plain) (used_there p based counting args types roots own frames core qcore fits v there elsewhere plain)
            (and_right _ _ (and_left _ _ ok)) (room there (and_right _ _ (and_left _ _ ok))) pointing counts (from_left (blocks_of around graph.blocks) next (way_block there one) (way_block elsewhere two) placed)
            (ap (branch q frames (here qcore core.function b at core.vars h (memory g)) (way_link there next one) (way_link elsewhere (next + length (way_block there one)) two)) e)
        by (Some false) e =
            way_leaves (live [] (exit.If v there elsewhere)) v elsewhere there (next + length (way_block there one)) from plain
            (elsewhere_same p based counting args types roots own frames core qcore fits v there elsewhere plain) (used_elsewhere p based counting args types roots own frames core qcore fits v there elsewhere plain)
            (and_right _ _ ok) (room elsewhere (and_right _ _ ok)) pointing counts (from_right (blocks_of around graph.blocks) next (way_block there one) (way_block elsewhere two) placed)
            (ap (branch q frames (here qcore core.function b at core.vars h (memory g)) (way_link there next one) (way_link elsewhere (next + length (way_block there one)) two)) e)

    -- ---- an ending

    fail_leaves : (number : ℕ) → LeavesBy (at_ [] (exit.Fail number) b at h (memory g)) (leaves p (exit.Fail number) waiting core)
    fail_leaves number = by (fail_name_of number) refl
      where
        state : State
        state = at_ [] (exit.Fail number) b at h (memory g)

        by : (o : Option _) → fail_name_of number ≡ o → LeavesBy state (goes_on (At [] (exit.Fail number) waiting) (fail core o))
        by None e = tt
        by (Some name) e = (state, here qcore core.function b at core.vars h (memory g), stays q args state, ap (λ o. goes_on (At [] (exit.Fail number) frames) (fail (here qcore core.function b at core.vars h (memory g)) o)) e, stands.steps)

    module _ (laid : structs_ok p.structs 0 p.structs ≡ true) (none_there : Apart core.statics) (k : ℕ) (room : Roomy g (suc k)) where
      raised_leaves : (a : ℕ) → exit_ok p graph (exit.Raised a) ≡ true → Pointing p types core.blocks core.statics (live [] (exit.Raised a)) core.vars → IsCounted q c g (λ r. owned around (live [] (exit.Raised a)) core.vars r + own r)
          → LeavesBy (at_ [] (exit.Raised a) b at h (memory g)) (leaves p (exit.Raised a) waiting core)
      raised_leaves a ok pointing counts =
          subst (λ o. LeavesBy state (goes_on (At [] (exit.Raised a) waiting) (raised core (shapes_of p.structs) (type_in o a) (read core.vars a)))) (sym at_graph) (typed (slice_get types a) refl ok)
        where
          state : State
          state = at_ [] (exit.Raised a) b at h (memory g)

          mine : Core
          mine = here qcore core.function b at core.vars h (memory g)

          chars : (o : Option LlType) → is_char o ≡ true → o ≡ Some type.Char
          chars None e = absurd (cc)
          chars (Some type.Char) e = refl
          chars (Some type.Signed) e = absurd (cc)
          chars (Some type.Bool) e = absurd (cc)
          chars (Some type.Void) e = absurd (cc)
          chars (Some type.Fn) e = absurd (cc)
          chars (Some (type.Ptr n)) e = absurd (cc)

          reads_it : live [] (exit.Raised a) a ≡ true
          reads_it = ap (λ b. (b || false) || false) (same_is a)

          named : (n : ℕ) → slice_get types a ≡ Some (type.Ptr n) → is_char (items_of (slice_get p.structs n)) ≡ true → (r : _) → reached core (shapes_of p.structs) n (read core.vars a) ≡ r
              → LeavesBy state (goes_on (At [] (exit.Raised a) waiting) (on_block (λ block. raised_as core (bytes_of block.items)) r))
          named n e names (Err reason) f = tt
          named n e names (Ok block) f = told (bytes_of block.items) refl
            where
              st : StructAt p.structs n
              st = struct_with p based counting args types roots own [] [] (exit.Raised a) (exit.Raised a) frames b core qcore g h at fits stands k room laid none_there n type.Char (chars (items_of (slice_get p.structs n)) names)

              seen : Seen p based counting args types roots own [] [] (exit.Raised a) (exit.Raised a) frames b core qcore g h at fits stands k room laid none_there n (read core.vars a) block
              seen = var_seen p based counting args types roots own [] [] (exit.Raised a) (exit.Raised a) frames b core qcore g h at fits stands k room laid none_there (live [] (exit.Raised a)) a n block pointing counts reads_it st f

              set : (x : Value) → reached core (shapes_of p.structs) n x ≡ Ok block → is_unset x ≡ false
              set Unset e = absurd (cc)
              set (Word z) e = refl
              set (Byte z) e = refl
              set (Flag z) e = refl
              set (Fun z) e = refl
              set Null e = refl
              set (Ptr z) e = refl
              set (Static z) e = refl

              told : (o : Option (List ℕ)) → bytes_of block.items ≡ o → LeavesBy state (goes_on (At [] (exit.Raised a) waiting) (raised_as core o))
              told None u = tt
              told (Some name) u = (
                state,
                mine,
                stays q args state,
                ap (λ o. goes_on (At [] (exit.Raised a) frames) (raised mine (shapes_of q.structs) (type_in o a) (read core.vars a))) (graph_placed p core.function graph at_graph)
                    ∙ ap (λ o. goes_on (At [] (exit.Raised a) frames) (raised mine (shapes_of q.structs) (Rattle.std.specs.Prelude.option_map c_type o) (read core.vars a))) e
                    ∙ ap (λ r. goes_on (At [] (exit.Raised a) frames) (on_block (λ block. raised_as mine (bytes_of block.items)) r)) (reached_ok q args mine n (read core.vars a) seen.other (set (read core.vars a) f) seen.found seen.of)
                    ∙ ap (λ o. goes_on (At [] (exit.Raised a) frames) (raised_as mine o)) (bytes_same block.items seen.other.items seen.size seen.item name u),
                stands.steps,
              )

          typed : (o : Option LlType) → slice_get types a ≡ o → names_chars p.structs o ≡ true → LeavesBy state (goes_on (At [] (exit.Raised a) waiting) (raised core (shapes_of p.structs) (Rattle.std.specs.Prelude.option_map c_type (slice_get types a)) (read core.vars a)))
          typed None e ok = absurd (cc)
          typed (Some type.Signed) e ok = absurd (cc)
          typed (Some type.Char) e ok = absurd (cc)
          typed (Some type.Bool) e ok = absurd (cc)
          typed (Some type.Void) e ok = absurd (cc)
          typed (Some type.Fn) e ok = absurd (cc)
          typed (Some (type.Ptr n)) e ok =
              subst (λ o. LeavesBy state (goes_on (At [] (exit.Raised a) waiting) (raised core (shapes_of p.structs) (Rattle.std.specs.Prelude.option_map c_type o) (read core.vars a)))) (sym e) (named n e ok (reached core (shapes_of p.structs) n (read core.vars a)) refl)

    -- ---- a return

    return_leaves : (x : Option COperand) → return_ok p graph x ≡ true → ((n : ℕ) → reference_given plan.counted (Some graph.result) ≡ Some n → root_of plan n ≡ n)
        → ((y : COperand) → x ≡ Some y → (n : ℕ) → operand_referred around y ≡ Some n → is_unset (operand core.vars y) ≡ false → PointsTo p core.blocks core.statics n (operand core.vars y)) → Roomy g 1 → Pointing p types core.blocks core.statics (live [] (exit.Return x)) core.vars
        → IsCounted q c g (λ r. owned around (live [] (exit.Return x)) core.vars r + own r)
        → LeavesBy (at_ (ops_of around [] (exit.Return x)) (exit.Return x) b at h (memory g)) (gives_back x waiting core)
    return_leaves None ok lead point room pointing counts =
        let w : GivesBack p args Unset own (at_ [] (exit.Return None) b at h (memory g)) frames core = nothing_comes p based counting args types roots own frames core qcore fits g h b at stands counts in
        record {
          qcore = w.qcore;
          g = w.g;
          h = w.h;
          b = w.b;
          at = w.at;
          stands = w.stands;
          leads = w.leads;
          counts = own_same q args c w.g own (λ r. hits_by (reference_given plan.counted (Some graph.result)) Unset r + own r) (λ r. (let z : own r ≡ 0 + own r = omega arith in z) ∙ ap (λ n. n + own r) (sym (nothing (reference_given plan.counted (Some graph.result)) r))) w.counts;
        }
      where
        nothing : (o : Option ℕ) (r : Value) → hits_by o Unset r ≡ 0
        nothing None r = refl
        nothing (Some n) Unset = refl
        nothing (Some n) (Word z) = refl
        nothing (Some n) (Byte z) = refl
        nothing (Some n) (Flag z) = refl
        nothing (Some n) (Fun z) = refl
        nothing (Some n) Null = refl
        nothing (Some n) (Ptr z) = refl
        nothing (Some n) (Static z) = refl
    return_leaves (Some x) ok lead point room pointing counts = by (is_unset (operand core.vars x)) refl
      where
        from : State
        from = at_ (given around (x ∷ []) []) (exit.Return (Some x)) b at h (memory g)

        had : Value → ℕ
        had r = owned around (live [] (exit.Return (Some x))) core.vars r + own r

        by : (y : Bool) → is_unset (operand core.vars x) ≡ y → LeavesBy from (cond y (Sticks IsUnset) (Goes (Returning (operand core.vars x) waiting core)))
        by true e = tt
        by false e =
            let f : (n : ℕ) → operand_referred around x ≡ Some n → reference_given plan.counted (Some graph.result) ≡ Some n = λ n r. result_refers p types graph.result x n ok r in
            let leading : OperandLeads q around g had core.vars x = record {
              root = λ n r. lead n (f n r);
              leads = λ n r. value_leads p based counting args types roots core.blocks core.statics g stands.near n (operand core.vars x) (given_marked plan.counted (Some graph.result) n (f n r)) (lead n (f n r)) (point x refl n r e);
              owned = λ n a r i. owned_by p based counting args types roots own frames core qcore fits (live [] (exit.Return (Some x))) g h stands pointing had (λ r. omega arith) x n a (λ w m. or_none (among w (variables_of x)) ∙ m) r i;
            } in
            let w : GivesBack p args (operand core.vars x) (λ r. operand_hits around core.vars x r + own r) from frames core =
            return_comes p based counting args types roots own frames core qcore fits x g h b at stands (leading, tt) room e counts in
            record {
              qcore = w.qcore;
              g = w.g;
              h = w.h;
              b = w.b;
              at = w.at;
              stands = w.stands;
              leads = w.leads;
              counts = own_same q args c w.g (λ r. operand_hits around core.vars x r + own r) (λ r. hits_by (reference_given plan.counted (Some graph.result)) (operand core.vars x) r + own r)
                  (λ r. ap (λ n. n + own r) (result_taken p types graph.result x core.vars r ok)) w.counts;
            }

    -- ---- each exit

    abbrev pub Followed : LlExit → Type 0
    Followed e = is_explicit e ≡ true → exit_ok p graph e ≡ true → Pointing p types core.blocks core.statics (live [] e) core.vars → ReturnPoints p graph core e → IsCounted q c g (λ r. owned around (live [] e) core.vars r + own r)
        → From (blocks_of around graph.blocks) next (behind_exit around e) → LeavesBy (at_ (ops_of around [] e) (exit_of around next e) b at h (memory g)) (leaves p e waiting core)

    pub exit_leaves : structs_ok p.structs 0 p.structs ≡ true → Apart core.statics → ((n : ℕ) → reference_given plan.counted (Some graph.result) ≡ Some n → root_of plan n ≡ n) → ((link : LlLink) → link_ok p graph link ≡ true → Roomy g (length link.args + 0)) → Roomy g 1 → (e : LlExit) → Followed e
    exit_leaves laid none_there lead room one (exit.Goto link) explicit ok pointing return counts ways = goto_leaves link ok (room link ok) pointing counts
    exit_leaves laid none_there lead room one (exit.If v there elsewhere) explicit ok pointing return counts ways = if_leaves v there elsewhere ok room pointing counts ways
    exit_leaves laid none_there lead room one (exit.OnRaise a by without) explicit ok pointing return counts ways = absurd (cc)
    exit_leaves laid none_there lead room one (exit.Return x) explicit ok pointing return counts ways = return_leaves x ok lead return one pointing counts
    exit_leaves laid none_there lead room one (exit.Raise a) explicit ok pointing return counts ways = absurd (cc)
    exit_leaves laid none_there lead room one (exit.Fail number) explicit ok pointing return counts ways = fail_leaves number
    exit_leaves laid none_there lead room one (exit.Raised a) explicit ok pointing return counts ways = raised_leaves laid none_there 0 one a ok pointing counts
