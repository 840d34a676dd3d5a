-- The explicit program passes the test for counts where the program does.
use Rattle.std.proofs.Common.{◌≡◌, ◌<◌, ◌≤◌, ℕ, zero, suc, ◌+◌, Bool, true, false, ◌&&◌, ◌||◌, ◌==◌, List, [], ◌∷◌, length, map, Option, Some, None, refl, sym, ap, ◌∙◌, subst, arith}
use Rattle.std.specs.Prelude.{slice_get, cond, not, is_some, is_none, nat_lt, option_map}
use Rattle.std.proofs.lemmas.Option.{slice_get_within}
use Rattle.csub_tree.specs.declared.tree.COperand.{COperand}
use Rattle.ll_code.specs.Typed.{operation_ok, operations_ok, exit_ok, block_ok, blocks_ok, graph_ok, graphs_ok, items_of}
use Rattle.ll_code.specs.declared.program.LlType.{LlType}
use Rattle.ll_code.specs.declared.program.LlType.TheVariants as type
use Rattle.ll_code.specs.declared.program.LlOp.{LlOp}
use Rattle.ll_code.specs.declared.program.LlOp.TheVariants as op
use Rattle.ll_code.specs.declared.program.LlExit.{LlExit}
use Rattle.ll_code.specs.declared.program.LlExit.TheVariants as exit
use Rattle.ll_code.specs.declared.program.LlBlock.{LlBlock}
use Rattle.ll_code.specs.declared.program.LlGraph.{LlGraph}
use Rattle.ll_code.specs.declared.program.LlProgram.{LlProgram}
use Rattle.ll_laws.proofs.Values.{and_left, and_right, is_same, is_less, has_type_is}
use Rattle.ll_live.specs.Live.{among, variables_in, reads, set_by, sets}
use Rattle.exc_transform.specs.declared.pieces.Ending.{Ending}
use Rattle.exc_transform.specs.declared.pieces.Ending.TheVariants.{Leaves, Raises, Tested}
use Rattle.exc_transform.specs.Explicit.{is_tested, graphs_calm, left_ops, way_ops, raised_ops, testing}
use Rattle.exc_transform.specs.Raising.{may_raise, exit_leaves, some_raises, raises_within}
use Rattle.exc_transform.specs.Live.{live, live_from, handler_reads, new_ones, exit_reads, and_this}
use Rattle.exc_transform.specs.Pieces.{way_block, rest_block, ending_in, ops_by, piece, piece_ops, blocks_of, graph_of, graphs_of, explicit}
use Rattle.exc_transform.proofs.Without.{raises_is, tested_calm}
use Rattle.exc_laws.specs.Ready.{marks_of, any_of, exceptions_of}
use Rattle.exc_laws.specs.Stands.{around_in, explicit_graph}
use Rattle.exc_laws.specs.Holds.{HasFewVariables}
use Rattle.exc_laws.proofs.Tests.{and_both, or_first, or_second, equals, is_below, get_left, get_map}
use Rattle.exc_laws.proofs.Jumps.{not_same}
use Rattle.exc_laws.proofs.Places.{block_placed}
use Rattle.exc_laws.proofs.Pieces.{tested_raises}
use Rattle.exc_laws.proofs.Typed.{all_there, handler_there, live_there}
use Rattle.exc_laws.proofs.Waiting.{sets_within}
use Rattle.exc_ready.specs.Raisable.{root_of as exception_root, raises_alike, block_raisable, blocks_raisable, graph_raisable, graphs_raisable, IsRaisable}
use Rattle.exc_ready.proofs.Passes.{is_not}
use Rattle.exc_ready.proofs.Made.{ops_all, blocks_all, AllFirst, made_all, More, Types, Excepts, HasTests, has_tests, Accepts, left_all, testing_all, raised_all, way_all, Own, Rest, rest_next, need_here, piece_all, block_rest}
use Rattle.refcount_transform.specs.Plan.{Plan, reference_given, place_of}
use Rattle.refcount_transform.specs.Changes.{around_of, var_referred}
use Rattle.refcount_laws.specs.Leaves.{are_apart}
use Rattle.refcount_checks.specs.Countable.{most, sets_unread, result_of, call_countable, calls_countable, op_countable, ops_countable, fills, number_follows, numbers_follow, block_countable, blocks_countable, takes_params, graph_countable, graphs_countable, is_countable}
use Rattle.exc_counted.specs.Both.{catches_other, blocks_catch_others, graphs_catch_others}
use Rattle.exc_counted.proofs.Distinct.{few_there, new_apart}
use Rattle.exc_counted.proofs.Less.{First, Second, if_referred}

-- ---- variables that are passed on

handler_apart : (rest : List LlOp) (e : LlExit) → are_apart (handler_reads rest e) ≡ true
handler_apart [] (exit.OnRaise a (Some by) without) = new_apart (variables_in by.args) (a ∷ []) [] refl
handler_apart [] (exit.OnRaise a None without) = refl
handler_apart [] other = refl
handler_apart (o ∷ rest) e = refl

live_apart : (marks : List Bool) (any raises : Bool) (set live : List ℕ) (ops : List LlOp) (e : LlExit) → are_apart live ≡ true → are_apart (live_from marks any raises set live ops e) ≡ true
live_apart marks any raises set live [] e h = new_apart (exit_reads raises e) set live h
live_apart marks any raises set live (o ∷ ops) e h = live_apart marks any (may_raise marks any o) (and_this set (set_by o)) (new_ones (reads o) set live) ops e (new_apart (reads o) set live h)

-- ---- tests

unread : (x b : Bool) → b ≡ false → (not (x && b) && true) ≡ true
unread x true e = absurd (cc)
unread true false e = refl
unread false false e = refl

differ : (m n : ℕ) → (m ≡ n → ⊥) → (m == n) ≡ false
differ m n h = one (m == n) refl
  where
    one : (b : Bool) → (m == n) ≡ b → b ≡ false
    one true e = absurd (h (is_same m n e))
    one false e = refl

alone_among : (v w : ℕ) → (w ≡ v → ⊥) → among v (w ∷ []) ≡ false
alone_among v w h = ap (λ b. b || false) (differ w v h)

-- ---- no field is set

abbrev sets_no_field : LlOp → Bool
sets_no_field (op.SetField n v k x) = false
sets_no_field other = true

no_numbers : (plan : Plan) (before : Option LlOp) (ops : List LlOp) → ops_all sets_no_field ops ≡ true → numbers_follow plan before ops ≡ true
no_numbers plan before [] h = refl
no_numbers plan before (o ∷ ops) h = and_both (number_follows plan before o) (numbers_follow plan (Some o) ops) (one o (and_left _ _ h)) (no_numbers plan (Some o) ops (and_right (sets_no_field o) _ h))
  where
    one : (o : LlOp) → sets_no_field o ≡ true → number_follows plan before o ≡ true
    one (op.SetField n v k x) h = absurd (cc)
    one other h = refl

-- a call makes no array
behind_call : (marks : List Bool) (any : Bool) (plan : Plan) (o : LlOp) (ops : List LlOp) → is_tested marks any o ≡ true → numbers_follow plan (Some o) ops ≡ true → numbers_follow plan None ops ≡ true
behind_call marks any plan (op.Call into f xs) [] t h = refl
behind_call marks any plan (op.Call into f xs) (o ∷ ops) t h = and_both (number_follows plan None o) (numbers_follow plan (Some o) ops) (one o (and_left _ _ h)) (and_right (number_follows plan (Some (op.Call into f xs)) o) _ h)
  where
    one : (o : LlOp) → number_follows plan (Some (op.Call into f xs)) o ≡ true → number_follows plan None o ≡ true
    one (op.SetField n v k x) h = h
    one other h = refl
behind_call marks any plan (op.CallFn into result params b xs) [] t h = refl
behind_call marks any plan (op.CallFn into result params b xs) (o ∷ ops) t h = and_both (number_follows plan None o) (numbers_follow plan (Some o) ops) (one o (and_left _ _ h)) (and_right (number_follows plan (Some (op.CallFn into result params b xs)) o) _ h)
  where
    one : (o : LlOp) → number_follows plan (Some (op.CallFn into result params b xs)) o ≡ true → number_follows plan None o ≡ true
    one (op.SetField n v k x) h = h
    one other h = refl
behind_call marks any plan other ops t h = absurd (cc)

-- ---- what catches

abbrev Other : List LlOp → LlExit → Type 0
Other ops e = catches_other ops e ≡ true

other_next : (o : LlOp) (ops : List LlOp) (e : LlExit) → Other (o ∷ ops) e → Other ops e
other_next o [] e h = refl
other_next (op.Raise v) (x ∷ ops) e h = h
other_next other (x ∷ ops) e h = h

module _ (p : LlProgram) (passes : IsRaisable p) (raises : graphs_calm p.graphs ≡ false) where
  graphs_are_so : (explicit p).graphs ≡ map (graph_of (exceptions_of p) (marks_of p)) p.graphs
  graphs_are_so = ap (λ b. cond b p.graphs (graphs_of p.structs p.graphs)) raises

  abbrev Graphs : List LlGraph
  Graphs = map (graph_of (exceptions_of p) (marks_of p)) p.graphs

  result_same : (f : ℕ) → result_of (slice_get Graphs f) ≡ result_of (slice_get p.graphs f)
  result_same f = ap result_of (get_map (graph_of (exceptions_of p) (marks_of p)) p.graphs f) ∙ one (slice_get p.graphs f)
    where
      one : (o : Option LlGraph) → result_of (option_map (graph_of (exceptions_of p) (marks_of p)) o) ≡ result_of o
      one None = refl
      one (Some g) = refl

  -- a number of an array in the explicit program is one in the program
  number_less : (before : Option LlOp) (o : LlOp) → number_follows (First p passes) before o ≡ true → number_follows (Second p passes) before o ≡ true
  number_less before (op.SetField n v k x) h =
      if_referred p passes (λ r. not (is_some r && (place_of (First p passes) n k == 0)) || fills before n v x) refl (items_of (slice_get p.structs n)) h
  number_less before other h = refl

  module _ (g : LlGraph) where
    abbrev Counts : LlOp → Bool
    Counts o = op_countable (Second p passes) Graphs (Types p Other other_next g) o

    -- ---- operations that are made

    below : (v : ℕ) → Excepts p Other other_next g v → v < length g.types
    below v h = slice_get_within g.types v (type.Ptr (exception_root p)) (has_type_is (type.Ptr (exception_root p)) (slice_get g.types v) h)

    accepts : Accepts p Other other_next g Counts
    accepts = record {
      alone = λ v e h. refl;
      names = λ t n v e h. unread (is_some (var_referred (around_of (Second p passes) (Types p Other other_next g)) (length g.types))) (among (length g.types) (v ∷ [])) (alone_among (length g.types) v (λ same. let lt : v < length g.types = below v h in omega (arith, same, lt)));
      puts = λ t v h. refl;
      asks = λ t. unread (is_some (var_referred (around_of (Second p passes) (Types p Other other_next g)) (length g.types))) false refl;
      tests = λ t. unread (is_some (var_referred (around_of (Second p passes) (Types p Other other_next g)) (length g.types + 1))) (among (length g.types + 1) (length g.types ∷ [])) (alone_among (length g.types + 1) (length g.types) (λ same. omega (arith, same)));
      takes = λ a h. unread (is_some (var_referred (around_of (Second p passes) (Types p Other other_next g)) a)) false refl;
      clears = refl;
      gives = λ a v by without other h k. unread (is_some (var_referred (around_of (Second p passes) (Types p Other other_next g)) a)) (among a (v ∷ [])) (alone_among a v (λ same. not_same a v (is_not (a == v) other) (sym same)));
    }

    no_fields : Accepts p Other other_next g sets_no_field
    no_fields = record { alone = λ v e h. refl; names = λ t n v e h. refl; puts = λ t v h. refl; asks = λ t. refl; tests = λ t. refl; takes = λ a h. refl; clears = refl; gives = λ a v by without o h k. refl }

    -- ---- its own operations

    sets_less : (o : LlOp) (into : Option ℕ) → ((v : ℕ) → sets into v ≡ true → v < length g.types) → sets_unread (First p passes) g.types o into ≡ true → sets_unread (Second p passes) (Types p Other other_next g) o into ≡ true
    sets_less o None within h = refl
    sets_less o (Some a) within h = one (slice_get g.types a) refl
      where
        less : not (is_some (reference_given (Second p passes).counted (slice_get g.types a)) && among a (reads o)) ≡ true
        less = if_referred p passes (λ r. not (is_some r && among a (reads o))) refl (slice_get g.types a) h

        one : (t : Option LlType) → slice_get g.types a ≡ t → not (is_some (reference_given (Second p passes).counted (slice_get (Types p Other other_next g) a)) && among a (reads o)) ≡ true
        one None e = absurd (let lt : a < length g.types = within a (equals a a refl) in not_there g.types a lt e)
          where
            not_there : (types : List LlType) (a : ℕ) → a < length types → slice_get types a ≡ None → ⊥
            not_there [] a lt e = omega (arith, lt)
            not_there (t ∷ types) zero lt e = cc
            not_there (t ∷ types) (suc a) lt e = not_there types a (omega (arith, lt)) e
        one (Some t) e =
            ap (λ t. not (is_some (reference_given (Second p passes).counted t) && among a (reads o))) (get_left g.types (More p Other other_next g) a t e ∙ sym e) ∙ less

    call_less : (into : Option ℕ) (result : Option LlType) (xs : List COperand) → call_countable (First p passes) into result xs ≡ true → call_countable (Second p passes) into result xs ≡ true
    call_less (Some a) result xs h = h
    call_less None result xs h =
        and_both (is_none (reference_given (Second p passes).counted result)) (nat_lt (length xs) most) (if_referred p passes is_none refl result (and_left _ _ h)) (and_right (is_none (reference_given (First p passes).counted result)) _ h)

    calls_less : (o : LlOp) → calls_countable (First p passes) p.graphs o ≡ true → calls_countable (Second p passes) Graphs o ≡ true
    calls_less (op.Call into f xs) h = ap (λ r. call_countable (Second p passes) into r xs) (result_same f) ∙ call_less into (result_of (slice_get p.graphs f)) xs h
    calls_less (op.CallFn into result params b xs) h = call_less into (Some result) xs h
    calls_less other h = refl

    own_counts : (ops : List LlOp) → operations_ok p g.types ops ≡ true → ops_countable (First p passes) p.graphs g.types ops ≡ true → Own p Other other_next g Counts accepts ops
    own_counts [] k h = tt
    own_counts (o ∷ ops) k h = (
      λ c. and_both (sets_unread (Second p passes) (Types p Other other_next g) o (set_by o)) (calls_countable (Second p passes) Graphs o)
          (sets_less o (set_by o) (sets_within p g.types o (and_left _ _ k)) (and_left _ _ (and_left _ _ h))) (calls_less o (and_right (sets_unread (First p passes) g.types o (set_by o)) _ (and_left _ _ h))),
      own_counts ops (and_right (operation_ok p g.types o) _ k) (and_right (op_countable (First p passes) p.graphs g.types o) _ h),
    )

    ops_count : (ops : List LlOp) → ops_all Counts ops ≡ true → ops_countable (Second p passes) Graphs (Types p Other other_next g) ops ≡ true
    ops_count [] h = refl
    ops_count (o ∷ ops) h = and_both (Counts o) (ops_countable (Second p passes) Graphs (Types p Other other_next g) ops) (and_left _ _ h) (ops_count ops (and_right (Counts o) _ h))

    -- ---- numbers of arrays

    abbrev RestOf : List LlOp → LlExit → Type 0
    RestOf ops e = Rest p Other other_next g Counts accepts ops e

    piece_numbers : (ops : List LlOp) (e : LlExit) (before : Option LlOp) → RestOf ops e → numbers_follow (First p passes) before ops ≡ true → numbers_follow (Second p passes) before (piece_ops (around_in p g) ops e) ≡ true
    piece_numbers [] e before r h = no_numbers (Second p passes) before (left_ops (exceptions_of p) (length g.types) e) (left_all p Other other_next g sets_no_field no_fields e r.end (λ f. r.need (or_first (exit_leaves e) false f)))
    piece_numbers (o ∷ rest) e before r h =
        by (number_less before o (and_left (number_follows (First p passes) before o) (numbers_follow (First p passes) (Some o) rest) h))
        (piece_numbers rest e (Some o) (rest_next p Other other_next g Counts accepts o rest e r) (and_right (number_follows (First p passes) before o) _ h)) (ending_in (around_in p g) o) refl
      where
        by : number_follows (Second p passes) before o ≡ true → numbers_follow (Second p passes) (Some o) (piece_ops (around_in p g) rest e) ≡ true → (x : Ending) → ending_in (around_in p g) o ≡ x
            → numbers_follow (Second p passes) before (ops_by (around_in p g) o rest e x (piece_ops (around_in p g) rest e)) ≡ true
        by here go (Raises v) f =
            let is : o ≡ op.Raise v = raises_is (marks_of p) (any_of p) o v f in
            no_numbers (Second p passes) before (raised_ops (exceptions_of p) g.types (length g.types) v rest e)
            (raised_all p Other other_next g sets_no_field no_fields (need_here p Other other_next g Counts accepts o rest e r (subst (λ o. may_raise (marks_of p) (any_of p) o ≡ true) (sym is) refl)) v
            (subst (λ o. raises_alike (exception_root p) g.types o ≡ true) is (and_left _ _ (and_left _ _ (and_left _ _ r.raises)))) rest e (subst (λ o. Other (o ∷ rest) e) is r.other) r.end)
        by here go Tested f =
            let c = tested_calm (marks_of p) (any_of p) o f in
            and_both (number_follows (Second p passes) before o) (numbers_follow (Second p passes) (Some o) (testing (exceptions_of p) (length g.types) (length g.types + 1))) here
            (no_numbers (Second p passes) (Some o) (testing (exceptions_of p) (length g.types) (length g.types + 1))
            (testing_all p Other other_next g sets_no_field no_fields (need_here p Other other_next g Counts accepts o rest e r (tested_raises (marks_of p) (any_of p) o c.1))))
        by here go Leaves f = and_both (number_follows (Second p passes) before o) (numbers_follow (Second p passes) (Some o) (piece_ops (around_in p g) rest e)) here go

    -- ---- blocks

    abbrev BlockCounts : LlBlock → Bool
    BlockCounts block = block_countable (Second p passes) Graphs (Types p Other other_next g) block

    record Whole (ops : List LlOp) (e : LlExit) : Type 0 where
      rest : RestOf ops e
      before : Option LlOp
      follows : numbers_follow (First p passes) before ops ≡ true
      ops_ok : operations_ok p g.types ops ≡ true
      end_ok : exit_ok p g e ≡ true

    whole_next : (o : LlOp) (ops : List LlOp) (e : LlExit) → Whole (o ∷ ops) e → Whole ops e
    whole_next o ops e w = record {
      rest = rest_next p Other other_next g Counts accepts o ops e w.rest;
      before = Some o;
      follows = and_right (number_follows (First p passes) w.before o) _ w.follows;
      ops_ok = and_right (operation_ok p g.types o) _ w.ops_ok;
      end_ok = w.end_ok;
    }

    module _ (few : length g.types < most) where
      count : (block : LlBlock) → are_apart block.inputs ≡ true → length block.inputs < most → ops_all Counts block.ops ≡ true → numbers_follow (Second p passes) None block.ops ≡ true → BlockCounts block ≡ true
      count block apart lt h k =
          and_both (are_apart block.inputs && nat_lt (length block.inputs) most && ops_countable (Second p passes) Graphs (Types p Other other_next g) block.ops) (numbers_follow (Second p passes) None block.ops)
          (and_both (are_apart block.inputs && nat_lt (length block.inputs) most) (ops_countable (Second p passes) Graphs (Types p Other other_next g) block.ops)
          (and_both (are_apart block.inputs) (nat_lt (length block.inputs) most) apart (is_below (length block.inputs) most lt)) (ops_count block.ops h)) k

      short : (vs : List ℕ) → are_apart vs ≡ true → all_there g.types vs ≡ true → length vs < most
      short vs apart h = let le : length vs ≤ length g.types = few_there g.types vs apart h in omega (arith, le, few)

      way_counts : (rest : List LlOp) (e : LlExit) → Whole rest e → BlockCounts (way_block (around_in p g) rest e) ≡ true
      way_counts rest e w =
          count (way_block (around_in p g) rest e) (handler_apart rest e) (short (handler_reads rest e) (handler_apart rest e) (handler_there p g rest e w.end_ok)) (way_all p Other other_next g Counts accepts rest e w.rest.end)
          (no_numbers (Second p passes) None (way_ops (exceptions_of p) g.types rest e) (way_all p Other other_next g sets_no_field no_fields rest e w.rest.end))

      rest_counts : (o : LlOp) (rest : List LlOp) (e : LlExit) (way : ℕ) → ending_in (around_in p g) o ≡ Tested → Whole (o ∷ rest) e → BlockCounts (rest_block (around_in p g) rest e way) ≡ true
      rest_counts o rest e way f w =
          let apart : are_apart (live (marks_of p) (any_of p) rest e) ≡ true = live_apart (marks_of p) (any_of p) false [] [] rest e refl in
          let next : RestOf rest e = rest_next p Other other_next g Counts accepts o rest e w.rest in
          count (rest_block (around_in p g) rest e way) apart
          (short (live (marks_of p) (any_of p) rest e) apart (live_there p g (marks_of p) (any_of p) false [] [] rest e refl (and_right (operation_ok p g.types o) _ w.ops_ok) w.end_ok))
          (piece_all p Other other_next g Counts accepts rest e next)
          (piece_numbers rest e None next (behind_call (marks_of p) (any_of p) (First p passes) o rest (tested_calm (marks_of p) (any_of p) o f).1 (and_right (number_follows (First p passes) w.before o) _ w.follows)))

      firsts_count : (blocks : List LlBlock) → blocks_raisable p g.types blocks ≡ true → blocks_ok p g blocks ≡ true → blocks_countable (First p passes) p.graphs g.types blocks ≡ true → blocks_catch_others blocks ≡ true
          → (raises_within (marks_of p) (any_of p) blocks ≡ true → HasTests p Other other_next g) → AllFirst (around_in p g) BlockCounts Whole whole_next way_counts rest_counts blocks
      firsts_count [] h k c d t = tt
      firsts_count (b ∷ blocks) h k c d t =
          let own : block_countable (First p passes) p.graphs g.types b ≡ true = and_left _ _ c in
          let rest : RestOf b.ops b.exit = block_rest p Other other_next g Counts accepts b (and_left _ _ h) (own_counts b.ops (and_left _ _ (and_left _ _ k)) (and_right _ _ (and_left _ _ own))) (and_left _ _ d)
          (λ f. t (or_first (exit_leaves b.exit || some_raises (marks_of p) (any_of p) b.ops) _ f)) in (
            record { rest = rest; before = None; follows = and_right _ _ own; ops_ok = and_left _ _ (and_left _ _ k); end_ok = and_right (operations_ok p g.types b.ops) _ (and_left _ _ k) },
            (λ way. count (piece (around_in p g) b.inputs b.ops b.exit way) (and_left _ _ (and_left _ _ (and_left _ _ own))) (is_less (length b.inputs) most (and_right (are_apart b.inputs) _ (and_left _ _ (and_left _ _ own)))) (piece_all p Other other_next g Counts accepts b.ops b.exit rest)
                (piece_numbers b.ops b.exit None rest (and_right _ _ own))),
            firsts_count blocks (and_right (block_raisable p g.types b) _ h) (and_right (block_ok p g b) _ k) (and_right (block_countable (First p passes) p.graphs g.types b) _ c) (and_right (catches_other b.ops b.exit) _ d)
                (λ f. t (or_second (exit_leaves b.exit || some_raises (marks_of p) (any_of p) b.ops) _ f)),
          )

      blocks_count : (blocks : List LlBlock) → blocks_all BlockCounts blocks ≡ true → blocks_countable (Second p passes) Graphs (Types p Other other_next g) blocks ≡ true
      blocks_count [] h = refl
      blocks_count (b ∷ blocks) h = and_both (BlockCounts b) (blocks_countable (Second p passes) Graphs (Types p Other other_next g) blocks) (and_left _ _ h) (blocks_count blocks (and_right (BlockCounts b) _ h))

      -- the first block has the inputs that it had
      takes_same : (params : List ℕ) (blocks : List LlBlock) → takes_params params (slice_get blocks 0) ≡ true → takes_params params (slice_get (blocks_of (around_in p g) blocks) 0) ≡ true
      takes_same params [] h = refl
      takes_same params (b ∷ blocks) h = ap (takes_params params) (block_placed (around_in p g) (b ∷ blocks) 0 b refl).1 ∙ h

      graph_counts : graph_raisable p g ≡ true → graph_ok p g ≡ true → graph_countable (First p passes) p.graphs g ≡ true → blocks_catch_others g.blocks ≡ true → graph_countable (Second p passes) Graphs (explicit_graph p g) ≡ true
      graph_counts h k c d =
          and_both (takes_params g.params (slice_get (blocks_of (around_in p g) g.blocks) 0)) (blocks_countable (Second p passes) Graphs (Types p Other other_next g) (blocks_of (around_in p g) g.blocks))
          (takes_same g.params g.blocks (and_left _ _ c))
          (blocks_count (blocks_of (around_in p g) g.blocks)
          (made_all (around_in p g) BlockCounts Whole whole_next way_counts rest_counts g.blocks
          (firsts_count g.blocks (and_right _ _ h) (and_right _ _ k) (and_right (takes_params g.params (slice_get g.blocks 0)) _ c) d (has_tests p Other other_next g))))

  graphs_count : (graphs : List LlGraph) → ((f : ℕ) (g : LlGraph) → slice_get graphs f ≡ Some g → length g.types < most) → graphs_raisable p graphs ≡ true → graphs_ok p graphs ≡ true
      → graphs_countable (First p passes) p.graphs graphs ≡ true → graphs_catch_others graphs ≡ true → graphs_countable (Second p passes) Graphs (map (graph_of (exceptions_of p) (marks_of p)) graphs) ≡ true
  graphs_count [] few h k c d = refl
  graphs_count (g ∷ graphs) few h k c d =
      and_both (graph_countable (Second p passes) Graphs (explicit_graph p g)) (graphs_countable (Second p passes) Graphs (map (graph_of (exceptions_of p) (marks_of p)) graphs))
      (graph_counts g (few 0 g refl) (and_left _ _ h) (and_left _ _ k) (and_left _ _ c) (and_left _ _ d))
      (graphs_count graphs (λ f x e. few (suc f) x e) (and_right (graph_raisable p g) _ h) (and_right (graph_ok p g) _ k) (and_right (graph_countable (First p passes) p.graphs g) _ c) (and_right (blocks_catch_others g.blocks) _ d))

  pub made_countable : HasFewVariables most p → graphs_ok p p.graphs ≡ true → is_countable p ≡ true → graphs_catch_others p.graphs ≡ true → is_countable (explicit p) ≡ true
  made_countable few k c d = ap (λ graphs. graphs_countable (Second p passes) graphs graphs) graphs_are_so ∙ graphs_count p.graphs few (and_left _ _ passes) k c d
