-- Links that a test chooses from.
use Rattle.std.proofs.Common.{◌≡◌, ◌<◌, ◌≤◌, ◌⊎◌, inl, inr, ℕ, ◌+◌, Bool, true, false, List, [], ◌++◌, length, Option, Some, None, refl, sym, ap, ◌∙◌, subst, arith, append_assoc}
use Rattle.std.specs.Prelude.{slice_get, if◌then◌else◌}
use Rattle.std.proofs.lemmas.List.{append-nil, length-append}
use Rattle.csub_tree.specs.declared.tree.COperand.TheVariants.{Var, Const}
use Rattle.csub_tree.specs.State.{Value, Flag, Core}
use Rattle.csub_tree.specs.Operation.{flag_of as flag_in}
use Rattle.csub_tree.specs.Statement.{read}
use Rattle.ll_code.specs.State.{Frame, State, At, Goes}
use Rattle.ll_code.specs.Machine.{branch as branches, jump}
use Rattle.ll_code.specs.declared.program.LlType.{LlType}
use Rattle.ll_code.specs.declared.program.LlType.TheVariants as type
use Rattle.ll_code.specs.declared.program.LlOp.{LlOp}
use Rattle.ll_code.specs.declared.program.LlExit.{LlExit}
use Rattle.ll_code.specs.declared.program.LlExit.TheVariants as made
use Rattle.ll_code.specs.declared.program.LlLink.{LlLink}
use Rattle.ll_code.specs.declared.program.LlProgram.{LlProgram}
use Rattle.ll_build.specs.declared.needs.Numbers.{Numbers}
use Rattle.ll_leads.proofs.Ways.{one as one_step}
use Rattle.rpy_tree.specs.Value.{Value as Meant, Flag as MeantFlag, Heap}
use Rattle.rpy_meaning.specs.Operations.{truth_in}
use Rattle.rpy_meaning.specs.World.{World}
use Rattle.flow_graph.specs.declared.graph.Exit.TheVariants as exit
use Rattle.flow_graph.specs.declared.graph.Graphs.{Graphs}
use Rattle.flow_graph.specs.declared.graph.Link.{Link}
use Rattle.flow_meaning.specs.Machine.{Bound, look, truth_of as truth_at}
use Rattle.rtyper_op.specs.declared.text.Test.{Test}
use Rattle.rtyper_op.specs.declared.text.Test.TheVariants.{Known as IsKnown, By}
use Rattle.rtyper_op.specs.Texts.{truth_by, truth_of}
use Rattle.rtyper_data.specs.declared.body.Body.{Body}
use Rattle.rtyper_data.specs.Seen.{Writing}
use Rattle.rtyper_program.specs.Links.{branch, by_test, goto, known_truth, link_of, truth_test, known_test}
use Rattle.rtyper_program.specs.Seen.{Lowered, element_at, operand_of}
use Rattle.object_laws.specs.Done.{HasLayout}
use Rattle.object_laws.specs.Ghost.{Ghost, Grown}
use Rattle.object_laws.specs.Known.{Known}
use Rattle.object_laws.specs.Represents.{Represents}
use Rattle.object_laws.specs.Values.{Holds, Stands, flag}
use Rattle.object_laws.proofs.Valued.{plain_stands}
use Rattle.lower_laws.specs.Values.{is_plain}
use Rattle.lower_laws.proofs.Typing.{place_of_flags}
use Rattle.rtyper_layout.specs.Types.{type_seen}
use Rattle.rtyper_layout.specs.Kinds.{kind_seen}
use Rattle.rtyper_layout.specs.declared.kind.Kind.TheVariants as kind
use Rattle.object_laws.proofs.Growing.{grown_none, holds_grows}
use Rattle.run_laws.specs.Points.{Setting, is_conflict, names_of, Stand, Way, IsAt}
use Rattle.run_laws.specs.Does.{Does, Jumps, Chooses}
use Rattle.run_laws.proofs.Steps.{grown_both, stays, way_then}
use Rattle.block_laws.specs.Exits.{AnswersBy, AreWays, BranchesAreTaken, FlagsAreTests, IsNever, IsTested, IsToldOf, TestedBy, Tests}
use Rattle.block_laws.specs.Links.{setting, AllAmong, Ends, HasBlocks, IsLink}
use Rattle.block_laws.specs.Operations.{HasTypes}
use Rattle.block_laws.proofs.Adding.{Adds, link_adds}
use Rattle.block_laws.proofs.Passing.{Fit, Moved, arrived, fit_kept, goes_on, jumps, link_is, passes, there}
use Rattle.block_laws.proofs.Variables.{stand_kept}

module _ (l : Lowered) (known : Known) (graphs : Graphs) (p : LlProgram) (arguments : List (List ℕ)) (numbers : Numbers) (below : ℕ) (has : HasLayout p l.world.around.layout) (types : HasTypes (setting l known graphs p arguments) l.number below) (names : List ℕ) (v : ℕ)
    (graph : slice_get graphs.graphs l.number ≡ Some l.graph) (blocks : HasBlocks (setting l known graphs p arguments) l) (free : is_conflict ((setting l known graphs p arguments).element l.number v) ≡ false) where
  abbrev s : Setting
  s = setting l known graphs p arguments

  -- where the link is taken, the machine comes to its block
  record JumpsTo (link : Link) (made_link : LlLink) (frames : List Frame) (env : List Bound) (world : World) (mid : Core) (ghost : Ghost) : Type 0 where
    state : State
    is : jump p frames mid made_link ≡ Goes state
    onward : (g : Ghost) (from : State) → Grown g ghost → Way s from [] state → Jumps s l.number link env world g frames from

  -- what is written for a way of a test, which is taken where the test has this answer
  record Stage (b : Bool) (link : Link) (w : Writing) : Type 1 where
    ops : List LlOp
    new : List LlType
    written : (link_of l None link w).1.body.ops ≡ w.body.ops ++ ops
    added : (link_of l None link w).1.body.types ≡ w.body.types ++ new
    Fine : List Bound → Ghost → List Value → Type 0
    follows : (next : List LlOp) (e : LlExit) (frames : List Frame) (core : Core) (g : Ghost) (env : List Bound) (heap : Heap) (left : ℕ) → Represents l.world.around.layout known g heap left core.blocks core.statics → left ≡ core.steps
        → length w.body.types + length new ≤ length core.vars → Stand s g l.number env core.vars → names_of env ≡ names
        → Moved l known graphs p arguments numbers below has types (length w.body.types) next e frames core g heap left (Fine env) (At (ops ++ next) e frames core)
    keeps : (env : List Bound) (g ghost : Ghost) (vars vars2 : List Value) → Grown g ghost → ((k : ℕ) → k < length w.body.types + length new → read vars2 k ≡ read vars k) → Fine env g vars → Fine env ghost vars2
    goes : (frames : List Frame) (env : List Bound) (world : World) (mid : Core) (ghost : Ghost) (value : Value) (x : Meant) → Fine env ghost mid.vars → Represents l.world.around.layout known ghost world.heap world.left mid.blocks mid.statics → world.left ≡ mid.steps
        → length mid.vars ≡ s.size l.number → length w.body.types + length new ≤ s.size l.number → s.known.graph l.number ≡ Some mid.function → Holds l.world.around.layout known ghost (s.element l.number v) value x → truth_in world x ≡ Some b
        → JumpsTo link (link_of l None link w).0 frames env world mid ghost

  of_link : (b : Bool) (link : Link) (w : Writing) → below ≤ length w.body.types → IsLink s numbers l names link w → Stage b link w
  of_link b link w enough it =
      let pass = passes l known graphs p arguments numbers below has types names link w enough graph blocks it in
      record {
        ops = pass.ops;
        new = pass.new;
        written = ap (λ (k : LlLink × Writing). k.1.body.ops) (link_is l known graphs p arguments numbers below has types names link w enough graph blocks it) ∙ pass.written;
        added = ap (λ (k : LlLink × Writing). k.1.body.types) (link_is l known graphs p arguments numbers below has types names link w enough graph blocks it) ∙ pass.added;
        Fine = λ env ghost vars. Fit l known graphs p arguments numbers below has types ghost env vars it.block.inputs link.args pass.ys;
        follows = λ next e frames core g env heap left stands same room stand named. pass.follows next e frames core g env heap left stands same room stand (subst (λ (ns : List ℕ). AllAmong link.args ns) (sym named) it.own);
        keeps = λ env g ghost vars vars2 grown kept fine. fit_kept l known graphs p arguments numbers below has types (length w.body.types + length pass.new) grown kept pass.under fine;
        goes = λ frames env world mid ghost value x fine stands same room enters runs held answer. record {
          state = At (there l known graphs p arguments numbers below has types names link w enough graph blocks it frames env world mid ghost fine stands same room enters runs).ops
              (there l known graphs p arguments numbers below has types names link w enough graph blocks it frames env world mid ghost fine stands same room enters runs).exit frames
              (arrived l known graphs p arguments numbers below has types names link w enough graph blocks it frames env world mid ghost fine stands same room enters runs);
          is = jumps l known graphs p arguments numbers below has types names link w enough graph blocks it frames env world mid ghost fine stands same room enters runs;
          onward = λ g from grown way. goes_on l known graphs p arguments numbers below has types names link w enough graph blocks it frames env world mid ghost fine stands same room enters runs grown way;
        };
      }

  -- ---- one way alone

  one_way : (b : Bool) (link : Link) (after : Writing) (first second : Link) → ((t : Bool) (env : List Bound) (world : World) (g : Ghost) (frames : List Frame) (from : State) → t ≡ b → Jumps s l.number link env world g frames from → Chooses s l.number first second t env world g frames from) → (w : Writing) → AnswersBy s l v w b after → below ≤ length w.body.types → IsLink s numbers l names link after
      → Ends s l names (exit.If v first second) w (goto (link_of l None link after))
  one_way b link after first second chooses w answers enough way = record {
    ops = st.ops;
    new = st.new;
    written = st.written ∙ ap (λ (ops : List LlOp). ops ++ st.ops) (ap (λ (body : Body). body.ops) answers.same);
    types = st.added ∙ ap (λ (ts : List LlType). ts ++ st.new) (ap (λ (body : Body). body.types) answers.same);
    does = does;
  }
    where
      same_count : length after.body.types ≡ length w.body.types
      same_count = ap (λ (body : Body). length body.types) answers.same

      st : Stage b link after
      st = of_link b link after (omega (arith, enough, same_count)) way

      does : length w.body.types + length st.new ≤ s.size l.number → Does s l.number names [] (exit.If v first second) st.ops (made.Goto (link_of l None link after).0)
      does enters frames core g env world at told t h = by (look env v) refl h
        where
          by : (o : Option Meant) → look env v ≡ o → truth_at world o ≡ Some t → Chooses s l.number first second t env world g frames (At st.ops (made.Goto (link_of l None link after).0) frames core)
          by None e k = absurd (cc)
          by (Some x) e k =
              let held = at.variables.bound v x e free in
              let same = answers.answer g core (read core.vars v) x world t at.stands (λ d q. ap (truth_at world) (sym e) ∙ told d q) held k in
              let m = st.follows [] (made.Goto (link_of l None link after).0) frames core g env world.heap world.left at.stands at.left (let r = at.room in omega (arith, r, enters, same_count)) at.variables at.named in
              let runs = at.runs ∙ ap Some (sym m.function) in
              let j = st.goes frames env world m.end m.ghost (read core.vars v) x m.fine m.stands m.same (m.room ∙ at.room) (omega (arith, enters, same_count)) runs (holds_grows m.grown held) (subst (λ c. truth_in world x ≡ Some c) same k) in
              chooses t env world g frames (At st.ops (made.Goto (link_of l None link after).0) frames core) same
              (j.onward g (At st.ops (made.Goto (link_of l None link after).0) frames core) m.grown
              (subst (λ (ops : List LlOp). Way s (At ops (made.Goto (link_of l None link after).0) frames core) [] j.state) (append-nil st.ops) (way_then s m.way (record { most = 0; leads = one_step j.is refl }))))

  -- what is never taken does anything
  never_way : (b : Bool) (link : Link) (after : Writing) (first second : Link) (w : Writing) → AnswersBy s l v w b after → IsNever s l v b → Ends s l names (exit.If v first second) w (goto (link_of l None link after))
  never_way b link after first second w answers never = record {
    ops = it.ops;
    new = it.new;
    written = it.written ∙ ap (λ (ops : List LlOp). ops ++ it.ops) (ap (λ (body : Body). body.ops) answers.same);
    types = it.types ∙ ap (λ (ts : List LlType). ts ++ it.new) (ap (λ (body : Body). body.types) answers.same);
    does = λ enters. does;
  }
    where
      it : Adds after (link_of l None link after).1
      it = link_adds l None link after

      does : Does s l.number names [] (exit.If v first second) it.ops (made.Goto (link_of l None link after).0)
      does frames core g env world at told t h = by (look env v) refl h
        where
          by : (o : Option Meant) → look env v ≡ o → truth_at world o ≡ Some t → Chooses s l.number first second t env world g frames (At it.ops (made.Goto (link_of l None link after).0) frames core)
          by None e k = absurd (cc)
          by (Some x) e k =
              let held = at.variables.bound v x e free in
              let meant : IsToldOf s l v world x = λ d q. ap (truth_at world) (sym e) ∙ told d q in
              absurd (never g (read core.vars v) x world meant held (subst (λ c. truth_in world x ≡ Some c) (answers.answer g core (read core.vars v) x world t at.stands meant held k) k))

  -- ---- two ways

  module _ (first second : Link) (w : Writing) (t : ℕ) (after : Writing) (enough : below ≤ length w.body.types) (test : TestedBy s l v w t after) (one : Stage true first after) (two : Stage false second (link_of l None first after).1) where
    abbrev exits : LlExit
    exits = made.If t (link_of l None first after).0 (link_of l None second (link_of l None first after).1).0

    abbrev all_ops : List LlOp
    all_ops = test.ops ++ (one.ops ++ two.ops)

    abbrev all_new : List LlType
    all_new = test.new ++ (one.new ++ two.new)

    tested_count : length after.body.types ≡ length w.body.types + length test.new
    tested_count = ap (λ (ts : List LlType). length ts) test.types ∙ length-append w.body.types test.new

    passed_count : length (link_of l None first after).1.body.types ≡ length after.body.types + length one.new
    passed_count = ap (λ (ts : List LlType). length ts) one.added ∙ length-append after.body.types one.new

    new_count : length all_new ≡ length test.new + (length one.new + length two.new)
    new_count = length-append test.new (one.new ++ two.new) ∙ ap (λ n. length test.new + n) (length-append one.new two.new)

    module _ (enters : length w.body.types + length all_new ≤ s.size l.number) (frames : List Frame) (core : Core) (g : Ghost) (env : List Bound) (world : World) (at : IsAt s g l.number names env world core) (b : Bool) (x : Meant) (is : look env v ≡ Some x) (truth : truth_in world x ≡ Some b) where
      held : Holds l.world.around.layout known g (s.element l.number v) (read core.vars v) x
      held = at.variables.bound v x is free

      asks : Tests s l w t b (one.ops ++ (two.ops ++ [])) exits frames core g world test.ops
      asks = test.follows (one.ops ++ (two.ops ++ [])) exits frames core g world x b at.stands at.left (let r = at.room in omega (arith, r, enters, new_count)) held truth

      room_one : length asks.end.vars ≡ s.size l.number
      room_one = asks.room ∙ at.room

      stand_one : Stand s asks.ghost l.number env asks.end.vars
      stand_one = stand_kept s l.number below types asks.grown at.variables (λ n h. asks.others n (omega (arith, h, enough)))

      passes_one : Moved l known graphs p arguments numbers below has types (length after.body.types) (two.ops ++ []) exits frames asks.end asks.ghost world.heap world.left (one.Fine env) (At (one.ops ++ (two.ops ++ [])) exits frames asks.end)
      passes_one = one.follows (two.ops ++ []) exits frames asks.end asks.ghost env world.heap world.left asks.stands asks.left (let r = room_one in omega (arith, r, enters, new_count, tested_count)) stand_one at.named

      room_two : length passes_one.end.vars ≡ s.size l.number
      room_two = passes_one.room ∙ room_one

      stand_two : Stand s passes_one.ghost l.number env passes_one.end.vars
      stand_two = stand_kept s l.number below types passes_one.grown stand_one (λ n h. passes_one.others n (omega (arith, h, enough, tested_count)))

      passes_two : Moved l known graphs p arguments numbers below has types (length (link_of l None first after).1.body.types) [] exits frames passes_one.end passes_one.ghost world.heap world.left (two.Fine env) (At (two.ops ++ []) exits frames passes_one.end)
      passes_two = two.follows [] exits frames passes_one.end passes_one.ghost env world.heap world.left passes_one.stands passes_one.same (let r = room_two in omega (arith, r, enters, new_count, tested_count, passed_count)) stand_two at.named

      room_three : length passes_two.end.vars ≡ s.size l.number
      room_three = passes_two.room ∙ room_two

      answer : read passes_two.end.vars t ≡ Flag b
      answer =
          let low : t < length after.body.types = (let i = test.inside in omega (arith, i, tested_count)) in
          passes_two.others t (omega (arith, low, passed_count)) ∙ passes_one.others t low ∙ asks.answer

      fine_one : one.Fine env passes_two.ghost passes_two.end.vars
      fine_one = one.keeps env passes_one.ghost passes_two.ghost passes_one.end.vars passes_two.end.vars passes_two.grown (λ k h. passes_two.others k (omega (arith, h, passed_count))) passes_one.fine

      all_grown : Grown g passes_two.ghost
      all_grown = grown_both asks.grown (grown_both passes_one.grown passes_two.grown)

      runs : s.known.graph l.number ≡ Some passes_two.end.function
      runs = at.runs ∙ ap Some (sym (passes_two.function ∙ passes_one.function ∙ asks.function))

      comes : Way s (At all_ops exits frames core) [] (At [] exits frames passes_two.end)
      comes = subst (λ (ops : List LlOp). Way s (At ops exits frames core) [] (At [] exits frames passes_two.end))
          (ap (λ (ops : List LlOp). test.ops ++ (one.ops ++ ops)) (append-nil two.ops))
          (way_then s asks.way (way_then s passes_one.way passes_two.way))

      chooses : (c : Bool) → truth_in world x ≡ Some c → read passes_two.end.vars t ≡ Flag c → Chooses s l.number first second c env world g frames (At all_ops exits frames core)
      chooses true k r =
          let j = one.goes frames env world passes_two.end passes_two.ghost (read core.vars v) x fine_one passes_two.stands passes_two.same room_three (omega (arith, enters, new_count, tested_count)) runs (holds_grows all_grown held) k in
          j.onward g (At all_ops exits frames core) all_grown (way_then s comes (record { most = 0; leads = one_step (ap (λ y. branches p frames passes_two.end (link_of l None first after).0 (link_of l None second (link_of l None first after).1).0 (flag_in y)) r ∙ j.is) refl }))
      chooses false k r =
          let j = two.goes frames env world passes_two.end passes_two.ghost (read core.vars v) x passes_two.fine passes_two.stands passes_two.same room_three (omega (arith, enters, new_count, tested_count, passed_count)) runs (holds_grows all_grown held) k in
          j.onward g (At all_ops exits frames core) all_grown (way_then s comes (record { most = 0; leads = one_step (ap (λ y. branches p frames passes_two.end (link_of l None first after).0 (link_of l None second (link_of l None first after).1).0 (flag_in y)) r ∙ j.is) refl }))

    two_ways : Ends s l names (exit.If v first second) w (exits, (link_of l None second (link_of l None first after).1).1)
    two_ways = record {
      ops = all_ops;
      new = all_new;
      written = two.written ∙ ap (λ (ops : List LlOp). ops ++ two.ops) (one.written ∙ ap (λ (ops : List LlOp). ops ++ one.ops) test.written) ∙ joined w.body.ops test.ops one.ops two.ops;
      types = two.added ∙ ap (λ (ts : List LlType). ts ++ two.new) (one.added ∙ ap (λ (ts : List LlType). ts ++ one.new) test.types) ∙ joined w.body.types test.new one.new two.new;
      does = does;
    }
      where
        joined : {A : Type 0} (a b c d : List A) → ((a ++ b) ++ c) ++ d ≡ a ++ (b ++ (c ++ d))
        joined a b c d = append_assoc (a ++ b) c d ∙ append_assoc a b (c ++ d)

        does : length w.body.types + length all_new ≤ s.size l.number → Does s l.number names [] (exit.If v first second) all_ops exits
        does enters frames core g env world at told b h = by (look env v) refl h
          where
            by : (o : Option Meant) → look env v ≡ o → truth_at world o ≡ Some b → Chooses s l.number first second b env world g frames (At all_ops exits frames core)
            by None e k = absurd (cc)
            by (Some x) e k = chooses enters frames core g env world at b x e k b k (answer enters frames core g env world at b x e k)

  enough_tested : (w : Writing) (t : ℕ) (after : Writing) → below ≤ length w.body.types → TestedBy s l v w t after → below ≤ length after.body.types
  enough_tested w t after enough test = (let e : length after.body.types ≡ length w.body.types + length test.new = ap (λ (ts : List LlType). length ts) test.types ∙ length-append w.body.types test.new in omega (arith, e, enough))

  enough_passed : (b : Bool) (first : Link) (after : Writing) → below ≤ length after.body.types → Stage b first after → below ≤ length (link_of l None first after).1.body.types
  enough_passed b first after enough st = (let e : length (link_of l None first after).1.body.types ≡ length after.body.types + length st.new = ap (λ (ts : List LlType). length ts) st.added ∙ length-append after.body.types st.new in omega (arith, e, enough))

  -- ---- by the test

  known_way : (b : Bool) (link : Link) (after : Writing) (first second : Link) → ((t : Bool) (env : List Bound) (world : World) (g : Ghost) (frames : List Frame) (from : State) → t ≡ b → Jumps s l.number link env world g frames from → Chooses s l.number first second t env world g frames from) → (w : Writing) → AnswersBy s l v w b after → below ≤ length w.body.types → IsLink s numbers l names link after ⊎ IsNever s l v b
      → Ends s l names (exit.If v first second) w (goto (link_of l None link after))
  known_way b link after first second chooses w answers enough (inl way) = one_way b link after first second chooses w answers enough way
  known_way b link after first second chooses w answers enough (inr never) = never_way b link after first second w answers never

  tested : (first second : Link) (w : Writing) → below ≤ length w.body.types → (test : Test) (after : Writing) → IsTested s l v w test after → AreWays s numbers l names v first second test after → Ends s l names (exit.If v first second) w (by_test l first second test after)
  tested first second w enough (IsKnown true) after answers way = known_way true first after first second (λ t env world g frames from e jumps. subst (λ c. Chooses s l.number first second c env world g frames from) (sym e) jumps) w answers enough way
  tested first second w enough (IsKnown false) after answers way = known_way false second after first second (λ t env world g frames from e jumps. subst (λ c. Chooses s l.number first second c env world g frames from) (sym e) jumps) w answers enough way
  tested first second w enough (By (Var t)) after test ways = two_ways first second w t after enough test
      (of_link true first after (enough_tested w t after enough test) ways.0)
      (of_link false second (link_of l None first after).1 (enough_passed true first after (enough_tested w t after enough test) (of_link true first after (enough_tested w t after enough test) ways.0)) ways.1)
  tested first second w enough (By (Const c)) after test ways = absurd test

pub branches_are_taken : BranchesAreTaken
unfolding branch
branches_are_taken l known graphs p arguments numbers below names v first second w has types enough graph blocks free test ways =
    tested l known graphs p arguments numbers below has types names v graph blocks free first second w enough (truth_test l.world.around (operand_of l v) w).0 (truth_test l.world.around (operand_of l v) w).1 test ways

-- ---- truth values

-- a truth value is held as itself
record FlagIs (x : Value) (v : Meant) : Type 0 where
  flag : Bool
  low : x ≡ Flag flag
  high : v ≡ MeantFlag flag

flag_of_bool : {g : Ghost} (t : LlType) (x : Value) (v : Meant) → t ≡ type.Bool → Stands g t x v → FlagIs x v
flag_of_bool type.Bool x v h (flag b) = record { flag = b; low = refl; high = refl }
flag_of_bool type.Signed x v h stands = absurd (cc)
flag_of_bool type.Char x v h stands = absurd (cc)
flag_of_bool (type.Ptr n) x v h stands = absurd (cc)
flag_of_bool type.Void x v h stands = absurd (cc)
flag_of_bool type.Fn x v h stands = absurd (cc)

module _ (l : Lowered) (known : Known) (graphs : Graphs) (p : LlProgram) (arguments : List (List ℕ)) (v : ℕ) (w : Writing) (is : kind_seen (element_at l.known.annotation l.number v) ≡ kind.Flag) (inside : v < length w.body.types) where
  flag_tested : TestedBy (setting l known graphs p arguments) l v w v w
  flag_tested = record {
    ops = [];
    new = [];
    written = sym (append-nil w.body.ops);
    types = sym (append-nil w.body.types);
    inside = omega (arith, inside);
    follows = λ next e frames core g world x b stands left room held truth. record {
      end = core;
      way = stays (setting l known graphs p arguments);
      ghost = g;
      grown = grown_none;
      stands = stands;
      left = left;
      answer = (let it = flag_of_bool (type_seen l.world.around.layout (element_at l.known.annotation l.number v)) (read core.vars v) x (place_of_flags l.world.around.layout (element_at l.known.annotation l.number v) is) (plain_stands (ap is_plain is) held) in let q : Some it.flag ≡ Some b = sym (ap (truth_in world) it.high) ∙ truth in let r : it.flag ≡ b = cc in it.low ∙ ap Flag r);
      others = λ n h. refl;
      room = refl;
      function = refl;
    };
  }

  truth_tested : IsTested (setting l known graphs p arguments) l v w (truth_of l.world.around (operand_of l v) w).0 (truth_of l.world.around (operand_of l v) w).1
  unfolding truth_of
  truth_tested = subst (λ (made : Test × Writing). IsTested (setting l known graphs p arguments) l v w made.0 made.1) (sym (ap (λ k. truth_by k l.world.around (operand_of l v) w) is)) flag_tested

-- a test of what is known needs nothing, and any other is that of the truth
pub known_tested : (l : Lowered) (known : Known) (graphs : Graphs) (p : LlProgram) (arguments : List (List ℕ)) (v : ℕ) (w : Writing)
    → IsTested (setting l known graphs p arguments) l v w (truth_of l.world.around (operand_of l v) w).0 (truth_of l.world.around (operand_of l v) w).1
    → IsTested (setting l known graphs p arguments) l v w (truth_test l.world.around (operand_of l v) w).0 (truth_test l.world.around (operand_of l v) w).1
known_tested l known graphs p arguments v w tests = by (known_truth (element_at l.known.annotation l.number v)) refl
  where
    by : (o : Option Bool) → known_truth (element_at l.known.annotation l.number v) ≡ o → IsTested (setting l known graphs p arguments) l v w (known_test o l.world.around (operand_of l v) w).0 (known_test o l.world.around (operand_of l v) w).1
    by None e = tests
    by (Some b) e = record { same = refl; answer = λ g core value x world c stands told held truth. (let t : truth_in world x ≡ Some b = told b e in let q : Some c ≡ Some b = sym truth ∙ t in cc) }

pub flags_are_tests : FlagsAreTests
flags_are_tests l known graphs p arguments v w is inside = known_tested l known graphs p arguments v w (truth_tested l known graphs p arguments v w is inside)
