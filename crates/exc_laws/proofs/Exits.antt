-- The machine of the explicit program follows the exits of blocks.
use Rattle.std.proofs.Common.{◌∷◌, ◌≡◌, ◌<◌, ℕ, ◌+◌, Bool, true, false, ◌==◌, List, [], length, Option, Some, None, Result, Ok, Err, refl, sym, ap, ◌∙◌, subst}
use Rattle.std.specs.Prelude.{slice_get, cond, option_map}
use Rattle.std.proofs.lemmas.Option.{slice_get_within}
use Rattle.rpy_base.specs.declared.outcome.FailName.{FailName}
use Rattle.csub_tree.specs.State.{Value, Ptr, Unset, Block, Core, After, Over, Stuck}
use Rattle.csub_tree.specs.Layout.{Shape}
use Rattle.csub_tree.specs.Operation.{is_unset, flag_of}
use Rattle.csub_tree.specs.Statement.{read, operand, reached, on_block, fail, fail_name_of, raised, raised_as, bytes_of}
use Rattle.csub_tree.specs.declared.stuck.StuckReason.{StuckReason}
use Rattle.csub_tree.specs.declared.stuck.StuckReason.TheVariants.{Unset as IsUnset}
use Rattle.csub_tree.specs.declared.tree.CType.{CType}
use Rattle.csub_tree.specs.declared.tree.CType.TheVariants as c
use Rattle.csub_tree.specs.declared.tree.COperand.{COperand}
use Rattle.ll_code.specs.State.{Frame, State, At, Returning, Throwing, Next, Goes, Puts, Tells, Ends, Sticks}
use Rattle.ll_code.specs.Machine.{step, jump, branch, leaves, gives_back, goes_on, given, type_in, c_type, shapes_of}
use Rattle.ll_code.specs.Typed.{points, link_ok, exit_ok, names_chars}
use Rattle.ll_code.specs.declared.program.LlType.{LlType}
use Rattle.ll_code.specs.declared.program.LlType.TheVariants as type
use Rattle.ll_code.specs.declared.program.LlLink.{LlLink}
use Rattle.ll_code.specs.declared.program.LlExit.{LlExit}
use Rattle.ll_code.specs.declared.program.LlExit.TheVariants as exit
use Rattle.ll_code.specs.declared.program.LlGraph.{LlGraph}
use Rattle.ll_code.specs.declared.program.LlProgram.{LlProgram}
use Rattle.ll_laws.proofs.Values.{and_left, and_right}
use Rattle.exc_transform.specs.Explicit.{graphs_calm, is_marked, default_of, raising, left_ops, left_exit}
use Rattle.exc_transform.specs.Raising.{exit_leaves}
use Rattle.ll_live.specs.Live.{variables_in, exit_variables}
use Rattle.exc_transform.specs.Pieces.{explicit}
use Rattle.exc_laws.specs.Ready.{marks_of, exceptions_of, IsClosed, IsWhole, ReadyAt}
use Rattle.exc_laws.specs.Stands.{explicit_graph, Beside, IsClear, Leaving, Wait, Stands}
use Rattle.ll_held.specs.Held.{Held}
use Rattle.exc_laws.specs.Follows.{Leads, Does, Follows}
use Rattle.exc_laws.proofs.Tests.{or_first, or_second, equals, get_left}
use Rattle.exc_laws.proofs.Lives.{among_left, among_right, among_own, needed_live}
use Rattle.exc_laws.proofs.Operations.{SameOn, operand_same, reached_same}
use Rattle.exc_laws.proofs.Slots.{nothing, then, Raised, raising_end}
use Rattle.exc_laws.proofs.Jumps.{graph_made, jump_follows}

module _ (p : LlProgram) (raises : graphs_calm p.graphs ≡ false) (closed : IsClosed p) (args : List (List ℕ)) where
  -- ---- some steps before

  does_later : (x mid : State) (count : ℕ) (next : Next) → Leads (explicit p) args x mid count → Does p args mid next → Does p args x next
  does_later x mid count next l d = record { later = d.later; count = d.count + count; leads = then (explicit p) args x mid d.later count d.count l d.leads; does = d.does }

  pub follows_later : (x mid : State) (count : ℕ) (next : Next) → Leads (explicit p) args x mid count → Follows p args mid next → Follows p args x next
  follows_later x mid count (Goes to) l (later, d, s) = (later, does_later x mid count (Goes later) l d, s)
  follows_later x mid count (Puts byte to) l (later, d, s) = (later, does_later x mid count (Puts byte later) l d, s)
  follows_later x mid count (Tells event to) l (later, d, s) = (later, does_later x mid count (Tells event later) l d, s)
  follows_later x mid count (Ends outcome core) l (later, d, s) = (later, does_later x mid count (Ends outcome later) l d, s)
  follows_later x mid count (Sticks reason) l d = does_later x mid count (Sticks reason) l d

  pub does_now : (x : State) (next : Next) → step (explicit p) args x ≡ next → Does p args x next
  does_now x next e = record { later = x; count = 0; leads = nothing (explicit p) args x; does = e }

  pub comes_now : (x to later : State) → step (explicit p) args x ≡ Goes later → Stands p to later → Follows p args x (Goes to)
  comes_now x to later e s = (later, does_now x (Goes later) e, s)

  -- a graph is left by a value that nothing reads
  pub default_run : (t : LlType) (frames : List Frame) (core : Core) → (value : Value) × (step (explicit p) args (At [] (exit.Return (default_of t)) frames core) ≡ Goes (Returning value frames core)) × ((b : ℕ) → value ≡ Ptr b → ⊥)
  default_run type.Signed frames core = (_, refl, λ b e. absurd (cc))
  default_run type.Char frames core = (_, refl, λ b e. absurd (cc))
  default_run type.Bool frames core = (_, refl, λ b e. absurd (cc))
  default_run type.Void frames core = (_, refl, λ b e. absurd (cc))
  default_run type.Fn frames core = (_, refl, λ b e. absurd (cc))
  default_run (type.Ptr n) frames core = (_, refl, λ b e. absurd (cc))

  module _ (graph : LlGraph) (frames x_frames : List Frame) (core x_core : Core) (of : slice_get p.graphs core.function ≡ Some graph) (beside : Beside core x_core) (clear : IsClear x_core)
      (count : length core.vars ≡ length graph.types) (size : length x_core.vars ≡ length (explicit_graph p graph).types) (waiting : Wait p core.function frames x_frames) where
    -- ---- an exception leaves the graph

    pub thrown_follows : (v : ℕ) → v < length graph.types → length graph.types + 1 < length x_core.vars → read x_core.vars v ≡ read core.vars v → is_unset (read core.vars v) ≡ false → IsWhole p core (read core.vars v) → is_marked (marks_of p) core.function ≡ true
        → Follows p args (At (raising (exceptions_of p) (length graph.types) v) (exit.Return (default_of graph.result)) x_frames x_core) (Goes (Throwing (read core.vars v) frames core))
    thrown_follows v within room same set whole marked = from (raising_end p args core x_core beside (length graph.types) (exit.Return (default_of graph.result)) x_frames v (read core.vars v) within room same set whole)
      where
        from : Raised (explicit p) args (length graph.types) (exit.Return (default_of graph.result)) x_frames x_core (read core.vars v) (raising (exceptions_of p) (length graph.types) v) []
            → Follows p args (At (raising (exceptions_of p) (length graph.types) v) (exit.Return (default_of graph.result)) x_frames x_core) (Goes (Throwing (read core.vars v) frames core))
        from r =
            let out = default_run graph.result x_frames r.core_after in (
              Returning out.0 x_frames r.core_after,
              record { later = At [] (exit.Return (default_of graph.result)) x_frames r.core_after; count = r.count; leads = r.leads; does = out.1 },
              record {
                beside = record { function = r.kept.beside.function ∙ beside.function; blocks = r.kept.beside.blocks ∙ beside.blocks; statics = r.kept.beside.statics ∙ beside.statics; steps = r.kept.beside.steps ∙ beside.steps };
                set = set;
                slot = r.slot;
                kind = r.kind;
                known = λ apart b e. subst (λ blocks. Held blocks (read core.vars v ∷ []) b) beside.blocks (r.known (λ g block i. apart g block (ap (λ s. slice_get s g) (sym beside.statics) ∙ i)) b e);
                gives = out.2;
                marked = marked;
                waiting = waiting;
              },
            )

    -- ---- exits

    abbrev Same : LlExit → Type 0
    Same e = SameOn (exit_variables e) core.vars x_core.vars

    link_follows : (x : State) (link : LlLink) → step (explicit p) args x ≡ jump (explicit p) x_frames x_core link → link_ok p graph link ≡ true → SameOn (variables_in link.args) core.vars x_core.vars → Follows p args x (jump p frames core link)
    link_follows x link e fine same = jump_follows p raises args closed graph frames x_frames core x_core of beside clear count size waiting x x 0 link (nothing (explicit p) args x) e fine same

    fork_follows : (a : ℕ) (there elsewhere : LlLink) → link_ok p graph there ≡ true → link_ok p graph elsewhere ≡ true → Same (exit.If a there elsewhere) → (o : Option Bool) → flag_of (read core.vars a) ≡ o
        → Follows p args (At [] (exit.If a there elsewhere) x_frames x_core) (branch p frames core there elsewhere o)
    fork_follows a there elsewhere h k same o e = way o (ap flag_of (same a (or_first (a == a) _ (equals a a refl))) ∙ e)
      where
        way : (o : Option Bool) → flag_of (read x_core.vars a) ≡ o → Follows p args (At [] (exit.If a there elsewhere) x_frames x_core) (branch p frames core there elsewhere o)
        way None e = does_now (At [] (exit.If a there elsewhere) x_frames x_core) (Sticks IsUnset) (ap (branch (explicit p) x_frames x_core there elsewhere) e)
        way (Some true) e = link_follows (At [] (exit.If a there elsewhere) x_frames x_core) there (ap (branch (explicit p) x_frames x_core there elsewhere) e) h
            (λ v i. same v (or_second (a == v) _ (among_left v (variables_in there.args) (variables_in elsewhere.args) i)))
        way (Some false) e = link_follows (At [] (exit.If a there elsewhere) x_frames x_core) elsewhere (ap (branch (explicit p) x_frames x_core there elsewhere) e) k
            (λ v i. same v (or_second (a == v) _ (among_right v (variables_in there.args) (variables_in elsewhere.args) i)))

    return_follows : (o : Option COperand) → Same (exit.Return o) → Follows p args (At [] (exit.Return o) x_frames x_core) (gives_back o frames core)
    return_follows None same = comes_now (At [] (exit.Return None) x_frames x_core) (Returning Unset frames core) (Returning Unset x_frames x_core) refl (record { gives = refl; beside = beside; clear = clear; waiting = waiting })
    return_follows (Some x) same = set (is_unset (operand core.vars x)) refl
      where
        value_same : operand x_core.vars x ≡ operand core.vars x
        value_same = operand_same core.vars x_core.vars x same

        stepped : (b : Bool) → is_unset (operand core.vars x) ≡ b → step (explicit p) args (At [] (exit.Return (Some x)) x_frames x_core) ≡ cond b (Sticks IsUnset) (Goes (Returning (operand core.vars x) x_frames x_core))
        stepped b e = ap (λ w. given w (λ value. Goes (Returning value x_frames x_core))) value_same ∙ ap (λ b. cond b (Sticks IsUnset) (Goes (Returning (operand core.vars x) x_frames x_core))) e

        set : (b : Bool) → is_unset (operand core.vars x) ≡ b → Follows p args (At [] (exit.Return (Some x)) x_frames x_core) (cond b (Sticks IsUnset) (Goes (Returning (operand core.vars x) frames core)))
        set true e = does_now (At [] (exit.Return (Some x)) x_frames x_core) (Sticks IsUnset) (stepped true e)
        set false e = comes_now (At [] (exit.Return (Some x)) x_frames x_core) (Returning (operand core.vars x) frames core) (Returning (operand core.vars x) x_frames x_core) (stepped false e) (record { gives = refl; beside = beside; clear = clear; waiting = waiting })

    -- the run ends, or is stuck
    abbrev SameEnd : After → After → Type 0
    SameEnd (Over outcome last) (Over x_outcome x_last) = (x_outcome ≡ outcome) × (x_last.steps ≡ last.steps)
    SameEnd (Stuck reason) (Stuck x_reason) = x_reason ≡ reason
    SameEnd after x_after = ⊥

    end_follows : (x : State) (to x_to : Core → State) (after x_after : After) → SameEnd after x_after → step (explicit p) args x ≡ goes_on x_to x_after → Follows p args x (goes_on to after)
    end_follows x to x_to (Over outcome last) (Over x_outcome x_last) same e = (x_last, does_now x (Ends outcome x_last) (e ∙ ap (λ o. Ends o x_last) same.0), same.1)
    end_follows x to x_to (Stuck reason) (Stuck x_reason) same e = does_now x (Sticks reason) (e ∙ ap Sticks same)
    end_follows x to x_to after x_after same e = absurd same

    fail_same : (o : Option FailName) → SameEnd (fail core o) (fail x_core o)
    fail_same None = refl
    fail_same (Some name) = (refl, beside.steps)

    named_same : (o : Option (List ℕ)) → SameEnd (raised_as core o) (raised_as x_core o)
    named_same None = refl
    named_same (Some name) = (refl, beside.steps)

    found_same : (r : Result Block StuckReason) → SameEnd (on_block (λ block. raised_as core (bytes_of block.items)) r) (on_block (λ block. raised_as x_core (bytes_of block.items)) r)
    found_same (Ok block) = named_same (bytes_of block.items)
    found_same (Err reason) = refl

    raised_same : (shapes : List Shape) (t : Option CType) (w : Value) → SameEnd (raised core shapes t w) (raised x_core shapes t w)
    raised_same shapes (Some (c.Ptr n)) w = subst (λ r. SameEnd (raised core shapes (Some (c.Ptr n)) w) (on_block (λ block. raised_as x_core (bytes_of block.items)) r)) (sym (reached_same core x_core beside shapes n w)) (found_same (reached core shapes n w))
    raised_same shapes None w = refl
    raised_same shapes (Some c.Signed) w = refl
    raised_same shapes (Some c.Char) w = refl
    raised_same shapes (Some c.Bool) w = refl
    raised_same shapes (Some c.Fn) w = refl

    type_same : (a : ℕ) (o : Option LlType) → slice_get graph.types a ≡ o → names_chars p.structs o ≡ true → type_in (slice_get (explicit p).graphs x_core.function) a ≡ type_in (slice_get p.graphs core.function) a
    type_same a None e h = absurd (cc)
    type_same a (Some t) e h =
        ap (λ f. type_in (slice_get (explicit p).graphs f) a) beside.function ∙ ap (λ o. type_in o a) (graph_made p raises args core.function graph of) ∙ ap (option_map c_type) (get_left graph.types _ a t e)
        ∙ sym (ap (λ o. type_in o a) of ∙ ap (option_map c_type) e)

    raised_follows : (a : ℕ) → names_chars p.structs (slice_get graph.types a) ≡ true → Same (exit.Raised a) → Follows p args (At [] (exit.Raised a) x_frames x_core) (leaves p (exit.Raised a) frames core)
    raised_follows a h same =
        end_follows (At [] (exit.Raised a) x_frames x_core) (At [] (exit.Raised a) frames) (At [] (exit.Raised a) x_frames) (raised core (shapes_of p.structs) (type_in (slice_get p.graphs core.function) a) (read core.vars a))
        (raised x_core (shapes_of p.structs) (type_in (slice_get p.graphs core.function) a) (read core.vars a)) (raised_same (shapes_of p.structs) (type_in (slice_get p.graphs core.function) a) (read core.vars a))
        (ap (λ t. goes_on (At [] (exit.Raised a) x_frames) (raised x_core (shapes_of p.structs) t (read x_core.vars a))) (type_same a (slice_get graph.types a) refl h)
        ∙ ap (λ w. goes_on (At [] (exit.Raised a) x_frames) (raised x_core (shapes_of p.structs) (type_in (slice_get p.graphs core.function) a) w)) (same a (among_own a)))

    pointer_within : (a : ℕ) (o : Option LlType) → slice_get graph.types a ≡ o → points o ≡ true → a < length graph.types
    pointer_within a None e h = absurd (cc)
    pointer_within a (Some t) e h = slice_get_within graph.types a t e

    pub exit_follows : (e : LlExit) → exit_ok p graph e ≡ true → Same e → ReadyAt p [] e core → Leaving p core.function [] e → (exit_leaves e ≡ true → length graph.types + 1 < length x_core.vars)
        → Follows p args (At (left_ops (exceptions_of p) (length graph.types) e) (left_exit graph.result e) x_frames x_core) (leaves p e frames core)
    exit_follows (exit.Goto link) h same ready leaving room = link_follows (At [] (exit.Goto link) x_frames x_core) link refl h same
    exit_follows (exit.If a there elsewhere) h same ready leaving room = fork_follows a there elsewhere (and_right _ _ (and_left _ _ h)) (and_right _ _ h) same (flag_of (read core.vars a)) refl
    exit_follows (exit.OnRaise a by without) h same ready leaving room = link_follows (At [] (exit.Goto without) x_frames x_core) without refl (and_right _ _ h) same
    exit_follows (exit.Return x) h same ready leaving room = return_follows x same
    exit_follows (exit.Raise a) h same ready leaving room =
        let set : is_unset (read core.vars a) ≡ false = ready.set a (needed_live p (exit.Raise a) a [] (among_own a)) in
        subst (Follows p args (At (raising (exceptions_of p) (length graph.types) a) (exit.Return (default_of graph.result)) x_frames x_core)) (sym (ap (λ b. cond b (Sticks IsUnset) (Goes (Throwing (read core.vars a) frames core))) set))
        (thrown_follows a (pointer_within a (slice_get graph.types a) refl (and_right _ _ h)) (room refl) (same a (among_own a)) set (ready.whole a refl) (leaving refl))
    exit_follows (exit.Fail number) h same ready leaving room =
        end_follows (At [] (exit.Fail number) x_frames x_core) (At [] (exit.Fail number) frames) (At [] (exit.Fail number) x_frames) (fail core (fail_name_of number)) (fail x_core (fail_name_of number)) (fail_same (fail_name_of number)) refl
    exit_follows (exit.Raised a) h same ready leaving room = raised_follows a h same
