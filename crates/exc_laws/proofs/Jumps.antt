-- A link of the explicit program goes where one of the program does.
use Rattle.std.proofs.Common.{◌≡◌, ◌<◌, ◌≤◌, ℕ, zero, suc, ◌+◌, Bool, true, false, ◌||◌, ◌==◌, List, [], ◌∷◌, ◌++◌, length, map, Option, Some, None, refl, sym, ap, ◌∙◌, subst, arith, ◌⊎◌, inl, inr}
use Rattle.std.specs.Prelude.{slice_get, slice_set, cond, option_map}
use Rattle.std.proofs.lemmas.Option.{slice_get_within}
use Rattle.csub_tree.specs.State.{Value, Unset, Core}
use Rattle.csub_tree.specs.Statement.{read, operand, operands, any_unset}
use Rattle.csub_tree.specs.declared.stuck.StuckReason.TheVariants.{Unset as IsUnset}
use Rattle.csub_tree.specs.declared.tree.COperand.{COperand}
use Rattle.ll_code.specs.State.{Frame, State, At, Sticks}
use Rattle.ll_code.specs.Machine.{step, jump, begins, block_in, set_all, param_types, type_or_word}
use Rattle.ll_code.specs.Typed.{given_takes, all_given, enters, link_ok, is_type_given, params_ok, graph_ok, graphs_ok}
use Rattle.ll_code.specs.declared.program.LlType.{LlType}
use Rattle.ll_code.specs.declared.program.LlLink.{LlLink}
use Rattle.ll_code.specs.declared.program.LlBlock.{LlBlock}
use Rattle.ll_code.specs.declared.program.LlGraph.{LlGraph}
use Rattle.ll_code.specs.declared.program.LlProgram.{LlProgram}
use Rattle.ll_laws.proofs.Values.{and_left, and_right, is_same}
use Rattle.ll_laws.proofs.Operations.{length_set}
use Rattle.exc_transform.specs.Explicit.{graphs_calm}
use Rattle.exc_transform.specs.Raising.{raises_within}
use Rattle.ll_live.specs.Live.{among, variables_in}
use Rattle.exc_transform.specs.Pieces.{test_types, explicit, graph_of, graphs_of, piece, piece_ops, piece_exit, behind}
use Rattle.exc_laws.specs.Ready.{marks_of, any_of, exceptions_of, IsClosed}
use Rattle.exc_laws.specs.Stands.{explicit_graph, around_in, From, Beside, IsClear, Wait}
use Rattle.exc_laws.specs.Follows.{Leads, Follows}
use Rattle.exc_laws.proofs.Tests.{length_map, length_both, get_map, get_left}
use Rattle.exc_laws.proofs.Places.{block_placed}
use Rattle.exc_laws.proofs.Lives.{needed_live}
use Rattle.exc_laws.proofs.Marks.{block_leaving, block_testing}
use Rattle.exc_laws.proofs.Operations.{SameOn, operands_same}
use Rattle.exc_laws.proofs.Slots.{set_here, set_elsewhere}

-- ---- inputs that take their values

pub not_same : (w v : ℕ) → (w == v) ≡ false → w ≡ v → ⊥
not_same w v e f = grind (arith, e, f)

pub set_all_same : (v : ℕ) (vs : List ℕ) (values vars x_vars : List Value) → length vs ≡ length values → v < length vars → v < length x_vars → (among v vs ≡ true) ⊎ (read x_vars v ≡ read vars v) → read (set_all x_vars vs values) v ≡ read (set_all vars vs values) v
set_all_same v [] [] vars x_vars e lt x_lt (inl h) = absurd (cc)
set_all_same v [] [] vars x_vars e lt x_lt (inr h) = h
set_all_same v [] (x ∷ values) vars x_vars e lt x_lt h = absurd (omega (arith, e))
set_all_same v (w ∷ vs) [] vars x_vars e lt x_lt h = absurd (omega (arith, e))
set_all_same v (w ∷ vs) (x ∷ values) vars x_vars e lt x_lt h =
    set_all_same v vs values (slice_set vars w x) (slice_set x_vars w x) (omega (arith, e)) (let f : length (slice_set vars w x) ≡ length vars = length_set vars w x in omega (arith, f, lt))
    (let f : length (slice_set x_vars w x) ≡ length x_vars = length_set x_vars w x in omega (arith, f, x_lt)) (next (w == v) refl h)
  where
    here : w ≡ v → read (slice_set x_vars w x) v ≡ read (slice_set vars w x) v
    here f = ap (λ k. read (slice_set x_vars k x) v) f ∙ set_here x_vars v x Unset x_lt ∙ sym (ap (λ k. read (slice_set vars k x) v) f ∙ set_here vars v x Unset lt)

    next : (b : Bool) → (w == v) ≡ b → ((b || among v vs) ≡ true) ⊎ (read x_vars v ≡ read vars v) → (among v vs ≡ true) ⊎ (read (slice_set x_vars w x) v ≡ read (slice_set vars w x) v)
    next true f h = inr (here (is_same w v f))
    next false f (inl h) = inl h
    next false f (inr h) = inr (set_elsewhere x_vars w v x Unset (not_same w v f) ∙ h ∙ sym (set_elsewhere vars w v x Unset (not_same w v f)))

pub set_all_size : (vs : List ℕ) (values vars : List Value) → length (set_all vars vs values) ≡ length vars
set_all_size [] values vars = refl
set_all_size (v ∷ vs) [] vars = refl
set_all_size (v ∷ vs) (x ∷ values) vars = set_all_size vs values (slice_set vars v x) ∙ length_set vars v x

module _ (p : LlProgram) (types others : List LlType) where
  given_count : (vs : List ℕ) (xs : List COperand) → all_given p types others vs xs ≡ true → length vs ≡ length xs
  given_count [] [] h = refl
  given_count [] (x ∷ xs) h = absurd (cc)
  given_count (v ∷ vs) [] h = absurd (cc)
  given_count (v ∷ vs) (x ∷ xs) h = ap suc (given_count vs xs (and_right (given_takes p types (slice_get others v) x) _ h))

  given_within : (v : ℕ) (vs : List ℕ) (xs : List COperand) → all_given p types others vs xs ≡ true → among v vs ≡ true → v < length others
  given_within v [] xs h k = absurd (cc)
  given_within v (w ∷ vs) [] h k = absurd (cc)
  given_within v (w ∷ vs) (x ∷ xs) h k = one (given_within v vs xs (and_right (given_takes p types (slice_get others w) x) _ h)) (w == v) refl k
    where
      typed : (o : Option LlType) → slice_get others w ≡ o → given_takes p types o x ≡ true → w < length others
      typed None e g = absurd (cc)
      typed (Some t) e g = slice_get_within others w t e

      one : (among v vs ≡ true → v < length others) → (b : Bool) → (w == v) ≡ b → (b || among v vs) ≡ true → v < length others
      one go true e k = subst (λ v. v < length others) (is_same w v e) (typed (slice_get others w) refl (and_left _ _ h))
      one go false e k = go k

-- ---- rules of graphs

pub graph_at : (p : LlProgram) (graphs : List LlGraph) (n : ℕ) (g : LlGraph) → graphs_ok p graphs ≡ true → slice_get graphs n ≡ Some g → graph_ok p g ≡ true
graph_at p [] n g ok e = absurd (cc)
graph_at p (x ∷ graphs) zero g ok e = let f : x ≡ g = cc in subst (λ g. graph_ok p g ≡ true) f (and_left _ _ ok)
graph_at p (x ∷ graphs) (suc n) g ok e = graph_at p graphs n g (and_right (graph_ok p x) _ ok) e

-- the parameters have the types that they had
pub parameters_same : (p : LlProgram) (g : LlGraph) → graph_ok p g ≡ true → param_types (explicit_graph p g) ≡ param_types g
parameters_same p g good = each 0 g.params (and_right _ _ (and_left _ _ (and_left _ _ good)))
  where
    typed : (v : ℕ) (o : Option LlType) → slice_get g.types v ≡ o → is_type_given p.structs o ≡ true → slice_get (explicit_graph p g).types v ≡ slice_get g.types v
    typed v None e h = absurd (cc)
    typed v (Some t) e h = get_left g.types (test_types (exceptions_of p) (raises_within (marks_of p) (any_of p) g.blocks)) v t e ∙ sym e

    each : (n : ℕ) (vs : List ℕ) → params_ok p g.types n vs ≡ true → map (λ v. type_or_word (slice_get (explicit_graph p g).types v)) vs ≡ map (λ v. type_or_word (slice_get g.types v)) vs
    each n [] h = refl
    each n (v ∷ vs) h =
        ap (λ o. type_or_word o ∷ map (λ v. type_or_word (slice_get (explicit_graph p g).types v)) vs) (typed v (slice_get g.types v) refl (and_right (v == n) _ (and_left _ _ h)))
        ∙ ap (λ l. type_or_word (slice_get g.types v) ∷ l) (each (n + 1) vs (and_right _ _ h))

module _ (p : LlProgram) (raises : graphs_calm p.graphs ≡ false) (args : List (List ℕ)) where
  pub graph_made : (f : ℕ) (g : LlGraph) → slice_get p.graphs f ≡ Some g → slice_get (explicit p).graphs f ≡ Some (explicit_graph p g)
  graph_made f g e =
      ap (λ b. slice_get (cond b p.graphs (graphs_of p.structs p.graphs)) f) raises ∙ get_map (graph_of (exceptions_of p) (marks_of p)) p.graphs f ∙ ap (option_map (graph_of (exceptions_of p) (marks_of p))) e

  pub none_made : (f : ℕ) → slice_get p.graphs f ≡ None → slice_get (explicit p).graphs f ≡ None
  none_made f e =
      ap (λ b. slice_get (cond b p.graphs (graphs_of p.structs p.graphs)) f) raises ∙ get_map (graph_of (exceptions_of p) (marks_of p)) p.graphs f ∙ ap (option_map (graph_of (exceptions_of p) (marks_of p))) e

  pub more_types : (g : LlGraph) → length g.types ≤ length (explicit_graph p g).types
  more_types g =
      let e : length (g.types ++ test_types (exceptions_of p) (raises_within (marks_of p) (any_of p) g.blocks)) ≡ length g.types + length (test_types (exceptions_of p) (raises_within (marks_of p) (any_of p) g.blocks)) =
      length_both g.types (test_types (exceptions_of p) (raises_within (marks_of p) (any_of p) g.blocks)) in
      omega (arith, e)

  module _ (closed : IsClosed p) (graph : LlGraph) (frames x_frames : List Frame) (core x_core : Core) (of : slice_get p.graphs core.function ≡ Some graph) (beside : Beside core x_core) (clear : IsClear x_core)
      (count : length core.vars ≡ length graph.types) (size : length x_core.vars ≡ length (explicit_graph p graph).types) (waiting : Wait p core.function frames x_frames) where
    abbrev Begun : LlLink → LlBlock → ℕ → State
    Begun link block way =
        At (piece_ops (around_in p graph) block.ops block.exit) (piece_exit (around_in p graph) block.ops block.exit way) x_frames
        (record x_core { block = link.to; at = 0; vars = set_all x_core.vars block.inputs (operands core.vars link.args) })

    -- a link by which the same values are passed
    pub jump_follows : (x mid : State) (before : ℕ) (link : LlLink) → Leads (explicit p) args x mid before → step (explicit p) args mid ≡ jump (explicit p) x_frames x_core link → link_ok p graph link ≡ true
        → SameOn (variables_in link.args) core.vars x_core.vars → Follows p args x (jump p frames core link)
    jump_follows x mid before link leads stepped fine same = set (any_unset (operands core.vars link.args)) refl
      where
        values_same : operands x_core.vars link.args ≡ operands core.vars link.args
        values_same = operands_same core.vars x_core.vars link.args same

        x_jump : (b : Bool) → any_unset (operands core.vars link.args) ≡ b
            → step (explicit p) args mid ≡ cond b (Sticks IsUnset) (begins x_frames x_core link.to (operands core.vars link.args) (slice_get (explicit_graph p graph).blocks link.to))
        x_jump b e =
            stepped
            ∙ ap (λ vs. cond (any_unset vs) (Sticks IsUnset) (begins x_frames x_core link.to vs (block_in (slice_get (explicit p).graphs x_core.function) link.to))) values_same
            ∙ ap (λ b. cond b (Sticks IsUnset) (begins x_frames x_core link.to (operands core.vars link.args) (block_in (slice_get (explicit p).graphs x_core.function) link.to))) e
            ∙ ap (λ o. cond b (Sticks IsUnset) (begins x_frames x_core link.to (operands core.vars link.args) (block_in o link.to))) (ap (slice_get (explicit p).graphs) beside.function ∙ graph_made core.function graph of)

        landed : any_unset (operands core.vars link.args) ≡ false → (block : LlBlock) → slice_get graph.blocks link.to ≡ Some block → all_given p graph.types graph.types block.inputs link.args ≡ true
            → Follows p args x (begins frames core link.to (operands core.vars link.args) (Some block))
        landed free block at given = (
          Begun link block placed.0,
          record { later = mid; count = before; leads = leads; does = x_jump false free ∙ ap (λ o. begins x_frames x_core link.to (operands core.vars link.args) o) placed.1 },
          (
            graph,
            record {
              of = of;
              beside = record { function = beside.function; blocks = beside.blocks; statics = beside.statics; steps = beside.steps };
              clear = clear;
              size = set_all_size block.inputs (operands core.vars link.args) x_core.vars ∙ size;
              vars = λ v h.
                  (let k : among v block.inputs ≡ true = closed core.function graph of link.to block at v (needed_live p block.exit v block.ops h) in
                  let lt : v < length graph.types = given_within p graph.types graph.types v block.inputs link.args given k in
                  let more : length graph.types ≤ length (explicit_graph p graph).types = more_types graph in
                  set_all_same v block.inputs (operands core.vars link.args) core.vars x_core.vars (given_count p graph.types graph.types block.inputs link.args given ∙ sym (length_map (operand core.vars) link.args)) (omega (arith, count, lt)) (omega (arith, size, more, lt)) (inl k));
              leaving = block_leaving p core.function graph of link.to block at;
              testing = block_testing p graph.blocks link.to block at;
              left = inl (record { way = placed.0; left = refl; end = refl; blocks = placed.2 });
              waiting = waiting;
            },
          ),
        )
          where
            placed : (way : ℕ) × (slice_get (explicit_graph p graph).blocks link.to ≡ Some (piece (around_in p graph) block.inputs block.ops block.exit way)) × From (explicit_graph p graph).blocks way (behind (around_in p graph) way block.ops block.exit)
            placed = block_placed (around_in p graph) graph.blocks link.to block at

        begun : any_unset (operands core.vars link.args) ≡ false → (o : Option LlBlock) → slice_get graph.blocks link.to ≡ o → enters p graph.types o link.args ≡ true
            → Follows p args x (begins frames core link.to (operands core.vars link.args) o)
        begun free None at h = absurd (cc)
        begun free (Some block) at h = landed free block at h

        set : (b : Bool) → any_unset (operands core.vars link.args) ≡ b
            → Follows p args x (cond b (Sticks IsUnset) (begins frames core link.to (operands core.vars link.args) (block_in (slice_get p.graphs core.function) link.to)))
        set true e = record { later = mid; count = before; leads = leads; does = x_jump true e }
        set false e = subst (λ o. Follows p args x (begins frames core link.to (operands core.vars link.args) (block_in o link.to))) (sym of) (begun e (slice_get graph.blocks link.to) refl fine)
