-- A turned program goes along with the program, and so means the same.
use Rattle.std.proofs.Common.{◌≡◌, ◌<◌, ℕ, zero, suc, ◌+◌, Bool, true, false, ◌||◌, ◌&&◌, not, ◌==◌, cond, List, [], ◌∷◌, ◌++◌, length, map, Option, Some, None, refl, sym, ap, ◌∙◌, subst, arith, ◌⊎◌, inl, inr, ℤ}
use Rattle.std.specs.Prelude.{slice_get, slice_set}
use Rattle.rpy_base.specs.declared.outcome.Outcome.TheVariants.{Returned}
use Rattle.csub_tree.specs.State.{Value, Unset, Core, Stuck, Over}
use Rattle.csub_tree.specs.Operation.{is_unset, word_of}
use Rattle.csub_tree.specs.Statement as st
use Rattle.csub_tree.specs.Statement.{read, operand, operands, any_unset, taken_by}
use Rattle.csub_tree.specs.declared.stuck.StuckReason.TheVariants.{Unset as IsUnset}
use Rattle.csub_tree.specs.declared.tree.COperand.{COperand}
use Rattle.csub_tree.specs.declared.tree.COperand.TheVariants.{Var, Const}
use Rattle.ll_code.specs.State.{Frame, State, Calling, At, Returning, Throwing, Next, Goes, Puts, Tells, Ends, Sticks}
use Rattle.ll_code.specs.Machine.{step, does, goes_on, set_all, block_in, begins, jump, resumed, entered, returned, caught, start}
use Rattle.ll_code.specs.Meaning.{Meant, LMeans}
use Rattle.ll_code.specs.Typed as rules
use Rattle.ll_code.specs.Typed.{IsWellTyped, exit_ok, link_ok}
use Rattle.ll_code.specs.declared.program.LlLink.{LlLink}
use Rattle.ll_code.specs.declared.program.LlOp.{LlOp}
use Rattle.ll_code.specs.declared.program.LlOp.TheVariants as op
use Rattle.ll_code.specs.declared.program.LlExit.{LlExit}
use Rattle.ll_code.specs.declared.program.LlExit.TheVariants as exit
use Rattle.ll_code.specs.declared.program.LlBlock.{LlBlock}
use Rattle.ll_code.specs.declared.program.LlGraph.{LlGraph}
use Rattle.ll_code.specs.declared.program.LlProgram.{LlProgram}
use Rattle.ll_laws.specs.States.{WaitsFor, AtFits, StateFits, NextFits}
use Rattle.ll_laws.proofs.Values.{and_left, and_right, is_same}
use Rattle.ll_laws.proofs.Steps.{step_fits}
use Rattle.ll_laws.proofs.Runs.{start_fits}
use Rattle.ll_live.specs.Live.{among, variables_of, variables_in, reads, set_by, sets, handler_variable, exit_variables, live}
use Rattle.ll_held.specs.Places.{IsPlaced}
use Rattle.ll_held.proofs.Placing.{NextPlaced, step_placed, start_placed}
use Rattle.ll_joined.specs.Named.{Naming, value_of, operand_by}
use Rattle.ll_joined.specs.Joined.{constants_of}
use Rattle.joined_laws.specs.Renamed.{Alike}
use Rattle.turned_laws.specs.Ordered.{IsOrdered}
use Rattle.turned_laws.specs.Turned.{IsPassed, ArePassed, Turned, Ended, Kept, Copied, Joined, AreTurned, MeanTheSame, TurnedMeanTheSame}
use Rattle.turned_laws.proofs.Lists.{IsSet, both, is_not, known, differ, or_left, or_right, set_here, set_elsewhere, set_size, all_size, all_given_within}
use Rattle.turned_laws.proofs.Within.{set_within, result_within}
use Rattle.turned_laws.proofs.Setting.{StateSet, NextSet, FramesSet, LiveSet, step_set, start_set}
use Rattle.turned_laws.proofs.Stuttering.{Somehow, SameNext, Stay, Moves, Alone, Together, forward, back}
use Rattle.turned_laws.proofs.Relation.{FindsAll, among_first, among_left, among_right, operand_same, operand_set, operands_set, taken_stands, InGraph, Text, FrameTurned, FramesTurned, AtTurned, StateTurned}
use Rattle.turned_laws.proofs.Leaving.{leaves_same, caught_same}
use Rattle.turned_laws.proofs.Operating.{taken_size, operates_same, entered_same}
use Rattle.turned_laws.proofs.Constants.{with_constants, how_many, constants_alike, constants_size, constants_silent, Holds, all_stand}

module _ (p : LlProgram) (made : List LlGraph) (ok : IsWellTyped p) (ordered : IsOrdered p) (turned : AreTurned p made) (args : List (List ℕ)) where
  abbrev q : LlProgram
  q = record p { graphs = made }

  -- the state is typed, stands in its blocks, and reads what is set
  abbrev Sound : State → Type 0
  Sound s = StateFits p s × IsPlaced p s × StateSet s

  abbrev pub Along : ℕ → State → State → Type 0
  Along n s t = StateTurned p made n s t × Sound s

  abbrev Same : Next → Next → Type 0
  Same x y = SameNext (StateTurned p made) x y

  both_go : (x y : Next) → Same x y → NextFits p x → NextPlaced p x → NextSet x → SameNext Along x y
  both_go (Goes s) (Goes t) (n, h) fit place set = (n, (h, (fit, place, set)))
  both_go (Puts byte s) (Puts other t) (e, (n, h)) fit place set = (e, (n, (h, (fit, place, set))))
  both_go (Tells event s) (Tells other t) (e, (n, h)) fit place set = (e, (n, (h, (fit, place, set))))
  both_go (Ends outcome core) (Ends other end) h fit place set = h
  both_go (Sticks reason) (Sticks other) h fit place set = h
  both_go x y h fit place set = elim h [ ]

  next_sound : (s : State) → Sound s → (u : State) → step p args s ≡ Goes u → Sound u
  next_sound s (fit, place, set) u e = (subst (NextFits p) e (step_fits p ok args s fit), subst (NextPlaced p) e (step_placed p args s place), subst NextSet e (step_set p ok ordered args s fit place set))

  together : (n : ℕ) (s t : State) → Sound s → Same (step p args s) (step q args t) → Moves Along p q args n s t
  together n s t (fit, place, set) h = Together n s t (both_go (step p args s) (step q args t) h (step_fits p ok args s fit) (step_placed p args s place) (step_set p ok ordered args s fit place set))

  -- ---- what is left of a block

  same_some : {A : Type 0} (x y : A) → Some x ≡ Some y → x ≡ y
  same_some x y e = cc

  module _ (f : ℕ) (at : InGraph p made f) (frames behind : List Frame) (waits : FramesTurned p made frames behind) (core other : Core) (is : core.function ≡ f) (alike : Alike core other) (size : length other.vars ≡ length core.vars) where
    -- a copy is left out
    copied : (m : ℕ) (names next : Naming) (a : ℕ) (x : COperand) (ops left : List LlOp) (e ends : LlExit) → value_of next a ≡ operand_by names x → ((v : ℕ) → live ops e v ≡ true → (a ≡ v → ⊥) → value_of next v ≡ value_of names v)
        → Text p made f at m next ops e left ends → ((v : ℕ) → live (op.Set a x ∷ ops) e v ≡ true → operand other.vars (value_of names v) ≡ read core.vars v) → a < length core.vars → Sound (At (op.Set a x ∷ ops) e frames core)
        → Moves Along p q args (suc m) (At (op.Set a x ∷ ops) e frames core) (At left ends behind other)
    copied m names next a x ops left e ends here elsewhere text finds lt sound = Alone (suc m) m 0 _ _ after _ goes (Stay _) (omega arith) (
      (
        record {
          alike = record { function = alike.function; blocks = alike.blocks; statics = alike.statics; exc_type = alike.exc_type; exc_value = alike.exc_value; steps = alike.steps };
          f = f;
          is_in = is;
          at = at;
          names = next;
          text = text;
          size = size ∙ sym (set_size core.vars a (operand core.vars x));
          stands = λ v l. one v l (known (a == v));
        },
        waits,
      ),
      next_sound (At (op.Set a x ∷ ops) e frames core) sound after goes,
    )
      where
        after : State
        after = At ops e frames (record core { at = core.at + 1; vars = slice_set core.vars a (operand core.vars x) })

        set : IsSet (operand core.vars x)
        set = operand_set core.vars x (λ v l. sound.2.0 v (or_left (among v (variables_of x)) _ l))

        goes : step p args (At (op.Set a x ∷ ops) e frames core) ≡ Goes after
        goes = ap (λ b. goes_on (At ops e frames) (cond b (Stuck IsUnset) (st.assigned core a (operand core.vars x)))) set

        now : operand other.vars (value_of next a) ≡ read (slice_set core.vars a (operand core.vars x)) a
        now = ap (operand other.vars) here ∙ operand_same names core.vars other.vars x (λ v l. finds v (or_left (among v (variables_of x)) _ l)) ∙ sym (set_here core.vars a (operand core.vars x) Unset lt)

        one : (v : ℕ) → live ops e v ≡ true → (a == v) ≡ true ⊎ (a == v) ≡ false → operand other.vars (value_of next v) ≡ read (slice_set core.vars a (operand core.vars x)) v
        one v l (inl s) = subst (λ v. operand other.vars (value_of next v) ≡ read (slice_set core.vars a (operand core.vars x)) v) (is_same a v s) now
        one v l (inr s) =
            ap (operand other.vars) (elsewhere v l (differ a v s)) ∙ finds v (or_right (among v (variables_of x)) _ (both (not (a == v)) (live ops e v) (is_not (a == v) s) l))
            ∙ sym (set_elsewhere core.vars a v (operand core.vars x) Unset (differ a v s))

    -- a block is joined
    joined : (m : ℕ) (names next : Naming) (link : LlLink) (block : LlBlock) (left : List LlOp) (ends : LlExit) → slice_get at.graph.blocks link.to ≡ Some block → ArePassed names next block.inputs block.inputs link.args → Text p made f at m next block.ops block.exit left ends
        → FindsAll names (variables_in link.args) core.vars other.vars → length core.vars ≡ length at.graph.types → link_ok p at.graph link ≡ true → Sound (At [] (exit.Goto link) frames core)
        → Moves Along p q args (suc m) (At [] (exit.Goto link) frames core) (At (constants_of block.inputs link.args ++ left) ends behind other)
    joined m names next link block left ends found passed text finds whole typed sound =
        Alone (suc m) m (how_many block.inputs link.args) _ _ after _ goes (constants_silent q args left ends behind other block.inputs link.args) (omega arith) (
          (
            record {
              alike =
                  let a = constants_alike core other block.inputs link.args alike in
                  record { function = a.function; blocks = a.blocks; statics = a.statics; exc_type = a.exc_type; exc_value = a.exc_value; steps = a.steps };
              f = f;
              is_in = is;
              at = at;
              names = next;
              text = text;
              size = constants_size other block.inputs link.args ∙ size ∙ sym (all_size core.vars block.inputs (operands core.vars link.args));
              stands = λ v l.
                  all_stand names next block.inputs core.vars other core.vars block.inputs link.args (ordered.apart f at.graph at.of link.to block found) (λ u m. m) size
                  (λ u m. let lt : u < length at.graph.types = all_given_within p at.graph.types at.graph.types block.inputs link.args given u m in omega (arith, lt, whole)) passed
                  (holds block.inputs link.args passed finds) v (ordered.reads f at.graph at.of link.to block found v l);
            },
            waits,
          ),
          next_sound (At [] (exit.Goto link) frames core) sound after goes,
        )
      where
        after : State
        after = At block.ops block.exit frames (record core { block = link.to; at = 0; vars = set_all core.vars block.inputs (operands core.vars link.args) })

        given : rules.enters p at.graph.types (Some block) link.args ≡ true
        given = subst (λ o. rules.enters p at.graph.types o link.args ≡ true) found typed

        goes : step p args (At [] (exit.Goto link) frames core) ≡ Goes after
        goes =
            ap (λ b. cond b (Sticks IsUnset) (begins frames core link.to (operands core.vars link.args) (block_in (slice_get p.graphs core.function) link.to))) (operands_set core.vars link.args (λ v l. sound.2.0 v (or_left (among v (variables_in link.args)) _ l)))
            ∙ ap (begins frames core link.to (operands core.vars link.args)) (ap (λ g. block_in (slice_get p.graphs g) link.to) is ∙ ap (λ o. block_in o link.to) at.of ∙ found)

        holds : (vs : List ℕ) (xs : List COperand) → ArePassed names next block.inputs vs xs → FindsAll names (variables_in xs) core.vars other.vars → Holds names next block.inputs core.vars other.vars vs xs
        holds [] xs k h = tt
        holds (v ∷ vs) [] k h = tt
        holds (v ∷ vs) (Var w ∷ xs) (k, ks) h = (ap (operand other.vars) k ∙ h w (among_first w _), holds vs xs ks (λ u l. h u (or_right (w == u) _ l)))
        holds (v ∷ vs) (Const c ∷ xs) (k, ks) h = holds vs xs ks h

    by_text : (n : ℕ) (names : Naming) (ops left : List LlOp) (e ends : LlExit) → Text p made f at n names ops e left ends → ((v : ℕ) → live ops e v ≡ true → operand other.vars (value_of names v) ≡ read core.vars v) → length core.vars ≡ length at.graph.types → exit_ok p at.graph e ≡ true
        → rules.operations_ok p at.graph.types ops ≡ true → Sound (At ops e frames core) → Moves Along p q args n (At ops e frames core) (At left ends behind other)
    by_text n names ops left e ends (Ended names2 e2 l v k t) finds whole typed good sound = together 0 _ _ sound (leaves_same p made ordered f at frames behind waits core other is alike size names2 e2 l v t typed (λ w h. finds w (or_left (among w (exit_variables e2)) _ h)))
    by_text n names ops left e ends (Joined m names2 next link block made2 ends2 found c passed text) finds whole typed good sound = joined m names2 next link block made2 ends2 found passed text (λ w h. finds w (or_left (among w (variables_in link.args)) _ h)) whole typed sound
    by_text n names ops left e ends (Copied m names2 next a x rest made2 e2 ends2 c here elsewhere text) finds whole typed good sound =
        copied m names2 next a x rest made2 e2 ends2 here elsewhere text finds (let lt : a < length at.graph.types = set_within p at.graph.types (op.Set a x) (and_left _ _ good) a refl in omega (arith, lt, whole)) sound
    by_text n names ops left e ends (Kept m names2 o rest made2 e2 ends2 asks keeps text) finds whole typed good sound =
        together 0 _ _ sound (operates_same p made ordered turned args f at frames behind waits core other is alike size whole m names2 rest made2 e2 ends2 text o asks finds keeps (λ a s. let lt : a < length at.graph.types = set_within p at.graph.types o (and_left _ _ good) a s in omega (arith, lt, whole)) typed)

  -- ---- who waits

  returned_same : (value : Value) (frame other_frame : Frame) (frames behind : List Frame) (core other : Core) → FrameTurned p made frame other_frame → FramesTurned p made frames behind → Alike core other → ((a : ℕ) → frame.into ≡ Some a → a < length frame.vars) → Same (returned value (frame ∷ frames) core) (returned value (other_frame ∷ behind) other)
  returned_same value frame other_frame frames behind core other w waits alike within = (
    w.moves,
    (
      record {
        alike = record { function = w.graph; blocks = alike.blocks; statics = alike.statics; exc_type = alike.exc_type; exc_value = alike.exc_value; steps = alike.steps };
        f = w.f;
        is_in = w.is_in;
        at = w.at;
        names = w.names;
        text = w.text;
        size = taken_size other_frame.vars other_frame.into value ∙ w.size ∙ sym (taken_size frame.vars frame.into value);
        stands = λ v l.
            ap (λ s. operand (taken_by other_frame.vars s value) (value_of w.names v)) w.into
            ∙ taken_stands w.names frame.into value (λ v. live frame.ops frame.exit v) frame.vars other_frame.vars w.own within w.size w.stands v l;
      },
      waits,
    ),
  )

  ended_same : (value : Value) (core other : Core) → Alike core other → Same (returned value [] core) (returned value [] other)
  ended_same value core other alike = one (word_of value)
    where
      one : (o : Option ℤ) → Same (goes_on (Returning value []) (st.on (λ n. Over (Returned n) (record core { vars = [] })) o)) (goes_on (Returning value []) (st.on (λ n. Over (Returned n) (record other { vars = [] })) o))
      one None = refl
      one (Some n) = (refl, alike.steps)

  -- ---- all moves

  moves : (n : ℕ) (s t : State) → Along n s t → Moves Along p q args n s t
  moves n (Calling f values frames core) (Calling g others behind other) ((same, same_values, waits, alike), sound) = together n _ _ sound
      (subst (λ g. Same (step p args (Calling f values frames core)) (step q args (Calling g others behind other))) (sym same)
      (subst (λ vs. Same (step p args (Calling f values frames core)) (step q args (Calling f vs behind other))) (sym same_values)
      (entered_same p made ordered turned args f values frames behind core other waits alike (slice_get p.graphs f) (slice_get made f) refl refl (turned f))))
  moves n (At ops e frames core) (At left ends behind other) ((t, waits), ((graph, fit), place, set)) =
      by_text t.f t.at frames behind waits core other t.is_in t.alike t.size n t.names ops left e ends t.text t.stands (fit.fits.vars.count ∙ ap (λ g. length g.types) same_graph) (subst (λ g. exit_ok p g e ≡ true) same_graph fit.end) (subst (λ g. rules.operations_ok p g.types ops ≡ true) same_graph fit.left) ((graph, fit), place, set)
    where
      same_graph : graph ≡ t.at.graph
      same_graph = same_some graph t.at.graph (sym fit.of ∙ ap (slice_get p.graphs) t.is_in ∙ t.at.of)
  moves n (Returning value [] core) (Returning given [] other) ((same, waits, alike), sound) = together n _ _ sound (subst (λ w. Same (returned value [] core) (returned w [] other)) (sym same) (ended_same value core other alike))
  moves n (Returning value [] core) (Returning given (other_frame ∷ behind) other) ((same, waits, alike), sound) = elim waits [ ]
  moves n (Returning value (frame ∷ frames) core) (Returning given [] other) ((same, waits, alike), sound) = elim waits [ ]
  moves n (Returning value (frame ∷ frames) core) (Returning given (other_frame ∷ behind) other) ((same, (w, waits), alike), ((kind, fit), place, set)) =
      let graph = fit.waiting.0 in
      let waiting = fit.waiting.1 in
      together n _ _ ((kind, fit), place, set) (subst (λ x. Same (returned value (frame ∷ frames) core) (returned x (other_frame ∷ behind) other)) (sym same)
      (returned_same value frame other_frame frames behind core other w waits alike (λ a s. let lt : a < length graph.types = result_within p graph.types frame.into kind a s waiting.into in let l : length frame.vars ≡ length graph.types = waiting.vars.count in omega (arith, lt, l))))
  moves n (Throwing value [] core) (Throwing given [] other) ((same, waits, alike), sound) = together n _ _ sound refl
  moves n (Throwing value [] core) (Throwing given (other_frame ∷ behind) other) ((same, waits, alike), sound) = elim waits [ ]
  moves n (Throwing value (frame ∷ frames) core) (Throwing given [] other) ((same, waits, alike), sound) = elim waits [ ]
  moves n (Throwing value (frame ∷ frames) core) (Throwing given (other_frame ∷ behind) other) ((same, (w, waits), alike), ((kind, fit), place, (set, (ready, others), slots))) =
      let graph = fit.waiting.0 in
      let waiting = fit.waiting.1 in
      let same_graph : graph ≡ w.at.graph = same_some graph w.at.graph (sym waiting.of ∙ ap (slice_get p.graphs) w.is_in ∙ w.at.of) in
      together n _ _ ((kind, fit), place, (set, (ready, others), slots)) (subst (λ x. Same (caught p value frame.ops frame.exit frames (resumed frame core)) (caught q x other_frame.ops other_frame.exit behind (resumed other_frame other))) (sym same)
      (caught_same p made ordered w.f w.at frames behind waits (resumed frame core) (resumed other_frame other) w.is_in
      (record { function = w.graph; blocks = alike.blocks; statics = alike.statics; exc_type = alike.exc_type; exc_value = alike.exc_value; steps = alike.steps }) w.size (waiting.vars.count ∙ ap (λ g. length g.types) same_graph) value w.moves w.names frame.ops other_frame.ops frame.exit other_frame.exit w.text
      (subst (λ g. exit_ok p g frame.exit ≡ true) same_graph waiting.exit)
      (λ none v h. w.stands v (subst (λ ops. live ops frame.exit v ≡ true) (sym none) (or_right (among v (exit_variables frame.exit)) _ h)) (ready.handlers none v h))))
  moves n s t (h, sound) = elim h [ ]

  pub begun : (steps : ℕ) → Along 0 (start p steps) (start q steps)
  begun steps = ((refl, refl, tt, record { function = refl; blocks = refl; statics = refl; exc_type = refl; exc_value = refl; steps = refl }), (start_fits p ok steps, start_placed p args steps, start_set p steps))

  pub onwards : (steps : ℕ) (meant : Meant) → LMeans p args steps meant → LMeans q args steps meant
  onwards steps meant (k, e) = forward Along p q args moves steps meant k 0 (start p steps) (start q steps) [] [] (begun steps) e

  pub backwards : (steps : ℕ) (meant : Meant) → LMeans q args steps meant → LMeans p args steps meant
  backwards steps meant (k, e) = back Along p q args moves steps meant (suc k) k 0 (start p steps) (start q steps) [] [] (omega arith) (begun steps) e

pub turned_same : TurnedMeanTheSame
turned_same p made ok ordered turned = record {
  means = λ args steps meant h. onwards p made ok ordered turned args steps meant h;
  back = λ args steps meant h. backwards p made ok ordered turned args steps meant h;
}
