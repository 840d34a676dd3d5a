-- Exits, graphs that are entered and calls that go on are ready.
use Rattle.std.proofs.Common.{◌≡◌, ⊎_elim, ◌<◌, ◌≤◌, ℕ, zero, suc, ◌+◌, ◌-◌, true, List, [], ◌∷◌, ◌++◌, length, replicate, Option, Some, None, refl, sym, ap, ◌∙◌, subst, arith}
use Rattle.std.specs.Prelude.{slice_get, slice_set}
use Rattle.csub_tree.specs.State.{Value, Unset, Core}
use Rattle.csub_tree.specs.Operation.{is_unset}
use Rattle.csub_tree.specs.Statement.{read, operand, operands}
use Rattle.csub_tree.specs.declared.tree.COperand.{COperand}
use Rattle.ll_code.specs.Machine.{set_all}
use Rattle.ll_code.specs.State.{Frame}
use Rattle.ll_code.specs.Typed.{IsWellTyped, takes, given_takes, all_given, enters, result_ok, link_ok, return_ok, exit_ok}
use Rattle.ll_code.specs.declared.program.LlType.{LlType}
use Rattle.ll_code.specs.declared.program.LlType.TheVariants as type
use Rattle.ll_code.specs.declared.program.LlLink.{LlLink}
use Rattle.ll_code.specs.declared.program.LlExit.{LlExit}
use Rattle.ll_code.specs.declared.program.LlExit.TheVariants as exit
use Rattle.ll_code.specs.declared.program.LlBlock.{LlBlock}
use Rattle.ll_code.specs.declared.program.LlGraph.{LlGraph}
use Rattle.ll_code.specs.declared.program.LlProgram.{LlProgram}
use Rattle.ll_laws.specs.Fits.{Fits, AllFit, CoreFits}
use Rattle.ll_laws.specs.States.{CallingFits}
use Rattle.ll_laws.proofs.Cells.{length_both}
use Rattle.ll_laws.proofs.Heap.{length_unset, unset_at}
use Rattle.ll_laws.proofs.Operations.{set_at, vars_set}
use Rattle.ll_laws.proofs.Values.{and_left, and_right, is_less, has_type_is, operand_fits}
use Rattle.ll_live.specs.Live.{among, live}
use Rattle.ll_points.specs.Agrees.{Slots, Agrees, exit_agrees}
use Rattle.ll_points.specs.Points.{LeadsBy, AllLead, MemoryLeads}
use Rattle.refcount_laws.specs.Ghost.{Ghost}
use Rattle.refcount_laws.specs.Leaves.{LinksPoint, ReturnPoints, is_explicit}
use Rattle.refcount_laws.specs.Owned.{Roomy}
use Rattle.refcount_laws.specs.Whole.{Call, Waits, ReadyToLeave, ReadyToEnter, ReadyToGoOn}
use Rattle.refcount_laws.proofs.Numbers.{Based}
use Rattle.refcount_typed.specs.Leads.{LeadsToRoots}
use Rattle.refcount_checks.specs.Countable.{most, takes_params, all_among, is_countable}
use Rattle.refcount_ready.proofs.Tests.{stands_under, graph_test, inputs_apart, inputs_few, unread, all_roots, result_root}
use Rattle.refcount_ready.proofs.Pointers.{Sound, sound_points, block_refers, operand_sound, operand_leads, pointing}
use Rattle.refcount_ready.proofs.Keeps.{CoreKeeps, SetIn, FrameKeeps, CallingKeeps}
use Rattle.refcount_ready.proofs.Lists.{each_set, inputs_set, length_operands, given_count, all_are, params_below, each_param, params_short}
use Rattle.refcount_ready.proofs.Operands.{type_refers}
use Rattle.refcount_ready.proofs.Room.{waits_same}
use Rattle.refcount_ready.proofs.Stepping.{based, good, params_of}

types_within : (types : List LlType) (a : ℕ) (t : LlType) → slice_get types a ≡ Some t → a < length types
types_within [] a t e = absurd (cc)
types_within (x ∷ types) zero t e = omega arith
types_within (x ∷ types) (suc a) t e = omega (arith, types_within types a t e)

read_filled : (values : List Value) (n a : ℕ) → read (values ++ replicate n Unset) a ≡ read values a
read_filled [] n a = unset_at n a
read_filled (x ∷ values) n zero = refl
read_filled (x ∷ values) n (suc a) = read_filled values n a

explicit_agrees : (e : LlExit) → exit_agrees e ≡ true → is_explicit e ≡ true
explicit_agrees (exit.OnRaise a by without) h = absurd (cc)
explicit_agrees (exit.Raise a) h = absurd (cc)
explicit_agrees (exit.Goto link) h = refl
explicit_agrees (exit.If a there elsewhere) h = refl
explicit_agrees (exit.Return x) h = refl
explicit_agrees (exit.Fail n) h = refl
explicit_agrees (exit.Raised a) h = refl

module _ (p : LlProgram) (ok : IsWellTyped p) (slots : Slots) (agrees : Agrees slots p) (leads : LeadsToRoots p) (countable : is_countable p ≡ true) where
  based_ : Based p.structs
  based_ = based p ok slots agrees leads countable

  -- ---- exits

  module _ (graph : LlGraph) (core : Core) (of : slice_get p.graphs core.function ≡ Some graph) (fit : CoreFits p graph.types core) (lead : AllLead p core.blocks core.statics graph.types core.vars) (memory : MemoryLeads p slots core) (keeps : CoreKeeps p core) where
    -- variables that are given operands fit, and lead where they should
    all_fit : (vs : List ℕ) (xs : List COperand) (vars : List Value) → all_given p graph.types graph.types vs xs ≡ true → AllFit p (length core.blocks) graph.types vars → AllFit p (length core.blocks) graph.types (set_all vars vs (operands core.vars xs))
    all_fit [] [] vars h w = w
    all_fit [] (x ∷ xs) vars h w = absurd (cc)
    all_fit (v ∷ vs) [] vars h w = absurd (cc)
    all_fit (v ∷ vs) (x ∷ xs) vars h w = all_fit vs xs (slice_set vars v (operand core.vars x)) (and_right _ _ h) (by (slice_get graph.types v) refl (and_left _ _ h))
      where
        by : (o : Option LlType) → slice_get graph.types v ≡ o → given_takes p graph.types o x ≡ true → AllFit p (length core.blocks) graph.types (slice_set vars v (operand core.vars x))
        by None e k = absurd (cc)
        by (Some t) e k = vars_set p (length core.blocks) graph.types vars v t (operand core.vars x) w e (operand_fits p (length core.blocks) graph.types core.vars fit.vars t x k)

    all_lead : (vs : List ℕ) (xs : List COperand) (vars : List Value) → all_given p graph.types graph.types vs xs ≡ true → AllLead p core.blocks core.statics graph.types vars → AllLead p core.blocks core.statics graph.types (set_all vars vs (operands core.vars xs))
    all_lead [] [] vars h w = w
    all_lead [] (x ∷ xs) vars h w = absurd (cc)
    all_lead (v ∷ vs) [] vars h w = absurd (cc)
    all_lead (v ∷ vs) (x ∷ xs) vars h w = all_lead vs xs (slice_set vars v (operand core.vars x)) (and_right _ _ h) (by (slice_get graph.types v) refl (and_left _ _ h))
      where
        by : (o : Option LlType) → slice_get graph.types v ≡ o → given_takes p graph.types o x ≡ true → AllLead p core.blocks core.statics graph.types (slice_set vars v (operand core.vars x))
        by None e k = absurd (cc)
        by (Some t) e k = λ a u f. ⊎_elim (λ q. subst (LeadsBy p core.blocks core.statics u) (sym q) (w a u f))
            (λ q. (let same : t ≡ u = (let z : Some t ≡ Some u = sym e ∙ ap (slice_get graph.types) q.0 ∙ f in cc) in
            subst (LeadsBy p core.blocks core.statics u) (sym q.1) (subst (λ t. LeadsBy p core.blocks core.statics t (operand core.vars x)) same (operand_leads p ok core.blocks core.statics memory.stand graph.types core.vars lead t x k))))
            (set_at vars v a (operand core.vars x) Unset)

    links_point : LinksPoint p graph core
    links_point link block h there set =
        let given : all_given p graph.types graph.types block.inputs link.args ≡ true = ap (λ b. enters p graph.types b link.args) (sym there) ∙ h in
        pointing p based_ core.blocks core.statics keeps.counted graph.types (set_all core.vars block.inputs (operands core.vars link.args)) (all_fit block.inputs link.args core.vars given fit.vars) (all_lead block.inputs link.args core.vars given lead) (λ w. among w block.inputs)
        (λ v n a t. inputs_set block.inputs core.vars (operands core.vars link.args) v (sym (length_operands core.vars link.args ∙ given_count p graph.types graph.types block.inputs link.args given)) set
        (let l : v < length graph.types = types_within graph.types v (type.Ptr n) t in omega (arith, l, fit.vars.count)) a)

    link_few : (link : LlLink) → link_ok p graph link ≡ true → length link.args < most
    link_few link h = by (slice_get graph.blocks link.to) refl h
      where
        by : (o : Option LlBlock) → slice_get graph.blocks link.to ≡ o → enters p graph.types o link.args ≡ true → length link.args < most
        by None e k = absurd (cc)
        by (Some block) e k = let l : length block.inputs < most = inputs_few p countable core.function graph of link.to block e in omega (arith, l, given_count p graph.types graph.types block.inputs link.args k)

    returns_point : (e : LlExit) → exit_ok p graph e ≡ true → ReturnPoints p graph core e
    returns_point (exit.Return x) h = λ y is n r set.
        let k : takes p graph.types graph.result y ≡ true = ap (return_ok p graph) (sym is) ∙ h in
        sound_points p core.blocks core.statics graph.result (operand core.vars y) (operand_sound p ok core.blocks core.statics memory.stand graph.types core.vars fit.vars lead graph.result y k (λ m e. set)) n
        (type_refers p ok based_ slots graph.types core fit lead memory keeps.counted graph.result y k n r)
    returns_point (exit.Goto link) h = tt
    returns_point (exit.If a there elsewhere) h = tt
    returns_point (exit.OnRaise a by without) h = tt
    returns_point (exit.Raise a) h = tt
    returns_point (exit.Fail n) h = tt
    returns_point (exit.Raised a) h = tt

    pub leave_ready : (e : LlExit) → exit_ok p graph e ≡ true → exit_agrees e ≡ true → SetIn graph.types (live [] e) core.vars → (g : Ghost) → ((k : ℕ) → k < most → Roomy g k) → ReadyToLeave p graph e core g
    leave_ready e h agree set g room = record {
      roots = all_roots p leads core.function graph of;
      fits = fit.vars.count;
      pointing = pointing p based_ core.blocks core.statics keeps.counted graph.types core.vars fit.vars lead (live [] e) set;
      apart = keeps.apart;
      inputs = inputs_apart p countable core.function graph of;
      links = links_point;
      returns = returns_point e h;
      lead = result_root p leads core.function graph of;
      room = λ link k. room (length link.args + 0) (let l : length link.args < most = link_few link k in omega (arith, l));
      one = room 1 (omega arith);
      explicit = explicit_agrees e agree;
      ok = h;
    }

  -- ---- graphs that are entered

  first_block : (blocks : List LlBlock) → 0 < length blocks → (b : LlBlock) × (slice_get blocks 0 ≡ Some b)
  first_block [] h = absurd (omega (arith, h))
  first_block (b ∷ blocks) h = (b, refl)

  pub enter_ready : (f : ℕ) (values : List Value) (frames : List Frame) (core : Core) (graph : LlGraph) → CallingFits p f values frames core graph → AllLead p core.blocks core.statics graph.types values → CallingKeeps p f values frames core graph → ReadyToEnter p graph values core
  enter_ready f values frames core graph fit given keeps = by (first_block graph.blocks (is_less 0 (length graph.blocks) (and_right _ _ (and_left _ _ (good p ok slots agrees leads countable f graph keeps.of)))))
    where
      filled : List Value
      filled = values ++ replicate (length graph.types - length graph.params) Unset

      params_ : length graph.params ≤ length graph.types
      params_ = params_short p graph.types graph.params (params_of p ok slots agrees leads countable f graph keeps.of)

      count : length (values ++ replicate (length graph.types - length graph.params) Unset) ≡ length graph.types
      count = omega (arith, length_both values (replicate (length graph.types - length graph.params) Unset), length_unset (length graph.types - length graph.params), fit.count, params_)

      by : (b : LlBlock) × (slice_get graph.blocks 0 ≡ Some b) → ReadyToEnter p graph values core
      by (block, first) = record {
        roots = all_roots p leads f graph keeps.of;
        block = block;
        first = first;
        covers = λ i lt. all_are graph.params block.inputs i (and_left (all_among graph.params block.inputs) (all_among block.inputs graph.params) takes_them) (each_param p graph.types graph.params i (params_of p ok slots agrees leads countable f graph keeps.of) (omega (arith, lt, fit.count)));
        fits = count;
        pointing = pointing p based_ core.blocks core.statics keeps.keeps.counted graph.types (values ++ replicate (length graph.types - length graph.params) Unset)
            (record { count = count; at = λ a t e. subst (Fits p (length core.blocks) t) (sym (read_filled values (length graph.types - length graph.params) a)) (fit.given a t e) })
            (λ a t e. subst (LeadsBy p core.blocks core.statics t) (sym (read_filled values (length graph.types - length graph.params) a)) (given a t e)) (λ w. among w block.inputs)
            (λ v n u t. (let l : v < length graph.params = params_below p graph.types graph.params v (params_of p ok slots agrees leads countable f graph keeps.of) (all_are block.inputs graph.params v (and_right (all_among graph.params block.inputs) (all_among block.inputs graph.params) takes_them) u) in
            ap is_unset (read_filled values (length graph.types - length graph.params) v) ∙ each_set values v keeps.set (omega (arith, l, fit.count))));
      }
        where
          takes_them : takes_params graph.params (Some block) ≡ true
          takes_them = ap (takes_params graph.params) (sym first) ∙ and_left _ _ (graph_test p countable f graph keeps.of)

  -- ---- calls that go on

  pub go_on_ready : (graph : LlGraph) (call : Call) (value : Value) (frame other : Frame) (core : Core) → Sound p core.blocks core.statics graph.result value → CoreKeeps p core → FrameKeeps p graph.result call.graph frame → Waits p call frame other
      → AllFit p (length core.blocks) call.graph.types frame.vars → AllLead p core.blocks core.statics call.graph.types frame.vars → ReadyToGoOn p graph.result call value frame core
  go_on_ready graph call value frame other core sound keeps fk w fit lead = record {
    roots = all_roots p leads frame.graph call.graph w.there;
    fits = fit.count;
    pointing = pointing p based_ core.blocks core.statics keeps.counted call.graph.types frame.vars fit lead (live (call.op ∷ frame.ops) frame.exit) (λ v n u t. fk.set v n (sym (waits_same p call frame other w v) ∙ u) t);
    typed = λ a e. has_type_is graph.result (slice_get call.graph.types a) (ap (λ s. result_ok call.graph.types s graph.result) (sym e) ∙ fk.typed);
    dropped = fk.drops;
    unread = λ a n e r. unread p countable call.graph call.op (stands_under p call.graph frame call.op w.there w.under) a n (w.into ∙ e) r;
    points = λ n r. sound_points p core.blocks core.statics graph.result value sound n r;
    refers = λ m e. block_refers p core.blocks core.statics based_ keeps.counted graph.result m (subst (Fits p (length core.blocks) graph.result) e sound.fits) (subst (LeadsBy p core.blocks core.statics graph.result) e sound.leads);
  }
