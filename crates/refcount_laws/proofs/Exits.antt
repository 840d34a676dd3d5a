-- Exits of a counted program follow those of its program.
use Rattle.std.proofs.Common.{◌≡◌, ◌≢◌, ⊎_elim, ◌<◌, ℕ, zero, suc, ◌+◌, Bool, true, false, ◌||◌, List, [], ◌∷◌, ◌++◌, length, Option, Some, None, refl, sym, ap, ◌∙◌, subst, arith}
use Rattle.std.specs.Prelude.{slice_get, ◌==◌, cond}
use Rattle.csub_tree.specs.State.{Value, Unset, Block, Core}
use Rattle.csub_tree.specs.Statement.{operand, operands, any_unset}
use Rattle.csub_tree.specs.declared.tree.COperand.{COperand}
use Rattle.csub_tree.specs.declared.tree.COperand.TheVariants.{Var, Const}
use Rattle.csub_tree.specs.declared.stuck.StuckReason.TheVariants.{Unset as IsUnset}
use Rattle.ll_code.specs.State.{Frame, State, At, Returning, Goes, Sticks}
use Rattle.ll_code.specs.Machine.{step, jump, begins, block_in, set_all}
use Rattle.ll_code.specs.Typed.{all_given}
use Rattle.ll_code.specs.declared.program.LlType.{LlType}
use Rattle.ll_code.specs.declared.program.LlLink.{LlLink}
use Rattle.ll_code.specs.declared.program.LlOp.{LlOp}
use Rattle.ll_code.specs.declared.program.LlExit.{LlExit}
use Rattle.ll_code.specs.declared.program.LlExit.TheVariants as exit
use Rattle.ll_code.specs.declared.program.LlBlock.{LlBlock}
use Rattle.ll_code.specs.declared.program.LlProgram.{LlProgram}
use Rattle.ll_live.specs.Live.{among, variables_in, live}
use Rattle.refcount_transform.specs.Plan.{Plan, plan_of, reference_given}
use Rattle.refcount_transform.specs.Changes.{Around, around_of, var_referred, given, dead, ops_of}
use Rattle.refcount_transform.specs.Blocks.{exit_of, block_of}
use Rattle.refcount_transform.specs.Counted.{counted}
use Rattle.refcount_laws.specs.Graphs.{Counts, Counting}
use Rattle.refcount_laws.specs.Made.{counts_of}
use Rattle.refcount_laws.specs.Ghost.{Ghost, bare_at, as_first, fixed_at, hit, count, memory, LeadsTo, IsCounted}
use Rattle.refcount_laws.specs.Runs.{Leads, here}
use Rattle.refcount_laws.specs.Touched.{Shown}
use Rattle.refcount_laws.specs.Owned.{owns, owned, DoneTo, operand_hits, all_hits, given_hits, OperandsLead, Roomy}
use Rattle.refcount_laws.specs.Matches.{Pointing, AllRoots, Stands, Comes}
use Rattle.refcount_laws.specs.Leaves.{are_apart, GivesBack}
use Rattle.refcount_laws.proofs.Steps.{leads_on, goes}
use Rattle.refcount_laws.proofs.Touching.{is_or_not}
use Rattle.refcount_laws.proofs.Moving.{own_same}
use Rattle.refcount_laws.proofs.Numbers.{Based}
use Rattle.refcount_laws.proofs.Owning.{owned_same, owned_plain}
use Rattle.refcount_laws.proofs.Dead.{same_is, differ_is, dead_run}
use Rattle.refcount_laws.proofs.Given.{given_run}
use Rattle.refcount_laws.proofs.Accounts.{given_owned}
use Rattle.refcount_laws.proofs.Following.{near_kept}
use Rattle.std.specs.Prelude.{cond}
use Rattle.ll_code.specs.Meaning.{run, follow}
use Rattle.csub_tree.specs.Operation.{is_unset}
use Rattle.refcount_transform.specs.Blocks.{left, way_ops, way_link}
use Rattle.refcount_transform.specs.Changes.{down_unless}
use Rattle.refcount_transform.specs.Made.{block_with}
use Rattle.refcount_laws.proofs.Steps.{one_more, on_count}
use Rattle.refcount_laws.proofs.Leaving.{left_over, Arrives, arrives, inputs_lead}
use Rattle.refcount_laws.proofs.Accounts.{among_both}
use Rattle.refcount_laws.proofs.Following.{vars_lead}

or_none : (b : Bool) → (b || false) ≡ b
or_none true = refl
or_none false = refl

-- where the next step is the same, so is what it leads to
same_step : (q : LlProgram) (args : List (List ℕ)) (s t u : State) → step q args s ≡ step q args t → (l : Leads q args t u) → 0 < l.count → (l : Leads q args s u) × (0 < l.count)
same_step q args s t u e l lt = by l.count refl
  where
    by : (n : ℕ) → l.count ≡ n → (l : Leads q args s u) × (0 < l.count)
    by zero f = absurd (omega (arith, lt, f))
    by (suc n) f = (
      record {
        count = suc n;
        gone = l.gone;
        by = λ k text events.
            (let z : k + suc n ≡ suc (k + n) = omega arith in ap (λ j. run q args j s text events) z) ∙ one_more q args (k + n) s text events ∙ ap (follow (run q args (k + n)) text events) e ∙ sym (one_more q args (k + n) t text events)
            ∙ (let z : suc (k + n) ≡ k + l.count = omega (arith, f) in ap (λ j. run q args j t text events) z) ∙ l.by k text events;
      },
      omega arith,
    )

-- what a way does not give on is dropped as what is not live there
left_is_dead : (around : Around) (way : LlLink) (vs : List ℕ) (rest : List LlOp) → left around way.args vs rest ≡ dead around vs [] (exit.Goto way) rest
left_is_dead around way [] rest = refl
left_is_dead around way (v ∷ vs) rest =
    ap (λ b. down_unless (among v vs || b) around v (left around way.args vs rest)) (sym (or_none (among v (variables_in way.args)))) ∙ ap (down_unless (among v vs || (among v (variables_in way.args) || false)) around v) (left_is_dead around way vs rest)

module _ (p : LlProgram) (based : Based p.structs) (counting : Counting (counted p) (counts_of (plan_of p))) (args : List (List ℕ)) (types : List LlType) (roots : AllRoots p types) (own : Value → ℕ) (frames : List Frame) (core qcore : Core) (fits : length core.vars ≡ length types) where
  abbrev plan : Plan
  plan = plan_of p

  abbrev q : LlProgram
  q = counted p

  abbrev c : Counts
  c = counts_of plan

  abbrev around : Around
  around = around_of plan types

  -- where the counted program stands
  abbrev pub stand : List LlOp → LlExit → ℕ → ℕ → List (Option Block) → List Block → State
  stand ops ex b at h s = At ops ex frames (here qcore core.function b at core.vars h s)

  abbrev pub ArrivesFrom : (ℕ → Bool) → State → List LlOp → LlExit → ℕ → Core → Type 0
  ArrivesFrom uses from rest ex block later = Arrives p based counting args types roots own frames core qcore fits uses from rest ex block later

  further : (uses : ℕ → Bool) (s t : State) (rest : List LlOp) (ex : LlExit) (block : ℕ) (later : Core) → Leads q args s t → ArrivesFrom uses t rest ex block later → ArrivesFrom uses s rest ex block later
  further uses s t rest ex block later l m =
      let comes : Comes p args types uses own s rest ex frames block later =
      record { qcore = m.comes.qcore; g = m.comes.g; h = m.comes.h; at = m.comes.at; stands = m.comes.stands; counts = m.comes.counts; leads = leads_on q args l m.comes.leads } in
      record { comes = comes; moves = omega (arith, on_count q args l m.comes.leads, m.moves) }

  likewise : (uses : ℕ → Bool) (s t : State) (rest : List LlOp) (ex : LlExit) (block : ℕ) (later : Core) → step q args s ≡ step q args t → ArrivesFrom uses t rest ex block later → ArrivesFrom uses s rest ex block later
  likewise uses s t rest ex block later e m =
      let w : (l : Leads q args s (At rest ex frames (here m.comes.qcore later.function block m.comes.at later.vars m.comes.h (memory m.comes.g)))) × (0 < l.count) =
      same_step q args s t (At rest ex frames (here m.comes.qcore later.function block m.comes.at later.vars m.comes.h (memory m.comes.g))) e m.comes.leads m.moves in
      record { comes = record { qcore = m.comes.qcore; g = m.comes.g; h = m.comes.h; at = m.comes.at; stands = m.comes.stands; counts = m.comes.counts; leads = w.0 }; moves = w.1 }

  stands_on : (g g' : Ghost) (h h' : List (Option Block)) → ((b : ℕ) → bare_at g'.blocks b ≡ bare_at g.blocks b) → ((s : ℕ) → as_first (fixed_at g'.statics s) ≡ as_first (fixed_at g.statics s)) → length g'.blocks ≡ length g.blocks → length g'.statics ≡ length g.statics
      → Shown c h' g'.blocks → Stands p core qcore g h → Stands p core qcore g' h'
  stands_on g g' h h' same firsts size sizes shown stands = record {
    near = near_kept plan g g' same firsts core.blocks core.statics size sizes stands.near;
    shown = shown;
    steps = stands.steps;
    exc_type = stands.exc_type;
    exc_value = stands.exc_value;
  }

  -- ---- a link

  module _ (link : LlLink) (block : LlBlock) (next : ℕ) (ok : all_given p types types block.inputs link.args ≡ true) (apart : are_apart block.inputs ≡ true) (closed : (v : ℕ) → live block.ops block.exit v ≡ true → among v block.inputs ≡ true)
      (set : any_unset (operands core.vars link.args) ≡ false) (there : block_in (slice_get q.graphs core.function) link.to ≡ Some (block_of around next block))
      (points : Pointing p types core.blocks core.statics (λ w. among w block.inputs) (set_all core.vars block.inputs (operands core.vars link.args))) where
    abbrev pub Reached : State → Type 0
    Reached from = ArrivesFrom (live block.ops block.exit) from (ops_of around block.ops block.exit) (exit_of around next block.exit) link.to (record core { block = link.to; at = 0; vars = set_all core.vars block.inputs (operands core.vars link.args) })

    -- all that it gives on is counted
    pub counted_arrives : (g : Ghost) (h : List (Option Block)) (b at : ℕ) → Stands p core qcore g h → IsCounted q c g (λ r. all_hits around core.vars link.args r + own r) → Reached (stand [] (exit.Goto link) b at h (memory g))
    counted_arrives g h b at stands counts = arrives p based counting args types roots own frames core qcore fits link block next ok apart closed set there g h b at (stand [] (exit.Goto link) b at h (memory g)) stands points counts refl

    -- what it gives on is not counted yet
    pub goto_arrives : (g : Ghost) (h : List (Option Block)) (b at : ℕ) → Stands p core qcore g h → Pointing p types core.blocks core.statics (live [] (exit.Goto link)) core.vars → Roomy g (length link.args + 0)
        → IsCounted q c g (λ r. owned around (live [] (exit.Goto link)) core.vars r + own r) → Reached (stand (given around link.args []) (exit.Goto link) b at h (memory g))
    goto_arrives g h b at stands pointing room counts =
        let had : Value → ℕ = λ r. owned around (live [] (exit.Goto link)) core.vars r + own r in
        let from : State = stand (given around link.args []) (exit.Goto link) b at h (memory g) in
        let leading : OperandsLead q around g had core.vars link.args =
        inputs_lead p based counting args types roots own frames core qcore fits (live [] (exit.Goto link)) g h stands pointing had (λ r. omega arith) block.inputs link.args core.vars ok apart fits (λ w m. or_none (among w (variables_in link.args)) ∙ m) points in
        let d : DoneTo q args c g (λ r. given_hits around core.vars link.args r + had r) from [] (exit.Goto link) frames qcore core.function b core.vars =
        given_run q args plan counting types qcore core.function b (exit.Goto link) frames core.vars link.args g h had 0 at [] stands.shown leading room counts in
        further (live block.ops block.exit) from (stand [] (exit.Goto link) b d.at d.done.blocks (memory d.done.later)) (ops_of around block.ops block.exit) (exit_of around next block.exit) link.to
        (record core { block = link.to; at = 0; vars = set_all core.vars block.inputs (operands core.vars link.args) }) d.done.leads
        (counted_arrives d.done.later d.done.blocks b d.at (stands_on g d.done.later h d.done.blocks d.done.same d.done.same_statics d.done.size d.done.size_statics d.done.shown stands)
        (own_same q args c d.done.later (λ r. given_hits around core.vars link.args r + had r) (λ r. all_hits around core.vars link.args r + own r) (λ r. all_of r) d.done.counted))
      where
        inside : (v n : ℕ) → var_referred around v ≡ Some n → v < length core.vars
        inside v n e = let l : v < length types = in_types types v e in omega (arith, l, fits)
          where
            in_types : (ts : List LlType) (v : ℕ) → reference_given plan.counted (slice_get ts v) ≡ Some n → v < length ts
            in_types [] v e = absurd (cc)
            in_types (t ∷ ts) zero e = omega arith
            in_types (t ∷ ts) (suc v) e = omega (arith, in_types ts v e)

        all_of : (r : Value) → given_hits around core.vars link.args r + (owned around (live [] (exit.Goto link)) core.vars r + own r) ≡ all_hits around core.vars link.args r + own r
        all_of r =
            omega (arith, given_owned around link.args core.vars r (λ v n m e. inside v n e), owned_same around (live [] (exit.Goto link)) (λ w. among w (variables_in link.args)) core.vars r (λ w. or_none (among w (variables_in link.args))))

    -- one way of a test, where the other way has this link: what only the other way gives on is dropped
    pub way_arrives : (uses : ℕ → Bool) (v : ℕ) (other : LlLink) → var_referred around v ≡ None → ((w : ℕ) → w ≢ v → uses w ≡ left_over [] (exit.Goto link) (variables_in other.args) w) → ((w : ℕ) → left_over [] (exit.Goto link) (variables_in other.args) w ≡ true → uses w ≡ true)
        → (g : Ghost) (h : List (Option Block)) (b at : ℕ) → Stands p core qcore g h → Pointing p types core.blocks core.statics uses core.vars → Roomy g (length link.args + 0)
        → IsCounted q c g (λ r. owned around uses core.vars r + own r) → Reached (stand (way_ops around link other) (exit.Goto link) b at h (memory g))
    way_arrives uses v other plain same used g h b at stands pointing room counts =
        let had : Value → ℕ = λ r. owned around uses core.vars r + own r in
        let more : Value → ℕ = λ r. given_hits around core.vars link.args r + own r in
        let vs : List ℕ = variables_in other.args in
        let rest : List LlOp = left around link.args vs [] in
        let drops : List LlOp = dead around vs [] (exit.Goto link) [] in
        let from : State = stand (way_ops around link other) (exit.Goto link) b at h (memory g) in
        let leading : OperandsLead q around g had core.vars link.args =
        inputs_lead p based counting args types roots own frames core qcore fits uses g h stands pointing had (λ r. omega arith) block.inputs link.args core.vars ok apart fits (λ w m. used w (first (among w (variables_in link.args)) (among w vs) m)) points in
        let d : DoneTo q args c g (λ r. given_hits around core.vars link.args r + had r) from rest (exit.Goto link) frames qcore core.function b core.vars =
        given_run q args plan counting types qcore core.function b (exit.Goto link) frames core.vars link.args g h had 0 at rest stands.shown leading room counts in
        let stands1 : Stands p core qcore d.done.later d.done.blocks = stands_on g d.done.later h d.done.blocks d.done.same d.done.same_statics d.done.size d.done.size_statics d.done.shown stands in
        let mid : State = stand drops (exit.Goto link) b d.at d.done.blocks (memory d.done.later) in
        let m : DoneTo q args c d.done.later (λ r. owned around (live [] (exit.Goto link)) core.vars r + more r) mid [] (exit.Goto link) frames qcore core.function b core.vars =
        dead_run q args plan counting types qcore core.function b (exit.Goto link) frames core.vars fits vs [] (exit.Goto link) [] d.at d.done.later d.done.blocks more d.done.shown
        (vars_lead p based counting args types roots core.blocks core.statics d.done.later (left_over [] (exit.Goto link) vs) core.vars stands1.near
        (record { at = λ w n u e. pointing.at w n (used w u) e; refers = λ w a u e. pointing.refers w a (used w u) e }))
        (own_same q args c d.done.later (λ r. given_hits around core.vars link.args r + had r) (λ r. owned around (left_over [] (exit.Goto link) vs) core.vars r + more r)
        (λ r. omega (arith, owned_plain around uses (left_over [] (exit.Goto link) vs) v core.vars r plain same)) d.done.counted) in
        further (live block.ops block.exit) from (stand [] (exit.Goto link) b m.at m.done.blocks (memory m.done.later)) (ops_of around block.ops block.exit) (exit_of around next block.exit) link.to
        (record core { block = link.to; at = 0; vars = set_all core.vars block.inputs (operands core.vars link.args) })
        (leads_on q args (subst (λ l. Leads q args from (stand l (exit.Goto link) b d.at d.done.blocks (memory d.done.later))) (left_is_dead around link vs []) d.done.leads) m.done.leads)
        (counted_arrives m.done.later m.done.blocks b m.at (stands_on d.done.later m.done.later d.done.blocks m.done.blocks m.done.same m.done.same_statics m.done.size m.done.size_statics m.done.shown stands1)
        (own_same q args c m.done.later (λ r. owned around (live [] (exit.Goto link)) core.vars r + more r) (λ r. all_hits around core.vars link.args r + own r)
        (λ r. omega (arith, given_owned around link.args core.vars r (λ v n m e. inside v n e), owned_same around (live [] (exit.Goto link)) (λ w. among w (variables_in link.args)) core.vars r (λ w. or_none (among w (variables_in link.args))))) m.done.counted))
      where
        first : (a b : Bool) → a ≡ true → ((a || false) || b) ≡ true
        first true b m = refl
        first false b m = absurd (cc)

        inside : (v n : ℕ) → var_referred around v ≡ Some n → v < length core.vars
        inside v n e = let l : v < length types = in_types types v e in omega (arith, l, fits)
          where
            in_types : (ts : List LlType) (v : ℕ) → reference_given plan.counted (slice_get ts v) ≡ Some n → v < length ts
            in_types [] v e = absurd (cc)
            in_types (t ∷ ts) zero e = omega arith
            in_types (t ∷ ts) (suc v) e = omega (arith, in_types ts v e)

    -- the way stands in a block of its own, where something changes on it
    pub way_comes : (other : LlLink) (g : Ghost) (h : List (Option Block)) (b at number : ℕ) (from : State) (ops : List LlOp) → way_ops around link other ≡ ops
        → ((o : LlOp) (rest : List LlOp) → ops ≡ o ∷ rest → block_in (slice_get q.graphs core.function) number ≡ Some (block_with [] ops (exit.Goto link)))
        → step q args from ≡ jump q frames (here qcore core.function b at core.vars h (memory g)) (way_link link number ops)
        → ((b at : ℕ) → Reached (stand (way_ops around link other) (exit.Goto link) b at h (memory g)))
        → (x : Comes p args types (live block.ops block.exit) own from (ops_of around block.ops block.exit) (exit_of around next block.exit) frames link.to (record core { block = link.to; at = 0; vars = set_all core.vars block.inputs (operands core.vars link.args) })) × (0 < x.leads.count)
    way_comes other g h b at number from [] is placed stepped arrived =
        let a : Reached from =
        likewise (live block.ops block.exit) from (stand [] (exit.Goto link) b at h (memory g)) (ops_of around block.ops block.exit) (exit_of around next block.exit) link.to
        (record core { block = link.to; at = 0; vars = set_all core.vars block.inputs (operands core.vars link.args) }) stepped (subst (λ l. Reached (stand l (exit.Goto link) b at h (memory g))) is (arrived b at)) in
        (a.comes, a.moves)
    way_comes other g h b at number from (o ∷ ops) is placed stepped arrived =
        let entered : State = stand (o ∷ ops) (exit.Goto link) number 0 h (memory g) in
        let a : Reached from =
        further (live block.ops block.exit) from entered (ops_of around block.ops block.exit) (exit_of around next block.exit) link.to
        (record core { block = link.to; at = 0; vars = set_all core.vars block.inputs (operands core.vars link.args) })
        (goes q args from entered (stepped ∙ ap (begins frames (here qcore core.function b at core.vars h (memory g)) number []) (placed o ops refl)))
        (subst (λ l. Reached (stand l (exit.Goto link) number 0 h (memory g))) is (arrived number 0)) in
        (a.comes, a.moves)

  -- ---- a return

  pub return_comes : (x : COperand) (g : Ghost) (h : List (Option Block)) (b at : ℕ) → Stands p core qcore g h → OperandsLead q around g (λ r. owned around (live [] (exit.Return (Some x))) core.vars r + own r) core.vars (x ∷ []) → Roomy g 1 → is_unset (operand core.vars x) ≡ false
      → IsCounted q c g (λ r. owned around (live [] (exit.Return (Some x))) core.vars r + own r) → GivesBack p args (operand core.vars x) (λ r. operand_hits around core.vars x r + own r) (stand (given around (x ∷ []) []) (exit.Return (Some x)) b at h (memory g)) frames core
  return_comes x g h b at stands leading room set counts =
      let e : LlExit = exit.Return (Some x) in
      let had : Value → ℕ = λ r. owned around (live [] e) core.vars r + own r in
      let from : State = stand (given around (x ∷ []) []) e b at h (memory g) in
      let d : DoneTo q args c g (λ r. given_hits around core.vars (x ∷ []) r + had r) from [] e frames qcore core.function b core.vars =
      given_run q args plan counting types qcore core.function b e frames core.vars (x ∷ []) g h had 0 at [] stands.shown leading room counts in
      record {
        qcore = qcore;
        g = d.done.later;
        h = d.done.blocks;
        b = b;
        at = d.at;
        stands = stands_on g d.done.later h d.done.blocks d.done.same d.done.same_statics d.done.size d.done.size_statics d.done.shown stands;
        counts = own_same q args c d.done.later (λ r. given_hits around core.vars (x ∷ []) r + had r) (λ r. operand_hits around core.vars x r + own r)
            (λ r. omega (arith, given_owned around (x ∷ []) core.vars r (λ v n m e. inside v n e), owned_same around (live [] e) (λ w. among w (variables_in (x ∷ []))) core.vars r (λ w. reads_it x w))) d.done.counted;
        leads = leads_on q args d.done.leads (goes q args (stand [] e b d.at d.done.blocks (memory d.done.later)) (Returning (operand core.vars x) frames (here qcore core.function b d.at core.vars d.done.blocks (memory d.done.later)))
            (ap (λ y. cond y (Sticks IsUnset) (Goes (Returning (operand core.vars x) frames (here qcore core.function b d.at core.vars d.done.blocks (memory d.done.later))))) set));
      }
    where
      reads_it : (x : COperand) (w : ℕ) → live [] (exit.Return (Some x)) w ≡ among w (variables_in (x ∷ []))
      reads_it (Var v) w = or_none ((v == w) || false)
      reads_it (Const k) w = refl

      inside : (v n : ℕ) → var_referred around v ≡ Some n → v < length core.vars
      inside v n e = let l : v < length types = in_types types v e in omega (arith, l, fits)
        where
          in_types : (ts : List LlType) (v : ℕ) → reference_given plan.counted (slice_get ts v) ≡ Some n → v < length ts
          in_types [] v e = absurd (cc)
          in_types (t ∷ ts) zero e = omega arith
          in_types (t ∷ ts) (suc v) e = omega (arith, in_types ts v e)

  pub nothing_comes : (g : Ghost) (h : List (Option Block)) (b at : ℕ) → Stands p core qcore g h → IsCounted q c g (λ r. owned around (live [] (exit.Return None)) core.vars r + own r) → GivesBack p args Unset own (stand [] (exit.Return None) b at h (memory g)) frames core
  nothing_comes g h b at stands counts = record {
    qcore = qcore;
    g = g;
    h = h;
    b = b;
    at = at;
    stands = stands;
    counts = own_same q args c g (λ r. owned around (live [] (exit.Return None)) core.vars r + own r) own (λ r. ap (λ n. n + own r) (none 0 core.vars r) ∙ (let z : 0 + own r ≡ own r = omega arith in z)) counts;
    leads = goes q args (stand [] (exit.Return None) b at h (memory g)) (Returning Unset frames (here qcore core.function b at core.vars h (memory g))) refl;
  }
    where
      none : (n : ℕ) (vars : List Value) (r : Value) → Rattle.refcount_laws.specs.Ghost.occurs r (Rattle.ll_held.specs.Roots.kept (owns around (λ w. false)) n vars) ≡ 0
      none n [] r = refl
      none n (x ∷ vars) r = none (suc n) vars r

  -- ---- a test

  module _ (v : ℕ) (there elsewhere : LlLink) (plain : var_referred around v ≡ None) where
    abbrev tested : ℕ → Bool
    tested = live [] (exit.If v there elsewhere)

    assoc_swap : (a b c : Bool) → ((a || b) || false) ≡ ((a || false) || b)
    assoc_swap true b c = refl
    assoc_swap false true c = refl
    assoc_swap false false c = refl

    swapped : (a b : Bool) → ((a || b) || false) ≡ ((b || false) || a)
    swapped true true = refl
    swapped true false = refl
    swapped false true = refl
    swapped false false = refl

    pub there_same : (w : ℕ) → w ≢ v → tested w ≡ left_over [] (exit.Goto there) (variables_in elsewhere.args) w
    there_same w ne =
        ap (λ b. (b || among w (variables_in there.args ++ variables_in elsewhere.args)) || false) (differ_is v w (λ q. ne (sym q))) ∙ ap (λ b. b || false) (among_both w (variables_in there.args) (variables_in elsewhere.args))
        ∙ assoc_swap (among w (variables_in there.args)) (among w (variables_in elsewhere.args)) true

    pub elsewhere_same : (w : ℕ) → w ≢ v → tested w ≡ left_over [] (exit.Goto elsewhere) (variables_in there.args) w
    elsewhere_same w ne =
        ap (λ b. (b || among w (variables_in there.args ++ variables_in elsewhere.args)) || false) (differ_is v w (λ q. ne (sym q))) ∙ ap (λ b. b || false) (among_both w (variables_in there.args) (variables_in elsewhere.args))
        ∙ swapped (among w (variables_in there.args)) (among w (variables_in elsewhere.args))

    itself : tested v ≡ true
    itself = ap (λ b. (b || among v (variables_in there.args ++ variables_in elsewhere.args)) || false) (same_is v)

    pub used_there : (w : ℕ) → left_over [] (exit.Goto there) (variables_in elsewhere.args) w ≡ true → tested w ≡ true
    used_there w u = ⊎_elim (λ q. subst (λ w. tested w ≡ true) q itself) (λ ne. there_same w (λ q. ne (sym q)) ∙ u) (is_or_not v w)

    pub used_elsewhere : (w : ℕ) → left_over [] (exit.Goto elsewhere) (variables_in there.args) w ≡ true → tested w ≡ true
    used_elsewhere w u = ⊎_elim (λ q. subst (λ w. tested w ≡ true) q itself) (λ ne. elsewhere_same w (λ q. ne (sym q)) ∙ u) (is_or_not v w)
