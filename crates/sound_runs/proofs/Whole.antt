-- Every step, and every run, from a sound state.
use Rattle.std.proofs.Common.{◌≡◌, ◌<◌, ◌≤◌, ℕ, zero, suc, ◌+◌, ◌-◌, Bool, true, false, List, [], ◌∷◌, ◌++◌, length, Option, Some, None, refl, ap, sym, subst, ◌∙◌, arith}
use Rattle.std.specs.Prelude.{◌==◌, ◌||◌, not, cond, map, slice_get, option_map, nat_lt, nat_le, if◌then◌else◌}
use Rattle.std.proofs.lemmas.Bool.{lt-ltb, le-leb, eqb-true}
use Rattle.std.specs.List.{list_any}
use Rattle.rpy_tree.specs.declared.program.ClassInfo.{ClassInfo}
use Rattle.rpy_tree.specs.declared.program.Const.{Const}
use Rattle.rpy_tree.specs.Value.{Value}
use Rattle.rpy_meaning.specs.Tree.{Class, Program}
use Rattle.rpy_meaning.specs.World.{World}
use Rattle.rpy_meaning.specs.Costs.{entry_cost}
use Rattle.rpy_meaning.specs.Evaluation.{parameters, with_value}
use Rattle.rpy_meaning.specs.Meaning.{returned, name_of}
use Rattle.rpy_meaning.specs.Operations.{constant, truth_in}
use Rattle.flow_graph.specs.declared.graph.Link.{Link}
use Rattle.flow_graph.specs.declared.graph.Exit.{Exit}
use Rattle.flow_graph.specs.declared.graph.Exit.TheVariants as exit
use Rattle.flow_graph.specs.declared.graph.Graphs.{Graphs}
use Rattle.flow_meaning.specs.Machine as machine
use Rattle.flow_meaning.specs.Machine.{Bound, Frame, State, Calling, At, Returning, Throwing, Next, Goes, Ends, Stops, Strays, look, block_in, begun, pays, given, entered, chooses, returns, raises, leaves, ended_by, step}
use Rattle.flow_meaning.specs.Meaning.{follow, run}
use Rattle.class_desc.specs.Line as line
use Rattle.ann_lattice.specs.Shape.{Shape}
use Rattle.ann_lattice.specs.Kind.{is_int, is_nothing}
use Rattle.ann_lattice.specs.Order.{Sub}
use Rattle.ann_lattice.specs.Assign.{Assignment, at, mark, Up, Set}
use Rattle.ann_lattice.proofs.Tree.{sub_on}
use Rattle.ann_rules.specs.Program.{Whole}
use Rattle.ann_rules.specs.Asks.{when, defaults, defaults_of}
use Rattle.ann_rules.specs.Rules as rules
use Rattle.ann_rules.specs.Rules.{value, input_needs, locals_of, first_inputs, inputs_of, link_needs}
use Rattle.sound_values.specs.Values.{Sort, none, none_str, none_list, none_dict, none_inst, none_fun, flag, word, text, tuple, list, dict, inst, fun, clash}
use Rattle.sound_values.specs.Heaps.{IsOf, IsTyped}
use Rattle.sound_rows.specs.Seen.{SeenAt}
use Rattle.sound_rows.specs.Sound.{ArgumentsAre}
use Rattle.sound_rows.proofs.Tools.{no, yes}
use Rattle.sound_rows.proofs.Operands.{word_of}
use Rattle.sound_rows.proofs.Tests.{reached, truthful}
use Rattle.sound_runs.specs.Graphs.{IsException, IsFunction, RestFits, IsSettled}
use Rattle.sound_runs.specs.States.{EnvIs, GivesBack, Runs, AllWait, IsCalled, IsSound}
use Rattle.sound_runs.specs.Runs.{Takes, IsToldIn, IsRight, StepsAreRight, ToldOn, ToldAlong, IsNotWrong, RunsAreNeverWrong}
use Rattle.sound_runs.proofs.Needs.{met_when, block_met, start_met}
use Rattle.sound_runs.proofs.Env.{names_taken, look_is, read_is}
use Rattle.sound_runs.proofs.Steps.{Met, split, raise_up, jump_ok, catch_ok, resume_ok, operation_ok, bare, class_is}

-- what is no class is below none
no_top : (k : List ClassInfo) (d : ℕ) → 0 < length k → slice_get k d ≡ None → Sub k d 0 → ⊥
no_top [] d lt e h = omega (arith, lt)
no_top (x ∷ k) d lt e h =
    by (d == 0) refl (subst (λ o. ((d == 0) || list_any (λ b. b == 0) (line.onward (line.line (x ∷ k) (length k)) (line.base_in o))) ≡ true) e h)
  where
    by : (b : Bool) → (d == 0) ≡ b → (b || false) ≡ true → ⊥
    by true f i = top (subst (λ n. slice_get (x ∷ k) n ≡ None) (eqb-true d 0 f) e)
      where
        top : Some x ≡ None → ⊥
        top e = cc
    by false f i = no i

module _ (p : Whole) (a : Assignment) (q : Program) (gs : Graphs) (settled : IsSettled p a q gs) where
  -- ---- exits

  bool_is : (b c : Bool) → Some b ≡ Some c → c ≡ b
  bool_is b c e = cc

  -- a test may go the way that its truth says
  goes_is : (sorts : List Sort) (world : World) (x : Shape) (v : Value) (b : Bool) → IsOf p a sorts x v → truth_in world v ≡ Some b → rules.goes b x ≡ true
  goes_is sorts world _ _ b (flag (Some true) true h) e = bool_is true b e
  goes_is sorts world _ _ b (flag (Some false) false h) e = ap not (bool_is false b e)
  goes_is sorts world _ _ b (flag (Some true) false h) e = absurd h
  goes_is sorts world _ _ b (flag (Some false) true h) e = absurd h
  goes_is sorts world _ _ b (flag None c h) e = refl
  goes_is sorts world _ _ b none e = refl
  goes_is sorts world _ _ b none_str e = refl
  goes_is sorts world _ _ b (none_list k) e = refl
  goes_is sorts world _ _ b (none_dict k) e = refl
  goes_is sorts world _ _ b (none_inst k) e = refl
  goes_is sorts world _ _ b (none_fun k) e = refl
  goes_is sorts world _ _ b (word n z) e = refl
  goes_is sorts world _ _ b (text n z h) e = refl
  goes_is sorts world _ _ b (tuple n z h) e = refl
  goes_is sorts world _ _ b (list k n r u h i) e = refl
  goes_is sorts world _ _ b (dict k n r u h i) e = refl
  goes_is sorts world _ _ b (inst k n r u h i) e = refl
  goes_is sorts world _ _ b (fun k n f h) e = refl
  goes_is sorts world _ _ b (clash l d v) e = refl

  thrown_is : (sorts : List Sort) (frames : List Frame) (world : World) (x : Shape) (v : Value) → IsTyped p a q.sites sorts world.heap → AllWait p a q sorts frames → IsException p a 0 x → IsOf p a sorts x v
      → IsRight p a q (raises frames world (Some v))
  thrown_is sorts frames world _ _ typed waits e (inst c false r d h i) =
      (sorts, (typed, (waits, record { class = d; sort = h; exception = sub_on p.tables.classes settled.sees.tree.tree d c 0 i e })))
  thrown_is sorts frames world _ _ typed waits e (inst c true r d h i) = absurd e
  thrown_is sorts frames world x v typed waits e h = absurd e

  branch : (sorts : List Sort) (g : ℕ) (env : List Bound) (instead : Option Value) (frames : List Frame) (world : World) (v : ℕ) (one two : Link) (r : Runs p a q sorts g [] (exit.If v one two) env instead frames)
      → IsTyped p a q.sites sorts world.heap → AllWait p a q sorts frames → (b : Bool) → rules.goes b (value p a g v) ≡ true → IsRight p a q (chooses gs g frames world instead env one two (Some b))
  branch sorts g env instead frames world v one two r typed waits true e =
      let ms = split p a q gs settled (when (rules.goes true (value p a g v)) (link_needs p a g r.graph None one)) (when (rules.goes false (value p a g v)) (link_needs p a g r.graph None two)) r.met in
      jump_ok p a q gs settled sorts g r.graph r.there r.number None env one instead frames world typed waits r.back r.rest.1.0 (λ u i. look_is p a q sorts g env u r.vars i)
      (met_when p.tables.classes a (rules.goes true (value p a g v)) (link_needs p a g r.graph None one) e ms.0)
  branch sorts g env instead frames world v one two r typed waits false e =
      let ms = split p a q gs settled (when (rules.goes true (value p a g v)) (link_needs p a g r.graph None one)) (when (rules.goes false (value p a g v)) (link_needs p a g r.graph None two)) r.met in
      jump_ok p a q gs settled sorts g r.graph r.there r.number None env two instead frames world typed waits r.back r.rest.1.1 (λ u i. look_is p a q sorts g env u r.vars i)
      (met_when p.tables.classes a (rules.goes false (value p a g v)) (link_needs p a g r.graph None two) e ms.1)

  leaves_ok : (sorts : List Sort) (g : ℕ) (e : Exit) (env : List Bound) (instead : Option Value) (frames : List Frame) (world : World) → IsTyped p a q.sites sorts world.heap → AllWait p a q sorts frames
      → Runs p a q sorts g [] e env instead frames → IsRight p a q (leaves q gs g e env instead frames world)
  leaves_ok sorts g (exit.Goto l) env instead frames world typed waits r =
      jump_ok p a q gs settled sorts g r.graph r.there r.number None env l instead frames world typed waits r.back r.rest (λ u i. look_is p a q sorts g env u r.vars i) r.met
  leaves_ok sorts g (exit.If v one two) env instead frames world typed waits r =
      let b = read_is p a q sorts g env v r.vars r.rest.0.0 in
      let t = truthful (bare p a q gs settled sorts world typed) (value p a g v) b.bound b.is r.rest.0.1 in
      let is : machine.truth_of world (look env v) ≡ Some t.bool = ap (machine.truth_of world) b.there ∙ t.is world refl in
      subst (λ o. IsRight p a q (chooses gs g frames world instead env one two o)) (sym is)
      (branch sorts g env instead frames world v one two r typed waits t.bool (goes_is sorts world (value p a g v) b.bound t.bool b.is (t.is world refl)))
  leaves_ok sorts g (exit.OnRaise v links other norm) env instead frames world typed waits r =
      jump_ok p a q gs settled sorts g r.graph r.there r.number None env norm instead frames world typed waits r.back r.rest (λ u i. look_is p a q sorts g env u r.vars i) r.met
  leaves_ok sorts g (exit.Return v) env instead frames world typed waits r =
      let b = read_is p a q sorts g env v r.vars r.rest in
      let up = raise_up p a q gs settled sorts (value p a g v) (at a (p.places.result r.graph.function)) b.bound r.met.0 b.is in
      subst (λ o. IsRight p a q (returns instead frames world o)) (sym b.there)
      (sorts, (typed, (waits, r.back sorts (λ r sort e. e) b.bound (subst (λ f. IsOf p a sorts (at a (p.places.result f)) b.bound) r.number up))))
  leaves_ok sorts g (exit.Raise v) env instead frames world typed waits r =
      let b = read_is p a q sorts g env v r.vars r.rest.0 in
      subst (λ o. IsRight p a q (raises frames world o)) (sym b.there) (thrown_is sorts frames world (value p a g v) b.bound typed waits r.rest.1 b.is)

  -- ---- the ends of a run

  only : (b c : Bool) → (b || c) ≡ true → c ≡ false → b ≡ true
  only true c e f = refl
  only false c e f = absurd (yes (sym e ∙ f))

  result_ok : (sorts : List Sort) (world : World) (v : Value) → IsTyped p a q.sites sorts world.heap → IsOf p a sorts (at a (p.places.result p.entry)) v → IsRight p a q (ended_by (returned v) world)
  result_ok sorts world v typed h =
      let some = reached (bare p a q gs settled sorts world typed) (at a (p.places.result p.entry)) v h in
      let w = word_of (bare p a q gs settled sorts world typed) (at a (p.places.result p.entry)) v h (only (is_int (at a (p.places.result p.entry))) (is_nothing (at a (p.places.result p.entry))) settled.result some) in
      subst (λ u. IsRight p a q (ended_by (returned u) world)) (sym w.is) tt

  -- an exception class is there
  class_there : (d : ℕ) (o : Option Class) → slice_get q.classes d ≡ o → Sub p.tables.classes d 0 → (world : World) → IsRight p a q (ended_by (name_of o) world)
  class_there d (Some class) e h world = tt
  class_there d None e h world = absurd (no_top p.tables.classes d settled.sees.tree.tree.some (seen_none (slice_get p.tables.classes d) refl (subst (λ o. SeenAt q.sites (slice_get p.tables.classes d) o) e (settled.sees.classes d))) h)
    where
      seen_none : (o : Option ClassInfo) → slice_get p.tables.classes d ≡ o → SeenAt q.sites o None → slice_get p.tables.classes d ≡ None
      seen_none None f i = f
      seen_none (Some info) f i = absurd i

  -- ---- calls

  abbrev ParamsAre : List Sort → ℕ → ℕ → List Value → Type 0
  ParamsAre sorts f i [] = Unit {0}
  ParamsAre sorts f i (v ∷ vs) = IsOf p a sorts (at a (p.places.param f i)) v × ParamsAre sorts f (suc i) vs

  record Given (v : Value) (o : Option (List Value)) (vs : List Value) : Type 0 where
    rest : List Value
    there : o ≡ Some rest
    are : vs ≡ v ∷ rest

  given_by : (v : Value) (o : Option (List Value)) (vs : List Value) → with_value v o ≡ Some vs → Given v o vs
  given_by v None vs e = cc
  given_by v (Some us) vs e = record { rest = us; there = refl; are = list_is (v ∷ us) vs e }
    where
      list_is : (us vs : List Value) → Some us ≡ Some vs → vs ≡ us
      list_is us vs e = cc

  params_are : (sorts : List Sort) (f i : ℕ) (ds : List (Option Const)) (args vs : List Value) → ArgumentsAre p a q sorts f i ds args → parameters (map (option_map (constant q.sites)) ds) args ≡ Some vs
      → ParamsAre sorts f i vs × (length vs ≡ length ds)
  params_are sorts f i [] [] [] h e = (tt, refl)
  params_are sorts f i [] [] (v ∷ vs) h e = cc
  params_are sorts f i [] (v ∷ args) vs h e = cc
  params_are sorts f i (d ∷ ds) (v ∷ args) vs h e =
      let g = given_by v (parameters (map (option_map (constant q.sites)) ds) args) vs e in
      let r = params_are sorts f (suc i) ds args g.rest h.1 g.there in
      subst (λ us. ParamsAre sorts f i us × (length us ≡ length (d ∷ ds))) (sym g.are) ((h.0, r.0), ap suc r.1)
  params_are sorts f i (Some c ∷ ds) [] vs h e =
      let g = given_by (constant q.sites c) (parameters (map (option_map (constant q.sites)) ds) []) vs e in
      let r = params_are sorts f (suc i) ds [] g.rest h.1 g.there in
      subst (λ us. ParamsAre sorts f i us × (length us ≡ length (Some c ∷ ds))) (sym g.are) ((h.0, r.0), ap suc r.1)
  params_are sorts f i (None ∷ ds) [] vs h e = cc

  no_more_are : (sorts : List Sort) (f count i : ℕ) (inputs : List ℕ) → count ≤ i → Met p a q gs settled (input_needs p a f count count i inputs) → EnvIs p a q sorts f (machine.taken inputs [])
  no_more_are sorts f count i [] le m = tt
  no_more_are sorts f count i (input ∷ inputs) le m =
      let ms = split p a q gs settled (when (nat_lt i count) (Up (p.places.variable f input) (at a (p.places.param f i) ∷ []) ∷ []))
      (when (nat_le count i) (Set (p.places.loose f input) ∷ []) ++ input_needs p a f count count (suc i) inputs) m in
      let ns = split p a q gs settled (when (nat_le count i) (Set (p.places.loose f input) ∷ [])) (input_needs p a f count count (suc i) inputs) ms.1 in
      ((met_when p.tables.classes a (nat_le count i) (Set (p.places.loose f input) ∷ []) (le-leb count i le) ns.0).0, no_more_are sorts f count (suc i) inputs (omega (arith, le)) ns.1)

  taken_are : (sorts : List Sort) (f count i : ℕ) (inputs : List ℕ) (vs : List Value) → count ≡ i + length vs → ParamsAre sorts f i vs → Met p a q gs settled (input_needs p a f count count i inputs)
      → EnvIs p a q sorts f (machine.taken inputs vs)
  taken_are sorts f count i inputs [] e h m = no_more_are sorts f count i inputs (omega (arith, e)) m
  taken_are sorts f count i [] (v ∷ vs) e h m = tt
  taken_are sorts f count i (input ∷ inputs) (v ∷ vs) e h m =
      let ms = split p a q gs settled (when (nat_lt i count) (Up (p.places.variable f input) (at a (p.places.param f i) ∷ []) ∷ []))
      (when (nat_le count i) (Set (p.places.loose f input) ∷ []) ++ input_needs p a f count count (suc i) inputs) m in
      let ns = split p a q gs settled (when (nat_le count i) (Set (p.places.loose f input) ∷ [])) (input_needs p a f count count (suc i) inputs) ms.1 in
      let up = met_when p.tables.classes a (nat_lt i count) (Up (p.places.variable f input) (at a (p.places.param f i) ∷ []) ∷ []) (lt-ltb i count (omega (arith, e))) ms.0 in
      (raise_up p a q gs settled sorts (at a (p.places.param f i)) (value p a f input) v up.0 h.0, taken_are sorts f count (suc i) inputs vs (omega (arith, e)) h.1 ns.1)

  pays_ok : (sorts : List Sort) (f : ℕ) (vs : List Value) (instead : Option Value) (frames : List Frame) (world : World) → IsTyped p a q.sites sorts world.heap → AllWait p a q sorts frames
      → (F : IsFunction p a q f) → F.callee.star ≡ false → mark a (p.places.reached f) ≡ true → ParamsAre sorts f 0 vs → length vs ≡ length F.callee.defaults → GivesBack p a q sorts f instead frames
      → IsRight p a q (pays gs f vs instead frames world)
  pays_ok sorts f vs instead frames world typed waits F star reached params count back = by (nat_lt world.left entry_cost)
    where
      start : Met p a q gs settled (Set (p.places.block f 0) ∷ input_needs p a f (length F.callee.defaults) (locals_of p a F.callee) 0 (first_inputs p a (slice_get p.graphs f)))
      start = met_when p.tables.classes a (mark a (p.places.reached f)) (Set (p.places.block f 0) ∷ input_needs p a f (length F.callee.defaults) (locals_of p a F.callee) 0 (first_inputs p a (slice_get p.graphs f))) reached
          (start_met p a settled.met f F.callee F.there)

      inputs : first_inputs p a (slice_get p.graphs f) ≡ F.first.inputs
      inputs = ap (first_inputs p a) F.own ∙ ap inputs_of F.begins

      counted : Met p a q gs settled (input_needs p a f (length F.callee.defaults) (length F.callee.defaults) 0 F.first.inputs)
      counted =
          subst (λ is. Met p a q gs settled (input_needs p a f (length F.callee.defaults) (length F.callee.defaults) 0 is)) inputs
          (subst (λ b. Met p a q gs settled (input_needs p a f (length F.callee.defaults) (if b then length F.callee.defaults + 1 else length F.callee.defaults) 0 (first_inputs p a (slice_get p.graphs f)))) star start.1)

      found : block_in (slice_get gs.graphs f) 0 ≡ Some F.first
      found = ap (λ graphs. block_in (slice_get graphs f) 0) settled.graphs ∙ ap (λ o. block_in o 0) F.own ∙ F.begins

      by : (b : Bool) → IsRight p a q (cond b (Stops world) (begun f vs instead frames (record world { left = world.left - entry_cost }) (block_in (slice_get gs.graphs f) 0)))
      by true = tt
      by false =
          let ms = block_met p a settled.met f 0 F.graph F.first F.own F.begins start.0 in
          subst (λ o. IsRight p a q (begun f vs instead frames (record world { left = world.left - entry_cost }) o)) (sym found) (
            sorts,
            (
              typed,
              (
                waits,
                record {
                  graph = F.graph;
                  there = F.own;
                  number = F.number;
                  vars = taken_are sorts f (length F.callee.defaults) 0 F.first.inputs vs (omega (arith, count)) params counted;
                  rest = subst (λ names. RestFits p a f F.graph names F.first.ops F.first.exit) (sym (names_taken F.first.inputs vs)) (settled.blocks f 0 F.graph F.first F.own F.begins start.0);
                  met = ms.1;
                  caught = ms.0;
                  back = back;
                },
              ),
            ),
          )

  calls_ok : (sorts : List Sort) (f : ℕ) (args : List Value) (instead : Option Value) (frames : List Frame) (world : World) → IsTyped p a q.sites sorts world.heap → AllWait p a q sorts frames
      → IsCalled p a q sorts f args instead frames → Takes args (slice_get q.functions f) → IsRight p a q (entered gs f args instead frames world (slice_get q.functions f))
  calls_ok sorts f args instead frames world typed waits h told =
      let F = settled.functions f h.reached in
      let t : Takes args (Some F.function) = subst (λ o. Takes args o) F.seen told in
      let ds : defaults p f ≡ F.callee.defaults = ap (defaults_of p) F.there in
      let same : parameters (map (option_map (constant q.sites)) F.callee.defaults) args ≡ Some t.1.0 = sym (ap (λ ds. parameters ds args) F.defaults) ∙ t.1.1 in
      let ps = params_are sorts f 0 F.callee.defaults args t.1.0 (subst (λ ds. ArgumentsAre p a q sorts f 0 ds args) ds h.arguments) same in
      subst (λ o. IsRight p a q (entered gs f args instead frames world o)) (sym F.seen)
      (subst (λ b. IsRight p a q (cond b Strays (given gs f instead frames world (parameters F.function.defaults args)))) (sym t.0)
      (subst (λ o. IsRight p a q (given gs f instead frames world o)) (sym t.1.1)
      (pays_ok sorts f t.1.0 instead frames world typed waits F (sym F.star ∙ t.0) h.reached ps.0 ps.1 h.back)))

  -- ---- every step

  pub step_ok : (state : State) → IsSound p a q state → IsToldIn q state → IsRight p a q (step q gs state)
  step_ok (Calling f args instead frames world) (sorts, h) told = calls_ok sorts f args instead frames world h.0 h.1.0 h.1.1 told
  step_ok (At g [] e env instead frames world) (sorts, h) told = leaves_ok sorts g e env instead frames world h.0 h.1.0 h.1.1
  step_ok (At g (o ∷ ops) e env instead frames world) (sorts, h) told = operation_ok p a q gs settled sorts g o ops e env instead frames world h.0 h.1.0 h.1.1 told
  step_ok (Returning v [] world) (sorts, h) told = result_ok sorts world v h.0 h.1.1
  step_ok (Returning v (frame ∷ frames) world) (sorts, h) told = resume_ok p a q gs settled sorts frame frames world v h.0 h.1.0.1 h.1.0.0 h.1.1
  step_ok (Throwing r [] world) (sorts, h) told =
      subst (λ c. IsRight p a q (ended_by (name_of (slice_get q.classes c)) world)) (sym (class_is p a q gs settled sorts world r h.0 h.1.1))
      (class_there h.1.1.class (slice_get q.classes h.1.1.class) refl h.1.1.exception world)
  step_ok (Throwing r (frame ∷ frames) world) (sorts, h) told = catch_ok p a q gs settled sorts r frame frames world frame.ops h.0 h.1.0.1 h.1.0.0 h.1.0.0.catch h.1.1

  follow_ok : (k : ℕ) (state : State) (next : Next) → IsRight p a q next → ToldOn q gs (ToldAlong q gs k) next → ((other : State) → IsSound p a q other → ToldAlong q gs k other → IsNotWrong (run q gs k other))
      → IsNotWrong (follow (run q gs k) state next)
  follow_ok k state (Goes other) right told go = go other right told
  follow_ok k state (Ends (Some outcome) world) right told go = tt
  follow_ok k state (Ends None world) right told go = right
  follow_ok k state (Stops world) right told go = tt
  follow_ok k state Strays right told go = absurd right

  pub run_ok : (k : ℕ) (state : State) → IsSound p a q state → ToldAlong q gs k state → IsNotWrong (run q gs k state)
  unfolding run
  run_ok zero state h told = tt
  run_ok (suc k) state h told = follow_ok k state (step q gs state) (step_ok state h told.0) told.1 (run_ok k)

pub steps_are_right : StepsAreRight
steps_are_right p a q gs settled state h told = step_ok p a q gs settled state h told

pub runs_are_never_wrong : RunsAreNeverWrong
runs_are_never_wrong p a q gs settled k state h told = run_ok p a q gs settled k state h told
