-- An operation whose exceptions are caught.
use Rattle.std.proofs.Common.{◌≡◌, ◌<◌, ◌≤◌, ◌⊎◌, inl, inr, ℕ, ◌+◌, ◌==◌, ◌||◌, Bool, true, false, List, [], ◌∷◌, ◌++◌, length, Option, Some, None, refl, sym, ap, ◌∙◌, subst, arith, ℤ}
use Rattle.std.specs.Prelude.{slice_get, slice_set, cond, unwrap_or}
use Rattle.std.proofs.lemmas.List.{append-nil, get_or-set_same, get_or-set_other, length-append, length-set}
use Rattle.rpy_base.specs.declared.outcome.FailName.{FailName}
use Rattle.rpy_base.specs.declared.outcome.Outcome.{Outcome}
use Rattle.rpy_base.specs.declared.outcome.Outcome.TheVariants.{Running, Failed, Returned}
use Rattle.csub_tree.specs.State.{Value, Unset, Core, Over as Ran}
use Rattle.csub_tree.specs.Operation.{is_unset, word_of}
use Rattle.csub_tree.specs.Statement as st
use Rattle.csub_tree.specs.Statement.{read}
use Rattle.csub_tree.specs.declared.tree.COperand.{COperand}
use Rattle.ll_code.specs.State.{Frame, State, Calling, At, Returning, Throwing, Goes, Ends}
use Rattle.ll_code.specs.Machine.{step, goes_on, jump}
use Rattle.ll_code.specs.declared.program.LlType.{LlType}
use Rattle.ll_code.specs.declared.program.LlType.TheVariants as type
use Rattle.ll_code.specs.declared.program.LlOp.{LlOp}
use Rattle.ll_code.specs.declared.program.LlExit.{LlExit}
use Rattle.ll_code.specs.declared.program.LlExit.TheVariants as made
use Rattle.ll_code.specs.declared.program.LlLink.{LlLink}
use Rattle.ll_code.specs.declared.program.LlProgram.{LlProgram}
use Rattle.ll_build.specs.declared.needs.Numbers.{Numbers}
use Rattle.ll_held.specs.Roots.{core_of}
use Rattle.ll_leads.specs.Path.{Path, Stay, Go, total}
use Rattle.ll_leads.proofs.Joined.{path_then}
use Rattle.ll_live.specs.Live.{among, variables_in}
use Rattle.ll_live.proofs.Appended.{among_append}
use Rattle.rpy_tree.specs.Value.{Value as Meant, Ref}
use Rattle.rpy_meaning.specs.Meaning.{class_in, class_of}
use Rattle.rpy_meaning.specs.Operations.{op as meant_op}
use Rattle.rpy_meaning.specs.World.{World, Answer, Gives, Throws, Fails, Lacks, Enters, Bad}
use Rattle.flow_graph.specs.declared.graph.Exit.{Exit}
use Rattle.flow_graph.specs.declared.graph.Exit.TheVariants as exit
use Rattle.flow_graph.specs.declared.graph.Graphs.{Graphs}
use Rattle.flow_graph.specs.declared.graph.Link.{Link}
use Rattle.flow_graph.specs.declared.graph.Op.{Op}
use Rattle.flow_meaning.specs.Machine as flow
use Rattle.flow_meaning.specs.Machine.{Bound, bind, look, block_in, catching, values_of}
use Rattle.rtyper_layout.specs.Types.{type_seen}
use Rattle.rtyper_data.specs.Seen.{Writing}
use Rattle.rtyper_program.specs.declared.links.Caught.{Caught}
use Rattle.rtyper_program.specs.Cuts.{passed_by}
use Rattle.rtyper_program.specs.Links.{arguments as arguments_of, inputs_at, link_of, typed}
use Rattle.rtyper_program.specs.Live.{with_new}
use Rattle.rtyper_program.specs.Seen.{Lowered, type_at}
use Rattle.object_laws.specs.Done.{HasLayout}
use Rattle.object_laws.specs.Ghost.{Ghost, Grown, InstanceOf}
use Rattle.object_laws.specs.Known.{Known}
use Rattle.object_laws.specs.Represents.{Represents}
use Rattle.object_laws.specs.Values.{Holds}
use Rattle.object_laws.proofs.Blocks.{found_set}
use Rattle.object_laws.proofs.Growing.{holds_grows}
use Rattle.object_laws.proofs.Valued.{held_set}
use Rattle.conversion_laws.specs.Converted.{Blank, never}
use Rattle.flow_runs.specs.Good.{IsGood}
use Rattle.run_laws.specs.Points.{Setting, is_keyed, names_of, IsAt, Stand, Way, IsException}
use Rattle.run_laws.specs.Does.{Does, Came, Thrown, Again, Left, Handled, Entered, Over, Follows as FollowsSo}
use Rattle.run_laws.proofs.Steps.{grown_both}
use Rattle.block_laws.specs.Operations.{AreRead, Acts, Called, Failed as FailedSo, Gave, Lacked, Raised, Threw, HasTypes, IsOperation}
use Rattle.block_laws.specs.Links.{setting, AllAmong, HasBlocks, IsLink}
use Rattle.block_laws.proofs.Adding.{link_adds}
use Rattle.block_laws.proofs.Passing as block
use Rattle.block_laws.proofs.Passing.{equal}
use Rattle.block_laws.proofs.Variables.{names_more, stand_more, none_given, operands_given, void_or_not, blank_grows}
use Rattle.throw_laws.specs.Pieces as pieces
use Rattle.throw_laws.specs.Ready as pieces_ready
use Rattle.throw_laws.specs.Pieces.{AllIn, AreSet, IsReady, IsSetting, StandsCut, Here, Within, nowhere, elsewhere}
use Rattle.throw_laws.specs.Ready.{AllFit, ReadIn, through}
use Rattle.throw_laws.proofs.Catching.{cut_ways_lead_on, exceptions_are_caught, raises_are_caught, calls_are_made, pieces_end, pieces_go_on, here_at}
use Rattle.throw_laws.proofs.Readying.{operations_are_ready, returns_are_ready}
use Rattle.catch_laws.specs.Caught.{CaughtOperationsAreFollowed, GoesOn, IsCutSo, IsTold, ReadsInside, needed_by}
use Rattle.catch_laws.specs.Handlers.{IsCaughtAt, IsTaken, Lands}
use Rattle.catch_laws.proofs.Handling.{lands_after, names_set, typed_has, typed_in}
use Rattle.catch_laws.proofs.Reading.{AreAmong, Passes, own_variables, new_in, live_in, left_in, right_in, none_in, one_in, passes_in, through_append, read_append, through_more}

-- what is thrown over a heap with more objects is thrown over that from before
thrown_since : {s : Setting} {f r : ℕ} {w : World} {g0 g2 : Ghost} {frames : List Frame} {env : List Bound} {ops : List Op} {e : Exit} {from : State} → Grown g0 g2 → Thrown s f r w g2 frames env ops e from → Thrown s f r w g0 frames env ops e from
thrown_since h (Handled n b inner q it) = Handled n b inner q (record { low = it.low; block = it.block; end = it.end; way = it.way; ghost = it.ghost; grown = grown_both h it.grown; at = it.at })
thrown_since h (Left q it) = Left q (record { x = it.x; end = it.end; way = it.way; ghost = it.ghost; grown = grown_both h it.grown; is = it.is; stands = it.stands; left = it.left })
thrown_since h (Again v inner q has it) = Again v inner q has (record { x = it.x; end = it.end; way = it.way; ghost = it.ghost; grown = grown_both h it.grown; is = it.is; stands = it.stands; left = it.left })

module _ (l : Lowered) (known : Known) (graphs : Graphs) (p : LlProgram) (arguments : List (List ℕ)) (numbers : Numbers) (quiet : ℕ → Bool) (below start new : ℕ) (names : List ℕ) (o : Op) (caught : Caught) (hands : List (ℕ × Link)) (any : Option Link) (without : Link) (w : Writing)
    (written conversions : List LlOp) (by : LlLink) (left : List LlOp) (ends : LlExit)
    (has : HasLayout p l.world.around.layout) (types : HasTypes (setting l known graphs p arguments) l.number below) (graph_is : slice_get graphs.graphs l.number ≡ Some l.graph) (blocks : HasBlocks (setting l known graphs p arguments) l) (told : IsTold (setting l known graphs p arguments) quiet)
    (enough : below ≤ start) (longer : start + new ≤ length w.body.types) (does_it : IsOperation (setting l known graphs p arguments) l.number o start new written) (are_read : AreRead (setting l known graphs p arguments) l.number o.args) (fresh : among o.result names ≡ false) (inside : ReadsInside l names o.result written)
    (own : AllAmong without.args (names ++ o.result ∷ [])) (onward : GoesOn (setting l known graphs p arguments) numbers l names o without w) (conversions_are : (link_of l None without w).1.body.ops ≡ w.body.ops ++ conversions) (room_for : length (link_of l None without w).1.body.types ≤ (setting l known graphs p arguments).size l.number)
    (beyond : below ≤ caught.exception) (under : caught.exception < (setting l known graphs p arguments).size l.number) (taken : IsTaken (setting l known graphs p arguments) l names caught hands any by)
    (cut : IsCutSo (setting l known graphs p arguments) l quiet caught.exception by (written ++ conversions) (link_of l None without w).0 left ends) where
  abbrev s : Setting
  s = setting l known graphs p arguments

  abbrev f : ℕ
  f = l.number

  abbrev exc : ℕ
  exc = caught.exception

  abbrev e : Exit
  e = exit.OnRaise caught.variable hands any without

  abbrev last : LlLink
  last = (link_of l None without w).0

  abbrev leaves : LlExit
  leaves = made.Goto last

  abbrev needed : List LlOp → List ℕ
  needed = needed_by by exc last.args

  abbrev stop : LlExit
  stop = nowhere cut.graph

  abbrev all : List LlOp
  all = written ++ conversions

  the_setting : IsSetting p arguments quiet cut.number cut.graph
  the_setting = record { is = cut.stands; silent = told.silent }

  abbrev Stands : List Frame → State → State → Type 0
  Stands = StandsCut p arguments quiet needed cut.number cut.graph exc by leaves

  abbrev Ready : State → Type 0
  Ready = IsReady p arguments quiet needed cut.number cut.graph exc by leaves

  function_is : (function : ℕ) → s.known.graph f ≡ Some function → function ≡ cut.number
  function_is function is = (let a = cut.is in cc)

  types_more : HasTypes s f start
  types_more = record { typed = types.typed; under = λ v there. (let k = types.under v there in omega (arith, k, enough)) }

  -- ---- what is set

  cancel : (xs a b : List LlOp) → xs ++ a ≡ xs ++ b → a ≡ b
  cancel [] a b h = h
  cancel (x ∷ xs) a b h = cancel xs a b (cc)

  abbrev base : List ℕ
  base = variables_in (passed_by by exc)

  base_in : AllIn base (typed l names)
  base_in = subst (λ (vs : List ℕ). AllIn vs (typed l names)) (sym (own_variables (with_new (variables_in by.args) (exc ∷ []) [])))
      (new_in (variables_in by.args) (exc ∷ []) [] (typed l names) (λ u h. swapped u (taken.own u h)) (none_in (typed l names)))
    where
      swapped : (u : ℕ) → among u (exc ∷ typed l names) ≡ true → among u (typed l names ++ exc ∷ []) ≡ true
      swapped u h = on (exc == u) refl h
        where
          on : (b : Bool) → (exc == u) ≡ b → (b || among u (typed l names)) ≡ true → among u (typed l names ++ exc ∷ []) ≡ true
          on true k m = right_in u (typed l names) (exc ∷ []) (ap (λ b. b || false) k)
          on false k m = left_in u (typed l names) (exc ∷ []) m

  enough_needed : pieces_ready.IsEnough needed base (variables_in last.args)
  enough_needed ops set reads first further = live_in ops (passed_by by exc) last.args set reads further first

  abbrev link_passes : Passes l None without.args [] w (arguments_of l None without.args 0 (inputs_at l without.to) ([], w))
  link_passes = passes_in l None without.args 0 (inputs_at l without.to) [] w

  conversions_read : conversions ≡ link_passes.ops
  unfolding link_of
  conversions_read = cancel w.body.ops conversions link_passes.ops (sym conversions_are ∙ link_passes.written)

  args_are : last.args ≡ link_passes.ys
  unfolding link_of
  args_are = link_passes.given

  at_own : (args vs : List ℕ) (a : ℕ) → AllAmong args vs → among a args ≡ true → among a vs ≡ true
  at_own [] vs a own h = absurd (cc)
  at_own (b ∷ args) vs a own h = on (λ k. at_own args vs a own.1 k) (b == a) refl h
    where
      on : (among a args ≡ true → among a vs ≡ true) → (c : Bool) → (b == a) ≡ c → (c || among a args) ≡ true → among a vs ≡ true
      on go true q k = let same : b ≡ a = sym (equal b a q) in subst (λ (n : ℕ). among n vs ≡ true) same own.0
      on go false q k = go k

  among_both : (a : ℕ) (vs us : List ℕ) → among a (vs ++ us) ≡ true → (among a vs ≡ true) ⊎ (among a us ≡ true)
  among_both a vs us h = on (among a vs) refl (sym (among_append a vs us) ∙ h)
    where
      on : (b : Bool) → among a vs ≡ b → (b || among a us) ≡ true → (among a vs ≡ true) ⊎ (among a us ≡ true)
      on true q k = inl q
      on false q k = inr k

  result_is : (a : ℕ) → among a (o.result ∷ []) ≡ true → a ≡ o.result
  result_is a h = on (o.result == a) refl h
    where
      on : (b : Bool) → (o.result == a) ≡ b → (b || false) ≡ true → a ≡ o.result
      on true q k = equal o.result a q
      on false q k = absurd (cc)

  -- what the link passes on is set behind the operations
  sources : AreAmong l None without.args (through written (typed l names))
  sources a h there = one_in a (through written (typed l names)) (on (among_both a names (o.result ∷ []) (at_own without.args (names ++ o.result ∷ []) a own h)))
    where
      on : (among a names ≡ true) ⊎ (among a (o.result ∷ []) ≡ true) → among a (through written (typed l names)) ≡ true
      on (inl k) = through_more written (typed l names) a (typed_has l names a k there)
      on (inr k) = subst (λ (n : ℕ). among n (through written (typed l names)) ≡ true) (sym (result_is a k)) (inside.sets (subst (λ (n : ℕ). type_at l n ≡ type.Void → ⊥) (result_is a k) there))

  sources_behind : AreAmong l None without.args (typed l (names ++ o.result ∷ []))
  sources_behind a h there = one_in a (typed l (names ++ o.result ∷ [])) (typed_has l (names ++ o.result ∷ []) a (at_own without.args (names ++ o.result ∷ []) a own h) there)

  base_behind : AllIn base (typed l (names ++ o.result ∷ []))
  base_behind u h = let k = typed_in l names u (base_in u h) in typed_has l (names ++ o.result ∷ []) u (left_in u names (o.result ∷ []) k.0) k.1

  reads_from : (set : List ℕ) → AreAmong l None without.args set → ReadIn conversions set × AllIn (variables_in last.args) (through conversions set)
  reads_from set among_set =
      let fine = link_passes.fine set among_set in (
        subst (λ (ops : List LlOp). ReadIn ops set) (sym conversions_read) fine.0,
        subst (λ (ops : List LlOp). AllIn (variables_in last.args) (through ops set)) (sym conversions_read) (subst (λ (xs : List COperand). AllIn (variables_in xs) (through link_passes.ops set)) (sym args_are) fine.1),
      )

  all_reads : ReadIn all (typed l names)
  all_reads = read_append written conversions (typed l names) inside.reads (reads_from (through written (typed l names)) sources).0

  further_in : AllIn (variables_in last.args) (through all (typed l names))
  further_in = subst (AllIn (variables_in last.args)) (sym (through_append written conversions (typed l names))) (reads_from (through written (typed l names)) sources).1

  fits_rest : (n : ℕ) (xs ys : List LlOp) → AllFit p n (xs ++ ys) → AllFit p n ys
  fits_rest n [] ys h = h
  fits_rest n (x ∷ xs) ys h = fits_rest n xs ys h.1

  abbrev IsPiece : List LlOp → List LlOp → LlExit → Type 0
  IsPiece ops left2 ends2 = pieces.IsCut quiet needed cut.graph.blocks exc by ops leaves left2 ends2

  enough_there : below ≤ length w.body.types
  enough_there = omega (arith, enough, longer)

  -- ---- ways

  way_of : {from to : State} {text : List ℕ} → Path p arguments from text to → Way s from text to
  way_of path = record { most = total path; leads = record { path = path; few = omega arith } }

  -- ---- where it is caught

  look_in : (env : List Bound) (v : ℕ) (x : Meant) → look env v ≡ Some x → among v (names_of env) ≡ true
  look_in [] v x h = absurd (cc)
  look_in (b ∷ env) v x h = on (λ k. look_in env v x k) (b.variable == v) h
    where
      on : (look env v ≡ Some x → among v (names_of env) ≡ true) → (c : Bool) → cond c b.value (look env v) ≡ Some x → (c || among v (names_of env)) ≡ true
      on go true k = refl
      on go false k = go k

  -- the variables of the block are as they were, where all others than that of the result are
  stand_but : {g ghost : Ghost} {env : List Bound} {vars vars2 : List Value} → Grown g ghost → names_of env ≡ names → Stand s g f env vars → ((n : ℕ) → n < below → (n ≡ o.result → ⊥) → read vars2 n ≡ read vars n) → Stand s ghost f env vars2
  stand_but {g = g} {ghost = ghost} {env = env} {vars = vars} {vars2 = vars2} grown named stand others = record {
    bound = λ v x h unclashed.
        let old = stand.bound v x h unclashed in
        subst (λ (y : Value). Holds s.around.layout s.known ghost (s.element f v) y x) (sym (others v (types.under v (types.typed g v (read vars v) x old)) (other v (look_in env v x h)))) (holds_grows grown old);
    blank = λ v a h. void_or_not (type_seen s.around.layout (s.element f v)) (λ t. Blank g t (read vars v) → Blank ghost t (read vars2 v)) (λ o. never (read vars2 v))
        (λ there o. subst (λ (y : Value). Blank ghost (type_seen s.around.layout (s.element f v)) y) (sym (others v (types.under v there) (other v a))) (blank_grows grown o)) (stand.blank v a h);
  }
    where
      other : (v : ℕ) → among v (names_of env) ≡ true → v ≡ o.result → ⊥
      other v a h = absurd (let q : false ≡ true = sym fresh ∙ ap (λ n. among n names) (sym h) ∙ ap (among v) (sym named) ∙ a in cc)

  module _ (frames : List Frame) (core : Core) (g : Ghost) (env : List Bound) (world : World) (at : IsAt s g f names env world core) where
    abbrev Catches : Value → List Value → Core → State → Type 0
    Catches = pieces.CaughtBy p arguments quiet needed cut.number cut.graph exc by leaves frames

    thrown_by : (r class : ℕ) (w2 : World) (g2 : Ghost) (from : State) → class_in w2 r ≡ class → (chosen : Option Link) → catching known.program class hands any ≡ chosen → Lands s f caught.variable chosen r env w2 g2 frames from → Thrown s f r w2 g2 frames env [] e from
    thrown_by r class w2 g2 from same None q it = Left (λ instead calls. ap (flow.caught_on graphs f r calls w2 instead env caught.variable) (ap (λ c. catching known.program c hands any) same ∙ q)) it
    thrown_by r class w2 g2 from same (Some link) q it = Handled link.to it.block _ (λ instead calls.
        ap (flow.caught_on graphs f r calls w2 instead env caught.variable) (ap (λ c. catching known.program c hands any) same ∙ q)
        ∙ ap (flow.begins f calls w2 instead (env ++ bind caught.variable (Some (Ref r)) ∷ []) link) it.is) it.begins

    catches : (r : ℕ) (w2 : World) (g2 : Ghost) (x : Value) (vars2 : List Value) (end : Core) (from : State) → IsException s g2 r x → Represents l.world.around.layout known g2 w2.heap w2.left end.blocks end.statics → w2.left ≡ end.steps → Grown g g2
        → ((n : ℕ) → n < below → (n ≡ o.result → ⊥) → read vars2 n ≡ read core.vars n) → length vars2 ≡ length core.vars → Catches x vars2 end from → Thrown s f r w2 g2 frames env [] e from
    catches r w2 g2 x vars2 end from is stands same grown others room it =
        let there : Core = record end { function = cut.number; block = it.block; at = it.at; vars = slice_set vars2 exc x } in
        let total_room = at.room in
        let fits : exc < length vars2 = omega (arith, under, room, total_room) in
        let holds : read there.vars exc ≡ x = get_or-set_same vars2 exc x Unset fits in
        let caught_at : IsCaughtAt s f names exc g2 env w2 there r is.class = record {
          at = record {
            named = at.named;
            stands = stands;
            left = same;
            variables = stand_but grown at.named at.variables (λ k h m. get_or-set_other vars2 exc k x Unset (λ q. absurd (omega (arith, h, beyond, q))) ∙ others k h m);
            runs = cut.is;
            room = length-set vars2 exc x ∙ room ∙ at.room;
          };
          home = is.home ∙ ap (λ y. Some (record { sort = InstanceOf is.class; head = y })) (sym holds);
          above = is.above;
        } in
        let reached = taken.leads frames there g2 env w2 r is.class caught_at in
        let way : Way s from [] reached.state = way_of (path_then it.comes.path (Go (it.comes.steps ∙ reached.goes) (Stay reached.state))) in
        thrown_by r is.class w2 g2 from (ap class_of (stands.instances is.class r x is.home).object) (catching known.program is.class hands any) refl
        (lands_after s f caught.variable (catching known.program is.class hands any) r env w2 g2 frames from reached.state way reached.lands)

  -- ---- behind the operation

  module _ (link : IsLink s numbers l (names ++ o.result ∷ []) without w) where
    abbrev block_passes : block.Pass l known graphs p arguments numbers below has types link.block.inputs without.args [] w (arguments_of l None without.args 0 link.block.inputs ([], w))
    block_passes = block.passes l known graphs p arguments numbers below has types (names ++ o.result ∷ []) without w enough_there graph_is blocks link

    count : length (link_of l None without w).1.body.types ≡ length w.body.types + length block_passes.new
    count = ap (λ (k : LlLink × Writing). length k.1.body.types) (block.link_is l known graphs p arguments numbers below has types (names ++ o.result ∷ []) without w enough_there graph_is blocks link)
        ∙ ap (λ (ts : List LlType). length ts) block_passes.added ∙ length-append w.body.types block_passes.new

    -- what is left of the pieces, where the operation is done, goes on by the link
    behind : (left2 : List LlOp) (ends2 : LlExit) → IsPiece conversions left2 ends2 → Does s f (names ++ o.result ∷ []) [] e left2 ends2
    behind left2 ends2 cut2 frames core g env world at answers =
        let of : core.function ≡ cut.number = function_is core.function at.runs in
        let room = at.room in
        let block_link = block.link_is l known graphs p arguments numbers below has types (names ++ o.result ∷ []) without w enough_there graph_is blocks link in
        let block_written : conversions ≡ block_passes.ops = cancel w.body.ops conversions block_passes.ops (sym conversions_are ∙ ap (λ (k : LlLink × Writing). k.1.body.ops) block_link ∙ block_passes.written) in
        let enters : length w.body.types + length block_passes.new ≤ s.size f = omega (arith, room_for, count) in
        let m = block_passes.follows [] stop [] core g env world.heap world.left at.stands at.left (omega (arith, room, enters)) at.variables
        (block.own l known graphs p arguments numbers below has types (names ++ o.result ∷ []) without w enough_there graph_is blocks link at) in
        let from : State = At conversions stop [] core in
        let alone : Path p arguments from [] (At [] stop [] m.end) = subst (λ (ops : List LlOp). Path p arguments (At ops stop [] core) [] (At [] stop [] m.end)) (append-nil block_passes.ops ∙ sym block_written) m.way.leads.path in
        let fits2 = fits_rest (s.size f) written conversions cut.fits in
        let set2 = typed l (names ++ o.result ∷ []) in
        let reads2 = reads_from set2 sources_behind in
        let ready : Ready from = operations_are_ready p arguments quiet needed cut.number cut.graph exc by leaves base (variables_in last.args) set2 conversions core the_setting told.gives enough_needed of reads2.0 (subst (λ (n : ℕ). AllFit p n conversions) (sym room) fits2) base_behind reads2.1
        (names_set l known graphs p arguments numbers below has types (names ++ o.result ∷ []) at) in
        let stands : Stands frames from (At left2 ends2 frames core) = Here conversions left2 ends2 core core.block core.at of cut2 in
        let comes = cut_ways_lead_on p arguments quiet needed cut.number cut.graph exc by leaves frames from (At left2 ends2 frames core) (At [] stop [] m.end) [] the_setting stands ready alone tt in
        let goes = pieces_go_on p arguments quiet needed cut.number cut.graph exc by leaves frames m.end comes.state the_setting comes.stands (λ l2 end2 text2 path2. ready l2 end2 text2 (path_then alone path2)) in
        let mid : Core = elsewhere goes.block goes.at m.end in
        let runs : s.known.graph f ≡ Some mid.function = at.runs ∙ ap Some (sym m.function) in
        let room_there : length mid.vars ≡ s.size f = m.room ∙ at.room in
        let jumps : jump p frames mid last ≡ Goes _ = block.jumps l known graphs p arguments numbers below has types (names ++ o.result ∷ []) without w enough_there graph_is blocks link frames env world mid m.ghost m.fine m.stands m.same room_there enters runs in
        block.goes_on l known graphs p arguments numbers below has types (names ++ o.result ∷ []) without w enough_there graph_is blocks link frames env world mid m.ghost m.fine m.stands m.same room_there enters runs m.grown
        (way_of (path_then comes.path (path_then goes.comes.path (Go (goes.comes.steps ∙ jumps) (Stay _)))))

  -- what is written for the link only adds variables
  link_longer : length w.body.types ≤ length (link_of l None without w).1.body.types
  link_longer = in_each onward
    where
      in_each : GoesOn s numbers l names o without w → length w.body.types ≤ length (link_of l None without w).1.body.types
      in_each (inl link) = (let c = count link in omega (arith, c))
      in_each (inr gives) = (let it = link_adds l None without w in let c : length (link_of l None without w).1.body.types ≡ length w.body.types + length it.new = ap (λ (ts : List LlType). length ts) it.types ∙ length-append w.body.types it.new in omega (arith, c))

  -- where the operation has given a value, what stands behind it goes on
  goes_behind : {g2 : Ghost} {x : Value} {v : Meant} → Holds s.around.layout s.known g2 (s.element f o.result) x v → (left2 : List LlOp) (ends2 : LlExit) → IsPiece conversions left2 ends2 → Does s f (names ++ o.result ∷ []) [] e left2 ends2
  goes_behind {g2 = g2} {x = x} {v = v} held left2 ends2 cut2 = in_each onward
    where
      in_each : GoesOn s numbers l names o without w → Does s f (names ++ o.result ∷ []) [] e left2 ends2
      in_each (inl link) = behind link left2 ends2 cut2
      in_each (inr gives) = absurd (gives g2 x v held)

  -- ---- at the operation

  module _ (frames : List Frame) (core : Core) (g : Ghost) (env : List Bound) (world : World) (vs : List Meant) (at : IsAt s g f names env world core) (args : values_of env o.args ≡ Some vs) where
    abbrev Rest : List LlOp → LlExit → Type 0
    Rest = Does s f (names ++ o.result ∷ []) [] e

    abbrev here : State
    here = At left ends frames core

    abbrev alone : State
    alone = At all stop [] core

    of : core.function ≡ cut.number
    of = function_is core.function at.runs

    fits_here : AllFit p (length core.vars) all
    fits_here = subst (λ (n : ℕ). AllFit p n all) (sym at.room) cut.fits

    set_here : AreSet (typed l names) core.vars
    set_here = names_set l known graphs p arguments numbers below has types names at

    ready : Ready alone
    ready = operations_are_ready p arguments quiet needed cut.number cut.graph exc by leaves base (variables_in last.args) (typed l names) all core the_setting told.gives enough_needed of all_reads fits_here base_in further_in set_here

    stands_here : Stands frames alone here
    stands_here = Here all left ends core core.block core.at of cut.cut

    abbrev Coming : State → List ℕ → Type 0
    Coming u text = pieces.ComesCut p arguments quiet needed cut.number cut.graph exc by leaves frames here text u

    comes : {u : State} {text : List ℕ} → Path p arguments alone text u → pieces.IsInside p arguments quiet needed cut.number cut.graph exc by leaves u → Coming u text
    comes {u = u} {text = text} path inside_it = cut_ways_lead_on p arguments quiet needed cut.number cut.graph exc by leaves frames alone here u text the_setting stands_here ready path inside_it

    ready_at : {u : State} {text : List ℕ} → Path p arguments alone text u → Ready u
    ready_at {text = text} path l2 end2 text2 path2 = ready l2 end2 (text ++ text2) (path_then path path2)

    new_name : among o.result (names_of env) ≡ false
    new_name = ap (among o.result) at.named ∙ fresh

    named_more : (value : Option Meant) → names_of (env ++ bind o.result value ∷ []) ≡ names ++ o.result ∷ []
    named_more value = names_more env (bind o.result value) ∙ ap (λ ns. ns ++ o.result ∷ []) at.named

    gave : (v : Meant) (w2 : World) → Gave s f o start alone conversions stop [] core g world v w2 → Came s Rest f names env o world v w2 g frames here
    gave v w2 c =
        let k = comes c.way.leads.path tt in
        let it = here_at p arguments quiet needed cut.number cut.graph exc by leaves the_setting frames k.stands conversions c.end refl in
        let kept = c.keeps in
        record {
          ops = it.left;
          exit = it.ends;
          rest = goes_behind c.holds it.left it.ends it.cut;
          text = c.text;
          end = elsewhere it.block it.at c.end;
          way = subst (λ (u : State). Way s here c.text u) it.is (way_of k.path);
          out = c.out;
          ghost = c.ghost;
          grown = c.grown;
          at = record {
            named = named_more (Some v);
            stands = c.stands;
            left = c.left;
            variables = stand_more s f start types_more o.result v c.grown new_name at.variables kept.others c.holds;
            runs = at.runs ∙ ap Some (sym kept.function_is);
            room = kept.room ∙ at.room;
          };
        }

    threw : (r : ℕ) (w2 : World) → Threw s f o start alone conversions stop [] core g r world w2 → (w2.out ≡ world.out) × Thrown s f r w2 g frames env [] e here
    threw r w2 t =
        let k = comes t.way.leads.path tt in
        let kept = t.keeps in
        let it = exceptions_are_caught p arguments quiet needed cut.number cut.graph exc by leaves frames t.x t.frame t.end k.state the_setting k.stands in (
          t.out,
          thrown_since t.grown (catches frames core g env world at r w2 t.ghost t.x t.frame.vars t.end here t.is t.stands t.left t.grown (λ n h q. kept.others n (omega (arith, h, enough)) q) kept.room
              (record { block = it.block; at = it.at; comes = record { state = it.comes.state; path = path_then k.path it.comes.path; steps = it.comes.steps } })),
        )

    raised : (r : ℕ) (w2 : World) → Raised s f o start alone conversions stop [] core g r world w2 → (w2.out ≡ world.out) × Thrown s f r w2 g frames env [] e here
    raised r w2 t =
        let is = t.is in
        let kept = t.keeps in
        let set : is_unset (read t.end.vars t.variable) ≡ false = found_set t.end.blocks t.end.statics (read t.end.vars t.variable) _ (t.stands.instances is.class r (read t.end.vars t.variable) is.home).block_is in
        let k = comes t.way.leads.path tt in
        let it = raises_are_caught p arguments quiet needed cut.number cut.graph exc by leaves frames t.variable conversions t.end k.state the_setting k.stands (ready_at t.way.leads.path) set in (
          t.out,
          thrown_since t.grown (catches frames core g env world at r w2 t.ghost (read t.end.vars t.variable) t.end.vars t.end here t.is t.stands t.left t.grown (λ n h q. kept.others n (omega (arith, h, enough)) q) kept.room
              (record { block = it.block; at = it.at; comes = record { state = it.comes.state; path = path_then k.path it.comes.path; steps = it.comes.steps } })),
        )

    -- ---- ends

    -- a run that ends so has not left the operations
    ends_inside : (outcome : Outcome) (end : Core) → ((n : ℤ) → outcome ≡ Returned n → ⊥) → (u : State) → step p arguments u ≡ Ends outcome end → pieces.IsInside p arguments quiet needed cut.number cut.graph exc by leaves u
    ends_inside outcome end other (Calling n xs below c) h = tt
    ends_inside outcome end other (At ops x below c) h = tt
    ends_inside outcome end other (Returning value (inner ∷ below) c) h = tt
    ends_inside outcome end other (Throwing value (inner ∷ below) c) h = tt
    ends_inside outcome end other (Throwing value [] c) h = absurd (cc)
    ends_inside outcome end other (Returning value [] c) h = on (word_of value) h
      where
        on : (o : Option ℤ) → goes_on (Returning value []) (st.on (λ n. Ran (Returned n) (record c { vars = [] })) o) ≡ Ends outcome end → ⊥
        on None k = absurd (cc)
        on (Some n) k = other n (cc)

    over_failed : (name : FailName) → FailedSo s f o start alone conversions stop [] core g name → Over s (Failed name) world here
    over_failed name d =
        let k = comes d.way.leads.path (ends_inside (Failed name) (core_of d.last) (λ n h. absurd (cc)) d.last d.ends) in
        let it = pieces_end p arguments quiet needed cut.number cut.graph exc by leaves frames (Failed name) (core_of d.last) d.last k.state the_setting k.stands (ready_at d.way.leads.path) d.ends in
        record { last = it.comes.state; way = way_of (path_then k.path it.comes.path); core = it.core; ends = it.comes.steps; memory = tt }

    over_lacked : Lacked s f o start alone conversions stop [] core g world → Over s Running world here
    over_lacked d =
        let k = comes d.way.leads.path (ends_inside Running (core_of d.last) (λ n h. absurd (cc)) d.last d.ends) in
        let it = pieces_end p arguments quiet needed cut.number cut.graph exc by leaves frames Running (core_of d.last) d.last k.state the_setting k.stands (ready_at d.way.leads.path) d.ends in
        record {
          last = it.comes.state;
          way = way_of (path_then k.path it.comes.path);
          core = it.core;
          ends = it.comes.steps;
          memory = (d.ghost, (d.statics, subst (λ bs. Represents s.around.layout s.known d.ghost world.heap world.left bs d.statics) (sym it.blocks) d.stands));
        }

    -- ---- calls

    entered : (callee : ℕ) (values : List Meant) (instead : Option Meant) (w2 : World) → Called s f o start alone conversions stop [] core g world callee values instead w2
        → Entered s Rest f names env o [] e callee values instead world w2 g frames here
    entered callee values instead w2 c =
        let k = comes c.way.leads.path tt in
        let it = calls_are_made p arguments quiet needed cut.number cut.graph exc by leaves frames c.number c.xs c.frame c.end k.state the_setting (told.loud callee c.number c.is) k.stands in
        record {
          number = c.number;
          is = c.is;
          params = c.params;
          takes = c.takes;
          xs = c.xs;
          frame = it.piece;
          end = elsewhere it.block it.at c.end;
          way = subst (λ (u : State). Way s here [] u) it.is (way_of k.path);
          out = c.out;
          ghost = c.ghost;
          grown = c.grown;
          stands = c.stands;
          left = c.left;
          passed = c.passed;
          waits = record { back = back it.piece it.waits it.caught; throws = throws it.piece it.waits it.caught };
        }
      where
        back : (piece : Frame) → pieces.WaitsSo p arguments quiet needed cut.number cut.graph exc by leaves c.frame piece → pieces.IsCaught exc by piece.ops piece.exit → (later : Core) (g2 : Ghost) (x : Value) (v : Meant) (w3 : World) → Grown c.ghost g2 → Represents s.around.layout s.known g2 w3.heap w3.left later.blocks later.statics → w3.left ≡ later.steps → Holds s.around.layout s.known g2 (slice_get s.around.results callee) x v
            → Came s Rest f names env o w3 (unwrap_or instead v) w3 g2 frames (Returning x (piece ∷ frames) later)
        back piece waits caught_in later g2 x v w3 grown stands left_is holds =
            let r = c.back later g2 x v w3 grown stands left_is holds in
            let kept = r.keeps in
            let from : State = Returning x (c.frame ∷ []) later in
            let ready_back : Ready from = returns_are_ready p arguments quiet needed cut.number cut.graph exc by leaves base (variables_in last.args) (typed l names) all core the_setting told.gives enough_needed of all_reads fits_here base_in further_in set_here
            c.number c.xs c.frame c.end later [] x c.way.leads.path (held_set stands holds) in
            let k = cut_ways_lead_on p arguments quiet needed cut.number cut.graph exc by leaves frames from (Returning x (piece ∷ frames) later) (At conversions stop [] r.end) [] the_setting (Within (Returning x [] later) c.frame piece waits tt (inr caught_in)) ready_back r.way.leads.path tt in
            let it = here_at p arguments quiet needed cut.number cut.graph exc by leaves the_setting frames k.stands conversions r.end refl in
            record {
              ops = it.left;
              exit = it.ends;
              rest = goes_behind r.holds it.left it.ends it.cut;
              text = [];
              end = elsewhere it.block it.at r.end;
              way = subst (λ (u : State). Way s (Returning x (piece ∷ frames) later) [] u) it.is (way_of k.path);
              out = sym (append-nil w3.out);
              ghost = r.ghost;
              grown = r.grown;
              at = record {
                named = named_more (Some (unwrap_or instead v));
                stands = r.stands;
                left = r.left;
                variables = stand_more s f start types_more o.result (unwrap_or instead v) (grown_both c.grown (grown_both grown r.grown)) new_name at.variables kept.others r.holds;
                runs = at.runs ∙ ap Some (sym kept.function_is);
                room = kept.room ∙ at.room;
              };
            }

        throws : (piece : Frame) → pieces.WaitsSo p arguments quiet needed cut.number cut.graph exc by leaves c.frame piece → pieces.IsCaught exc by piece.ops piece.exit → (later : Core) (g2 : Ghost) (x : Value) (r : ℕ) (w3 : World) → Grown c.ghost g2 → Represents s.around.layout s.known g2 w3.heap w3.left later.blocks later.statics → w3.left ≡ later.steps → IsException s g2 r x
            → Thrown s f r w3 g2 frames env [] e (Throwing x (piece ∷ frames) later)
        throws piece waits caught_in later g2 x r w3 grown stands left_is is =
            let kept = c.keeps in
            catches frames core g env world at r w3 g2 x c.frame.vars later (Throwing x (piece ∷ frames) later) is stands left_is (grown_both c.grown grown) (λ n h q. kept.others n (omega (arith, h, enough)) q) kept.room
            (exceptions_are_caught p arguments quiet needed cut.number cut.graph exc by leaves frames x c.frame later (Throwing x (piece ∷ frames) later) the_setting (Within (Throwing x [] later) c.frame piece waits tt (inr caught_in)))

    follows_so : (answer : Answer) → Acts s f o start alone conversions stop [] core g world answer → FollowsSo s Rest f names env o [] e world g frames here answer
    follows_so (Gives v w2) it = gave v w2 it
    follows_so (Throws r w2) (inl it) = threw r w2 it
    follows_so (Throws r w2) (inr it) = raised r w2 it
    follows_so (Fails name) it = over_failed name it
    follows_so Lacks it = over_lacked it
    follows_so (Enters callee values instead w2) it = entered callee values instead w2 it
    follows_so Bad it = tt

    followed : IsGood s.known.program s.made (is_keyed s f o) o.op world vs → FollowsSo s Rest f names env o [] e world g frames here (meant_op s.known.program o.covered o.op vs world)
    followed good = in_each are_read
      where
        room_there : start + new ≤ s.size f
        room_there = (let c = link_longer in omega (arith, longer, room_for, c))

        in_each : AreRead s f o.args → FollowsSo s Rest f names env o [] e world g frames here (meant_op s.known.program o.covered o.op vs world)
        in_each (inl free) = follows_so (meant_op s.known.program o.covered o.op vs world) (does_it conversions stop [] core g world vs at.stands at.left (let r = at.room in let c = room_there in omega (arith, r, c)) (operands_given s f g env core at.variables o.args vs free args) good)
        in_each (inr none) = absurd (none_given s f g env core at.variables o.args vs none args)

pub caught_operations_are_followed : CaughtOperationsAreFollowed
caught_operations_are_followed l known graphs p arguments numbers quiet below start new names o caught hands any without w written conversions by left ends has types graph_is blocks told enough longer does_it are_read fresh inside own onward conversions_are room_for beyond under taken cut frames core g env world vs at args good =
    followed l known graphs p arguments numbers quiet below start new names o caught hands any without w written conversions by left ends has types graph_is blocks told enough longer does_it are_read fresh inside own onward conversions_are room_for beyond under taken cut frames core g env world vs at args good
